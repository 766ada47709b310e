-- `galley_file::item::put_cut` meets its contract.
use Rattle.octets.specs.Octets.{bytes}
use Rattle.octets.specs.Field.{field}
use Rattle.galley_file.specs.Item.{field_of_cut}
use Rattle.galley_file.proofs.item.put_cut.Goals as goal

pub returns : goal.returns
unfolding field_of_cut field bytes
returns c = c.put_head.ensures
