-- `galley_file::item::is_cut` meets its contract.
use Rattle.galley_file.specs.Item.{is_cut}
use Rattle.galley_file.proofs.item.is_cut.Goals as goal

pub returns : goal.returns
unfolding is_cut
returns c = c.starts_field.ensures
