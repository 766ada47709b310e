-- What making a checked galley of bytes answers.
--     ChecksAs      the bytes as a galley, or the check's refusal
--     ChecksLow     the same of the check with the limit of heights
use Rattle.std.specs.Prelude.{◌≡◌, List, ℕ, Result, Ok, Err}
use Rattle.octets.specs.declared.refusal.Refusal.{Refusal}
use Rattle.octets.specs.Answer.{refused, number_in}
use Rattle.galley_file.specs.declared.form.Form.TheVariants.{New}
use Rattle.galley_file.specs.Outcome.{check_outcome}
use Rattle.galley_check.specs.declared.galley.CheckedGalley.{CheckedGalley}
use Rattle.galley_check.specs.declared.galley.LowGalley.{LowGalley}
use Rattle.galley_check.specs.Low.{low_outcome}

abbrev pub ChecksAs : List ℕ → Result CheckedGalley Refusal → Type 0
ChecksAs g (Ok c) = c.bytes.now ≡ g
ChecksAs g (Err r) = refused (number_in r.reason) r.place ≡ check_outcome New g

abbrev pub ChecksLow : List ℕ → Result LowGalley Refusal → Type 0
ChecksLow g (Ok c) = c.bytes.now ≡ g
ChecksLow g (Err r) = refused (number_in r.reason) r.place ≡ low_outcome g
