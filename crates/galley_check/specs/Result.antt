-- What an accepted galley is made into (document 01, "Numbers given back").
use Rattle.std.specs.Prelude.{ℕ, cond, List, ltb, length}
use Rattle.octets.specs.Answer.{Result, refusal, galley_too_long, galley_malformed}
use Rattle.galley_file.specs.declared.form.Form.{Form}
use Rattle.galley_file.specs.declared.item.Item.{Item}
use Rattle.galley_file.specs.Form.{max_galley}
use Rattle.galley_file.specs.Galley.{Reading, whole, malformed, read_galley}

-- what is made of the items that were read, or 41
abbrev pub made_of : (List Item → Result) → Reading → Result
made_of make (whole is) = make is
made_of make (malformed p) = refusal galley_malformed p

-- what a galley of a form is made into: 40, then 41
unfoldable pub checked_result : Form → (List Item → Result) → List ℕ → Result
checked_result f make g = cond (ltb (max_galley f) (length g)) (refusal galley_too_long 0) (made_of make (read_galley f g))
