-- What the check of a galley answers (document 01, "Numbers given back").
use Rattle.std.specs.Prelude.{ℕ, ◌+◌, cond, List, ltb, length}
use Rattle.octets.specs.Answer.{Outcome, accepted, refused, galley_too_long, galley_malformed}
use Rattle.galley_file.specs.declared.form.Form.{Form}
use Rattle.galley_file.specs.Form.{max_galley}
use Rattle.galley_file.specs.Item.{characters_of}
use Rattle.galley_file.specs.Galley.{Reading, whole, malformed, read_galley}

-- a run read after n characters: accepted with the number of all characters, or 41
abbrev pub count_outcome : ℕ → Reading → Outcome
count_outcome n (whole is) = accepted (n + length (characters_of is))
count_outcome n (malformed p) = refused galley_malformed p

-- the check of a form: 40, then 41
unfoldable pub check_outcome : Form → List ℕ → Outcome
check_outcome f g = cond (ltb (max_galley f) (length g)) (refused galley_too_long 0) (count_outcome 0 (read_galley f g))
