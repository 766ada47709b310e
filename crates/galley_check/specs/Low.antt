-- Galleys whose heights a DVI file holds (document 02, "Longer columns": 43).
--     first_high      the place of the first field of a greater height
--     low_outcome     the check with that limit
--     low_result      what such a galley is made into
use Rattle.std.specs.Prelude.{ℕ, ◌+◌, cond, List, [], ◌∷◌, ltb, length}
use Rattle.std.proofs.Math.Option.{Option, none, some}
use Rattle.octets.specs.Answer.{Outcome, accepted, refused, Result, refusal, written, galley_too_long, galley_malformed, height_too_great}
use Rattle.galley_file.specs.declared.item.Item.{Item}
use Rattle.galley_file.specs.declared.form.Form.TheVariants.{New}
use Rattle.galley_file.specs.Form.{max_galley}
use Rattle.galley_file.specs.Item.{item_size, is_low, characters_of}
use Rattle.galley_file.specs.Galley.{Reading, whole, malformed, read_galley}

-- of items whose fields, in the new form, start at the place `at`
unfoldable pub first_high : List Item → ℕ → Option ℕ
first_high [] at = none
first_high (i ∷ is) at = cond (is_low i) (first_high is (at + item_size New i)) (some at)

-- 43 at the first field of a greater height, else the number of characters
abbrev pub low_count : Option ℕ → List Item → Outcome
low_count none is = accepted (length (characters_of is))
low_count (some place) is = refused height_too_great place

-- the check: 41, then 43
abbrev pub low_check : Reading → Outcome
low_check (whole is) = low_count (first_high is 0) is
low_check (malformed place) = refused galley_malformed place

-- 40 first
unfoldable pub low_outcome : List ℕ → Outcome
low_outcome g = cond (ltb (max_galley New) (length g)) (refused galley_too_long 0) (low_check (read_galley New g))

-- 43 at the first field of a greater height, else what is made
abbrev pub or_too_great : Option ℕ → List ℕ → Result
or_too_great none bs = written bs
or_too_great (some place) bs = refusal height_too_great place

-- 41, then 43, else the bytes that are made of the items
abbrev pub low_reading : (List Item → List ℕ) → Reading → Result
low_reading make (whole is) = or_too_great (first_high is 0) (make is)
low_reading make (malformed place) = refusal galley_malformed place

-- 40 first
unfoldable pub low_result : (List Item → List ℕ) → List ℕ → Result
low_result make g = cond (ltb (max_galley New) (length g)) (refusal galley_too_long 0) (low_reading make (read_galley New g))
