-- What a galley is made into, by what the check says of it.
--     result_refused     what the check refuses is that refusal
--     result_made        an accepted galley is made into what its items give
--     result_written     where bytes are made, the galley is that of valid items, and they are made of those
-- Assumes nothing.
use Rattle.std.specs.Prelude.{◌≡◌, Bool, List, ℕ, ◌≤◌, length}
use Rattle.std.proofs.Math.Path.{refl, sym, ap}
use Rattle.std.proofs.Common.{◌∙◌, suc-ne-zero, le-ltb, ltb-false}
use Rattle.std.proofs.Math.Bool.{true, false, cond}
use Rattle.std.proofs.Math.Dec.{ltb}
use Rattle.octets.specs.Octets.{Bytes}
use Rattle.octets.specs.Answer.{accepted, refused, Result, refusal, written, galley_too_long}
use Rattle.galley_file.specs.declared.form.Form.{Form}
use Rattle.galley_file.specs.declared.item.Item.{Item}
use Rattle.galley_file.specs.Form.{greatest_height, max_galley}
use Rattle.galley_file.specs.Item.{characters_of}
use Rattle.galley_file.specs.Galley.{max_items, AllValid, galley, Reading, whole, malformed, read_galley, items_of}
use Rattle.galley_file.specs.GalleyLaws.{checked, read_as, read_accepted, accepted_is}
use Rattle.galley_file.specs.Outcome.{count_outcome, check_outcome}
use Rattle.galley_check.specs.Result.{made_of, checked_result}

module _ (form : Form) (make : List Item → Result) (g : List ℕ) where
  pub result_refused : (n place : ℕ) → refused n place ≡ check_outcome form g → checked_result form make g ≡ refusal n place
  unfolding check_outcome checked_result
  result_refused n place e = go (ltb (max_galley form) (length g)) (read_galley form g) e
    where
      go : (t : Bool) (r : Reading) → refused n place ≡ cond t (refused galley_too_long 0) (count_outcome 0 r) → cond t (refusal galley_too_long 0) (made_of make r) ≡ refusal n place
      go true r h = cc
      go false (whole is) h = absurd (suc-ne-zero 0 cc)
      go false (malformed p) h = cc

  pub result_made : (count : ℕ) → accepted count ≡ check_outcome form g → checked_result form make g ≡ make (items_of form g)
  unfolding checked_result
  result_made count e = rw (le-ltb (max_galley form) (length g) (checked form g count e).fits) (ap (made_of make) (read_as form g count e))

  -- the bytes bs are made of the galley's items
  pub record FromItems (bs : List ℕ) : Type 0 where
    pub items : List Item
    pub bytes : g ≡ galley form items
    pub valid : AllValid (greatest_height form) items
    pub few : length items ≤ max_items
    pub made : make items ≡ written bs

  pub result_written : (bs : List ℕ) → Bytes g → checked_result form make g ≡ written bs → FromItems bs
  unfolding checked_result
  result_written bs b e = go (ltb (max_galley form) (length g)) refl (read_galley form g) refl e
    where
      go : (t : Bool) → ltb (max_galley form) (length g) ≡ t → (r : Reading) → read_galley form g ≡ r → cond t (refusal galley_too_long 0) (made_of make r) ≡ written bs → FromItems bs
      go true l r q h = absurd (suc-ne-zero 0 cc)
      go false l (whole is) q h =
          let a = accepted_is form g (length (characters_of is)) b (read_accepted form g is (ltb-false _ _ l) q) in
          let s : a.items ≡ is = (let k : whole a.items ≡ whole is = sym a.read ∙ q in cc) in
          record { items = a.items; bytes = a.bytes; valid = a.valid; few = a.few; made = ap make s ∙ h }
      go false l (malformed p) q h = absurd (suc-ne-zero 0 cc)
