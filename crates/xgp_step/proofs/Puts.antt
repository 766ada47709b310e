-- The fields of some marks, written or only counted.
-- Assumes nothing.
use mathlib.Core.Path.{◌≡◌, sym, ap, ◌∙◌}
use mathlib.Core.Bool.{Bool, true, false}
use mathlib.Core.List.{List, [], ◌∷◌, ◌++◌}
use Prim.Native.Nat.{ℕ, ◌+◌}
use lib.IntN.{ℤ, pos}
use lib.ListN.{length, length-append}
use Rattle.octets.specs.Write as O
use Rattle.octets.specs.Write.{Put, put_named}
use Rattle.sheet.specs.Sheet.{Mark, page_mark, char_mark, mark_field, mark_fields}
use Rattle.sheet.specs.SheetLaws.{length_mark_field, one_field, mark_fields_append}
use Rattle.xgp.specs.State.{page_marks, set_marks}
use Rattle.xgp.specs.declared.state.State.{State}

-- nothing
pub put_none : (w : Bool) (before : List ℕ) (to : ℕ) → Put w before to (mark_fields []) before to
unfolding mark_fields
put_none w before to = O.put_none w before to

-- one field
pub put_one : {w : Bool} {before : List ℕ} {to : ℕ} (m : Mark) {later : List ℕ} {next : ℕ} → Put w before to (mark_field m) later next → Put w before to (mark_fields (m ∷ [])) later next
put_one m p = put_named (one_field m) p

-- one run after another
pub put_then : {w : Bool} {before : List ℕ} {to : ℕ} (ms ns : List Mark) {out : List ℕ} {next : ℕ} {later : List ℕ} {last : ℕ}
    → Put w before to (mark_fields ms) out next → Put w out next (mark_fields ns) later last → Put w before to (mark_fields (ms ++ ns)) later last
put_then ms ns p q = put_named (sym (mark_fields_append ms ns)) (O.put_then p q)

-- ---- the page's field

length_one : (m : Mark) → length (mark_fields (m ∷ [])) ≡ length (mark_field m)
length_one m = sym (ap length (one_field m))

module _ (s : State) where
  pub page_given : s.started ≡ true → page_marks s ≡ []
  unfolding page_marks
  page_given e = rw e

  pub page_due : s.started ≡ false → page_marks s ≡ page_mark (pos s.page) ∷ []
  unfolding page_marks
  page_due e = rw e

  pub page_size : s.started ≡ false → length (mark_fields (page_marks s)) ≡ 7
  page_size e =
      ap (λ (ms : List Mark). length (mark_fields ms)) (page_due e)
      ∙ length_one (page_mark (pos s.page))
      ∙ length_mark_field (page_mark (pos s.page))

-- the bytes of a character's fields: those of the page's, and 16
pub length_set_fields : (s : State) (y : ℤ) (c : ℕ) → length (mark_fields (set_marks s y c)) ≡ length (mark_fields (page_marks s)) + 16
unfolding set_marks
length_set_fields s y c =
    let m = char_mark s.x.0 y (pos s.font) c in
    ap length (mark_fields_append (page_marks s) (m ∷ []))
    ∙ length-append (mark_fields (page_marks s)) (mark_fields (m ∷ []))
    ∙ ap (λ (n : ℕ). length (mark_fields (page_marks s)) + n) (length_one m ∙ length_mark_field m)
