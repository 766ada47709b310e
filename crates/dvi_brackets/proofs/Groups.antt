-- An item by its first byte, and a group by how its run ended.
-- Assumes nothing.
use mathlib.Core.Path.{◌≡◌, sym, ap, subst, ◌∙◌}
use mathlib.Core.Bool.{Bool, true}
use mathlib.Core.List.{List, []}
use Prim.Native.Nat.{ℕ, suc, ◌+◌, ◌-◌, ◌≤◌}
use native.Mathlib.Numerals.{add-one}
use native.Mathlib.Omega.{arith}
use borrow.Author.Tests.{eq-eqb, ne_eqb}
use lib.IntN.{ℤ}
use lib.ListN.{get_or, drop}
use Rattle.octets.specs.Answer.{stack_full, entries_left}
use Rattle.octets.specs.Write.{put_still}
use Rattle.dvi.specs.Command.{PUSH, decode}
use Rattle.dvi.specs.Page as S
use Rattle.sheet.specs.Readable.{max_file}
use Rattle.dvi_page.specs.Page.{page_of}
use Rattle.dvi_page.specs.declared.page.Page.{Page}
use Rattle.dvi_brackets.specs.Brackets as B
use Rattle.dvi_brackets.specs.Brackets.{bad_item, past_item, bad_run, to_pop, to_eop, command_item, group, item, run, item_here}
use Rattle.dvi_brackets.specs.Reading.{GoodItem, RoomyItem, ItemDone, run_marks, RoomyRun, RunDone, LeavesAt, LeftBy}
use Rattle.dvi_brackets.specs.declared.Item.{Item}
use Rattle.dvi_brackets.specs.declared.Run.{Run}
use Rattle.dvi_brackets.specs.declared.Run.TheVariants as R
use Rattle.dvi_brackets.proofs.BracketsLaws.{SoundRun}
use Rattle.dvi_brackets.proofs.Going.{item_bad, item_past}

-- ---- by the first byte

module _ (ws : List ℤ) (d at : ℕ) (p : S.Page) (s : List ℕ) where
  pub here_command : (get_or s 0 0 ≡ PUSH → ⊥) → item_here ws d at p s ≡ command_item ws at p (decode (get_or s 0 0) (drop 1 s))
  unfolding item
  here_command h = rw (ne_eqb (get_or s 0 0) PUSH h)

  module _ (e : get_or s 0 0 ≡ PUSH) where
    here_group : item_here ws d at p s ≡ group d at p (λ e. run ws e (at + 1) p 0 (drop 1 s))
    unfolding item
    here_group = rw (eq-eqb (get_or s 0 0) PUSH e)

    pub here_deep : d ≡ 0 → item_here ws d at p s ≡ bad_item stack_full at
    unfolding group
    here_deep h = here_group ∙ ap (λ (k : ℕ). group k at p (λ e. run ws e (at + 1) p 0 (drop 1 s))) h

    pub here_inner : (d ≡ 0 → ⊥) → item_here ws d at p s ≡ B.leave at p (run ws (d - 1) (at + 1) p 0 (drop 1 s))
    unfolding group
    here_inner h =
        let k : d ≡ suc (d - 1) = omega (arith, h) in
        here_group ∙ ap (λ (k : ℕ). group k at p (λ e. run ws e (at + 1) p 0 (drop 1 s))) k

-- ---- a group

-- its run has room where it has
pub leave_room : (at : ℕ) (p : S.Page) (y : B.Run) {to room : ℕ} → RoomyItem (B.leave at p y) to room → RoomyRun y to room
unfolding B.leave
leave_room at p (bad_run k i) h = absurd h.accepted
leave_room at p (to_pop q ms n) h = record { accepted = tt; enough = h.enough }
leave_room at p (to_eop ms n) h = absurd h.accepted

module _ {y : B.Run} {w : Bool} {before : List ℕ} {to count : ℕ} {later : List ℕ} where
  -- its POP lies in a file within the limit
  pub leaves_at : (at k : ℕ) (r : Run) → RunDone y w before to count r later → SoundRun 0 k y → at + 1 + k ≤ max_file → LeavesAt at r
  leaves_at at k (R.Fault j i) f h l = tt
  leaves_at at k (R.Pop o n t c) f h l = let z = subst (SoundRun 0 k) (sym f.found) h in omega (arith, z.0, l)
  leaves_at at k (R.Eop n t c) f h l = let z = subst (SoundRun 0 k) (sym f.found) h in omega (arith, z.0, l)

  pub leave_done : {x : B.Item} (at : ℕ) (o : Page) (r : Run) (i : Item) → x ≡ B.leave at (page_of o []) y → RunDone y w before to count r later → LeftBy at o r i → (w ≡ true → GoodItem x)
      → ItemDone x w before to count i later
  unfolding B.leave
  leave_done {x} at o (R.Fault k j) i e f h g =
      subst (λ (i : Item). ItemDone x w before to count i later) (sym h)
      (item_bad (e ∙ ap (B.leave at (page_of o [])) (sym f.found)) g (λ z. put_still z f.put))
  leave_done {x} at o (R.Pop q n t c) i e f h g =
      subst (λ (i : Item). ItemDone x w before to count i later) (sym h.1.1)
      (item_past
      (e ∙ ap (B.leave at (page_of o [])) (sym f.found) ∙ (λ z. past_item (sym h.1.0 z) (run_marks y) (sym (add-one n) z)))
      f.put f.counted)
  leave_done {x} at o (R.Eop n t c) i e f h g =
      subst (λ (i : Item). ItemDone x w before to count i later) (sym h)
      (item_bad (e ∙ ap (B.leave at (page_of o [])) (sym f.found) ∙ ap (λ (k : ℕ). bad_item entries_left (k + n)) (sym (add-one at))) g (λ z. put_still z f.put))
