-- The bracket reading is the stack reading, for every file.
--     between_begins   between pages only BOP goes on
--     pages_agree      the rest of a file from between two pages
--     agreement        a file
-- Assumes nothing.
use Rattle.std.specs.Prelude.{◌≡◌, ◌&&◌, leb, eqb, ℤ, pos, negsuc, length}
use Rattle.std.proofs.Math.Path.{refl, sym, ap}
use Rattle.std.proofs.Common.{◌∙◌, arith}
use mathlib.Core.List.{List, [], ◌∷◌}
use Prim.Native.Nat.{ℕ, zero, suc, ◌+◌}
use Rattle.std.specs.Int.Signed.{non_neg}
use Rattle.integers.specs.Equality.{eq_z}
use Rattle.octets.specs.Octets.{signed_at}
use Rattle.octets.specs.OctetsLaws.{by_cond}
use Rattle.octets.specs.Answer.{stack_empty}
use Rattle.dvi.specs.Command.{BOP, PST}
use Rattle.dvi.specs.Page.{max_stack, Numbers, Page, new_page}
use Rattle.dvi.specs.Postamble.{postamble}
use Rattle.dvi.specs.File as F
use Rattle.sheet.specs.Shown.{refused_at, shows_first}
use Rattle.dvi.specs.File.{State, between, inside, Step, refuse, go_on, finish, begin_page, end_file, step, follow, marks_alone, read_as, read_dvi}
use Rattle.dvi_brackets.specs.Brackets.{Run, bad_run, to_pop, to_eop, run, page_then, step_then, pages, read_brackets}
use Rattle.dvi_brackets.proofs.RunAgreement.{resume, run_agrees}

-- between pages only BOP goes on, to a new page, past 8 bytes, and shows one mark
abbrev pub Begins : ℕ → Step → Type 0
Begins at (refuse k) = Unit {0}
Begins at (go_on q ms n) = (q ≡ inside (pos at) new_page) × ((n ≡ 8) × (length ms ≡ 1))
Begins at finish = Unit {0}

pub between_begins : (ws : List ℤ) (at : ℕ) (last : ℤ) (b : ℕ) (bs : List ℕ) → Begins at (step ws at (between last) b bs)
unfolding step begin_page end_file
between_begins ws at last b bs =
    by_cond (Begins at) (eqb b BOP) _ _
    (λ _. by_cond (Begins at) (leb 8 (length bs)) _ _ (λ _. by_cond (Begins at) (eq_z (signed_at 4 4 bs) last) _ _ (λ _. (refl, (refl, refl))) (λ _. tt)) (λ _. tt))
    (λ _. by_cond (Begins at) (eqb b PST && non_neg last) _ _ (λ _. by_cond (Begins at) (postamble last at bs) _ _ (λ _. tt) (λ _. tt)) (λ _. tt))

-- the entries on the stack
abbrev entries_of : State → List Numbers
entries_of (between last) = []
entries_of (inside last p) = p.stack

new_stack : (at : ℕ) {last : ℤ} {p : Page} → inside last p ≡ inside (pos at) new_page → p.stack ≡ []
unfolding new_page
new_stack at e = ap entries_of e

module _ (ws : List ℤ) where
  module _ (at : ℕ) (bs : List ℕ) (ih : (last : ℤ) (n : ℕ) → pages ws (suc at) last n bs ≡ F.run ws (suc at) (between last) n bs) where
    page_agrees : (last : ℤ) (n : ℕ) (r : Run) → page_then (suc at + n) r (λ k. pages ws (suc at) last (n + k) bs) ≡ resume ws last [] (suc at) n bs r
    unfolding page_then shows_first
    page_agrees last n (bad_run k i) = refl
    page_agrees last n (to_pop q ms m) = ap (refused_at stack_empty) (omega arith)
    page_agrees last n (to_eop ms m) = ap (shows_first ms) (ih last (n + suc m) ∙ ap (λ (k : ℕ). F.run ws (suc at) (between last) k bs) (omega arith))

    step_agrees : (k : Step) → Begins at k → step_then at k (λ p n. run ws max_stack (suc at) p n bs) (λ l n. pages ws (suc at) l n bs) ≡ follow marks_alone at k (λ r n. F.run ws (suc at) r n bs)
    unfolding step_then follow
    step_agrees (refuse k) h = refl
    step_agrees (go_on (between last) ms n) h = ap (shows_first ms) (ih last n)
    step_agrees (go_on (inside last p) ms n) h =
        let s : p.stack ≡ [] = new_stack at h.0 in
        ap (shows_first ms)
        (page_agrees last n (run ws max_stack (suc at) p n bs)
        ∙ sym (run_agrees ws last bs max_stack (suc at) p n [] s refl)
        ∙ (λ i. F.run ws (suc at) (inside last (record { numbers = p.numbers; font = p.font; stack = sym s i })) n bs))
    step_agrees finish h = refl

  pub pages_agree : (bs : List ℕ) (at : ℕ) (last : ℤ) (n : ℕ) → pages ws at last n bs ≡ F.run ws at (between last) n bs
  unfolding pages F.run_as
  pages_agree [] at last n = refl
  pages_agree (b ∷ bs) at last (suc n) = pages_agree bs (suc at) last n
  pages_agree (b ∷ bs) at last zero = step_agrees at bs (λ l n. pages_agree bs (suc at) l n) (step ws at (between last) b bs) (between_begins ws at last b bs)

  -- every file, badly bracketed ones included
  pub agreement : (dvi : List ℕ) → read_brackets ws dvi ≡ read_dvi ws dvi
  unfolding read_brackets read_as
  agreement dvi = pages_agree dvi 0 (negsuc 0) 0
