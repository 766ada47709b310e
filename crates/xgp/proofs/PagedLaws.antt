-- The pages that a file shows.
--     Paged, paged     page fields ascend, each stands directly before a character, and each character has one before it
-- Assumes nothing.
use Rattle.std.specs.Prelude.{◌≡◌, Bool, true, false, cond, ◌&&◌, List, [], ◌∷◌, ◌++◌, ℕ, ◌+◌, ◌≤◌, ℤ, pos, negsuc, ◌+ℤ◌}
use Rattle.std.proofs.Common.{arith}
use Rattle.octets.specs.Octets.{fits32}
use Rattle.octets.specs.OctetsLaws.{by_cond}
use Rattle.sheet.specs.Sheet.{Mark, page_mark, char_mark, rule_mark}
use Rattle.sheet.specs.Shown.{shows}
use Rattle.xgp_code.specs.CodeLaws.{InPart}
use Rattle.xgp.specs.State.{start, with_x, with_baseline, with_adjust, with_font, next_page, after_char, page_marks, set_marks, y_in, width_in, to_x, to_baseline, set_char, effect}
use Rattle.xgp.specs.File.{read_xgp}
use Rattle.xgp.proofs.FileLaws.{due}
use Rattle.xgp.proofs.RunLaws.{HoldsFrom, run_all}
use Rattle.xgp_code.specs.declared.Code.{Code}
use Rattle.xgp_code.specs.declared.Code.TheVariants.{Null, Char, LineFeed, FormFeed, Return, Font, Column, Increment, Adjust}
use Rattle.xgp.specs.declared.state.State.{State}

-- ---- "A page field stands before a page's first character, its number 1 more than the FFs before it"

-- marks from page n on, whose field was given or not
pub data Paged : ℕ → Bool → List Mark → Type 0 where
  paged_none : {n : ℕ} {given : Bool} → Paged n given []
  -- a character on a page that has its field
  paged_char : {n : ℕ} {x y f : ℤ} {c : ℕ} {ms : List Mark} → Paged n true ms → Paged n true (char_mark x y f c ∷ ms)
  -- the field of page m, which had none before, directly before a character
  paged_page : {n m : ℕ} {given : Bool} {x y f : ℤ} {c : ℕ} {ms : List Mark} → n + due given ≤ m → Paged m true ms → Paged n given (page_mark (pos m) ∷ char_mark x y f c ∷ ms)

abbrev PagedFrom : State → List Mark → Type 0
PagedFrom s ms = Paged s.page s.started ms

paged_later : (n m : ℕ) (given : Bool) (ms : List Mark) → n + due given ≤ m → Paged m false ms → Paged n given ms
paged_later n m given [] h paged_none = paged_none
paged_later n m given (page_mark (pos k) ∷ char_mark x y f c ∷ ms) h (paged_page g p) =
    let l : n + due given ≤ k = omega arith in paged_page l p
paged_later n m given (page_mark (pos k) ∷ []) h p = elim p [ ]
paged_later n m given (page_mark (pos k) ∷ (page_mark _ ∷ ms)) h p = elim p [ ]
paged_later n m given (page_mark (pos k) ∷ (rule_mark _ _ _ _ _ ∷ ms)) h p = elim p [ ]
paged_later n m given (page_mark (negsuc _) ∷ _) h p = elim p [ ]
paged_later n m given (char_mark _ _ _ _ ∷ _) h p = elim p [ ]
paged_later n m given (rule_mark _ _ _ _ _ ∷ _) h p = elim p [ ]

paged_set : (s : State) (y : ℤ) (c : ℕ) (ks : List Mark) → Paged s.page true ks → Paged s.page s.started (set_marks s y c ++ ks)
unfolding set_marks page_marks
paged_set s y c ks p = go s.started
  where
    go : (t : Bool) → Paged s.page t ((cond t [] (page_mark (pos s.page) ∷ []) ++ (char_mark s.x.0 y (pos s.font) c ∷ [])) ++ ks)
    go true = paged_char p
    go false = let l : s.page + due false ≤ s.page = omega arith in paged_page l p

paged_onward : (ws : List ℤ) (spacing : ℕ) (s : State) (c : Code) → InPart c → HoldsFrom ws spacing PagedFrom s (effect ws spacing s c)
unfolding effect to_x to_baseline set_char with_x with_baseline with_adjust with_font next_page after_char
paged_onward ws spacing s Null h = λ ks p. p
paged_onward ws spacing s (Char c) h =
    by_cond (HoldsFrom ws spacing PagedFrom s) (fits32 (y_in s) && fits32 (s.x.0 +ℤ width_in ws s c)) _ _ (λ _. λ ks p. paged_set s (y_in s) c ks p) (λ _. tt)
paged_onward ws spacing s LineFeed h =
    by_cond (HoldsFrom ws spacing PagedFrom s) (fits32 (s.baseline.0 +ℤ pos spacing)) _ _ (λ _. λ ks p. p) (λ _. tt)
paged_onward ws spacing s FormFeed h = λ ks p. paged_later s.page (s.page + 1) s.started ks (due_one s.started) p
  where
    due_one : (t : Bool) → s.page + due t ≤ s.page + 1
    due_one true = omega arith
    due_one false = omega arith
paged_onward ws spacing s Return h = λ ks p. p
paged_onward ws spacing s (Font f) h = λ ks p. p
paged_onward ws spacing s (Column d) h = λ ks p. p
paged_onward ws spacing s (Increment d) h =
    by_cond (HoldsFrom ws spacing PagedFrom s) (fits32 (s.x.0 +ℤ d.0)) _ _ (λ _. λ ks p. p) (λ _. tt)
paged_onward ws spacing s (Adjust l) h = λ ks p. p

pub paged : (ws : List ℤ) (spacing : ℕ) (file : List ℕ) (ms : List Mark) → read_xgp ws spacing file ≡ shows ms → Paged 1 false ms
unfolding read_xgp start
paged ws spacing file ms e =
    run_all ws spacing PagedFrom (λ s. paged_none) (paged_onward ws spacing) file 0 0 (start spacing) ms e
