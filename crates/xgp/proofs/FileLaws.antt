-- A file read code by code. A reader that stands at offset `at` of the file s has `drop at s` before it.
--     due                               1 on a page whose field was given
--     step_sound                        a code has its bytes in the file; fields and pages are few
--     run_next, run_refuse, run_end     what the rest shows, by the step that the code there makes
-- Assumes nothing.
use Rattle.std.specs.Prelude.{◌≡◌, refl, Bool, true, false, cond, ◌&&◌, List, [], ◌∷◌, ℕ, zero, suc, ◌+◌, ◌≤◌, ◌<◌, ℤ, pos, ◌+ℤ◌, length, get_or, drop, Result, Ok, Err}
use Rattle.std.proofs.Math.Path.{ap}
use Rattle.std.proofs.Common.{◌∙◌, add-zero, add-one, arith, drop_of_length-le, length-append, drop-drop}
use Rattle.std.proofs.Math.Seq.{drop-cons}
use Rattle.octets.specs.Octets.{fits32}
use Rattle.octets.specs.OctetsLaws.{by_cond}
use Rattle.sheet.specs.Sheet.{Mark, page_mark, char_mark}
use Rattle.sheet.specs.Shown.{refused_at, shows, shows_first}
use Rattle.xgp_code.specs.Measure.{in_dots, in_lines}
use Rattle.xgp_code.specs.Code.{decode}
use Rattle.xgp_code.specs.CodeLaws.{Held, decode_held}
use Rattle.xgp.specs.State.{with_x, with_baseline, with_adjust, with_font, next_page, after_char, Effect, fault, moved, page_marks, set_marks, y_in, width_in, to_x, to_baseline, set_char, effect}
use Rattle.xgp.specs.File.{Step, refuse, go_on, after_effect, after_code, step, follow, run}
use Rattle.xgp_code.specs.declared.Code.{Code}
use Rattle.xgp_code.specs.declared.Code.TheVariants.{Null, Char, LineFeed, FormFeed, Return, Font, Column, Increment, Adjust}
use Rattle.xgp_code.specs.declared.Decoded.{Decoded}
use Rattle.octets.specs.declared.refusal.Reason.{Reason}
use Rattle.xgp.specs.declared.state.State.{State}

-- ---- what holds of every step

-- a page has its field, or it is still to come
abbrev pub due : Bool → ℕ
due true = 1
due false = 0

pub due_most : (t : Bool) → due t ≤ 1
due_most true = omega arith
due_most false = omega arith

-- from s to t with so many fields: at most one more than before with the field that the page is due
pub record Few (s t : State) (ms : List Mark) : Type 0 where
  pub fields : length ms + due s.started ≤ 1 + due t.started
  pub pages : t.page ≤ s.page + 1

abbrev FewEffect : State → Effect → Type 0
FewEffect s (fault r) = Unit {0}
FewEffect s (moved t ms) = Few s t ms

pub length_page_marks : (s : State) → length (page_marks s) + due s.started ≡ 1
unfolding page_marks
length_page_marks s = go s.started
  where
    go : (t : Bool) → length (cond t [] (page_mark (pos s.page) ∷ [])) + due t ≡ 1
    go true = refl
    go false = refl

pub length_set_marks : (s : State) (y : ℤ) (c : ℕ) → length (set_marks s y c) + due s.started ≡ 2
unfolding set_marks
length_set_marks s y c = omega (arith, length-append (page_marks s) (char_mark s.x.0 y (pos s.font) c ∷ []), length_page_marks s)

-- a code that shows nothing and stays on its page
few_still : (s t : State) → t.started ≡ s.started → t.page ≡ s.page → Few s t []
few_still s t e f = let d = ap due e in record { fields = omega arith; pages = omega arith }

few_x : (s : State) (z : ℤ) → FewEffect s (to_x s z)
unfolding to_x with_x
few_x s z =
    by_cond (FewEffect s) (fits32 z) (moved (with_x s (in_dots z)) []) _ (λ _. few_still s (with_x s (in_dots z)) refl refl) (λ _. tt)

few_baseline : (s : State) (z : ℤ) → FewEffect s (to_baseline s z)
unfolding to_baseline with_baseline
few_baseline s z =
    by_cond (FewEffect s) (fits32 z) (moved (with_baseline s (in_lines z)) []) _ (λ _. few_still s (with_baseline s (in_lines z)) refl refl) (λ _. tt)

few_char : (s : State) (c : ℕ) (y z : ℤ) → FewEffect s (set_char s c y z)
unfolding set_char after_char
few_char s c y z =
    by_cond (FewEffect s) (fits32 y && fits32 z) (moved (after_char s (in_dots z)) (set_marks s y c)) _
    (λ _. record { fields = omega (arith, length_set_marks s y c); pages = omega arith })
    (λ _. tt)

few_effect : (ws : List ℤ) (spacing : ℕ) (s : State) (c : Code) → FewEffect s (effect ws spacing s c)
unfolding effect with_x with_adjust with_font next_page
few_effect ws spacing s Null = few_still s s refl refl
few_effect ws spacing s (Char c) = few_char s c (y_in s) (s.x.0 +ℤ width_in ws s c)
few_effect ws spacing s LineFeed = few_baseline s (s.baseline.0 +ℤ pos spacing)
few_effect ws spacing s FormFeed = record { fields = omega (arith, due_most s.started); pages = omega arith }
few_effect ws spacing s Return = few_still s (with_x s (in_dots (pos 0))) refl refl
few_effect ws spacing s (Font f) = few_still s (with_font s f) refl refl
few_effect ws spacing s (Column d) = few_still s (with_x s d) refl refl
few_effect ws spacing s (Increment d) = few_x s (s.x.0 +ℤ d.0)
few_effect ws spacing s (Adjust l) = few_still s (with_adjust s l) refl refl

-- a step over at most k bytes
abbrev pub SoundStep : ℕ → State → Step → Type 0
SoundStep k s (refuse r) = Unit {0}
SoundStep k s (go_on t ms n) = (n ≤ k) × Few s t ms

effect_sound : (k n : ℕ) (s : State) (e : Effect) → n ≤ k → FewEffect s e → SoundStep k s (after_effect n e)
unfolding after_effect
effect_sound k n s (fault r) h g = tt
effect_sound k n s (moved t ms) h g = (h, g)

code_sound : (ws : List ℤ) (spacing k : ℕ) (s : State) (d : Result Decoded Reason) → Held k d → SoundStep k s (after_code ws spacing s d)
unfolding after_code
code_sound ws spacing k s (Err r) h = tt
code_sound ws spacing k s (Ok d) h = effect_sound k d.after s (effect ws spacing s d.code) h (few_effect ws spacing s d.code)

pub step_sound : (ws : List ℤ) (spacing : ℕ) (s : State) (b : ℕ) (bs : List ℕ) → SoundStep (length bs) s (step ws spacing s b bs)
unfolding step
step_sound ws spacing s b bs = code_sound ws spacing (length bs) s (decode b bs) (decode_held b bs)

-- ---- one code

-- bytes that are passed over
pub run_pass : (ws : List ℤ) (spacing at n : ℕ) (s : State) (bs : List ℕ) → n ≤ length bs → run ws spacing at s n bs ≡ run ws spacing (at + n) s 0 (drop n bs)
unfolding run
run_pass ws spacing at zero s bs h = rw add-zero
run_pass ws spacing at (suc n) s [] h = absurd (omega arith)
run_pass ws spacing at (suc n) s (b ∷ bs) h =
    run_pass ws spacing (suc at) n s bs (omega arith) ∙ ap (λ (k : ℕ). run ws spacing k s 0 (drop n bs)) (omega arith)

module _ (ws : List ℤ) (spacing : ℕ) (file : List ℕ) (at : ℕ) (s : State) where
  -- the step that the code at `at` makes
  abbrev pub step_here : Step
  step_here = step ws spacing s (get_or file at 0) (drop (at + 1) file)

  run_here : at < length file → run ws spacing at s 0 (drop at file) ≡ follow at step_here (λ t n. run ws spacing (suc at) t n (drop (at + 1) file))
  unfolding run
  run_here h = rw (add-one, drop-cons file at 0)

  pub run_next : (t : State) (ms : List Mark) (n : ℕ) → at < length file → step_here ≡ go_on t ms n → n ≤ length (drop (at + 1) file)
      → run ws spacing at s 0 (drop at file) ≡ shows_first ms (run ws spacing (at + 1 + n) t 0 (drop (at + 1 + n) file))
  unfolding follow
  run_next t ms n h e l =
      run_here h
      ∙ ap (λ (k : Step). follow at k (λ t n. run ws spacing (suc at) t n (drop (at + 1) file))) e
      ∙ ap (shows_first ms)
      (run_pass ws spacing (suc at) n t (drop (at + 1) file) l
      ∙ ap (λ (k : ℕ). run ws spacing k t 0 (drop n (drop (at + 1) file))) (omega arith)
      ∙ ap (run ws spacing (at + 1 + n) t 0) (drop-drop n (at + 1) file))

  pub run_refuse : (k : ℕ) → at < length file → step_here ≡ refuse k → run ws spacing at s 0 (drop at file) ≡ refused_at k at
  unfolding follow
  run_refuse k h e =
      run_here h ∙ ap (λ (j : Step). follow at j (λ t n. run ws spacing (suc at) t n (drop (at + 1) file))) e

  pub run_end : length file ≤ at → run ws spacing at s 0 (drop at file) ≡ shows []
  unfolding run
  run_end h = rw (drop_of_length-le file h)
