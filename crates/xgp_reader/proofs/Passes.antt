-- The invariant of a pass: what the file shows is what was shown so far, before what the rest shows from the present state. The buffer
-- holds the fields of that (`Filled`); there are at most as many as bytes read, and one for the field of the page.
-- Assumes nothing.
use mathlib.Core.Path.{◌≡◌, sym, ap, ◌∙◌, subst}
use mathlib.Core.List.{List, [], ◌++◌, append-nil}
use Prim.Native.Nat.{ℕ, ◌+◌, ◌≤◌, ◌<◌}
use native.Mathlib.Omega.{arith}
use lib.IntN.{ℤ}
use lib.ListN.{length, get_or, drop, length-drop}
use Rattle.sheet.specs.Sheet.{Mark}
use Rattle.sheet.specs.Shown.{refused_at, shows, shows_first}
use Rattle.sheet.specs.ShownLaws.{shows_first_nil, shows_first_append}
use Rattle.xgp_code.specs.Measure.{in_dots}
use Rattle.xgp.specs.State.{start, with_x}
use Rattle.xgp.specs.File.{refuse, go_on, after_effect, run, read_xgp}
use Rattle.xgp.proofs.FileLaws.{due, Few, SoundStep, step_sound, step_here, run_next, run_refuse, run_end}
use Rattle.xgp.specs.declared.state.State.{State}
use Rattle.std.specs.Prelude.{Result, Ok, Err, Some, MatchResult, IsErrAnd}
use Rattle.std.proofs.Common.{refl, suc-ne-zero}
use Rattle.octets.specs.declared.refusal.Reason.{Reason}
use Rattle.octets.specs.declared.refusal.Refusal.{Refusal}
use Rattle.xgp.specs.Effect.{effect_of}
use Rattle.xgp.specs.declared.state.Effect.{Effect}
use Rattle.xgp.specs.declared.state.Effect.TheVariants.{Moved, Set}
use Rattle.xgp_step.specs.declared.Stepped.{Stepped}
use Rattle.xgp_step.specs.Stretch.{Ran}

pub record Standing (ws : List ℤ) (spacing : ℕ) (file : List ℕ) (s : State) (at : ℕ) (ms : List Mark) : Type 0 where
  pub so_far : read_xgp ws spacing file ≡ shows_first ms (run ws spacing at s 0 (drop at file))
  pub within : at ≤ length file
  pub pages : s.page ≤ at + 1

pub standing_start : (ws : List ℤ) (spacing : ℕ) (file : List ℕ) (s : State) → s ≡ start spacing → Standing ws spacing file s 0 []
unfolding read_xgp start
standing_start ws spacing file s e =
    record {
      so_far = ap (λ (t : State). run ws spacing 0 t 0 file) (sym e) ∙ sym (shows_first_nil (run ws spacing 0 s 0 file));
      within = omega arith;
      pages = omega (arith, ap (λ (t : State). t.page) e);
    }

module _ {ws : List ℤ} {spacing : ℕ} {file : List ℕ} {s : State} {at : ℕ} {ms : List Mark} (b : Standing ws spacing file s at ms) where
  module _ (h : at < length file) where
    stepped : (t : State) (ns : List Mark) (n : ℕ) → step_here ws spacing file at s ≡ go_on t ns n → (n ≤ length (drop (at + 1) file)) × Few s t ns
    stepped t ns n e = subst (SoundStep (length (drop (at + 1) file)) s) e (step_sound ws spacing s (get_or file at 0) (drop (at + 1) file))

    -- one code further
    pub standing_next : (t : State) (ns : List Mark) (n : ℕ) → step_here ws spacing file at s ≡ go_on t ns n → Standing ws spacing file t (at + 1 + n) (ms ++ ns)
    standing_next t ns n e =
        let d = stepped t ns n e in
        record {
          so_far =
              b.so_far
              ∙ ap (shows_first ms) (run_next ws spacing file at s t ns n h e d.0)
              ∙ shows_first_append ms ns (run ws spacing (at + 1 + n) t 0 (drop (at + 1 + n) file));
          within = omega (arith, d.0, length-drop (at + 1) file);
          pages = omega (arith, d.1.pages, b.pages);
        }

    -- with its fields
    pub standing_few : (t : State) (ns : List Mark) (n : ℕ) → step_here ws spacing file at s ≡ go_on t ns n → at + due s.started + length ns ≤ at + 1 + n + due t.started
    standing_few t ns n e = let d = stepped t ns n e in omega (arith, d.1.fields)

    pub standing_refused : (k : ℕ) → step_here ws spacing file at s ≡ refuse k → read_xgp ws spacing file ≡ refused_at k at
    unfolding shows_first
    standing_refused k e = b.so_far ∙ ap (shows_first ms) (run_refuse ws spacing file at s k h e)

  pub standing_ended : length file ≤ at → read_xgp ws spacing file ≡ shows ms
  unfolding shows_first
  standing_ended h = b.so_far ∙ ap (shows_first ms) (run_end ws spacing file at s h) ∙ ap shows (append-nil ms)

-- a file read as far as `from`, and the stretch of ordinary characters from there
module _ (ws : List ℤ) (spacing : ℕ) (file : List ℕ) (s : State) (from : ℕ) where
  pub standing_stretch : {at : ℕ} {x : ℤ} {ms ns : List Mark} → Standing ws spacing file s from ms → Ran ws spacing file s from at x ns → Standing ws spacing file (with_x s (in_dots x)) at (ms ++ ns)
  unfolding with_x
  standing_stretch {at} {x} {ms} {ns} b r =
      record {
        so_far = b.so_far ∙ ap (shows_first ms) r.so_far ∙ shows_first_append ms ns (run ws spacing at (with_x s (in_dots x)) 0 (drop at file));
        within = r.within;
        pages = omega (arith, b.pages, r.long);
      }

-- ---- a step whose refusal gets its place

-- P is what the place makes of a reason
pub stepped_off : (P : Reason → Refusal → Type 0) (r : Result Stepped Reason) (m : Result Stepped Refusal) {f : Refusal} → MatchResult r (λ (t : Stepped). m ≡ Ok t) (λ (k : Reason). IsErrAnd m (P k)) → m ≡ Err f
    → (k : Reason) × (r ≡ Err k) × P k f
stepped_off P (Ok t) m h e = absurd (suc-ne-zero 0 cc)
stepped_off P (Err k) (Ok t) h e = absurd h
stepped_off P (Err k) (Err g) {f} h e = let d : g ≡ f = cc in (k, refl, subst (P k) d h)

pub stepped_on : (P : Reason → Refusal → Type 0) (r : Result Stepped Reason) (m : Result Stepped Refusal) {t : Stepped} → MatchResult r (λ (t : Stepped). m ≡ Ok t) (λ (k : Reason). IsErrAnd m (P k)) → m ≡ Ok t → r ≡ Ok t
stepped_on P (Ok u) m {t} h e = let d : u ≡ t = cc in ap Ok d
stepped_on P (Err k) (Ok u) h e = absurd h
stepped_on P (Err k) (Err g) h e = absurd (suc-ne-zero 0 cc)

-- a step has its bytes in the file
pub stepped_within : (k n : ℕ) (s : State) (e : Effect) → SoundStep k s (after_effect n (effect_of s (Some e))) → n ≤ k
unfolding after_effect
stepped_within k n s (Moved t) h = h.0
stepped_within k n s (Set t y c) h = h.0
