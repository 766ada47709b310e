-- A stretch of ordinary characters: each is one mark, and x alone changes.
-- Assumes nothing.
use mathlib.Core.Path.{◌≡◌, sym, ap, ◌∙◌}
use mathlib.Core.Bool.{true}
use mathlib.Core.List.{List, [], ◌∷◌, ◌++◌}
use Prim.Native.Nat.{ℕ, ◌+◌, ◌≤◌, ◌<◌}
use native.Mathlib.Nat.{add-zero}
use native.Mathlib.Omega.{arith}
use lib.IntN.{ℤ, pos, ◌+ℤ◌}
use lib.ListN.{length, get_or, drop, length-append}
use Rattle.octets.specs.Octets.{fits32}
use Rattle.sheet.specs.Sheet.{Mark, char_mark}
use Rattle.sheet.specs.Shown.{shows_first}
use Rattle.sheet.specs.ShownLaws.{shows_first_nil, shows_first_append}
use Rattle.xgp_code.specs.Measure.{in_dots}
use Rattle.xgp.specs.State.{with_x, y_in, width_in}
use Rattle.xgp.specs.File.{go_on, step, run}
use Rattle.xgp.proofs.FileLaws.{run_next}
use Rattle.xgp.proofs.Quicks.{set_quickly}
use Rattle.xgp.specs.declared.state.State.{State}
use Rattle.xgp_step.specs.Stretch.{Ran}

module _ (ws : List ℤ) (spacing : ℕ) (file : List ℕ) (s : State) (from : ℕ) where
  pub ran_start : from ≤ length file → Ran ws spacing file s from from s.x.0 []
  unfolding with_x
  ran_start h =
      record { so_far = sym (shows_first_nil (run ws spacing from s 0 (drop from file))); within = h; long = omega arith }

  -- one character more
  pub ran_next : {at : ℕ} {x : ℤ} {ms : List Mark} (y v : ℤ) → Ran ws spacing file s from at x ms → at < length file → 14 ≤ get_or file at 0 → get_or file at 0 < 127 → s.started ≡ true
      → fits32 (y_in s) ≡ true → y ≡ y_in s → fits32 (x +ℤ width_in ws s (get_or file at 0)) ≡ true → v ≡ x +ℤ width_in ws s (get_or file at 0)
      → Ran ws spacing file s from (at + 1) v (ms ++ (char_mark x y (pos s.font) (get_or file at 0) ∷ []))
  unfolding with_x y_in width_in
  ran_next {at} {x} {ms} y v r h l g begun e p f q =
      let b = get_or file at 0 in
      let m = char_mark x y (pos s.font) b in
      let one : step ws spacing (with_x s (in_dots x)) b (drop (at + 1) file) ≡ go_on (with_x s (in_dots v)) (m ∷ []) 0 = set_quickly ws (with_x s (in_dots x)) b l g begun y v e p f q spacing (drop (at + 1) file) in
      record {
        so_far =
            r.so_far
            ∙ ap (shows_first ms)
            (run_next ws spacing file at (with_x s (in_dots x)) (with_x s (in_dots v)) (m ∷ []) 0 h one (omega arith)
            ∙ ap (λ (n : ℕ). shows_first (m ∷ []) (run ws spacing n (with_x s (in_dots v)) 0 (drop n file))) (add-zero (at + 1)))
            ∙ shows_first_append ms (m ∷ []) (run ws spacing (at + 1) (with_x s (in_dots v)) 0 (drop (at + 1) file));
        within = omega arith;
        long = omega (arith, r.long, length-append ms (m ∷ []));
      }
