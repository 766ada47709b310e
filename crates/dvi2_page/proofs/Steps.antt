-- The steps that no command of its own takes: eop, a byte that begins no command of a page, and all but eop after the last item.
-- Assumes nothing.
use mathlib.Core.Path.{◌≡◌, sym}
use mathlib.Core.Bool.{true, false}
use mathlib.Core.List.{List}
use Prim.Native.Nat.{ℕ, ◌+◌, ◌≤◌, ◌<◌}
use native.Mathlib.Omega.{arith}
use borrow.Author.Tests.{le-ltb}
use lib.ListN.{length, get_or, drop}
use Rattle.galley_file.specs.declared.item.Item.{Item}
use Rattle.galley_file.specs.Galley.{max_items}
use Rattle.dvi2_reading.specs.PageReading as Page
use Rattle.dvi2_reading.specs.PageReading.{PageCommand, ending, defining, selecting, across, downward, putting, is_ready}
use Rattle.dvi2_reading.specs.Reading.{step, in_page, between, refuse, go}
use Rattle.dvi2_state.specs.declared.page_state.PageState.{PageState}
use Rattle.dvi2_state.specs.Page.{stage_of, page_state_of}
use Rattle.dvi2_moves.proofs.CommandKinds.{Kind}
use Rattle.dvi2_moves.proofs.Pages.{eop_go, eop_bad, full_bad, other_bad}

module _ (S : List ℕ) (at : ℕ) (h : PageState) (is : List Item) where
  abbrev H : Page.PageState
  H = page_state_of is h

  abbrev B : ℕ
  B = get_or S at 0

  abbrev P : List ℕ
  P = drop (at + 1) S

  pub s_end : B ≡ 140 → is_ready (stage_of h.stage) ≡ true → go (between is) 0 ≡ step (in_page H) B P
  s_end e r = sym (eop_go H B P e r)

  pub s_early : B ≡ 140 → is_ready (stage_of h.stage) ≡ false → refuse ≡ step (in_page H) B P
  s_early e r = sym (eop_bad H B P e r)

  pub s_full : (B ≡ 140 → ⊥) → max_items ≤ length is → refuse ≡ step (in_page H) B P
  s_full e l = sym (full_bad H B P e (le-ltb (length is) max_items l))

  -- below the moves, between them, between the moves and the fonts, after fnt1
  pub s_low : (B ≡ 140 → ⊥) → (B ≡ 133 → ⊥) → B < 143 → refuse ≡ step (in_page H) B P
  s_low e f l = sym (other_bad H B P no)
    where
      no : (d : PageCommand) → Kind d B → ⊥
      no ending q = e q
      no (defining g) q = omega arith
      no (selecting g) q = omega arith
      no (across m) q = omega arith
      no (downward m) q = omega arith
      no (putting c) q = f q

  pub s_gap : 146 < B → B < 157 → refuse ≡ step (in_page H) B P
  s_gap a b = sym (other_bad H B P no)
    where
      no : (d : PageCommand) → Kind d B → ⊥
      no ending q = omega arith
      no (defining g) q = omega arith
      no (selecting g) q = omega arith
      no (across m) q = omega arith
      no (downward m) q = omega arith
      no (putting c) q = omega arith

  pub s_middle : 161 ≤ B → B < 171 → refuse ≡ step (in_page H) B P
  s_middle a b = sym (other_bad H B P no)
    where
      no : (d : PageCommand) → Kind d B → ⊥
      no ending q = omega arith
      no (defining g) q = omega arith
      no (selecting g) q = omega arith
      no (across m) q = omega arith
      no (downward m) q = omega arith
      no (putting c) q = omega arith

  pub s_high : 235 < B → (B ≡ 243 → ⊥) → refuse ≡ step (in_page H) B P
  s_high a e = sym (other_bad H B P no)
    where
      no : (d : PageCommand) → Kind d B → ⊥
      no ending q = omega arith
      no (defining g) q = e q
      no (selecting g) q = omega arith
      no (across m) q = omega arith
      no (downward m) q = omega arith
      no (putting c) q = omega arith
