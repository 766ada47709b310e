-- Where a file's characters stand, in which fonts.
--     Placed, placed     x and y of each character fit 32 bits, its font is 0 to 3, it is 0 to 127, and there is no rule
-- Assumes nothing.
use Rattle.std.specs.Prelude.{◌≡◌, refl, Bool, true, false, cond, ◌&&◌, List, [], ◌∷◌, ◌++◌, ℕ, ◌<◌, ℤ, ◌+ℤ◌}
use Rattle.std.proofs.Math.Path.{ap}
use Rattle.std.proofs.Common.{◌∙◌, arith, le-leb}
use Rattle.std.proofs.Math.IntN.{pos}
use Rattle.octets.specs.Octets.{fits32}
use Rattle.octets.specs.OctetsLaws.{by_cond}
use Rattle.octets.specs.FieldLaws.{both}
use Rattle.sheet.specs.Sheet.{Mark, page_mark, char_mark, rule_mark}
use Rattle.sheet.specs.Shown.{shows}
use Rattle.xgp_code.specs.Measure.{in_dots, in_lines}
use Rattle.xgp_code.specs.CodeLaws.{InPart}
use Rattle.xgp.specs.State.{start, with_x, with_baseline, with_adjust, with_font, next_page, after_char, moved, page_marks, set_marks, y_in, width_in, to_x, to_baseline, set_char, effect}
use Rattle.xgp.specs.File.{read_xgp}
use Rattle.xgp.proofs.RunLaws.{HoldsFrom, run_all}
use Rattle.xgp_code.specs.declared.Code.{Code}
use Rattle.xgp_code.specs.declared.Code.TheVariants.{Null, Char, LineFeed, FormFeed, Return, Font, Column, Increment, Adjust}
use Rattle.xgp_code.specs.declared.measure.Dots.{Dots}
use Rattle.xgp.specs.declared.state.State.{State}

pub record PlacedChar (x y f : ℤ) (c : ℕ) : Type 0 where
  pub x_fits : fits32 x ≡ true
  pub y_fits : fits32 y ≡ true
  pub font : ℕ
  pub font_is : f ≡ pos font
  pub of_four : font < 4
  pub seven_bits : c < 128

-- of a mark; there are no rules
abbrev pub PlacedMark : Mark → Type 0
PlacedMark (page_mark n) = Unit {0}
PlacedMark (char_mark x y f c) = PlacedChar x y f c
PlacedMark (rule_mark kind x y h w) = ⊥

abbrev pub Placed : List Mark → Type 0
Placed [] = Unit {0}
Placed (m ∷ ms) = PlacedMark m × Placed ms

placed_append : (ms ns : List Mark) → Placed ms → Placed ns → Placed (ms ++ ns)
placed_append [] ns h g = g
placed_append (m ∷ ms) ns h g = (h.0, placed_append ms ns h.1 g)

-- x fits, and the font is one of four
pub record Sound (s : State) : Type 0 where
  pub x_fits : fits32 s.x.0 ≡ true
  pub of_four : s.font < 4

abbrev PlacedFrom : State → List Mark → Type 0
PlacedFrom s ms = Sound s → Placed ms

placed_set : (s : State) (y : ℤ) (c : ℕ) → Sound s → fits32 y ≡ true → c < 128 → Placed (set_marks s y c)
unfolding set_marks page_marks
placed_set s y c h e l = go s.started
  where
    char : PlacedChar s.x.0 y (pos s.font) c
    char = record { x_fits = h.x_fits; y_fits = e; font = s.font; font_is = refl; of_four = h.of_four; seven_bits = l }

    go : (t : Bool) → Placed (cond t [] (page_mark (pos s.page) ∷ []) ++ (char_mark s.x.0 y (pos s.font) c ∷ []))
    go true = (char, tt)
    go false = (tt, (char, tt))

low_fits : (n : ℕ) → n < 16384 → fits32 (pos n) ≡ true
unfolding fits32
low_fits n h = rw (le-leb n 2147483647 (omega arith))

module _ (ws : List ℤ) (spacing : ℕ) where
  placed_x : (s : State) (z : ℤ) → HoldsFrom ws spacing PlacedFrom s (to_x s z)
  unfolding to_x with_x
  placed_x s z =
      by_cond (HoldsFrom ws spacing PlacedFrom s) (fits32 z) (moved (with_x s (in_dots z)) []) _
      (λ e. λ ks p h. p (record { x_fits = e; of_four = h.of_four }))
      (λ _. tt)

  placed_char : (s : State) (c : ℕ) (y z : ℤ) → c < 128 → HoldsFrom ws spacing PlacedFrom s (set_char s c y z)
  unfolding set_char after_char
  placed_char s c y z l =
      by_cond (HoldsFrom ws spacing PlacedFrom s) (fits32 y && fits32 z) (moved (after_char s (in_dots z)) (set_marks s y c)) _
      (λ e. λ ks p h.
      let d = both (fits32 y) (fits32 z) e in
      placed_append (set_marks s y c) ks (placed_set s y c h d.0 l) (p (record { x_fits = d.1; of_four = h.of_four })))
      (λ _. tt)

  placed_onward : (s : State) (c : Code) → InPart c → HoldsFrom ws spacing PlacedFrom s (effect ws spacing s c)
  unfolding effect to_baseline with_x with_baseline with_adjust with_font next_page
  placed_onward s Null l = λ ks p h. p h
  placed_onward s (Char c) l = placed_char s c (y_in s) (s.x.0 +ℤ width_in ws s c) l
  placed_onward s LineFeed l =
      by_cond (HoldsFrom ws spacing PlacedFrom s) (fits32 (s.baseline.0 +ℤ pos spacing)) (moved (with_baseline s (in_lines (s.baseline.0 +ℤ pos spacing))) []) _
      (λ _. λ ks p h. p (record { x_fits = h.x_fits; of_four = h.of_four }))
      (λ _. tt)
  placed_onward s FormFeed l = λ ks p h. p (record { x_fits = h.x_fits; of_four = h.of_four })
  placed_onward s Return l = λ ks p h. p (record { x_fits = low_fits 0 (omega arith); of_four = h.of_four })
  placed_onward s (Font f) l = λ ks p h. p (record { x_fits = h.x_fits; of_four = l })
  placed_onward s (Column d) l = λ ks p h. p (record { x_fits = ap (λ (e : Dots). fits32 e.0) l.1.1 ∙ low_fits l.0 l.1.0; of_four = h.of_four })
  placed_onward s (Increment d) l = placed_x s (s.x.0 +ℤ d.0)
  placed_onward s (Adjust d) l = λ ks p h. p (record { x_fits = h.x_fits; of_four = h.of_four })

pub placed : (ws : List ℤ) (spacing : ℕ) (file : List ℕ) (ms : List Mark) → read_xgp ws spacing file ≡ shows ms → Placed ms
unfolding read_xgp start fits32
placed ws spacing file ms e =
    run_all ws spacing PlacedFrom (λ s h. tt) (placed_onward ws spacing) file 0 0 (start spacing) ms e (record { x_fits = refl; of_four = omega arith })
