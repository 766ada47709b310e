-- Moves, and how long the commands of a character are.
-- Assumes nothing.
use mathlib.Core.Path.{◌≡◌, sym, ap, ◌∙◌}
use mathlib.Core.Bool.{false}
use mathlib.Core.List.{[], ◌∷◌, ◌++◌}
use Prim.Native.Nat.{ℕ, ◌+◌, ◌-◌}
use native.Mathlib.Omega.{arith}
use lib.IntN.{ℤ, pos, ◌-ℤ◌}
use lib.ListN.{length, length-append}
use mir.Syntax.{w32}
use mir.Val.{SFits, to_z, of_z}
use Rattle.integers.specs.Parts.{integers, dif_parts}
use Rattle.integers.specs.Bits.{plain}
use Rattle.integers.specs.Equality.{eq_z, true_eq_z, false_eq_z}
use Rattle.octets.specs.Octets.{signed_bytes, width_of}
use Rattle.galley_file.specs.declared.character.Character.{Character}
use Rattle.dvi.specs.Command.{X4, Y4}
use Rattle.dvi.specs.Writer as W
use Rattle.dvi.specs.Writer.{x_target_of, y_target_of, font_change, shortest, move, commands_of}
use Rattle.dvi.proofs.WriterLaws.{length_move}
use Rattle.dvi_characters.specs.declared.position.Position.{Position}
use Rattle.dvi_characters.specs.Position.{position_of, OnPage, PositionAt}
use Rattle.dvi_characters.specs.PositionLaws.{x_at_lem, y_at_lem, on_page_at}

-- ---- a move

-- a test of a signed number against 0 is on its bits
module _ (m : ℤ) (f : SFits w32 m) (op : ℕ) where
  pub move_none : of_z w32 m ≡ 0 → move op m ≡ []
  unfolding move
  move_none e = rw (true_eq_z m (pos 0) (sym (plain f) ∙ ap (to_z w32) e))

  module _ (ne : of_z w32 m ≡ 0 → ⊥) where
    not_zero : eq_z m (pos 0) ≡ false
    not_zero = false_eq_z m (pos 0) (λ e. ne (ap (of_z w32) e))

    pub length_some : length (move op m) ≡ 1 + width_of m
    length_some = length_move op m ∙ rw not_zero

    -- the command, and the number in as many bytes as its width
    pub move_some : (w : ℕ) → w ≡ width_of m → ((op + (4 - w)) ∷ []) ++ signed_bytes w (to_z w32 (of_z w32 m)) ≡ move op m
    unfolding move shortest
    move_some w d = rw not_zero (λ i. (op + (4 - d i)) ∷ signed_bytes (d i) (plain f i))

-- ---- the commands of a character

module _ (p : W.Position) (c : Character) where
  pub length_parts : length (commands_of p c) ≡ length (font_change p.font c.font) + (length (move X4 (x_target_of c -ℤ p.x)) + (length (move Y4 (y_target_of c -ℤ p.y)) + 2))
  unfolding commands_of
  length_parts = simp length-append

  -- a move's length does not depend on its command
  pub length_sum : (a b d : ℕ) → a ≡ length (font_change p.font c.font) → b ≡ length (move 0 (x_target_of c -ℤ p.x)) → d ≡ length (move 0 (y_target_of c -ℤ p.y))
      → a + b + d + 2 ≡ length (commands_of p c)
  length_sum a b d e f g =
      let x = x_target_of c -ℤ p.x in
      let y = y_target_of c -ℤ p.y in
      omega (arith, length_parts, length_move 0 x, length_move X4 x, length_move 0 y, length_move Y4 y)

-- ---- the moves from a position q to the position p at a character

-- they are signed 32-bit numbers
module _ (p : Position) (c : Character) (h : PositionAt p c) (q : Position) (o : OnPage (position_of q)) where
  pub x_fits : SFits w32 (p.x.0 -ℤ q.x.0)
  unfolding position_of
  x_fits = omega (integers, (on_page_at p c h).left, (on_page_at p c h).right, o.left, o.right, dif_parts p.x.0 q.x.0)

  pub y_fits : SFits w32 (p.y.0 -ℤ q.y.0)
  unfolding position_of
  y_fits = omega (integers, (on_page_at p c h).top, (on_page_at p c h).bottom, o.top, o.bottom, dif_parts p.y.0 q.y.0)

  -- as the format has them
  pub x_move : p.x.0 -ℤ q.x.0 ≡ x_target_of c -ℤ (position_of q).x
  unfolding position_of
  x_move = ap (λ (z : ℤ). z -ℤ q.x.0) (x_at_lem p c h)

  pub y_move : p.y.0 -ℤ q.y.0 ≡ y_target_of c -ℤ (position_of q).y
  unfolding position_of
  y_move = ap (λ (z : ℤ). z -ℤ q.y.0) (y_at_lem p c h)
