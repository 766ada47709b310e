-- `dvi_galley::item::character_of` meets its contract: the places first, then what is valid there.
-- Assumes nothing.
use mathlib.Core.Path.{◌≡◌, ap, ◌∙◌}
use mathlib.Core.Option.{Option, none, some}
use lib.IntN.{ℤ}
use Rattle.integers.specs.Bits.{plain}
use Rattle.dvi_galley.specs.Target.{x_of_target, height_of_target}
use Rattle.dvi_galley.specs.Back.{placed_item, character_shown}
use Rattle.dvi_galley.specs.Taken.{taken_of}
use Rattle.dvi_galley.proofs.item.character_of.Goals as goal

pub valid_at-requires : goal.valid_at-requires
valid_at-requires c = c.in_ok-h.ensures.1

pub returns-in_err-u : goal.returns-in_err-u
unfolding character_shown
returns-in_err-u c =
    ap taken_of c.from_residual.ensures ∙ ap (λ (o : Option ℤ). placed_item (character_shown o (height_of_target c.args.y.0) c.args.font c.args.ch)) c.in_err-u.ensures

pub returns-in_err-h : goal.returns-in_err-h
unfolding character_shown
returns-in_err-h c =
    let x : some c.in_ok-u.u.0 ≡ x_of_target c.args.x.0 = c.in_ok-u.ensures in
    let y : none ≡ height_of_target c.args.y.0 = c.in_err-h.ensures.0 in
    ap taken_of c.from_residual-in_err-h.ensures ∙ (λ k. placed_item (character_shown (x k) (y k) c.args.font c.args.ch))

pub returns : goal.returns
returns c =
    let x : some c.in_ok-u.u.0 ≡ x_of_target c.args.x.0 = c.in_ok-u.ensures in
    let y : some c.in_ok-h.h.0 ≡ height_of_target c.args.y.0 = c.in_ok-h.ensures.0 in
    rw (plain c.ranges.font) at c.valid_at.ensures ∙ (λ k. placed_item (character_shown (x k) (y k) c.args.font c.args.ch))
