-- `xgp_step::fields::show_set` meets its contract: the page's field, if it is due, and the character's.
-- Assumes nothing.
use mathlib.Core.List.{[], ◌∷◌}
use native.Mathlib.Omega.{arith}
use lib.IntN.{pos}
use Rattle.sheet.specs.Sheet.{char_mark}
use Rattle.xgp.specs.State.{page_marks, set_marks}
use Rattle.xgp_step.proofs.Puts.{put_then}
use Rattle.xgp_step.proofs.fields.show_set.Goals as goal

pub show_first-next-requires : goal.show_first-next-requires
show_first-next-requires c =
    (omega (arith, c.requires.0), (c.requires.1.0, λ w. omega (arith, c.requires.1.1 w)))

pub show_char-requires : goal.show_char-requires
show_char-requires c =
    let p = c.show_first-next in
    (omega (arith, c.requires.0, p.ensures.place), λ w. omega (arith, c.requires.1.1 w, p.ensures.place, p.auto.out))

pub returns : goal.returns
unfolding set_marks
returns c =
    let a = c.args in
    put_then (page_marks a.s) (char_mark a.s.x.0 a.y.0 (pos a.s.font) a.c ∷ []) c.show_first-next.ensures c.show_char.ensures
