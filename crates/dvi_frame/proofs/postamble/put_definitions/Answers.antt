-- `dvi_frame::postamble::put_definitions` meets its contract. Written are the definitions of the marked fonts below f.
-- Assumes nothing.
use mathlib.Core.Path.{◌≡◌, sym}
use mathlib.Core.List.{flatten}
use Prim.Native.Nat.{◌<◌}
use native.Mathlib.Omega.{arith}
use Rattle.octets.specs.Write.{wrote_none, then, named, length_wrote}
use Rattle.extents.specs.FontMarks.{marked_fonts}
use Rattle.dvi_frame.proofs.Definitions.{define_more, define_room}
use Rattle.dvi_frame.proofs.postamble.put_definitions.Goals as goal

pub loop-f-init : goal.loop-f-init
unfolding marked_fonts flatten
loop-f-init c = wrote_none _ _

pub put_marked-to-requires : goal.put_marked-to-requires
put_marked-to-requires c =
    let l = c.loop-f in
    let h : l.f < 120 = omega arith in
    (omega (arith, c.requires, l.invariant.next_is, length_wrote l.invariant, define_room c.args.fonts.low c.args.fonts.high l.f h), h)

pub loop-f-preserved : goal.loop-f-preserved
loop-f-preserved c =
    let l = c.loop-f in
    named (sym (define_more _ _ l.f)) (then l.invariant c.put_marked-to.ensures)

pub returns : goal.returns
returns c = let l = c.loop-f in let e : l.f ≡ 120 = omega arith in rw e at l.invariant
