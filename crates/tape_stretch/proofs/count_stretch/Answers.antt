-- `tape_stretch::count_stretch` meets its contract. Each turn is one code more.
-- Assumes nothing.
use mathlib.Core.Path.{sym, subst}
use Prim.Native.Nat.{ℕ, ◌+◌, ◌≤◌}
use native.Mathlib.Omega.{arith}
use lib.ListN.{get_or}
use Rattle.tape_stretch.specs.declared.Stretch.{Stretch}
use Rattle.tape_stretch.specs.Stretch.{stretch_at, Strides, stands}
use Rattle.tape_stretch.proofs.Stretches.{one_at_most, strides_more}
use Rattle.tape_stretch.proofs.count_stretch.Goals as goal

pub loop-r-init : goal.loop-r-init
loop-r-init c =
    let a = c.args in
    subst (λ (r : Stretch). Strides a.tape.now a.s a.d.font (stretch_at a.s a.from a.before) r × (r.count ≤ r.next)) (sym c.at-r.ensures)
    (stands, c.requires.1)

pub overflow_add-r : goal.overflow_add-r
overflow_add-r c =
    let f = c.flashes_in in
    let l = c.loop-r in
    omega (arith, f.ensures, one_at_most (get_or c.args.tape.now l.r.next 0), l.invariant.1, c.loop-r-test.true, c.well_formed)

pub loop-r-preserved : goal.loop-r-preserved
loop-r-preserved c =
    let a = c.args in
    let l = c.loop-r in
    let r = l.r in
    let code = get_or a.tape.now r.next 0 in
    let test = c.loop-r-test.true in
    let takes = c.takes.ensures c.if-not-takes.false in
    let n = c.flashes_in in
    let more = strides_more a.tape.now a.s a.d c.requires.0.1 (stretch_at a.s a.from a.before) r l.invariant.0 test takes c.in-Some.carriage (cc (c.escape.ensures, c.escape_by.ensures, c.in-Some.is)) in (
      subst (λ (m : ℕ). Strides a.tape.now a.s a.d.font (stretch_at a.s a.from a.before) (record { next = r.next + 1; carriage = c.in-Some.carriage; count = r.count + m })) (sym n.ensures) more,
      omega (arith, n.ensures, one_at_most code, l.invariant.1),
    )
