-- `dvi_step::begin_page` meets its contract: the tests are those of `begin_page`.
-- Assumes nothing.
use mathlib.Core.Path.{◌≡◌, sym, ap, ◌∙◌}
use mathlib.Core.List.{List, [], ◌∷◌}
use Prim.Native.Nat.{ℕ, ◌+◌}
use native.Mathlib.Omega.{arith}
use lib.ListN.{take, drop, length-drop}
use mir.Syntax.{w32}
use mir.Val.{of_z}
use mir.ValLaws.{to_z_pos}
use Rattle.integers.specs.Bits.{returned, same_bits}
use Rattle.octets.specs.Octets.{signed, signed_at}
use Rattle.sheet.specs.Sheet.{page_mark}
use Rattle.dvi.specs.File.{inside, go_on}
use Rattle.dvi_step.proofs.Postambles.{drop_to}
use Rattle.dvi_step.proofs.Steps.{begin_short, begin_off, begin_on}
use Rattle.dvi_step.proofs.begin_page.Goals as goal

-- the second parameter
second : (s : List ℕ) (at : ℕ) → signed_at 4 (at + 5) s ≡ signed_at 4 4 (drop (at + 1) s)
second s at = ap (λ (l : List ℕ). signed (take 4 l)) (sym (drop_to s 4 (at + 1) (at + 5) (omega arith)))

pub returns-then-dvi-at-lt-BOP_LENGTH : goal.returns-then-dvi-at-lt-BOP_LENGTH
returns-then-dvi-at-lt-BOP_LENGTH c l =
    let a = c.args in
    let k = length-drop (a.at + 1) a.dvi.now in
    begin_short a.last a.at (drop (a.at + 1) a.dvi.now) (omega arith)

pub returns-then-signed4_at-last : goal.returns-then-signed4_at-last
returns-then-signed4_at-last c l =
    let a = c.args in
    let s = a.dvi.now in
    let k = length-drop (a.at + 1) s in
    begin_off a.last a.at (drop (a.at + 1) s) (omega arith) (λ e. c.if-signed4_at-last.true (ap (of_z w32) (c.signed4_at.ensures ∙ second s a.at ∙ e)))

pub returns : goal.returns
returns c l =
    let a = c.args in
    let s = a.dvi.now in
    let k = length-drop (a.at + 1) s in
    let o = c.signed4_at in
    let n = returned w32 c.signed4_at-n.type_inv c.signed4_at-n.ensures in
    let e = sym (o.ensures ∙ second s a.at) ∙ same_bits {w = w32} (record { sfits = o.type_inv }) c.ranges.last c.if-signed4_at-last.false in
    (λ i. go_on (inside (to_z_pos w32 a.at (omega arith) i) (c.new.ensures l i)) (page_mark (n i) ∷ []) 8)
    ∙ begin_on a.last a.at (drop (a.at + 1) s) (omega arith) e
