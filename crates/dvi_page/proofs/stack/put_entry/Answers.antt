-- `dvi_page::stack::put_entry` meets its contract: six stores, one entry more.
-- Assumes nothing.
use mathlib.Core.Path.{◌≡◌, ◌∙◌, ap}
use mathlib.Core.List.{◌∷◌}
use native.Mathlib.Omega.{arith}
use lib.IntN.{ℤ}
use lib.ListN.{length-set}
use mir.Syntax.{w32}
use mir.Val.{to_z, of_z}
use Rattle.integers.specs.Bits.{plain}
use Rattle.dvi.specs.Page.{Numbers}
use Rattle.dvi_page.specs.Stack.{six_numbers, stack_of}
use Rattle.dvi_page.proofs.Stacks.{numbers, stored_stack}
use borrow.Author.Rules.{rules}
use Rattle.dvi_page.proofs.stack.put_entry.Goals as goal
use Rattle.dvi_page.proofs.stack.put_entry.Goals.{After-struct_told-1}

-- a number in 32 bits
abbrev held : ℤ → ℤ
held z = to_z w32 (of_z w32 z)

-- the six in 32 bits are the six
six : (c : After-struct_told-1)
    → let n = c.args.n in
    ◌≡◌ {A = Numbers}
    (record { x_at = held n.x.0; y_at = held n.y.0; amount_w = held n.wa.0; amount_x = held n.xa.0; amount_y = held n.ya.0; amount_z = held n.za.0 })
    (six_numbers n)
six c =
    let n = c.args.n in
    numbers
    (plain {w = w32} {z = n.x.0} (search rules))
    (plain {w = w32} {z = n.y.0} (search rules))
    (plain {w = w32} {z = n.wa.0} (search rules))
    (plain {w = w32} {z = n.xa.0} (search rules))
    (plain {w = w32} {z = n.ya.0} (search rules))
    (plain {w = w32} {z = n.za.0} (search rules))

pub returns : goal.returns
returns c =
    let a = c.args in
    stored_stack a.stack.now a.d (omega arith) _ _ _ _ _ _ ∙ ap (λ (n : Numbers). n ∷ stack_of a.stack.now a.d) (six (goal.at.returns c).After-struct_told-1)

pub bounds-stack-i-2 : goal.bounds-stack-i-2
bounds-stack-i-2 c = simp length-set (omega arith)

pub bounds-stack-i-3 : goal.bounds-stack-i-3
bounds-stack-i-3 c = simp length-set (omega arith)

pub bounds-stack-i-4 : goal.bounds-stack-i-4
bounds-stack-i-4 c = simp length-set (omega arith)

pub bounds-stack-i-5 : goal.bounds-stack-i-5
bounds-stack-i-5 c = simp length-set (omega arith)

pub bounds-stack-i-6 : goal.bounds-stack-i-6
bounds-stack-i-6 c = simp length-set (omega arith)

pub shape_of-stack : goal.shape_of-stack
shape_of-stack c = simp length-set
