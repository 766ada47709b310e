-- The six numbers as the code holds them, and the stack that lies in an array.
--     stack_size      the numbers of a full stack
--     six_numbers     the six numbers
--     entry_at        entry d of the stack in an array
--     stack_of        the stack of d entries in an array
use Rattle.std.specs.Prelude.{ℕ, zero, suc, ◌+◌, ◌*◌, List, [], ◌∷◌, ℤ, pos, get_or}
use Rattle.dvi.specs.Page as S
use Rattle.dvi_page.specs.declared.stack.Numbers.{Numbers}

abbrev pub stack_size : ℕ
stack_size = 1200

abbrev pub six_numbers : Numbers → S.Numbers
six_numbers n = record { x_at = n.x.0; y_at = n.y.0; amount_w = n.wa.0; amount_x = n.xa.0; amount_y = n.ya.0; amount_z = n.za.0 }

-- entry d stands from place 6 d on
abbrev pub entry_at : List ℤ → ℕ → S.Numbers
entry_at l d =
    record {
      x_at = get_or l (6 * d) (pos 0);
      y_at = get_or l (6 * d + 1) (pos 0);
      amount_w = get_or l (6 * d + 2) (pos 0);
      amount_x = get_or l (6 * d + 3) (pos 0);
      amount_y = get_or l (6 * d + 4) (pos 0);
      amount_z = get_or l (6 * d + 5) (pos 0);
    }

-- the stack of d entries, the last one on top
unfoldable pub stack_of : List ℤ → ℕ → List S.Numbers
stack_of l zero = []
stack_of l (suc d) = entry_at l d ∷ stack_of l d
