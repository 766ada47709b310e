-- A character's x, and the targets of a place in rsu (document 01, "DVI").
--     x_of         a character's x: the carriage, less 55 in a double size
--     x_target     the whole number nearest to 32,768 x / 3
--     x_targets    the table: the targets of the 3,295 places from -55 to 3,239
--     y_target     32,768 times the height
--     Near        a number is nearest to a third of another
use Rattle.std.specs.Prelude.{Bool, true, false, List, map, ℕ, suc, ◌+◌, ◌/◌, ◌≤◌, ℤ, pos, negsuc, neg_ℤ, nat_abs, ◌-ℤ◌, ◌*ℤ◌}
use Rattle.integers.specs.Tables.{numbers}

unfoldable pub x_of : ℤ → Bool → ℤ
x_of z true = z -ℤ pos 55
x_of z false = z

-- the whole number nearest to n / 3
abbrev pub third : ℤ → ℤ
third (pos n) = pos ((n + 1) / 3)
third (negsuc n) = neg_ℤ (pos ((suc n + 1) / 3))

unfoldable pub x_target : ℤ → ℤ
x_target x = third (pos 32768 *ℤ x)

-- the place of entry k of the table, whose first is -55
abbrev pub entry_x : ℕ → ℤ
entry_x k = pos k -ℤ pos 55

unfoldable pub x_targets : List ℤ
x_targets = map (λ (k : ℕ). x_target (entry_x k)) (numbers 0 3295)

unfoldable pub y_target : ℤ → ℤ
y_target h = pos 32768 *ℤ h

-- three times t, less n, is -1, 0 or 1
abbrev pub Near : ℤ → ℤ → Type 0
Near n t = nat_abs (pos 3 *ℤ t -ℤ n) ≤ 1
