-- The version as one number: 10,000 times the major one, 100 times the minor one, and the patch.
use Rattle.std.specs.Prelude.{ℕ, ◌+◌, ◌*◌}

abbrev pub numbered : ℕ → ℕ → ℕ → ℕ
numbered major minor patch = 10000 * major + 100 * minor + patch

-- this library's: 0.1.0
abbrev pub version : ℕ
version = numbered 0 1 0
