-- A report, and what counting a tape does to it (document 02, "The cabinet in numbers").
--     number_entry     the entry of the tapes with a number
--     amount          what a tape's figures add to each entry of the report
--     added           so much added to each entry
--     report_outcome    what a call answers
--     counted_in       the report after it
use Rattle.std.specs.Prelude.{ℕ, zero, suc, ◌+◌, ◌-◌, cond, List, [], ◌∷◌, ◌==◌, nat_lt, slice_index}
use Rattle.octets.specs.Answer.{Outcome, accepted, refused, report_full, no_machine}
use Rattle.figures.specs.Figures.{in_font, Figures, figures_of, sum64}

-- ---- the report: 135 numbers

-- 0          tapes counted
-- 1          tapes accepted
-- 2 to 11    tapes refused under 1 to 10
-- 12         tapes refused under 50
-- 13 to 132  characters of font numbers 0 to 119
-- 133, 134   forward and backward lead of accepted tapes
abbrev pub entries : ℕ
entries = 135

-- the entry of the tapes with this number
abbrev pub number_entry : ℕ → ℕ
number_entry n = cond (n == no_machine) 12 (n + 1)

unfoldable pub amount : Figures → ℕ → ℕ
amount f i =
    cond (i == 0) 1
    (cond (nat_lt i 13) (cond (i == number_entry f.number) 1 0)
    (cond (nat_lt i 133) (in_font (i - 13) f.characters)
    (cond (i == 133) f.forward f.backward)))

-- f i added to each of n entries, from entry i on
unfoldable pub added : (ℕ → ℕ) → ℕ → ℕ → List ℕ → List ℕ
added f i zero xs = xs
added f i (suc n) [] = []
added f i (suc n) (x ∷ xs) = sum64 x (f i) ∷ added f (suc i) n xs

-- ---- one call

abbrev pub max_tapes : ℕ
max_tapes = 65536

-- whatever the tape's answer, it is counted and the call returns 0; 47 at place 0, before all others, for one tape more
unfoldable pub report_outcome : List ℕ → Outcome
report_outcome report = cond (nat_lt (slice_index report 0) max_tapes) (accepted 0) (refused report_full 0)

unfoldable pub counted_in : List ℕ → List ℕ → ℕ → List ℕ
counted_in report tape machine = cond (nat_lt (slice_index report 0) max_tapes) (added (amount (figures_of tape machine)) 0 entries report) report
