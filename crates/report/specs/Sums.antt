-- The report of a list of tapes (document 02, "The cabinet in numbers").
--     Tape           a tape, and the number of fonts of its machine
--     empty          the report of no tape
--     kept           the report after each tape is counted in turn
--     entry          the sum of what the tapes add to an entry
--     report_of       the report of a list of tapes
--     sum_of          the sum of the entries at some places
--     characters_in   the characters in the galleys of accepted tapes
--     page_ends       the heights at which the pages of a run end
--     heights_in      the sum of those at which accepted tapes' pages ended
--     Sums           what the request says of a report over some tapes
use Rattle.std.specs.Prelude.{◌≡◌, ℕ, ◌+◌, Bool, true, false, cond, List, [], ◌∷◌, map, length, replicate, ℤ, pos, ◌+ℤ◌, ◌-ℤ◌, slice_index, Result as ResultOf, Ok, Err}
use Rattle.octets.specs.declared.refusal.Reason.{Reason}
use Rattle.integers.specs.Tables.{numbers}
use Rattle.octets.specs.Answer.{Result, refusal, written}
use Rattle.measure.specs.declared.Quanta.{Quanta}
use Rattle.galley_file.specs.declared.form.Form.TheVariants.{New}
use Rattle.galley_file.specs.Form.{max_galley}
use Rattle.galley_file.specs.Item.{characters_of}
use Rattle.galley_file.specs.Galley.{items_of}
use Rattle.typesetter.specs.declared.code.Machine.{Machine}
use Rattle.typesetter.specs.declared.code.Instruction.{Instruction}
use Rattle.typesetter.specs.declared.code.Instruction.TheVariants.{Flash, Rail, Mag, Half, EscapeWay, LeadWay, Tilt, Size, Stop, Cut, Lead, Escape}
use Rattle.typesetter.specs.declared.code.Code.{Code}
use Rattle.typesetter.specs.declared.code.Code.TheVariants.{Ignored, Illegal, Initialize, Instructs}
use Rattle.typesetter.specs.declared.machine.State.{State}
use Rattle.typesetter.specs.declared.machine.Effect.TheVariants.{Moved, Flashed, PageEnded}
use Rattle.typesetter.specs.Code.{machine_of, code_of}
use Rattle.typesetter.specs.Machine.{start, byte_effect}
use Rattle.tape.specs.Tape.{tape_result}
use Rattle.figures.specs.Figures.{figures_of}
use Rattle.report.specs.Report.{amount, entries, counted_in}

pub record Tape : Type 0 where
  pub bytes : List ℕ
  pub machine : ℕ

-- ---- the report

-- no tape yet
abbrev pub empty : List ℕ
empty = replicate entries 0

-- counted one by one
unfoldable pub kept : List ℕ → List Tape → List ℕ
kept report [] = report
kept report (t ∷ ts) = kept (counted_in report t.bytes t.machine) ts

unfoldable pub entry : List Tape → ℕ → ℕ
entry [] i = 0
entry (t ∷ ts) i = amount (figures_of t.bytes t.machine) i + entry ts i

unfoldable pub report_of : List Tape → List ℕ
report_of ts = map (entry ts) (numbers 0 entries)

unfoldable pub sum_of : (ℕ → ℕ) → List ℕ → ℕ
sum_of f [] = 0
sum_of f (i ∷ is) = f i + sum_of f is

-- ---- what it has to agree with

-- read as with room enough
abbrev pub result_of : Tape → Result
result_of t = tape_result t.bytes t.machine (max_galley New)

abbrev pub characters_by : Result → ℕ
characters_by (refusal n place) = 0
characters_by (written g) = length (characters_of (items_of New g))

unfoldable pub characters_in : List Tape → ℕ
characters_in [] = 0
characters_in (t ∷ ts) = characters_by (result_of t) + characters_in ts

-- stop ends a page, as a cut does
abbrev pub instruction_stops : Instruction → Bool
instruction_stops (Flash v) = false
instruction_stops (Rail up) = false
instruction_stops (Mag up) = false
instruction_stops (Half up) = false
instruction_stops (EscapeWay back) = false
instruction_stops (LeadWay back) = false
instruction_stops (Tilt down) = false
instruction_stops (Size index) = false
instruction_stops Stop = true
instruction_stops Cut = false
instruction_stops (Lead n) = false
instruction_stops (Escape n) = false

abbrev pub is_stop : Code → Bool
is_stop Ignored = false
is_stop Illegal = false
is_stop Initialize = false
is_stop (Instructs o) = instruction_stops o

-- "the heights at which pages ended, by cut or stop"
unfoldable pub page_ends : State → List ℕ → List Quanta
page_ends s [] = []
page_ends s (b ∷ bs) =
    elim (byte_effect s b) [
      | Ok (Moved t) ↦ cond (is_stop (code_of s.machine b)) (s.height ∷ page_ends t bs) (page_ends t bs)
      | Ok (Flashed c) ↦ page_ends s bs
      | Ok (PageEnded t) ↦ s.height ∷ page_ends t bs
      | Err r ↦ []
    ]

unfoldable pub sum_heights : List Quanta → ℤ
sum_heights [] = pos 0
sum_heights (h ∷ hs) = h.0 +ℤ sum_heights hs

abbrev pub ends_on : ResultOf Machine Reason → List ℕ → List Quanta
ends_on (Err reason) tape = []
ends_on (Ok kind) tape = page_ends (start kind) tape

abbrev pub ends_by : Tape → Result → List Quanta
ends_by t (refusal n place) = []
ends_by t (written g) = ends_on (machine_of t.machine) t.bytes

unfoldable pub heights_in : List Tape → ℤ
heights_in [] = pos 0
heights_in (t ∷ ts) = sum_heights (ends_by t (result_of t)) +ℤ heights_in ts

-- ---- the request, of a report over these tapes

abbrev pub at : List ℕ → ℕ → ℕ
at report i = slice_index report i

pub record Sums (ts : List Tape) (report : List ℕ) : Type 0 where
  pub tapes : at report 0 ≡ length ts
  -- accepted, and refused under 1 to 10 and 50
  pub answered : sum_of (at report) (numbers 1 12) ≡ length ts
  -- "Font counts add up to the characters in accepted galleys"
  pub fonts : sum_of (at report) (numbers 13 120) ≡ characters_in ts
  -- "Forward less backward equals the sum of the heights at which accepted tapes' pages ended, by cut or stop"
  pub leads : pos (at report 133) -ℤ pos (at report 134) ≡ heights_in ts
