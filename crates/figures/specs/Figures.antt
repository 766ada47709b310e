-- A tape's figures (document 02, "The cabinet in numbers").
--     Move                     a code that moves the machine, and the state before it
--     moves                    those of a run over some bytes, from a state
--     total                    the sum of a number of each move
--     lead_in                   how far a code leads
--     forward_of, backward_of    the forward and the backward lead of a move
--     in_font                   how many of the characters have a font number
--     Figures                  what a tape gives: its number, its characters, its lead
--     figures_of                those of a tape, read as with room enough
--     sum64                    a sum in 64 bits
use Rattle.std.specs.Prelude.{ℕ, ◌+◌, ◌%◌, ◌^◌, cond, List, [], ◌∷◌, ◌==◌, Result as ResultOf, Ok, Err}
use Rattle.octets.specs.declared.refusal.Reason.{Reason}
use Rattle.octets.specs.Answer.{Result, refusal, written}
use Rattle.galley_file.specs.declared.form.Form.TheVariants.{New}
use Rattle.galley_file.specs.declared.character.Character.{Character}
use Rattle.galley_file.specs.Form.{max_galley}
use Rattle.galley_file.specs.Item.{characters_of}
use Rattle.galley_file.specs.Galley.{items_of}
use Rattle.typesetter.specs.declared.code.Machine.{Machine}
use Rattle.typesetter.specs.declared.code.Instruction.{Instruction}
use Rattle.typesetter.specs.declared.code.Instruction.TheVariants.{Flash, Rail, Mag, Half, EscapeWay, LeadWay, Tilt, Size, Stop, Cut, Lead, Escape}
use Rattle.typesetter.specs.declared.code.Code.{Code}
use Rattle.typesetter.specs.declared.code.Code.TheVariants.{Ignored, Illegal, Initialize, Instructs}
use Rattle.typesetter.specs.declared.machine.State.{State}
use Rattle.typesetter.specs.declared.machine.Effect.TheVariants.{Moved, Flashed, PageEnded}
use Rattle.typesetter.specs.Code.{machine_of, code_of}
use Rattle.typesetter.specs.Machine.{start, byte_effect}
use Rattle.tape.specs.Tape.{tape_result}

-- ---- the moves of a run

pub record Move : Type 0 where
  pub state : State
  pub code : Code

abbrev pub taken : State → ℕ → Move
taken s b = record { state = s; code = code_of s.machine b }

-- every code that is taken, flashes and cuts apart, up to the first refusal
unfoldable pub moves : State → List ℕ → List Move
moves s [] = []
moves s (b ∷ bs) =
    elim (byte_effect s b) [
      | Ok (Moved t) ↦ taken s b ∷ moves t bs
      | Ok (Flashed c) ↦ moves s bs
      | Ok (PageEnded t) ↦ moves t bs
      | Err r ↦ []
    ]

unfoldable pub total : (Move → ℕ) → List Move → ℕ
total f [] = 0
total f (x ∷ xs) = f x + total f xs

-- ---- lead

abbrev pub instruction_lead : Instruction → ℕ
instruction_lead (Flash v) = 0
instruction_lead (Rail up) = 0
instruction_lead (Mag up) = 0
instruction_lead (Half up) = 0
instruction_lead (EscapeWay back) = 0
instruction_lead (LeadWay back) = 0
instruction_lead (Tilt down) = 0
instruction_lead (Size index) = 0
instruction_lead Stop = 0
instruction_lead Cut = 0
instruction_lead (Lead n) = n
instruction_lead (Escape n) = 0

abbrev pub lead_in : Code → ℕ
lead_in Ignored = 0
lead_in Illegal = 0
lead_in Initialize = 0
lead_in (Instructs o) = instruction_lead o

-- by the direction in force
abbrev pub forward_of : Move → ℕ
forward_of x = cond x.state.modes.lead_back 0 (lead_in x.code)

abbrev pub backward_of : Move → ℕ
backward_of x = cond x.state.modes.lead_back (lead_in x.code) 0

-- ---- characters

unfoldable pub in_font : ℕ → List Character → ℕ
in_font n [] = 0
in_font n (c ∷ cs) = cond (c.font == n) 1 0 + in_font n cs

-- ---- a tape's figures

pub record Figures : Type 0 where
  pub number : ℕ  -- of its answer: 0 accepted, else the refusal's
  pub characters : List Character
  pub forward : ℕ
  pub backward : ℕ

-- of a refused tape only the number counts
abbrev pub refused_with : ℕ → Figures
refused_with n = record { number = n; characters = []; forward = 0; backward = 0 }

abbrev pub accepted_with : List Character → List Move → Figures
accepted_with cs xs = record { number = 0; characters = cs; forward = total forward_of xs; backward = total backward_of xs }

-- the moves of a tape on a machine; without a machine there are none
abbrev pub moves_on : ResultOf Machine Reason → List ℕ → List Move
moves_on (Err reason) tape = []
moves_on (Ok kind) tape = moves (start kind) tape

abbrev pub figures_by : ResultOf Machine Reason → List ℕ → Result → Figures
figures_by kind tape (refusal n place) = refused_with n
figures_by kind tape (written g) = accepted_with (characters_of (items_of New g)) (moves_on kind tape)

-- "read as with room enough": no galley is longer than this
unfoldable pub figures_of : List ℕ → ℕ → Figures
figures_of tape machine = figures_by (machine_of machine) tape (tape_result tape machine (max_galley New))

-- ---- sums

-- counts are summed in 64 bits: no report of 65,536 tapes comes near that (`report/specs/SumsLaws`: `kept_is`)
abbrev pub sum64 : ℕ → ℕ → ℕ
sum64 x n = (x + n) % 2 ^ 64
