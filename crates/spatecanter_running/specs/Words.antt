-- A running tape in 23 words, which a C caller keeps between two calls.
--     word_of                 a signed 32-bit number as a word, and signed_in the number that a word holds
--     words_of                the words of a running tape
--     tape_in                 the running tape that words hold: all words hold one
--     reach_of, font_marks     extents as the numbers that a caller's arrays are given
--     Holds                  words are those of a running tape, and hold it
--     LeavesWords            what a call promises whose running tape is in words
use Rattle.std.specs.Prelude.{ℕ, ◌%◌, ◌≡◌, Bool, cond, List, [], ◌∷◌, eqb, ℤ, pos, nat_abs, ◌+ℤ◌, ◌-ℤ◌, length, get_or}
use Rattle.octets.specs.Answer.{GivesNumbers}
use Rattle.extents.specs.declared.Extents.{Extents}
use Rattle.typesetter.specs.declared.code.Machine.{Machine}
use Rattle.typesetter.specs.declared.code.Machine.TheVariants.{Four, Eight}
use Rattle.typesetter.specs.declared.machine.Modes.{Modes}
use Rattle.typesetter.specs.declared.machine.State.{State}
use Rattle.running.specs.declared.Phase.{Phase}
use Rattle.running.specs.declared.Phase.TheVariants.{AtRest, Open, Failed}
use Rattle.running.specs.declared.Running.{Running}
use Rattle.running.specs.Running.{Replied}

-- ---- one word

-- more by 2 to the power 31
unfoldable pub word_of : ℤ → ℕ
word_of z = nat_abs (z +ℤ pos 2147483648)

unfoldable pub signed_in : ℕ → ℤ
signed_in w = pos (w % 4294967296) -ℤ pos 2147483648

abbrev pub flag_word : Bool → ℕ
flag_word b = cond b 1 0

abbrev pub machine_word : Machine → ℕ
machine_word Four = 4
machine_word Eight = 8

abbrev pub machine_in : ℕ → Machine
machine_in w = cond (eqb w 4) Four Eight

abbrev pub phase_word : Phase → ℕ
phase_word AtRest = 0
phase_word Open = 1
phase_word (Failed n place) = 2

abbrev pub number_word : Phase → ℕ
number_word AtRest = 0
number_word Open = 0
number_word (Failed n place) = n

abbrev pub place_word : Phase → ℕ
place_word AtRest = 0
place_word Open = 0
place_word (Failed n place) = place

abbrev pub phase_in : ℕ → ℕ → ℕ → Phase
phase_in w n place = cond (eqb w 1) Open (cond (eqb w 2) (Failed (n % 256) place) AtRest)

-- ---- all words

unfoldable pub words_of : Running → List ℕ
words_of r =
    phase_word r.phase ∷ number_word r.phase ∷ place_word r.phase
    ∷ machine_word r.state.machine ∷ flag_word r.state.initialized ∷ flag_word r.state.parked ∷ flag_word r.state.stopped ∷ flag_word r.state.cut
    ∷ flag_word r.state.modes.escape_back ∷ flag_word r.state.modes.lead_back ∷ flag_word r.state.modes.upper_half
    ∷ flag_word r.state.modes.upper_rail ∷ flag_word r.state.modes.upper_mag ∷ flag_word r.state.modes.tilt_down
    ∷ r.state.size ∷ word_of r.state.carriage.0 ∷ word_of r.state.height.0
    ∷ r.total ∷ r.count ∷ word_of r.extents.x.0 ∷ word_of r.extents.height.0 ∷ r.extents.fonts.low ∷ r.extents.fonts.high ∷ []

abbrev pub modes_in : List ℕ → Modes
modes_in w =
    record {
      escape_back = eqb (get_or w 8 0) 1;
      lead_back = eqb (get_or w 9 0) 1;
      upper_half = eqb (get_or w 10 0) 1;
      upper_rail = eqb (get_or w 11 0) 1;
      upper_mag = eqb (get_or w 12 0) 1;
      tilt_down = eqb (get_or w 13 0) 1;
    }

abbrev pub state_in : List ℕ → State
state_in w =
    record {
      machine = machine_in (get_or w 3 0);
      initialized = eqb (get_or w 4 0) 1;
      parked = eqb (get_or w 5 0) 1;
      stopped = eqb (get_or w 6 0) 1;
      cut = eqb (get_or w 7 0) 1;
      modes = modes_in w;
      size = get_or w 14 0 % 256;
      carriage = record { 0 = signed_in (get_or w 15 0) };
      height = record { 0 = signed_in (get_or w 16 0) };
    }

abbrev pub extents_in : List ℕ → Extents
extents_in w =
    record {
      x = record { 0 = signed_in (get_or w 19 0) };
      height = record { 0 = signed_in (get_or w 20 0) };
      fonts = record { low = get_or w 21 0; high = get_or w 22 0 };
    }

unfoldable pub tape_in : List ℕ → Running
tape_in w = record { phase = phase_in (get_or w 0 0) (get_or w 1 0) (get_or w 2 0); state = state_in w; total = get_or w 17 0; count = get_or w 18 0; extents = extents_in w }

-- ---- extents as numbers

-- x and height
abbrev pub reach_of : Extents → List ℤ
reach_of e = e.x.0 ∷ e.height.0 ∷ []

-- fonts 0 to 63, and 64 to 119
abbrev pub font_marks : Extents → List ℕ
font_marks e = e.fonts.low ∷ e.fonts.high ∷ []

-- ---- what a call promises

pub record Holds (words : List ℕ) (r : Running) : Type 0 where
  pub words_are : words ≡ words_of r
  pub tape_is : tape_in words ≡ r

-- the room is the length of the lent buffer
pub record LeavesWords (given words : List ℕ) (reply : ℕ → Replied) (buffer later : List ℕ) : Type 0 where
  pub gives : GivesNumbers given (λ (room : ℕ). (reply room).result) buffer later
  pub leaves : Holds words (reply (length buffer)).tape
