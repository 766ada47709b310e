-- What a call gives back (document 01, "Numbers given back").
--     Outcome     accepted with a length, or refused with a number and a place
--     Result      of an operation that fills a buffer: the bytes that it writes, or a refusal
--     outcome     the outcome of a result
--     buffer_after       the lent buffer after a result
--     if_room      a result for a buffer of so many bytes: room comes last
--     Gives       what an operation that fills a buffer promises: outcome and buffer are its result's
use Rattle.std.specs.Prelude.{ℕ, ◌≡◌, cond, List, [], ◌∷◌, ◌++◌, ltb, length, drop, Result as ResultOf, Ok, Err}
use Rattle.octets.specs.declared.refusal.Refusal.{Refusal}
use Rattle.octets.specs.declared.refusal.Reason.{Reason}
use Rattle.octets.specs.declared.refusal.Reason.TheVariants.{TapeTooLong, IllegalCode, NotInitialized, AfterStop, Parked, NoSize, OutOfRange, AboveHalf, NoStop, AfterCut, NoCharacter, NoGalleyRoom, NotStarted, FileTooLong, BadCommand, DviEndsEarly, WrongOffset, StackFull, StackEmpty, EntriesLeft, CannotSet, OutOf32Bits, BadPostamble, NoSheetRoom, WidthsNotWhole, GalleyTooLong, GalleyMalformed, NoDviRoom, HeightTooGreat, NoConvertedRoom, NoGalley, NotOurs, ReportFull, PunchedTooLong, NoTapeRoom, NoMachine, OutsidePart, ReservedCode, CodeCutShort, NegativeWidth}

-- ---- the numbers of the refusals

abbrev pub tape_too_long : ℕ
tape_too_long = 1

abbrev pub illegal_code : ℕ
illegal_code = 2

abbrev pub not_initialized : ℕ
not_initialized = 3

abbrev pub after_stop : ℕ
after_stop = 4

abbrev pub still_parked : ℕ
still_parked = 5

abbrev pub no_size : ℕ
no_size = 6

abbrev pub out_of_range : ℕ
out_of_range = 7

abbrev pub above_half : ℕ
above_half = 8

abbrev pub no_stop : ℕ
no_stop = 9

abbrev pub after_cut : ℕ
after_cut = 10

abbrev pub no_galley_room : ℕ
no_galley_room = 12

abbrev pub not_started : ℕ
not_started = 13

abbrev pub file_too_long : ℕ
file_too_long = 20

abbrev pub widths_not_whole : ℕ
widths_not_whole = 31

abbrev pub bad_command : ℕ
bad_command = 21

abbrev pub dvi_ends_early : ℕ
dvi_ends_early = 22

abbrev pub wrong_offset : ℕ
wrong_offset = 23

abbrev pub stack_full : ℕ
stack_full = 24

abbrev pub stack_empty : ℕ
stack_empty = 25

abbrev pub entries_left : ℕ
entries_left = 26

abbrev pub cannot_set : ℕ
cannot_set = 27

abbrev pub out_of32_bits : ℕ
out_of32_bits = 28

abbrev pub bad_postamble : ℕ
bad_postamble = 29

abbrev pub no_sheet_room : ℕ
no_sheet_room = 30

abbrev pub galley_too_long : ℕ
galley_too_long = 40

abbrev pub galley_malformed : ℕ
galley_malformed = 41

abbrev pub no_character : ℕ
no_character = 11

abbrev pub height_too_great : ℕ
height_too_great = 43

abbrev pub no_dvi_room : ℕ
no_dvi_room = 42

abbrev pub no_converted_room : ℕ
no_converted_room = 44

abbrev pub no_galley : ℕ
no_galley = 45

abbrev pub not_ours : ℕ
not_ours = 46

abbrev pub report_full : ℕ
report_full = 47

abbrev pub punched_too_long : ℕ
punched_too_long = 48

abbrev pub no_tape_room : ℕ
no_tape_room = 49

abbrev pub no_machine : ℕ
no_machine = 50

-- a code of the XGP that this part leaves out
abbrev pub outside_part : ℕ
outside_part = 60

abbrev pub reserved_code : ℕ
reserved_code = 61

abbrev pub code_cut_short : ℕ
code_cut_short = 62

abbrev pub negative_width : ℕ
negative_width = 63

-- the number of each reason
abbrev pub number_in : Reason → ℕ
number_in TapeTooLong = tape_too_long
number_in IllegalCode = illegal_code
number_in NotInitialized = not_initialized
number_in AfterStop = after_stop
number_in Parked = still_parked
number_in NoSize = no_size
number_in OutOfRange = out_of_range
number_in AboveHalf = above_half
number_in NoStop = no_stop
number_in AfterCut = after_cut
number_in NoCharacter = no_character
number_in NoGalleyRoom = no_galley_room
number_in NotStarted = not_started
number_in FileTooLong = file_too_long
number_in BadCommand = bad_command
number_in DviEndsEarly = dvi_ends_early
number_in WrongOffset = wrong_offset
number_in StackFull = stack_full
number_in StackEmpty = stack_empty
number_in EntriesLeft = entries_left
number_in CannotSet = cannot_set
number_in OutOf32Bits = out_of32_bits
number_in BadPostamble = bad_postamble
number_in NoSheetRoom = no_sheet_room
number_in WidthsNotWhole = widths_not_whole
number_in GalleyTooLong = galley_too_long
number_in GalleyMalformed = galley_malformed
number_in NoDviRoom = no_dvi_room
number_in HeightTooGreat = height_too_great
number_in NoConvertedRoom = no_converted_room
number_in NoGalley = no_galley
number_in NotOurs = not_ours
number_in ReportFull = report_full
number_in PunchedTooLong = punched_too_long
number_in NoTapeRoom = no_tape_room
number_in NoMachine = no_machine
number_in OutsidePart = outside_part
number_in ReservedCode = reserved_code
number_in CodeCutShort = code_cut_short
number_in NegativeWidth = negative_width

-- ---- outcomes

pub data Outcome : Type 0 where
  accepted : ℕ → Outcome  -- the length
  refused : ℕ → ℕ → Outcome  -- the number and the place

-- an accepted call's number and place are 0, and a refusal's length is 0
abbrev pub number_of : Outcome → ℕ
number_of (accepted n) = 0
number_of (refused number place) = number

abbrev pub place_of : Outcome → ℕ
place_of (accepted n) = 0
place_of (refused number place) = place

abbrev pub length_of : Outcome → ℕ
length_of (accepted n) = n
length_of (refused number place) = 0

-- number, place and length
abbrev pub numbers_of : Outcome → List ℕ
numbers_of o = number_of o ∷ place_of o ∷ length_of o ∷ []

-- the outcome that each case of an answer stands for, by the length of what is accepted, and the number and the place of a refusal
abbrev pub outcome_by : {T E : Type 0} → (T → ℕ) → (E → ℕ) → (E → ℕ) → ResultOf T E → Outcome
outcome_by length number place (Ok n) = accepted (length n)
outcome_by length number place (Err r) = refused (number r) (place r)

abbrev pub outcome_of : ResultOf ℕ Refusal → Outcome
outcome_of = outcome_by (λ (n : ℕ). n) (λ (r : Refusal). number_in r.reason) (λ (r : Refusal). r.place)

-- ---- results

pub data Result : Type 0 where
  refusal : ℕ → ℕ → Result  -- the number and the place
  written : List ℕ → Result

abbrev pub outcome : Result → Outcome
outcome (refusal number place) = refused number place
outcome (written bs) = accepted (length bs)

-- the bytes, and beyond them the buffer unchanged; a refusal changes nothing
abbrev pub buffer_after : List ℕ → Result → List ℕ
buffer_after buffer (refusal number place) = buffer
buffer_after buffer (written bs) = bs ++ drop (length bs) buffer

-- where the room is too little, this refusal, at the bytes needed
unfoldable pub if_room : ℕ → ℕ → Result → Result
if_room number room (refusal n place) = refusal n place
if_room number room (written bs) = cond (ltb room (length bs)) (refusal number (length bs)) (written bs)

-- ---- what a call gives

-- the room is the length of the lent buffer; the outcome given, and the buffer after the call, are the result's
pub record Gives (given : Outcome) (result : ℕ → Result) (buffer later : List ℕ) : Type 0 where
  pub outcome_is : given ≡ outcome (result (length buffer))
  pub buffer_is : later ≡ buffer_after buffer (result (length buffer))

-- the same where number, place and length are given in an array
pub record GivesNumbers (given : List ℕ) (result : ℕ → Result) (buffer later : List ℕ) : Type 0 where
  pub numbers_are : given ≡ numbers_of (outcome (result (length buffer)))
  pub buffer_is : later ≡ buffer_after buffer (result (length buffer))
