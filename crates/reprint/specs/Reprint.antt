-- A galley made into a DVI file, and the file into a sheet, in one call; and demand 3 (document 01) from the galley's bytes to the sheet's,
-- "over heights at most 65,535" (document 02, "Longer columns").
--     Reprint            the file and the sheet, or a refusal
--     reprint_result      of any galley, table of widths, and two buffers of so many bytes
--     of_file, of_sheet    its result for each of the buffers
--     both_numbers        the numbers of two outcomes: number, place, and both lengths
--     GivesBoth          what an operation that fills two buffers promises
--     Reprinted          demand 3, clause by clause
--     ReprintedWhenever  demand 3 of a call
--     Reprints           what a reprint promises
--     ReprintsNumbers    the same where the numbers are given in an array
--     Distinguished      two galleys, and what is shown of them
use Rattle.std.specs.Prelude.{ℕ, ◌+◌, ◌*◌, ◌%◌, ◌≤◌, cond, List, [], ◌∷◌, ◌++◌, ◌↔◌, ◌≡◌, ℤ, pos, length, drop, Result as ResultOf}
use Rattle.octets.specs.declared.refusal.Refusal.{Refusal}
use Rattle.octets.specs.Answer.{number_in, Outcome, outcome_by, accepted, number_of, place_of, length_of, Result, refusal, written, widths_not_whole, Gives}
use Rattle.measure.specs.Place.{low_end}
use Rattle.galley_file.specs.declared.form.Form.TheVariants.{New}
use Rattle.galley_file.specs.declared.item.Item.{Item}
use Rattle.galley_file.specs.Item.{characters_of, cuts_of}
use Rattle.galley_file.specs.Galley.{AllValid, galley, whole, read_galley}
use Rattle.galley_file.specs.Outcome.{check_outcome}
use Rattle.sheet.specs.Sheet.{Mark, page_mark, sheet}
use Rattle.sheet.specs.Readable.{font_chars}
use Rattle.sheet.specs.Shown.{shows}
use Rattle.dvi.specs.File.{read_dvi}
use Rattle.dvi.specs.Sheet.{whole_fonts, sheet_result}
use Rattle.dvi.specs.Writer.{dvi_file}
use Rattle.dvi.specs.Edition.{Faithful, Compared}
use Rattle.dvi.specs.Demand3.{dvi1980}
use Rattle.dvi_writer.specs.Result.{dvi_result}
use Rattle.reprint.specs.declared.Lengths.{Lengths}

pub data Reprint : Type 0 where
  stopped : ℕ → ℕ → Reprint  -- a refusal's number and place
  reprinted : List ℕ → List ℕ → Reprint  -- the file and the sheet

-- the reader's result for the file
abbrev pub sheet_of : List ℕ → Result → Reprint
sheet_of file (refusal number place) = stopped number place
sheet_of file (written bs) = reprinted file bs

-- the writer's result, and then the reader's
abbrev pub file_of : List ℤ → ℕ → Result → Reprint
file_of widths room (refusal number place) = stopped number place
file_of widths room (written file) = sheet_of file (sheet_result file widths room)

-- 31 first; then the writer's 40, 41, 43 and 42; then the reader's 30
unfoldable pub reprint_result : List ℕ → List ℤ → ℕ → ℕ → Reprint
reprint_result g widths dviRoom sheetRoom = cond (whole_fonts widths) (file_of widths sheetRoom (dvi_result g dviRoom)) (stopped widths_not_whole 0)

-- the result for each of the two buffers: a refusal is one of both
abbrev pub of_file : Reprint → Result
of_file (stopped number place) = refusal number place
of_file (reprinted file bs) = written file

abbrev pub of_sheet : Reprint → Result
of_sheet (stopped number place) = refusal number place
of_sheet (reprinted file bs) = written bs

-- ---- what a call gives

-- the outcomes that each case of the answer stands for, by the number and the place of a refusal
abbrev pub file_outcome_by : {E : Type 0} → (E → ℕ) → (E → ℕ) → ResultOf Lengths E → Outcome
file_outcome_by = outcome_by (λ (l : Lengths). l.file)

abbrev pub sheet_outcome_by : {E : Type 0} → (E → ℕ) → (E → ℕ) → ResultOf Lengths E → Outcome
sheet_outcome_by = outcome_by (λ (l : Lengths). l.sheet)

abbrev pub file_outcome : ResultOf Lengths Refusal → Outcome
file_outcome = file_outcome_by (λ (r : Refusal). number_in r.reason) (λ (r : Refusal). r.place)

abbrev pub sheet_outcome : ResultOf Lengths Refusal → Outcome
sheet_outcome = sheet_outcome_by (λ (r : Refusal). number_in r.reason) (λ (r : Refusal). r.place)

-- number, place, the sheet's length and the file's
abbrev pub both_numbers : Outcome → Outcome → List ℕ
both_numbers for_file for_sheet = number_of for_sheet ∷ place_of for_sheet ∷ length_of for_sheet ∷ length_of for_file ∷ []

-- the rooms are the lengths of the two lent buffers; each is given what an operation gives that fills it alone
pub record GivesBoth (for_file for_sheet : Outcome) (result : ℕ → ℕ → Reprint) (dvi dvi' out out' : List ℕ) : Type 0 where
  pub file_given : Gives for_file (λ (room : ℕ). of_file (result room (length out))) dvi dvi'
  pub sheet_given : Gives for_sheet (λ (room : ℕ). of_sheet (result (length dvi) room)) out out'

-- ---- demand 3

-- the bytes of the sheet: 16 for a character, 7 for each page and for End
abbrev pub sheet_size : List Item → ℕ
sheet_size is = 16 * length (characters_of is) + 7 * cuts_of is + 14

-- of a galley g and a table of widths, with the outcomes of the call and each of the two buffers before and after it
pub record Reprinted (for_file for_sheet : Outcome) (g : List ℕ) (widths : List ℤ) (dvi dvi' out out' : List ℕ) : Type 0 where
  -- "every valid galley": the characters and cuts that its bytes encode, of heights at most 65,535
  pub items : List Item
  pub galley_is : g ≡ galley New items
  pub valid : AllValid low_end items
  -- "The writer accepts the galley"
  pub writer_accepts : dvi_result g (length dvi) ≡ written (dvi_file items)
  -- "the DVI file is the bytes it wrote, .. without the buffer beyond them"
  pub file_is : dvi' ≡ dvi_file items ++ drop (length (dvi_file items)) dvi
  -- "It shows page 1 and no rule. For each character of the galley, in order, and for nothing else": its font, its y, and the three cases of x; a cut
  -- shows as the start of the next page
  pub faithful : Faithful (dvi1980 widths) items
  -- what it shows, in rsu
  pub marks : List Mark
  pub shown : read_dvi widths (dvi_file items) ≡ shows (page_mark (pos 1) ∷ marks)
  -- our reader accepts that file
  pub reader_accepts : sheet_result (dvi_file items) widths (length out) ≡ written (sheet (page_mark (pos 1) ∷ marks))
  -- "The sheet is the page field, then these characters' fields in that order, then end, byte for byte"
  pub sheet_is : out' ≡ sheet (page_mark (pos 1) ∷ marks) ++ drop (length (sheet (page_mark (pos 1) ∷ marks))) out
  -- the lengths given
  pub file_length : for_file ≡ accepted (length (dvi_file items))
  pub sheet_length : for_sheet ≡ accepted (sheet_size items)

-- for every galley that the check accepts and whose heights are at most 65,535, every table of whole fonts, and buffers with room
abbrev pub ReprintedWhenever : Outcome → Outcome → List ℕ → List ℤ → List ℕ → List ℕ → List ℕ → List ℕ → Type 0
ReprintedWhenever for_file for_sheet g widths dvi dvi' out out' =
    (count : ℕ) (is : List Item) → check_outcome New g ≡ accepted count → read_galley New g ≡ whole is → AllValid low_end is → length widths % font_chars ≡ 0 → length (dvi_file is) ≤ length dvi
    → sheet_size is ≤ length out → Reprinted for_file for_sheet g widths dvi dvi' out out'

-- what a reprint promises: outcomes and buffers are its result's, and demand 3 holds of them
pub record Reprints (for_file for_sheet : Outcome) (g : List ℕ) (widths : List ℤ) (dvi dvi' out out' : List ℕ) : Type 0 where
  pub given : GivesBoth for_file for_sheet (reprint_result g widths) dvi dvi' out out'
  pub demand3 : ReprintedWhenever for_file for_sheet g widths dvi dvi' out out'

-- the same where the numbers of these outcomes are given in an array
pub record ReprintsNumbers (numbers : List ℕ) (g : List ℕ) (widths : List ℤ) (dvi dvi' out out' : List ℕ) : Type 0 where
  pub for_file : Outcome
  pub for_sheet : Outcome
  pub numbers_are : numbers ≡ both_numbers for_file for_sheet
  pub reprints : Reprints for_file for_sheet g widths dvi dvi' out out'

-- two such galleys, of the items is and js, and the marks that their files show
pub record Distinguished (widths : List ℤ) (g h : List ℕ) (is js : List Item) (ms ns : List Mark) : Type 0 where
  -- the same file exactly where the galleys are equal
  pub same_file : (dvi_file is ≡ dvi_file js) ↔ (g ≡ h)
  -- "equal fonts where the font numbers are equal, and equal places where x and height are equal, at each character"
  pub compared : Compared (dvi1980 widths) is js ms ns
