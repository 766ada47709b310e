-- How far a file is read.
--     expected            past the command that alone may stand at a place
--     Inside              a reading's place is in the file
--     ReadsTo             a reading comes to a place where this state stands, or the file is refused where it says
--     PastDefinitions     a reading past the definitions of the fonts
--     PastFillers         a reading past the bytes 223
--     Ended               what a reading tells that should end with these items
use Rattle.std.specs.Prelude.{◌≡◌, List, [], ◌++◌, map, ℕ, ◌+◌, ◌≤◌, length, drop, Result, Ok, Err}
use Rattle.galley_file.specs.declared.item.Item.{Item}
use Rattle.galley_file.specs.Item.{characters_of}
use Rattle.extents.specs.declared.fonts.Fonts.{Fonts}
use Rattle.extents.specs.FontMarks.{used_fonts, FontsAre}
use Rattle.dvi2.specs.Writer.{definition, fillers}
use Rattle.dvi2_reading.specs.Reading.{State, closing, fill, gives, bad, read_file}
use Rattle.dvi2_reading.specs.Standing.{Standing}
use Rattle.dvi2_state.specs.declared.page_state.Wrong.{Wrong}
use Rattle.dvi2_state.specs.declared.page_state.Wrong.TheVariants.{Bad, Short}
use Rattle.dvi2_page.specs.Match.{compared}
use Rattle.dvi2_close.specs.declared.expect.NotOurs.{NotOurs}

-- past it, short at the end of the file, or another there
abbrev pub by_match : List ℕ → ℕ → List ℕ → Result (Unit {0}) Wrong → Result ℕ NotOurs
by_match s at e (Ok u) = Ok (at + length e)
by_match s at e (Err Short) = Err (record { place = length s })
by_match s at e (Err Bad) = Err (record { place = at })

unfoldable pub expected : List ℕ → ℕ → List ℕ → Result ℕ NotOurs
expected s at e = by_match s at e (compared (drop at s) e)

abbrev pub Inside : ℕ → Result ℕ NotOurs → Type 0
Inside n (Ok at) = at ≤ n
Inside n (Err w) = Unit {0}

abbrev pub ReadsTo : List ℕ → State → Result ℕ NotOurs → Type 0
ReadsTo s q (Ok at) = Standing s q at
ReadsTo s q (Err w) = read_file s ≡ bad w.place

abbrev pub PastDefinitions : List ℕ → ℕ → Fonts → Result ℕ NotOurs → Type 0
PastDefinitions s at used r =
    (is : List Item) (es : List (List ℕ)) → FontsAre used.low used.high (characters_of is)
    → Standing s (closing is (map definition (used_fonts 120 (characters_of is)) ++ es)) at → ReadsTo s (closing is es) r

abbrev pub PastFillers : List ℕ → ℕ → Result ℕ NotOurs → Type 0
PastFillers s at r = (is : List Item) → Standing s (closing is (fill (fillers at))) at → ReadsTo s (closing is []) r

abbrev pub Ended : List ℕ → List Item → Result ℕ NotOurs → Type 0
Ended s is (Ok at) = read_file s ≡ gives is
Ended s is (Err w) = read_file s ≡ bad w.place
