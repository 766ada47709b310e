-- What a reader that makes a sheet is lent beside the buffer: a file, and a table of widths (document 01, "Widths"), whatever the file's format.
--     max_file        the longest file
--     last_place      the last place in a sheet where a field can start
--     font_chars      the characters of a font
--     if_readable     the tests of the whole call
--     call_refusal    the number that they refuse it with, or 0
--     call_answer     what the function answers, by those tests
use Rattle.std.specs.Prelude.{ℕ, ◌*◌, Bool, cond, List, ltb, length, Ok, Err, Result as ResultOf}
use Rattle.octets.specs.Answer.{Result, refusal, file_too_long, widths_not_whole}
use Rattle.octets.specs.declared.refusal.Refusal.{Refusal}
use Rattle.octets.specs.declared.refusal.Reason.TheVariants.{FileTooLong, WidthsNotWhole}

abbrev pub max_file : ℕ
max_file = 33554432

-- each byte of a file makes at most one field of 20 bytes
abbrev pub last_place : ℕ
last_place = 20 * max_file

-- a font has the characters 0 to 127, and a width for each, fonts 0, 1, 2 on in order
abbrev pub font_chars : ℕ
font_chars = 128

-- 20: the file is too long; 31: the table of widths is not whole, which each format says for itself
unfoldable pub if_readable : List ℕ → Bool → Result → Result
if_readable file whole r = cond (ltb max_file (length file)) (refusal file_too_long 0) (cond whole r (refusal widths_not_whole 0))

unfoldable pub call_refusal : ℕ → Bool → ℕ
call_refusal length whole = cond (ltb max_file length) file_too_long (cond whole 0 widths_not_whole)

-- the two refusals, at place 0
abbrev pub length_refusal : Refusal
length_refusal = record { reason = FileTooLong; place = 0 }

abbrev pub widths_refusal : Refusal
widths_refusal = record { reason = WidthsNotWhole; place = 0 }

unfoldable pub call_answer : ℕ → Bool → ResultOf (Unit {0}) Refusal
call_answer length whole = cond (ltb max_file length) (Err length_refusal) (cond whole (Ok tt) (Err widths_refusal))
