-- Five tapes and their report: accepted on either machine, refused under 3, 10 and 50.
-- Assumes nothing.
use Rattle.std.specs.Prelude.{◌≡◌, List, [], ◌∷◌, ◌++◌, replicate, pos, refl}
use Rattle.octets.specs.Octets.{number_from, twos, signed, bytes, residue, signed_bytes}
use Rattle.octets.specs.Field.{field, end_field, starts_field, starts_end}
use Rattle.octets.specs.Answer.{if_room}
use Rattle.measure.specs.Place.{directed_by, carriage_at, height_at}
use Rattle.measure.specs.Target.{x_of}
use Rattle.galley_file.specs.Character.{valid, character_body, character_field, character_at, is_character}
use Rattle.galley_file.specs.Item.{field_of_cut, is_cut, next_item, characters_of}
use Rattle.galley_file.specs.Galley.{fields, galley, read_end, reading, read_galley, items_of}
use Rattle.typesetter.specs.Code.{code_of}
use Rattle.typesetter.specs.Machine.{flash_of, escape_of, lead_of, instruction_effect, code_effect, byte_effect}
use Rattle.tape.specs.Tape.{run, read_result, tape_result}
use Rattle.figures.specs.Figures.{moves, total, in_font, figures_of}
use Rattle.report.specs.Report.{amount}
use Rattle.report.specs.Sums.{Tape, entry, report_of, page_ends, sum_heights, heights_in}

abbrev tapes : List Tape
tapes =
    record { bytes = 0x40 ∷ 0xEF ∷ 0x52 ∷ 0x4E ∷ 0x01 ∷ 0xFC ∷ 0x02 ∷ 0x49 ∷ []; machine = 8 }  -- P3: two characters of font number 2
    ∷ record { bytes = 0xEF ∷ []; machine = 8 }  -- 3 at 0
    ∷ record { bytes = 0x40 ∷ 0xEF ∷ 0x4B ∷ []; machine = 8 }  -- 10 at 3
    ∷ record { bytes = 0x40 ∷ 0x49 ∷ []; machine = 5 }  -- 50
    ∷ record { bytes = 0x40 ∷ 0x60 ∷ 0x4B ∷ 0x40 ∷ 0x7E ∷ 0x4C ∷ 0x7E ∷ 0x49 ∷ []; machine = 4 }  -- 31 up, cut, 1 up, 1 down, stop
    ∷ []

pub counted : report_of tapes ≡ 5 ∷ 2 ∷ 0 ∷ 0 ∷ 1 ∷ 0 ∷ 0 ∷ 0 ∷ 0 ∷ 0 ∷ 0 ∷ 1 ∷ 1 ∷ 0 ∷ 0 ∷ 2 ∷ (replicate 117 0 ++ (32 ∷ 1 ∷ []))
unfolding report_of entry amount figures_of in_font total moves items_of tape_result read_result if_room run byte_effect code_effect instruction_effect lead_of escape_of flash_of code_of directed_by carriage_at height_at x_of galley fields character_field character_body field end_field bytes residue signed_bytes twos read_galley reading read_end next_item is_character is_cut character_at valid starts_field starts_end number_from signed characters_of field_of_cut
counted = refl

pub ended : heights_in tapes ≡ pos 31
unfolding heights_in sum_heights page_ends tape_result read_result if_room run byte_effect code_effect instruction_effect lead_of escape_of flash_of code_of directed_by carriage_at height_at galley fields character_field field bytes character_body signed_bytes end_field field_of_cut
ended = refl
