-- Document 01, "Proof sheet": the cases marked P, as one table and one statement. P3's galley is in the form of document 02, "Longer
-- columns".
-- Assumes nothing.
use Rattle.std.specs.Prelude.{ℕ, ◌≡◌, refl, ℤ, pos, negsuc}
use mathlib.Core.List.{List, [], ◌∷◌, map, flatten}
use Rattle.octets.specs.Octets.{number_from, twos, signed, bytes, residue, signed_bytes, width_of}
use Rattle.octets.specs.Field.{field, end_field, starts_field, starts_end}
use Rattle.octets.specs.Answer.{Result, refusal, written, if_room}
use Rattle.measure.specs.Place.{directed_by, carriage_at, height_at}
use Rattle.measure.specs.Target.{x_of, x_target, y_target}
use Rattle.octets.specs.Transducer.{transduced}
use Rattle.galley_file.specs.declared.form.Form.TheVariants.{New}
use Rattle.galley_file.specs.Character.{valid, character_body, character_field, character_at, is_character}
use Rattle.galley_file.specs.declared.item.Item.{Item}
use Rattle.galley_file.specs.declared.item.Item.TheVariants.{Placed}
use Rattle.galley_file.specs.Item.{is_cut, next_item, characters_of}
use Rattle.galley_file.specs.Galley.{Reading, whole, fields, galley, read_end, reading, read_galley}
use Rattle.integers.specs.Parts.{max_z}
use Rattle.integers.specs.Equality.{eq_z}
use Rattle.extents.specs.FontMarks.{uses, used_fonts}
use Rattle.extents.specs.Extents.{largest}
use Rattle.dvi.specs.Command.{Y4}
use Rattle.dvi.specs.Writer.{start_position, position_at, font_command, font_change, shortest, move, commands_of, bop_bytes, first_writing, item_bytes, writing_after, pages_bytes, name_of, definition, trailer_bytes, postamble_bytes, dvi_file}
use Rattle.galley_check.specs.Low.{first_high, low_result}
use Rattle.dvi_writer.specs.Result.{dvi_result}
use Rattle.typesetter.specs.Code.{code_of}
use Rattle.typesetter.specs.Machine.{flash_of, escape_of, lead_of, instruction_effect, code_effect, byte_effect}
use Rattle.tape.specs.Tape.{run, read_result, tape_result}

-- a row of the sheet: what is given, and what comes of it
pub data Case : Type 0 where
  -- a tape of the 8-font machine, and its result with a buffer of 32 bytes
  tape_case : List ℕ → Result → Case
  -- a galley, and the x, height, font number and character of each of its characters
  galley_case : List ℕ → Reading → Case
  -- an x, and its target
  target_case : ℤ → ℤ → Case
  -- a galley, and the result of writing its DVI file into a buffer of 64 bytes
  file_case : List ℕ → Result → Case
  -- a move down, and its command
  down_case : ℤ → List ℕ → Case

abbrev placed : ℤ → ℕ → ℕ → ℕ → Item
placed x height font code = Placed (record { x = record { 0 = x }; height = record { 0 = pos height }; font = font; code = code })

abbrev cases : List Case
cases =
    -- P1
    tape_case [] (refusal 9 0)
    -- P2
    ∷ tape_case (0x40 ∷ 0xEF ∷ 0x49 ∷ []) (written (2 ∷ 0 ∷ 4 ∷ 0 ∷ 0 ∷ 0 ∷ 0 ∷ []))
    -- P3
    ∷ tape_case (0x40 ∷ 0xEF ∷ 0x52 ∷ 0x4E ∷ 0x01 ∷ 0xFC ∷ 0x02 ∷ 0x49 ∷ []) (written p3)
    ∷ galley_case p3 (whole (placed (pos 0) 0 2 1 ∷ placed (pos 3) 0 2 2 ∷ []))
    ∷ file_case p3 (written p3_file)
    -- P4
    ∷ tape_case (0xEF ∷ []) (refusal 3 0)
    -- P5
    ∷ tape_case (0x40 ∷ 0xF0 ∷ []) (refusal 5 1)
    -- P6
    ∷ tape_case (0x40 ∷ 0xEF ∷ 0x01 ∷ []) (refusal 6 2)
    -- P7, and with 2D and 49: character 108
    ∷ tape_case (0x40 ∷ 0xEF ∷ 0x46 ∷ 0x52 ∷ 0x2E ∷ []) (refusal 8 4)
    ∷ tape_case (0x40 ∷ 0xEF ∷ 0x46 ∷ 0x52 ∷ 0x2D ∷ 0x49 ∷ []) (written p7)
    ∷ galley_case p7 (whole (placed (pos 0) 0 17 108 ∷ []))
    -- P8: x is -55, font number 24
    ∷ tape_case (0x40 ∷ 0xEF ∷ 0x59 ∷ 0x01 ∷ 0x49 ∷ []) (written p8)
    ∷ galley_case p8 (whole (placed (negsuc 54) 0 24 1 ∷ []))
    -- P9
    ∷ target_case (negsuc 54) (negsuc 600746)
    -- P10
    ∷ target_case (pos 3239) (pos 35378517)
    -- P11
    ∷ tape_case (0x40 ∷ 0xEF ∷ 0x48 ∷ 0xFE ∷ []) (refusal 7 3)
    -- P12: Y2 and Y3
    ∷ down_case (negsuc 32767) (0x94 ∷ 0x80 ∷ 0x00 ∷ [])
    ∷ down_case (pos 32768) (0x93 ∷ 0x00 ∷ 0x80 ∷ 0x00 ∷ [])
    ∷ []
  where
    p3 : List ℕ
    p3 =
        0x07 ∷ 0x00 ∷ 0x08 ∷ 0x00 ∷ 0x00 ∷ 0x00 ∷ 0x00 ∷ 0x00 ∷ 0x00 ∷ 0x02 ∷ 0x01
        ∷ 0x07 ∷ 0x00 ∷ 0x08 ∷ 0x00 ∷ 0x03 ∷ 0x00 ∷ 0x00 ∷ 0x00 ∷ 0x00 ∷ 0x02 ∷ 0x02
        ∷ 0x02 ∷ 0x00 ∷ 0x04 ∷ 0x00 ∷ 0x00 ∷ 0x00 ∷ 0x02 ∷ []

    p3_file : List ℕ
    p3_file =
        0x81 ∷ 0x00 ∷ 0x00 ∷ 0x00 ∷ 0x01 ∷ 0xFF ∷ 0xFF ∷ 0xFF ∷ 0xFF ∷ 0x9C ∷ 0x88 ∷ 0x01 ∷ 0x8F ∷ 0x00 ∷ 0x80 ∷ 0x00 ∷ 0x88 ∷ 0x02 ∷ 0x82
        ∷ 0x83 ∷ 0x00 ∷ 0x00 ∷ 0x00 ∷ 0x00 ∷ 0x00 ∷ 0x00 ∷ 0x00 ∷ 0x00 ∷ 0x00 ∷ 0x00 ∷ 0x80 ∷ 0x00
        ∷ 0x00 ∷ 0x00 ∷ 0x00 ∷ 0x02 ∷ 0x00 ∷ 0x00 ∷ 0x00 ∷ 0x02 ∷ 0x22 ∷ 0x43 ∷ 0x31 ∷ 0x31 ∷ 0x30 ∷ 0x22
        ∷ 0xFF ∷ 0xFF ∷ 0xFF ∷ 0xFF ∷ 0x00 ∷ 0x00 ∷ 0x00 ∷ 0x13 ∷ 0x00 ∷ 0xDF ∷ 0xDF ∷ 0xDF ∷ 0xDF ∷ []

    p7 : List ℕ
    p7 =
        0x07 ∷ 0x00 ∷ 0x08 ∷ 0x00 ∷ 0x00 ∷ 0x00 ∷ 0x00 ∷ 0x00 ∷ 0x00 ∷ 0x11 ∷ 0x6C
        ∷ 0x02 ∷ 0x00 ∷ 0x04 ∷ 0x00 ∷ 0x00 ∷ 0x00 ∷ 0x01 ∷ []

    p8 : List ℕ
    p8 =
        0x07 ∷ 0x00 ∷ 0x08 ∷ 0xFF ∷ 0xC9 ∷ 0x00 ∷ 0x00 ∷ 0x00 ∷ 0x00 ∷ 0x18 ∷ 0x01
        ∷ 0x02 ∷ 0x00 ∷ 0x04 ∷ 0x00 ∷ 0x00 ∷ 0x00 ∷ 0x01 ∷ []

-- a row with what the definitions give in place of what the sheet says
abbrev given : Case → Case
given (tape_case tape r) = tape_case tape (tape_result tape 8 32)
given (galley_case g r) = galley_case g (read_galley New g)
given (target_case x t) = target_case x (x_target x)
given (file_case g r) = file_case g (dvi_result g 64)
given (down_case m bs) = down_case m (move Y4 m)

pub proof_sheet_lem : map given cases ≡ cases
unfolding eq_z max_z number_from twos signed bytes residue signed_bytes width_of field end_field starts_field starts_end if_room directed_by carriage_at height_at x_of x_target y_target valid character_body character_field character_at is_character fields galley is_cut next_item characters_of read_end reading read_galley first_high low_result code_of flash_of escape_of lead_of instruction_effect code_effect byte_effect run read_result tape_result start_position position_at font_command font_change shortest move commands_of bop_bytes first_writing item_bytes writing_after transduced pages_bytes largest uses used_fonts name_of definition flatten trailer_bytes postamble_bytes dvi_file dvi_result
proof_sheet_lem = refl
