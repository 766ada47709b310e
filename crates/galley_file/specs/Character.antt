-- A galley's characters (document 01, "Galley"), in either form.
--     valid              a character is valid, its height at most so many quanta
--     character_field     its field
--     character_at        the character whose field starts at a place
--     is_character        the bytes start with the whole field of a valid character
use Rattle.std.specs.Prelude.{ℕ, ◌+◌, Bool, true, false, ◌&&◌, List, [], ◌∷◌, ◌++◌, leb, ltb, ℤ, pos, negsuc, get_or}
use Rattle.std.specs.Int.Signed.{le_z}
use Rattle.octets.specs.Octets.{nat_at, signed_at, signed_bytes}
use Rattle.octets.specs.Field.{field, starts_field}
use Rattle.measure.specs.Place.{within}
use Rattle.galley_file.specs.Font.{size_index, is_double}
use Rattle.galley_file.specs.declared.form.Form.{Form}
use Rattle.galley_file.specs.Form.{character_tag, height_bytes, body_bytes, greatest_height}
use Rattle.galley_file.specs.declared.character.Character.{Character}

-- single sizes 0 ≤ x ≤ 3,239, double sizes -55 ≤ x ≤ 3,184
abbrev pub valid_x : Bool → ℤ → Bool
valid_x false x = le_z (pos 0) x && le_z x (pos 3239)
valid_x true x = le_z (negsuc 54) x && le_z x (pos 3184)

-- font number 0 to 119, character 1 to 108, x by its size, height 0 to `top`
unfoldable pub valid : ℤ → Character → Bool
valid top c =
    ltb c.font 120 && leb 1 c.code && leb c.code 108 && valid_x (is_double (size_index c.font)) c.x.0
    && within top c.height.0

-- x (2), height (2 or 4), font number (1), character (1). A form's bytes hold its valid heights as they are.
unfoldable pub character_body : Form → Character → List ℕ
character_body f c = signed_bytes 2 c.x.0 ++ (signed_bytes (height_bytes f) c.height.0 ++ (c.font ∷ c.code ∷ []))

-- tag 1, length 6; or tag 7, length 8
unfoldable pub character_field : Form → Character → List ℕ
character_field f c = field (character_tag f) (character_body f c)

unfoldable pub character_at : Form → List ℕ → ℕ → Character
character_at f s i =
    record {
      x = record { 0 = signed_at 2 (i + 3) s };
      height = record { 0 = pos (nat_at (height_bytes f) (i + 5) s) };
      font = get_or s (i + (height_bytes f + 5)) 0;
      code = get_or s (i + (height_bytes f + 6)) 0;
    }

unfoldable pub is_character : Form → List ℕ → Bool
is_character f s = starts_field (character_tag f) (body_bytes f) s && valid (greatest_height f) (character_at f s 0)
