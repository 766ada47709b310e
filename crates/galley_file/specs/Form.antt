-- The two forms of a galley (document 01, "Galley"; document 02, "Longer columns" and "Old galleys and new"). They differ in a
-- character's field alone, and so in the greatest height and the greatest length.
--     character_tag        the tag of a character's field
--     height_bytes         the bytes of a height
--     body_bytes           those of the field's body: x (2), the height, font number (1), character (1)
--     character_size       those of the whole field
--     greatest_height      the greatest height
--     max_galley           the bytes of the longest galley: 1,048,576 characters
use Rattle.std.specs.Prelude.{ℕ, ℤ}
use Rattle.measure.specs.Place.{height_end, low_end}
use Rattle.galley_file.specs.declared.form.Form.{Form}
use Rattle.galley_file.specs.declared.form.Form.TheVariants.{Old, New}

abbrev pub character_tag : Form → ℕ
character_tag Old = 1
character_tag New = 7

abbrev pub height_bytes : Form → ℕ
height_bytes Old = 2
height_bytes New = 4

abbrev pub body_bytes : Form → ℕ
body_bytes Old = 6
body_bytes New = 8

abbrev pub character_size : Form → ℕ
character_size Old = 9
character_size New = 11

-- two bytes hold no more than a DVI file does
abbrev pub greatest_height : Form → ℤ
greatest_height Old = low_end
greatest_height New = height_end

abbrev pub max_galley : Form → ℕ
max_galley Old = 9437191
max_galley New = 11534343
