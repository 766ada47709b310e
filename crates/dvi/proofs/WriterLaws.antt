-- How long the pieces of the file are, and how it grows by one item.
--     items_bytes_most          the most bytes of a run of items
--     writing_at               the offset after a run of items
--     Small, writing_small     no number of the writing is too large for four bytes
--     definitions_append       the definitions of two runs of fonts
--     length_pages             the length of all pages
--     length_file              the length of the file
--     file_fits                which a reader takes
-- Assumes nothing.
use Rattle.std.specs.Prelude.{◌≡◌, refl, cond, List, [], ◌∷◌, ◌++◌, ℕ, zero, suc, ◌+◌, ◌*◌, ◌≤◌, ltb, eqb, ℤ, pos, ◌-ℤ◌, length}
use Rattle.std.proofs.Math.Option.{Option, none, some}
use Rattle.std.proofs.Common.{arith, length-append}
use Rattle.integers.specs.Equality.{eq_z}
use Rattle.octets.specs.Octets.{bytes, signed_bytes, width_of}
use Rattle.octets.specs.OctetsLaws.{by_cond, length_signed_bytes}
use Rattle.octets.specs.WordLaws.{width_range}
use Rattle.octets.proofs.TransducerLaws.{transduced_most, transduced_at}
use Rattle.galley_file.specs.declared.character.Character.{Character}
use Rattle.galley_file.specs.declared.item.Item.{Item}
use Rattle.galley_file.specs.declared.item.Item.TheVariants.{Placed, Cut}
use Rattle.galley_file.specs.Item.{characters_of}
use Rattle.galley_file.specs.Galley.{max_items}
use Rattle.extents.specs.FontMarks.{uses, used_fonts}
use Rattle.dvi.specs.Command.{EOP, X4, Y4}
use Rattle.dvi.specs.WritingLaws.{pieces_append, length_pieces, length_if, if_most, Offsets, Next}
use Rattle.dvi.specs.WritingLaws as S
use Rattle.sheet.specs.Readable.{max_file}
use Rattle.dvi.specs.Writer.{x_target_of, y_target_of, Position, font_command, font_change, shortest, move, commands_of, bop_bytes, Writing, first_writing, item_bytes, writing_after, items_bytes, writing_after_all, pages_bytes, name_of, definition, definition_bytes, trailer_bytes, postamble_bytes, dvi_file}

-- ---- the commands of a character

font_command_most : (f : ℕ) → length (font_command f) ≤ 5
unfolding font_command
font_command_most f =
    by_cond (λ (bs : List ℕ). length bs ≤ 5) (ltb f 64) _ _
    (λ _. omega arith)
    (λ _. omega (arith, length_signed_bytes 4 (pos f)))

pub font_change_most : (o : Option ℕ) (f : ℕ) → length (font_change o f) ≤ 5
unfolding font_change
font_change_most none f = font_command_most f
font_change_most (some g) f =
    by_cond (λ (bs : List ℕ). length bs ≤ 5) (eqb g f) _ _ (λ _. omega arith) (λ _. font_command_most f)

-- a move's length does not depend on its command
pub length_move : (op : ℕ) (m : ℤ) → length (move op m) ≡ cond (eq_z m (pos 0)) 0 (1 + width_of m)
unfolding move shortest
length_move op m = length_if (eq_z m (pos 0)) (shortest op m) (1 + width_of m) (omega (arith, length_signed_bytes (width_of m) m))

pub move_most : (op : ℕ) (m : ℤ) → length (move op m) ≤ 5
unfolding move shortest
move_most op m = if_most (eq_z m (pos 0)) (shortest op m) 5 (omega (arith, length_signed_bytes (width_of m) m, width_range m))

pub commands_of_most : (p : Position) (c : Character) → length (commands_of p c) ≤ 17
unfolding commands_of
commands_of_most p c =
    simp length-append
    (omega (arith, font_change_most p.font c.font, move_most X4 (x_target_of c -ℤ p.x), move_most Y4 (y_target_of c -ℤ p.y)))

-- ---- the bytes of items

pub item_bytes_most : (p : Writing) (i : Item) → length (item_bytes p i) ≤ 17
unfolding item_bytes bop_bytes signed_bytes bytes
item_bytes_most p (Placed c) = commands_of_most p.position c
item_bytes_most p Cut = omega arith

pub items_bytes_most : (p : Writing) (is : List Item) → length (items_bytes p is) ≤ 17 * length is
items_bytes_most = transduced_most item_bytes writing_after 17 item_bytes_most

-- ---- the writing after them

pub writing_next : (p : Writing) (i : Item) → (writing_after p i).at ≡ p.at + length (item_bytes p i)
unfolding writing_after item_bytes bop_bytes signed_bytes bytes
writing_next p (Placed c) = refl
writing_next p Cut = refl

pub writing_at : (p : Writing) (is : List Item) → (writing_after_all p is).at ≡ p.at + length (items_bytes p is)
writing_at = transduced_at item_bytes writing_after (λ p. p.at) writing_next

abbrev pub offsets_of : Writing → Offsets
offsets_of p = record { page = p.page; bop = p.bop; at = p.at }

-- the numbers of the writing fit four bytes, after n items more too
abbrev pub Small : Writing → ℕ → Type 0
Small p n = S.Small 17 (offsets_of p) n

offsets_next : (p : Writing) (i : Item) → Next 17 (offsets_of p) (offsets_of (writing_after p i))
unfolding writing_after
offsets_next p (Placed c) = record { page_next_lem = omega arith; bop_next = λ h. omega arith; at_next = omega (arith, commands_of_most p.position c) }
offsets_next p Cut = record { page_next_lem = omega arith; bop_next = λ h. omega arith; at_next = omega arith }

pub small_next : (p : Writing) (i : Item) (n : ℕ) → Small p (suc n) → Small (writing_after p i) n
small_next = S.small_next writing_after offsets_of 17 offsets_next

pub small_first : (n : ℕ) → n ≤ max_items → Small first_writing n
unfolding first_writing
small_first n h = record { bop_before = omega arith; at_small = omega arith; page_small = omega arith }

pub writing_small : (is : List Item) (n : ℕ) → length is + n ≤ max_items → Small (writing_after_all first_writing is) n
writing_small is n h = S.small_all writing_after offsets_of 17 offsets_next first_writing is n (small_first (length is + n) h)

-- ---- all pages

pub length_pages : (is : List Item) → length (pages_bytes is) ≡ 10 + length (items_bytes first_writing is)
unfolding pages_bytes bop_bytes bytes signed_bytes
length_pages is = rw (length-append (items_bytes first_writing is) (EOP ∷ [])) (omega arith)

-- ---- the postamble

pub used_fonts_most : (n : ℕ) (cs : List Character) → length (used_fonts n cs) ≤ n
unfolding used_fonts
used_fonts_most zero cs = omega arith
used_fonts_most (suc n) cs =
    rw length-append
    (by_cond (λ (fs : List ℕ). length (used_fonts n cs) + length fs ≤ suc n) (uses n cs) _ _
    (λ _. omega (arith, used_fonts_most n cs))
    (λ _. omega (arith, used_fonts_most n cs)))

-- 14 bytes for each definition
pub length_definitions : (fs : List ℕ) → length (definition_bytes fs) ≡ 14 * length fs
unfolding definition name_of signed_bytes bytes
length_definitions = length_pieces definition 14 (λ f. refl)

pub definitions_append : (fs gs : List ℕ) → definition_bytes (fs ++ gs) ≡ definition_bytes fs ++ definition_bytes gs
definitions_append = pieces_append definition

pub length_postamble : (last pst : ℕ) (cs : List Character) → length (postamble_bytes last pst cs) ≡ 26 + 14 * length (used_fonts 120 cs)
unfolding postamble_bytes trailer_bytes signed_bytes bytes
length_postamble last pst cs =
    rw (length-append (definition_bytes (used_fonts 120 cs)) (trailer_bytes pst)) (omega (arith, length_definitions (used_fonts 120 cs)))

-- ---- the file

pub length_file : (is : List Item) → length (dvi_file is) ≡ 36 + length (items_bytes first_writing is) + 14 * length (used_fonts 120 (characters_of is))
unfolding dvi_file
length_file is = rw (length-append, length_postamble, length_pages is) (omega arith)

pub file_fits : (is : List Item) → length is ≤ max_items → length (dvi_file is) ≤ max_file
file_fits is h = rw length_file (omega (arith, items_bytes_most first_writing is, used_fonts_most 120 (characters_of is)))
