-- How long the pieces of the file are, and how it grows by one item.
--     parameter_width_range      a number's width is 1 to 4; parameterWidth-holds: so many bytes hold it; parameterWidth-least: no fewer do
--     items_bytes_most           the most bytes of a run of items
--     writing_at                the offset after a run of items
--     writing_behind            the characters set by then
--     Small, writing_small      no number of the writing is too large for four bytes
--     fillers_range             there are four to seven bytes 223, and fillers_fewest no fewer do
--     length_pages              the length of all pages, length_commands of all commands, length_file of the file
--     file_fits                 which a reader takes
-- Assumes nothing.
use Rattle.std.specs.Prelude.{◌≡◌, refl, Bool, cond, List, [], ◌∷◌, ◌++◌, ℕ, zero, suc, ◌+◌, ◌*◌, ◌%◌, ◌≤◌, ◌<◌, ltb, eqb, ℤ, pos, ◌-ℤ◌, length}
use Rattle.std.proofs.Common.{sym, ap, ◌∙◌, append_assoc, append-nil, arith, ltb-true, ltb-false, length-append}
use Rattle.std.proofs.Math.Option.{Option, none, some}
use Rattle.std.specs.Int.Signed.{mag}
use Rattle.integers.specs.Equality.{eq_z}
use Rattle.octets.specs.Octets.{bytes, signed_bytes, Holds}
use Rattle.octets.specs.Octets as octets
use Rattle.octets.specs.OctetsLaws.{by_cond, length_signed_bytes}
use Rattle.octets.specs.WordLaws.{width_range, width_holds, width_least}
use Rattle.octets.proofs.TransducerLaws.{transduced_most, transduced_at}
use Rattle.galley_file.specs.declared.character.Character.{Character}
use Rattle.galley_file.specs.declared.item.Item.{Item}
use Rattle.galley_file.specs.declared.item.Item.TheVariants.{Placed, Cut}
use Rattle.galley_file.specs.Item.{characters_of}
use Rattle.galley_file.specs.Galley.{max_items}
use Rattle.extents.specs.FontMarks.{uses, used_fonts}
use Rattle.dvi.specs.Writer.{Position, name_of}
use Rattle.dvi.specs.WritingLaws.{pieces_append, length_pieces, length_if, if_most, Offsets, Next}
use Rattle.dvi.specs.WritingLaws as S
use Rattle.dvi.proofs.WriterLaws.{used_fonts_most}
use Rattle.dvi2.specs.Command.{EOP, RIGHT1, DOWN1, POSTPOST}
use Rattle.dvi2.specs.File.{max_dvi2}
use Rattle.dvi2.specs.Writer.{h_of, v_of, parameter_width, selects, definition, font_commands, font_change, shortest, move, commands_of, unit_bytes, preamble_bytes, bop_bytes, Writing, first_writing, item_bytes, writing_after, items_bytes, writing_after_all, pages_bytes, definition_bytes, post_bytes, postamble_bytes, command_bytes, fillers, bytes223, dvi2_file}

-- ---- the commands of a character

pub parameter_width_range : (z : ℤ) → (1 ≤ parameter_width z) × (parameter_width z ≤ 4)
unfolding parameter_width
parameter_width_range z =
    by_cond (λ (n : ℕ). (1 ≤ n) × (n ≤ 4)) (ltb (mag z) 128) _ _ (λ _. omega arith) (λ _. omega (arith, width_range z))

pub parameter_width_holds : (z : ℤ) → mag z < 2147483648 → Holds (parameter_width z) z
unfolding parameter_width
parameter_width_holds z h =
    by_cond (λ (n : ℕ). Holds n z) (ltb (mag z) 128) _ _
    (λ t. record { half = omega (arith, ltb-true (mag z) 128 t) })
    (λ _. width_holds z h)

-- no fewer hold it
pub parameter_width_least : (k : ℕ) (z : ℤ) → 1 ≤ k → k < parameter_width z → Holds k z → ⊥
unfolding parameter_width
parameter_width_least k z l =
    by_cond (λ (n : ℕ). k < n → Holds k z → ⊥) (ltb (mag z) 128) _ _
    (λ _ h o. omega arith)
    (λ t. wide k l (ltb-false (mag z) 128 t))
  where
    wide : (k : ℕ) → 1 ≤ k → 128 ≤ mag z → k < octets.width_of z → Holds k z → ⊥
    wide zero a b c o = omega arith
    wide (suc zero) a b c o = omega (arith, o.half)
    wide (suc (suc k)) a b c o = width_least (suc (suc k)) z (omega arith) c o

pub length_definition : (f : ℕ) → length (definition f) ≡ 20
unfolding definition name_of bytes
length_definition f = refl

selects_most : (f : ℕ) → length (selects f) ≤ 2
unfolding selects
selects_most f = by_cond (λ (bs : List ℕ). length bs ≤ 2) (ltb f 64) _ _ (λ _. omega arith) (λ _. omega arith)

font_commands_most : (known : Bool) (f : ℕ) → length (font_commands known f) ≤ 22
unfolding font_commands
font_commands_most known f =
    by_cond (λ (bs : List ℕ). length bs ≤ 22) known _ _
    (λ _. omega (arith, selects_most f))
    (λ _. rw length-append (omega (arith, selects_most f, length_definition f)))

pub font_change_most : (known : Bool) (o : Option ℕ) (f : ℕ) → length (font_change known o f) ≤ 22
unfolding font_change
font_change_most known none f = font_commands_most known f
font_change_most known (some g) f =
    by_cond (λ (bs : List ℕ). length bs ≤ 22) (eqb g f) _ _ (λ _. omega arith) (λ _. font_commands_most known f)

-- a move's length does not depend on its command
pub length_move : (op : ℕ) (m : ℤ) → length (move op m) ≡ cond (eq_z m (pos 0)) 0 (1 + parameter_width m)
unfolding move shortest
length_move op m = length_if (eq_z m (pos 0)) (shortest op m) (1 + parameter_width m) (omega (arith, length_signed_bytes (parameter_width m) m))

pub move_most : (op : ℕ) (m : ℤ) → length (move op m) ≤ 5
unfolding move shortest
move_most op m = if_most (eq_z m (pos 0)) (shortest op m) 5 (omega (arith, length_signed_bytes (parameter_width m) m, parameter_width_range m))

pub commands_of_most : (known : Bool) (p : Position) (c : Character) → length (commands_of known p c) ≤ 34
unfolding commands_of
commands_of_most known p c =
    simp length-append
    (omega (arith, font_change_most known p.font c.font, move_most RIGHT1 (h_of c -ℤ p.x), move_most DOWN1 (v_of c -ℤ p.y)))

-- ---- the bytes of items

pub length_bop : (n : ℕ) (previous : ℤ) → length (bop_bytes n previous) ≡ 45
unfolding bop_bytes signed_bytes bytes
length_bop n previous = refl

pub length_cut : (p : Writing) → length (item_bytes p Cut) ≡ 46
unfolding item_bytes bop_bytes signed_bytes bytes
length_cut p = refl

pub item_bytes_most : (p : Writing) (i : Item) → length (item_bytes p i) ≤ 46
unfolding item_bytes
item_bytes_most p (Placed c) = omega (arith, commands_of_most (uses c.font p.behind) p.position c)
item_bytes_most p Cut = omega (arith, length_cut p)

pub items_bytes_most : (p : Writing) (is : List Item) → length (items_bytes p is) ≤ 46 * length is
items_bytes_most = transduced_most item_bytes writing_after 46 item_bytes_most

-- ---- the writing after them

pub writing_next : (p : Writing) (i : Item) → (writing_after p i).at ≡ p.at + length (item_bytes p i)
unfolding writing_after item_bytes
writing_next p (Placed c) = refl
writing_next p Cut = let l = length_cut p in omega arith

pub writing_at : (p : Writing) (is : List Item) → (writing_after_all p is).at ≡ p.at + length (items_bytes p is)
writing_at = transduced_at item_bytes writing_after (λ p. p.at) writing_next

pub writing_behind : (p : Writing) (is : List Item) → (writing_after_all p is).behind ≡ p.behind ++ characters_of is
unfolding writing_after characters_of
writing_behind p [] = sym (append-nil p.behind)
writing_behind p (Placed c ∷ is) = writing_behind (writing_after p (Placed c)) is ∙ append_assoc p.behind (c ∷ []) (characters_of is)
writing_behind p (Cut ∷ is) = writing_behind (writing_after p Cut) is

abbrev pub offsets_of : Writing → Offsets
offsets_of p = record { page = p.page; bop = p.bop; at = p.at }

-- the numbers of the writing fit four bytes, after n items more too
abbrev pub Small : Writing → ℕ → Type 0
Small p n = S.Small 46 (offsets_of p) n

offsets_next : (p : Writing) (i : Item) → Next 46 (offsets_of p) (offsets_of (writing_after p i))
unfolding writing_after
offsets_next p (Placed c) =
    record { page_next_lem = omega arith; bop_next = λ h. omega arith; at_next = omega (arith, commands_of_most (uses c.font p.behind) p.position c) }
offsets_next p Cut = record { page_next_lem = omega arith; bop_next = λ h. omega arith; at_next = omega arith }

pub small_next : (p : Writing) (i : Item) (n : ℕ) → Small p (suc n) → Small (writing_after p i) n
small_next = S.small_next writing_after offsets_of 46 offsets_next

pub small_first : (n : ℕ) → n ≤ max_items → Small first_writing n
unfolding first_writing
small_first n h = record { bop_before = omega arith; at_small = omega arith; page_small = omega arith }

pub writing_small : (is : List Item) (n : ℕ) → length is + n ≤ max_items → Small (writing_after_all first_writing is) n
writing_small is n h = S.small_all writing_after offsets_of 46 offsets_next first_writing is n (small_first (length is + n) h)

-- ---- all pages

pub length_pages : (is : List Item) → length (pages_bytes is) ≡ 61 + length (items_bytes first_writing is)
unfolding pages_bytes preamble_bytes unit_bytes bop_bytes bytes signed_bytes
length_pages is = rw (length-append (items_bytes first_writing is) (EOP ∷ [])) (omega arith)

-- ---- the postamble

-- 20 bytes for each definition
pub length_definitions : (fs : List ℕ) → length (definition_bytes fs) ≡ 20 * length fs
length_definitions = length_pieces definition 20 length_definition

pub definitions_append : (fs gs : List ℕ) → definition_bytes (fs ++ gs) ≡ definition_bytes fs ++ definition_bytes gs
definitions_append = pieces_append definition

pub length_post : (last pages : ℕ) (cs : List Character) → length (post_bytes last pages cs) ≡ 29
unfolding post_bytes unit_bytes bytes signed_bytes
length_post last pages cs = refl

pub length_postamble : (last pages post : ℕ) (cs : List Character) → length (postamble_bytes last pages post cs) ≡ 35 + 20 * length (used_fonts 120 cs)
unfolding postamble_bytes bytes
length_postamble last pages post cs =
    let fs = used_fonts 120 cs in
    rw (length-append (post_bytes last pages cs) (definition_bytes fs ++ (POSTPOST ∷ bytes 4 post ++ (2 ∷ []))), length-append (definition_bytes fs) (POSTPOST ∷ bytes 4 post ++ (2 ∷ [])))
    (omega (arith, length_post last pages cs, length_definitions fs))

-- ---- the file

pub length_commands : (is : List Item) → length (command_bytes is) ≡ 96 + length (items_bytes first_writing is) + 20 * length (used_fonts 120 (characters_of is))
unfolding command_bytes
length_commands is = rw (length-append, length_postamble, length_pages is) (omega arith)

pub length_223 : (n : ℕ) → length (bytes223 n) ≡ n
unfolding bytes223
length_223 zero = refl
length_223 (suc n) = ap suc (length_223 n)

-- four to seven of them, which make a multiple of four
pub fillers_range : (n : ℕ) → (4 ≤ fillers n) × ((fillers n ≤ 7) × ((n + fillers n) % 4 ≡ 0))
unfolding fillers
fillers_range n = (omega arith, (omega arith, omega arith))

pub fillers_fewest : (n k : ℕ) → 4 ≤ k → (n + k) % 4 ≡ 0 → fillers n ≤ k
unfolding fillers
fillers_fewest n k h e = omega arith

pub length_file : (is : List Item) → length (dvi2_file is) ≡ length (command_bytes is) + fillers (length (command_bytes is))
unfolding dvi2_file
length_file is = rw (length-append, length_223 (fillers (length (command_bytes is))))

pub file_fits : (is : List Item) → length is ≤ max_items → length (dvi2_file is) ≤ max_dvi2
unfolding fillers
file_fits is h = rw (length_file is) (omega (arith, few, length_commands is, items_bytes_most first_writing is, used_fonts_most 120 (characters_of is)))
  where
    few : fillers (length (command_bytes is)) ≤ 7
    few = omega arith
