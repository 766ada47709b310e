-- How long a sheet is, and one field more.
-- Assumes nothing.
use Rattle.std.specs.Prelude.{◌≡◌, refl, List, [], ◌∷◌, ◌++◌, ℕ, ◌+◌, ◌*◌, ◌≤◌, length}
use Rattle.std.proofs.Common.{sym, ap, ◌∙◌, append_assoc, append-nil, arith, length-append}
use Rattle.octets.specs.Octets.{bytes, signed_bytes}
use Rattle.octets.specs.Field.{field, end_field}
use Rattle.octets.specs.FieldLaws.{length_end}
use Rattle.sheet.specs.Sheet.{Mark, page_mark, char_mark, rule_mark, mark_field, mark_fields, sheet}

-- the bytes of a field: 7 for a page, 16 for a character, 20 for a rule
abbrev pub field_size : Mark → ℕ
field_size (page_mark n) = 7
field_size (char_mark x y f c) = 16
field_size (rule_mark kind x y h w) = 20

pub length_mark_field : (m : Mark) → length (mark_field m) ≡ field_size m
unfolding mark_field field signed_bytes bytes
length_mark_field (page_mark n) = refl
length_mark_field (char_mark x y f c) = refl
length_mark_field (rule_mark kind x y h w) = refl

pub field_size_most : (m : Mark) → field_size m ≤ 20
field_size_most (page_mark n) = omega arith
field_size_most (char_mark x y f c) = omega arith
field_size_most (rule_mark kind x y h w) = omega arith

pub mark_fields_append : (ms ns : List Mark) → mark_fields (ms ++ ns) ≡ mark_fields ms ++ mark_fields ns
unfolding mark_fields
mark_fields_append [] ns = refl
mark_fields_append (m ∷ ms) ns =
    ap (λ (l : List ℕ). mark_field m ++ l) (mark_fields_append ms ns)
    ∙ sym (append_assoc (mark_field m) (mark_fields ms) (mark_fields ns))

-- the field of one mark
pub one_field : (m : Mark) → mark_field m ≡ mark_fields (m ∷ [])
unfolding mark_fields
one_field m = sym (append-nil (mark_field m))

-- 20 bytes for each mark, at most
pub fields_most : (ms : List Mark) → length (mark_fields ms) ≤ 20 * length ms
unfolding mark_fields
fields_most [] = omega arith
fields_most (m ∷ ms) = omega (arith, length-append (mark_field m) (mark_fields ms), length_mark_field m, field_size_most m, fields_most ms)

pub length_sheet : (ms : List Mark) → length (sheet ms) ≡ length (mark_fields ms) + 7
unfolding sheet
length_sheet ms = let l = length_end (length ms) in length-append (mark_fields ms) (end_field (length ms)) ∙ (omega arith)
