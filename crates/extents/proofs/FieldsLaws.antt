-- The items of a run of fields without an End.
--     same_items       they are those of galley_file
--     items_fields     the fields of valid items hold these items
--     fields_of        and are whole fields of valid items
-- Assumes nothing.
use Rattle.std.specs.Prelude.{◌≡◌, refl, List, ℕ}
use Rattle.std.proofs.Common.{sym, ap, subst, ◌∙◌}
use Rattle.measure.specs.Place.{height_end}
use Rattle.galley_file.specs.declared.form.Form.TheVariants.{New}
use Rattle.galley_file.specs.declared.item.Item.{Item}
use Rattle.galley_file.specs.Galley.{AllValid, fields}
use Rattle.galley_file.specs.Fields as run
use Rattle.galley_file.specs.FieldsLaws as laws
use Rattle.extents.specs.Fields.{field_items, FieldsOf}

pub same_items : (s : List ℕ) → run.field_items New s ≡ field_items s
unfolding run.field_items field_items
same_items s = refl

pub items_fields : (is : List Item) → AllValid height_end is → field_items (fields New is) ≡ is
items_fields is v = sym (same_items (fields New is)) ∙ laws.items_fields New is v

pub fields_of : (s : List ℕ) (is : List Item) → AllValid height_end is → s ≡ fields New is → (field_items s ≡ is) × FieldsOf s
fields_of s is v e =
    let q : field_items s ≡ is = ap field_items e ∙ items_fields is v in
    (q, record { all_valid = subst (AllValid height_end) (sym q) v; fields_are = e ∙ ap (fields New) (sym q) })
