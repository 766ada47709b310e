-- `conversion::convert` meets its contract: the galley's length gives that of the other form, and the room decides.
-- Assumes nothing.
use Rattle.std.proofs.Common.{◌≡◌, ℕ, ◌+◌, ◌-◌, ◌*◌, List, length, take, refl, ap, arith}
use Rattle.octets.specs.Octets.{Bytes}
use Rattle.octets.specs.Answer.{accepted}
use Rattle.octets.specs.AnswerLaws.{gives}
use Rattle.octets.specs.Write.{named, length_wrote}
use Rattle.galley_file.specs.declared.form.Form.{Form}
use Rattle.galley_file.specs.declared.item.Item.{Item}
use Rattle.galley_file.specs.Form.{character_size}
use Rattle.galley_file.specs.FormLaws.{size_times}
use Rattle.galley_file.specs.Galley.{fields, galley, items_of}
use Rattle.galley_file.specs.Fields.{field_items, WholeFields}
use Rattle.galley_file.specs.FieldsLaws.{galley_long, galley_fields, galley_run}
use Rattle.galley_file.specs.Outcome.{check_outcome}
use Rattle.conversion.proofs.Forms.{length_is, few, needed_is, fields_fit, all_written, no_room, with_room}
use Rattle.conversion.proofs.convert.Goals as goal
use Rattle.conversion.proofs.convert.Goals.{After-character_size, After-character_size-2}

-- the bytes of the characters, in each form
from_is : (c : After-character_size) → c.character_size.result * c.args.count ≡ character_size c.args.from * c.args.count
from_is c = ap (λ (n : ℕ). n * c.args.count) c.character_size.ensures.0

to_is : (c : After-character_size-2) → c.character_size-2.result * c.args.count ≡ character_size c.args.to * c.args.count
to_is c = ap (λ (n : ℕ). n * c.args.count) c.character_size-2.ensures.0

pub overflow_mul-rest : goal.overflow_mul-rest
overflow_mul-rest c = omega (arith, from_is c, size_times c.args.from c.args.count, few _ c.args.to _ _ c.requires)

pub overflow_sub-rest : goal.overflow_sub-rest
overflow_sub-rest c = omega (arith, from_is c, length_is _ c.args.to _ _ c.requires)

pub overflow_mul-needed : goal.overflow_mul-needed
overflow_mul-needed c = omega (arith, to_is c, size_times c.args.to c.args.count, few _ c.args.to _ _ c.requires)

needed : (c : After-character_size-2) → length c.args.g.now - c.character_size.result * c.args.count + c.character_size-2.result * c.args.count ≡ length (galley c.args.to (items_of c.args.from c.args.g.now))
needed c = needed_is _ _ _ _ c.requires _ _ (ap (λ (n : ℕ). n * c.args.count) c.character_size.ensures.0) (to_is c)

pub overflow_add-needed : goal.overflow_add-needed
overflow_add-needed c =
    omega (arith, to_is c, size_times c.args.to c.args.count, few _ c.args.to _ _ c.requires, c.well_formed)

pub returns-then-out-needed : goal.returns-then-out-needed
returns-then-out-needed c =
    let a = c.args in
    let q = no_room a.from a.to a.g.now a.count c.requires a.out.now _ (needed (goal.at.returns-then-out-needed c).After-character_size-2) c.if-out-needed.true in
    rw c.at.ensures (gives q refl refl)

-- the items are the galley's
run : (from : Form) (g : List ℕ) (count : ℕ) → accepted count ≡ check_outcome from g → Bytes g → (field_items from (take (length g - 7) g) ≡ items_of from g) × WholeFields from (take (length g - 7) g)
run from g count e b = galley_run from g count e (galley_fields from g count e b)

pub invariant_of-items : goal.invariant_of-items
invariant_of-items c = record { whole = (run _ _ _ c.requires (λ i. (c.type_inv.g i).fits)).1 }

pub slice_bounds-items-count : goal.slice_bounds-items-count
slice_bounds-items-count c = omega (arith, galley_long _ _ _ c.requires)

pub put_items-next-requires : goal.put_items-next-requires
put_items-next-requires c =
    let at = goal.at.put_items-next-requires c in
    omega (arith, ap (λ (is : List Item). length (fields c.args.to is)) (run _ _ _ c.requires (λ i. (c.type_inv.g i).fits)).0, fields_fit _ c.args.to _ _ c.requires, needed at.After-character_size-2, c.if-out-needed.false)

pub overflow_cast-count : goal.overflow_cast-count
overflow_cast-count c = omega (arith, few _ c.args.to _ _ c.requires)

pub put_end-requires : goal.put_end-requires
put_end-requires c =
    let at = goal.at.put_end-requires c in
    let w = c.put_items-next.ensures in
    omega (arith, ap (λ (is : List Item). length (fields c.args.to is)) (run _ _ _ c.requires (λ i. (c.type_inv.g i).fits)).0, fields_fit _ c.args.to _ _ c.requires, needed at.After-character_size-2, c.if-out-needed.false, w.next_is, length_wrote w)

pub returns : goal.returns
returns c =
    let w = named (ap (fields c.args.to) (run _ _ _ c.requires (λ i. (c.type_inv.g i).fits)).0) c.put_items-next.ensures in
    with_room _ _ _ _ c.requires _ _ (needed (goal.at.returns c).After-character_size-2) c.if-out-needed.false _ (all_written _ _ _ _ c.requires _ _ _ _ _ w c.put_end.ensures)
