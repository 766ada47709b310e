-- The next item stands at the start of the fields, and the others after it.
use Rattle.std.proofs.Common.{◌≡◌, ◌-◌, ◌<◌, ◌≤◌, ◌∷◌, ℕ, List, length, drop, take, sym, ap, subst, ◌∙◌, arith, rules, take_all, length-drop}
use Rattle.galley_file.specs.Item.{item_size}
use Rattle.galley_file.specs.Fields.{field_items, WholeFields}
use Rattle.galley_file.specs.FieldsLaws.{NextField, next_field_is, fields_ended}
use Rattle.galley_file.proofs.items.ItemsIterator.next.Goals as goal
use Rattle.galley_file.proofs.items.ItemsIterator.next.Goals.{After-item_size}

next : (c : After-item_size) → let s = c.args.self.now in NextField s.form s.fields.now c.item_at-item.result
next c =
    let s = c.args.self.now in
    let some : 0 < length s.fields.now = search rules in
    subst (NextField s.form s.fields.now) (sym c.item_at-item.ensures) (next_field_is s.form s.fields.now s.whole some)

pub returns-then-is_empty-clause-steps : goal.returns-then-is_empty-clause-steps
returns-then-is_empty-clause-steps c =
    let s = c.args.self.now in
    let none = fields_ended s.form s.fields.now (search rules) in
    (none, none)

pub item_at-item-requires : goal.item_at-item-requires
item_at-item-requires c =
    let s = c.args.self.now in
    (next_field_is s.form s.fields.now s.whole (search rules)).here

room : (c : After-item_size) → c.item_size.result ≤ length c.args.self.now.fields.now
room c = omega (arith, (next c).room, c.item_size.ensures)

-- the fields after the item
others : (c : After-item_size) → let s = c.args.self.now in
    drop (item_size s.form c.item_at-item.result) s.fields.now ≡ take (length s.fields.now - c.item_size.result) (drop c.item_size.result s.fields.now)
others c =
    let s = c.args.self.now in
    ap (λ (n : ℕ). drop n s.fields.now) (sym c.item_size.ensures)
    ∙ sym (take_all (length s.fields.now - c.item_size.result) (drop c.item_size.result s.fields.now) (omega (arith, length-drop c.item_size.result s.fields.now)))

pub slice_bounds-self-count : goal.slice_bounds-self-count
slice_bounds-self-count c = room (goal.at.slice_bounds-self-count c).After-item_size

pub slice_bounds-self-start : goal.slice_bounds-self-start
slice_bounds-self-start c = let r = room (goal.at.slice_bounds-self-start c).After-item_size in search rules

pub invariant_of-self : goal.invariant_of-self
invariant_of-self c =
    let a = (goal.at.invariant_of-self c).After-item_size in
    record { whole = subst (WholeFields c.args.self.now.form) (others a) (next a).whole }

pub returns-clause-steps : goal.returns-clause-steps
returns-clause-steps c =
    let a = (goal.at.returns-clause-steps c).After-item_size in
    (next a).items ∙ ap (λ (t : List ℕ). c.item_at-item.result ∷ field_items c.args.self.now.form t) (others a)

pub returns-clause-goes : goal.returns-clause-goes
returns-clause-goes c =
    let shorter = ap length (returns-clause-steps c) in
    search rules
