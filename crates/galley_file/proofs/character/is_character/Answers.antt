-- `galley_file::character::is_character` meets its contract: the head decides, then the height as a natural number, then the rest.
-- Assumes nothing.
use mathlib.Core.Path.{◌≡◌, sym, ◌∙◌}
use mathlib.Core.Bool.{false}
use native.Mathlib.Omega.{arith}
use borrow.Author.Rules.{rules}
use lib.IntN.{pos}
use lib.Signed.{le_z}
use mir.Syntax.{w32}
use mir.Val.{SFits, to_z, of_z}
use Rattle.integers.specs.Parts.{integers, false_le_z}
use Rattle.integers.specs.Bits.{plain}
use Rattle.octets.specs.Octets.{nat_at}
use Rattle.octets.specs.Field.{starts_field}
use Rattle.octets.specs.FieldLaws.{Starts, starts}
use Rattle.galley_file.specs.Form.{character_tag, height_bytes, body_bytes, greatest_height}
use Rattle.galley_file.specs.FormLaws.{form_sizes, limit_fits, limit_abs}
use Rattle.galley_file.specs.Character.{character_at, is_character}
use Rattle.galley_file.specs.CharacterLaws.{too_high}
use Rattle.galley_file.proofs.character.is_character.Goals as goal
use Rattle.galley_file.proofs.character.is_character.Goals.{After-starts_field, Then-starts_field, After-greatest_height}

-- whether the field's head is a character's
module _ (c : After-starts_field) where
  head_is : c.starts_field.result ≡ starts_field (character_tag c.args.f) (body_bytes c.args.f) c.args.s.now
  head_is =
      c.starts_field.ensures
      ∙ (λ i. starts_field (c.character_tag.ensures i) (c.body_bytes.ensures i) c.args.s.now)

-- what the head tells
head : (c : Then-starts_field) → Starts (character_tag c.args.f) (body_bytes c.args.f) c.args.s.now
head c = starts (sym (head_is (record { before = c.before.before; type_inv = record { s = c.type_inv.s } })) ∙ c.if-starts_field.true)

pub height_at-requires : goal.height_at-requires
height_at-requires c = let f = form_sizes c.args.f in omega (arith, (head c).long, f.body_is)

-- the limit, as the test has it
limit_is : (c : After-greatest_height) → to_z w32 (of_z w32 c.greatest_height.result.0) ≡ greatest_height c.args.f
limit_is c = let f : SFits w32 c.greatest_height.result.0 = search rules in plain f ∙ c.greatest_height.ensures

pub overflow_cast-greatest_height : goal.overflow_cast-greatest_height
overflow_cast-greatest_height c = rw (limit_is (goal.at.overflow_cast-greatest_height c).After-greatest_height) (limit_fits c.args.f)

pub is_valid_first-requires : goal.is_valid_first-requires
is_valid_first-requires c =
    let f = form_sizes c.args.f in
    let test = rw (limit_is (goal.at.is_valid_first-requires c).After-greatest_height) at c.if-height_at-greatest_height.true in
    (omega (arith, (head (goal.at.is_valid_first-requires c).Then-starts_field).long, f.body_is, f.size_is), omega (integers, c.height_at.ensures, test, limit_abs c.args.f))

pub returns-then-height_at-greatest_height : goal.returns-then-height_at-greatest_height
unfolding is_character
returns-then-height_at-greatest_height c =
    simp (sym (head_is (goal.at.returns-then-height_at-greatest_height c).After-starts_field) ∙ c.if-starts_field.true) c.is_valid_first.ensures

pub returns-else-height_at-greatest_height : goal.returns-else-height_at-greatest_height
unfolding is_character character_at
returns-else-height_at-greatest_height c =
    let a = c.args in
    let s = a.s.now in
    let n = nat_at (height_bytes a.f) 5 s in
    let test = rw (limit_is (goal.at.returns-else-height_at-greatest_height c).After-greatest_height) at c.if-height_at-greatest_height.false in
    let h : le_z (pos n) (greatest_height a.f) ≡ false = false_le_z (pos n) (greatest_height a.f) (omega (integers, c.height_at.ensures, test, limit_abs a.f)) in
    simp (sym (head_is (goal.at.returns-else-height_at-greatest_height c).After-starts_field) ∙ c.if-starts_field.true) (sym (too_high (greatest_height a.f) (character_at a.f s 0) h))

pub returns-else-starts_field : goal.returns-else-starts_field
unfolding is_character
returns-else-starts_field c = simp (sym (head_is (goal.at.returns-else-starts_field c).After-starts_field) ∙ c.if-starts_field.false)
