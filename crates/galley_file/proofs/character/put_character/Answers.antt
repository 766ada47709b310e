-- `galley_file::character::put_character` meets its contract: one write after the other.
-- Assumes nothing.
use mathlib.Core.Path.{refl, sym, ap}
use mathlib.Core.List.{◌∷◌, ◌++◌}
use Prim.Native.Nat.{ℕ, ◌+◌, ◌≤◌}
use native.Mathlib.Omega.{arith}
use borrow.Author.Rules.{rules}
use lib.ListN.{length}
use mir.Syntax.{w32}
use mir.Val.{SFits}
use Rattle.integers.specs.Bits.{plain}
use Rattle.octets.specs.Octets.{bytes, signed_bytes}
use Rattle.octets.specs.OctetsLaws.{length_signed_bytes}
use Rattle.octets.specs.Field.{field}
use Rattle.octets.specs.Write.{room_after, then, named}
use Rattle.galley_file.specs.Form.{character_tag, height_bytes}
use Rattle.galley_file.specs.FormLaws.{form_sizes}
use Rattle.galley_file.specs.Character.{character_body, character_field}
use Rattle.galley_file.specs.CharacterLaws.{length_character_body}
use Rattle.galley_file.proofs.character.put_character.Goals as goal
use Rattle.galley_file.proofs.character.put_character.Goals.{Start, After-put_head-to, After-put_signed2-to, After-put_height-to}

-- the room for the whole field
room : (s : Start) → s.args.at + (3 + (2 + (height_bytes s.args.f + 2))) ≤ length s.args.out.now
room s = omega (arith, s.requires, (form_sizes s.args.f).size_is)

-- the room after the head, after x, and after the height
after-head : (c : After-put_head-to) → c.put_head-to.result + (2 + (height_bytes c.args.f + 2)) ≤ length c.put_head-to.new.out
unfolding bytes
after-head c = room_after c.put_head-to.ensures 3 _ refl (room c.before.before.before.before.before)

pub put_signed2-to-requires : goal.put_signed2-to-requires
put_signed2-to-requires c = omega (arith, after-head (goal.at.put_signed2-to-requires c).After-put_head-to)

after-x : (c : After-put_signed2-to) → c.put_signed2-to.result + (height_bytes c.args.f + 2) ≤ length c.put_signed2-to.new.out
unfolding bytes signed_bytes
after-x c = room_after c.put_signed2-to.ensures 2 _ refl (after-head c.before.before.before.before.before.before)

pub put_height-to-requires : goal.put_height-to-requires
put_height-to-requires c = omega (arith, after-x (goal.at.put_height-to-requires c).After-put_signed2-to)

after-height : (c : After-put_height-to) → c.put_height-to.result + 2 ≤ length c.put_height-to.new.out
after-height c =
    let a = c.args in
    room_after c.put_height-to.ensures (height_bytes a.f) 2 (length_signed_bytes (height_bytes a.f) a.c.height.0) (after-x (record { before = c.before.before.before.before.before.before; type_inv = record { c = c.type_inv.c } }))

pub put_byte-to-requires : goal.put_byte-to-requires
put_byte-to-requires c = omega (arith, after-height (goal.at.put_byte-to-requires c).After-put_height-to)

pub put_byte-requires : goal.put_byte-requires
put_byte-requires c = room_after c.put_byte-to.ensures 1 1 refl (after-height (goal.at.put_byte-requires c).After-put_height-to)

pub returns : goal.returns
unfolding character_field character_body field bytes
returns c =
    let a = c.args in
    let x : SFits w32 a.c.x.0 = search rules in
    let n = length_character_body a.f a.c in
    named (ap (λ (k : ℕ). character_tag a.f ∷ bytes 2 k ++ character_body a.f a.c) (sym n))
    (then (named (λ i. c.character_tag.ensures i ∷ bytes 2 (c.body_bytes.ensures i)) c.put_head-to.ensures)
    (then (named (ap (signed_bytes 2) (plain x)) c.put_signed2-to.ensures)
    (then c.put_height-to.ensures (then c.put_byte-to.ensures c.put_byte.ensures))))
