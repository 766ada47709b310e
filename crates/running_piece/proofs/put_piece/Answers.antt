-- `running_piece::put_piece` meets its contract: the bytes written are the fields of the piece's items, which are read again for the extents.
-- Assumes nothing.
use mathlib.Core.Path.{◌≡◌, sym, ap, ◌∙◌}
use mathlib.Core.List.{List}
use Prim.Native.Nat.{ℕ, ◌≤◌}
use native.Mathlib.Omega.{arith}
use lib.ListN.{length, take, drop}
use lib.Seq.{sets, take_at}
use Rattle.octets.specs.Write.{sets_start}
use Rattle.galley_file.specs.declared.form.Form.TheVariants.{New}
use Rattle.galley_file.specs.declared.item.Item.{Item}
use Rattle.galley_file.specs.Item.{characters_of}
use Rattle.galley_file.specs.Galley.{fields}
use Rattle.extents.specs.Extents.{with_characters}
use Rattle.extents.specs.Fields.{field_items, FieldsOf}
use Rattle.extents.proofs.FieldsLaws.{fields_of}
use Rattle.tape.specs.Tape.{run}
use Rattle.tape.specs.RunLaws.{run_valid}
use Rattle.running.specs.RunningLaws.{sound_tape}
use Rattle.running_piece.proofs.put_piece.Goals as goal
use Rattle.running_piece.proofs.put_piece.Goals.{After-pass}

-- the first bytes of a buffer that they were written into
first-bytes : (out later bs : List ℕ) (n : ℕ) → n ≡ length bs → n ≤ length out → later ≡ sets out 0 bs → take n later ≡ bs
first-bytes out later bs n e h w = ap (take n) (w ∙ sets_start out bs (omega (arith, e, h))) ∙ take_at bs (drop (length bs) out) n (sym e)

-- what was written is the fields of the piece's items
wrote : (c : After-pass) → let r = (run c.args.tape.state c.args.tape.total c.args.piece.now).items in
    (field_items (take c.args.needed c.pass.new.out) ≡ r) × FieldsOf (take c.args.needed c.pass.new.out)
wrote c =
    let a = c.args in
    let is = (run a.tape.state a.tape.total a.piece.now).items in
    let v = run_valid a.tape.state a.tape.total a.piece.now (sound_tape a.tape c.requires.tape_value.0).state_sound in
    fields_of _ is v (first-bytes a.out.now _ (fields New is) a.needed c.requires.needed_value.0 c.requires.needed_value.1 c.pass.ensures.buffer)

pub pass-requires : goal.pass-requires
pass-requires c =
    record { sound = ((sound_tape c.args.tape c.requires.tape_value.0).state_sound, c.requires.tape_value.1); tape_in_bounds = λ _. omega (arith, c.requires.needed_value.0, c.requires.needed_value.1) }

pub with_fields-requires : goal.with_fields-requires
with_fields-requires c = (wrote (goal.at.with_fields-requires c).After-pass).1

pub returns : goal.returns
returns c =
    let first = c.args.tape.extents in
    (c.with_fields.ensures ∙ ap (λ (is : List Item). with_characters first (characters_of is)) (wrote (goal.at.returns c).After-pass).0, c.pass.ensures.buffer)
