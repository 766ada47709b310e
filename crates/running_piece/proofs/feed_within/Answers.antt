-- `running_piece::feed_within` meets its contract: what the first pass finds, and the room, decide; the second pass writes.
-- Assumes nothing.
use mathlib.Core.Path.{◌≡◌, sym, ap, ◌∙◌}
use mathlib.Core.Bool.{true≢false}
use mathlib.Core.List.{List}
use Prim.Native.Nat.{ℕ, ◌+◌, ◌*◌, ◌≤◌, ◌<◌}
use native.Mathlib.Omega.{arith}
use lib.ListN.{length}
use lib.Seq.{sets}
use Rattle.octets.specs.Answer.{no_galley_room}
use Rattle.galley_file.specs.declared.form.Form.TheVariants.{New}
use Rattle.galley_file.specs.declared.item.Item.{Item}
use Rattle.galley_file.specs.Galley.{fields}
use Rattle.tape.specs.Tape.{run}
use Rattle.tape.specs.ResultLaws.{fields_counted}
use Rattle.running.specs.declared.Running.{Running}
use Rattle.running.specs.Running.{refusing, grown}
use Rattle.running.specs.RunningLaws.{SoundTape, sound_tape, piece_short, piece_whole}
use Rattle.running.proofs.Replies.{refuses_now, puts, grew}
use Rattle.running_piece.proofs.feed_within.Goals as goal
use Rattle.running_piece.proofs.feed_within.Goals.{After-pass-r}

-- what the first pass has found of the piece
module _ (c : After-pass-r) where
  abbrev tape : Running
  tape = c.args.tape

  abbrev piece : List ℕ
  piece = c.args.piece.now

  abbrev items : List Item
  items = (run tape.state tape.total piece).items

  -- the bytes of its fields
  counted : 11 * c.pass-r.result.count + c.pass-r.result.cuts ≡ length (fields New items)
  counted = fields_counted _ _ _ c.pass-r.ensures.counted c.pass-r.ensures.cut_bytes

  sound : SoundTape tape
  sound = sound_tape tape c.requires.0

pub pass-r-requires : goal.pass-r-requires
pass-r-requires c =
    record { sound = ((sound_tape c.args.tape c.requires.0).state_sound, omega (arith, c.requires.1)); tape_in_bounds = λ h. absurd (true≢false (sym h)) }

pub overflow_add-result-2 : goal.overflow_add-result-2
overflow_add-result-2 c =
    let s = sound (goal.at.overflow_add-result-2 c).After-pass-r in
    record { fits = omega (arith, s.short, s.few, c.pass-r.ensures.few) }

pub returns-then-out-needed : goal.returns-then-out-needed
returns-then-out-needed c =
    let a = c.args in
    let p = (goal.at.returns-then-out-needed c).After-pass-r in
    let e = sym c.pass-r.ensures.ended ∙ c.in-Ok.is in
    let short : length a.out.now < length (fields New (items p)) = omega (arith, counted p, c.if-out-needed.true, ap length c.pass-r.ensures.buffer) in
    refuses_now a.tape (piece_short a.tape (length a.piece.now) (items p) (length a.out.now) e short ∙ ap (refusing a.tape no_galley_room) (sym (counted p)))
    c.refusing.ensures c.at.ensures c.pass-r.ensures.buffer

pub put_piece-requires-clause-needed_value : goal.put_piece-requires-clause-needed_value
put_piece-requires-clause-needed_value c =
    (counted (goal.at.put_piece-requires-clause-needed_value c).After-pass-r, omega (arith, c.if-out-needed.false))

pub returns : goal.returns
returns c =
    let a = c.args in
    let p = (goal.at.returns c).After-pass-r in
    let n = length a.piece.now in
    let is = items p in
    let e = sym c.pass-r.ensures.ended ∙ c.in-Ok.is in
    let room : length (fields New is) ≤ length a.out.now = omega (arith, counted p, c.if-out-needed.false, ap length c.pass-r.ensures.buffer) in
    let q = c.put_piece.ensures in
    let w = q.1 ∙ ap (λ (o : List ℕ). sets o 0 (fields New is)) c.pass-r.ensures.buffer in
    puts (grown a.tape _ n is) (fields New is) (piece_whole a.tape n is (length a.out.now) e room) (grew a.tape _ n _ _ is _ c.pass-r.ensures.counted q.0) (counted p) (omega (arith, counted p, room)) w
