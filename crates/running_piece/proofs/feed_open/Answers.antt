-- `running_piece::feed_open` meets its contract: 13 for one that the calls have not made, 1 over the total, and then the piece.
-- Assumes nothing.
use mathlib.Core.Path.{◌≡◌, refl, sym, ◌∙◌}
use mathlib.Core.Bool.{true}
use Prim.Native.Nat.{◌+◌, ◌≤◌, ◌<◌}
use native.Mathlib.Omega.{arith}
use lib.ListN.{length}
use Rattle.tape.specs.Tape.{max_tape}
use Rattle.running.specs.Running.{is_sound}
use Rattle.running.specs.RunningLaws.{sound_tape, feed_unsound, feed_long, feed_fits, leaves_same}
use Rattle.running.proofs.Replies.{refuses_now, fails}
use Rattle.running_piece.proofs.feed_open.Goals as goal
use Rattle.running_piece.proofs.feed_open.Goals.{Else-not-is_sound, Else-tape-piece}

sound : (k : Else-not-is_sound) → is_sound k.args.tape ≡ true
sound k = sym k.is_sound.ensures ∙ k.if-not-is_sound.false

pub returns-then-not-is_sound : goal.returns-then-not-is_sound
returns-then-not-is_sound c =
    let a = c.args in
    refuses_now a.tape (feed_unsound a.tape a.piece.now (length a.out.now) (sym c.is_sound.ensures ∙ c.if-not-is_sound.true)) c.refusing.ensures c.at.ensures refl

pub overflow_sub-tape : goal.overflow_sub-tape
overflow_sub-tape c = omega (arith, (sound_tape c.args.tape (sound (goal.at.overflow_sub-tape c).Else-not-is_sound)).short)

pub returns-then-tape-piece : goal.returns-then-tape-piece
returns-then-tape-piece c =
    let a = c.args in
    let s = sound (goal.at.returns-then-tape-piece c).Else-not-is_sound in
    let long : max_tape < a.tape.total + length a.piece.now = omega (arith, c.if-tape-piece.true, (sound_tape a.tape s).short) in
    fails a.tape (feed_long a.tape a.piece.now (length a.out.now) s long) c.failing.ensures c.at-then-tape-piece.ensures refl

-- within the limit
fits : (e : Else-tape-piece) → e.args.tape.total + length e.args.piece.now ≤ max_tape
fits e = omega (arith, e.if-tape-piece.false, (sound_tape e.args.tape (sym e.is_sound.ensures ∙ e.if-not-is_sound.false)).short)

pub feed_within-requires : goal.feed_within-requires
feed_within-requires c =
    (sound (goal.at.feed_within-requires c).Else-not-is_sound, fits (goal.at.feed_within-requires c).Else-tape-piece)

pub returns : goal.returns
returns c =
    let a = c.args in
    leaves_same (feed_fits a.tape a.piece.now (length a.out.now) (sound (goal.at.returns c).Else-not-is_sound) (fits (goal.at.returns c).Else-tape-piece)) c.feed_within.ensures
