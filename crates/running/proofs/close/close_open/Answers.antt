-- `running::close::close_open` meets its contract: the tests are those of `close_open`, in its order.
-- Assumes nothing.
use Rattle.std.specs.Prelude.{◌≡◌, Bool, true, false, not, length}
use Rattle.std.proofs.Common.{refl, sym, ◌∙◌, arith}
use Rattle.std.proofs.lemmas.Bool.{false≢true}
use Rattle.octets.specs.Field.{end_field}
use Rattle.octets.specs.FieldLaws.{length_end}
use Rattle.running.specs.Running.{is_sound, at_rest_of}
use Rattle.running.specs.RunningLaws.{sound_tape, close_unsound, close_cut, close_unstopped, close_short, close_whole}
use Rattle.running.proofs.Replies.{refuses_now, fails, puts}
use Rattle.running.proofs.close.close_open.Goals as goal
use Rattle.running.proofs.close.close_open.Goals.{Else-not-is_sound}

sound : (c : Else-not-is_sound) → is_sound c.args.tape ≡ true
sound c = sym c.is_sound.ensures ∙ c.if-not-is_sound.false

unstopped : (t : Bool) → not t ≡ true → t ≡ false
unstopped true e = absurd (false≢true e)
unstopped false e = refl

stopped : (t : Bool) → not t ≡ false → t ≡ true
stopped true e = refl
stopped false e = absurd (false≢true (sym e))

pub returns-then-not-is_sound : goal.returns-then-not-is_sound
returns-then-not-is_sound c =
    let a = c.args in
    refuses_now a.tape (close_unsound a.tape (length a.out.now) (sym c.is_sound.ensures ∙ c.if-not-is_sound.true)) c.refusing.ensures c.at.ensures refl

pub returns-then-tape : goal.returns-then-tape
returns-then-tape c =
    let a = c.args in
    fails a.tape (close_cut a.tape (length a.out.now) (sound (goal.at.returns-then-tape c).Else-not-is_sound) c.if-tape.true) c.failing.ensures c.at-then-tape.ensures refl

pub returns-then-not-tape : goal.returns-then-not-tape
returns-then-not-tape c =
    let a = c.args in
    fails a.tape (close_unstopped a.tape (length a.out.now) (sound (goal.at.returns-then-not-tape c).Else-not-is_sound) c.if-tape.false (unstopped a.tape.state.stopped c.if-not-tape.true)) c.failing-then-not-tape.ensures c.at-then-not-tape.ensures refl

pub returns-then-out-lt-END_FIELD : goal.returns-then-out-lt-END_FIELD
returns-then-out-lt-END_FIELD c =
    let a = c.args in
    let short = close_short a.tape (length a.out.now) (sound (goal.at.returns-then-out-lt-END_FIELD c).Else-not-is_sound) c.if-tape.false (stopped a.tape.state.stopped c.if-not-tape.false) c.if-out-lt-END_FIELD.true in
    refuses_now a.tape short c.refusing-then-out-lt-END_FIELD.ensures c.at-then-out-lt-END_FIELD.ensures refl

pub overflow_cast-tape : goal.overflow_cast-tape
overflow_cast-tape c =
    let s = sound_tape c.args.tape (sound (goal.at.overflow_cast-tape c).Else-not-is_sound) in
    record { fits = omega (arith, s.short, s.few) }

pub returns : goal.returns
returns c =
    let a = c.args in
    let n = a.tape.count in
    let whole = close_whole a.tape (length a.out.now) (sound (goal.at.returns c).Else-not-is_sound) c.if-tape.false (stopped a.tape.state.stopped c.if-not-tape.false) c.if-out-lt-END_FIELD.false in
    puts (at_rest_of a.tape) (end_field n) whole c.end.ensures (sym (length_end n)) c.if-out-lt-END_FIELD.false c.put_end.ensures.buffer_is
