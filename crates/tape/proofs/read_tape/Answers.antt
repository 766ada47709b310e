-- `tape::read_tape` meets its contract: 1 over the whole tape, then 50, and then the tape read from the start of its machine.
-- Assumes nothing.
use mathlib.Core.Path.{refl, sym, ap, ◌∙◌}
use lib.ListN.{length}
use Rattle.std.specs.Prelude.{◌≡◌, Ok, Err}
use Rattle.octets.specs.declared.refusal.Reason.TheVariants.{NoMachine}
use Rattle.std.proofs.lemmas.Grind.{common_steps}
use native.Mathlib.Omega.{arith}
use Rattle.typesetter.specs.Code.{machine_of}
use Rattle.octets.specs.Answer.{outcome_of}
use Rattle.octets.specs.AnswerLaws.{gives, gives_same}
use Rattle.tape.specs.ResultLaws.{long_tape, other_machine, on_machine_lem}
use Rattle.tape.proofs.read_tape.Goals as goal

pub returns-then-tape-gt-MAX_TAPE : goal.returns-then-tape-gt-MAX_TAPE
returns-then-tape-gt-MAX_TAPE c =
    let a = c.args in
    gives (long_tape a.tape.now a.machine (length a.galley.now) c.if-tape-gt-MAX_TAPE.true) (ap outcome_of (ap Err c.at.ensures)) refl

pub returns-in_err-machine : goal.returns-in_err-machine
returns-in_err-machine c =
    let a = c.args in
    let f : c.from_residual.result ≡ Err (record { reason = NoMachine; place = 0 }) = grind (arith, common_steps) in
    let e : machine_of a.machine ≡ Err NoMachine = grind (arith, common_steps) in
    gives (other_machine a.tape.now a.machine (length a.galley.now) c.if-tape-gt-MAX_TAPE.false e) (ap outcome_of f) refl

pub returns : goal.returns
returns c =
    let a = c.args in
    let e : c.try_from.result ≡ Ok c.in_ok-machine.machine = grind (arith, common_steps) in
    gives_same (on_machine_lem a.tape.now a.machine (length a.galley.now) c.if-tape-gt-MAX_TAPE.false (sym c.try_from.ensures ∙ e) c.at_start.ensures) c.read_from.ensures
