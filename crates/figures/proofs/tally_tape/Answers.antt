-- `figures::tally_tape` meets its contract: 1 over the whole tape, then 50, and then the tape counted from the start of its machine.
-- Assumes nothing.
use Rattle.std.specs.Prelude.{Err}
use Rattle.std.proofs.lemmas.Grind.{common_steps}
use Rattle.std.proofs.Common.{◌≡◌, sym, ap, ◌∙◌, subst, lit≤, arith}
use Rattle.octets.specs.declared.refusal.Reason.TheVariants.{TapeTooLong, NoMachine}
use Rattle.typesetter.specs.declared.machine.State.{State}
use Rattle.typesetter.specs.Code.{machine_of}
use Rattle.typesetter.specs.SoundLaws.{start_sound}
use Rattle.figures.specs.Figures.{Figures, figures_of}
use Rattle.figures.specs.Counting.{Tally, figures_from, Tallied}
use Rattle.figures.specs.FiguresLaws.{figures_long, figures_none, figures_on}
use Rattle.figures.proofs.Countings.{tallied_refused}
use Rattle.figures.proofs.tally_tape.Goals as goal

pub returns-then-tape-gt-MAX_TAPE : goal.returns-then-tape-gt-MAX_TAPE
returns-then-tape-gt-MAX_TAPE c = let a = c.args in
    tallied_refused _ a.fonts.now TapeTooLong (figures_long a.tape.now a.machine c.if-tape-gt-MAX_TAPE.true)

pub returns-in_err-machine : goal.returns-in_err-machine
returns-in_err-machine c = let a = c.args in
    let f : c.from_residual.result ≡ Err NoMachine = grind (arith, common_steps) in
    let e : machine_of a.machine ≡ Err NoMachine = grind (arith, common_steps) in
    subst (λ (t : Tally). Tallied (figures_of a.tape.now a.machine) t a.fonts.now) (sym f)
    (tallied_refused _ a.fonts.now NoMachine (figures_none a.tape.now a.machine c.if-tape-gt-MAX_TAPE.false e))

pub tally_from-requires : goal.tally_from-requires
tally_from-requires c = ((rw c.at_start.ensures (start_sound c.in_ok-machine.machine), c.if-tape-gt-MAX_TAPE.false), c.requires)

pub returns : goal.returns
returns c = let a = c.args in
    let e = figures_on a.tape.now a.machine c.if-tape-gt-MAX_TAPE.false c.in_ok-machine.machine (sym c.try_from.ensures ∙ c.in_ok-machine.was) ∙ ap (λ (s : State). figures_from s a.tape.now) (sym c.at_start.ensures) in
    subst (λ (f : Figures). Tallied f c.tally_from.result c.tally_from.new.fonts) (sym e) c.tally_from.ensures
