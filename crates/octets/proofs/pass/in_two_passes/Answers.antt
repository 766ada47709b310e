-- `octets::pass::in_two_passes` meets its contract: what the first pass found and the room decide, and the second writes what was decided.
-- Assumes nothing.
use Rattle.std.proofs.Common.{refl}
use Rattle.octets.specs.Answer.{number_in}
use Rattle.octets.specs.AnswerLaws.{gives_answer, handed_on}
use Rattle.octets.specs.PassLaws.{pass_refused, pass_roomy, pass_second}
use Rattle.octets.proofs.pass.in_two_passes.Goals as goal

pub returns-in_err-answered : goal.returns-in_err-answered
returns-in_err-answered g c =
    gives_answer (handed_on c.from_residual.ensures.1 c.in_err-answered.was)
    (pass_refused (number_in c.args.short) c.answered.result c.pass-found.ensures c.answered.ensures refl c.in_err-answered.was)

pub pass-requires : goal.pass-requires
pass-requires g c = λ w. pass_roomy (number_in c.args.short) c.answered.result c.pass-found.ensures c.answered.ensures c.in_ok-answered.was

pub returns : goal.returns
returns g c = pass_second (number_in c.args.short) c.answered.result c.pass-found.ensures c.answered.ensures refl c.in_ok-answered.was c.pass.ensures
