-- `spatecanter_running::sp_start` meets its contract: the words hold the running tape before, and after.
-- Assumes nothing.
use mathlib.Core.Path.{ap, subst, ◌∙◌}
use Rattle.octets.specs.Answer.{numbers_of, outcome}
use Rattle.running.specs.declared.Running.{Running}
use Rattle.running.specs.Running.{Replied, start_of}
use Rattle.spatecanter_running.specs.Words.{Holds}
use Rattle.spatecanter_running.proofs.sp_start.Goals as goal

pub returns : goal.returns
returns c =
    let a = c.args in
    let f = c.started-reply.ensures in
    let g = ap (λ (r : Running). start_of r a.machine) c.tape_in.ensures in
    (c.numbers.ensures ∙ ap numbers_of (f.0 ∙ ap (λ (x : Replied). outcome x.result) g), subst (Holds _) (f.1 ∙ ap (λ (x : Replied). x.tape) g) c.words_of.ensures)
