-- `running::Running::started` meets its contract: the machine that is named, and 50 for another.
-- Assumes nothing.
use Rattle.std.specs.Prelude.{◌≡◌, ℕ, Result}
use Rattle.std.proofs.Common.{ap, ◌∙◌}
use Rattle.octets.specs.Answer.{outcome, refused, number_in}
use Rattle.octets.specs.declared.refusal.Reason.{Reason}
use Rattle.octets.specs.declared.refusal.Refusal.{Refusal}
use Rattle.typesetter.specs.declared.code.Machine.{Machine}
use Rattle.typesetter.specs.Code.{machine_of}
use Rattle.running.specs.declared.Running.{Running}
use Rattle.running.specs.declared.Reply.{Reply}
use Rattle.running.specs.Answer.{outcome_in}
use Rattle.running.specs.Running.{Replied, begun, start_on, start_of}
use Rattle.running.proofs.Running.started.Goals as goal

-- a reply to a start, by the machine that is named
starts : (f : Reply) (r : Running) (n : ℕ) {k : Result Machine Reason} → k ≡ machine_of n → (outcome_in f.answer ≡ outcome (start_on r k).result) × (f.tape ≡ (start_on r k).tape)
    → (outcome_in f.answer ≡ outcome (start_of r n).result) × (f.tape ≡ (start_of r n).tape)
unfolding start_of
starts f r n {k} m p =
    let q : start_on r k ≡ start_on r (machine_of n) = ap (start_on r) m in
    (p.0 ∙ ap (λ (x : Replied). outcome x.result) q, p.1 ∙ ap (λ (x : Replied). x.tape) q)

pub returns-in-Ok : goal.returns-in-Ok
returns-in-Ok c =
    let a = c.args in
    starts c.begin.result a.self a.machine c.in-Ok.ensures
    (ap (λ (f : Reply). outcome_in f.answer) c.begin.ensures, ap (λ (f : Reply). f.tape) c.begin.ensures ∙ ap (begun c.in-Ok.machine) c.none-none.ensures)

pub returns-in-Err : goal.returns-in-Err
returns-in-Err c =
    let a = c.args in
    starts c.refusing.result a.self a.machine c.in-Err.ensures
    (ap (λ (f : Reply). outcome_in f.answer) c.refusing.ensures ∙ ap (λ (r : Refusal). refused (number_in r.reason) r.place) c.at.ensures, ap (λ (f : Reply). f.tape) c.refusing.ensures)
