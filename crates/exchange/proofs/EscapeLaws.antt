-- Every escape, 80 to FE, and every lead, 60 to 7F, may be exchanged, on either machine.
-- Assumes nothing.
use Rattle.std.specs.Prelude.{ℕ, ◌-◌, ◌%◌, ◌≤◌, ◌<◌}
use Rattle.std.proofs.Common.{arith}
use Rattle.typesetter.specs.declared.code.Machine.{Machine}
use Rattle.typesetter.specs.declared.code.Instruction.TheVariants.{Lead, Escape}
use Rattle.typesetter.specs.CodeLaws.{code_escape, code_lead}
use Rattle.exchange.specs.Exchange.{escape_lead, Exchangeable, instructions}

pub escape_and_lead : (machine : Machine) (a b : ℕ) → 0x80 ≤ a → a < 0xFF → 0x60 ≤ b → b < 0x80 → Exchangeable machine a b
escape_and_lead machine a b la ha lb hb =
    instructions {o = Escape (127 - a % 128)} {p = Lead (31 - b % 32)} (code_escape machine a (omega arith) (omega arith)) (code_lead machine b (omega arith) (omega arith)) escape_lead
