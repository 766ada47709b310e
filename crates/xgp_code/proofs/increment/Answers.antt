-- `xgp_code::increment` meets its contract: one byte, or what it is refused for.
-- Assumes nothing.
use Rattle.std.specs.Prelude.{ℤ, Ok}
use Rattle.std.proofs.Common.{sym, ap, ◌∙◌, w32}
use Rattle.integers.specs.Bits.{returned}
use Rattle.octets.specs.Octets.{twos}
use Rattle.xgp_code.specs.declared.Code.TheVariants.{Increment}
use Rattle.xgp_code.specs.Measure.{in_dots}
use Rattle.xgp_code.specs.Code.{whole, increments, one_more, read}
use Rattle.octets.specs.AnswerLaws.{handed_on}
use Rattle.xgp_code.proofs.increment.Goals as goal

pub returns-in_err-b : goal.returns-in_err-b
unfolding increments one_more
returns-in_err-b c = handed_on c.from_residual.ensures.1 (ap one_more (c.in_err-b.ensures.decides _))

pub returns : goal.returns
unfolding increments one_more read
returns c =
    ap (λ (z : ℤ). Ok (record { code = Increment (in_dots z); after = 2 })) (returned w32 c.signed7.type_inv c.signed7.ensures)
    ∙ sym (ap one_more (c.in_ok-b.ensures.decides (λ b. whole (Increment (in_dots (twos 128 b))))))
