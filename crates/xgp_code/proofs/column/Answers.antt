-- `xgp_code::column` meets its contract: two bytes, or what the first that fails is refused for.
-- Assumes nothing.
use Rattle.std.specs.Prelude.{◌+◌, ◌*◌, ℤ, pos, Ok}
use Rattle.std.proofs.Common.{sym, ap, ◌∙◌}
use Rattle.xgp_code.specs.declared.Code.TheVariants.{Column}
use Rattle.xgp_code.specs.Measure.{in_dots}
use Rattle.xgp_code.specs.Code.{whole, further, columns, one_more, read}
use Rattle.octets.specs.AnswerLaws.{handed_on}
use Rattle.xgp_code.proofs.Codes.{two_bytes}
use Rattle.xgp_code.proofs.column.Goals as goal

pub returns-in_err-high : goal.returns-in_err-high
unfolding columns one_more
returns-in_err-high c = handed_on c.from_residual.ensures.1 (ap one_more (ap one_more (c.in_err-high.ensures.decides _)))

pub returns-in_err-low : goal.returns-in_err-low
unfolding columns one_more
returns-in_err-low c =
    handed_on c.from_residual-in_err-low.ensures.1
    (ap one_more (ap one_more (c.in_ok-high.ensures.decides (λ h. further (λ l. whole (Column (in_dots (pos (128 * h + l)))))) ∙ ap one_more (c.in_err-low.ensures.decides _))))

pub returns : goal.returns
unfolding columns one_more read
returns c =
    let h = c.in_ok-high.high in
    let l = c.in_ok-low.low in
    let d = c.in_ok-high.ensures.decides (λ h. further (λ l. whole (Column (in_dots (pos (128 * h + l)))))) ∙ ap one_more (c.in_ok-low.ensures.decides (λ l. whole (Column (in_dots (pos (128 * h + l)))))) in
    ap (λ (z : ℤ). Ok (record { code = Column (in_dots z); after = 4 })) (two_bytes h l c.in_ok-high.ensures.bounds.0 c.in_ok-low.ensures.bounds.0 c.from.ensures c.from-2.ensures)
    ∙ sym (ap one_more (ap one_more d))
