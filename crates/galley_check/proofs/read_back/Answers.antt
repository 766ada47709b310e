-- `galley_check::read_back` meets its contract: the check's answer decides; an accepted galley has its character n at byte 11 n where
-- there are no cuts, and else it is looked for.
use Rattle.std.proofs.Common.{◌≡◌, ℕ, List, sym, ap, ◌∙◌, arith, rules}
use Rattle.std.specs.Prelude.{Result, Ok}
use Rattle.octets.specs.declared.refusal.Refusal.{Refusal}
use Rattle.octets.specs.Answer.{accepted}
use Rattle.galley_file.specs.declared.form.Form.TheVariants.{New}
use Rattle.galley_file.specs.Galley.{whole, items_of}
use Rattle.galley_file.specs.Outcome.{check_outcome}
use Rattle.galley_check.specs.declared.galley.CheckedGalley.{CheckedGalley}
use Rattle.galley_check.specs.Galley.{ChecksAs}
use Rattle.galley_check.specs.Accepted.{accepted_as}
use Rattle.galley_check.specs.Found.{found, pick_found}
use Rattle.galley_check.proofs.Back.{back_refused, back_accepted, back_few, back_room, back_found, back_none}
use Rattle.galley_check.proofs.read_back.Goals as goal
use Rattle.galley_check.proofs.read_back.Goals.{In_ok-galley}

-- the galley was made of the bytes
checked_is : (g : List ℕ) (r : Result CheckedGalley Refusal) (k : CheckedGalley) → r ≡ Ok k → ChecksAs g r → k.bytes.now ≡ g
checked_is g r k e h = rw e at h

counted : (c : In_ok-galley) → accepted c.in_ok-galley.galley.count ≡ check_outcome New c.args.g.now
counted c =
    let g = c.in_ok-galley.galley in
    let k = checked_is _ _ _ c.in_ok-galley.was c.of.ensures in
    accepted_as New g.bytes.now g.count g.accepted ∙ ap (check_outcome New) k

pub returns-in_err-galley : goal.returns-in_err-galley
returns-in_err-galley c =
    let refused_is = rw c.in_err-galley.was at c.of.ensures in
    let same = back_refused _ c.args.n _ _ refused_is in
    search rules

pub returns-then-galley-n : goal.returns-then-galley-n
returns-then-galley-n c = rw c.at.ensures (back_none _ _ _ (counted (goal.at.returns-then-galley-n c).In_ok-galley) c.if-galley-n.true)

pub overflow_mul-galley : goal.overflow_mul-galley
overflow_mul-galley c = omega (arith, back_few _ _ (counted (goal.at.overflow_mul-galley c).In_ok-galley))

pub overflow_add-galley : goal.overflow_add-galley
overflow_add-galley c = omega (arith, back_few _ _ (counted (goal.at.overflow_add-galley c).In_ok-galley))

pub overflow_mul-n : goal.overflow_mul-n
overflow_mul-n c = omega (arith, back_few _ _ (counted (goal.at.overflow_mul-n c).In_ok-galley), c.if-galley-n.false)

pub character_at-requires : goal.character_at-requires
character_at-requires c = back_room _ _ _ (counted (goal.at.character_at-requires c).In_ok-galley) c.if-g-galley.true (omega (arith, c.if-galley-n.false))

pub returns-then-g-galley : goal.returns-then-g-galley
returns-then-g-galley c =
    ap found c.character_at.ensures
    ∙ back_found _ _ _ (counted (goal.at.returns-then-g-galley c).In_ok-galley) c.if-g-galley.true (omega (arith, c.if-galley-n.false))

pub returns : goal.returns
returns c =
    let k = checked_is _ _ _ c.in_ok-galley.was c.of.ensures in
    let e = counted (goal.at.returns c).In_ok-galley in
    c.character.ensures ∙ ap (λ (g : List ℕ). pick_found c.args.n (whole (items_of New g))) k ∙ sym (back_accepted _ c.args.n _ e)
