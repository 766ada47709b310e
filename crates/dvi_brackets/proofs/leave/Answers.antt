-- `dvi_brackets::leave` meets its contract: by how the run ended.
-- Assumes nothing.
use mathlib.Core.Path.{◌≡◌, refl, sym, subst}
use mathlib.Core.List.{[]}
use Prim.Native.Nat.{◌+◌}
use native.Mathlib.Omega.{arith}
use Rattle.octets.specs.declared.refusal.Reason.TheVariants.{EntriesLeft}
use Rattle.dvi_brackets.specs.Reading.{LeavesAt, LeftBy}
use Rattle.dvi_brackets.specs.declared.Item.{Item}
use Rattle.dvi_brackets.specs.declared.Item.TheVariants as I
use Rattle.dvi_brackets.specs.declared.Run.{Run}
use Rattle.dvi_brackets.proofs.leave.Goals as goal
use Rattle.dvi_brackets.proofs.leave.Goals.{Start}

-- the run that the match found
module _ (s : Start) where
  near : {k : Run} → s.args.r ≡ k → LeavesAt s.args.at k
  near e = subst (LeavesAt s.args.at) e s.requires

  left : {k : Run} (i : Item) → s.args.r ≡ k → LeftBy s.args.at s.args.p k i → LeftBy s.args.at s.args.p s.args.r i
  left {k} i e h = subst (λ (j : Run). LeftBy s.args.at s.args.p j i) (sym e) h

pub overflow_add-result : goal.overflow_add-result
overflow_add-result c = omega (arith, near (goal.at.overflow_add-result c).Start c.in-Pop.is)

pub overflow_add-result-in-Eop : goal.overflow_add-result-in-Eop
overflow_add-result-in-Eop c = omega (arith, near (goal.at.overflow_add-result-in-Eop c).Start c.in-Eop.is)

pub overflow_add-result-in-Eop-2 : goal.overflow_add-result-in-Eop-2
overflow_add-result-in-Eop-2 c = omega (arith, near (goal.at.overflow_add-result-in-Eop-2 c).Start c.in-Eop.is)

pub returns-in-Fault : goal.returns-in-Fault
returns-in-Fault c = left (goal.at.returns-in-Fault c).Start (I.Fault c.in-Fault.reason c.in-Fault.place) c.in-Fault.is refl

pub returns-in-Pop : goal.returns-in-Pop
returns-in-Pop c =
    left (goal.at.returns-in-Pop c).Start (I.Past c.with_numbers.result (c.in-Pop.n + 1) c.in-Pop.to c.in-Pop.count) c.in-Pop.is (c.with_numbers.result, (c.with_numbers.ensures [], refl))

pub returns-in-Eop : goal.returns-in-Eop
returns-in-Eop c =
    left (goal.at.returns-in-Eop c).Start (I.Fault EntriesLeft (c.args.at + 1 + c.in-Eop.n)) c.in-Eop.is refl
