-- `typesetter::code::Machine::classify` meets its contract: the tests that led to each `return` sort the code, and the sorting is the table at all 256 codes.
-- Assumes nothing.
use borrow.Author.Tests.{eq-eqb, ne_eqb}
use mathlib.Core.Path.{◌≡◌, ap, ◌∙◌}
use Prim.Native.Nat.{ℕ, ◌<◌}
use lib.Bits.{and_mask}
use lib.ListN.{get_or}
use Rattle.typesetter.specs.declared.code.Machine.{Machine}
use Rattle.typesetter.specs.declared.code.Code.{Code}
use Rattle.typesetter.specs.declared.code.Code.TheVariants.{Illegal, Instructs}
use Rattle.typesetter.specs.declared.code.Instruction.TheVariants.{Size, Lead, Escape}
use Rattle.typesetter.specs.Code.{code_of, controls}
use Rattle.typesetter.proofs.Codes.{sorted, sorted_is}
use Rattle.typesetter.proofs.code.Machine.classify.Goals as goal

sorted-as : {x : Code} (machine : Machine) (b : ℕ) → b < 256 → x ≡ sorted machine b → x ≡ code_of machine b
sorted-as machine b h e = e ∙ sorted_is machine b h

pub returns-then-b-eq0 : goal.returns-then-b-eq0
returns-then-b-eq0 c = sorted-as c.args.self c.args.b c.ranges.b.fits (simp (eq-eqb _ _ c.if-b-eq0.true))

pub returns-then-b-eq255 : goal.returns-then-b-eq255
returns-then-b-eq255 c = sorted-as c.args.self c.args.b c.ranges.b.fits (simp (ne_eqb _ _ c.if-b-eq0.false, eq-eqb _ _ c.if-b-eq255.true))

pub returns-then-b-eq1 : goal.returns-then-b-eq1
returns-then-b-eq1 c = ap (λ (k : ℕ). Instructs (Escape k)) c.escape_size.ensures ∙ sorted-as c.args.self c.args.b c.ranges.b.fits (simp (ne_eqb _ _ c.if-b-eq0.false, ne_eqb _ _ c.if-b-eq255.false, eq-eqb _ _ c.if-b-eq1.true))

pub returns-then-b-eq0-2 : goal.returns-then-b-eq0-2
returns-then-b-eq0-2 c = sorted-as c.args.self c.args.b c.ranges.b.fits (simp (ne_eqb _ _ c.if-b-eq0.false, ne_eqb _ _ c.if-b-eq255.false, ne_eqb _ _ c.if-b-eq1.false, eq-eqb _ _ c.if-b-eq0-2.true))

pub returns-then-b-eq3 : goal.returns-then-b-eq3
returns-then-b-eq3 c = ap (λ (k : ℕ). Instructs (Lead k)) c.lead_size.ensures ∙ sorted-as c.args.self c.args.b c.ranges.b.fits (simp (ne_eqb _ _ c.if-b-eq0.false, ne_eqb _ _ c.if-b-eq255.false, ne_eqb _ _ c.if-b-eq1.false, ne_eqb _ _ c.if-b-eq0-2.false, eq-eqb _ _ c.if-b-eq3.true))

pub returns-then-b-eq4 : goal.returns-then-b-eq4
returns-then-b-eq4 c = c.control.ensures ∙ ap (λ (k : ℕ). get_or (controls c.args.self) k Illegal) (and_mask c.args.b 4) ∙ sorted-as c.args.self c.args.b c.ranges.b.fits (simp (ne_eqb _ _ c.if-b-eq0.false, ne_eqb _ _ c.if-b-eq255.false, ne_eqb _ _ c.if-b-eq1.false, ne_eqb _ _ c.if-b-eq0-2.false, ne_eqb _ _ c.if-b-eq3.false, eq-eqb _ _ c.if-b-eq4.true))

pub returns-then-b-eq95 : goal.returns-then-b-eq95
returns-then-b-eq95 c = sorted-as c.args.self c.args.b c.ranges.b.fits (simp (ne_eqb _ _ c.if-b-eq0.false, ne_eqb _ _ c.if-b-eq255.false, ne_eqb _ _ c.if-b-eq1.false, ne_eqb _ _ c.if-b-eq0-2.false, ne_eqb _ _ c.if-b-eq3.false, ne_eqb _ _ c.if-b-eq4.false, eq-eqb _ _ c.if-b-eq95.true))

pub returns-else-b-eq95 : goal.returns-else-b-eq95
returns-else-b-eq95 c = ap (λ (k : ℕ). Instructs (Size k)) (and_mask c.args.b 4) ∙ sorted-as c.args.self c.args.b c.ranges.b.fits (simp (ne_eqb _ _ c.if-b-eq0.false, ne_eqb _ _ c.if-b-eq255.false, ne_eqb _ _ c.if-b-eq1.false, ne_eqb _ _ c.if-b-eq0-2.false, ne_eqb _ _ c.if-b-eq3.false, ne_eqb _ _ c.if-b-eq4.false, ne_eqb _ _ c.if-b-eq95.false))
