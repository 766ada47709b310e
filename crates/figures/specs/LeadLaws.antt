-- How far a code leads: the low five bits of 60 to 7F, complemented, on either machine; no other code leads.
--     lead_at_lem                        by its top three bits
--     no_lead                        a code that is no lead has none in either direction
--     forward_most, backward_most    at most 31 a code
-- Assumes nothing.
use Rattle.std.specs.Prelude.{◌≡◌, ℕ, ◌-◌, ◌/◌, ◌%◌, ◌<◌, ◌≤◌, Bool, true, false, cond, map, ◌==◌, ◌≢◌, nat_lt, refl}
use Rattle.std.proofs.Common.{sym, ap, subst, ◌∙◌, arith, ne_eqb, le-ltb, ltb-true, ltb-false}
use Rattle.integers.specs.Tables.{numbers, agree}
use Rattle.typesetter.specs.declared.code.Machine.{Machine}
use Rattle.typesetter.specs.declared.code.Machine.TheVariants.{Four, Eight}
use Rattle.typesetter.specs.declared.machine.State.{State}
use Rattle.typesetter.specs.Code.{code_of}
use Rattle.typesetter.specs.CodeLaws.{not_zero}
use Rattle.tape_stretch.specs.Stretch.{NoLead}
use Rattle.figures.specs.Figures.{taken, lead_in, forward_of, backward_of}

-- at all 256 codes
abbrev lead_at : ℕ → ℕ
lead_at b = cond (b / 32 == 3) (31 - b % 32) 0

all_leads : (machine : Machine) → map lead_at (numbers 0 256) ≡ map (λ b. lead_in (code_of machine b)) (numbers 0 256)
unfolding code_of
all_leads Four = refl
all_leads Eight = refl

pub lead_at_lem : (machine : Machine) (b : ℕ) → b < 256 → lead_at b ≡ lead_in (code_of machine b)
lead_at_lem machine b h = agree lead_at (λ c. lead_in (code_of machine c)) 0 256 (all_leads machine) b h

pub lead_none : (machine : Machine) (b : ℕ) → NoLead b → lead_in (code_of machine b) ≡ 0
unfolding code_of
lead_none machine b n = go (nat_lt b 256) refl
  where
    other : b < 256 → b / 32 ≢ 3
    other h e = let l : 128 ≤ b = n (omega arith) in omega arith

    go : (t : Bool) → nat_lt b 256 ≡ t → lead_in (code_of machine b) ≡ 0
    go true t = let h = ltb-true b 256 t in sym (lead_at_lem machine b h) ∙ ap (λ (u : Bool). cond u (31 - b % 32) 0) (ne_eqb (b / 32) 3 (other h))
    go false t =
        let h = ltb-false b 256 t in
        rw (ne_eqb b 0 (not_zero b (omega arith)), le-ltb b 64 (omega arith), le-ltb b 80 (omega arith), le-ltb b 95 (omega arith), le-ltb b 96 (omega arith), le-ltb b 128 (omega arith), le-ltb b 255 (omega arith))

either_none : (t : Bool) (n : ℕ) → n ≡ 0 → (cond t 0 n ≡ 0) × (cond t n 0 ≡ 0)
either_none true n e = (refl, e)
either_none false n e = (e, refl)

-- a code that is no lead has none in either direction
pub no_lead : (s : State) (b : ℕ) → NoLead b → (forward_of (taken s b) ≡ 0) × (backward_of (taken s b) ≡ 0)
no_lead s b n = either_none s.modes.lead_back (lead_in (code_of s.machine b)) (lead_none s.machine b n)

-- ---- at most 31

pub lead_most : (machine : Machine) (b : ℕ) → lead_in (code_of machine b) ≤ 31
lead_most machine b = go (nat_lt b 256) refl
  where
    at_most : (t : Bool) → cond t (31 - b % 32) 0 ≤ 31
    at_most true = omega arith
    at_most false = omega arith

    go : (t : Bool) → nat_lt b 256 ≡ t → lead_in (code_of machine b) ≤ 31
    go true t = subst (λ (n : ℕ). n ≤ 31) (lead_at_lem machine b (ltb-true b 256 t)) (at_most (b / 32 == 3))
    go false t = let h = ltb-false b 256 t in subst (λ (n : ℕ). n ≤ 31) (sym (lead_none machine b (λ _. omega arith))) (omega arith)

pub cond_most : (t : Bool) (x y m : ℕ) → x ≤ m → y ≤ m → cond t x y ≤ m
cond_most true x y m h k = h
cond_most false x y m h k = k

pub forward_most : (s : State) (b : ℕ) → forward_of (taken s b) ≤ 31
forward_most s b = cond_most s.modes.lead_back 0 (lead_in (code_of s.machine b)) 31 (omega arith) (lead_most s.machine b)

pub backward_most : (s : State) (b : ℕ) → backward_of (taken s b) ≤ 31
backward_most s b = cond_most s.modes.lead_back (lead_in (code_of s.machine b)) 0 31 (lead_most s.machine b) (omega arith)
