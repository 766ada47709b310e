-- Along an accepted tape forward less backward lead is the sum of the heights at which its pages end.
-- The height of the page that is open stands for what is still to end: `level`, 0 after stop.
--     level         the height still to end in a state
--     run_levels    over any run: lead, heights ended, and the levels before and after
-- Assumes nothing.
use Rattle.std.specs.Prelude.{◌≡◌, ℕ, suc, ◌+◌, Bool, true, false, cond, List, [], ◌∷◌, ℤ, pos, ◌+ℤ◌, neg_ℤ, refl, Some, Ok, Err}
use Rattle.std.proofs.Common.{sym, ap, ◌∙◌}
use Rattle.integers.specs.Parts.{integers, sum_parts, neg_up, neg_dn}
use Rattle.measure.specs.declared.Quanta.{Quanta}
use Rattle.measure.specs.Place.{directed_by, height_at}
use Rattle.measure.specs.PlaceLaws.{height_in_lem}
use Rattle.typesetter.specs.declared.code.Instruction.{Instruction}
use Rattle.typesetter.specs.declared.code.Instruction.TheVariants.{Lead}
use Rattle.typesetter.specs.declared.code.Code.{Code}
use Rattle.typesetter.specs.declared.code.Code.TheVariants.{Instructs}
use Rattle.typesetter.specs.declared.machine.Modes.{Modes}
use Rattle.typesetter.specs.declared.machine.State.{State}
use Rattle.typesetter.specs.declared.machine.Effect.TheVariants.{Moved, Flashed, PageEnded}
use Rattle.typesetter.specs.Code.{code_of}
use Rattle.typesetter.specs.Machine.{Step, with_modes, with_height, byte_effect}
use Rattle.typesetter.specs.EffectLaws.{Turning, rails, mags, halves, escape_ways, lead_ways, tilts, Causes, refuses, ignores, initializes, flashes, turns, sizes, stops, cuts, leads, escapes, causes}
use Rattle.tape.specs.Tape.{run}
use Rattle.tape.specs.RunLaws.{fault_never}
use Rattle.figures.specs.Figures.{Move, taken, moves, total, forward_of, backward_of}
use Rattle.report.specs.Sums.{is_stop, page_ends, sum_heights}

-- the height of the open page
abbrev pub level : State → ℤ
level s = cond s.stopped (pos 0) s.height.0

-- ---- sums

nothing : (a : ℤ) (t : Bool) → a +ℤ pos (cond t 0 0) ≡ (a +ℤ pos 0) +ℤ pos (cond t 0 0)
nothing a true = omega (integers, sum_parts a (pos 0), sum_parts (a +ℤ pos 0) (pos 0))
nothing a false = omega (integers, sum_parts a (pos 0), sum_parts (a +ℤ pos 0) (pos 0))

ending : (a b : ℤ) (t : Bool) → b ≡ a → b +ℤ pos (cond t 0 0) ≡ (pos 0 +ℤ a) +ℤ pos (cond t 0 0)
ending a b true e = omega (integers, e, sum_parts b (pos 0), sum_parts (pos 0) a, sum_parts (pos 0 +ℤ a) (pos 0))
ending a b false e = omega (integers, e, sum_parts b (pos 0), sum_parts (pos 0) a, sum_parts (pos 0 +ℤ a) (pos 0))

leading : (h : ℤ) (t : Bool) (n : ℕ) (z : ℤ) → z ≡ h +ℤ directed_by t n → h +ℤ pos (cond t 0 n) ≡ (z +ℤ pos 0) +ℤ pos (cond t n 0)
unfolding directed_by
leading h true n z e =
    omega (integers, e, sum_parts h (neg_ℤ (pos n)), neg_up (pos n), neg_dn (pos n), sum_parts h (pos 0), sum_parts z (pos 0), sum_parts (z +ℤ pos 0) (pos n))
leading h false n z e = omega (integers, e, sum_parts h (pos n), sum_parts z (pos 0), sum_parts (z +ℤ pos 0) (pos 0))

-- one move and those after it
joined : (a b c e d : ℤ) (f g m n : ℕ) → a +ℤ pos f ≡ (b +ℤ e) +ℤ pos m → b +ℤ pos g ≡ (c +ℤ d) +ℤ pos n → a +ℤ pos (f + g) ≡ (c +ℤ (e +ℤ d)) +ℤ pos (m + n)
joined a b c e d f g m n p q =
    omega (integers, p, q, sum_parts a (pos f), sum_parts b e, sum_parts (b +ℤ e) (pos m), sum_parts b (pos g), sum_parts c d, sum_parts (c +ℤ d) (pos n), sum_parts a (pos (f + g)), sum_parts e d, sum_parts c (e +ℤ d), sum_parts (c +ℤ (e +ℤ d)) (pos (m + n)))

-- a page that ends, and what comes after it
page_ended_then : (a b c h d : ℤ) (g n : ℕ) → a ≡ b +ℤ h → b +ℤ pos g ≡ (c +ℤ d) +ℤ pos n → a +ℤ pos g ≡ (c +ℤ (h +ℤ d)) +ℤ pos n
page_ended_then a b c h d g n p q =
    omega (integers, p, q, sum_parts b h, sum_parts b (pos g), sum_parts c d, sum_parts (c +ℤ d) (pos n), sum_parts a (pos g), sum_parts h d, sum_parts c (h +ℤ d), sum_parts (c +ℤ (h +ℤ d)) (pos n))

no_page : (d : ℤ) → pos 0 +ℤ d ≡ d
no_page d = omega (integers, sum_parts (pos 0) d)

-- ---- one code

module _ (s : State) where
  abbrev end_in : Code → ℤ
  end_in k = cond (is_stop k) s.height.0 (pos 0)

  abbrev move : Code → Move
  move k = record { state = s; code = k }

  abbrev Levels : Code → Step → Type 0
  Levels k (Ok (Moved t)) = level s +ℤ pos (forward_of (move k)) ≡ (level t +ℤ end_in k) +ℤ pos (backward_of (move k))
  Levels k (Ok (Flashed c)) = Unit {0}
  Levels k (Ok (PageEnded t)) = level s ≡ level t +ℤ s.height.0
  Levels k (Err n) = Unit {0}

  here : s.stopped ≡ false → level s ≡ s.height.0
  here f = ap (λ (t : Bool). cond t (pos 0) s.height.0) f

  cut_level : s.stopped ≡ false → level s ≡ cond s.stopped (pos 0) (pos 0) +ℤ s.height.0
  cut_level f = here f ∙ sym (ap (λ (t : Bool). cond t (pos 0) (pos 0) +ℤ s.height.0) f ∙ no_page s.height.0)

  lead_level : (n : ℕ) (h : Quanta) → s.stopped ≡ false → height_at (s.height.0 +ℤ directed_by s.modes.lead_back n) ≡ Some h → Levels (Instructs (Lead n)) (Ok (Moved (with_height s h)))
  lead_level n h f e =
      let there : level (with_height s h) ≡ h.0 = ap (λ (t : Bool). cond t (pos 0) h.0) f in
      ap (λ (z : ℤ). z +ℤ pos (cond s.modes.lead_back 0 n)) (here f)
      ∙ leading s.height.0 s.modes.lead_back n h.0 (height_in_lem _ h e).0
      ∙ sym (ap (λ (z : ℤ). (z +ℤ pos 0) +ℤ pos (cond s.modes.lead_back n 0)) there)

  turn_level : (m : Modes) {o : Instruction} → Turning o → Levels (Instructs o) (Ok (Moved (with_modes s m)))
  turn_level m rails = nothing (level s) s.modes.lead_back
  turn_level m mags = nothing (level s) s.modes.lead_back
  turn_level m halves = nothing (level s) s.modes.lead_back
  turn_level m escape_ways = nothing (level s) s.modes.lead_back
  turn_level m lead_ways = nothing (level s) s.modes.lead_back
  turn_level m tilts = nothing (level s) s.modes.lead_back

  levels_by : {k : Code} {x : Step} → Causes s k x → Levels k x
  levels_by (refuses h) = tt
  levels_by ignores = nothing (level s) s.modes.lead_back
  levels_by initializes = nothing (level s) s.modes.lead_back
  levels_by (flashes z a) = tt
  levels_by (turns {m = m} t) = turn_level m t
  levels_by sizes = nothing (level s) s.modes.lead_back
  levels_by (stops f) = ending s.height.0 (level s) s.modes.lead_back (here f)
  levels_by (cuts f) = cut_level f
  levels_by (leads {n} {h} f e) = lead_level n h f e
  levels_by (escapes r) = nothing (level s) s.modes.lead_back

  levels : (b : ℕ) {x : Step} → byte_effect s b ≡ x → Levels (code_of s.machine b) x
  levels b e = levels_by (causes s b e)

-- ---- a run

ends_by : (h : Quanta) (hs : List Quanta) (t : Bool) → sum_heights (cond t (h ∷ hs) hs) ≡ cond t h.0 (pos 0) +ℤ sum_heights hs
unfolding sum_heights
ends_by h hs true = refl
ends_by h hs false = sym (no_page (sum_heights hs))

pub run_levels : (s : State) (at : ℕ) (bs : List ℕ) {t : State} → (run s at bs).ending ≡ Ok t
    → level s +ℤ pos (total forward_of (moves s bs)) ≡ (level t +ℤ sum_heights (page_ends s bs)) +ℤ pos (total backward_of (moves s bs))
unfolding run moves total page_ends sum_heights
run_levels s at [] {t} e =
    let same : s ≡ t = cc in
    nothing (level s) true ∙ ap (λ (u : State). (level u +ℤ pos 0) +ℤ pos 0) same
run_levels s at (b ∷ bs) {t} e = go (λ u. run_levels u (suc at) bs) (byte_effect s b) refl
  where
    go : ((u : State) → (run u (suc at) bs).ending ≡ Ok t → level u +ℤ pos (total forward_of (moves u bs)) ≡ (level t +ℤ sum_heights (page_ends u bs)) +ℤ pos (total backward_of (moves u bs)))
        → (x : Step) → byte_effect s b ≡ x → level s +ℤ pos (total forward_of (moves s (b ∷ bs))) ≡ (level t +ℤ sum_heights (page_ends s (b ∷ bs))) +ℤ pos (total backward_of (moves s (b ∷ bs)))
    go later (Ok (Moved u)) q =
        let k = code_of s.machine b in
        rw (q, moves, page_ends)
        (joined (level s) (level u) (level t) (end_in s k) (sum_heights (page_ends u bs)) (forward_of (taken s b)) (total forward_of (moves u bs)) (backward_of (taken s b)) (total backward_of (moves u bs)) (levels s b q) (later u (rw (q, run) at e))
        ∙ ap (λ (z : ℤ). (level t +ℤ z) +ℤ pos (backward_of (taken s b) + total backward_of (moves u bs))) (sym (ends_by s.height (page_ends u bs) (is_stop k))))
    go later (Ok (Flashed c)) q = rw (q, moves, page_ends) (later s (rw (q, run) at e))
    go later (Ok (PageEnded u)) q =
        rw (q, moves, page_ends)
        (page_ended_then (level s) (level u) (level t) s.height.0 (sum_heights (page_ends u bs)) (total forward_of (moves u bs)) (total backward_of (moves u bs)) (levels s b q) (later u (rw (q, run) at e)))
    go later (Err n) q = let f : Err (record { reason = n; place = at }) ≡ Ok t = rw (q, run) at e in fault_never f
