-- `figures::tally_from` meets its contract. The invariant is `Counting`; its laws are in `Countings`, the quick ways keep it by their contract.
-- Assumes nothing.
use Rattle.std.specs.Prelude.{Ok, Err}
use Rattle.std.proofs.lemmas.Option.{slice_get-get_or, get_or_from_slice_get}
use Rattle.std.proofs.lemmas.Result.{err_from_is_err_and}
use Rattle.std.proofs.Common.{◌≡◌, ℕ, ◌+◌, ◌-◌, ◌<◌, ◌≤◌, List, length, get_or, sym, ap, ◌∙◌, subst, arith, ltb-true, ltb-false}
use Rattle.galley_file.specs.declared.character.Character.{Character}
use Rattle.galley_file.specs.CharacterLaws.{valid_parts}
use Rattle.typesetter.specs.declared.machine.State.{State}
use Rattle.typesetter.specs.declared.machine.Effect.TheVariants.{Flashed}
use Rattle.typesetter.specs.Machine.{Step, byte_effect}
use Rattle.typesetter.specs.SoundLaws.{flashed_valid}
use Rattle.tape.specs.Tape.{max_tape}
use Rattle.figures.specs.Figures.{taken, forward_of, backward_of, sum64}
use Rattle.figures.specs.Counting.{Tally, Counting, count_in, Tallied, figures_from}
use Rattle.figures.proofs.Arrays.{no_characters}
use Rattle.figures.proofs.Onwards.{onward_place, onward_length, counting_onward}
use Rattle.figures.proofs.Countings.{counting_start, counting_lead, counting_flashed, counting_page_ended, counting_refused, done}
use Rattle.figures.proofs.tally_from.Goals as goal
use Rattle.figures.proofs.tally_from.Goals.{After-quick_tally-r, In-Some, In_ok-next}

-- after the quick ways
module _ (c : After-quick_tally-r) where
  abbrev now : State
  now = c.quick_tally-r.result.state

  abbrev forward : ℕ
  forward = c.quick_tally-r.result.lead.forward

  abbrev backward : ℕ
  backward = c.quick_tally-r.result.lead.backward

  abbrev i : ℕ
  i = c.quick_tally-r.result.next

  abbrev fonts : List ℕ
  fonts = c.quick_tally-r.new.fonts

  abbrev code : ℕ
  code = get_or c.args.tape.now i 0

  short : length c.args.tape.now ≤ max_tape
  short = c.requires.0.1

  counting : Counting c.args.first c.args.tape.now now (count_in fonts) forward backward i
  counting = counting_onward c.args.first short c.quick_tally-r.ensures c.loop-b.invariant.0

  size : length fonts ≡ 120
  size = onward_length c.quick_tally-r.ensures ∙ c.loop-b.invariant.1

  font-in : {k : Character} → byte_effect now code ≡ Ok (Flashed k) → k.font < length fonts
  font-in {k} e = omega (arith, (valid_parts (flashed_valid now counting.sound code e)).font, size)

-- the code after them
module _ (c : In-Some) where
  abbrev place : ℕ
  place = c.quick_tally-r.result.next

  within : place < length c.args.tape.now
  within = ltb-true place (length c.args.tape.now) (sym c.in-Some.ensures.lookup.0)

  read : c.in-Some.field-0.now ≡ get_or c.args.tape.now place 0
  read = let tape = c.args.tape.now in c.in-Some.ensures.lookup.1 ∙ sym (get_or_from_slice_get tape place _ 0 (slice_get-get_or tape place _ within))

  -- what it does
  does : {x : Step} → byte_effect c.quick_tally-r.result.state c.in-Some.field-0.now ≡ x → byte_effect c.quick_tally-r.result.state (get_or c.args.tape.now place 0) ≡ x
  does e = ap (byte_effect c.quick_tally-r.result.state) (sym read) ∙ e

  less : length c.args.tape.now - (place + 1) < length c.args.tape.now - c.loop-b.i
  less = omega (arith, within, onward_place c.quick_tally-r.ensures)

took : (c : In_ok-next) → byte_effect c.quick_tally-r.result.state c.in-Some.field-0.now ≡ Ok c.in_ok-next.field-0
took c = sym c.step.ensures ∙ c.in_ok-next.was

pub loop-b-init : goal.loop-b-init
loop-b-init c = let a = c.args in (
  counting_start a.first a.tape.now c.requires.0.0 (count_in a.fonts.now) (λ n. ap (λ (l : List ℕ). get_or l n 0) c.requires.1 ∙ no_characters n),
  ap length c.requires.1,
)

pub step-requires : goal.step-requires
step-requires c = (counting (goal.at.step-requires c).After-quick_tally-r).sound

pub returns-in_default : goal.returns-in_default
returns-in_default c =
    let a = c.args in
    let p = (goal.at.returns-in_default c).After-quick_tally-r in
    subst (λ (t : Tally). Tallied (figures_from a.first a.tape.now) t (fonts p)) (sym c.ended.ensures)
    (done a.first a.tape.now (now p) (fonts p) (forward p) (backward p) (i p) (counting p) (ltb-false _ _ (sym c.in_default.ensures.lookup.0)))

pub returns-in_err-next : goal.returns-in_err-next
returns-in_err-next c =
    let at = goal.at.returns-in_err-next c in
    let a = c.args in
    let p = at.After-quick_tally-r in
    let q = err_from_is_err_and c.from_residual.result c.from_residual.ensures.1 in
    subst (λ (t : Tally). Tallied (figures_from a.first a.tape.now) t (fonts p)) (sym (q.1 ∙ ap Err q.2))
    (counting_refused a.first a.tape.now (now p) (count_in (fonts p)) (forward p) (backward p) (i p) (counting p) (within at.In-Some) _ (does at.In-Some (sym c.step.ensures ∙ c.in_err-next.was)) (fonts p))

pub loop-b-smaller-in-Moved : goal.loop-b-smaller-in-Moved
loop-b-smaller-in-Moved c = less (goal.at.loop-b-smaller-in-Moved c).In-Some

pub loop-b-preserved-in-Moved : goal.loop-b-preserved-in-Moved
loop-b-preserved-in-Moved c =
    let at = goal.at.loop-b-preserved-in-Moved c in
    let a = c.args in
    let p = at.After-quick_tally-r in
    let q = at.In-Some in
    let f = c.after-lead.ensures.forward ∙ ap (λ (b : ℕ). sum64 (forward p) (forward_of (taken (now p) b))) (read q) in
    let b = c.after-lead.ensures.backward ∙ ap (λ (b : ℕ). sum64 (backward p) (backward_of (taken (now p) b))) (read q) in
    (counting_lead a.first a.tape.now (now p) (count_in (fonts p)) (forward p) (backward p) (i p) (counting p) (within q) (short p) c.in-Moved.next (does q (took at.In_ok-next ∙ ap Ok c.in-Moved.is)) _ _ f b, size p)

pub add_at-requires : goal.add_at-requires
add_at-requires c =
    let at = goal.at.add_at-requires c in
    font-in at.After-quick_tally-r (does at.In-Some (took at.In_ok-next ∙ ap Ok c.in-Flashed.is))

pub loop-b-smaller-in-Flashed : goal.loop-b-smaller-in-Flashed
loop-b-smaller-in-Flashed c = less (goal.at.loop-b-smaller-in-Flashed c).In-Some

pub loop-b-preserved-in-Flashed : goal.loop-b-preserved-in-Flashed
loop-b-preserved-in-Flashed c =
    let at = goal.at.loop-b-preserved-in-Flashed c in
    let a = c.args in
    let p = at.After-quick_tally-r in
    let e = does at.In-Some (took at.In_ok-next ∙ ap Ok c.in-Flashed.is) in
    (counting_flashed a.first a.tape.now (now p) (fonts p) (forward p) (backward p) (i p) (counting p) (within at.In-Some) (short p) c.in-Flashed.c e (font-in p e) c.add_at.new.fonts c.add_at.ensures, c.add_at.auto.fonts ∙ size p)

pub loop-b-smaller : goal.loop-b-smaller
loop-b-smaller c = less (goal.at.loop-b-smaller c).In-Some

pub loop-b-preserved : goal.loop-b-preserved
loop-b-preserved c =
    let at = goal.at.loop-b-preserved c in
    let a = c.args in
    let p = at.After-quick_tally-r in
    (counting_page_ended a.first a.tape.now (now p) (fonts p) (forward p) (backward p) (i p) (counting p) (within at.In-Some) (short p) c.in-PageEnded.next (does at.In-Some (took at.In_ok-next ∙ ap Ok c.in-PageEnded.is)), size p)
