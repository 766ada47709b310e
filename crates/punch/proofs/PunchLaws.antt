-- Reading a punched tape gives exactly the galley (document 02, "Punching a tape").
--     punched_reach     a punched tape sets just its items
--     reads_items       reading it gives their galley
--     punched_only      equal tapes, equal items
--     reads_back        what punching a galley writes is read as the galley
--     round_trip        the same of the buffer after a call
-- Assumes nothing.
use Rattle.std.specs.Prelude.{◌≡◌, refl, Bool, true, false, cond, ℕ, ◌≤◌, ltb, pos, drop, take}
use Rattle.std.proofs.Common.{sym, subst, ◌∙◌, suc-ne-zero, le-ltb, ltb-false, take_at}
use Rattle.std.proofs.Math.Path.{ap}
use mathlib.Core.List.{List, [], ◌∷◌, ◌++◌, append-nil}
use Rattle.std.proofs.Math.ListN.{length}
use Rattle.integers.specs.Parts.{integers}
use Rattle.octets.specs.Octets.{Bytes}
use Rattle.octets.specs.Answer.{Outcome, Result, refusal, written, outcome, buffer_after, if_room, Gives, after_cut, no_galley_room, punched_too_long, no_tape_room}
use Rattle.octets.specs.AnswerLaws.{room_enough, room_made}
use Rattle.measure.specs.declared.Units.{Units}
use Rattle.measure.specs.declared.Quanta.{Quanta}
use Rattle.measure.specs.Place.{carriage_end, height_end}
use Rattle.measure.specs.PlaceLaws.{InRange}
use Rattle.octets.specs.Transducer.{transduced}
use Rattle.galley_file.specs.declared.form.Form.TheVariants.{New}
use Rattle.galley_file.specs.declared.item.Item.{Item}
use Rattle.galley_file.specs.declared.item.Item.TheVariants.{Placed, Cut}
use Rattle.galley_file.specs.CharacterLaws.{valid_parts}
use Rattle.galley_file.specs.Galley.{AllValid, nil, more, galley}
use Rattle.galley_check.specs.ResultLaws.{result_written}
use Rattle.typesetter.specs.declared.code.Machine.TheVariants.{Eight}
use Rattle.typesetter.specs.declared.code.Code.TheVariants.{Instructs}
use Rattle.typesetter.specs.declared.code.Instruction.TheVariants.{Stop}
use Rattle.typesetter.specs.declared.machine.Modes.{Modes}
use Rattle.typesetter.specs.declared.machine.State.{State}
use Rattle.typesetter.specs.Code.{code_of}
use Rattle.typesetter.specs.Machine.{start, with_stop, escape_of, instruction_effect, code_effect, byte_effect}
use Rattle.typesetter.specs.StepLaws.{instruction_taken}
use Rattle.tape.specs.Tape.{max_tape, Run, run, closing, read_result, tape_result}
use Rattle.punch_codes.specs.Codes.{start_codes, begun, set_for, state_after}
use Rattle.punch_codes.specs.Reach.{Reach, reach_none, reach_moved, reach_then}
use Rattle.punch_codes.proofs.SettingLaws.{ready}
use Rattle.punch_codes.proofs.CodesLaws.{carriage_range, height_in_range, character_reach, cut_reach}
use Rattle.punch.specs.Punch.{items_codes, state_after_all, punched, if_short, punch_result, RoundTrip}

-- ---- the items of a galley

pub items_reach : (is : List Item) (m : Modes) (n : ℕ) (u : Units) (h : Quanta) → AllValid height_end is → InRange carriage_end u.0 → InRange height_end h.0
    → Reach (ready m n u h) (items_codes (ready m n u h) is) is (state_after_all (ready m n u h) is)
unfolding transduced state_after set_for
items_reach [] m n u h nil i j = reach_none
items_reach (Placed c ∷ is) m n u h (more v vs) i j =
    let p = valid_parts v in
    let t = set_for (ready m n u h) c in
    reach_then (character_reach m n u h c p i j) (items_reach is t.modes t.size t.carriage t.height vs (carriage_range p) (height_in_range p))
items_reach (Cut ∷ is) m n u h (more v vs) i j =
    let t = state_after (ready m n u h) Cut in
    reach_then (cut_reach m n u h)
    (items_reach is t.modes t.size t.carriage t.height vs (record { low = omega integers; high = omega integers }) (record { low = omega integers; high = omega integers }))

-- ---- a whole tape

-- what every item leaves as it is
pub record AtWork (s : State) : Type 0 where
  pub machine_is : s.machine ≡ Eight
  pub initialized_is : s.initialized ≡ true
  pub cut_is : s.cut ≡ false
  pub stopped_is : s.stopped ≡ false

at_work_lem : (is : List Item) (m : Modes) (n : ℕ) (u : Units) (h : Quanta) → AtWork (state_after_all (ready m n u h) is)
unfolding state_after set_for
at_work_lem [] m n u h = record { machine_is = refl; initialized_is = refl; cut_is = refl; stopped_is = refl }
at_work_lem (Placed c ∷ is) m n u h = let t = set_for (ready m n u h) c in at_work_lem is t.modes t.size t.carriage t.height
at_work_lem (Cut ∷ is) m n u h = let t = state_after (ready m n u h) Cut in at_work_lem is t.modes t.size t.carriage t.height

stop_reach : (s : State) → AtWork s → Reach s (0x49 ∷ []) [] (with_stop s)
unfolding instruction_effect code_of
stop_reach s w =
    let code : code_of s.machine 0x49 ≡ Instructs Stop = ap (λ k. code_of k 0x49) w.machine_is in
    reach_moved (sym (instruction_taken s 0x49 code w.initialized_is w.cut_is w.stopped_is))

start_reach : Reach (start Eight) start_codes [] begun
unfolding code_of escape_of instruction_effect code_effect byte_effect
start_reach = reach_then (reach_moved {b = 0x40} refl) (reach_moved {b = 0xEF} refl)

module _ (is : List Item) (v : AllValid height_end is) where
  -- the machine at the end
  abbrev last : State
  last = state_after_all begun is

  pub punched_reach : Reach (start Eight) (punched is) (is ++ []) (with_stop last)
  unfolding punched
  punched_reach =
      let origin-in : InRange carriage_end (pos 0) = record { low = omega integers; high = omega integers } in
      let top_in : InRange height_end (pos 0) = record { low = omega integers; high = omega integers } in
      reach_then start_reach
      (reach_then (items_reach is begun.modes begun.size begun.carriage begun.height v origin-in top_in)
      (stop_reach last (at_work_lem is begun.modes begun.size begun.carriage begun.height)))

  read_whole : (room : ℕ) → read_result (start Eight) (punched is) room ≡ if_room no_galley_room room (written (galley New is))
  unfolding read_result
  read_whole room =
      let n = length (punched is) in
      let w = at_work_lem is begun.modes begun.size begun.carriage begun.height in
      ap (λ (r : Run). if_room no_galley_room room (closing n r.items r.ending)) (punched_reach.runs 0)
      ∙ ap (λ (b : Bool). if_room no_galley_room room (cond b (refusal after_cut n) (written (galley New (is ++ []))))) w.cut_is
      ∙ ap (λ (l : List Item). if_room no_galley_room room (written (galley New l))) (append-nil is)

  -- reading the tape of valid items gives their galley
  pub reads_items : (room : ℕ) → length (punched is) ≤ max_tape → length (galley New is) ≤ room → tape_result (punched is) 8 room ≡ written (galley New is)
  unfolding tape_result
  reads_items room short enough = rw (le-ltb max_tape (length (punched is)) short) (read_whole room ∙ room_enough no_galley_room room (galley New is) enough)

-- two lists of valid items have the same tape only where they are equal
pub punched_only : (is js : List Item) → AllValid height_end is → AllValid height_end js → punched is ≡ punched js → is ≡ js
punched_only is js v w e =
    sym (append-nil is)
    ∙ ap (λ (r : Run). r.items) (sym ((punched_reach is v).runs 0) ∙ ap (run (start Eight) 0) e ∙ (punched_reach js w).runs 0)
    ∙ append-nil js

-- ---- galleys

-- "reading the punched tape gives exactly the galley"
pub reads_back : (g tape : List ℕ) (room : ℕ) → Bytes g → punch_result g room ≡ written tape → (more_room : ℕ) → length g ≤ more_room → tape_result tape 8 more_room ≡ written g
unfolding punch_result
reads_back g tape room b e space enough =
    let m = result_written New (λ is. if_short (punched is)) g tape b (room_made no_tape_room room _ tape e) in
    go m.items m.valid m.bytes (ltb max_tape (length (punched m.items))) refl m.made
  where
    go : (is : List Item) → AllValid height_end is → g ≡ galley New is → (t : Bool) → ltb max_tape (length (punched is)) ≡ t → cond t (refusal punched_too_long 0) (written (punched is)) ≡ written tape
        → tape_result tape 8 space ≡ written g
    go is v q true l h = absurd (suc-ne-zero 0 cc)
    go is v q false l h =
        let same : punched is ≡ tape = cc in
        ap (λ (k : List ℕ). tape_result k 8 space) (sym same)
        ∙ reads_items is v space (ltb-false _ _ l) (subst (λ (k : List ℕ). length k ≤ space) q enough)
        ∙ ap written (sym q)

pub round_trip : {g : List ℕ} {o : Outcome} {buffer later : List ℕ} → Bytes g → Gives o (punch_result g) buffer later → RoundTrip g o later
round_trip {g} {o} {buffer} {later} b p n room e enough = go (punch_result g (length buffer)) refl p.outcome_is p.buffer_is
  where
    go : (r : Result) → punch_result g (length buffer) ≡ r → o ≡ outcome r → later ≡ buffer_after buffer r → tape_result (take n later) 8 room ≡ written g
    go (refusal k i) q s l = absurd (suc-ne-zero 0 cc)
    go (written bs) q s l =
        let size : length bs ≡ n = cc in
        ap (λ (k : List ℕ). tape_result k 8 room) (ap (take n) l ∙ take_at bs (drop (length bs) buffer) n size)
        ∙ reads_back g bs (length buffer) b q room enough
