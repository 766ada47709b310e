-- What the contracts of the counting functions cite; nothing here is part of what a call promises.
--     Counting        what a count keeps
--     count_in         the characters of each font number in an array
--     CountsOn        from a state, an array, leads and a place to others
--     figures_from     the figures of a tape that is read from a state
--     Tally            what is found of a tape; number_found, forward_found, backward_found are its number, 0 if it is accepted, and its lead
--     tally_at         what is found of a tape that ends in a state
--     Tallied         what a count finds
use Rattle.std.specs.Prelude.{◌≡◌, ℕ, ◌+◌, ◌*◌, ◌<◌, ◌≤◌, cond, List, length, take, slice_index, slice_set, Result as ResultOf, Ok, Err}
use Rattle.octets.specs.declared.refusal.Reason.{Reason}
use Rattle.octets.specs.declared.refusal.Reason.TheVariants.{AfterCut, NoStop}
use Rattle.octets.specs.Answer.{after_cut, no_stop, number_in}
use Rattle.galley_file.specs.declared.item.Item.{Item}
use Rattle.galley_file.specs.Item.{characters_of}
use Rattle.typesetter.specs.declared.machine.State.{State}
use Rattle.typesetter.specs.declared.machine.Effect.TheVariants.{Moved}
use Rattle.typesetter.specs.Machine.{with_carriage, byte_effect}
use Rattle.typesetter.specs.Sound.{Sound}
use Rattle.tape_stretch.specs.declared.Stretch.{Stretch}
use Rattle.tape_stretch.specs.Stretch.{NoLead, Strides, stretch_at}
use Rattle.tape.specs.Tape.{Ending, run}
use Rattle.tape.specs.RunLaws.{so_far}
use Rattle.figures.specs.declared.Lead.{Lead}
use Rattle.figures.specs.Figures.{Move, taken, moves, total, forward_of, backward_of, in_font, Figures, refused_with, accepted_with, sum64}

-- what a count keeps: the bytes passed so far reach the present state; characters by font and leads are theirs
pub record Counting (s₀ : State) (tape : List ℕ) (s : State) (count : ℕ → ℕ) (forward backward i : ℕ) : Type 0 where
  pub inside : i ≤ length tape
  pub sound : Sound s
  pub ran : (run s₀ 0 (take i tape)).ending ≡ Ok s
  pub counts : (n : ℕ) → count n ≡ in_font n (characters_of (so_far s₀ 0 tape i))
  pub ahead : forward ≡ total forward_of (moves s₀ (take i tape))
  pub back : backward ≡ total backward_of (moves s₀ (take i tape))
  pub small : forward + backward ≤ 62 * i

-- the characters of each font number in an array
abbrev pub count_in : List ℕ → ℕ → ℕ
count_in fonts n = slice_index fonts n

-- from a state, an array, leads and a place to others, code by code: a stretch, a turn of a mode or a size, or a lead
pub data CountsOn (tape fonts : List ℕ) (s : State) (forward backward i : ℕ) : List ℕ → State → ℕ → ℕ → ℕ → Type 0 where
  here : CountsOn tape fonts s forward backward i fonts s forward backward i
  stretched : {later next : List ℕ} {t : State} {ahead back j font : ℕ} {q : Stretch} → CountsOn tape fonts s forward backward i later t ahead back j
      → Strides tape t font (stretch_at t j 0) q → font < length later → next ≡ slice_set later font (sum64 (slice_index later font) q.count)
      → CountsOn tape fonts s forward backward i next (with_carriage t q.carriage) ahead back q.next
  turned : {later : List ℕ} {t u : State} {ahead back j : ℕ} → CountsOn tape fonts s forward backward i later t ahead back j → j < length tape
      → byte_effect t (slice_index tape j) ≡ Ok (Moved u) → NoLead (slice_index tape j) → CountsOn tape fonts s forward backward i later u ahead back (j + 1)
  leads : {later : List ℕ} {t u : State} {ahead back j a b : ℕ} → CountsOn tape fonts s forward backward i later t ahead back j → j < length tape
      → byte_effect t (slice_index tape j) ≡ Ok (Moved u) → a ≡ sum64 ahead (forward_of (taken t (slice_index tape j))) → b ≡ sum64 back (backward_of (taken t (slice_index tape j)))
      → CountsOn tape fonts s forward backward i later u a b (j + 1)

-- the figures of a run that ends so
abbrev pub figures_at : List Item → List Move → Ending → Figures
figures_at is xs (Ok s) = cond s.cut (refused_with after_cut) (cond s.stopped (accepted_with (characters_of is) xs) (refused_with no_stop))
figures_at is xs (Err r) = refused_with (number_in r.reason)

unfoldable pub figures_from : State → List ℕ → Figures
figures_from s tape = figures_at (run s 0 tape).items (moves s tape) (run s 0 tape).ending

-- what is found of a tape: its lead, or the reason of its refusal
abbrev pub Tally : Type 0
Tally = ResultOf Lead Reason

abbrev pub number_found : Tally → ℕ
number_found (Ok lead) = 0
number_found (Err r) = number_in r

abbrev pub forward_found : Tally → ℕ
forward_found (Ok lead) = lead.forward
forward_found (Err r) = 0

abbrev pub backward_found : Tally → ℕ
backward_found (Ok lead) = lead.backward
backward_found (Err r) = 0

-- the characters of a font number that are found; of a refused tape there are none
abbrev pub characters_found : Tally → List ℕ → ℕ → ℕ
characters_found (Ok lead) fonts n = count_in fonts n
characters_found (Err r) fonts n = 0

-- what is found of a tape that ends in a state
abbrev pub tally_at : State → Lead → Tally
tally_at s lead = cond s.cut (Err AfterCut) (cond s.stopped (Ok lead) (Err NoStop))

-- what a count finds, and the array of the font numbers after it, where the tape is accepted
pub record Tallied (f : Figures) (t : Tally) (fonts : List ℕ) : Type 0 where
  pub number : number_found t ≡ f.number
  pub forward : forward_found t ≡ f.forward
  pub backward : backward_found t ≡ f.backward
  pub counts : (n : ℕ) → characters_found t fonts n ≡ in_font n f.characters
