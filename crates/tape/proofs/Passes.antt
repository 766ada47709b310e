-- The laws of what a pass keeps, `Going`: at its start, at each effect of a code, over codes that go further, at its end.
-- Assumes nothing.
use Rattle.std.specs.Prelude.{Ok, Err}
use Rattle.octets.specs.declared.refusal.Reason.{Reason}
use mathlib.Core.Path.{◌≡◌, refl, sym, ap, ◌∙◌}
use mathlib.Core.Bool.{Bool, true, false}
use mathlib.Core.List.{List, [], ◌∷◌, ◌++◌}
use Prim.Native.Nat.{ℕ, ◌+◌, ◌*◌, ◌≤◌, ◌<◌, zero-le}
use native.Mathlib.Omega.{arith}
use lib.ListN.{length, take, get_or, length-append}
use lib.Seq as seq
use lib.Seq.{take_all, length-take-le}
use Rattle.octets.specs.Write.{put_if, sets_append}
use Rattle.galley_file.specs.declared.form.Form.TheVariants.{New}
use Rattle.galley_file.specs.declared.item.Item.{Item}
use Rattle.galley_file.specs.declared.item.Item.TheVariants.{Placed, Cut}
use Rattle.galley_file.specs.Item.{item_field, item_size, tally, characters_of, cuts_of}
use Rattle.galley_file.specs.ItemLaws.{length_item_field, count_item, all_counted, characters_append, cuts_append}
use Rattle.galley_file.specs.Galley.{fields}
use Rattle.galley_file.specs.GalleyLaws.{length_fields, fields_append, fields_one}
use Rattle.typesetter.specs.declared.machine.State.{State}
use Rattle.typesetter.specs.declared.machine.Effect.TheVariants.{Moved}
use Rattle.typesetter.specs.Machine.{Step, byte_effect}
use Rattle.tape.specs.Tape.{Ending, max_tape, Run, run}
use Rattle.tape.specs.RunLaws.{Sets, flashed, page_ended, so_far, run_length, run_moved, run_set, run_refused, run_room}
use Rattle.typesetter.specs.Sound.{Sound}
use Rattle.typesetter.specs.SoundLaws.{stays_sound, page_ended_sound}
use Rattle.tape_stretch.specs.Further as further
use Rattle.tape_stretch.specs.Further.{put_at, Further}
use Rattle.tape_stretch.specs.FurtherLaws.{further_length}
use Rattle.tape.specs.Pass.{Going, Passed}

-- one field more
put_more : (w : Bool) (first : List ℕ) (is : List Item) (i : Item) (n k : ℕ) → n ≡ length (characters_of is) → k ≡ 3 * cuts_of is
    → put_at w n k i (put_if w first 0 (fields New is)) ≡ put_if w first 0 (fields New (is ++ (i ∷ [])))
put_more false first is i n k e d = refl
put_more true first is i n k e d =
    let place : 11 * n + k ≡ 0 + length (fields New is) = omega (arith, length_fields New is, e, d) in
    ap (λ (m : ℕ). seq.sets (seq.sets first 0 (fields New is)) m (item_field New i)) place
    ∙ sym (sets_append first 0 (fields New is) (item_field New i))
    ∙ ap (λ (l : List ℕ). seq.sets first 0 l) (ap (λ (l : List ℕ). fields New is ++ l) (sym (fields_one New i)) ∙ sym (fields_append New is (i ∷ [])))

put_none : (w : Bool) (first : List ℕ) → first ≡ put_if w first 0 (fields New [])
unfolding fields
put_none true first = refl
put_none false first = refl

-- the counts of one item more
one_more : (is : List Item) (i : Item) → length (characters_of (is ++ (i ∷ []))) ≡ length (characters_of is) + tally i
unfolding characters_of
one_more is i = omega (arith, ap length (characters_append is (i ∷ [])), length-append (characters_of is) (characters_of (i ∷ [])), count_item i [])

one_cut : (is : List Item) (i : Item) → cuts_of (is ++ (i ∷ [])) + tally i ≡ cuts_of is + 1
unfolding cuts_of
one_cut is (Placed c) = omega (arith, cuts_append is (Placed c ∷ []))
one_cut is Cut = omega (arith, cuts_append is (Cut ∷ []))

first_size : (i : Item) (is : List Item) → item_size New i ≤ length (fields New (i ∷ is))
unfolding fields
first_size i is = omega (arith, length-append (item_field New i) (fields New is), length_item_field New i)

set_sound : (s : State) → Sound s → (b : ℕ) {e : Step} {x : Item} {t : State} → byte_effect s b ≡ e → Sets s e x t → Sound t
set_sound s r b q flashed = r
set_sound s r b q page_ended = page_ended_sound s r b q

module _ (s₀ : State) (at : ℕ) (tape first : List ℕ) (w : Bool) where
  pub going_start : Sound s₀ → Going s₀ at tape first w first s₀ 0 0 0
  unfolding run characters_of cuts_of
  going_start r =
      record { inside = zero-le; sound = r; ran = refl; counted = refl; cut_bytes = refl; same = refl; wrote = put_none w first }

  module _ (out : List ℕ) (s : State) (count cuts i : ℕ) (r : Going s₀ at tape first w out s count cuts i) where
    -- one item a byte at most
    pub going_bound : 3 * count + cuts ≤ 3 * i
    going_bound =
        let l = length-take-le i tape r.inside in
        omega (arith, r.counted, r.cut_bytes, all_counted (so_far s₀ at tape i), run_length s₀ at (take i tape))

    -- where no more items come, the pass has found the run
    going_passed : at + length tape ≤ max_tape → so_far s₀ at tape i ≡ (run s₀ at tape).items → {x : Ending} → x ≡ (run s₀ at tape).ending
        → Passed (run s₀ at tape) w first (record { count = count; cuts = cuts; ending = x }) out
    going_passed m is e =
        record {
          counted = r.counted ∙ ap (λ (l : List Item). length (characters_of l)) is;
          cut_bytes = r.cut_bytes ∙ ap (λ (l : List Item). 3 * cuts_of l) is;
          few = omega (arith, going_bound, r.inside);
          short = omega (arith, going_bound, r.inside);
          ended = e;
          buffer = r.wrote ∙ ap (λ (l : List Item). put_if w first 0 (fields New l)) is;
        }

    module _ (h : i < length tape) where
      pub going_moved : (t : State) → byte_effect s (get_or tape i 0) ≡ Ok (Moved t) → Going s₀ at tape first w out t count cuts (i + 1)
      going_moved t e =
          let n = run_moved s₀ at tape i s r.ran h e in
          let is : so_far s₀ at tape (i + 1) ≡ so_far s₀ at tape i = ap (λ (x : Run). x.items) n in
          record {
            inside = omega arith;
            sound = stays_sound s r.sound (get_or tape i 0) e;
            ran = ap (λ (x : Run). x.ending) n;
            counted = r.counted ∙ sym (ap (λ (l : List Item). length (characters_of l)) is);
            cut_bytes = r.cut_bytes ∙ sym (ap (λ (l : List Item). 3 * cuts_of l) is);
            same = r.same;
            wrote = r.wrote ∙ sym (ap (λ (l : List Item). put_if w first 0 (fields New l)) is);
          }

      -- a code that sets the item x and leaves the state t
      module _ {e : Step} {x : Item} {t : State} (q : byte_effect s (get_or tape i 0) ≡ e) (m : Sets s e x t) where
        pub going_room : (w ≡ true → length (fields New (run s₀ at tape).items) ≤ length first) → w ≡ true → 11 * count + cuts + item_size New x ≤ length out
        going_room p k =
            let is = so_far s₀ at tape i in
            let z = run_room s₀ at tape i s r.ran h q m in
            let all = ap (λ (l : List Item). length (fields New l)) z.1 ∙ ap length (fields_append New is (x ∷ z.0)) ∙ length-append (fields New is) (fields New (x ∷ z.0)) in
            omega (arith, p k, r.counted, r.cut_bytes, r.same, length_fields New is, all, first_size x z.0)

        pub going_set : (next : List ℕ) → length next ≡ length out → next ≡ put_at w count cuts x out → (n k : ℕ) → n ≡ count + tally x → k + 3 * tally x ≡ cuts + 3
            → Going s₀ at tape first w next t n k (i + 1)
        going_set next l o n k en ek =
            let f = run_set s₀ at tape i s r.ran h q m in
            let is = so_far s₀ at tape i in
            let more : so_far s₀ at tape (i + 1) ≡ is ++ (x ∷ []) = ap (λ (y : Run). y.items) f in
            record {
              inside = omega arith;
              sound = set_sound s r.sound (get_or tape i 0) q m;
              ran = ap (λ (y : Run). y.ending) f;
              counted = omega (arith, en, r.counted, ap (λ (l : List Item). length (characters_of l)) more, one_more is x);
              cut_bytes = omega (arith, ek, r.cut_bytes, ap cuts_of more, one_cut is x);
              same = l ∙ r.same;
              wrote =
                  o
                  ∙ ap (put_at w count cuts x) r.wrote
                  ∙ put_more w first is x count cuts r.counted r.cut_bytes
                  ∙ sym (ap (λ (l : List Item). put_if w first 0 (fields New l)) more);
            }

      pub going_refused : (r' : Reason) → at + length tape ≤ max_tape → byte_effect s (get_or tape i 0) ≡ Err r'
          → Passed (run s₀ at tape) w first (record { count = count; cuts = cuts; ending = Err (record { reason = r'; place = at + i }) }) out
      going_refused r' m e =
          let f = run_refused s₀ at tape i s r.ran h e in
          going_passed m (sym (ap (λ (x : Run). x.items) f)) (sym (ap (λ (x : Run). x.ending) f))

    pub going_done : length tape ≤ i → at + length tape ≤ max_tape → Passed (run s₀ at tape) w first (record { count = count; cuts = cuts; ending = Ok s }) out
    going_done h m =
        let all : take i tape ≡ tape = take_all i tape h in
        going_passed m (ap (λ (l : List ℕ). (run s₀ at l).items) all) (sym r.ran ∙ ap (λ (l : List ℕ). (run s₀ at l).ending) all)

  -- ---- over codes that go further

  pub going_further : {out : List ℕ} {s : State} {count cuts i : ℕ} {t : State} {n j : ℕ} {later : List ℕ} → Further w tape out s count cuts i t n j later
      → Going s₀ at tape first w out s count cuts i → Going s₀ at tape first w later t n cuts j
  going_further further.here g = g
  going_further (further.moved {t} {u} {n} {j} {later} f h e) g = going_moved later t n _ j (going_further f g) h u e
  going_further (further.flashed {t} {n} {j} {later} {next} f h e q) g =
      going_set later t n _ j (going_further f g) h e flashed next (further_length (further.flashed f h e q) ∙ sym (further_length f)) q (n + 1) _ refl refl
