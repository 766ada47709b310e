-- The laws of what a count keeps, `Counting`: at its start, at each effect of a code, at its end.
-- Assumes nothing.
use Rattle.std.specs.Prelude.{Ok, Err}
use Rattle.octets.specs.declared.refusal.Reason.{Reason}
use Rattle.octets.specs.declared.refusal.Reason.TheVariants.{AfterCut, NoStop}
use Rattle.std.proofs.Common.{◌≡◌, ℕ, ◌+◌, ◌*◌, ◌^◌, ◌<◌, ◌≤◌, Bool, true, false, cond, eqb, List, [], ◌∷◌, length, get_or, take, set, sym, refl, ap, ◌∙◌, subst, zero-le, arith, lit≤, length-take-le, take_all, ne_eqb}
use Rattle.octets.specs.Answer.{number_in}
use Rattle.galley_file.specs.declared.character.Character.{Character}
use Rattle.galley_file.specs.declared.item.Item.{Item}
use Rattle.galley_file.specs.declared.item.Item.TheVariants.{Placed}
use Rattle.galley_file.specs.Item.{characters_of}
use Rattle.galley_file.specs.ItemLaws.{all_counted, characters_append}
use Rattle.typesetter.specs.declared.machine.State.{State}
use Rattle.typesetter.specs.declared.machine.Effect.TheVariants.{Moved, Flashed, PageEnded}
use Rattle.typesetter.specs.CodeLaws.{not_zero}
use Rattle.typesetter.specs.Machine.{Step, byte_effect}
use Rattle.typesetter.specs.EffectLaws.{fault_effect}
use Rattle.typesetter.specs.Sound.{Sound}
use Rattle.typesetter.specs.SoundLaws.{stays_sound, page_ended_sound}
use Rattle.tape.specs.Tape.{max_tape, Run, run}
use Rattle.tape.specs.RunLaws.{Sets, flashed, page_ended, so_far, run_length, run_moved, run_set, run_refused}
use Rattle.tape_stretch.specs.Stretch.{NoLead}
use Rattle.figures.specs.Figures.{taken, total, forward_of, backward_of, in_font, Figures, refused_with, accepted_with, sum64}
use Rattle.figures.specs.Figures as R
use Rattle.figures.specs.LeadLaws.{no_lead, forward_most, backward_most}
use Rattle.figures.specs.FiguresLaws.{in_font_append, in_font_most}
use Rattle.figures.specs.Counting.{Counting, count_in, figures_at, figures_from, tally_at, Tallied}
use Rattle.figures.proofs.Arrays.{small_sum, more_of}
use Rattle.figures.proofs.Moves.{total_moved, total_set}

-- a refused tape: its number is not 0, and nothing else of it counts
pub tallied_refused : (f : Figures) (fonts : List ℕ) (r : Reason) → f ≡ refused_with (number_in r) → Tallied f (Err r) fonts
unfolding in_font
tallied_refused f fonts r e =
    subst (λ (x : Figures). Tallied x (Err r) fonts) (sym e)
    (record { number = refl; forward = refl; backward = refl; counts = λ k. refl })

-- ---- a count

module _ (s₀ : State) (tape : List ℕ) where
  pub counting_start : Sound s₀ → (count : ℕ → ℕ) → ((n : ℕ) → count n ≡ 0) → Counting s₀ tape s₀ count 0 0 0
  unfolding run characters_of in_font R.moves total
  counting_start r count z = record { inside = zero-le; sound = r; ran = refl; counts = z; ahead = refl; back = refl; small = omega arith }

  module _ (s : State) (count : ℕ → ℕ) (forward backward i : ℕ) (r : Counting s₀ tape s count forward backward i) where
    pub recount : (other : ℕ → ℕ) → ((n : ℕ) → other n ≡ count n) → Counting s₀ tape s other forward backward i
    recount other e = record { inside = r.inside; sound = r.sound; ran = r.ran; counts = λ n. e n ∙ r.counts n; ahead = r.ahead; back = r.back; small = r.small }

    -- one character a byte at most
    pub counting_few : (n : ℕ) → count n ≤ i
    counting_few n =
        let is = so_far s₀ 0 tape i in
        omega (arith, r.counts n, in_font_most n (characters_of is), all_counted is, run_length s₀ 0 (take i tape), length-take-le i tape r.inside)

    module _ (h : i < length tape) where
      pub counting_moved : (t : State) → byte_effect s (get_or tape i 0) ≡ Ok (Moved t) → (ahead back : ℕ)
          → ahead ≡ forward + forward_of (taken s (get_or tape i 0)) → back ≡ backward + backward_of (taken s (get_or tape i 0)) → ahead + back ≤ 62 * (i + 1)
          → Counting s₀ tape t count ahead back (i + 1)
      counting_moved t e ahead back ea eb l =
          let n = run_moved s₀ 0 tape i s r.ran h e in
          let m = total_moved s₀ 0 tape i s r.ran h e in
          record {
            inside = omega arith;
            sound = stays_sound s r.sound (get_or tape i 0) e;
            ran = ap (λ (x : Run). x.ending) n;
            counts = λ k. r.counts k ∙ sym (ap (λ (x : Run). in_font k (characters_of x.items)) n);
            ahead = ea ∙ ap (λ (k : ℕ). k + forward_of (taken s (get_or tape i 0))) r.ahead ∙ sym (m forward_of);
            back = eb ∙ ap (λ (k : ℕ). k + backward_of (taken s (get_or tape i 0))) r.back ∙ sym (m backward_of);
            small = l;
          }

      -- a code that sets the item x and leaves the state t
      pub counting_set : {e : Step} {x : Item} {t : State} → byte_effect s (get_or tape i 0) ≡ e → Sets s e x t → (other : ℕ → ℕ) → ((n : ℕ) → other n ≡ count n + in_font n (characters_of (x ∷ [])))
          → Counting s₀ tape t other forward backward (i + 1)
      counting_set {e} {x} {t} q m other c =
          let f = run_set s₀ 0 tape i s r.ran h q m in
          let is = so_far s₀ 0 tape i in
          let one : (n : ℕ) → in_font n (characters_of (so_far s₀ 0 tape (i + 1))) ≡ in_font n (characters_of is) + in_font n (characters_of (x ∷ [])) =
          λ n. ap (λ (y : Run). in_font n (characters_of y.items)) f ∙ ap (in_font n) (characters_append is (x ∷ [])) ∙ in_font_append n (characters_of is) (characters_of (x ∷ [])) in
          record {
            inside = omega arith;
            sound = set_sound m q;
            ran = ap (λ (y : Run). y.ending) f;
            counts = λ n. c n ∙ ap (λ (k : ℕ). k + in_font n (characters_of (x ∷ []))) (r.counts n) ∙ sym (one n);
            ahead = r.ahead ∙ sym (total_set s₀ 0 tape i s r.ran h q m forward_of);
            back = r.back ∙ sym (total_set s₀ 0 tape i s r.ran h q m backward_of);
            small = omega (arith, r.small);
          }
        where
          set_sound : {e : Step} {x : Item} {t : State} → Sets s e x t → byte_effect s (get_or tape i 0) ≡ e → Sound t
          set_sound flashed q = r.sound
          set_sound page_ended q = page_ended_sound s r.sound (get_or tape i 0) q

      pub counting_refused : (q : Reason) → byte_effect s (get_or tape i 0) ≡ Err q → (fonts : List ℕ) → Tallied (figures_from s₀ tape) (Err q) fonts
      unfolding figures_from
      counting_refused q e fonts =
          tallied_refused (figures_from s₀ tape) fonts q
          (ap (λ (x : Run). figures_at (run s₀ 0 tape).items (R.moves s₀ tape) x.ending) (run_refused s₀ 0 tape i s r.ran h e))

    pub counting_ended : length tape ≤ i → figures_from s₀ tape ≡ figures_at (run s₀ 0 tape).items (R.moves s₀ tape) (Ok s)
    unfolding figures_from
    counting_ended h =
        ap (figures_at (run s₀ 0 tape).items (R.moves s₀ tape)) (sym (ap (λ (l : List ℕ). (run s₀ 0 l).ending) (take_all i tape h)) ∙ r.ran)

-- ---- leads in 64 bits

module _ (s₀ : State) (tape : List ℕ) (s : State) (count : ℕ → ℕ) (forward backward i : ℕ) (r : Counting s₀ tape s count forward backward i) (h : i < length tape) (short : length tape ≤ max_tape) where
  -- a code that may lead
  pub counting_lead : (t : State) → byte_effect s (get_or tape i 0) ≡ Ok (Moved t)
      → (a b : ℕ) → a ≡ sum64 forward (forward_of (taken s (get_or tape i 0))) → b ≡ sum64 backward (backward_of (taken s (get_or tape i 0)))
      → Counting s₀ tape t count a b (i + 1)
  counting_lead t e a b ea eb =
      let code = get_or tape i 0 in
      let small = r.small in
      let big : 62 * (max_tape + 1) < 2 ^ 64 = lit≤ tt in
      let x = ea ∙ small_sum forward (forward_of (taken s code)) (omega (arith, big, forward_most s code)) in
      let y = eb ∙ small_sum backward (backward_of (taken s code)) (omega (arith, big, backward_most s code)) in
      counting_moved s₀ tape s count forward backward i r h t e a b x y (omega (arith, x, y, forward_most s code, backward_most s code))

  -- a code that does not
  pub counting_turned : (t : State) → byte_effect s (get_or tape i 0) ≡ Ok (Moved t) → NoLead (get_or tape i 0) → Counting s₀ tape t count forward backward (i + 1)
  counting_turned t e l =
      let z = no_lead s (get_or tape i 0) l in
      counting_moved s₀ tape s count forward backward i r h t e forward backward (omega (arith, z.0)) (omega (arith, z.1)) (omega (arith, r.small))

-- ---- the whole step

pub sets_one : (n : ℕ) (k : Character) (font : ℕ) → k.font ≡ font → in_font n (characters_of (Placed k ∷ [])) ≡ cond (eqb font n) 1 0
unfolding in_font characters_of
sets_one n k font e = ap (λ (f : ℕ). cond (eqb f n) 1 0 + 0) e ∙ omega arith

module _ (s₀ : State) (tape : List ℕ) (s : State) (fonts : List ℕ) (forward backward i : ℕ) (r : Counting s₀ tape s (count_in fonts) forward backward i) where
  module _ (h : i < length tape) (short : length tape ≤ max_tape) where
    pub counting_flashed : (c : Character) → byte_effect s (get_or tape i 0) ≡ Ok (Flashed c) → c.font < length fonts → (next : List ℕ) → next ≡ set fonts c.font (sum64 (get_or fonts c.font 0) 1)
        → Counting s₀ tape s (count_in next) forward backward (i + 1)
    counting_flashed c e l next q =
        let few = counting_few s₀ tape s (count_in fonts) forward backward i r c.font in
        let big : max_tape + 1 < 2 ^ 64 = lit≤ tt in
        counting_set s₀ tape s (count_in fonts) forward backward i r h e flashed (count_in next)
        (λ n.
        ap (λ (x : List ℕ). get_or x n 0) q
        ∙ more_of fonts c.font 1 n l (omega (arith, few, short, big))
        ∙ ap (λ (m : ℕ). count_in fonts n + m) (sym (sets_one n c c.font refl)))

    pub counting_page_ended : (t : State) → byte_effect s (get_or tape i 0) ≡ Ok (PageEnded t) → Counting s₀ tape t (count_in fonts) forward backward (i + 1)
    unfolding in_font characters_of
    counting_page_ended t e = counting_set s₀ tape s (count_in fonts) forward backward i r h e page_ended (count_in fonts) (λ n. omega arith)

  -- ---- the end of the tape

  module _ (h : length tape ≤ i) where
    ended : figures_from s₀ tape ≡ figures_at (run s₀ 0 tape).items (R.moves s₀ tape) (Ok s)
    ended = counting_ended s₀ tape s (count_in fonts) forward backward i r h

    done_cut : s.cut ≡ true → Tallied (figures_from s₀ tape) (Err AfterCut) fonts
    done_cut c = tallied_refused (figures_from s₀ tape) fonts AfterCut (ended ∙ rw c)

    done_open : s.cut ≡ false → s.stopped ≡ false → Tallied (figures_from s₀ tape) (Err NoStop) fonts
    done_open c p = tallied_refused (figures_from s₀ tape) fonts NoStop (ended ∙ rw (c, p))

    done_stopped : s.cut ≡ false → s.stopped ≡ true → Tallied (figures_from s₀ tape) (Ok (record { forward = forward; backward = backward })) fonts
    done_stopped c p =
        let all = take_all i tape h in
        let is = (run s₀ 0 tape).items in
        let e : figures_from s₀ tape ≡ accepted_with (characters_of is) (R.moves s₀ tape) = ended ∙ rw (c, p) in
        subst (λ (x : Figures). Tallied x (Ok (record { forward = forward; backward = backward })) fonts) (sym e)
        (record {
          number = refl;
          forward = r.ahead ∙ ap (λ (l : List ℕ). total forward_of (R.moves s₀ l)) all;
          backward = r.back ∙ ap (λ (l : List ℕ). total backward_of (R.moves s₀ l)) all;
          counts = λ n. r.counts n ∙ ap (λ (l : List ℕ). in_font n (characters_of (run s₀ 0 l).items)) all;
        })

    pub done : Tallied (figures_from s₀ tape) (tally_at s (record { forward = forward; backward = backward })) fonts
    done = go s.cut refl s.stopped refl
      where
        go : (c : Bool) → s.cut ≡ c → (p : Bool) → s.stopped ≡ p
            → Tallied (figures_from s₀ tape) (cond c (Err AfterCut) (cond p (Ok (record { forward = forward; backward = backward })) (Err NoStop))) fonts
        go true c p q = done_cut c
        go false c true q = done_stopped c q
        go false c false q = done_open c q
