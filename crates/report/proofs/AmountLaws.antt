-- What one tape adds to the report: its number, its characters, its lead.
--     View               how a tape is answered: refused under 1 to 10 or 50, or run to its stop
--     one_number         a tape adds 1 to one of the entries of the numbers
--     all_fonts          and its characters to those of the font numbers
--     few                no amount comes near 64 bits
--     figures_level      forward less backward is the sum of the heights at which its pages end
-- Assumes nothing.
use Rattle.std.specs.Prelude.{◌≡◌, ℕ, zero, suc, ◌+◌, ◌-◌, ◌*◌, ◌<◌, ◌≤◌, Bool, true, false, cond, ◌⊎◌, List, [], ◌∷◌, length, ℤ, pos, ◌+ℤ◌, ◌-ℤ◌, ◌==◌, ◌≢◌, nat_lt, Result as ResultOf, Ok, Err}
use Rattle.octets.specs.declared.refusal.Reason.{Reason}
use Rattle.std.proofs.Math.Path.{refl}
use Rattle.std.proofs.Common.{sym, ap, subst, ◌∙◌, inl, inr, arith, ne_eqb, ltb-false, eqb-true}
use Rattle.std.proofs.lemmas.Bool.{eqb-false}
use Rattle.std.proofs.Math.Dec.{lit≤}
use Rattle.integers.specs.Parts.{integers, sum_parts, dif_parts}
use Rattle.integers.specs.Tables.{numbers}
use Rattle.octets.specs.Answer.{Result, refusal, written, if_room, tape_too_long, after_cut, no_stop, no_galley_room, no_machine, number_in}
use Rattle.octets.specs.AnswerLaws.{room_enough}
use Rattle.measure.specs.Place.{height_end}
use Rattle.galley_file.specs.declared.form.Form.TheVariants.{New}
use Rattle.galley_file.specs.declared.item.Item.{Item}
use Rattle.galley_file.specs.declared.item.Item.TheVariants.{Placed, Cut}
use Rattle.galley_file.specs.Form.{max_galley}
use Rattle.galley_file.specs.CharacterLaws.{valid_parts}
use Rattle.galley_file.specs.Item.{characters_of}
use Rattle.galley_file.specs.ItemLaws.{all_counted}
use Rattle.galley_file.specs.Galley.{AllValid, nil, more, galley}
use Rattle.typesetter.specs.declared.code.Machine.{Machine}
use Rattle.typesetter.specs.declared.machine.State.{State}
use Rattle.typesetter.specs.declared.machine.Effect.TheVariants.{Moved, Flashed, PageEnded}
use Rattle.typesetter.specs.Code.{machine_of}
use Rattle.typesetter.specs.CodeLaws.{machine_refused}
use Rattle.typesetter.specs.Machine.{Step, start, byte_effect}
use Rattle.typesetter.specs.EffectLaws.{IsFault}
use Rattle.typesetter.specs.SoundLaws.{start_sound}
use Rattle.tape.specs.Tape.{Ending, max_tape, run, closing, read_result, on_machine, tape_result}
use Rattle.tape.specs.RunLaws.{run_length, run_valid, FaultIn, run_fault}
use Rattle.tape.specs.TapeLaws.{items_fit}
use Rattle.figures.specs.Figures.{Move, taken, moves, total, forward_of, backward_of, in_font, Figures, figures_by, figures_of}
use Rattle.report.specs.Report.{number_entry, amount}
use Rattle.figures.specs.LeadLaws.{cond_most, forward_most, backward_most}
use Rattle.figures.specs.FiguresLaws.{in_font_most, items_back}
use Rattle.report.specs.Sums.{sum_of, Tape, result_of, characters_by, ends_by, sum_heights, page_ends}
use Rattle.report.proofs.HeightLaws.{level, run_levels}

-- ---- how a tape is answered

-- 1 to 10, or 50
abbrev pub Answered : ℕ → Type 0
Answered n = ((1 ≤ n) × (n ≤ 10)) ⊎ (n ≡ no_machine)

pub data View (tape : List ℕ) (machine : ℕ) : Result → Type 0 where
  stopped_short : {n place : ℕ} → Answered n → View tape machine (refusal n place)
  ran_whole : (kind : Machine) (s : State) → machine_of machine ≡ Ok kind → length tape ≤ max_tape → (run (start kind) 0 tape).ending ≡ Ok s → s.stopped ≡ true
      → View tape machine (written (galley New (run (start kind) 0 tape).items))

module _ (tape : List ℕ) (machine : ℕ) where
  on_machine_lem : (kind : Machine) → machine_of machine ≡ Ok kind → length tape ≤ max_tape → View tape machine (read_result (start kind) tape (max_galley New))
  unfolding read_result if_room
  on_machine_lem kind e l = go (run (start kind) 0 tape).ending refl
    where
      is : List Item
      is = (run (start kind) 0 tape).items

      whole : (s : State) → (run (start kind) 0 tape).ending ≡ Ok s → s.stopped ≡ true → View tape machine (if_room no_galley_room (max_galley New) (written (galley New is)))
      whole s r p =
          subst (View tape machine) (sym (room_enough no_galley_room (max_galley New) (galley New is) (items_fit kind tape l))) (ran_whole kind s e l r p)

      closed : (s : State) → (run (start kind) 0 tape).ending ≡ Ok s → (t u : Bool) → s.stopped ≡ u
          → View tape machine (if_room no_galley_room (max_galley New) (cond t (refusal after_cut (length tape)) (cond u (written (galley New is)) (refusal no_stop (length tape)))))
      closed s r true u p = stopped_short (inl (lit≤ tt, lit≤ tt))
      closed s r false true p = whole s r p
      closed s r false false p = stopped_short (inl (lit≤ tt, lit≤ tt))

      go : (x : Ending) → (run (start kind) 0 tape).ending ≡ x → View tape machine (if_room no_galley_room (max_galley New) (closing (length tape) is x))
      go (Ok s) r = closed s r s.cut s.stopped refl
      go (Err q) r = let f : IsFault (number_in q.reason) = subst FaultIn r (run_fault (start kind) 0 tape) in stopped_short {n = number_in q.reason} (inl (omega (arith, f.0), f.1))

  pub view : View tape machine (tape_result tape machine (max_galley New))
  unfolding tape_result
  view = go (nat_lt max_tape (length tape)) refl (machine_of machine) refl
    where
      go : (t : Bool) → nat_lt max_tape (length tape) ≡ t → (k : ResultOf Machine Reason) → machine_of machine ≡ k → View tape machine (cond t (refusal tape_too_long 0) (on_machine tape (max_galley New) k))
      go true l k e = stopped_short (inl (lit≤ tt, lit≤ tt))
      go false l (Err reason) e = stopped_short (inr (ap number_in (machine_refused machine e)))
      go false l (Ok kind) e = on_machine_lem kind e (ltb-false _ _ l)

-- ---- its number

-- 1 at the entry of the number, among the entries 1 to 12
abbrev at_number : ℕ → ℕ → ℕ
at_number n i = cond (i == number_entry n) 1 0

one_at : (n : ℕ) → n ≤ 10 → sum_of (at_number n) (numbers 1 12) ≡ 1
unfolding sum_of
one_at zero h = refl
one_at (suc zero) h = refl
one_at (suc (suc zero)) h = refl
one_at (suc (suc (suc zero))) h = refl
one_at (suc (suc (suc (suc zero)))) h = refl
one_at (suc (suc (suc (suc (suc zero))))) h = refl
one_at (suc (suc (suc (suc (suc (suc zero)))))) h = refl
one_at (suc (suc (suc (suc (suc (suc (suc zero))))))) h = refl
one_at (suc (suc (suc (suc (suc (suc (suc (suc zero)))))))) h = refl
one_at (suc (suc (suc (suc (suc (suc (suc (suc (suc zero))))))))) h = refl
one_at (suc (suc (suc (suc (suc (suc (suc (suc (suc (suc zero)))))))))) h = refl
one_at (suc (suc (suc (suc (suc (suc (suc (suc (suc (suc (suc n))))))))))) h = absurd (omega arith)

one_fifty : sum_of (at_number 50) (numbers 1 12) ≡ 1
unfolding sum_of
one_fifty = refl

amounts_number : (f : Figures) → sum_of (amount f) (numbers 1 12) ≡ sum_of (at_number f.number) (numbers 1 12)
unfolding sum_of amount
amounts_number f = refl

pub one_number : (t : Tape) → sum_of (amount (figures_of t.bytes t.machine)) (numbers 1 12) ≡ 1
unfolding figures_of
one_number t = amounts_number (figures_of t.bytes t.machine) ∙ go (view t.bytes t.machine)
  where
    answered : (n : ℕ) → Answered n → sum_of (at_number n) (numbers 1 12) ≡ 1
    answered n (inl h) = one_at n h.1
    answered n (inr e) = ap (λ (m : ℕ). sum_of (at_number m) (numbers 1 12)) e ∙ one_fifty

    go : {r : Result} → View t.bytes t.machine r → sum_of (at_number (figures_by (machine_of t.machine) t.bytes r).number) (numbers 1 12) ≡ 1
    go (stopped_short {n} a) = answered n a
    go (ran_whole kind s e l r p) = one_at 0 (lit≤ tt)

-- ---- its characters

pub sum_add : (f g : ℕ → ℕ) (is : List ℕ) → sum_of (λ i. f i + g i) is ≡ sum_of f is + sum_of g is
unfolding sum_of
sum_add f g [] = refl
sum_add f g (i ∷ is) = omega (arith, sum_add f g is)

abbrev one : ℕ → ℕ → ℕ
one k n = cond (k == n) 1 0

miss : (k j m : ℕ) → k < j → sum_of (one k) (numbers j m) ≡ 0
unfolding sum_of
miss k j zero h = refl
miss k j (suc m) h = ap (λ (t : Bool). cond t 1 0 + sum_of (one k) (numbers (suc j) m)) (ne_eqb k j (λ e. omega arith)) ∙ omega (arith, miss k (suc j) m (omega arith))

hit : (k j m : ℕ) → j ≤ k → k < j + m → sum_of (one k) (numbers j m) ≡ 1
unfolding sum_of
hit k j zero l h = absurd (omega arith)
hit k j (suc m) l h = go (λ d. hit k (suc j) m (omega arith) (omega arith)) (k == j) refl
  where
    go : ((k ≢ j) → sum_of (one k) (numbers (suc j) m) ≡ 1) → (t : Bool) → (k == j) ≡ t → cond (k == j) 1 0 + sum_of (one k) (numbers (suc j) m) ≡ 1
    go later true t = let e = eqb-true k j t in ap (λ (u : Bool). cond u 1 0 + sum_of (one k) (numbers (suc j) m)) t ∙ omega (arith, miss k (suc j) m (omega arith))
    go later false t = ap (λ (u : Bool). cond u 1 0 + sum_of (one k) (numbers (suc j) m)) t ∙ omega (arith, later (eqb-false k j t))

sum_none : (is : List ℕ) → sum_of (λ i. 0) is ≡ 0
unfolding sum_of
sum_none [] = refl
sum_none (i ∷ is) = omega (arith, sum_none is)

-- characters of valid items, font number by font number
fonts_counted : (is : List Item) → AllValid height_end is → sum_of (λ n. in_font n (characters_of is)) (numbers 0 120) ≡ length (characters_of is)
unfolding characters_of in_font
fonts_counted [] nil = sum_none (numbers 0 120)
fonts_counted (Placed c ∷ is) (more v vs) =
    let low = (valid_parts v).font in
    sum_add (one c.font) (λ n. in_font n (characters_of is)) (numbers 0 120)
    ∙ omega (arith, hit c.font 0 120 (omega arith) (omega arith), fonts_counted is vs)
fonts_counted (Cut ∷ is) (more v vs) = fonts_counted is vs

amounts_fonts : (f : Figures) → sum_of (amount f) (numbers 13 120) ≡ sum_of (λ n. in_font n f.characters) (numbers 0 120)
unfolding sum_of amount
amounts_fonts f = refl

pub all_fonts : (t : Tape) → sum_of (amount (figures_of t.bytes t.machine)) (numbers 13 120) ≡ characters_by (result_of t)
unfolding figures_of characters_of
all_fonts t = amounts_fonts (figures_of t.bytes t.machine) ∙ go (view t.bytes t.machine)
  where
    go : {r : Result} → View t.bytes t.machine r → sum_of (λ n. in_font n (figures_by (machine_of t.machine) t.bytes r).characters) (numbers 0 120) ≡ characters_by r
    go (stopped_short a) = fonts_counted [] nil
    go (ran_whole kind s e l r p) =
        let is = (run (start kind) 0 t.bytes).items in
        let back = items_back kind t.bytes l in
        ap (λ (js : List Item). sum_of (λ n. in_font n (characters_of js)) (numbers 0 120)) back
        ∙ fonts_counted is (run_valid (start kind) 0 t.bytes (start_sound kind))
        ∙ sym (ap (λ (js : List Item). length (characters_of js)) back)

-- ---- its lead

pub figures_level : (t : Tape) → let f = figures_of t.bytes t.machine in pos f.forward -ℤ pos f.backward ≡ sum_heights (ends_by t (result_of t))
unfolding figures_of sum_heights
figures_level t = go (view t.bytes t.machine)
  where
    levelled : (a b e : ℤ) (f m : ℕ) → a ≡ pos 0 → b ≡ pos 0 → a +ℤ pos f ≡ (b +ℤ e) +ℤ pos m → pos f -ℤ pos m ≡ e
    levelled a b e f m p q h = omega (integers, p, q, h, sum_parts a (pos f), sum_parts b e, sum_parts (b +ℤ e) (pos m), dif_parts (pos f) (pos m))

    go : {r : Result} → View t.bytes t.machine r → let f = figures_by (machine_of t.machine) t.bytes r in pos f.forward -ℤ pos f.backward ≡ sum_heights (ends_by t r)
    go (stopped_short a) = refl
    go (ran_whole kind s e l r p) =
        rw e
        (levelled (level (start kind)) (level s) (sum_heights (page_ends (start kind) t.bytes)) _ _ refl (ap (λ (u : Bool). cond u (pos 0) s.height.0) p) (run_levels (start kind) 0 t.bytes r))

-- ---- how much it adds

abbrev most : ℕ
most = 31 * max_tape

total_most : (f : Move → ℕ) → ((s : State) (b : ℕ) → f (taken s b) ≤ 31) → (s : State) (bs : List ℕ) → total f (moves s bs) ≤ 31 * length bs
unfolding total moves
total_most f m s [] = omega arith
total_most f m s (b ∷ bs) = go (λ u. total_most f m u bs) (byte_effect s b) refl
  where
    go : ((u : State) → total f (moves u bs) ≤ 31 * length bs) → (x : Step) → byte_effect s b ≡ x → total f (moves s (b ∷ bs)) ≤ 31 * suc (length bs)
    go later (Ok (Moved u)) q = rw (q, moves) (omega (arith, m s b, later u))
    go later (Ok (Flashed c)) q = rw (q, moves) (omega (arith, later s))
    go later (Ok (PageEnded u)) q = rw (q, moves) (omega (arith, later u))
    go later (Err r) q = rw (q, moves) (omega arith)

pub record Few (f : Figures) : Type 0 where
  pub characters : length f.characters ≤ most
  pub forward : f.forward ≤ most
  pub backward : f.backward ≤ most

amount_few : (f : Figures) → Few f → (i : ℕ) → amount f i ≤ most
unfolding amount
amount_few f r i =
    cond_most (i == 0) 1 _ most (lit≤ tt)
    (cond_most (nat_lt i 13) _ _ most (cond_most (i == number_entry f.number) 1 0 most (lit≤ tt) (omega arith))
    (cond_most (nat_lt i 133) _ _ most (omega (arith, in_font_most (i - 13) f.characters, r.characters))
    (cond_most (i == 133) f.forward f.backward most r.forward r.backward)))

pub few : (t : Tape) (i : ℕ) → amount (figures_of t.bytes t.machine) i ≤ most
unfolding figures_of
few t i = amount_few (figures_of t.bytes t.machine) (go (view t.bytes t.machine)) i
  where
    go : {r : Result} → View t.bytes t.machine r → Few (figures_by (machine_of t.machine) t.bytes r)
    go (stopped_short a) = record { characters = omega arith; forward = omega arith; backward = omega arith }
    go (ran_whole kind s e l r p) =
        let is = (run (start kind) 0 t.bytes).items in
        let back = ap (λ (js : List Item). length (characters_of js)) (items_back kind t.bytes l) in
        rw e
        (record {
          characters = omega (arith, back, all_counted is, run_length (start kind) 0 t.bytes, l);
          forward = omega (arith, total_most forward_of forward_most (start kind) t.bytes, l);
          backward = omega (arith, total_most backward_of backward_most (start kind) t.bytes, l);
        })
