-- A run item by item, how far it goes and how much it shows.
--     part                                           the part of a slice from a place on
--     first_none, first_first                        what comes before a run
--     run_pass, run_none, run_pop                    a run, by its first byte
--     run_bad, run_end, run_past                     a run, by its first item
--     SoundItem, SoundRun, item_sound, run_sound     an item, and a run with the POP or EOP that ends it, lie in their bytes
-- Assumes nothing.
use Rattle.std.specs.Prelude.{◌≡◌, eqb, ℤ, length, get_or, take, drop}
use Rattle.std.proofs.Math.Path.{refl, ap}
use Rattle.std.proofs.Common.{sym, ◌∙◌, add-one, eq-eqb, ne_eqb, length-append, length-drop, drop-drop, take_all}
use mathlib.Core.List.{List, [], ◌∷◌, ◌++◌, append_assoc}
use Prim.Native.Nat.{ℕ, zero, suc, ◌+◌, ◌-◌, ◌≤◌, ◌<◌}
use Rattle.std.proofs.Math.Nat.{add-zero}
use native.Mathlib.Omega.{arith}
use Rattle.octets.specs.OctetsLaws.{by_cond}
use Rattle.octets.specs.Answer.{dvi_ends_early}
use Rattle.dvi.specs.Command.{PUSH, POP, layout_of, Decoded, no_command, cut_short, command, decode}
use Rattle.sheet.specs.Sheet.{Mark}
use Rattle.dvi.specs.Page.{Page, Effect, fault, moved, marked, ended, effect}
use Rattle.dvi.proofs.FileLaws.{Held, held}
use Rattle.dvi_brackets.specs.Brackets.{Item, bad_item, past_item, page_end, Run, bad_run, to_pop, to_eop, effect_item, command_item, leave, group, item, first, then_run, run, item_here}

-- the part of a slice from k on
pub part : (k : ℕ) (s : List ℕ) → take (length s - k) (drop k s) ≡ drop k s
part k s = take_all (length s - k) (drop k s) (simp length-drop (omega arith))

-- ---- what comes before a run

pub first_none : (r : Run) → first [] 0 r ≡ r
unfolding first
first_none (bad_run k i) = refl
first_none (to_pop q ms n) = ap (to_pop q ms) (omega arith)
first_none (to_eop ms n) = ap (to_eop ms) (omega arith)

pub first_first : (ms ns : List Mark) (i j : ℕ) (r : Run) → first ms i (first ns j r) ≡ first (ms ++ ns) (i + j) r
unfolding first
first_first ms ns i j (bad_run k l) = refl
first_first ms ns i j (to_pop q ks n) = let e : i + (j + n) ≡ i + j + n = omega arith in (λ o. to_pop q (sym (append_assoc ms ns ks) o) (e o))
first_first ms ns i j (to_eop ks n) = let e : i + (j + n) ≡ i + j + n = omega arith in (λ o. to_eop (sym (append_assoc ms ns ks) o) (e o))

-- ---- one item

module _ (ws : List ℤ) (d : ℕ) where
  pub run_pass : (at n : ℕ) (p : Page) (bs : List ℕ) → n ≤ length bs → run ws d at p n bs ≡ run ws d (at + n) p 0 (drop n bs)
  unfolding run
  run_pass at zero p bs h = rw add-zero
  run_pass at (suc n) p [] h = absurd (omega arith)
  run_pass at (suc n) p (b ∷ bs) h = run_pass (suc at) n p bs (omega arith) ∙ ap (λ (k : ℕ). run ws d k p 0 (drop n bs)) (omega arith)

  pub run_none : (at : ℕ) (p : Page) (s : List ℕ) → length s ≡ 0 → run ws d at p 0 s ≡ bad_run dvi_ends_early at
  unfolding run
  run_none at p [] h = refl
  run_none at p (b ∷ bs) h = absurd (omega arith)

  pub run_pop : (at : ℕ) (p : Page) (s : List ℕ) → 0 < length s → get_or s 0 0 ≡ POP → run ws d at p 0 s ≡ to_pop p [] 0
  unfolding run
  run_pop at p [] h e = absurd (omega arith)
  run_pop at p (b ∷ bs) h e = rw (eq-eqb b POP e)

  run_item : (at : ℕ) (p : Page) (s : List ℕ) → 0 < length s → (get_or s 0 0 ≡ POP → ⊥)
      → run ws d at p 0 s ≡ then_run (item_here ws d at p s) (λ q n. run ws d (at + 1) q n (drop 1 s))
  unfolding run
  run_item at p [] h e = absurd (omega arith)
  run_item at p (b ∷ bs) h e =
      rw (ne_eqb b POP e)
      (λ i. then_run (item ws d at p b bs (λ e. run ws e (sym (add-one at) i) p 0 bs)) (λ q n. run ws d (sym (add-one at) i) q n bs))

  module _ (at : ℕ) (p : Page) (s : List ℕ) (h : 0 < length s) (e : get_or s 0 0 ≡ POP → ⊥) where
    pub run_bad : (k i : ℕ) → item_here ws d at p s ≡ bad_item k i → run ws d at p 0 s ≡ bad_run k i
    unfolding then_run
    run_bad k i f = run_item at p s h e ∙ ap (λ (x : Item). then_run x (λ q n. run ws d (at + 1) q n (drop 1 s))) f

    pub run_end : item_here ws d at p s ≡ page_end → run ws d at p 0 s ≡ to_eop [] 0
    unfolding then_run
    run_end f = run_item at p s h e ∙ ap (λ (x : Item). then_run x (λ q n. run ws d (at + 1) q n (drop 1 s))) f

    pub run_past : (q : Page) (ms : List Mark) (n : ℕ) → item_here ws d at p s ≡ past_item q ms n → n ≤ length (drop 1 s)
        → run ws d at p 0 s ≡ first ms (1 + n) (run ws d (at + (1 + n)) q 0 (drop (1 + n) s))
    unfolding then_run
    run_past q ms n f l =
        run_item at p s h e
        ∙ ap (λ (x : Item). then_run x (λ q n. run ws d (at + 1) q n (drop 1 s))) f
        ∙ ap (first ms (suc n))
        (run_pass (at + 1) n q (drop 1 s) l
        ∙ ap (λ (k : ℕ). run ws d k q 0 (drop n (drop 1 s))) (omega arith)
        ∙ ap (run ws d (at + (1 + n)) q 0) (drop-drop n 1 s))
        ∙ ap (λ (k : ℕ). first ms k (run ws d (at + (1 + n)) q 0 (drop (1 + n) s))) (omega arith)

-- ---- bounds

-- an item before k bytes lies there, and each mark takes a byte
abbrev pub SoundItem : ℕ → Item → Type 0
SoundItem k (bad_item j i) = Unit {0}
SoundItem k (past_item q ms n) = (n ≤ k) × (length ms ≤ suc n)
SoundItem k page_end = Unit {0}

-- a run that starts n bytes after the start of k bytes, and its POP or EOP, lie there
abbrev pub SoundRun : ℕ → ℕ → Run → Type 0
SoundRun n k (bad_run j i) = Unit {0}
SoundRun n k (to_pop q ms m) = (n + m < k) × (length ms ≤ m)
SoundRun n k (to_eop ms m) = (n + m < k) × (length ms ≤ m)

sound_shift : (n k : ℕ) (r : Run) → SoundRun n k r → SoundRun (suc n) (suc k) r
sound_shift n k (bad_run j i) h = tt
sound_shift n k (to_pop q ms m) h = (omega (arith, h.0), h.1)
sound_shift n k (to_eop ms m) h = (omega (arith, h.0), h.1)

first_sound : (ms : List Mark) (n k : ℕ) (r : Run) → length ms ≤ suc n → SoundRun n k r → SoundRun 0 (suc k) (first ms (suc n) r)
unfolding first
first_sound ms n k (bad_run j i) l h = tt
first_sound ms n k (to_pop q ns m) l h = (omega (arith, h.0), omega (arith, h.1, l, length-append ms ns))
first_sound ms n k (to_eop ns m) l h = (omega (arith, h.0), omega (arith, h.1, l, length-append ms ns))

then_sound : (k : ℕ) (i : Item) (rest : Page → ℕ → Run) → SoundItem k i → ((q : Page) (n : ℕ) → SoundRun n k (rest q n)) → SoundRun 0 (suc k) (then_run i rest)
unfolding then_run
then_sound k (bad_item j i) rest h g = tt
then_sound k (past_item q ms n) rest h g = first_sound ms n k (rest q n) h.1 (g q n)
then_sound k page_end rest h g = (omega arith, omega arith)

effect_sound : (at n k : ℕ) (e : Effect) → n ≤ k → SoundItem k (effect_item at n e)
unfolding effect_item
effect_sound at n k (fault j) h = tt
effect_sound at n k (moved q) h = (h, omega arith)
effect_sound at n k (marked q m) h = (h, omega arith)
effect_sound at n k ended h = tt

module _ (ws : List ℤ) where
  command_sound : (at k : ℕ) (p : Page) (d : Decoded) → Held k d → SoundItem k (command_item ws at p d)
  unfolding command_item
  command_sound at k p no_command h = tt
  command_sound at k p cut_short h = tt
  command_sound at k p (command c n) h = effect_sound at n k (effect ws p c) h

  leave_sound : (at k : ℕ) (p : Page) (r : Run) → SoundRun 0 k r → SoundItem k (leave at p r)
  unfolding leave
  leave_sound at k p (bad_run j i) h = tt
  leave_sound at k p (to_pop q ms m) h = (omega (arith, h.0), omega (arith, h.1))
  leave_sound at k p (to_eop ms m) h = tt

  group_sound : (d at k : ℕ) (p : Page) (inner : ℕ → Run) → ((e : ℕ) → SoundRun 0 k (inner e)) → SoundItem k (group d at p inner)
  unfolding group
  group_sound zero at k p inner h = tt
  group_sound (suc d) at k p inner h = leave_sound at k p (inner d) (h d)

  some_sound : (d at : ℕ) (p : Page) (b : ℕ) (bs : List ℕ) (inner : ℕ → Run) → ((e : ℕ) → SoundRun 0 (length bs) (inner e)) → SoundItem (length bs) (item ws d at p b bs inner)
  unfolding item decode
  some_sound d at p b bs inner h =
      by_cond (SoundItem (length bs)) (eqb b PUSH) _ _
      (λ _. group_sound d at (length bs) p inner h)
      (λ _. command_sound at (length bs) p (decode b bs) (held (layout_of b) bs))

  pub run_sound : (bs : List ℕ) (d at : ℕ) (p : Page) (n : ℕ) → SoundRun n (length bs) (run ws d at p n bs)
  unfolding run
  run_sound [] d at p n = tt
  run_sound (b ∷ bs) d at p (suc n) = sound_shift n (length bs) (run ws d (suc at) p n bs) (run_sound bs d (suc at) p n)
  run_sound (b ∷ bs) d at p zero =
      by_cond (SoundRun 0 (suc (length bs))) (eqb b POP) _ _ (λ _. (omega arith, omega arith))
      (λ _.
      then_sound (length bs) _ (λ q n. run ws d (suc at) q n bs) (some_sound d at p b bs _ (λ e. run_sound bs e (suc at) p 0))
      (λ q n. run_sound bs d (suc at) q n))

  pub item_sound : (d at : ℕ) (p : Page) (s : List ℕ) → SoundItem (length (drop 1 s)) (item_here ws d at p s)
  item_sound d at p s = some_sound d at p (get_or s 0 0) (drop 1 s) _ (λ e. run_sound (drop 1 s) e (at + 1) p 0)
