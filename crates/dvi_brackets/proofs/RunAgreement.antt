-- A run read as brackets is what the reading with a stack does, up to the POP or EOP that ends it.
--     at_pop, at_eop     how the reading with a stack goes on there
--     resume           the same after a run
--     run_agrees       a run, whatever stack lies below it
-- Assumes nothing.
use Rattle.std.specs.Prelude.{◌≡◌, ◌⊎◌, eqb, ℤ, length}
use Rattle.std.proofs.Math.Path.{refl, sym, ap}
use Rattle.std.proofs.Common.{◌∙◌, inl, inr, arith, eqb-true, lt-ltb, le-ltb}
use mathlib.Core.List.{List, [], ◌∷◌, ◌++◌}
use Prim.Native.Nat.{ℕ, zero, suc, ◌+◌, ◌≤◌, ◌<◌}
use Rattle.std.proofs.lemmas.Bool.{eqb-false}
use Rattle.octets.specs.OctetsLaws.{by_cond}
use Rattle.octets.specs.Answer.{stack_full, stack_empty, entries_left}
use Rattle.dvi.specs.Command.{PUSH, POP, eop, layouts, layout_of, Decoded, no_command, cut_short, command, with_parameters, decode}
use Rattle.sheet.specs.Sheet.{Mark}
use Rattle.dvi.specs.Page.{max_stack, Numbers, Page, Effect, fault, moved, marked, ended, with_numbers, pushed, popped, end_page, effect}
use Rattle.dvi.specs.File as F
use Rattle.sheet.specs.Shown.{Shown, refused_at, shows_first}
use Rattle.dvi.specs.File.{between, inside, Step, after_effect, in_page, step, follow, marks_alone}
use Rattle.sheet.specs.ShownLaws.{shows_first_nil, shows_first_append}
use Rattle.dvi_brackets.specs.Brackets.{Item, Run, bad_run, to_pop, to_eop, effect_item, command_item, leave, group, item, first, then_run, run}
use Rattle.dvi_brackets.proofs.Inner.{InnerDecoded, inner_decoded, onto, onto_effect, Goes, Onto, effect_onto}
use Rattle.dvi_brackets.proofs.Clean.{HasStack, Clean, eop_ends, effect_clean, run_clean}

module _ (ws : List ℤ) (last : ℤ) where
  -- the stack reading goes on after a POP, or an EOP, that stands k bytes after offset `at`, with the stack st
  abbrev pub at_pop : List Numbers → Page → ℕ → ℕ → List ℕ → Shown
  at_pop [] q at k bs = refused_at stack_empty (at + k)
  at_pop (x ∷ st) q at k bs = F.run ws at (inside last (record { numbers = x; font = q.font; stack = st })) (suc k) bs

  abbrev pub at_eop : List Numbers → ℕ → ℕ → List ℕ → Shown
  at_eop [] at k bs = F.run ws at (between last) (suc k) bs
  at_eop (x ∷ st) at k bs = refused_at entries_left (at + k)

  -- the same after a run that starts n bytes after offset `at`
  abbrev pub resume : List Numbers → ℕ → ℕ → List ℕ → Run → Shown
  resume st at n bs (bad_run k i) = refused_at k i
  resume st at n bs (to_pop q ms m) = shows_first ms (at_pop st q at (n + m) bs)
  resume st at n bs (to_eop ms m) = shows_first ms (at_eop st at (n + m) bs)

  module _ (at : ℕ) (b : ℕ) (bs : List ℕ) where
    -- one byte further
    pub pop_shift : (st : List Numbers) (q : Page) (k j : ℕ) → k ≡ suc j → at_pop st q at k (b ∷ bs) ≡ at_pop st q (suc at) j bs
    unfolding F.run_as
    pop_shift [] q k j e = ap (refused_at stack_empty) (omega arith)
    pop_shift (x ∷ st) q k j e = ap (λ (i : ℕ). F.run ws (suc at) (inside last (record { numbers = x; font = q.font; stack = st })) i bs) e

    pub eop_shift : (st : List Numbers) (k j : ℕ) → k ≡ suc j → at_eop st at k (b ∷ bs) ≡ at_eop st (suc at) j bs
    unfolding F.run_as
    eop_shift [] k j e = ap (λ (i : ℕ). F.run ws (suc at) (between last) i bs) e
    eop_shift (x ∷ st) k j e = ap (refused_at entries_left) (omega arith)

    resume_pass : (st : List Numbers) (n : ℕ) (r : Run) → resume st (suc at) n bs r ≡ resume st at (suc n) (b ∷ bs) r
    resume_pass st n (bad_run k i) = refl
    resume_pass st n (to_pop q ms m) = ap (shows_first ms) (sym (pop_shift st q (suc n + m) (n + m) (omega arith)))
    resume_pass st n (to_eop ms m) = ap (shows_first ms) (sym (eop_shift st (suc n + m) (n + m) (omega arith)))

    resume_first : (st : List Numbers) (ms : List Mark) (n : ℕ) (r : Run) → shows_first ms (resume st (suc at) n bs r) ≡ resume st at 0 (b ∷ bs) (first ms (suc n) r)
    unfolding shows_first first
    resume_first st ms n (bad_run k i) = refl
    resume_first st ms n (to_pop q ns m) =
        shows_first_append ms ns (at_pop st q (suc at) (n + m) bs)
        ∙ ap (shows_first (ms ++ ns)) (sym (pop_shift st q (0 + (suc n + m)) (n + m) (omega arith)))
    resume_first st ms n (to_eop ns m) =
        shows_first_append ms ns (at_eop st (suc at) (n + m) bs)
        ∙ ap (shows_first (ms ++ ns)) (sym (eop_shift st (0 + (suc n + m)) (n + m) (omega arith)))

    -- what both readings do at offset `at` on the page p, where d groups may stand in one another and the stack st lies below; that they agree after the first byte is given
    module _ (d : ℕ) (p : Page) (st : List Numbers) (s : p.stack ≡ []) (h : length st + d ≡ max_stack)
        (ih : (e : ℕ) (q : Page) (n : ℕ) (ts : List Numbers) → q.stack ≡ [] → length ts + e ≡ max_stack → F.run ws (suc at) (inside last (onto q ts)) n bs ≡ resume ts (suc at) n bs (run ws e (suc at) q n bs)) where
      abbrev stack_goes : Step → Shown
      stack_goes k = follow marks_alone at k (λ r n. F.run ws (suc at) r n bs)

      abbrev bracket_goes : Item → Shown
      bracket_goes i = resume st at 0 (b ∷ bs) (then_run i (λ q n. run ws d (suc at) q n bs))

      effect_agrees : (n : ℕ) (e : Effect) → Goes e → HasStack [] e → stack_goes (after_effect last n (onto_effect st e)) ≡ bracket_goes (effect_item at n e)
      unfolding follow after_effect effect_item then_run
      effect_agrees n (fault k) t g = refl
      effect_agrees n (moved q) t g = ap (shows_first []) (ih d q n st g h) ∙ resume_first st [] n (run ws d (suc at) q n bs)
      effect_agrees n (marked q m) t g = ap (shows_first (m ∷ [])) (ih d q n st g h) ∙ resume_first st (m ∷ []) n (run ws d (suc at) q n bs)
      effect_agrees n ended t g = absurd t

      -- EOP: the page ends where no group is open
      eop_agrees : (ts : List Numbers) → follow marks_alone at (after_effect last 0 (end_page ts)) (λ r n. F.run ws (suc at) r n bs) ≡ resume ts at 0 (b ∷ bs) (to_eop [] 0)
      unfolding follow after_effect end_page shows_first F.run_as
      eop_agrees [] = refl
      eop_agrees (x ∷ ts) = ap (refused_at entries_left) (omega arith)

      end_agrees : stack_goes (after_effect last 0 (effect ws (onto p st) eop)) ≡ bracket_goes (effect_item at 0 (effect ws p eop))
      unfolding effect effect_item then_run
      end_agrees = eop_agrees st ∙ ap (λ (x : Effect). bracket_goes (effect_item at 0 x)) (sym (eop_ends ws p s))

      command_agrees : (k : Decoded) → InnerDecoded k → stack_goes (in_page ws last (onto p st) k) ≡ bracket_goes (command_item ws at p k)
      unfolding follow in_page command_item then_run
      command_agrees no_command g = refl
      command_agrees cut_short g = refl
      command_agrees (command c n) g = by_kind (effect_onto ws p st c n g)
        where
          by_kind : (c ≡ eop) ⊎ Onto st (effect ws (onto p st) c) (effect ws p c) → stack_goes (after_effect last n (effect ws (onto p st) c)) ≡ bracket_goes (effect_item at n (effect ws p c))
          by_kind (inr e) = ap (λ (x : Effect). stack_goes (after_effect last n x)) e.0 ∙ effect_agrees n (effect ws p c) e.1 (effect_clean ws p c n s g)
          by_kind (inl e) =
              let z : n ≡ 0 = g.1 e in
              (λ i. stack_goes (after_effect last (z i) (effect ws (onto p st) (e i))))
              ∙ end_agrees
              ∙ sym (λ i. bracket_goes (effect_item at (z i) (effect ws p (e i))))

      -- POP: the group, if one is open, is left
      pop_agrees : (ts : List Numbers) → follow marks_alone at (after_effect last 0 (popped (onto p ts) ts)) (λ r n. F.run ws (suc at) r n bs) ≡ resume ts at 0 (b ∷ bs) (to_pop p [] 0)
      unfolding follow after_effect popped shows_first F.run_as
      pop_agrees [] = ap (refused_at stack_empty) (omega arith)
      pop_agrees (x ∷ ts) = refl

      -- PUSH: the inner run's stack has the numbers of p on top
      leave_agrees : (r : Run) → Clean r → resume (p.numbers ∷ st) (suc at) 0 bs r ≡ bracket_goes (leave at p r)
      unfolding leave then_run shows_first with_numbers
      leave_agrees (bad_run k i) g = refl
      leave_agrees (to_pop q ms m) g =
          let q' : Page = with_numbers q p.numbers in
          ap (λ (k : ℕ). shows_first ms (F.run ws (suc at) (inside last (onto q' st)) k bs)) (omega arith)
          ∙ ap (shows_first ms) (ih d q' (suc m) st g h)
          ∙ resume_first st ms (suc m) (run ws d (suc at) q' (suc m) bs)
      leave_agrees (to_eop ms m) g = ap (refused_at entries_left) (omega arith)

      push_full : max_stack ≤ length st → pushed (onto p st) ≡ fault stack_full
      unfolding pushed
      push_full l = rw (le-ltb (length st) max_stack l)

      push_more : length st < max_stack → pushed (onto p st) ≡ moved (onto p (p.numbers ∷ st))
      unfolding pushed
      push_more l = rw (lt-ltb (length st) max_stack l)

      push_agrees : (e : ℕ) → d ≡ e → stack_goes (after_effect last 0 (pushed (onto p st))) ≡ bracket_goes (group e at p (λ k. run ws k (suc at) p 0 bs))
      unfolding follow after_effect group then_run
      push_agrees zero e = ap (λ (x : Effect). stack_goes (after_effect last 0 x)) (push_full (omega (arith, h)))
      push_agrees (suc k) e =
          ap (λ (x : Effect). stack_goes (after_effect last 0 x)) (push_more (omega (arith, h)))
          ∙ shows_first_nil _
          ∙ ih k p 0 (p.numbers ∷ st) s (omega (arith, h))
          ∙ leave_agrees (run ws k (suc at) p 0 bs) (run_clean ws bs k (suc at) p 0 s)

      at_push : stack_goes (in_page ws last (onto p st) (decode PUSH bs)) ≡ bracket_goes (group d at p (λ k. run ws k (suc at) p 0 bs))
      unfolding in_page decode layout_of layouts with_parameters effect
      at_push = push_agrees d refl

      at_pop_lem : stack_goes (in_page ws last (onto p st) (decode POP bs)) ≡ resume st at 0 (b ∷ bs) (to_pop p [] 0)
      unfolding in_page decode layout_of layouts with_parameters effect
      at_pop_lem = pop_agrees st

      -- the first command of a run
      start_agrees : stack_goes (in_page ws last (onto p st) (decode b bs)) ≡ resume st at 0 (b ∷ bs) (run ws d at p 0 (b ∷ bs))
      unfolding run item
      start_agrees =
          by_cond (λ (r : Run). stack_goes (in_page ws last (onto p st) (decode b bs)) ≡ resume st at 0 (b ∷ bs) r) (eqb b POP) _ _
          (λ e. ap (λ (o : ℕ). stack_goes (in_page ws last (onto p st) (decode o bs))) (eqb-true b POP e) ∙ at_pop_lem)
          (λ e.
          by_cond (λ (i : Item). stack_goes (in_page ws last (onto p st) (decode b bs)) ≡ bracket_goes i) (eqb b PUSH) _ _
          (λ k. ap (λ (o : ℕ). stack_goes (in_page ws last (onto p st) (decode o bs))) (eqb-true b PUSH k) ∙ at_push)
          (λ k. command_agrees (decode b bs) (inner_decoded b bs (eqb-false b PUSH k) (eqb-false b POP e))))

  -- a run, with any stack below it
  pub run_agrees : (bs : List ℕ) (d at : ℕ) (p : Page) (n : ℕ) (st : List Numbers) → p.stack ≡ [] → length st + d ≡ max_stack
      → F.run ws at (inside last (onto p st)) n bs ≡ resume st at n bs (run ws d at p n bs)
  unfolding F.run_as run step
  run_agrees [] d at p n st s h = refl
  run_agrees (b ∷ bs) d at p (suc n) st s h = run_agrees bs d (suc at) p n st s h ∙ resume_pass at b bs st n (run ws d (suc at) p n bs)
  run_agrees (b ∷ bs) d at p zero st s h = start_agrees at b bs d p st s h (λ e q n ts t g. run_agrees bs e (suc at) q n ts t g)
