-- The page of a run keeps its stack empty: what lies below the run is not in it.
--     HasStack, Clean             an effect, and a run, whose page has that stack
--     eop_ends                    EOP ends a page with an empty stack
--     effect_clean, run_clean     a command that is neither PUSH nor POP, and a run, keep it empty
-- Assumes nothing.
use Rattle.std.specs.Prelude.{◌≡◌, ◌⊎◌, eqb, ℤ}
use Rattle.std.proofs.Common.{sym, subst, ◌∙◌, inl, inr}
use Rattle.std.proofs.Math.Path.{ap}
use mathlib.Core.List.{List, [], ◌∷◌}
use Prim.Native.Nat.{ℕ, zero, suc}
use Rattle.std.proofs.lemmas.Bool.{eqb-false}
use Rattle.octets.specs.OctetsLaws.{by_cond}
use Rattle.dvi.specs.Command.{PUSH, POP, Command, eop, Decoded, no_command, cut_short, command, decode}
use Rattle.sheet.specs.Sheet.{Mark}
use Rattle.dvi.specs.Page.{Numbers, Page, Effect, fault, moved, marked, ended, with_numbers, end_page, effect}
use Rattle.dvi_brackets.specs.Brackets.{Item, bad_item, past_item, page_end, Run, bad_run, to_pop, to_eop, effect_item, command_item, leave, group, item, first, then_run, run}
use Rattle.dvi_brackets.proofs.Inner.{Inner, InnerDecoded, inner_decoded, onto, onto_effect, Onto, effect_onto}

abbrev pub HasStack : List Numbers → Effect → Type 0
HasStack st (fault k) = Unit {0}
HasStack st (moved q) = q.stack ≡ st
HasStack st (marked q m) = q.stack ≡ st
HasStack st ended = Unit {0}

has_stack : (st : List Numbers) (e : Effect) → e ≡ onto_effect st e → HasStack st e
has_stack st (fault k) h = tt
has_stack st (moved q) h = let e : q ≡ onto q st = cc in ap (λ (r : Page). r.stack) e
has_stack st (marked q m) h = let e : q ≡ onto q st = cc in ap (λ (r : Page). r.stack) e
has_stack st ended h = tt

abbrev CleanItem : Item → Type 0
CleanItem (bad_item k i) = Unit {0}
CleanItem (past_item q ms n) = q.stack ≡ []
CleanItem page_end = Unit {0}

abbrev pub Clean : Run → Type 0
Clean (bad_run k i) = Unit {0}
Clean (to_pop q ms n) = q.stack ≡ []
Clean (to_eop ms n) = Unit {0}

first_clean : (ms : List Mark) (n : ℕ) (r : Run) → Clean r → Clean (first ms n r)
unfolding first
first_clean ms n (bad_run k i) h = tt
first_clean ms n (to_pop q ns m) h = h
first_clean ms n (to_eop ns m) h = tt

effect_item_clean : (at n : ℕ) (e : Effect) → HasStack [] e → CleanItem (effect_item at n e)
unfolding effect_item
effect_item_clean at n (fault k) h = tt
effect_item_clean at n (moved q) h = h
effect_item_clean at n (marked q m) h = h
effect_item_clean at n ended h = tt

module _ (ws : List ℤ) where
  -- EOP ends a page with an empty stack
  pub eop_ends : (p : Page) → p.stack ≡ [] → effect ws p eop ≡ ended
  unfolding effect end_page
  eop_ends p s = ap end_page s

  pub effect_clean : (p : Page) (c : Command) (n : ℕ) → p.stack ≡ [] → Inner c n → HasStack [] (effect ws p c)
  effect_clean p c n s h = by_kind (effect_onto ws p p.stack c n h)
    where
      by_kind : (c ≡ eop) ⊎ Onto p.stack (effect ws (onto p p.stack) c) (effect ws p c) → HasStack [] (effect ws p c)
      by_kind (inl e) = subst (HasStack []) (sym (ap (effect ws p) e ∙ eop_ends p s)) tt
      by_kind (inr e) = subst (λ (st : List Numbers). HasStack st (effect ws p c)) s (has_stack p.stack (effect ws p c) e.0)

  command_clean : (at : ℕ) (p : Page) (d : Decoded) → p.stack ≡ [] → InnerDecoded d → CleanItem (command_item ws at p d)
  unfolding command_item
  command_clean at p no_command s h = tt
  command_clean at p cut_short s h = tt
  command_clean at p (command c n) s h = effect_item_clean at n (effect ws p c) (effect_clean p c n s h)

  leave_clean : (at : ℕ) (p : Page) (r : Run) → Clean r → CleanItem (leave at p r)
  unfolding leave with_numbers
  leave_clean at p (bad_run k i) h = tt
  leave_clean at p (to_pop q ms n) h = h
  leave_clean at p (to_eop ms n) h = tt

  group_clean : (d at : ℕ) (p : Page) (inner : ℕ → Run) → ((e : ℕ) → Clean (inner e)) → CleanItem (group d at p inner)
  unfolding group
  group_clean zero at p inner h = tt
  group_clean (suc d) at p inner h = leave_clean at p (inner d) (h d)

  then_clean : (i : Item) (rest : Page → ℕ → Run) → CleanItem i → ((q : Page) (n : ℕ) → q.stack ≡ [] → Clean (rest q n)) → Clean (then_run i rest)
  unfolding then_run
  then_clean (bad_item k i) rest h g = tt
  then_clean (past_item q ms n) rest h g = first_clean ms (suc n) (rest q n) (g q n h)
  then_clean page_end rest h g = tt

  pub run_clean : (bs : List ℕ) (d at : ℕ) (p : Page) (n : ℕ) → p.stack ≡ [] → Clean (run ws d at p n bs)
  unfolding run item
  run_clean [] d at p n s = tt
  run_clean (b ∷ bs) d at p (suc n) s = run_clean bs d (suc at) p n s
  run_clean (b ∷ bs) d at p zero s =
      by_cond Clean (eqb b POP) _ _ (λ _. s)
      (λ e.
      then_clean _ (λ q n. run ws d (suc at) q n bs)
      (by_cond CleanItem (eqb b PUSH) _ _
      (λ _. group_clean d at p _ (λ k. run_clean bs k (suc at) p 0 s))
      (λ k. command_clean at p (decode b bs) s (inner_decoded b bs (eqb-false b PUSH k) (eqb-false b POP e))))
      (λ q n t. run_clean bs d (suc at) q n t))
