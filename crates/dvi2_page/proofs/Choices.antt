-- Fonts: the steps of their commands, by the tests that the code makes.
-- Assumes nothing.
use mathlib.Core.Path.{◌≡◌, refl, sym, ap, subst, ◌∙◌}
use mathlib.Core.Bool.{Bool, true, false, not, cond, ◌&&◌}
use mathlib.Core.List.{List, [], ◌∷◌, ◌++◌}
use Prim.Native.Nat.{ℕ, ◌+◌, ◌-◌, ◌≤◌, ◌<◌}
use native.Mathlib.Nat.{suc-ne-zero}
use native.Mathlib.Omega.{arith}
use borrow.Author.Tests.{lt-ltb, le-ltb, ltb-true, ltb-false}
use lib.Dec.{ltb}
use lib.ListN.{drop}
use Rattle.std.specs.Prelude.{Ok, Err}
use Rattle.octets.specs.FieldLaws.{both}
use Rattle.octets.specs.Octets.{bytes}
use Rattle.galley_file.specs.Item.{characters_of}
use Rattle.extents.specs.FontMarks.{uses}
use Rattle.dvi.specs.Writer.{name_of}
use Rattle.dvi2.specs.Command.{FNTNUM0, FNT1}
use Rattle.dvi2.specs.Writer.{selects, definition}
use Rattle.dvi2_reading.specs.PageReading.{PageCommand, ending, defining, selecting, across, downward, putting, in_bytes, PageState, is_ready, is_more, may_come}
use Rattle.dvi2_reading.specs.Reading.{in_page, page_state_after, may_begin, refuse, short, go, step, next}
use Rattle.dvi2_reading.proofs.MayLaws.{way₁, way₂, as_such}
use Rattle.dvi2_reading.proofs.CommandLaws.{page_next_lem, in_bytes_command}
use Rattle.dvi2_reading.specs.SizeLaws.{Command}
use Rattle.dvi2_reading.proofs.StepLaws.{Alike, begins_it, holds_it, step_go, step_short, page_refuse}
use Rattle.dvi2_state.specs.declared.page_state.Wrong.TheVariants.{Bad, Short}
use Rattle.dvi2_page.specs.Match.{compared}
use Rattle.dvi2_page.proofs.Matches.{whole_is, short_is, other_is}
use Rattle.dvi2_moves.proofs.CommandKinds.{Kind, head_is, kind}

select_low : (f : ℕ) → f < 64 → selects f ≡ (FNTNUM0 + f) ∷ []
unfolding selects
select_low f l = rw (lt-ltb f 64 l)

select_high : (f : ℕ) → 64 ≤ f → selects f ≡ FNT1 ∷ f ∷ []
unfolding selects
select_high f l = rw (le-ltb f 64 l)

-- which font bytes that begin so can select
low_only_lem : (g b : ℕ) (ps : List ℕ) → b ≤ 234 → Alike (b ∷ ps) (selects g) → g ≡ b - 171
unfolding selects
low_only_lem g b ps l = go (ltb g 64)
  where
    go : (t : Bool) → Alike (b ∷ ps) (cond t ((FNTNUM0 + g) ∷ []) (FNT1 ∷ g ∷ [])) → g ≡ b - 171
    go true a = let h = head_is b ps (FNTNUM0 + g) [] a in omega arith
    go false a = let h = head_is b ps FNT1 (g ∷ []) a in absurd (omega arith)

high_only : (g : ℕ) (ps : List ℕ) → Alike (235 ∷ ps) (selects g) → 64 ≤ g
unfolding selects
high_only g ps = go (ltb g 64) refl
  where
    go : (t : Bool) → ltb g 64 ≡ t → Alike (235 ∷ ps) (cond t ((FNTNUM0 + g) ∷ []) (FNT1 ∷ g ∷ [])) → 64 ≤ g
    go true e a = let h = head_is 235 ps (FNTNUM0 + g) [] a in let l = ltb-true g 64 e in absurd (omega arith)
    go false e a = ltb-false g 64 e

second_is : (o f g : ℕ) (qs cs : List ℕ) → Alike (o ∷ f ∷ qs) (o ∷ g ∷ cs) → g ≡ f
second_is o f g qs cs (begins_it z e) = cc
second_is o f g qs cs (holds_it w e) = let q : f ≡ g = cc in sym q

module _ (h : PageState) (b : ℕ) (ps : List ℕ) where
  -- only fonts
  select_unless : 171 ≤ b → b ≤ 235 → ((f : ℕ) → may_come h (selecting f) ≡ true → Alike (b ∷ ps) (selects f) → ⊥) → step (in_page h) b ps ≡ refuse
  unfolding in_bytes
  select_unless l u f = page_refuse h b ps (λ d m a. no d m a (kind d b ps a))
    where
      no : (d : PageCommand) → may_come h d ≡ true → Alike (b ∷ ps) (in_bytes d) → Kind d b → ⊥
      no ending m a k = omega arith
      no (defining g) m a k = omega arith
      no (selecting g) m a k = f g m a
      no (across x) m a k = omega arith
      no (downward x) m a k = omega arith
      no (putting c) m a k = omega arith

  no_truth : {X : Type 0} (t : Bool) → t ≡ true → t ≡ false → X
  no_truth t p q = let z : true ≡ false = sym p ∙ q in absurd (suc-ne-zero 0 cc)

  module _ (l : 171 ≤ b) (u : b ≤ 234) where
    pub low_bad : may_come h (selecting (b - 171)) ≡ false → step (in_page h) b ps ≡ refuse
    low_bad e = select_unless l (omega arith) (λ f m a. no_truth (may_come h (selecting (b - 171))) (ap (λ (g : ℕ). may_come h (selecting g)) (sym (low_only_lem f b ps u a)) ∙ m) e)

    pub low_go : may_come h (selecting (b - 171)) ≡ true → step (in_page h) b ps ≡ go (page_state_after h (selecting (b - 171))) 0
    unfolding in_bytes
    low_go m =
        let f = b - 171 in
        let n : FNTNUM0 + f ≡ b = omega arith in
        let s : selects f ≡ b ∷ [] = select_low f (omega arith) ∙ ap (λ (x : ℕ). x ∷ []) n in
        step_go (in_page h) (page_state_after h (selecting f)) b [] ps (subst Command s (in_bytes_command (selecting f))) (ap (next (in_page h)) (sym s) ∙ page_next_lem h (selecting f) tt m)

  module _ (o : b ≡ 235) where
    pub high_none : ps ≡ [] → ((f : ℕ) → 64 ≤ f → f < 120 → may_come h (selecting f) ≡ false) → ((f : ℕ) → may_come h (selecting f) ≡ true → f < 120) → step (in_page h) b ps ≡ refuse
    high_none e n k =
        select_unless (omega arith) (omega arith)
        (λ f m a. no_truth (may_come h (selecting f)) m (n f (high_only f ps (subst (λ (x : ℕ). Alike (x ∷ ps) (selects f)) o a)) (k f m)))

    pub high_some : ps ≡ [] → (f : ℕ) → 64 ≤ f → f < 120 → may_come h (selecting f) ≡ true → step (in_page h) b ps ≡ short
    unfolding in_bytes may_begin
    high_some e f l u m =
        (λ i. step (in_page h) (o i) (e i))
        ∙ step_short (in_page h) 235 [] (f ∷ []) (subst Command (select_high f l) (in_bytes_command (selecting f))) (omega arith)
        (way₂ h (235 ∷ []) f u (as_such h (235 ∷ []) (selecting f) (f ∷ []) (select_high f l) m))

    module _ (f : ℕ) (qs : List ℕ) (e : ps ≡ f ∷ qs) where
      pub high_bad : (64 ≤ f → may_come h (selecting f) ≡ true → ⊥) → step (in_page h) b ps ≡ refuse
      high_bad n =
          select_unless (omega arith) (omega arith)
          (λ g m a.
          let a' : Alike (235 ∷ f ∷ qs) (selects g) = subst (λ (t : List ℕ). Alike t (selects g)) (λ i. o i ∷ e i) a in
          let k = high_only g (f ∷ qs) a' in
          let q : g ≡ f = second_is 235 f g qs [] (subst (Alike (235 ∷ f ∷ qs)) (select_high g k) a') in
          n (subst (λ (x : ℕ). 64 ≤ x) q k) (ap (λ (x : ℕ). may_come h (selecting x)) (sym q) ∙ m))

      pub high_go : 64 ≤ f → may_come h (selecting f) ≡ true → step (in_page h) b ps ≡ go (page_state_after h (selecting f)) 1
      unfolding in_bytes
      high_go l m =
          (λ i. step (in_page h) (o i) (e i))
          ∙ step_go (in_page h) (page_state_after h (selecting f)) 235 (f ∷ []) qs (subst Command (select_high f l) (in_bytes_command (selecting f)))
          (ap (next (in_page h)) (sym (select_high f l)) ∙ page_next_lem h (selecting f) tt m)

  -- ---- definitions

  module _ (o : b ≡ 243) where
    define_unless : ((f : ℕ) → may_come h (defining f) ≡ true → Alike (b ∷ ps) (definition f) → ⊥) → step (in_page h) b ps ≡ refuse
    unfolding in_bytes
    define_unless f = page_refuse h b ps (λ d m a. no d m a (kind d b ps a))
      where
        no : (d : PageCommand) → may_come h d ≡ true → Alike (b ∷ ps) (in_bytes d) → Kind d b → ⊥
        no ending m a k = omega arith
        no (defining g) m a k = f g m a
        no (selecting g) m a k = omega arith
        no (across x) m a k = omega arith
        no (downward x) m a k = omega arith
        no (putting c) m a k = omega arith

    pub define_none : ((f : ℕ) → f < 120 → may_come h (defining f) ≡ false) → step (in_page h) b ps ≡ refuse
    unfolding may_come
    define_none n =
        define_unless
        (λ f m a.
        let b₁ = both (is_more h.items) (is_ready h.stage && (ltb f 120 && not (uses f (characters_of h.items)))) m in
        let b₂ = both (is_ready h.stage) (ltb f 120 && not (uses f (characters_of h.items))) b₁.1 in
        let b₃ = both (ltb f 120) (not (uses f (characters_of h.items))) b₂.1 in
        no_truth (may_come h (defining f)) m (n f (ltb-true f 120 b₃.0)))

    pub define_some : ps ≡ [] → (f : ℕ) → f < 120 → may_come h (defining f) ≡ true → step (in_page h) b ps ≡ short
    unfolding in_bytes may_begin definition
    define_some e f u m =
        (λ i. step (in_page h) (o i) (e i))
        ∙ step_short (in_page h) 243 [] (drop 1 (definition f)) (in_bytes_command (defining f)) (omega arith)
        (way₁ h (243 ∷ []) f u (as_such h (243 ∷ []) (defining f) (drop 1 (definition f)) refl m))

    module _ (f : ℕ) (qs : List ℕ) (e : ps ≡ f ∷ qs) where
      -- only this font's
      define_this : (may_come h (defining f) ≡ true → Alike (b ∷ ps) (definition f) → ⊥) → step (in_page h) b ps ≡ refuse
      unfolding definition
      define_this n =
          define_unless
          (λ g m a.
          let q : g ≡ f = second_is 243 f g qs _ (subst (λ (t : List ℕ). Alike t (definition g)) (λ i. o i ∷ e i) a) in
          n (ap (λ (x : ℕ). may_come h (defining x)) (sym q) ∙ m) (subst (λ (x : ℕ). Alike (b ∷ ps) (definition x)) q a))

      pub define_not : may_come h (defining f) ≡ false → step (in_page h) b ps ≡ refuse
      define_not n = define_this (λ m a. no_truth (may_come h (defining f)) m n)

      pub define_other : compared (b ∷ ps) (definition f) ≡ Err Bad → step (in_page h) b ps ≡ refuse
      define_other n = define_this (λ m a. other_is (b ∷ ps) (definition f) n a)

      pub define_short : f < 120 → may_come h (defining f) ≡ true → compared (b ∷ ps) (definition f) ≡ Err Short → step (in_page h) b ps ≡ short
      unfolding in_bytes may_begin
      define_short u m n =
          let w = short_is (b ∷ ps) (definition f) n in
          step_short (in_page h) b ps w.more (subst Command w.whole_is (in_bytes_command (defining f))) w.some_more
          (way₁ h (b ∷ ps) f u (as_such h (b ∷ ps) (defining f) w.more w.whole_is m))

      pub define_go : may_come h (defining f) ≡ true → compared (b ∷ ps) (definition f) ≡ Ok tt → step (in_page h) b ps ≡ go (page_state_after h (defining f)) 19
      unfolding in_bytes definition bytes name_of
      define_go m n =
          let w = whole_is (b ∷ ps) (definition f) n in
          let t = drop 1 (definition f) in
          let q : ps ≡ t ++ drop 20 (b ∷ ps) = cc in
          let g = step_go (in_page h) (page_state_after h (defining f)) 243 t (drop 20 (b ∷ ps)) (in_bytes_command (defining f)) (page_next_lem h (defining f) tt m) in
          (λ i. step (in_page h) (o i) (q i)) ∙ g
