-- The steps of eop, of put1, and of what is no command of a page, by the tests that the code makes.
-- Assumes nothing.
use mathlib.Core.Path.{◌≡◌, refl, sym, ap, subst, ◌∙◌}
use mathlib.Core.Bool.{true, false, ◌&&◌}
use mathlib.Core.List.{List, [], ◌∷◌}
use Prim.Native.Nat.{ℕ, ◌≤◌}
use native.Mathlib.Omega.{arith}
use borrow.Author.Tests.{leb-true, le-leb}
use lib.Dec.{leb}
use Rattle.octets.specs.FieldLaws.{both}
use Rattle.dvi2.specs.Command.{PUT1}
use Rattle.dvi2_reading.specs.PageReading.{PageCommand, ending, defining, selecting, across, downward, putting, in_bytes, PageState, is_ready, before_put, is_more, valid_in, may_come}
use Rattle.dvi2_reading.specs.Reading.{in_page, between, page_state_after, may_begin, refuse, short, go, step}
use Rattle.dvi2_reading.proofs.MayLaws.{way₅, as_such}
use Rattle.dvi2_reading.proofs.CommandLaws.{page_next_lem, in_bytes_command}
use Rattle.dvi2_reading.proofs.StepLaws.{Alike, begins_it, holds_it, step_go, step_short, page_refuse}
use Rattle.dvi2_moves.proofs.CommandKinds.{Kind, kind}
use Rattle.dvi2_state.proofs.Searches.{no_truth}

-- ---- eop, and no command

module _ (h : PageState) (b : ℕ) (ps : List ℕ) where
  pub eop_go : b ≡ 140 → is_ready h.stage ≡ true → step (in_page h) b ps ≡ go (between h.items) 0
  unfolding in_bytes may_come page_state_after
  eop_go e r =
      ap (λ (n : ℕ). step (in_page h) n ps) e
      ∙ step_go (in_page h) (between h.items) 140 [] ps (in_bytes_command ending) (page_next_lem h ending tt r)

  pub eop_bad : b ≡ 140 → is_ready h.stage ≡ false → step (in_page h) b ps ≡ refuse
  unfolding may_come
  eop_bad e r = page_refuse h b ps (λ d m a. no d m (kind d b ps a))
    where
      no : (d : PageCommand) → may_come h d ≡ true → Kind d b → ⊥
      no ending m k = no_truth (is_ready h.stage) m r
      no (defining f) m k = omega arith
      no (selecting f) m k = omega arith
      no (across x) m k = omega arith
      no (downward x) m k = omega arith
      no (putting c) m k = omega arith

  -- after the last item
  pub full_bad : (b ≡ 140 → ⊥) → is_more h.items ≡ false → step (in_page h) b ps ≡ refuse
  unfolding may_come
  full_bad e r = page_refuse h b ps (λ d m a. no d m (kind d b ps a))
    where
      no : (d : PageCommand) → may_come h d ≡ true → Kind d b → ⊥
      no ending m k = e k
      no (defining f) m k = no_truth (is_more h.items) (both (is_more h.items) _ m).0 r
      no (selecting f) m k = no_truth (is_more h.items) (both (is_more h.items) _ m).0 r
      no (across x) m k = no_truth (is_more h.items) (both (is_more h.items) _ m).0 r
      no (downward x) m k = no_truth (is_more h.items) (both (is_more h.items) _ m).0 r
      no (putting c) m k = no_truth (is_more h.items) (both (is_more h.items) _ m).0 r

  pub other_bad : ((d : PageCommand) → Kind d b → ⊥) → step (in_page h) b ps ≡ refuse
  other_bad f = page_refuse h b ps (λ d m a. f d (kind d b ps a))

  -- ---- put

  put_parts : (c : ℕ) → may_come h (putting c) ≡ true → (before_put h.stage ≡ true) × ((valid_in h.position.font h.position.x ≡ true) × ((leb 1 c ≡ true) × (leb c 108 ≡ true)))
  unfolding may_come
  put_parts c e =
      let T₃ = valid_in h.position.font h.position.x && (leb 1 c && leb c 108) in
      let b₁ = both (is_more h.items) (before_put h.stage && T₃) e in
      let b₂ = both (before_put h.stage) T₃ b₁.1 in
      let b₃ = both (valid_in h.position.font h.position.x) (leb 1 c && leb c 108) b₂.1 in
      let b₄ = both (leb 1 c) (leb c 108) b₃.1 in
      (b₂.0, (b₃.0, (b₄.0, b₄.1)))

  module _ (o : b ≡ 133) where
    -- only a put whose code is the byte there
    put_unless : ((c : ℕ) → before_put h.stage ≡ true → valid_in h.position.font h.position.x ≡ true → 1 ≤ c → c ≤ 108 → Alike (b ∷ ps) (PUT1 ∷ c ∷ []) → ⊥) → step (in_page h) b ps ≡ refuse
    unfolding in_bytes
    put_unless f = page_refuse h b ps (λ d m a. no d m a (kind d b ps a))
      where
        no : (d : PageCommand) → may_come h d ≡ true → Alike (b ∷ ps) (in_bytes d) → Kind d b → ⊥
        no ending m a k = omega arith
        no (defining f) m a k = omega arith
        no (selecting f) m a k = omega arith
        no (across x) m a k = omega arith
        no (downward x) m a k = omega arith
        no (putting c) m a k = let w = put_parts c m in f c w.0 w.1.0 (leb-true 1 c w.1.1.0) (leb-true c 108 w.1.1.1) a

    pub put_not : (before_put h.stage ≡ true → valid_in h.position.font h.position.x ≡ true → ⊥) → step (in_page h) b ps ≡ refuse
    put_not f = put_unless (λ c p v l u a. f p v)

    code_is : (c d : ℕ) (qs : List ℕ) → Alike (b ∷ d ∷ qs) (PUT1 ∷ c ∷ []) → c ≡ d
    code_is c d qs (begins_it z e) = cc
    code_is c d qs (holds_it w e) = let q : d ≡ c = cc in sym q

    pub put_bad : (d : ℕ) (qs : List ℕ) → ps ≡ d ∷ qs → (1 ≤ d → d ≤ 108 → ⊥) → step (in_page h) b ps ≡ refuse
    put_bad d qs e f =
        put_unless
        (λ c p v l u a.
        let n = code_is c d qs (subst (λ (t : List ℕ). Alike (b ∷ t) (PUT1 ∷ c ∷ [])) e a) in
        f (subst (λ (m : ℕ). 1 ≤ m) n l) (subst (λ (m : ℕ). m ≤ 108) n u))

    module _ (more : is_more h.items ≡ true) (bp : before_put h.stage ≡ true) (vx : valid_in h.position.font h.position.x ≡ true) where
      may_put : (c : ℕ) → 1 ≤ c → c ≤ 108 → may_come h (putting c) ≡ true
      unfolding may_come
      may_put c l u = rw (more, bp, vx, le-leb 1 c l, le-leb c 108 u)

      pub put_short : ps ≡ [] → step (in_page h) b ps ≡ short
      unfolding in_bytes may_begin
      put_short e =
          (λ i. step (in_page h) (o i) (e i))
          ∙ step_short (in_page h) 133 [] (1 ∷ []) (in_bytes_command (putting 1)) (omega arith)
          (way₅ h (133 ∷ []) (as_such h (133 ∷ []) (putting 1) (1 ∷ []) refl (may_put 1 (omega arith) (omega arith))))

      pub put_go : (c : ℕ) (qs : List ℕ) → ps ≡ c ∷ qs → 1 ≤ c → c ≤ 108 → step (in_page h) b ps ≡ go (page_state_after h (putting c)) 1
      unfolding in_bytes
      put_go c qs e l u =
          (λ i. step (in_page h) (o i) (e i))
          ∙ step_go (in_page h) (page_state_after h (putting c)) 133 (c ∷ []) qs (in_bytes_command (putting c)) (page_next_lem h (putting c) tt (may_put c l u))
