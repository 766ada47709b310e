-- The three kinds of a step, by how the bytes lie to the commands that may come.
--     Alike                                                                        of two lists, one begins the other
--     step_go                                                                      a command that leads on stands first
--     step_short                                                                   the bytes end inside one
--     page_refuse, start_refuse, opened_refuse, closing_refuse, between_refuse     they are like none
--     page-may                                                                     a command of a page that they begin may come
-- Assumes nothing.
use Rattle.std.specs.Prelude.{◌≡◌, refl, Bool, true, false, cond, ◌&&◌, List, [], ◌∷◌, ◌++◌, ℕ, ◌*◌, ◌<◌, leb, pos, ◌-ℤ◌, length, take, drop}
use Rattle.std.proofs.Common.{sym, ap, ◌∙◌, append_assoc, append-nil, suc-ne-zero, arith, le-leb, leb-true, leb-false, ltb-true, take-append-drop, length-append, take_at}
use Rattle.std.proofs.Math.Option.{Option, none, some}
use Rattle.std.proofs.lemmas.Bool.{lt-leb}
use Rattle.octets.specs.FieldLaws.{both}
use Rattle.measure.specs.Target.{entry_x}
use Rattle.galley_file.specs.declared.item.Item.{Item}
use Rattle.galley_file.specs.Galley.{max_items}
use Rattle.dvi2.specs.Writer.{preamble_bytes}
use Rattle.dvi2_reading.specs.Beginning.{parameters, command_size}
use Rattle.dvi2_reading.specs.PageReading.{begins, some_below, PageCommand, defining, selecting, across, downward, putting, in_bytes, PageState, is_more, may_come}
use Rattle.dvi2_reading.specs.Reading.{State, start, opened, in_page, between, closing, new_page_state, first_bop, further_bop, post_of, only, next, may_begin_as, may_begin_in, may_begin, refuse, short, go, whole_step, step, places, heights}
use Rattle.dvi2_reading.proofs.BytesLaws.{either, begins_is, some_found}
use Rattle.dvi2_reading.specs.SizeLaws.{Command}
use Rattle.dvi2_reading.proofs.StableLaws.{parameters_kept}
use Rattle.dvi2_reading.proofs.CommandLaws.{next_page_lem, only_is}
use Rattle.dvi2_reading.specs.Reached.{writing_of}
use Rattle.dvi2_reading.proofs.StateLaws.{AfterEop, to_post, to_page, onward}

pub data Alike (s c : List ℕ) : Type 0 where
  begins_it : (z : List ℕ) → c ≡ s ++ z → Alike s c
  holds_it : (w : List ℕ) → s ≡ c ++ w → Alike s c

-- ---- in any state

pub step_go : (q r : State) (b : ℕ) (ps u : List ℕ) → Command (b ∷ ps) → next q (b ∷ ps) ≡ some r → step q b (ps ++ u) ≡ go r (length ps)
unfolding step whole_step command_size
step_go q r b ps u d n =
    let N : parameters b (ps ++ u) ≡ length ps = omega (arith, d.sized u) in
    let L : leb (length ps) (length (ps ++ u)) ≡ true = le-leb (length ps) (length (ps ++ u)) (omega (arith, length-append ps u)) in
    let T : take (length ps) (ps ++ u) ≡ ps = take_at ps u (length ps) refl in
    ap (λ (m : ℕ). cond (leb m (length (ps ++ u))) (whole_step m (next q (b ∷ take m (ps ++ u)))) (cond (may_begin q (b ∷ (ps ++ u))) short refuse)) N
    ∙ rw L (ap (λ (t : List ℕ). whole_step (length ps) (next q (b ∷ t))) T ∙ ap (whole_step (length ps)) n)

-- a command of which only the bytes b ∷ ps are there
cut_short : (b : ℕ) (ps z : List ℕ) → Command (b ∷ (ps ++ z)) → 0 < length z → length ps < parameters b ps
unfolding command_size
cut_short b ps z d l = go (leb (parameters b ps) (length ps)) refl
  where
    go : (t : Bool) → leb (parameters b ps) (length ps) ≡ t → length ps < parameters b ps
    go false e = leb-false (parameters b ps) (length ps) e
    go true e =
        let N = parameters b ps in
        let h = leb-true N (length ps) e in
        let a : take N ps ++ (drop N ps ++ z) ≡ ps ++ z = sym (append_assoc (take N ps) (drop N ps) z) ∙ ap (λ (t : List ℕ). t ++ z) (take-append-drop N ps) in
        let k : parameters b (ps ++ z) ≡ N = ap (parameters b) (sym a) ∙ parameters_kept ps (drop N ps ++ z) N h b refl in
        let n : parameters b ((ps ++ z) ++ []) ≡ length (ps ++ z) = omega (arith, d.sized []) in
        let m : parameters b ((ps ++ z) ++ []) ≡ parameters b (ps ++ z) = ap (parameters b) (append-nil (ps ++ z)) in
        absurd (omega (arith, length-append ps z))

pub step_short : (q : State) (b : ℕ) (ps z : List ℕ) → Command (b ∷ (ps ++ z)) → 0 < length z → may_begin q (b ∷ ps) ≡ true → step q b ps ≡ short
unfolding step
step_short q b ps z d l m = rw (lt-leb (parameters b ps) (length ps) (cut_short b ps z d l), m)

-- neither a whole command nor one that is cut short
none_refuse : (q : State) (b : ℕ) (ps : List ℕ) → ((c w : List ℕ) (r : State) → b ∷ ps ≡ c ++ w → next q c ≡ some r → ⊥) → (may_begin q (b ∷ ps) ≡ true → ⊥)
    → step q b ps ≡ refuse
unfolding step whole_step
none_refuse q b ps f g = by_size (leb (parameters b ps) (length ps)) (next q (b ∷ take (parameters b ps) ps)) refl (may_begin q (b ∷ ps)) refl
  where
    N : ℕ
    N = parameters b ps

    by_size : (t : Bool) (o : Option State) → next q (b ∷ take N ps) ≡ o → (u : Bool) → may_begin q (b ∷ ps) ≡ u → cond t (whole_step N o) (cond u short refuse) ≡ refuse
    by_size true none e u k = refl
    by_size true (some r) e u k = absurd (f (b ∷ take N ps) (drop N ps) r (ap (λ (t : List ℕ). b ∷ t) (sym (take-append-drop N ps))) e)
    by_size false o e true k = absurd (g k)
    by_size false o e false k = refl

-- ---- inside a page

module _ (h : PageState) (s : List ℕ) where
  -- a command that s begins
  record Which : Type 0 where
    pub command : PageCommand
    pub begun : begins s (in_bytes command) ≡ true
    pub may : may_come h command ≡ true

  which : (d : PageCommand) → may_begin_as h s d ≡ true → Which
  unfolding may_begin_as
  which d e = let b = both (begins s (in_bytes d)) (may_come h d) e in record { command = d; begun = b.0; may = b.1 }

  page_which : may_begin_in h s ≡ true → Which
  unfolding may_begin_in
  page_which e =
      either (some_below 120 (λ f. may_begin_as h s (defining f))) _ e Which
      (λ a. let b = some_found 120 (λ f. may_begin_as h s (defining f)) a in which (defining b.found) b.holds)
      (λ e₂.
      either (some_below 120 (λ f. may_begin_as h s (selecting f))) _ e₂ Which
      (λ a. let b = some_found 120 (λ f. may_begin_as h s (selecting f)) a in which (selecting b.found) b.holds)
      (λ e₃.
      either (some_below places (λ n. may_begin_as h s (across (entry_x n -ℤ h.position.x)))) _ e₃ Which
      (λ a. let b = some_found places (λ n. may_begin_as h s (across (entry_x n -ℤ h.position.x))) a in which (across (entry_x b.found -ℤ h.position.x)) b.holds)
      (λ e₄.
      either (some_below heights (λ n. may_begin_as h s (downward (pos (3 * n) -ℤ h.position.y)))) _ e₄ Which
      (λ a. let b = some_found heights (λ n. may_begin_as h s (downward (pos (3 * n) -ℤ h.position.y))) a in which (downward (pos (3 * b.found) -ℤ h.position.y)) b.holds)
      (λ a. which (putting 1) a))))

pub page_refuse : (h : PageState) (b : ℕ) (ps : List ℕ) → ((d : PageCommand) → may_come h d ≡ true → Alike (b ∷ ps) (in_bytes d) → ⊥) → step (in_page h) b ps ≡ refuse
unfolding may_begin
page_refuse h b ps f =
    none_refuse (in_page h) b ps
    (λ c w r e n. let k = next_page_lem h c r n in f k.which k.may (holds_it w (e ∙ ap (λ (t : List ℕ). t ++ w) k.bytes_are)))
    (λ m.
    let w = page_which h (b ∷ ps) m in
    let l = begins_is (b ∷ ps) (in_bytes w.command) w.begun in
    f w.command w.may (begins_it l.more l.whole_is))

-- ---- where only one command may come

only_cases : (q r : State) (e : List ℕ) (b : ℕ) (ps : List ℕ) → ((c : List ℕ) → next q c ≡ only c e r) → may_begin q (b ∷ ps) ≡ begins (b ∷ ps) e → (Alike (b ∷ ps) e → ⊥) → step q b ps ≡ refuse
only_cases q r e b ps n m f =
    none_refuse q b ps
    (λ c w t k o. let x = only_is c e r t (sym (n c) ∙ o) in f (holds_it w (k ∙ ap (λ (u : List ℕ). u ++ w) x.bytes_are)))
    (λ k. let l = begins_is (b ∷ ps) e (sym m ∙ k) in f (begins_it l.more l.whole_is))

pub start_refuse : (b : ℕ) (ps : List ℕ) → (Alike (b ∷ ps) preamble_bytes → ⊥) → step start b ps ≡ refuse
unfolding next may_begin
start_refuse b ps f = only_cases start opened preamble_bytes b ps (λ c. refl) refl f

pub opened_refuse : (b : ℕ) (ps : List ℕ) → (Alike (b ∷ ps) first_bop → ⊥) → step opened b ps ≡ refuse
unfolding next may_begin
opened_refuse b ps f = only_cases opened (in_page (new_page_state [])) first_bop b ps (λ c. refl) refl f

pub closing_refuse : (is : List Item) (e : List ℕ) (es : List (List ℕ)) (b : ℕ) (ps : List ℕ) → (Alike (b ∷ ps) e → ⊥) → step (closing is (e ∷ es)) b ps ≡ refuse
unfolding next may_begin
closing_refuse is e es b ps f = only_cases (closing is (e ∷ es)) (closing is es) e b ps (λ c. refl) refl f

pub ended_refuse : (is : List Item) (b : ℕ) (ps : List ℕ) → step (closing is []) b ps ≡ refuse
unfolding next may_begin
ended_refuse is b ps =
    none_refuse (closing is []) b ps (λ c w r e n. suc-ne-zero 0 cc) (λ m. suc-ne-zero 0 cc)

pub between_refuse : (is : List Item) (b : ℕ) (ps : List ℕ) → (Alike (b ∷ ps) (post_of is) → ⊥) → (length is < max_items → Alike (b ∷ ps) (further_bop (writing_of is)) → ⊥)
    → step (between is) b ps ≡ refuse
unfolding may_begin
between_refuse is b ps f g =
    none_refuse (between is) b ps
    (λ c w r e n. on c w r e (onward is c r n))
    (λ m.
    either (begins (b ∷ ps) (post_of is)) (is_more is && begins (b ∷ ps) (further_bop (writing_of is))) m ⊥
    (λ k. let l = begins_is (b ∷ ps) (post_of is) k in f (begins_it l.more l.whole_is))
    (λ k.
    let t = both (is_more is) (begins (b ∷ ps) (further_bop (writing_of is))) k in
    let l = begins_is (b ∷ ps) (further_bop (writing_of is)) t.1 in
    g (ltb-true (length is) max_items t.0) (begins_it l.more l.whole_is)))
  where
    on : (c w : List ℕ) (r : State) → b ∷ ps ≡ c ++ w → AfterEop is c r → ⊥
    on c w r e (to_post k l) = f (holds_it w (e ∙ ap (λ (t : List ℕ). t ++ w) k))
    on c w r e (to_page k m l) = g m (holds_it w (e ∙ ap (λ (t : List ℕ). t ++ w) k))
