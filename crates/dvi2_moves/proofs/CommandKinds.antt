-- Which command of a page bytes can be, by their opcode; and the steps of a move, right or down, by the tests that the code makes.
-- Assumes nothing.
use mathlib.Core.Path.{◌≡◌, refl, sym, ap, subst, ◌∙◌}
use mathlib.Core.Bool.{Bool, true, false, cond}
use mathlib.Core.List.{List, [], ◌∷◌, ◌++◌, append-nil}
use Prim.Native.Nat.{ℕ, suc, ◌+◌, ◌-◌, ◌≤◌, ◌<◌}
use native.Mathlib.Omega.{arith}
use borrow.Author.Tests.{ltb-true}
use lib.Dec.{ltb}
use lib.IntN.{ℤ}
use lib.ListN.{length, take, drop, take-append-drop, length-append}
use lib.Seq.{take_at, length-take-le}
use lib.Signed.{mag}
use Rattle.octets.specs.Octets.{Bytes, signed, signed_bytes}
use Rattle.octets.specs.OctetsLaws.{length_signed_bytes, signed_signed_bytes, signed_bytes_signed_at}
use Rattle.dvi2.specs.Command.{RIGHT1, DOWN1, FNTNUM0, FNT1}
use Rattle.dvi2.specs.Writer.{parameter_width, selects, definition, shortest}
use Rattle.dvi2.specs.WriterLaws.{parameter_width_range, parameter_width_holds}
use Rattle.dvi2_reading.specs.PageReading.{begins, PageCommand, ending, defining, selecting, across, downward, putting, in_bytes, PageState, may_come}
use Rattle.dvi2_reading.specs.Reading.{in_page, page_state_after, may_begin_in, may_begin, refuse, short, go, step, next}
use Rattle.dvi2_reading.proofs.BytesLaws.{begins_is, begins_append}
use Rattle.dvi2_reading.proofs.CommandLaws.{MoveFits, page_next_lem, in_bytes_command}
use Rattle.dvi2_state.proofs.Searches.{no_truth}
use Rattle.dvi2_reading.specs.SizeLaws.{Command}
use Rattle.dvi2_reading.proofs.StepLaws.{Alike, begins_it, holds_it, step_go, step_short, page_refuse}

-- ---- opcodes

abbrev pub Kind : PageCommand → ℕ → Type 0
Kind ending b = b ≡ 140
Kind (defining f) b = b ≡ 243
Kind (selecting f) b = (171 ≤ b) × (b ≤ 235)
Kind (across m) b = (143 ≤ b) × (b ≤ 146)
Kind (downward m) b = (157 ≤ b) × (b ≤ 160)
Kind (putting c) b = b ≡ 133

pub head_is : (b : ℕ) (ps : List ℕ) (x : ℕ) (xs : List ℕ) → Alike (b ∷ ps) (x ∷ xs) → b ≡ x
head_is b ps x xs (begins_it z e) = let q : x ≡ b = cc in sym q
head_is b ps x xs (holds_it w e) = cc

select_kind : (f b : ℕ) (ps : List ℕ) → Alike (b ∷ ps) (selects f) → (171 ≤ b) × (b ≤ 235)
unfolding selects
select_kind f b ps = go (ltb f 64) refl
  where
    go : (t : Bool) → ltb f 64 ≡ t → Alike (b ∷ ps) (cond t ((FNTNUM0 + f) ∷ []) (FNT1 ∷ f ∷ [])) → (171 ≤ b) × (b ≤ 235)
    go true e a = let h = head_is b ps (FNTNUM0 + f) [] a in let l = ltb-true f 64 e in omega arith
    go false e a = let h = head_is b ps FNT1 (f ∷ []) a in omega arith

pub kind : (d : PageCommand) (b : ℕ) (ps : List ℕ) → Alike (b ∷ ps) (in_bytes d) → Kind d b
unfolding in_bytes definition shortest
kind ending b ps a = head_is b ps 140 [] a
kind (defining f) b ps a = head_is b ps 243 _ a
kind (selecting f) b ps a = select_kind f b ps a
kind (across m) b ps a = let h = head_is b ps (RIGHT1 + (parameter_width m - 1)) _ a in let r = parameter_width_range m in omega arith
kind (downward m) b ps a = let h = head_is b ps (DOWN1 + (parameter_width m - 1)) _ a in let r = parameter_width_range m in omega arith
kind (putting c) b ps a = head_is b ps 133 (c ∷ []) a

-- ---- moves, right or down

pub record IsMove (mk : ℤ → PageCommand) (d : PageCommand) : Type 0 where
  pub by : ℤ
  pub is_move : d ≡ mk by

pub move_right : (b : ℕ) (ps : List ℕ) → 143 ≤ b → b ≤ 146 → (d : PageCommand) → Alike (b ∷ ps) (in_bytes d) → IsMove across d
move_right b ps l h ending a = let k = kind ending b ps a in absurd (omega arith)
move_right b ps l h (defining f) a = let k = kind (defining f) b ps a in absurd (omega arith)
move_right b ps l h (selecting f) a = let k = kind (selecting f) b ps a in absurd (omega arith)
move_right b ps l h (across m) a = record { by = m; is_move = refl }
move_right b ps l h (downward m) a = let k = kind (downward m) b ps a in absurd (omega arith)
move_right b ps l h (putting c) a = let k = kind (putting c) b ps a in absurd (omega arith)

pub move_down : (b : ℕ) (ps : List ℕ) → 157 ≤ b → b ≤ 160 → (d : PageCommand) → Alike (b ∷ ps) (in_bytes d) → IsMove downward d
move_down b ps l h ending a = let k = kind ending b ps a in absurd (omega arith)
move_down b ps l h (defining f) a = let k = kind (defining f) b ps a in absurd (omega arith)
move_down b ps l h (selecting f) a = let k = kind (selecting f) b ps a in absurd (omega arith)
move_down b ps l h (across m) a = let k = kind (across m) b ps a in absurd (omega arith)
move_down b ps l h (downward m) a = record { by = m; is_move = refl }
move_down b ps l h (putting c) a = let k = kind (putting c) b ps a in absurd (omega arith)

-- what a move of k bytes is about: its commands, and that these bytes can be no other
pub record MoveCase (h : PageState) (b : ℕ) (ps : List ℕ) (k : ℕ) : Type 0 where
  pub op : ℕ
  pub mk : ℤ → PageCommand
  pub bytes_of : (m : ℤ) → in_bytes (mk m) ≡ shortest op m
  pub mk_fits : (m : ℤ) → mag m < 2147483648 → MoveFits (mk m)
  pub near : (m : ℤ) → may_come h (mk m) ≡ true → mag m < 2147483648
  pub lo : 1 ≤ k
  pub hi : k ≤ 4
  pub op_is : b ≡ op + (k - 1)
  pub only_move : (d : PageCommand) → Alike (b ∷ ps) (in_bytes d) → IsMove mk d

module _ (h : PageState) (b : ℕ) (ps : List ℕ) (k : ℕ) (v : MoveCase h b ps k) where
  abbrev op : ℕ
  op = v.op

  abbrev mk : ℤ → PageCommand
  mk m = v.mk m

  alike_move : (m : ℤ) → Alike (b ∷ ps) (in_bytes (mk m)) → Alike (b ∷ ps) (shortest op m)
  alike_move m a = subst (Alike (b ∷ ps)) (v.bytes_of m) a

  width_k : (m : ℤ) → Alike (b ∷ ps) (shortest op m) → parameter_width m ≡ k
  unfolding shortest
  width_k m a = let e = head_is b ps (op + (parameter_width m - 1)) _ a in let r = parameter_width_range m in let q = v.op_is in let l = v.lo in omega arith

  move_length : (m : ℤ) → Alike (b ∷ ps) (shortest op m) → length (shortest op m) ≡ suc k
  unfolding shortest
  move_length m a = ap suc (length_signed_bytes (parameter_width m) m ∙ width_k m a)

  -- the bytes of the number, as far as they are there
  numbers : (m : ℤ) → Alike (b ∷ ps) (shortest op m) → Alike ps (signed_bytes k m)
  unfolding shortest
  numbers m a = go (parameter_width m) (width_k m a) a
    where
      go : (w : ℕ) → w ≡ k → Alike (b ∷ ps) ((op + (w - 1)) ∷ signed_bytes w m) → Alike ps (signed_bytes k m)
      go w e (begins_it z q) = let t : signed_bytes w m ≡ ps ++ z = cc in begins_it z (ap (λ (n : ℕ). signed_bytes n m) (sym e) ∙ t)
      go w e (holds_it v q) = let t : ps ≡ signed_bytes w m ++ v = cc in holds_it v (t ∙ ap (λ (n : ℕ). signed_bytes n m ++ v) e)

  -- none may come
  pub move_not : ((m : ℤ) → may_come h (mk m) ≡ false) → step (in_page h) b ps ≡ refuse
  move_not f =
      page_refuse h b ps
      (λ d m a.
      let i = v.only_move d a in
      no_truth (may_come h d) m (ap (may_come h) i.is_move ∙ f i.by))

  -- one may come only if ..
  bad_unless : ((m : ℤ) → may_come h (mk m) ≡ true → Alike (b ∷ ps) (shortest op m) → ⊥) → step (in_page h) b ps ≡ refuse
  bad_unless f =
      page_refuse h b ps
      (λ d m a.
      let i = v.only_move d a in
      f i.by (ap (may_come h) (sym i.is_move) ∙ m) (alike_move i.by (subst (λ (c : PageCommand). Alike (b ∷ ps) (in_bytes c)) i.is_move a)))

  module _ (l : k ≤ length ps) where
    abbrev number_here : ℤ
    number_here = signed (take k ps)

    same_number : (m : ℤ) → mag m < 2147483648 → Alike (b ∷ ps) (shortest op m) → number_here ≡ m
    same_number m s a =
        let w = width_k m a in
        let t : take k ps ≡ signed_bytes k m = go (numbers m a) in
        ap signed t ∙ signed_signed_bytes k m (subst (λ (n : ℕ). Holds' n m) w (parameter_width_holds m s))
      where
        Holds' : ℕ → ℤ → Type 0
        Holds' = Rattle.octets.specs.Octets.Holds

        go : Alike ps (signed_bytes k m) → take k ps ≡ signed_bytes k m
        go (begins_it z e) =
            let n = length_signed_bytes k m in
            let q = ap length e in
            let r = length-append ps z in
            let g : take k ps ≡ ps = lib.Seq.take_all k ps (omega arith) in
            g ∙ sym (empty_rest ps z (omega arith)) ∙ sym e
          where
            empty_rest : (xs ys : List ℕ) → length ys ≡ 0 → xs ++ ys ≡ xs
            empty_rest xs [] e = append-nil xs
            empty_rest xs (y ∷ ys) e = absurd (omega arith)
        go (holds_it w e) = ap (take k) e ∙ take_at (signed_bytes k m) w k (length_signed_bytes k m)

    pub move_bad : (parameter_width number_here ≡ k → may_come h (mk number_here) ≡ true → ⊥) → step (in_page h) b ps ≡ refuse
    move_bad f =
        bad_unless
        (λ m c a.
        let e = same_number m (v.near m c) a in
        f (ap parameter_width e ∙ width_k m a) (ap (λ (n : ℤ). may_come h (mk n)) e ∙ c))

    pub move_go : Bytes ps → parameter_width number_here ≡ k → may_come h (mk number_here) ≡ true → step (in_page h) b ps ≡ go (page_state_after h (mk number_here)) k
    unfolding shortest
    move_go y w c =
        let m = number_here in
        let s : signed_bytes k m ≡ take k ps = signed_bytes_signed_at k 0 ps y (omega arith) in
        let e : in_bytes (mk m) ≡ b ∷ take k ps =
        v.bytes_of m ∙ (λ i. (op + (w i - 1)) ∷ signed_bytes (w i) m) ∙ (λ i. sym v.op_is i ∷ s i) in
        let n = page_next_lem h (mk m) (v.mk_fits m (v.near m c)) c in
        let g = step_go (in_page h) (page_state_after h (mk m)) b (take k ps) (drop k ps) (subst Command e (in_bytes_command (mk m))) (ap (next (in_page h)) (sym e) ∙ n) in
        ap (step (in_page h) b) (sym (take-append-drop k ps)) ∙ g ∙ ap (go (page_state_after h (mk m))) (length-take-le k ps l)

  module _ (l : length ps < k) where
    pub move_early : ((m : ℤ) → may_come h (mk m) ≡ true → begins (b ∷ ps) (shortest op m) ≡ true → ⊥) → step (in_page h) b ps ≡ refuse
    move_early f = bad_unless (λ m c a. f m c (go m a))
      where
        go : (m : ℤ) → Alike (b ∷ ps) (shortest op m) → begins (b ∷ ps) (shortest op m) ≡ true
        go m (begins_it z e) = subst (λ (t : List ℕ). begins (b ∷ ps) t ≡ true) (sym e) (begins_append (b ∷ ps) z)
        go m (holds_it w e) = absurd (long (holds_it w e))
          where
            long : Alike (b ∷ ps) (shortest op m) → ⊥
            long a = let q = ap length e in let n = length-append (shortest op m) w in let r = move_length m a in omega arith

    pub move_short : (m : ℤ) → begins (b ∷ ps) (shortest op m) ≡ true → may_begin_in h (b ∷ ps) ≡ true → step (in_page h) b ps ≡ short
    unfolding may_begin
    move_short m e y =
        let t = begins_is (b ∷ ps) (shortest op m) e in
        step_short (in_page h) b ps t.more (subst Command (v.bytes_of m ∙ t.whole_is) (in_bytes_command (mk m))) (rest_some t.more t.whole_is) y
      where
        rest_some : (z : List ℕ) → shortest op m ≡ (b ∷ ps) ++ z → 0 < length z
        rest_some z q =
            let n = ap length q in
            let r = move_length m (begins_it z q) in
            let x = length-append (b ∷ ps) z in
            omega arith
