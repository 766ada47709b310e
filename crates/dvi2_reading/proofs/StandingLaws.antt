-- From command to command of a file.
--     standing_start                                     at its start
--     standing_go, standing_refuse, standing_short       past a command, or what is read of the file
--     standing_end                                       at its end
--     Sole                                               in this state, before these bytes, only this command may come
--     sole_whole, sole_short, sole_other                 past it, or what is read of the file
--     sole_start, sole_opened, sole_closing, sole_post, sole_page     where only one may come
-- Assumes nothing.
use Rattle.std.specs.Prelude.{◌≡◌, Bool, true, false, cond, ◌&&◌, leb, get_or}
use Rattle.std.proofs.Math.Path.{refl, sym, ap, subst}
use Rattle.std.proofs.Common.{◌∙◌, add-one, suc-ne-zero, leb-true, leb-false, lt-ltb, drop_of_length-le, drop-cons, take-add}
use mathlib.Core.List.{List, [], ◌∷◌, ◌++◌}
use Rattle.std.proofs.Math.Option.{Option, none, some}
use Prim.Native.Nat.{ℕ, suc, ◌+◌, ◌≤◌, ◌<◌}
use native.Mathlib.Omega.{arith}
use Rattle.std.proofs.Math.ListN.{length, take, drop, length-drop}
use Rattle.std.proofs.Math.Seq.{drop-drop}
use Rattle.galley_file.specs.declared.item.Item.{Item}
use Rattle.galley_file.specs.declared.item.Item.TheVariants.{Cut}
use Rattle.galley_file.specs.Galley.{max_items}
use Rattle.dvi2.specs.Writer.{preamble_bytes, bop_bytes, post_bytes}
use Rattle.dvi2_reading.specs.Beginning.{parameters}
use Rattle.dvi2_reading.specs.PageReading.{begins, is_more}
use Rattle.dvi2_reading.specs.Reading.{State, start, opened, in_page, between, closing, new_page_state, first_bop, further_bop, post_of, closing_of, next, may_begin, bad, at_end, Step, refuse, short, go, whole_step, step, follow, read, read_file}
use Rattle.dvi2_reading.proofs.BytesLaws.{both_true, left_true, right_true, is_begins}
use Rattle.dvi2_reading.specs.SizeLaws.{Command, preamble_command}
use Rattle.dvi2_reading.proofs.CommandLaws.{is_only}
use Rattle.dvi2_reading.specs.Reached.{writing_of, Reached}
use Rattle.dvi2_reading.proofs.StateLaws.{further_command, first_command, of_post, next_reached}
use Rattle.dvi2_reading.proofs.StepLaws.{Alike, begins_it, holds_it, step_go, step_short, start_refuse, opened_refuse, closing_refuse, between_refuse}
use Rattle.dvi2_reading.proofs.PathLaws.{page_path, post_path, start_path, opened_path}
use Rattle.dvi2_reading.proofs.ReadLaws.{read_pass}
use Rattle.dvi2_reading.specs.Standing.{Standing}

pub standing_start : (s : List ℕ) → Standing s start 0
standing_start s = record { inside = omega arith; reads = refl; reached = refl }

-- a step that leads on has its whole command there
step_whole : (q r : State) (b n : ℕ) (ps : List ℕ) → step q b ps ≡ go r n → (n ≤ length ps) × (next q (b ∷ take n ps) ≡ some r)
unfolding step whole_step
step_whole q r b n ps = by_size (leb N (length ps)) refl (next q (b ∷ take N ps)) refl (may_begin q (b ∷ ps))
  where
    N : ℕ
    N = parameters b ps

    by_size : (t : Bool) → leb N (length ps) ≡ t → (o : Option State) → next q (b ∷ take N ps) ≡ o → (u : Bool) → cond t (whole_step N o) (cond u short refuse) ≡ go r n
        → (n ≤ length ps) × (next q (b ∷ take n ps) ≡ some r)
    by_size true e none k u h = absurd (suc-ne-zero 0 cc)
    by_size true e (some x) k u h =
        let p : x ≡ r = cc in
        let m : N ≡ n = cc in
        (subst (λ (j : ℕ). j ≤ length ps) m (leb-true N (length ps) e), subst (λ (j : ℕ). next q (b ∷ take j ps) ≡ some r) m (k ∙ ap some p))
    by_size false e o k true h = absurd (suc-ne-zero 0 cc)
    by_size false e o k false h = absurd (suc-ne-zero 0 cc)

module _ (s : List ℕ) (q : State) (at : ℕ) (k : Standing s q at) where
  module _ (l : at < length s) where
    abbrev op : ℕ
    op = get_or s at 0

    abbrev rest : List ℕ
    rest = drop (at + 1) s

    pub here : drop at s ≡ op ∷ rest
    here = drop-cons s at 0 l ∙ ap (λ (j : ℕ). op ∷ drop j s) (sym (add-one at))

    follows : (t : Step) → t ≡ step q op rest → read_file s ≡ follow at (at + suc (length rest)) t (λ r n. read r (suc at) n rest)
    unfolding read
    follows t e =
        k.reads
        ∙ ap (read q at 0) here
        ∙ ap (λ (t : Step). follow at (at + suc (length rest)) t (λ r n. read r (suc at) n rest)) (sym e)

    pub standing_refuse : refuse ≡ step q op rest → read_file s ≡ bad at
    unfolding follow
    standing_refuse e = follows refuse e

    pub standing_short : short ≡ step q op rest → read_file s ≡ bad (length s)
    unfolding follow
    standing_short e = follows short e ∙ ap bad (omega (arith, length-drop (at + 1) s))

    pub standing_go : (r : State) (n : ℕ) → go r n ≡ step q op rest → Standing s r (at + suc n)
    unfolding follow
    standing_go r n e =
        let w = step_whole q r op n rest (sym e) in
        let m : (at + 1) + n ≡ at + suc n = omega arith in
        let d : drop n rest ≡ drop (at + suc n) s = drop-drop n (at + 1) s ∙ ap (λ (j : ℕ). drop j s) m in
        let p : suc at + n ≡ at + suc n = omega arith in
        let t : take at s ++ (op ∷ take n rest) ≡ take (at + suc n) s = ap (λ (u : List ℕ). take at s ++ take (suc n) u) (sym here) ∙ sym (take-add at (suc n) s) in
        record {
          inside = omega (arith, w.0, length-drop (at + 1) s);
          reads = follows (go r n) e ∙ read_pass r (suc at) n rest w.0 ∙ (λ i. read r (p i) 0 (d i));
          reached = subst (Reached r) t (next_reached (take at s) (op ∷ take n rest) q r k.reached w.1);
        }

  pub standing_end : length s ≤ at → read_file s ≡ at_end q (length s)
  unfolding read
  standing_end l =
      let e : at ≡ length s = omega (arith, k.inside) in
      k.reads ∙ ap (read q at 0) (drop_of_length-le s {i = at} l) ∙ ap (at_end q) e

-- ---- where only one command may come

pub record Sole (q : State) (s e : List ℕ) (r : State) : Type 0 where
  pub command : Command e
  pub leads : next q e ≡ some r
  pub begun : (z : List ℕ) → e ≡ s ++ z → may_begin q s ≡ true
  pub refused : (b : ℕ) (ps : List ℕ) → s ≡ b ∷ ps → (Alike (b ∷ ps) e → ⊥) → step q b ps ≡ refuse
  pub ended : (at : ℕ) → at_end q at ≡ bad at

module _ (s : List ℕ) (q r : State) (at : ℕ) (e : List ℕ) (k : Standing s q at) (o : Sole q (drop at s) e r) where
  pub sole_whole : (u : List ℕ) → drop at s ≡ e ++ u → Standing s r (at + length e)
  sole_whole u d = go e o.command o.leads d
    where
      go : (e : List ℕ) → Command e → next q e ≡ some r → drop at s ≡ e ++ u → Standing s r (at + length e)
      go [] c n d = let b = c.some_byte in absurd (omega arith)
      go (x ∷ es) c n d =
          let l : at < length s = omega (arith, ap length d, length-drop at s) in
          let h = sym (here s q at k l) ∙ d in
          let a : get_or s at 0 ≡ x = cc in
          let b : drop (at + 1) s ≡ es ++ u = cc in
          standing_go s q at k l r (length es) (sym ((λ i. step q (a i) (b i)) ∙ step_go q r x es u c n))

  pub sole_short : (z : List ℕ) → e ≡ drop at s ++ z → 0 < length z → read_file s ≡ bad (length s)
  sole_short z d m = by_place (leb (length s) at) refl
    where
      by_place : (t : Bool) → leb (length s) at ≡ t → read_file s ≡ bad (length s)
      by_place true t = standing_end s q at k (leb-true (length s) at t) ∙ o.ended (length s)
      by_place false t =
          let l : at < length s = leb-false (length s) at t in
          let h = here s q at k l in
          let c : e ≡ get_or s at 0 ∷ (drop (at + 1) s ++ z) = d ∙ ap (λ (w : List ℕ). w ++ z) h in
          standing_short s q at k l
          (sym (step_short q (get_or s at 0) (drop (at + 1) s) z (subst Command c o.command) m (ap (may_begin q) (sym h) ∙ o.begun z d)))

  pub sole_other : (Alike (drop at s) e → ⊥) → read_file s ≡ bad at
  sole_other n = by_place (leb (length s) at) refl
    where
      by_place : (t : Bool) → leb (length s) at ≡ t → read_file s ≡ bad at
      by_place true t = absurd (n (begins_it e (sym (ap (λ (w : List ℕ). w ++ e) (drop_of_length-le s {i = at} (leb-true (length s) at t))))))
      by_place false t =
          let l : at < length s = leb-false (length s) at t in
          let h = here s q at k l in
          standing_refuse s q at k l (sym (o.refused (get_or s at 0) (drop (at + 1) s) h (λ a. n (subst (λ (w : List ℕ). Alike w e) (sym h) a))))

module _ (s : List ℕ) where
  pub sole_start : Sole start s preamble_bytes opened
  unfolding may_begin at_end
  sole_start =
      record { command = preamble_command; leads = start_path; begun = λ z e. is_begins s preamble_bytes z e; refused = λ b ps e n. start_refuse b ps n; ended = λ at. refl }

  pub sole_opened : Sole opened s first_bop (in_page (new_page_state []))
  unfolding may_begin at_end
  sole_opened =
      record { command = first_command; leads = opened_path; begun = λ z e. is_begins s first_bop z e; refused = λ b ps e n. opened_refuse b ps n; ended = λ at. refl }

  pub sole_closing : (is : List Item) (e : List ℕ) (es : List (List ℕ)) → Command e → Sole (closing is (e ∷ es)) s e (closing is es)
  unfolding next may_begin at_end
  sole_closing is e es c =
      record { command = c; leads = is_only e (closing is es); begun = λ z d. is_begins s e z d; refused = λ b ps d n. closing_refuse is e es b ps n; ended = λ at. refl }

  module _ (is : List Item) where
    first_byte : (b x : ℕ) (ps xs : List ℕ) → Alike (b ∷ ps) (x ∷ xs) → b ≡ x
    first_byte b x ps xs (begins_it z e) = let q : x ≡ b = cc in sym q
    first_byte b x ps xs (holds_it w e) = cc

    not_bop : (b : ℕ) (ps : List ℕ) → b ≡ 248 → Alike (b ∷ ps) (further_bop (writing_of is)) → ⊥
    unfolding further_bop bop_bytes
    not_bop b ps e a = let q = first_byte b 139 ps _ a in omega arith

    not_post : (b : ℕ) (ps : List ℕ) → (b ≡ 248 → ⊥) → Alike (b ∷ ps) (post_of is) → ⊥
    unfolding post_of post_bytes
    not_post b ps n a = n (first_byte b 248 ps _ a)

    -- post, before the byte 248
    pub sole_post : ((b : ℕ) (ps : List ℕ) → s ≡ b ∷ ps → b ≡ 248) → Sole (between is) s (post_of is) (closing is (closing_of is))
    unfolding may_begin at_end
    sole_post f =
        record {
          command = of_post is;
          leads = post_path is;
          begun = λ z d. left_true (begins s (post_of is)) (is_more is && begins s (further_bop (writing_of is))) (is_begins s (post_of is) z d);
          refused = λ b ps d n. between_refuse is b ps n (λ m. not_bop b ps (f b ps d));
          ended = λ at. refl;
        }

    -- bop, before another byte
    pub sole_page : length is < max_items → ((b : ℕ) (ps : List ℕ) → s ≡ b ∷ ps → b ≡ 248 → ⊥) → Sole (between is) s (further_bop (writing_of is)) (in_page (new_page_state (is ++ (Cut ∷ []))))
    unfolding may_begin at_end
    sole_page l f =
        record {
          command = further_command (writing_of is);
          leads = page_path is l;
          begun = λ z d.
              right_true (begins s (post_of is)) (is_more is && begins s (further_bop (writing_of is)))
              (both_true (is_more is) (begins s (further_bop (writing_of is))) (lt-ltb (length is) max_items l) (is_begins s (further_bop (writing_of is)) z d));
          refused = λ b ps d n. between_refuse is b ps (not_post b ps (f b ps d)) (λ m. n);
          ended = λ at. refl;
        }

    -- neither, after the last item
    pub full_refuse : (b : ℕ) (ps : List ℕ) → max_items ≤ length is → (b ≡ 248 → ⊥) → step (between is) b ps ≡ refuse
    full_refuse b ps l n = between_refuse is b ps (not_post b ps n) (λ m. absurd (omega arith))
