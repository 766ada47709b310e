-- What the reading of a file comes to.
--     reads     of any file: items of which the writer makes it, or a place where it is refused
-- Assumes nothing.
use Rattle.std.specs.Prelude.{◌≡◌, refl, Bool, true, false, cond, leb, drop}
use Rattle.std.proofs.Math.Path.{sym, ap}
use Rattle.std.proofs.Common.{subst, ◌∙◌, add-zero, leb-true, leb-false, take-append-drop, length-drop, take_at, drop_at, take_all}
use mathlib.Core.List.{List, [], ◌∷◌, ◌++◌, append_assoc, append-nil, flatten}
use Rattle.std.proofs.Math.Option.{Option, none, some}
use Prim.Native.Nat.{ℕ, zero, suc, ◌+◌, ◌≤◌, ◌<◌}
use Rattle.std.proofs.Math.Nat.{suc-ne-zero}
use native.Mathlib.Omega.{arith}
use Rattle.std.proofs.Math.ListN.{length, take, length-append}
use Rattle.std.proofs.Math.Seq.{take-append-add, length-take-le}
use Rattle.octets.specs.OctetsLaws.{by_test}
use Rattle.galley_file.specs.declared.item.Item.{Item}
use Rattle.dvi2_reading.specs.Beginning.{FileOf, Begins, parameters, command_size, CommandAt, first, next, through, Refused, bad_command, ends_early}
use Rattle.dvi2_reading.specs.Reading.{State, start, opened, in_page, between, closing, may_begin, Read, gives, bad, at_end, refuse, short, go, whole_step, step, follow, read, read_file}
use Rattle.dvi2_reading.specs.Reading as R
use Rattle.dvi2_reading.proofs.BytesLaws.{cut_first, cut_before}
use Rattle.dvi2_reading.specs.SizeLaws.{Command}
use Rattle.dvi2_reading.proofs.StableLaws.{parameters_kept}
use Rattle.dvi2_reading.specs.Reached.{Reached}
use Rattle.dvi2_reading.proofs.StateLaws.{next_command, next_reached, live}
use Rattle.dvi2_reading.proofs.Path.{Path, path_first, path_none, path_past}
use Rattle.dvi2_reading.proofs.PathLaws.{file_path}
use Rattle.dvi2_reading.proofs.MayLaws.{may_lead, lead_may}
use Rattle.dvi2_reading.proofs.BeginningLaws.{begins_part}

-- ---- every file goes the same way

-- each file that begins so goes on from this state
record Ahead (q : State) (bs : List ℕ) : Type 0 where
  pub goes_on : (is : List Item) (u : List ℕ) → FileOf (bs ++ u) is → Path q u (closing is [])

ahead_start : Ahead start []
ahead_start =
    record { goes_on = λ is u m. subst (λ (w : List ℕ). Path start w (closing is [])) (sym m.file_is) (file_path is m.writable) }

ahead_next : (q r : State) (bs c : List ℕ) → Ahead q bs → Command c → R.next q c ≡ some r → Ahead r (bs ++ c)
ahead_next q r bs c a d n =
    record {
      goes_on = λ is u m.
          path_past c u (a.goes_on is (c ++ u) (record { writable = m.writable; file_is = sym (append_assoc bs c u) ∙ m.file_is })) refl d n;
    }

-- ---- the reading

-- what the reading of the file s comes to
pub data Comes (s : List ℕ) : Read → Type 0 where
  comes_items : {is : List Item} → FileOf s is → Comes s (gives is)
  comes_fault : {place : ℕ} → Refused s place → Comes s (bad place)

-- how a reader stands that has read bs and has s before it
record Stands (q : State) (bs s : List ℕ) : Type 0 where
  pub reached : Reached q bs
  pub ahead : Ahead q bs
  pub starts : CommandAt (bs ++ s) (length bs)

module _ (q : State) (bs : List ℕ) where
  -- at the end of the file
  at_end_lem : Stands q bs [] → Comes (bs ++ []) (at_end q (length bs))
  unfolding at_end flatten
  at_end_lem k = go q k.reached k.ahead
    where
      early : (q : State) → Reached q bs → Ahead q bs → ((is : List Item) → q ≡ closing is [] → ⊥) → Comes (bs ++ []) (bad (length bs))
      early q r a n =
          comes_fault
          (ends_early (ap length (sym (append-nil bs))) (subst Begins (sym (append-nil bs)) (live q bs r))
          (λ is m. n is (path_none (a.goes_on is [] m) refl)))

      go : (q : State) → Reached q bs → Ahead q bs → Comes (bs ++ []) (at_end q (length bs))
      go start r a = early start r a (λ is e. suc-ne-zero 0 cc)
      go opened r a = early opened r a (λ is e. suc-ne-zero 0 cc)
      go (in_page h) r a = early (in_page h) r a (λ is e. suc-ne-zero 0 cc)
      go (between is) r a = early (between is) r a (λ js e. suc-ne-zero 0 cc)
      go (closing is []) r a = comes_items (record { writable = r.writable; file_is = r.bytes_are })
      go (closing is (e ∷ es)) r a = early (closing is (e ∷ es)) r a (λ js d. suc-ne-zero 0 cc)

  module _ (b : ℕ) (ps : List ℕ) (k : Stands q bs (b ∷ ps)) where
    abbrev size : ℕ
    size = parameters b ps

    size_is : command_size (drop (length bs) (bs ++ (b ∷ ps))) ≡ suc size
    unfolding command_size
    size_is = ap command_size (drop_at bs (b ∷ ps) (length bs) refl)

    place_inside : length bs < length (bs ++ (b ∷ ps))
    place_inside = omega (arith, length-append bs (b ∷ ps))

    before_begins : Begins (take (length bs) (bs ++ (b ∷ ps)))
    before_begins = subst Begins (sym (take_at bs (b ∷ ps) (length bs) refl)) (live q bs k.reached)

    -- through the command, as far as it goes
    through_is : through (bs ++ (b ∷ ps)) (length bs) ≡ bs ++ (b ∷ take size ps)
    through_is = ap (λ (n : ℕ). take (length bs + n) (bs ++ (b ∷ ps))) size_is ∙ take-append-add bs (b ∷ ps) (suc size)

    refused_here : (Begins (bs ++ (b ∷ take size ps)) → ⊥) → Comes (bs ++ (b ∷ ps)) (bad (length bs))
    refused_here n = comes_fault (bad_command k.starts place_inside before_begins (λ o. n (subst Begins through_is o)))

    -- the way of a file that begins with bs and w
    way_on : (w : List ℕ) → (o : Begins (bs ++ w)) → Path q (w ++ o.rest) (closing o.items [])
    way_on w o =
        k.ahead.goes_on o.items (w ++ o.rest)
        (record { writable = o.made.writable; file_is = sym (append_assoc bs w o.rest) ∙ o.made.file_is })

    -- a whole command that does not lead on
    whole_bad : size ≤ length ps → R.next q (b ∷ take size ps) ≡ none → Comes (bs ++ (b ∷ ps)) (bad (length bs))
    unfolding command_size
    whole_bad h n =
        refused_here
        (λ o.
        let c = b ∷ take size ps in
        let f = path_first (way_on c o) (omega (arith, length-append c o.rest)) in
        let t = length-take-le size ps h in
        let s : command_size (c ++ o.rest) ≡ suc size = ap suc (parameters_kept ps o.rest size h b refl) in
        let m : length f.first ≡ length c = sym (f.one.sized f.then_rest) ∙ ap command_size (sym f.bytes_are) ∙ s ∙ ap suc (sym t) in
        let e = cut_first f.first f.then_rest c o.rest (sym f.bytes_are) m in
        clash (sym n ∙ ap (R.next q) (sym e) ∙ f.leads))
      where
        clash : {r : State} → none ≡ some r → ⊥
        clash e = suc-ne-zero 0 cc

    -- a command that is cut short
    module _ (h : length ps < size) where
      not_whole : (x y : List ℕ) → Command x → b ∷ ps ≡ x ++ y → ⊥
      unfolding command_size
      not_whole x y d e =
          let a : suc size ≡ length x = ap command_size e ∙ d.sized y in
          let l = length-append x y in
          let n = ap length e in
          omega arith

      short_early : may_begin q (b ∷ ps) ≡ true → Comes (bs ++ (b ∷ ps)) (bad (length bs + suc (length ps)))
      short_early e =
          let l = may_lead q bs (b ∷ ps) k.reached e in
          let o = live l.after_it (bs ++ l.whole) (next_reached bs l.whole q l.after_it k.reached l.leads) in
          let g : Begins (bs ++ (b ∷ ps)) =
          begins_part (bs ++ (b ∷ ps)) l.longer.more
          (subst Begins (ap (λ (w : List ℕ). bs ++ w) l.longer.whole_is ∙ sym (append_assoc bs (b ∷ ps) l.longer.more)) o) in
          comes_fault
          (ends_early (sym (length-append bs (b ∷ ps))) g
          (λ is m.
          let f = path_first (k.ahead.goes_on is (b ∷ ps) m) (omega arith) in
          not_whole f.first f.then_rest f.one f.bytes_are))

      short_bad : may_begin q (b ∷ ps) ≡ false → Comes (bs ++ (b ∷ ps)) (bad (length bs))
      short_bad e =
          refused_here
          (λ o'.
          let o : Begins (bs ++ (b ∷ ps)) = subst (λ (t : List ℕ). Begins (bs ++ (b ∷ t))) (take_all size ps (omega arith)) o' in
          let f = path_first (way_on (b ∷ ps) o) (omega (arith, length-append (b ∷ ps) o.rest)) in
          let j : f.first ++ f.then_rest ≡ (b ∷ ps) ++ o.rest = sym f.bytes_are in
          by_test (length (b ∷ ps)) (length f.first)
          (λ (l : length (b ∷ ps) < length f.first).
          let w = cut_before (b ∷ ps) o.rest f.first f.then_rest (sym j) (omega arith) in
          clash (sym (lead_may q f.after_first bs (b ∷ ps) (drop (length (b ∷ ps)) f.first) f.first k.reached f.leads w (omega arith) l) ∙ e))
          (λ (l : length f.first ≤ length (b ∷ ps)).
          not_whole f.first (drop (length f.first) (b ∷ ps)) f.one (cut_before f.first f.then_rest (b ∷ ps) o.rest j l)))
        where
          clash : true ≡ false → ⊥
          clash e = suc-ne-zero 0 cc

    -- a whole command that leads on
    whole_on : (r : State) → size ≤ length ps → R.next q (b ∷ take size ps) ≡ some r → Stands r (bs ++ (b ∷ take size ps)) (drop size ps)
    whole_on r h n =
        let c = b ∷ take size ps in
        let d = next_command q r bs c k.reached n in
        let e : (bs ++ c) ++ drop size ps ≡ bs ++ (b ∷ ps) =
        append_assoc bs c (drop size ps) ∙ ap (λ (t : List ℕ). bs ++ (b ∷ t)) (take-append-drop size ps) in
        let t = length-take-le size ps h in
        let l : length bs + command_size (drop (length bs) (bs ++ (b ∷ ps))) ≡ length (bs ++ c) =
        ap (λ (m : ℕ). length bs + m) (size_is ∙ ap suc (sym t)) ∙ sym (length-append bs c) in
        record {
          reached = next_reached bs c q r k.reached n;
          ahead = ahead_next q r bs c k.ahead d n;
          starts = subst (λ (s : List ℕ). CommandAt s (length (bs ++ c))) (sym e) (subst (CommandAt (bs ++ (b ∷ ps))) l (next k.starts place_inside));
        }

-- bytes that are passed over
pub read_pass : (q : State) (at n : ℕ) (s : List ℕ) → n ≤ length s → read q at n s ≡ read q (at + n) 0 (drop n s)
unfolding read
read_pass q at zero s h = rw add-zero
read_pass q at (suc n) [] h = absurd (omega arith)
read_pass q at (suc n) (b ∷ bs) h = read_pass q (suc at) n bs (omega arith) ∙ ap (λ (k : ℕ). read q k 0 (drop n bs)) (omega arith)

-- from any state, where at most n bytes are left
abbrev Upto : ℕ → Type 0
Upto n = (q : State) (bs s : List ℕ) → length s ≤ n → Stands q bs s → Comes (bs ++ s) (read q (length bs) 0 s)

upto_none : Upto zero
unfolding read
upto_none q bs [] l k = at_end_lem q bs k
upto_none q bs (b ∷ ps) l k = absurd (omega arith)

upto_more : (n : ℕ) → Upto n → Upto (suc n)
unfolding read step whole_step follow
upto_more n ih q bs [] l k = at_end_lem q bs k
upto_more n ih q bs (b ∷ ps) l k = by_size (leb (parameters b ps) (length ps)) refl (may_begin q (b ∷ ps)) refl
  where
    N : ℕ
    N = parameters b ps

    rest : State → ℕ → Read
    rest r m = read r (suc (length bs)) m ps

    by_next : N ≤ length ps → (o : Option State) → R.next q (b ∷ take N ps) ≡ o
        → Comes (bs ++ (b ∷ ps)) (follow (length bs) (length bs + suc (length ps)) (whole_step N o) rest)
    by_next h none e = whole_bad q bs b ps k h e
    by_next h (some r) e =
        let c = b ∷ take N ps in
        let g = ih r (bs ++ c) (drop N ps) (omega (arith, length-drop N ps)) (whole_on q bs b ps k r h e) in
        let a : (bs ++ c) ++ drop N ps ≡ bs ++ (b ∷ ps) =
        append_assoc bs c (drop N ps) ∙ ap (λ (t : List ℕ). bs ++ (b ∷ t)) (take-append-drop N ps) in
        let m : length (bs ++ c) ≡ suc (length bs) + N = omega (arith, length-append bs c, length-take-le N ps h) in
        subst (λ (s : List ℕ). Comes s (rest r N)) a
        (subst (Comes ((bs ++ c) ++ drop N ps))
        (ap (λ (j : ℕ). read r j 0 (drop N ps)) m ∙ sym (read_pass r (suc (length bs)) N ps h)) g)

    by_size : (t : Bool) → leb N (length ps) ≡ t → (u : Bool) → may_begin q (b ∷ ps) ≡ u
        → Comes (bs ++ (b ∷ ps)) (follow (length bs) (length bs + suc (length ps)) (cond t (whole_step N (R.next q (b ∷ take N ps))) (cond u short refuse)) rest)
    by_size true e u f = by_next (leb-true N (length ps) e) (R.next q (b ∷ take N ps)) refl
    by_size false e true f = short_early q bs b ps k (leb-false N (length ps) e) f
    by_size false e false f = short_bad q bs b ps k (leb-false N (length ps) e) f

upto : (n : ℕ) → Upto n
upto zero = upto_none
upto (suc n) = upto_more n (upto n)

pub reads : (s : List ℕ) → Comes s (read_file s)
reads s = upto (length s) start [] s (omega arith) (record { reached = refl; ahead = ahead_start; starts = first })
