-- A well-bracketed run is read as its tree, by brackets and by the stack.
--     tree_run       the bracket reading goes on after it from the page that the tree leads to
--     tree_stack     so does the stack reading, with the stack as it was
--     group_numbers  the six numbers after a group are those before it
--     sample_read    an example
-- Assumes nothing.
use Rattle.std.specs.Prelude.{◌≡◌, List, [], ◌∷◌, ◌++◌, ℤ, pos, drop}
use Rattle.std.proofs.Math.Path.{refl, ap}
use Rattle.std.proofs.Common.{sym, subst, ◌∙◌, append-nil, append_assoc, add-zero, zero-add, suc-ne-zero, arith, ne_eqb, le-leb, drop_at}
use Prim.Native.Nat.{ℕ, zero, suc, ◌+◌}
use Rattle.std.proofs.Math.ListN.{length, length-append}
use Rattle.octets.specs.Octets.{number_from, twos, signed, fits32}
use Rattle.dvi.specs.Command.{PUSH, POP, Command, set_font, move_x, horz_char, layouts, layout_of, with_parameters, decode}
use Rattle.sheet.specs.Sheet.{Mark, char_mark}
use Rattle.dvi.specs.Page.{max_stack, Numbers, Page, new_page, Effect, fault, moved, marked, ended, with_numbers, with_font, right_by, set_x, if_fits, go_to, char_here, set_still, effect}
use Rattle.dvi.specs.File as F
use Rattle.sheet.specs.Shown.{shows_first}
use Rattle.dvi.specs.File.{inside}
use Rattle.sheet.specs.ShownLaws.{shows_first_append}
use Rattle.dvi_brackets.specs.Brackets.{past_item, Run, bad_run, to_pop, to_eop, effect_item, command_item, leave, group, item, first, run, item_here}
use Rattle.dvi_brackets.proofs.BracketsLaws.{first_none, first_first, run_pop, run_past}
use Rattle.dvi_brackets.proofs.Inner.{onto}
use Rattle.dvi_brackets.proofs.Clean.{Clean, run_clean}
use Rattle.dvi_brackets.proofs.RunAgreement.{at_pop, at_eop, resume, pop_shift, eop_shift, run_agrees}
use Rattle.dvi_brackets.specs.Tree.{Items, none, also, Piece, single, bracketed, items_bytes, piece_bytes, Stands, Formed, FormedPiece, Read, fails, leads, read_first, then_read, effect_read, leave_read, read_items, read_piece}

-- ---- a reading taken apart

-- what leads on in two parts
record Parts (r : Read) (f : Page → Read) (q : Page) (ms : List Mark) : Type 0 where
  pub between : Page
  pub before : List Mark
  pub after : List Mark
  pub first_is : r ≡ leads between before
  pub rest_is : f between ≡ leads q after
  pub marks_are : before ++ after ≡ ms

clash : {A : Type 0} {q : Page} {ms : List Mark} → fails ≡ leads q ms → A
clash e = absurd (suc-ne-zero 0 cc)

parts : (r : Read) (f : Page → Read) (q : Page) (ms : List Mark) → then_read r f ≡ leads q ms → Parts r f q ms
unfolding then_read read_first
parts fails f q ms e = clash e
parts (leads o ns) f q ms e = go (f o) refl e
  where
    go : (x : Read) → f o ≡ x → read_first ns x ≡ leads q ms → Parts (leads o ns) f q ms
    go fails h k = clash k
    go (leads u ks) h k =
        let a : u ≡ q = cc in
        record { between = o; before = ns; after = ks; first_is = refl; rest_is = h ∙ ap (λ (v : Page). leads v ks) a; marks_are = (cc) }

-- an effect that leads on is an item that is past
effect_past : (at n : ℕ) (e : Effect) (q : Page) (ms : List Mark) → effect_read e ≡ leads q ms → effect_item at n e ≡ past_item q ms n
unfolding effect_read effect_item
effect_past at n (fault k) q ms h = clash h
effect_past at n (moved o) q ms h =
    let a : o ≡ q = cc in
    let b : ◌≡◌ {A = List Mark} [] ms = cc in
    (λ i. past_item (a i) (b i) n)
effect_past at n (marked o m) q ms h =
    let a : o ≡ q = cc in
    let b : m ∷ [] ≡ ms = cc in
    (λ i. past_item (a i) (b i) n)
effect_past at n ended q ms h = clash h

-- a group that leads on
record Left (p : Page) (r : Read) (q : Page) (ms : List Mark) : Type 0 where
  pub within : Page
  pub inner_is : r ≡ leads within ms
  pub left_is : with_numbers within p.numbers ≡ q

left : (p : Page) (r : Read) (q : Page) (ms : List Mark) → leave_read p r ≡ leads q ms → Left p r q ms
unfolding leave_read
left p fails q ms e = clash e
left p (leads o ns) q ms e =
    let a : ns ≡ ms = cc in
    record { within = o; inner_is = ap (leads o) a; left_is = (cc) }

-- ---- by brackets

module _ (ws : List ℤ) where
  -- a run that starts with the bytes bs leads to q after them and shows ms there
  abbrev Passes : ℕ → ℕ → Page → List ℕ → Page → List Mark → List ℕ → Type 0
  Passes d at p bs q ms rest = run ws d at p 0 (bs ++ rest) ≡ first ms (length bs) (run ws d (at + length bs) q 0 rest)

  -- one item with the bytes b ∷ bs
  item_passes : (d at : ℕ) (p : Page) (b : ℕ) (bs : List ℕ) (q : Page) (ms : List Mark) (rest : List ℕ) → (b ≡ POP → ⊥) → item_here ws d at p (b ∷ (bs ++ rest)) ≡ past_item q ms (length bs)
      → Passes d at p (b ∷ bs) q ms rest
  item_passes d at p b bs q ms rest h e =
      let k : 1 + length bs ≡ suc (length bs) = omega arith in
      run_past ws d at p (b ∷ (bs ++ rest)) (omega arith) h q ms (length bs) e (omega (arith, length-append bs rest))
      ∙ (λ i. first ms (k i) (run ws d (at + k i) q 0 (drop (k i) (b ∷ (bs ++ rest)))))
      ∙ ap (λ (l : List ℕ). first ms (suc (length bs)) (run ws d (at + suc (length bs)) q 0 l)) (drop_at bs rest (length bs) refl)

  single_passes : (d at : ℕ) (p : Page) (c : Command) (b : ℕ) (ps : List ℕ) (q : Page) (ms : List Mark) (rest : List ℕ) → Stands c b ps → effect_read (effect ws p c) ≡ leads q ms → Passes d at p (b ∷ ps) q ms rest
  unfolding item command_item
  single_passes d at p c b ps q ms rest s e =
      item_passes d at p b ps q ms rest s.no_pop
      (rw (ne_eqb b PUSH s.no_push) (ap (command_item ws at p) (s.decoded rest) ∙ effect_past at (length ps) (effect ws p c) q ms e))

  -- one run after another
  join : (d at : ℕ) (p o q : Page) (xs ys : List ℕ) (ns ks ms : List Mark) (rest : List ℕ) → Passes d at p xs o ns (ys ++ rest) → Passes d (at + length xs) o ys q ks rest → ns ++ ks ≡ ms → Passes d at p (xs ++ ys) q ms rest
  join d at p o q xs ys ns ks ms rest h g e =
      let l : length xs + length ys ≡ length (xs ++ ys) = sym (length-append xs ys) in
      ap (run ws d at p 0) (append_assoc xs ys rest)
      ∙ h
      ∙ ap (first ns (length xs)) g
      ∙ first_first ns ks (length xs) (length ys) _
      ∙ ap (λ (k : ℕ). first (ns ++ ks) (length xs + length ys) (run ws d k q 0 rest)) (omega arith)
      ∙ (λ i. first (e i) (l i) (run ws d (at + l i) q 0 rest))

  group_passes : (d at : ℕ) (p o q : Page) (bs : List ℕ) (ms : List Mark) (rest : List ℕ) → Passes d (at + 1) p bs o ms (POP ∷ rest) → with_numbers o p.numbers ≡ q → Passes (suc d) at p (PUSH ∷ bs ++ (POP ∷ [])) q ms rest
  unfolding item group leave first
  group_passes d at p o q bs ms rest h e =
      let l : suc (length bs) ≡ length (bs ++ (POP ∷ [])) = omega (arith, length-append bs (POP ∷ [])) in
      let z : PUSH ≡ POP → ⊥ = λ k. absurd (omega (arith, k)) in
      item_passes (suc d) at p PUSH (bs ++ (POP ∷ [])) q ms rest z
      (ap (leave at p)
      (ap (run ws d (at + 1) p 0) (append_assoc bs (POP ∷ []) rest)
      ∙ h
      ∙ ap (first ms (length bs)) (run_pop ws d (at + 1 + length bs) o (POP ∷ rest) (omega arith) refl)
      ∙ (λ i. to_pop o (append-nil ms i) (add-zero (length bs) i)))
      ∙ (λ i. past_item (e i) ms (l i)))

  mutual
    unfolding items_bytes read_items

    pub tree_run : (xs : Items) (d at : ℕ) (p q : Page) (ms : List Mark) (rest : List ℕ) → Formed xs d → read_items xs ws p ≡ leads q ms → Passes d at p (items_bytes xs) q ms rest
    tree_run none d at p q ms rest f e =
        let a : p ≡ q = cc in
        let b : ◌≡◌ {A = List Mark} [] ms = cc in
        sym (first_none _)
        ∙ (λ i. first (b i) 0 (run ws d (sym (add-zero at) i) (a i) 0 rest))
    tree_run (also x xs) d at p q ms rest f e =
        let k = parts (read_piece x ws p) (λ o. read_items xs ws o) q ms e in
        join d at p k.between q (piece_bytes x) (items_bytes xs) k.before k.after ms rest
        (piece_run x d at p k.between k.before (items_bytes xs ++ rest) f.0 k.first_is)
        (tree_run xs d (at + length (piece_bytes x)) k.between q k.after rest f.1 k.rest_is)
        k.marks_are

    piece_run : (x : Piece) (d at : ℕ) (p q : Page) (ms : List Mark) (rest : List ℕ) → FormedPiece x d → read_piece x ws p ≡ leads q ms → Passes d at p (piece_bytes x) q ms rest
    piece_run (single c b ps) d at p q ms rest f e = single_passes d at p c b ps q ms rest f e
    piece_run (bracketed xs) zero at p q ms rest f e = absurd f
    piece_run (bracketed xs) (suc d) at p q ms rest f e =
        let k = left p (read_items xs ws p) q ms e in
        group_passes d at p k.within q (items_bytes xs) ms rest (tree_run xs d (at + 1) p k.within ms (POP ∷ rest) f k.inner_is) k.left_is

-- ---- by the stack

module _ (ws : List ℤ) (last : ℤ) (st : List Numbers) (rest : List ℕ) where
  pop_far : (bs : List ℕ) (q : Page) (at m : ℕ) → at_pop ws last st q (at + length bs) m rest ≡ at_pop ws last st q at (length bs + m) (bs ++ rest)
  pop_far [] q at m = (λ i. at_pop ws last st q (add-zero at i) (sym (zero-add m) i) rest)
  pop_far (b ∷ bs) q at m =
      ap (λ (k : ℕ). at_pop ws last st q k m rest) (omega arith)
      ∙ pop_far bs q (suc at) m
      ∙ sym (pop_shift ws last at b (bs ++ rest) st q (suc (length bs) + m) (length bs + m) (omega arith))

  eop_far : (bs : List ℕ) (at m : ℕ) → at_eop ws last st (at + length bs) m rest ≡ at_eop ws last st at (length bs + m) (bs ++ rest)
  eop_far [] at m = (λ i. at_eop ws last st (add-zero at i) (sym (zero-add m) i) rest)
  eop_far (b ∷ bs) at m =
      ap (λ (k : ℕ). at_eop ws last st k m rest) (omega arith)
      ∙ eop_far bs (suc at) m
      ∙ sym (eop_shift ws last at b (bs ++ rest) st (suc (length bs) + m) (length bs + m) (omega arith))

  resume_far : (bs : List ℕ) (at : ℕ) (ms : List Mark) (r : Run) → shows_first ms (resume ws last st (at + length bs) 0 rest r) ≡ resume ws last st at 0 (bs ++ rest) (first ms (length bs) r)
  unfolding shows_first first
  resume_far bs at ms (bad_run k i) = refl
  resume_far bs at ms (to_pop q ns m) =
      shows_first_append ms ns (at_pop ws last st q (at + length bs) (0 + m) rest)
      ∙ ap (shows_first (ms ++ ns)) (pop_far bs q at (0 + m) ∙ ap (λ (k : ℕ). at_pop ws last st q at k (bs ++ rest)) (omega arith))
  resume_far bs at ms (to_eop ns m) =
      shows_first_append ms ns (at_eop ws last st (at + length bs) (0 + m) rest)
      ∙ ap (shows_first (ms ++ ns)) (eop_far bs at (0 + m) ∙ ap (λ (k : ℕ). at_eop ws last st at k (bs ++ rest)) (omega arith))

-- the page that a tree leads to has no entries on its stack either
tree_clean : (ws : List ℤ) (xs : Items) (d at : ℕ) (p q : Page) (ms : List Mark) → p.stack ≡ [] → Formed xs d → read_items xs ws p ≡ leads q ms → q.stack ≡ []
unfolding first
tree_clean ws xs d at p q ms s f e =
    subst Clean
    (tree_run ws xs d at p q ms (POP ∷ []) f e ∙ ap (first ms (length (items_bytes xs))) (run_pop ws d (at + length (items_bytes xs)) q (POP ∷ []) (omega arith) refl))
    (run_clean ws (items_bytes xs ++ (POP ∷ [])) d at p 0 s)

-- with any stack of so many entries that the groups find room
pub tree_stack : (ws : List ℤ) (last : ℤ) (xs : Items) (d at : ℕ) (p q : Page) (ms : List Mark) (st : List Numbers) (rest : List ℕ) → p.stack ≡ [] → length st + d ≡ max_stack → Formed xs d
    → read_items xs ws p ≡ leads q ms
    → F.run ws at (inside last (onto p st)) 0 (items_bytes xs ++ rest) ≡ shows_first ms (F.run ws (at + length (items_bytes xs)) (inside last (onto q st)) 0 rest)
tree_stack ws last xs d at p q ms st rest s h f e =
    run_agrees ws last (items_bytes xs ++ rest) d at p 0 st s h
    ∙ ap (resume ws last st at 0 (items_bytes xs ++ rest)) (tree_run ws xs d at p q ms rest f e)
    ∙ sym (resume_far ws last st rest (items_bytes xs) at ms (run ws d (at + length (items_bytes xs)) q 0 rest))
    ∙ ap (shows_first ms) (sym (run_agrees ws last rest d (at + length (items_bytes xs)) q 0 st (tree_clean ws xs d at p q ms s f e) h))

-- a group leaves the six numbers as they were
pub group_numbers : (ws : List ℤ) (xs : Items) (p q : Page) (ms : List Mark) → read_piece (bracketed xs) ws p ≡ leads q ms → q.numbers ≡ p.numbers
unfolding read_items with_numbers
group_numbers ws xs p q ms e = let k = left p (read_items xs ws p) q ms e in ap (λ (o : Page). o.numbers) (sym k.left_is)

-- ---- an example: font 0, a group that moves by 5 and sets a character, and a character after it, at the old place

sample : Items
sample =
    also (single (set_font (pos 0)) 154 [])
    (also (bracketed (also (single (move_x (pos 5)) 144 (0 ∷ 5 ∷ [])) (also (single (horz_char (pos 65)) 136 (65 ∷ [])) none)))
    (also (single (horz_char (pos 66)) 136 (66 ∷ [])) none))

sample_formed : Formed sample max_stack
unfolding sample decode layout_of layouts with_parameters signed twos number_from
sample_formed =
    let font : Stands (set_font (pos 0)) 154 [] = record { decoded = λ rest. refl; no_push = λ e. absurd (omega (arith, e)); no_pop = λ e. absurd (omega (arith, e)) } in
    let move : Stands (move_x (pos 5)) 144 (0 ∷ 5 ∷ []) = record { decoded = λ rest. rw (le-leb 2 (suc (suc (length rest))) (omega arith)); no_push = λ e. absurd (omega (arith, e)); no_pop = λ e. absurd (omega (arith, e)) } in
    let a : Stands (horz_char (pos 65)) 136 (65 ∷ []) = record { decoded = λ rest. rw (le-leb 1 (suc (length rest)) (omega arith)); no_push = λ e. absurd (omega (arith, e)); no_pop = λ e. absurd (omega (arith, e)) } in
    let b : Stands (horz_char (pos 66)) 136 (66 ∷ []) = record { decoded = λ rest. rw (le-leb 1 (suc (length rest)) (omega arith)); no_push = λ e. absurd (omega (arith, e)); no_pop = λ e. absurd (omega (arith, e)) } in
    (font, ((move, (a, tt)), (b, tt)))

sample_read : read_items sample [] new_page ≡ leads (with_font new_page (pos 0)) (char_mark (pos 5) (pos 0) (pos 0) 65 ∷ char_mark (pos 0) (pos 0) (pos 0) 66 ∷ [])
unfolding sample read_items then_read read_first leave_read effect_read effect go_to if_fits fits32 set_x right_by with_font new_page set_still with_numbers char_here
sample_read = refl
