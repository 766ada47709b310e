-- What the loop over the pages knows: what the file shows is what was shown so far, before what the rest shows from between two pages; the sheet
-- and the count are those of the marks shown so far.
-- Assumes nothing.
use mathlib.Core.Path.{◌≡◌, refl, sym, ap, subst, ◌∙◌}
use mathlib.Core.Bool.{Bool}
use mathlib.Core.List.{List, [], ◌∷◌, ◌++◌, append-nil, append_assoc}
use Prim.Native.Nat.{ℕ, zero, suc, ◌+◌, ◌≤◌, ◌<◌}
use native.Mathlib.Nat.{add-zero, zero-add}
use native.Mathlib.Numerals.{add-one}
use native.Mathlib.Omega.{arith}
use lib.IntN.{ℤ, pos, negsuc}
use lib.ListN.{length, get_or, drop, length-append, length-drop, drop_of_length-le}
use lib.Seq.{drop-cons, drop-drop}
use Rattle.octets.specs.Answer.{dvi_ends_early}
use Rattle.octets.specs.Pass.{Roomy}
use Rattle.octets.specs.PassLaws.{refused_roomy}
use Rattle.sheet.specs.Sheet.{Mark, mark_field, mark_fields}
use Rattle.sheet.specs.SheetLaws.{mark_fields_append}
use Rattle.sheet.specs.Shown.{Shown, refused_at, shows, shows_first, shown_result}
use Rattle.sheet.specs.ShownLaws.{shows_first_nil, shows_first_append, shown_room}
use Rattle.sheet.specs.Filled.{Filled, filled_start, filled_more}
use Rattle.dvi.specs.Page.{max_stack, new_page}
use Rattle.dvi.specs.File.{State, between, inside, Step, refuse, go_on, finish, read_dvi}
use Rattle.dvi.proofs.FileLaws.{SoundStep, step_sound, step_here}
use Rattle.dvi_brackets.specs.Brackets.{Run, bad_run, to_pop, to_eop, run, page_then, step_then, pages, read_brackets}
use Rattle.dvi_brackets.proofs.BracketsLaws.{run_pass, SoundRun, run_sound}
use Rattle.dvi_brackets.proofs.Agreement.{Begins, between_begins, agreement}
use Rattle.dvi_brackets.specs.Reading.{run_marks, RoomyRun}
use Rattle.dvi_plain.specs.Page.{bop_bytes, page_run, PageRead}

-- ---- one command between pages

drop_on : (i j k : ℕ) (s : List ℕ) → j + i ≡ k → drop i (drop j s) ≡ drop k s
drop_on i j k s e = drop-drop i j s ∙ ap (λ (n : ℕ). drop n s) e

module _ (ws : List ℤ) where
  pages_pass : (at n j : ℕ) (last : ℤ) (bs : List ℕ) → n ≤ length bs → pages ws at last (n + j) bs ≡ pages ws (at + n) last j (drop n bs)
  unfolding pages
  pages_pass at zero j last bs h = (λ i. pages ws (sym (add-zero at) i) last (zero-add j i) bs)
  pages_pass at (suc n) j last [] h = absurd (omega arith)
  pages_pass at (suc n) j last (b ∷ bs) h =
      let e : suc n + j ≡ suc (n + j) = omega arith in
      ap (λ (k : ℕ). pages ws at last k (b ∷ bs)) e
      ∙ pages_pass (suc at) n j last bs (omega arith)
      ∙ ap (λ (k : ℕ). pages ws k last j (drop n bs)) (omega arith)

module _ (ws : List ℤ) (s : List ℕ) (at : ℕ) (last : ℤ) where
  abbrev goes : Step → Shown
  goes k = step_then at k (λ p n. run ws max_stack (suc at) p n (drop (at + 1) s)) (λ l n. pages ws (suc at) l n (drop (at + 1) s))

  pages_here : at < length s → pages ws at last 0 (drop at s) ≡ goes (step_here ws s at (between last))
  unfolding pages
  pages_here h = rw (add-one, drop-cons s at 0)

  pages_over : length s ≤ at → pages ws at last 0 (drop at s) ≡ refused_at dvi_ends_early at
  unfolding pages
  pages_over h = rw (drop_of_length-le s h)

  module _ (h : at < length s) {q : State} {ms : List Mark} {n : ℕ} (e : step_here ws s at (between last) ≡ go_on q ms n) where
    begun : (q ≡ inside (pos at) new_page) × ((n ≡ 8) × (length ms ≡ 1))
    begun = subst (Begins at) e (between_begins ws at last (get_or s at 0) (drop (at + 1) s))

    pub bop_shows : length ms ≡ 1
    bop_shows = begun.1.1

    held_here : 8 ≤ length (drop (at + 1) s)
    held_here = let k = subst (SoundStep (length (drop (at + 1) s))) e (step_sound ws at (between last) (get_or s at 0) (drop (at + 1) s) tt) in omega (arith, k.0, begun.1.0)

    pub bop_inside : at + bop_bytes ≤ length s
    bop_inside = omega (arith, held_here, length-drop (at + 1) s)

    pub pages_bop : pages ws at last 0 (drop at s) ≡ shows_first ms (page_then (at + bop_bytes) (page_run ws s at) (λ j. pages ws (at + bop_bytes) (pos at) j (drop (at + bop_bytes) s)))
    unfolding step_then
    pages_bop =
        pages_here h
        ∙ ap goes e
        ∙ (λ i. goes (go_on (begun.0 i) ms (begun.1.0 i)))
        ∙ ap (shows_first ms)
        (ap (λ (r : Run). page_then (suc at + 8) r rest) run_there
        ∙ (λ i. page_then (there i) (page_run ws s at) (λ j. rest_there j i)))
      where
        there : suc at + 8 ≡ at + bop_bytes
        there = omega arith

        rest : ℕ → Shown
        rest j = pages ws (suc at) (pos at) (8 + j) (drop (at + 1) s)

        run_there : run ws max_stack (suc at) new_page 8 (drop (at + 1) s) ≡ page_run ws s at
        run_there =
            run_pass ws max_stack (suc at) 8 new_page (drop (at + 1) s) held_here
            ∙ ap (λ (k : ℕ). run ws max_stack k new_page 0 (drop 8 (drop (at + 1) s))) there
            ∙ ap (run ws max_stack (at + bop_bytes) new_page 0) (drop_on 8 (at + 1) (at + bop_bytes) s (omega arith))

        rest_there : (j : ℕ) → rest j ≡ pages ws (at + bop_bytes) (pos at) j (drop (at + bop_bytes) s)
        rest_there j =
            pages_pass ws (suc at) 8 j (pos at) (drop (at + 1) s) held_here
            ∙ ap (λ (k : ℕ). pages ws k (pos at) j (drop 8 (drop (at + 1) s))) there
            ∙ ap (pages ws (at + bop_bytes) (pos at) j) (drop_on 8 (at + 1) (at + bop_bytes) s (omega arith))

-- the POP or EOP that ends the run of a page lies in the file, and each mark takes a byte
abbrev pub WithinFile : ℕ → List ℕ → Run → Type 0
WithinFile at s (bad_run k i) = Unit {0}
WithinFile at s (to_pop q ms j) = (at + bop_bytes + j + 1 ≤ length s) × (length ms ≤ j)
WithinFile at s (to_eop ms j) = (at + bop_bytes + j + 1 ≤ length s) × (length ms ≤ j)

pub run_within : (ws : List ℤ) (s : List ℕ) (at : ℕ) → at + bop_bytes ≤ length s → {x : Run} → page_run ws s at ≡ x → WithinFile at s x
run_within ws s at h e = subst (WithinFile at s) e (by_run (page_run ws s at) (run_sound ws (drop (at + bop_bytes) s) max_stack (at + bop_bytes) new_page 0))
  where
    by_run : (x : Run) → SoundRun 0 (length (drop (at + bop_bytes) s)) x → WithinFile at s x
    by_run (bad_run k i) g = tt
    by_run (to_pop q ms j) g = (omega (arith, g.0, length-drop (at + bop_bytes) s), g.1)
    by_run (to_eop ms j) g = (omega (arith, g.0, length-drop (at + bop_bytes) s), g.1)

-- ---- the loop over the pages

module _ (ws : List ℤ) (s : List ℕ) (w : Bool) (before : List ℕ) where
  pub record Paged (last : ℤ) (at : ℕ) (ms : List Mark) (out : List ℕ) (to count : ℕ) : Type 0 where
    pub so_far : read_dvi ws s ≡ shows_first ms (pages ws at last 0 (drop at s))
    pub inside : at ≤ length s
    pub filled : Filled w before out ms at to count

  pub paged_start : Paged (negsuc 0) 0 [] before 0 0
  unfolding read_brackets
  paged_start =
      record {
        so_far = sym (agreement ws s) ∙ sym (shows_first_nil (pages ws 0 (negsuc 0) 0 s));
        inside = omega arith;
        filled = filled_start w before;
      }

  module _ {last : ℤ} {at : ℕ} {ms : List Mark} {out : List ℕ} {to count : ℕ} (g : Paged last at ms out to count) where
    pub paged_over : length s ≤ at → read_dvi ws s ≡ refused_at dvi_ends_early at
    unfolding shows_first
    paged_over h = g.so_far ∙ ap (shows_first ms) (pages_over ws s at last h)

    module _ (h : at < length s) where
      pub paged_refused : {k : ℕ} → step_here ws s at (between last) ≡ refuse k → read_dvi ws s ≡ refused_at k at
      unfolding shows_first step_then
      paged_refused e = g.so_far ∙ ap (shows_first ms) (pages_here ws s at last h ∙ ap (goes ws s at last) e)

      pub paged_finished : step_here ws s at (between last) ≡ finish → read_dvi ws s ≡ shows ms
      unfolding shows_first step_then
      paged_finished e = g.so_far ∙ ap (shows_first ms) (pages_here ws s at last h ∙ ap (goes ws s at last) e) ∙ ap shows (append-nil ms)

      -- BOP
      module _ {q : State} {m : Mark} {n : ℕ} (e : step_here ws s at (between last) ≡ go_on q (m ∷ []) n) where
        abbrev rest : ℕ → Shown
        rest j = pages ws (at + bop_bytes) (pos at) j (drop (at + bop_bytes) s)

        bop_so_far : read_dvi ws s ≡ shows_first (ms ++ (m ∷ [])) (page_then (at + bop_bytes) (page_run ws s at) rest)
        bop_so_far =
            g.so_far
            ∙ ap (shows_first ms) (pages_bop ws s at last h e)
            ∙ shows_first_append ms (m ∷ []) (page_then (at + bop_bytes) (page_run ws s at) rest)

        -- the page is refused
        pub page_refused : {k i : ℕ} → ((r : ℕ → Shown) → page_then (at + bop_bytes) (page_run ws s at) r ≡ refused_at k i) → read_dvi ws s ≡ refused_at k i
        unfolding shows_first
        page_refused f = bop_so_far ∙ ap (shows_first (ms ++ (m ∷ []))) (f rest)

        -- it is read to its EOP
        page_eop : {ns : List Mark} {j : ℕ} → page_run ws s at ≡ to_eop ns j → read_dvi ws s ≡ shows_first (ms ++ (m ∷ ns)) (rest (suc j))
        unfolding page_then
        page_eop {ns} {j} f =
            bop_so_far
            ∙ ap (λ (r : Run). shows_first (ms ++ (m ∷ [])) (page_then (at + bop_bytes) r rest)) f
            ∙ shows_first_append (ms ++ (m ∷ [])) ns (rest (suc j))
            ∙ ap (λ (l : List Mark). shows_first l (rest (suc j))) (append_assoc ms (m ∷ []) ns)

        module _ {next t k : ℕ} {later : List ℕ} (r : PageRead at (page_run ws s at) m w out to count next t k later) where
          page_within : (at + bop_bytes + r.bytes + 1 ≤ length s) × (length (run_marks (page_run ws s at)) ≤ r.bytes)
          page_within = run_within ws s at (bop_inside ws s at last h e) r.run_is

          pub paged_next : length later ≡ length out → Paged (pos at) next (ms ++ (m ∷ run_marks (page_run ws s at))) later t k
          paged_next z =
              let j = r.bytes in
              record {
                so_far =
                    page_eop r.run_is
                    ∙ ap (shows_first (ms ++ (m ∷ run_marks (page_run ws s at))))
                    (ap rest (sym (add-zero (suc j)))
                    ∙ pages_pass ws (at + bop_bytes) (suc j) 0 (pos at) (drop (at + bop_bytes) s) (omega (arith, page_within.0, length-drop (at + bop_bytes) s))
                    ∙ ap (pages ws (at + bop_bytes + suc j) (pos at) 0) (drop-drop (suc j) (at + bop_bytes) s)
                    ∙ ap (λ (i : ℕ). pages ws i (pos at) 0 (drop i s)) (omega (arith, r.next_is)));
                inside = omega (arith, r.next_is, page_within.0);
                filled = filled_more g.filled next (m ∷ run_marks (page_run ws s at)) (omega (arith, r.next_is, page_within.1)) r.put r.counted z;
              }

        -- the page has room, where the file has
        pub page_room : {room : ℕ} → Roomy (shown_result (read_dvi ws s)) room → RoomyRun (page_run ws s at) (to + length (mark_field m)) room
        unfolding shown_result page_then mark_fields
        page_room {room} r = by_run (page_run ws s at) refl
          where
            by_run : (x : Run) → page_run ws s at ≡ x → RoomyRun (page_run ws s at) (to + length (mark_field m)) room
            by_run (bad_run k i) f = absurd (refused_roomy (ap shown_result (page_refused (λ u. ap (λ (y : Run). page_then (at + bop_bytes) y u) f))) r)
            by_run (to_pop p ns j) f = absurd (refused_roomy (ap shown_result (page_refused (λ u. ap (λ (y : Run). page_then (at + bop_bytes) y u) f))) r)
            by_run (to_eop ns j) f =
                subst (λ (x : Run). RoomyRun x (to + length (mark_field m)) room) (sym f)
                (record {
                  accepted = tt;
                  enough =
                      omega (
                        arith,
                        shown_room (ms ++ (m ∷ ns)) (rest (suc j)) (page_eop f) r,
                        g.filled.put.place,
                        ap length (mark_fields_append ms (m ∷ ns)),
                        length-append (mark_fields ms) (mark_fields (m ∷ ns)),
                        length-append (mark_field m) (mark_fields ns),
                      );
                })
