-- What an item and a run have done, by what they lead to, and what the loop of a run knows: the run is what was read so far, before the run
-- from the present page; the sheet and the count are those of the marks shown so far.
-- Assumes nothing.
use mathlib.Core.Path.{◌≡◌, refl, sym, ap, subst, ◌∙◌}
use mathlib.Core.Bool.{Bool, true, false}
use mathlib.Core.List.{List, [], ◌++◌, append-nil}
use Prim.Native.Nat.{ℕ, suc, ◌+◌, ◌≤◌, ◌<◌}
use native.Mathlib.Nat.{add-zero}
use native.Mathlib.Omega.{arith}
use lib.IntN.{ℤ}
use lib.ListN.{length, get_or, drop, length-append, length-drop}
use lib.Seq.{drop-drop, get_or-drop}
use Rattle.octets.specs.Write.{put_if, put_if_none, Put, put_named, put_none, put_then}
use Rattle.octets.specs.Answer.{number_in, dvi_ends_early}
use Rattle.octets.specs.declared.refusal.Reason.{Reason}
use Rattle.sheet.specs.Sheet.{Mark, mark_fields}
use Rattle.sheet.specs.SheetLaws.{fields_most, mark_fields_append}
use Rattle.dvi.specs.Command.{POP}
use Rattle.dvi.specs.Page as S
use Rattle.sheet.specs.Readable.{max_file}
use Rattle.dvi_page.specs.Page.{page_of}
use Rattle.dvi_page.specs.declared.page.Page.{Page}
use Rattle.dvi_brackets.specs.Brackets.{bad_item, past_item, page_end, bad_run, to_pop, to_eop, first, run, item_here}
use Rattle.dvi_brackets.specs.Brackets as B
use Rattle.dvi_brackets.specs.Reading.{InFile, GoodItem, RoomyItem, ItemDone, run_marks, GoodRun, RoomyRun, RunDone}
use Rattle.dvi_brackets.specs.declared.Item.TheVariants as I
use Rattle.dvi_brackets.specs.declared.Run.TheVariants as R
use Rattle.dvi_brackets.proofs.BracketsLaws.{first_none, first_first, run_none, run_pop, run_bad, run_end, run_past, SoundItem, item_sound}

-- nothing more is put
pub put_over : {w : Bool} {before : List ℕ} {to : ℕ} {xs later : List ℕ} {i : ℕ} {ys latest : List ℕ} {j : ℕ} → Put w before to xs later i → Put w later i ys latest j → ys ≡ [] → Put w before to xs latest i
put_over {w} {before} {to} {xs} {later} {i} u v e = subst (λ (l : List ℕ). Put w before to xs l i) (sym (v.buffer ∙ ap (put_if w later i) e ∙ sym (put_if_none w later i))) u

-- nothing is put where a refused item or run is read
refused_put : {w : Bool} {before : List ℕ} {to : ℕ} {later xs : List ℕ} → (w ≡ true → ⊥) → (w ≡ false → later ≡ before) → length xs ≡ 0 → Put w before to xs later to
refused_put {w} {before} {to} {later} {xs} h g e = record { buffer = go w h g; place = omega (arith, e) }
  where
    go : (w : Bool) → (w ≡ true → ⊥) → (w ≡ false → later ≡ before) → later ≡ put_if w before to xs
    go true h g = absurd (h refl)
    go false h g = g refl

-- ---- what is done, by what it leads to

module _ {w : Bool} {before : List ℕ} {to count : ℕ} {later : List ℕ} where
  module _ {x : B.Item} where
    pub item_bad : {k : Reason} {i : ℕ} → x ≡ bad_item (number_in k) i → (w ≡ true → GoodItem x) → (w ≡ false → later ≡ before) → ItemDone x w before to count (I.Fault k i) later
    unfolding mark_fields
    item_bad {k} {i} e h g =
        subst (λ (y : B.Item). ItemDone y w before to count (I.Fault k i) later) (sym e)
        (record { found = refl; put = refused_put (λ t. subst GoodItem e (h t)) g refl; counted = omega arith })

    pub item_past : {o : Page} {n t c : ℕ} {ms : List Mark} → x ≡ past_item (page_of o []) ms n → Put w before to (mark_fields ms) later t → c ≡ count + length ms → ItemDone x w before to count (I.Past o n t c) later
    item_past {o} {n} {t} {c} e u f =
        subst (λ (y : B.Item). ItemDone y w before to count (I.Past o n t c) later) (sym e) (record { found = refl; put = u; counted = f })

    pub item_end : x ≡ page_end → later ≡ before → ItemDone x w before to count I.End later
    unfolding mark_fields
    item_end e g =
        subst (λ (y : B.Item). ItemDone y w before to count I.End later) (sym e)
        (record { found = refl; put = subst (λ (l : List ℕ). Put w before to [] l to) (sym g) (put_none w before to); counted = omega arith })

  module _ {x : B.Run} where
    pub run_refused : {k : Reason} {i : ℕ} → x ≡ bad_run (number_in k) i → (w ≡ true → GoodRun x) → (w ≡ false → later ≡ before) → RunDone x w before to count (R.Fault k i) later
    unfolding mark_fields
    run_refused {k} {i} e h g =
        subst (λ (y : B.Run). RunDone y w before to count (R.Fault k i) later) (sym e)
        (record { found = refl; put = refused_put (λ t. subst GoodRun e (h t)) g refl; counted = omega arith })

    pub run_popped : {o : Page} {n t c : ℕ} {ms : List Mark} → x ≡ to_pop (page_of o []) ms n → Put w before to (mark_fields ms) later t → c ≡ count + length ms → RunDone x w before to count (R.Pop o n t c) later
    run_popped {o} {n} {t} {c} e u f =
        subst (λ (y : B.Run). RunDone y w before to count (R.Pop o n t c) later) (sym e) (record { found = refl; put = u; counted = f })

    pub run_eop : {n t c : ℕ} {ms : List Mark} → x ≡ to_eop ms n → Put w before to (mark_fields ms) later t → c ≡ count + length ms → RunDone x w before to count (R.Eop n t c) later
    run_eop {n} {t} {c} e u f =
        subst (λ (y : B.Run). RunDone y w before to count (R.Eop n t c) later) (sym e) (record { found = refl; put = u; counted = f })

-- ---- the loop of a run

-- what comes before a run that is not refused has room where the run has
first_room : (ms : List Mark) (n : ℕ) (r : B.Run) → GoodRun (first ms n r) → length (mark_fields ms) ≤ length (mark_fields (run_marks (first ms n r)))
unfolding first
first_room ms n (bad_run k i) h = absurd h
first_room ms n (to_pop q ns m) h = omega (arith, ap length (mark_fields_append ms ns), length-append (mark_fields ms) (mark_fields ns))
first_room ms n (to_eop ns m) h = omega (arith, ap length (mark_fields_append ms ns), length-append (mark_fields ms) (mark_fields ns))

module _ (ws : List ℤ) (d at : ℕ) (p : S.Page) (s : List ℕ) (w : Bool) (before : List ℕ) (to count : ℕ) where
  abbrev whole : B.Run
  whole = run ws d at p 0 s

  pub record Going (q : S.Page) (i : ℕ) (ms : List Mark) (out : List ℕ) (t c : ℕ) : Type 0 where
    pub so_far : whole ≡ first ms i (run ws d (at + i) q 0 (drop i s))
    pub inside : i ≤ length s
    pub put : Put w before to (mark_fields ms) out t
    pub counted : c ≡ count + length ms
    pub few : length ms ≤ i
    pub same : length out ≡ length before

  pub going_start : Going p 0 [] before to count
  unfolding mark_fields
  going_start =
      record {
        so_far = sym (first_none (run ws d (at + 0) p 0 s) ∙ ap (λ (k : ℕ). run ws d k p 0 s) (add-zero at));
        inside = omega arith;
        put = put_none w before to;
        counted = omega arith;
        few = omega arith;
        same = refl;
      }

  module _ {q : S.Page} {i : ℕ} {ms : List Mark} {out : List ℕ} {t c : ℕ} (g : Going q i ms out t c) where
    pub going_within : InFile at to count → at + length s ≤ max_file → InFile (at + i) t c
    going_within h l =
        let k = fields_most ms in
        record {
          low = omega (arith, l, g.inside);
          near = omega (arith, h.near, g.put.place, k, g.few);
          few = omega (arith, h.few, g.counted, g.few);
        }

    pub going_over : length s ≤ i → whole ≡ bad_run dvi_ends_early (at + i)
    unfolding first
    going_over l = g.so_far ∙ ap (first ms i) (run_none ws d (at + i) q (drop i s) (omega (arith, length-drop i s)))

    module _ (l : i < length s) where
      pub some_left : 0 < length (drop i s)
      some_left = omega (arith, length-drop i s)

      here_is : get_or (drop i s) 0 0 ≡ get_or s i 0
      here_is = get_or-drop i s 0 0 ∙ ap (λ (k : ℕ). get_or s k 0) (add-zero i)

      pub going_pop : get_or s i 0 ≡ POP → whole ≡ to_pop q ms i
      unfolding first
      going_pop e =
          g.so_far
          ∙ ap (first ms i) (run_pop ws d (at + i) q (drop i s) some_left (here_is ∙ e))
          ∙ (λ o. to_pop q (append-nil ms o) (add-zero i o))

      module _ (e : get_or s i 0 ≡ POP → ⊥) where
        pub no_pop_lem : get_or (drop i s) 0 0 ≡ POP → ⊥
        no_pop_lem f = e (sym here_is ∙ f)

        abbrev here : B.Item
        here = item_here ws d (at + i) q (drop i s)

        pub going_bad : {k j : ℕ} → here ≡ bad_item k j → whole ≡ bad_run k j
        unfolding first
        going_bad {k} {j} f = g.so_far ∙ ap (first ms i) (run_bad ws d (at + i) q (drop i s) some_left no_pop_lem k j f)

        pub going_end : here ≡ page_end → whole ≡ to_eop ms i
        unfolding first
        going_end f =
            g.so_far ∙ ap (first ms i) (run_end ws d (at + i) q (drop i s) some_left no_pop_lem f) ∙ (λ o. to_eop (append-nil ms o) (add-zero i o))

        module _ {o : S.Page} {ns : List Mark} {n : ℕ} (f : here ≡ past_item o ns n) where
          sound : (n ≤ length (drop 1 (drop i s))) × (length ns ≤ suc n)
          sound = subst (SoundItem (length (drop 1 (drop i s)))) f (item_sound ws d (at + i) q (drop i s))

          pub past_inside : i + 1 + n ≤ length s
          past_inside = omega (arith, sound.0, length-drop 1 (drop i s), length-drop i s, l)

          past_so_far : whole ≡ first (ms ++ ns) (i + 1 + n) (run ws d (at + (i + 1 + n)) o 0 (drop (i + 1 + n) s))
          past_so_far =
              g.so_far
              ∙ ap (first ms i) (run_past ws d (at + i) q (drop i s) some_left no_pop_lem o ns n f sound.0)
              ∙ first_first ms ns i (1 + n) _
              ∙ ap (λ (k : ℕ). first (ms ++ ns) (i + (1 + n)) (run ws d k o 0 (drop (1 + n) (drop i s)))) (omega arith)
              ∙ ap (λ (k : List ℕ). first (ms ++ ns) (i + (1 + n)) (run ws d (at + (i + 1 + n)) o 0 k)) (drop-drop (1 + n) i s)
              ∙ ap (λ (k : ℕ). first (ms ++ ns) k (run ws d (at + (i + 1 + n)) o 0 (drop k s))) (omega arith)

          pub going_past : {later : List ℕ} {u k : ℕ} → Put w out t (mark_fields ns) later u → k ≡ c + length ns → length later ≡ length out → Going o (i + 1 + n) (ms ++ ns) later u k
          going_past v h z =
              record {
                so_far = past_so_far;
                inside = past_inside;
                put = put_named (sym (mark_fields_append ms ns)) (put_then g.put v);
                counted = omega (arith, g.counted, h, length-append ms ns);
                few = omega (arith, g.few, sound.1, length-append ms ns);
                same = z ∙ g.same;
              }

          past_room : {room : ℕ} → RoomyRun whole to room → t + length (mark_fields ns) ≤ room
          past_room r =
              let x = first (ms ++ ns) (i + 1 + n) (run ws d (at + (i + 1 + n)) o 0 (drop (i + 1 + n) s)) in
              omega (
                arith,
                first_room (ms ++ ns) (i + 1 + n) _ (subst GoodRun past_so_far r.accepted),
                r.enough,
                ap (λ (y : B.Run). length (mark_fields (run_marks y))) past_so_far,
                g.put.place,
                ap length (mark_fields_append ms ns),
                length-append (mark_fields ms) (mark_fields ns),
              )

        pub going_room : {room : ℕ} → RoomyRun whole to room → RoomyItem here t room
        unfolding mark_fields
        going_room {room} r = by_item here refl
          where
            by_item : (x : B.Item) → here ≡ x → RoomyItem here t room
            by_item (bad_item k j) f = absurd (subst GoodRun (going_bad f) r.accepted)
            by_item (past_item o ns n) f = subst (λ (y : B.Item). RoomyItem y t room) (sym f) (record { accepted = tt; enough = past_room f r })
            by_item page_end f =
                subst (λ (y : B.Item). RoomyItem y t room) (sym f)
                (record { accepted = tt; enough = omega (arith, g.put.place, r.enough, ap (λ (y : B.Run). length (mark_fields (run_marks y))) (going_end f)) })
