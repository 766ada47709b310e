-- The proof of the cycle of calls {read_item, read_run}: a run reads its items at the same allowed depth, and a group its run at one less.
-- Assumes nothing.
use mathlib.Core.Path.{◌≡◌, refl, sym, ap, subst, ◌∙◌}
use mathlib.Core.Bool.{Bool, true}
use mathlib.Core.List.{List, []}
use Prim.Native.Nat.{ℕ, ◌+◌, ◌-◌, ◌≤◌, ◌<◌}
use native.Mathlib.Omega.{arith}
use lib.IntN.{ℤ}
use lib.ListN.{length, get_or, take, drop, length-drop}
use Rattle.octets.specs.Write.{put_still}
use Rattle.dvi.specs.Command.{POP}
use Rattle.dvi.specs.Page as S
use Rattle.sheet.specs.Sheet.{Mark, mark_fields}
use Rattle.sheet.specs.Readable.{max_file}
use Rattle.dvi_page.specs.Page.{page_of}
use Rattle.dvi_brackets.specs.Brackets as B
use Rattle.dvi_brackets.specs.Brackets.{page_end, run, item_here}
use Rattle.dvi_brackets.specs.Reading.{InFile, item_marks, RoomyItem, ItemDone, RoomyRun, RunDone}
use Rattle.dvi_brackets.specs.declared.Item.{Item}
use Rattle.dvi_brackets.specs.declared.Run.{Run}
use Rattle.dvi_brackets.proofs.BracketsLaws.{part, run_sound}
use Rattle.dvi_brackets.proofs.Going.{put_over, item_bad, run_refused, run_popped, run_eop, Going, going_start, going_within, going_over, some_left, no_pop_lem, going_pop, going_bad, going_end, past_inside, going_past, going_room}
use Rattle.dvi_brackets.proofs.Groups.{here_command, here_deep, here_inner, leave_room, leaves_at, leave_done}
use Rattle.dvi_brackets.proofs.+read_item_read_run.Goals as goal

-- ---- an item: a command, or a group, which is left where its run ends

pub read_item-command_item-requires-clause-roomy_item :
    goal.read_item-command_item-requires-clause-roomy_item
read_item-command_item-requires-clause-roomy_item t c w =
    let a = c.args in
    subst (λ (i : B.Item). RoomyItem i a.to (length a.out.now)) (here_command _ _ _ _ a.s.now c.if-s.true) (c.requires.roomy_item w)

pub read_item-returns-then-s : goal.read_item-returns-then-s
read_item-returns-then-s t c =
    let a = c.args in
    let r = c.command_item in
    subst (λ (i : B.Item). ItemDone i a.writing a.out.now a.to a.count r.result r.new.out) (sym (here_command _ _ _ _ a.s.now c.if-s.true)) r.ensures

pub read_item-returns-then-depth-eq0 : goal.read_item-returns-then-depth-eq0
read_item-returns-then-depth-eq0 t c =
    item_bad (here_deep _ _ _ _ c.args.s.now c.if-s.false c.if-depth-eq0.true) (λ w. (c.requires.roomy_item w).accepted) (λ _. refl)

-- the code reads a part of the slice: it is the rest of the list
module _ (ws : List ℤ) (d at : ℕ) (p : S.Page) (s : List ℕ) where
  run_room : {to room : ℕ} → RoomyRun (run ws d at p 0 (drop 1 s)) to room → RoomyRun (run ws d at p 0 (take (length s - 1) (drop 1 s))) to room
  run_room {to} {room} h = subst (λ (l : List ℕ). RoomyRun (run ws d at p 0 l) to room) (sym (part 1 s)) h

  run_done : {w : Bool} {before : List ℕ} {to count : ℕ} {r : Run} {later : List ℕ}
      → RunDone (run ws d at p 0 (take (length s - 1) (drop 1 s))) w before to count r later
      → RunDone (run ws d at p 0 (drop 1 s)) w before to count r later
  run_done {w} {before} {to} {count} {r} {later} h = subst (λ (l : List ℕ). RunDone (run ws d at p 0 l) w before to count r later) (part 1 s) h

  item_done : (i : ℕ) {w : Bool} {before : List ℕ} {to count : ℕ} {r : Item} {later : List ℕ}
      → ItemDone (item_here ws d at p (take (length s - i) (drop i s))) w before to count r later
      → ItemDone (item_here ws d at p (drop i s)) w before to count r later
  item_done i {w} {before} {to} {count} {r} {later} h = subst (λ (l : List ℕ). ItemDone (item_here ws d at p l) w before to count r later) (part i s) h

rest_long : (s : List ℕ) → length (take (length s - 1) (drop 1 s)) ≡ length s - 1
rest_long s = ap length (part 1 s) ∙ length-drop 1 s

pub read_item-read_run-r-requires : goal.read_item-read_run-r-requires
read_item-read_run-r-requires t c =
    let a = c.args in
    let s = a.s.now in
    let p = c.requires.s_nonzero in
    let v = p.1.1.1 in (
      omega (arith, c.decreases, c.if-depth-eq0.false),
      (
        (
          omega (arith, rest_long s, p.1.1.0, p.0),
          record { low = omega (arith, p.1.1.0, p.0); near = omega (arith, v.near); few = omega (arith, v.few) },
        ),
        λ w.
            run_room a.widths.now (a.depth - 1) (a.at + 1) (page_of a.p []) s
            (leave_room a.at (page_of a.p []) (run a.widths.now (a.depth - 1) (a.at + 1) (page_of a.p []) 0 (drop 1 s))
            (subst (λ (i : B.Item). RoomyItem i a.to (length a.out.now)) (here_inner _ _ _ _ s c.if-s.false c.if-depth-eq0.false) (c.requires.roomy_item w))),
      ),
    )

pub read_item-leave-requires : goal.read_item-leave-requires
read_item-leave-requires t c =
    let a = c.args in
    let s = a.s.now in
    let p = page_of a.p [] in
    leaves_at a.at (length (drop 1 s)) c.read_run-r.result
    (run_done a.widths.now (a.depth - 1) (a.at + 1) p s c.read_run-r.ensures)
    (run_sound a.widths.now (drop 1 s) (a.depth - 1) (a.at + 1) p 0)
    (omega (arith, length-drop 1 s, c.requires.s_nonzero))

pub read_item-returns : goal.read_item-returns
read_item-returns t c =
    let a = c.args in
    let s = a.s.now in
    leave_done a.at a.p c.read_run-r.result c.leave.result
    (here_inner _ _ _ _ s c.if-s.false c.if-depth-eq0.false)
    (run_done a.widths.now (a.depth - 1) (a.at + 1) (page_of a.p []) s c.read_run-r.ensures)
    c.leave.ensures (λ w. (c.requires.roomy_item w).accepted)

-- ---- a run: the loop over its items

pub read_run-loop-i-init : goal.read_run-loop-i-init
read_run-loop-i-init t c = ([], going_start _ _ _ _ _ _ _ _ _)

pub read_run-returns-then-s-i : goal.read_run-returns-then-s-i
read_run-returns-then-s-i t c =
    let g = c.loop-i.invariant.1 in
    run_popped (going_pop _ _ _ _ _ _ _ _ _ g c.loop-i-test.true c.if-s-i.true) g.put g.counted

-- what the reader of an item asks
module _ (ws : List ℤ) (d at : ℕ) (p : S.Page) (s : List ℕ) (w : Bool) (before : List ℕ) (to count : ℕ) where
  module _ {q : S.Page} {i : ℕ} {ms : List Mark} {out : List ℕ} {t c : ℕ} (g : Going ws d at p s w before to count q i ms out t c) where
    abbrev Asks : List ℕ → Type 0
    Asks l =
        ((0 < length l) × ((get_or l 0 0 ≡ POP → ⊥) × ((at + i + length l ≤ max_file) × InFile (at + i) t c)))
        × (w ≡ true → RoomyItem (item_here ws d (at + i) q l) t (length out))

    asks : i < length s → (get_or s i 0 ≡ POP → ⊥) → at + length s ≤ max_file → InFile at to count → (w ≡ true → RoomyRun (run ws d at p 0 s) to (length before))
        → Asks (take (length s - i) (drop i s))
    asks more other h f r =
        subst Asks (sym (part i s)) (
          (
            some_left _ _ _ _ _ _ _ _ _ g more,
            (
              no_pop_lem _ _ _ _ _ _ _ _ _ g more other,
              (omega (arith, length-drop i s, h, more), going_within _ _ _ _ _ _ _ _ _ g f h),
            ),
          ),
          λ e.
              let room = going_room _ _ _ _ _ _ _ _ _ g more other (r e) in
              record { accepted = room.accepted; enough = omega (arith, room.enough, g.same) },
        )

pub read_run-read_item-requires : goal.read_run-read_item-requires
read_run-read_item-requires t c =
    let h = c.requires.s_bound in
    (omega (arith, c.decreases), asks _ _ _ _ _ _ _ _ _ c.loop-i.invariant.1 c.loop-i-test.true c.if-s-i.false h.0 h.1 c.requires.roomy_run)

pub read_run-returns-in-Fault : goal.read_run-returns-in-Fault
read_run-returns-in-Fault t c =
    let a = c.args in
    let g = c.loop-i.invariant.1 in
    let d = item_done a.widths.now a.depth (a.at + c.loop-i.i) (page_of c.loop-i.q []) a.s.now c.loop-i.i c.in-Fault.ensures in
    run_refused (going_bad _ _ _ _ _ _ _ _ _ g c.loop-i-test.true c.if-s-i.false (sym d.found)) (λ w. (c.requires.roomy_run w).accepted) (λ e. put_still e d.put ∙ put_still e g.put)

pub read_run-overflow_add-i-in-Past : goal.read_run-overflow_add-i-in-Past
read_run-overflow_add-i-in-Past t c =
    let a = c.args in
    let d = item_done a.widths.now a.depth (a.at + c.loop-i.i) (page_of c.loop-i.q []) a.s.now c.loop-i.i c.in-Past.ensures in
    record { fits = omega (arith, past_inside _ _ _ _ _ _ _ _ _ c.loop-i.invariant.1 c.loop-i-test.true c.if-s-i.false (sym d.found), c.requires.s_bound.0) }

pub read_run-loop-i-preserved : goal.read_run-loop-i-preserved
read_run-loop-i-preserved t c =
    let a = c.args in
    let d = item_done a.widths.now a.depth (a.at + c.loop-i.i) (page_of c.loop-i.q []) a.s.now c.loop-i.i c.in-Past.ensures in
    (_, going_past _ _ _ _ _ _ _ _ _ c.loop-i.invariant.1 c.loop-i-test.true c.if-s-i.false (sym d.found) d.put d.counted c.read_item.auto.out)

-- EOP shows nothing
none-shown : {x : B.Item} → x ≡ page_end → mark_fields (item_marks x) ≡ []
unfolding mark_fields
none-shown e = ap (λ (y : B.Item). mark_fields (item_marks y)) e

pub read_run-returns-in-End : goal.read_run-returns-in-End
read_run-returns-in-End t c =
    let a = c.args in
    let g = c.loop-i.invariant.1 in
    let d = item_done a.widths.now a.depth (a.at + c.loop-i.i) (page_of c.loop-i.q []) a.s.now c.loop-i.i c.in-End.ensures in
    let e = sym d.found in
    run_eop (going_end _ _ _ _ _ _ _ _ _ g c.loop-i-test.true c.if-s-i.false e) (put_over g.put d.put (none-shown e)) g.counted

pub read_run-overflow_add-result : goal.read_run-overflow_add-result
read_run-overflow_add-result t c = record { fits = omega (arith, c.loop-i.invariant.1.inside, c.requires.s_bound.0) }

pub read_run-returns : goal.read_run-returns
read_run-returns t c =
    let g = c.loop-i.invariant.1 in
    run_refused (going_over _ _ _ _ _ _ _ _ _ g c.loop-i-test.false) (λ w. (c.requires.roomy_run w).accepted) (λ e. put_still e g.put)
