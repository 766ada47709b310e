-- `dvi_brackets::effect_item` meets its contract: an item for each effect, and the field of the mark.
-- Assumes nothing.
use mathlib.Core.Path.{◌≡◌, refl, ap, subst}
use mathlib.Core.Bool.{true}
use mathlib.Core.List.{[]}
use native.Mathlib.Omega.{arith}
use lib.ListN.{length}
use Rattle.octets.specs.Write.{put_named, put_none}
use Rattle.sheet.specs.Sheet.{mark_fields}
use Rattle.sheet.specs.SheetLaws.{length_mark_field, one_field}
use Rattle.dvi.specs.Mark.{mark_of}
use Rattle.dvi_page.specs.Page.{effect_of}
use Rattle.dvi_page.specs.declared.page.Effect.{Effect}
use Rattle.dvi_brackets.specs.Brackets.{Item, effect_item}
use Rattle.dvi_brackets.specs.Reading.{RoomyItem}
use Rattle.dvi_brackets.proofs.Going.{item_bad, item_past, item_end}
use Rattle.dvi_brackets.proofs.effect_item.Goals as goal
use Rattle.dvi_brackets.proofs.effect_item.Goals.{Start}

-- the effect that the match found
module _ (s : Start) where
  found : {k : Effect} → s.args.e ≡ k → effect_item s.args.at s.args.n (effect_of s.args.e []) ≡ effect_item s.args.at s.args.n (effect_of k [])
  found e = ap (λ (x : Effect). effect_item s.args.at s.args.n (effect_of x [])) e

  room : {k : Effect} → s.args.e ≡ k → s.args.writing ≡ true → RoomyItem (effect_item s.args.at s.args.n (effect_of k [])) s.args.to (length s.args.out.now)
  room e w = subst (λ (i : Item). RoomyItem i s.args.to (length s.args.out.now)) (found e) (s.requires.roomy_item w)

pub show_mark-next-requires : goal.show_mark-next-requires
unfolding effect_item
show_mark-next-requires c =
    let m = mark_of c.in-Marked.m in (
      omega (arith, c.requires.in_file.near, c.requires.in_file.low),
      λ w. omega (arith, (room (goal.at.show_mark-next-requires c).Start c.in-Marked.is w).enough, ap length (one_field m), length_mark_field m),
    )

pub returns-in-Fault : goal.returns-in-Fault
unfolding effect_item
returns-in-Fault c =
    item_bad (found (goal.at.returns-in-Fault c).Start c.in-Fault.is) (λ w. (c.requires.roomy_item w).accepted) (λ _. refl)

pub returns-in-Moved : goal.returns-in-Moved
unfolding effect_item mark_fields
returns-in-Moved c =
    item_past (found (goal.at.returns-in-Moved c).Start c.in-Moved.is) (put_none c.args.writing c.args.out.now c.args.to) (omega arith)

pub returns-in-Marked : goal.returns-in-Marked
unfolding effect_item
returns-in-Marked c =
    item_past (found (goal.at.returns-in-Marked c).Start c.in-Marked.is) (put_named (one_field (mark_of c.in-Marked.m)) c.show_mark-next.ensures) refl

pub returns-in-Ended : goal.returns-in-Ended
unfolding effect_item
returns-in-Ended c = item_end (found (goal.at.returns-in-Ended c).Start c.in-Ended.is) refl
