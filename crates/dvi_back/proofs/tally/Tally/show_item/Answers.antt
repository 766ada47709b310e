-- `dvi_back::tally::Tally::show_item` meets its contract.
-- Assumes nothing.
use mathlib.Core.Path.{sym, ap, ◌∙◌}
use native.Mathlib.Omega.{arith}
use lib.ListN.{length}
use Rattle.octets.specs.Write.{put_if, put_if_none}
use Rattle.dvi_back.specs.Tally.{place_in, field_of, added_by}
use Rattle.dvi_back.specs.declared.tally.Tally.{Tally}
use Rattle.dvi_back.proofs.tally.Tally.show_item.Goals as goal

pub show_taken-requires : goal.show_taken-requires
show_taken-requires c w =
    let e = c.in-Items.is in
    omega (arith, c.requires w, ap place_in e, ap (λ (k : Tally). length (added_by k c.args.i)) e, c.place.ensures.0)

pub returns-in-Nothing : goal.returns-in-Nothing
returns-in-Nothing c =
    let a = c.args in
    put_if_none a.writing a.out.now (place_in a.self) ∙ ap (λ (k : Tally). put_if a.writing a.out.now (place_in a.self) (added_by k a.i)) (sym c.in-Nothing.is)

pub returns-in-Items : goal.returns-in-Items
returns-in-Items c =
    let a = c.args in
    let e = c.in-Items.is in
    let p = c.place.ensures.0 ∙ ap place_in (sym e) in
    c.show_taken.ensures
    ∙ (λ k. put_if a.writing a.out.now (p k) (field_of a.i))
    ∙ ap (λ (k : Tally). put_if a.writing a.out.now (place_in a.self) (added_by k a.i)) (sym e)

pub returns-in-Broken : goal.returns-in-Broken
returns-in-Broken c =
    let a = c.args in
    put_if_none a.writing a.out.now (place_in a.self) ∙ ap (λ (k : Tally). put_if a.writing a.out.now (place_in a.self) (added_by k a.i)) (sym c.in-Broken.is)
