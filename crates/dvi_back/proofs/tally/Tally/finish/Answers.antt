-- `dvi_back::tally::Tally::finish` meets its contract.
-- Assumes nothing.
use mathlib.Core.Path.{sym, ap, ◌∙◌}
use Prim.Native.Nat.{ℕ, ◌+◌}
use native.Mathlib.Omega.{arith}
use lib.ListN.{length}
use Rattle.octets.specs.Field.{end_field}
use Rattle.octets.specs.FieldLaws.{length_end}
use Rattle.octets.specs.Write.{put_if, put_if_none}
use Rattle.std.specs.Prelude.{Ok, Err}
use Rattle.dvi_back.specs.Tally.{place_in, end_of, tally_reading}
use Rattle.dvi_back.specs.declared.tally.Tally.{Tally}
use Rattle.dvi_back.proofs.tally.Tally.finish.Goals as goal

pub show_end-requires : goal.show_end-requires
show_end-requires c w =
    omega (arith, c.requires w, ap place_in c.in-Items.is, ap (λ (k : Tally). length (end_of k)) c.in-Items.is, length_end c.in-Items.characters, c.place-to.ensures.0)

pub returns-in-Nothing : goal.returns-in-Nothing
returns-in-Nothing c =
    let a = c.args in
    let e = sym c.in-Nothing.is in
    (ap Err c.at.ensures ∙ ap tally_reading e, put_if_none a.writing a.out.now (place_in a.self) ∙ ap (λ (k : Tally). put_if a.writing a.out.now (place_in a.self) (end_of k)) e)

pub returns-in-Items : goal.returns-in-Items
returns-in-Items c =
    let a = c.args in
    let e = sym c.in-Items.is in
    let p = c.place-to.ensures.0 in (
      ap (λ (n : ℕ). Ok (n + 7)) p ∙ ap tally_reading e,
      c.show_end.ensures
          ∙ (λ k. put_if a.writing a.out.now (p k) (end_field c.in-Items.characters))
          ∙ ap (λ (k : Tally). put_if a.writing a.out.now (place_in k) (end_of k)) e,
    )

pub returns-in-Broken : goal.returns-in-Broken
returns-in-Broken c =
    let a = c.args in
    let e = sym c.in-Broken.is in
    (ap Err c.at-in-Broken.ensures ∙ ap tally_reading e, put_if_none a.writing a.out.now (place_in a.self) ∙ ap (λ (k : Tally). put_if a.writing a.out.now (place_in a.self) (end_of k)) e)
