-- `dvi2_page::matching::compare` meets its contract: which of the two begins the other decides the whole.
-- Assumes nothing.
use mathlib.Core.Path.{refl, sym, ap, ◌∙◌}
use lib.Dec.{eqb}
use lib.ListN.{length, drop}
use Rattle.std.specs.List.{starts_with}
use Rattle.dvi2_state.proofs.Bytes.{tail_is, starts_begins}
use Rattle.dvi2_page.proofs.Matches.{compared_whole, compared_short, compared_other}
use Rattle.dvi2_page.proofs.matching.compare.Goals as goal
use Rattle.dvi2_page.proofs.matching.compare.Goals.{After-starts_with}

pub returns-then-starts_with : goal.returns-then-starts_with
returns-then-starts_with c =
    let a = c.args in
    compared_whole (drop a.at a.s.now) a.e.now
    (sym (ap (λ r. starts_with eqb r a.e.now) (tail_is a.s.now a.at (length a.s.now) refl) ∙ starts_begins (drop a.at a.s.now) a.e.now) ∙ sym c.starts_with.ensures.value ∙ c.if-starts_with.true)

pub returns-then-starts_with-2 : goal.returns-then-starts_with-2
returns-then-starts_with-2 c =
    let a = c.args in
    compared_short (drop a.at a.s.now) a.e.now
    (sym (ap (λ r. starts_with eqb r a.e.now) (tail_is a.s.now a.at (length a.s.now) refl) ∙ starts_begins (drop a.at a.s.now) a.e.now) ∙ sym c.starts_with.ensures.value ∙ c.if-starts_with.false)
    (sym (ap (starts_with eqb a.e.now) (tail_is a.s.now a.at (length a.s.now) refl) ∙ starts_begins a.e.now (drop a.at a.s.now)) ∙ sym c.starts_with-else-starts_with.ensures.value ∙ c.if-starts_with-2.true)

pub returns-else-starts_with-2 : goal.returns-else-starts_with-2
returns-else-starts_with-2 c =
    let a = c.args in
    compared_other (drop a.at a.s.now) a.e.now
    (sym (ap (λ r. starts_with eqb r a.e.now) (tail_is a.s.now a.at (length a.s.now) refl) ∙ starts_begins (drop a.at a.s.now) a.e.now) ∙ sym c.starts_with.ensures.value ∙ c.if-starts_with.false)
    (sym (ap (starts_with eqb a.e.now) (tail_is a.s.now a.at (length a.s.now) refl) ∙ starts_begins a.e.now (drop a.at a.s.now)) ∙ sym c.starts_with-else-starts_with.ensures.value ∙ c.if-starts_with-2.false)
