-- `dvi2_turn::turn::to_post` meets its contract: post, by the tally, and then the end of the file.
-- Assumes nothing.
use mathlib.Core.Path.{sym, ◌∙◌}
use native.Mathlib.Omega.{arith}
use Rattle.dvi2_reading.specs.Reading.{closing, closing_of}
use Rattle.dvi2_close.proofs.Expected.{expect_inside, inside_to, reads_to_standing, reads_to_fault, ended_fault}
use Rattle.dvi2_turn.proofs.Stands.{between_place}
use Rattle.dvi2_turn.proofs.Tallies.{extents_is}
use Rattle.dvi2_turn.proofs.Turns.{post_reads_to}
use Rattle.dvi2_turn.proofs.turn.to_post.Goals as goal

pub close-requires : goal.close-requires
close-requires c =
    let p = c.requires in
    (inside_to (sym c.expect.ensures ∙ c.in_ok-to.was) (expect_inside _ _ _ (omega (arith, p.0.0))), (p.1.0, omega (arith, p.0.0, p.1.0)))

pub returns : goal.returns
returns c =
    let a = c.args in
    let s = a.dvi.now in
    let p = c.requires in
    λ is k j.
    c.close.ensures is (extents_is a.t is k j.reached.writable).fonts_are (between_place s is a.at j) (reads_to_standing c.in_ok-to.was (post_reads_to s a.at a.t is k p.0.0 j p.0.1 _ c.post-e.ensures _ c.expect.ensures))

pub returns-in_err-to : goal.returns-in_err-to
returns-in_err-to c =
    let a = c.args in
    let s = a.dvi.now in
    let p = c.requires in
    λ is k j. ended_fault s is _ c.from_residual.ensures.1 (reads_to_fault s (closing is (closing_of is)) c.in_err-to.was (post_reads_to s a.at a.t is k p.0.0 j p.0.1 _ c.post-e.ensures _ c.expect.ensures))
