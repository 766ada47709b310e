-- `dvi2_close::close::closed` meets its contract: post_post, and then the bytes 223, which start after all commands.
-- Assumes nothing.
use mathlib.Core.Path.{sym, ap, ◌∙◌}
use native.Mathlib.Omega.{arith}
use borrow.Author.Rules.{rules}
use lib.ListN.{length}
use Rattle.dvi2.specs.Writer as W
use Rattle.dvi2_reading.specs.Reading.{closing, fill}
use Rattle.dvi2_close.specs.Reading.{expected}
use Rattle.dvi2_close.proofs.Expected.{expect_inside, inside_to, reads_to_standing, reads_to_fault, ended_fault}
use Rattle.dvi2_close.proofs.Closes.{post_post_reads_to, fill_here}
use Rattle.dvi2_close.proofs.close.closed.Goals as goal

pub overflow_cast-post : goal.overflow_cast-post
overflow_cast-post c = omega (arith, c.requires.1.1)

pub expect-requires : goal.expect-requires
expect-requires c = (c.requires.0, search rules)

pub last-requires : goal.last-requires
last-requires c = (inside_to (sym c.expect.ensures ∙ c.in_ok-to.was) (expect_inside _ _ _ c.requires.0), c.requires.1.0)

pub returns : goal.returns
returns c =
    let a = c.args in
    let s = a.dvi.now in
    λ is q k. c.last.ensures is (fill_here s is _ (reads_to_standing (ap (expected s a.at) (sym c.post_post.ensures) ∙ sym c.expect.ensures ∙ c.in_ok-to.was) (post_post_reads_to s is a.post _ a.at k)))

pub returns-in_err-to : goal.returns-in_err-to
returns-in_err-to c =
    let a = c.args in
    let s = a.dvi.now in
    λ is q k. ended_fault s is _ c.from_residual.ensures.1 (reads_to_fault s (closing is (fill (W.fillers (length (W.command_bytes is))))) (ap (expected s a.at) (sym c.post_post.ensures) ∙ sym c.expect.ensures ∙ c.in_err-to.was) (post_post_reads_to s is a.post _ a.at k))
