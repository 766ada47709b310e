-- `dvi2_close::close::close` meets its contract: the definitions, and then the rest.
-- Assumes nothing.
use mathlib.Core.Path.{subst}
use mathlib.Core.List.{List, ◌∷◌}
use Prim.Native.Nat.{ℕ}
use lib.ListN.{length}
use Rattle.dvi2.specs.Writer as W
use Rattle.dvi2_frame.specs.Frame.{post_post_of}
use Rattle.dvi2_reading.specs.Reading.{closing, fill}
use Rattle.dvi2_reading.specs.Standing.{Standing}
use Rattle.dvi2_close.proofs.Expected.{inside_to, reads_to_standing, reads_to_fault, ended_fault}
use Rattle.dvi2_close.proofs.Closes.{closing_is}
use Rattle.dvi2_close.proofs.close.close.Goals as goal

pub definitions-requires : goal.definitions-requires
definitions-requires c = c.requires.0

pub closed-requires : goal.closed-requires
closed-requires c = (inside_to c.in_ok-to.was c.definitions.ensures.0, c.requires.1)

pub returns : goal.returns
returns c =
    let a = c.args in
    let s = a.dvi.now in
    λ is f q k. c.closed.ensures is q (reads_to_standing c.in_ok-to.was (c.definitions.ensures.1 is _ f (subst (λ (es : List (List ℕ)). Standing s (closing is es) a.at) (closing_is is a.post q) k)))

pub returns-in_err-to : goal.returns-in_err-to
returns-in_err-to c =
    let a = c.args in
    let s = a.dvi.now in
    λ is f q k. ended_fault s is _ c.from_residual.ensures.1 (reads_to_fault s (closing is (post_post_of a.post ∷ fill (W.fillers (length (W.command_bytes is))))) c.in_err-to.was (c.definitions.ensures.1 is _ f (subst (λ (es : List (List ℕ)). Standing s (closing is es) a.at) (closing_is is a.post q) k)))
