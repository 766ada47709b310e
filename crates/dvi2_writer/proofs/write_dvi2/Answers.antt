-- `dvi2_writer::write_dvi2` meets its contract: what the check refuses is refused; the first pass gives the length, the room decides, and the second writes.
-- Assumes nothing.
use Rattle.std.proofs.Common.{◌≡◌, ℕ, List, length, refl, ap, ◌∙◌, zero-add}
use Rattle.std.specs.Prelude.{Result, Ok, Err}
use Rattle.std.proofs.lemmas.Result.{err_from_is_err_and}
use Rattle.octets.specs.declared.refusal.Refusal.{Refusal}
use Rattle.octets.specs.Answer.{accepted, outcome_of}
use Rattle.octets.specs.AnswerLaws.{gives}
use Rattle.galley_file.specs.declared.form.Form.TheVariants.{New}
use Rattle.galley_file.specs.Galley.{items_of}
use Rattle.galley_file.specs.Outcome.{check_outcome}
use Rattle.galley_check.specs.declared.galley.CheckedGalley.{CheckedGalley}
use Rattle.galley_check.specs.Galley.{ChecksAs}
use Rattle.galley_check.specs.Accepted.{accepted_as}
use Rattle.dvi2.specs.Writer.{dvi2_file}
use Rattle.octets.specs.PutIfRoomLaws.{put_if_room_named}
use Rattle.dvi2_writer.proofs.Results.{check_refused, no_room, with_room}
use Rattle.dvi2_writer.proofs.write_dvi2.Goals as goal
use Rattle.dvi2_writer.proofs.write_dvi2.Goals.{In_ok-galley}

-- the galley was made of the bytes
checked_is : (g : List ℕ) (r : Result CheckedGalley Refusal) (k : CheckedGalley) → r ≡ Ok k → ChecksAs g r → k.bytes.now ≡ g
checked_is g r k e h = rw e at h

file_is : (c : In_ok-galley) → dvi2_file (items_of New c.in_ok-galley.galley.bytes.now) ≡ dvi2_file (items_of New c.args.galley.now)
file_is c = let k = checked_is _ _ _ c.in_ok-galley.was c.of.ensures in ap (λ (g : List ℕ). dvi2_file (items_of New g)) k

counted : (c : In_ok-galley) → accepted c.in_ok-galley.galley.count ≡ check_outcome New c.args.galley.now
counted c =
    let g = c.in_ok-galley.galley in
    let k = checked_is _ _ _ c.in_ok-galley.was c.of.ensures in
    accepted_as New g.bytes.now g.count g.accepted ∙ ap (check_outcome New) k

pub returns-in_err-galley : goal.returns-in_err-galley
returns-in_err-galley c =
    let a = c.args in
    let e = rw c.in_err-galley.was at c.of.ensures in
    let q = err_from_is_err_and c.from_residual.result c.from_residual.ensures.1 in
    gives (check_refused a.galley.now (length a.dvi.now) _ _ e) (ap outcome_of (q.1 ∙ ap Err q.2)) refl

pub returns-then-dvi-needed : goal.returns-then-dvi-needed
returns-then-dvi-needed c =
    let a = c.args in
    let k = (goal.at.returns-then-dvi-needed c).In_ok-galley in
    let q = no_room a.galley.now a.dvi.now _ (counted k) _ ((put_if_room_named (file_is k) c.put_file-needed.ensures).next_is ∙ zero-add _) c.if-dvi-needed.true in
    rw c.at.ensures (gives q refl refl)

pub returns : goal.returns
returns c =
    let a = c.args in
    let k = (goal.at.returns c).In_ok-galley in
    with_room a.galley.now a.dvi.now _ (counted k) _ ((put_if_room_named (file_is k) c.put_file-needed.ensures).next_is ∙ zero-add _) c.if-dvi-needed.false _ _ (put_if_room_named (file_is k) c.put_file.ensures)
