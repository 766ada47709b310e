-- `punch::punch_tape` meets its contract: what the check refuses is refused, and a checked galley is punched; reading its tape gives the galley.
-- Assumes nothing.
use Rattle.std.proofs.Common.{length, refl, rules}
use Rattle.octets.specs.Octets.{Bytes}
use Rattle.octets.specs.AnswerLaws.{gives}
use Rattle.punch.specs.Punch.{punch_result, Punches}
use Rattle.punch.proofs.PunchLaws.{round_trip}
use Rattle.punch.proofs.Passes.{punch_refused}
use Rattle.punch.proofs.punch_tape.Goals as goal

pub returns-in_err-of : goal.returns-in_err-of
returns-in_err-of c =
    let a = c.args in
    let k : Bytes a.galley.now = λ i. (c.type_inv.galley i).fits in
    let refused_is = rw c.in_err-of.was at c.of.ensures in
    let q = punch_refused a.galley.now (length a.tape.now) _ _ refused_is in
    let g = gives {result = punch_result a.galley.now} {buffer = a.tape.now} q refl refl in
    let same : Punches _ a.galley.now a.tape.now a.tape.now = record { gives_tape = g; reads_galley = round_trip k g } in
    search rules

pub returns : goal.returns
returns c =
    let a = c.args in
    let same = rw c.in_ok-of.was at c.of.ensures in
    let g = rw same at c.punch_checked.ensures in
    let k : Bytes a.galley.now = λ i. (c.type_inv.galley i).fits in
    record { gives_tape = g; reads_galley = round_trip k g }
