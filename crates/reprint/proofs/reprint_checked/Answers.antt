-- `reprint::reprint_checked` meets its contract: the tests are those of `reprint_result`; with room for the sheet, the writer decides, and then
-- the reader reads exactly what it wrote.
-- Assumes nothing.
use mathlib.Core.Path.{◌≡◌, sym, ap, ◌∙◌}
use Prim.Native.Nat.{◌≤◌, ◌<◌}
use native.Mathlib.Omega.{arith}
use borrow.Author.Rules.{rules}
use lib.ListN.{length}
use lib.Seq.{length-take-le}
use Rattle.octets.specs.Octets.{Bytes}
use Rattle.octets.specs.Answer.{accepted, outcome_of, outcome, no_dvi_room, no_sheet_room}
use Rattle.dvi_writer.specs.Result.{dvi_result}
use Rattle.reprint.specs.Reprint.{stopped}
use Rattle.reprint.specs.ReprintLaws.{file, short_file, short_sheet}
use Rattle.reprint.proofs.Calls.{refuses, same_file, sheet_needed, accepted_file, refused_file, refused_writing, file_fits, written_part, completes}
use Rattle.reprint.proofs.reprint_checked.Goals as goal
use Rattle.reprint.proofs.reprint_checked.Goals.{In_ok-length, In_err-length}

pub sheet_length-needed-requires : goal.sheet_length-needed-requires
sheet_length-needed-requires c = c.requires.0

pub file_length-length-requires : goal.file_length-length-requires
file_length-length-requires c = c.requires.0

pub returns-then-dvi-length : goal.returns-then-dvi-length
returns-then-dvi-length c =
    let a = c.args in
    let g = a.galley.now in
    let k : Bytes g = λ i. (c.type_inv.galley i).fits in
    let e = sym c.requires.0 in
    let w = c.requires.1 in
    let l = c.file_length-length.ensures ∙ sym (ap length (same_file g a.count k e)) in
    let h : length a.dvi.now < length (file g a.count k e) = omega (arith, l, c.if-dvi-length.true) in
    rw c.at.ensures (refuses g a.widths.now a.dvi.now a.sheet.now
    (short_file g a.count k e a.widths.now w (length a.dvi.now) (length a.sheet.now) h ∙ ap (stopped no_dvi_room) (sym l)))

pub returns-then-sheet-needed : goal.returns-then-sheet-needed
returns-then-sheet-needed c =
    let a = c.args in
    let g = a.galley.now in
    let k : Bytes g = λ i. (c.type_inv.galley i).fits in
    let e = sym c.requires.0 in
    let w = c.requires.1 in
    let l = c.file_length-length.ensures ∙ sym (ap length (same_file g a.count k e)) in
    let n = c.sheet_length-needed.ensures ∙ sheet_needed g a.count k e in
    let h : length (file g a.count k e) ≤ length a.dvi.now = omega (arith, l, c.if-dvi-length.false) in
    rw c.at-then-sheet-needed.ensures (refuses g a.widths.now a.dvi.now a.sheet.now
    (short_sheet g a.count k e a.widths.now w (length a.dvi.now) (length a.sheet.now) h (omega (arith, c.if-sheet-needed.true, n)) ∙ ap (stopped no_sheet_room) (sym n)))

-- the writer has accepted the galley, with this length
accepted-by : (c : In_ok-length) → let a = c.args in accepted c.in_ok-length.length ≡ outcome (dvi_result a.galley.now (length a.dvi.now))
accepted-by c = sym (ap outcome_of c.in_ok-length.was) ∙ c.write_dvi.ensures.outcome_is

part-fits : (c : In_ok-length) → c.in_ok-length.length ≤ length c.write_dvi.new.dvi
part-fits c =
    let a = c.args in
    let g = a.galley.now in
    let k : Bytes g = λ i. (c.type_inv.galley i).fits in
    let e = sym c.requires.0 in
    let l = accepted_file g a.count k e (length a.dvi.now) _ (accepted-by c) in
    let h = file_fits g a.count k e a.dvi.now _ (accepted-by c) in
    omega (arith, l, h, c.write_dvi.auto.dvi)

pub slice_bounds-read_dvi-end : goal.slice_bounds-read_dvi-end
slice_bounds-read_dvi-end c = omega (arith, part-fits c)

pub slice_bounds-read_dvi-end-2 : goal.slice_bounds-read_dvi-end-2
slice_bounds-read_dvi-end-2 c = sym (length-take-le _ _ (part-fits (goal.at.slice_bounds-read_dvi-end-2 c).In_ok-length))

pub returns-in_err-length : goal.returns-in_err-length
returns-in_err-length c =
    let a = c.args in
    let g = a.galley.now in
    let k : Bytes g = λ i. (c.type_inv.galley i).fits in
    let e = sym c.requires.0 in
    let w = c.requires.1 in
    let r = c.write_dvi in
    let refused_is = sym (ap outcome_of c.in_err-length.was) ∙ r.ensures.outcome_is in
    let q = short_file g a.count k e a.widths.now w (length a.dvi.now) (length a.sheet.now) (refused_file g a.count k e (length a.dvi.now) _ _ refused_is).1.1 in
    let same = refused_writing g a.count k e a.widths.now a.dvi.now a.sheet.now _ _ refused_is r.ensures.buffer_is q in
    search rules

pub returns : goal.returns
returns c =
    let a = c.args in
    let g = a.galley.now in
    let k : Bytes g = λ i. (c.type_inv.galley i).fits in
    let e = sym c.requires.0 in
    let w = c.requires.1 in
    let r = c.write_dvi in
    let q = accepted-by (goal.at.returns c).In_ok-length in
    let d = c.read_dvi in
    let n = c.sheet_length-needed.ensures ∙ sheet_needed g a.count k e in
    completes g a.count k e a.dvi.now _ q a.widths.now w a.sheet.now (omega (arith, c.if-sheet-needed.false, n)) _ _ _ _
    n (written_part g a.count k e a.dvi.now _ q _ r.ensures.buffer_is) r.ensures.buffer_is d.ensures.buffer_is
