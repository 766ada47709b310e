-- `dvi_writer::put_file` meets its contract: the pages, and the postamble of their extents.
-- Assumes nothing.
use native.Mathlib.Omega.{arith}
use Rattle.octets.specs.Write.{length_wrote}
use Rattle.dvi.specs.Writer.{first_writing}
use Rattle.dvi.proofs.WriterLaws.{items_bytes_most, length_pages, length_file}
use Rattle.galley_file.specs.declared.form.Form.TheVariants.{New}
use Rattle.galley_file.specs.Galley.{items_of}
use Rattle.dvi_writer.proofs.Galleys.{few, all_low}
use Rattle.dvi_writer.proofs.Results.{holds, pst_is, post_room, file_is}
use Rattle.dvi_writer.proofs.put_file.Goals as goal

pub put_pages-p-requires : goal.put_pages-p-requires
put_pages-p-requires c =
    let is = items_of New c.args.galley.bytes.now in
    omega (arith, c.requires.1, length_pages is, length_file is)

pub put_postamble-requires : goal.put_postamble-requires
put_postamble-requires c =
    let is = items_of New c.args.galley.bytes.now in
    let v = all_low c.args.galley in
    let p = c.put_pages-p.ensures in (
      holds _ is v c.requires.0,
      (
        omega (arith, c.requires.1, post_room _ is v c.requires.0 _ _ _ _ p.0 p.1, length_wrote p.0),
        omega (arith, pst_is _ is v c.requires.0 _ _ _ _ p.0 p.1, length_pages is, items_bytes_most first_writing is, few c.args.galley),
      ),
    )

pub returns : goal.returns
returns c =
    let p = c.put_pages-p.ensures in
    file_is _ _ (all_low c.args.galley) c.requires.0 _ _ _ _ p.0 p.1 _ _ c.put_postamble.ensures
