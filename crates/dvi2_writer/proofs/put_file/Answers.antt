-- `dvi2_writer::put_file` meets its contract: the pages, the postamble, and the bytes 223.
-- Assumes nothing.
use Rattle.dvi2_writer.proofs.Passes.{few, all_valid}
use Rattle.dvi2_writer.proofs.Results.{sized, to_small, file_is}
use Rattle.dvi2_writer.proofs.put_file.Goals as goal

pub put_postamble-to-requires : goal.put_postamble-to-requires
put_postamble-to-requires c = let w = c.put_pages-p.ensures in let g = c.args.galley in sized _ (few g) _ _ _ w.0 (all_valid g) w.1

pub put_fillers-requires : goal.put_fillers-requires
put_fillers-requires c =
    let w = c.put_pages-p.ensures in
    let g = c.args.galley in
    to_small _ (few g) _ _ _ w.0 (all_valid g) w.1 _ _ c.put_postamble-to.ensures

pub returns : goal.returns
returns c =
    let w = c.put_pages-p.ensures in
    let g = c.args.galley in
    file_is _ (few g) _ _ _ w.0 (all_valid g) w.1 _ _ c.put_postamble-to.ensures _ _ c.put_fillers.ensures
