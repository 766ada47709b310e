-- What writing a galley's DVI file of identification 2 gives (document 02, "The second edition of DVI": "40, 41 and 42 as before").
use Rattle.std.specs.Prelude.{ℕ, List}
use Rattle.octets.specs.Answer.{Result, written, if_room, no_dvi_room}
use Rattle.galley_file.specs.declared.form.Form.TheVariants.{New}
use Rattle.galley_check.specs.Result.{checked_result}
use Rattle.dvi2.specs.Writer.{dvi2_file}

-- 40 and 41, else the file of the items; 42 last
unfoldable pub dvi2_result : List ℕ → ℕ → Result
dvi2_result galley room = if_room no_dvi_room room (checked_result New (λ is. written (dvi2_file is)) galley)
