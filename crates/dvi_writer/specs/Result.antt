-- What writing a galley's DVI file gives (document 01, "Numbers given back"; document 02, "Longer columns").
--     dvi_result     the result of a call, by the room
use Rattle.std.specs.Prelude.{ℕ, List}
use Rattle.octets.specs.Answer.{Result, if_room, no_dvi_room}
use Rattle.galley_check.specs.Low.{low_result}
use Rattle.dvi.specs.Writer.{dvi_file}

-- 40, 41 and 43, else the file of the items; 42 last
unfoldable pub dvi_result : List ℕ → ℕ → Result
dvi_result galley room = if_room no_dvi_room room (low_result dvi_file galley)
