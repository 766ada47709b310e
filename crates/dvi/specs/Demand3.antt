-- The edition of 1980, for demand 3 (`Edition` states it; document 01, "Demand 3 in these terms"; document 02, "Software cuts" and "Longer columns"). Places are
-- in rsu, but for what `Edition` speaks of.
--     in_thirds           a mark with its places in thirds of an rsu
--     shown_in_thirds      what a file shows, with such places
--     character_mark             the mark that shows a character
--     marks_of            the marks that show a list of items, from a page on
--     dvi1980            the edition, with a table of widths
use Rattle.std.specs.Prelude.{ℕ, suc, List, [], ◌∷◌, map, ℤ, pos, ◌*ℤ◌}
use Rattle.std.proofs.Math.Option.{Option, none, some}
use Rattle.octets.specs.Answer.{no_sheet_room}
use Rattle.measure.specs.Place.{low_end}
use Rattle.measure.specs.Target.{x_target, y_target}
use Rattle.galley_file.specs.declared.character.Character.{Character}
use Rattle.galley_file.specs.declared.item.Item.{Item}
use Rattle.galley_file.specs.declared.item.Item.TheVariants.{Placed, Cut}
use Rattle.sheet.specs.Sheet.{Mark, page_mark, char_mark, rule_mark}
use Rattle.sheet.specs.Shown.{Shown, refused_at, shows}
use Rattle.sheet.specs.Readable.{max_file}
use Rattle.dvi.specs.File.{read_dvi}
use Rattle.sheet.specs.Sheet.{sheet}
use Rattle.dvi.specs.Sheet.{sheet_result}
use Rattle.dvi.specs.Writer.{dvi_file}
use Rattle.dvi.specs.Edition.{Edition}

-- ---- the edition

-- "three times the x shown", and so all lengths
unfoldable pub in_thirds : Mark → Mark
in_thirds (page_mark n) = page_mark n
in_thirds (char_mark x y f c) = char_mark (pos 3 *ℤ x) (pos 3 *ℤ y) f c
in_thirds (rule_mark kind x y h w) = rule_mark kind (pos 3 *ℤ x) (pos 3 *ℤ y) (pos 3 *ℤ h) (pos 3 *ℤ w)

unfoldable pub shown_in_thirds : Shown → Option (List Mark)
shown_in_thirds (refused_at number place) = none
shown_in_thirds (shows ms) = some (map in_thirds ms)

unfoldable pub character_mark : Character → Mark
character_mark c = char_mark (x_target c.x.0) (y_target c.height.0) (pos c.font) c.code

unfoldable pub marks_of : ℕ → List Item → List Mark
marks_of n [] = []
marks_of n (Placed c ∷ is) = character_mark c ∷ marks_of n is
marks_of n (Cut ∷ is) = page_mark (pos (suc n)) ∷ marks_of (suc n) is

-- the sheet "is the page field, then these characters' fields in that order, then end", a cut "with its page field"; the distance "is -1, 0 or 1"; "over heights at most 65,535"
abbrev pub dvi1980 : List ℤ → Edition
dvi1980 widths =
    record {
      file = dvi_file;
      show = λ dvi. shown_in_thirds (read_dvi widths dvi);
      distance = 1;
      greatest = low_end;
      longest = max_file;
      read = λ dvi room. sheet_result dvi widths room;
      no_room = no_sheet_room;
      reply = λ is. sheet (page_mark (pos 1) ∷ marks_of 1 is);
    }
