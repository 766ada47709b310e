-- What the file of a list of items shows: the preamble, bop, the items, eop, and post.
--     file_shows     its marks
--     exact          each x is shown at its place
-- Assumes nothing.
use mathlib.Core.Path.{◌≡◌, refl, ap, ◌∙◌}
use mathlib.Core.List.{List, [], ◌∷◌, ◌++◌, append_assoc, append-nil}
use mathlib.Core.Option.{some}
use Prim.Native.Nat.{ℕ, ◌≤◌}
use native.Mathlib.Omega.{arith}
use borrow.Author.Tests.{le-leb}
use lib.IntN.{ℤ, pos, negsuc, nat_abs, ◌-ℤ◌, ◌*ℤ◌}
use lib.ListN.{length}
use Rattle.integers.specs.Parts.{dif_parts, abs_le_lem}
use Rattle.measure.specs.Place.{height_end}
use Rattle.octets.specs.Octets.{number_from, bytes}
use Rattle.galley_file.specs.declared.character.Character.{Character}
use Rattle.galley_file.specs.declared.item.Item.{Item}
use Rattle.galley_file.specs.Item.{characters_of}
use Rattle.galley_file.specs.Galley.{max_items, AllValid}
use Rattle.sheet.specs.Sheet.{Mark, page_mark}
use Rattle.dvi.specs.Page.{new_page}
use Rattle.extents.specs.FontMarks.{uses}
use Rattle.dvi.specs.Writer.{start_position}
use Rattle.dvi.proofs.EditionLaws.{marks_at}
use Rattle.dvi2.specs.Command.{EOP}
use Rattle.dvi2.specs.Page.{between}
use Rattle.dvi2.specs.File.{is_unit, preamble, between_pages, step, shows_first, follow, run, show_dvi2}
use Rattle.dvi2.specs.Writer.{unit_bytes, preamble_bytes, bop_bytes, first_writing, items_bytes, writing_after_all, pages_bytes, post_bytes, postamble_bytes, command_bytes, fillers, bytes223, dvi2_file}
use Rattle.dvi2.specs.WriterLaws.{small_first}
use Rattle.dvi2.proofs.Runs.{goes_append}
use Rattle.dvi2.proofs.Leads.{Stands, Reached}
use Rattle.dvi2.proofs.Items.{across, on_new, begin_page_lem, end_page_lem, prints_items}

stands_first : Stands [] start_position [] new_page
unfolding start_position new_page uses
stands_first = record { at_x = refl; at_y = refl; at_font = refl; at_stack = refl; used = λ f e. cc; current = λ f e. cc }

-- the preamble is one, and is passed over
shows_after : (rest : List ℕ) → show_dvi2 (preamble_bytes ++ rest) ≡ run (between []) 0 rest
unfolding show_dvi2 preamble is_unit preamble_bytes unit_bytes bytes number_from run
shows_after rest = rw (le-leb 15 (length (preamble_bytes ++ rest)) (omega arith))

-- post ends the pages
shows_post : (fs : List ℤ) (last pages post : ℕ) (cs : List Character) (rest : List ℕ) → run (between fs) 0 (postamble_bytes last pages post cs ++ rest) ≡ some []
unfolding run step between_pages follow postamble_bytes post_bytes
shows_post fs last pages post cs rest = refl

-- the first page's bop, the items, and the last page's eop
shows_pages : {is : List Item} → AllValid height_end is → length is ≤ max_items → (rest : List ℕ) → ((fs : List ℤ) → run (between fs) 0 rest ≡ some [])
    → run (between []) 0 ((bop_bytes 1 (negsuc 0) ++ (items_bytes first_writing is ++ (EOP ∷ []))) ++ rest) ≡ some (page_mark (pos 1) ∷ marks_at across 1 is)
unfolding first_writing shows_first
shows_pages {is} v h rest e = whole (prints_items first_writing on_new (small_first (length is) h) v [] new_page stands_first)
  where
    whole : Reached [] new_page (items_bytes first_writing is) (marks_at across 1 is) (writing_after_all first_writing is).behind (writing_after_all first_writing is).position
        → run (between []) 0 ((bop_bytes 1 (negsuc 0) ++ (items_bytes first_writing is ++ (EOP ∷ []))) ++ rest) ≡ some (page_mark (pos 1) ∷ marks_at across 1 is)
    whole r =
        (goes_append (begin_page_lem [] 1 (negsuc 0) (omega arith)) (goes_append r.goes (end_page_lem r.fonts r.page r.stands.at_stack))).goes rest
        ∙ ap (shows_first (page_mark (pos 1) ∷ (marks_at across 1 is ++ []))) (e r.fonts)
        ∙ ap (λ (ms : List Mark). some (page_mark (pos 1) ∷ ms)) (append-nil (marks_at across 1 is ++ []) ∙ append-nil (marks_at across 1 is))

pub file_shows : {is : List Item} → AllValid height_end is → length is ≤ max_items → show_dvi2 (dvi2_file is) ≡ some (page_mark (pos 1) ∷ marks_at across 1 is)
unfolding dvi2_file command_bytes pages_bytes
file_shows {is} v h =
    rw (append_assoc (pages_bytes is) post end, append_assoc preamble_bytes pages (post ++ end))
    (shows_after (pages ++ (post ++ end))
    ∙ shows_pages v h (post ++ end) (λ fs. shows_post fs _ _ _ _ end))
  where
    pages : List ℕ
    pages = bop_bytes 1 (negsuc 0) ++ (items_bytes first_writing is ++ (EOP ∷ []))

    post : List ℕ
    post = postamble_bytes (writing_after_all first_writing is).bop (writing_after_all first_writing is).page (length (pages_bytes is)) (characters_of is)

    end : List ℕ
    end = bytes223 (fillers (length (command_bytes is)))

-- 32,768 thirds of an rsu to a unit, and so exactly the place
pub exact : (x : ℤ) → nat_abs (across x -ℤ pos 32768 *ℤ x) ≤ 0
exact x = abs_le_lem (across x -ℤ pos 32768 *ℤ x) (omega (arith, dif_parts (across x) (pos 32768 *ℤ x)))
