-- What the writer's file shows: BOP, the items, EOP, and the postamble ends it.
-- Assumes nothing.
use mathlib.Core.Path.{◌≡◌, ap, ◌∙◌}
use mathlib.Core.List.{List, [], ◌∷◌, append-nil}
use Prim.Native.Nat.{ℕ, ◌+◌, ◌≤◌, ◌<◌}
use native.Mathlib.Nat.{zero-add}
use native.Mathlib.Omega.{arith}
use lib.IntN.{ℤ, pos, negsuc}
use lib.ListN.{length}
use Rattle.integers.specs.Parts.{integers}
use Rattle.octets.specs.Octets.{bytes, signed_bytes}
use Rattle.measure.specs.Place.{low_end}
use Rattle.galley_file.specs.declared.character.Character.{Character}
use Rattle.galley_file.specs.declared.item.Item.{Item}
use Rattle.galley_file.specs.Item.{characters_of}
use Rattle.galley_file.specs.Galley.{max_items, AllValid}
use Rattle.sheet.specs.Sheet.{page_mark}
use Rattle.dvi.specs.Page.{new_page}
use Rattle.sheet.specs.Shown.{shows, shows_first}
use Rattle.dvi.specs.File.{between, end_file, step, follow, run_as, run, read_as, read_dvi}
use Rattle.dvi.specs.Writer.{bop_bytes, first_writing, items_bytes, writing_after_all, pages_bytes, postamble_bytes, dvi_file}
use Rattle.dvi.proofs.WriterLaws.{items_bytes_most, Small, small_first, writing_small, length_pages}
use Rattle.dvi.specs.Demand3.{marks_of}
use Rattle.dvi.proofs.Runs.{Goes, goes_append}
use Rattle.dvi.proofs.Characters.{on_new}
use Rattle.dvi.proofs.Items.{stands_new, Prints, begin_page_lem, end_page_lem, prints_items}
use Rattle.dvi.proofs.Postambles.{postamble_right}

module _ (ws : List ℤ) where
  pages_go : {is : List Item} → AllValid low_end is → length is ≤ max_items
      → Goes ws 0 (between (negsuc 0)) (pages_bytes is) (page_mark (pos 1) ∷ marks_of 1 is) (between (pos (writing_after_all first_writing is).bop))
  unfolding pages_bytes bop_bytes signed_bytes bytes first_writing
  pages_go {is} v h = whole (prints_items ws first_writing on_new (small_first (length is) h) v new_page stands_new)
    where
      whole : Prints ws first_writing new_page (items_bytes first_writing is) (marks_of 1 is) (writing_after_all first_writing is)
          → Goes ws 0 (between (negsuc 0)) (pages_bytes is) (page_mark (pos 1) ∷ marks_of 1 is) (between (pos (writing_after_all first_writing is).bop))
      whole r =
          rw append-nil at
          (goes_append ws 0 (begin_page_lem ws 0 1 (negsuc 0) (omega integers) (omega integers))
          (goes_append ws 9 r.goes (end_page_lem ws (9 + length (items_bytes first_writing is)) (pos (writing_after_all first_writing is).bop) r.page r.stands.at_stack)))

  -- PST at offset `at`
  end_file_lem : (at last : ℕ) (cs : List Character) → last < 2147483648 → at < 2147483648 → run ws at (between (pos last)) 0 (postamble_bytes last at cs) ≡ shows []
  unfolding run_as step end_file follow postamble_bytes
  end_file_lem at last cs h k = rw (postamble_right at last cs h k)

  pub file_shows : {is : List Item} → AllValid low_end is → length is ≤ max_items → read_dvi ws (dvi_file is) ≡ shows (page_mark (pos 1) ∷ marks_of 1 is)
  unfolding read_as dvi_file shows_first
  file_shows {is} v h =
      (pages_go v h).goes (postamble_bytes last n (characters_of is))
      ∙ ap (shows_first (page_mark (pos 1) ∷ marks_of 1 is))
      (ap (λ (at : ℕ). run ws at (between (pos last)) 0 (postamble_bytes last n (characters_of is))) (zero-add n)
      ∙ end_file_lem n last (characters_of is) (omega (arith, s.bop_before, s.at_small)) (omega (arith, length_pages is, items_bytes_most first_writing is)))
      ∙ ap shows (append-nil (page_mark (pos 1) ∷ marks_of 1 is))
    where
      n : ℕ
      n = length (pages_bytes is)

      last : ℕ
      last = (writing_after_all first_writing is).bop

      s : Small (writing_after_all first_writing is) 0
      s = writing_small is 0 (omega arith)
