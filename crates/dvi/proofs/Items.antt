-- The bytes of valid items show them, one after the other: a character on its page, and a cut as the start of the next. A reader stands
-- where the writing does: the page at the position, and the last BOP at the writing's.
-- Assumes nothing.
use mathlib.Core.Path.{◌≡◌, refl}
use mathlib.Core.List.{List, [], ◌∷◌, ◌++◌}
use Prim.Native.Nat.{ℕ, suc, ◌+◌}
use native.Mathlib.Omega.{arith}
use borrow.Author.Tests.{le-leb}
use lib.IntN.{ℤ, pos}
use lib.ListN.{length}
use mir.Syntax.{w32}
use mir.Val.{SFits}
use Rattle.integers.specs.Parts.{integers}
use Rattle.integers.specs.Equality.{true_eq_z}
use Rattle.octets.specs.Octets.{bytes, signed_bytes}
use Rattle.octets.specs.OctetsLaws.{signed_first}
use Rattle.octets.specs.WordLaws.{holds_four}
use Rattle.measure.specs.Place.{low_end}
use Rattle.octets.specs.Transducer.{transduced}
use Rattle.galley_file.specs.declared.character.Character.{Character}
use Rattle.galley_file.specs.declared.item.Item.{Item}
use Rattle.galley_file.specs.declared.item.Item.TheVariants.{Placed, Cut}
use Rattle.galley_file.specs.CharacterLaws.{Valid, valid_parts}
use Rattle.galley_file.specs.Galley.{AllValid}
use Rattle.galley_file.specs.Galley as galley
use Rattle.dvi.specs.Command.{BOP, EOP, layouts, layout_of, with_parameters, decode}
use Rattle.sheet.specs.Sheet.{Mark, page_mark}
use Rattle.dvi.specs.Page.{Page, new_page, end_page, effect}
use Rattle.dvi.specs.File.{between, inside, go_on, after_effect, in_page, begin_page, step}
use Rattle.dvi.specs.Writer.{start_position, bop_bytes, Writing, item_bytes, writing_after, items_bytes, writing_after_all}
use Rattle.dvi.proofs.WriterLaws.{Small, small_next, writing_next}
use Rattle.dvi.specs.Demand3.{character_mark, marks_of}
use Rattle.dvi.proofs.Runs.{Goes, goes_nil, goes_append, goes_step}
use Rattle.dvi.proofs.Pieces.{Stands}
use Rattle.dvi.proofs.Characters.{OnPage, on_new, on_at, leads_character}

pub stands_new : Stands start_position new_page
unfolding start_position new_page
stands_new = record { at_x = refl; at_y = refl; at_font = refl; at_stack = refl }

-- from where the one writing stands, on this page, the bytes show ms and lead to where the other stands
pub record Prints (ws : List ℤ) (from : Writing) (p : Page) (bs : List ℕ) (ms : List Mark) (to : Writing) : Type 0 where
  pub page : Page
  pub stands : Stands to.position page
  pub goes : Goes ws from.at (inside (pos from.bop) p) bs ms (inside (pos to.bop) page)

module _ (ws : List ℤ) where
  -- ---- a page's start and end

  pub begin_page_lem : (at n : ℕ) (previous : ℤ) → SFits w32 (pos n) → SFits w32 previous
      → Goes ws at (between previous) (bop_bytes n previous) (page_mark (pos n) ∷ []) (inside (pos at) new_page)
  unfolding step begin_page bop_bytes signed_bytes bytes
  begin_page_lem at n previous fn fp =
      goes_step ws at (between previous) (inside (pos at) new_page) BOP (signed_bytes 4 (pos n) ++ signed_bytes 4 previous) (page_mark (pos n) ∷ []) stepped
    where
      stepped : (rest : List ℕ) → step ws at (between previous) BOP ((signed_bytes 4 (pos n) ++ signed_bytes 4 previous) ++ rest) ≡ go_on (inside (pos at) new_page) (page_mark (pos n) ∷ []) 8
      stepped rest =
          rw (le-leb 8 (length ((signed_bytes 4 (pos n) ++ signed_bytes 4 previous) ++ rest)) (omega arith))
          (rw (signed_first 4 previous rest (holds_four fp), true_eq_z previous previous (λ i. previous), signed_first 4 (pos n) (signed_bytes 4 previous ++ rest) (holds_four fn)))

  pub end_page_lem : (at : ℕ) (last : ℤ) (p : Page) → p.stack ≡ [] → Goes ws at (inside last p) (EOP ∷ []) [] (between last)
  unfolding step in_page after_effect decode layout_of layouts with_parameters effect end_page
  end_page_lem at last p e = goes_step ws at (inside last p) (between last) EOP [] [] (λ rest. rw e)

  -- ---- the items

  prints_append : {from mid to : Writing} {p : Page} {bs cs : List ℕ} {ms ns : List Mark} (r : Prints ws from p bs ms mid) → mid.at ≡ from.at + length bs
      → Prints ws mid r.page cs ns to → Prints ws from p (bs ++ cs) (ms ++ ns) to
  prints_append {from} r e s = record { page = s.page; stands = s.stands; goes = goes_append ws from.at r.goes (rw (← e) s.goes) }

  prints_character : (from : Writing) (c : Character) (p : Page) → OnPage from.position → Valid low_end c → Stands from.position p
      → Prints ws from p (item_bytes from (Placed c)) (character_mark c ∷ []) (writing_after from (Placed c))
  unfolding item_bytes writing_after
  prints_character from c p o v h =
      let r = (leads_character ws (pos from.bop) from.position c o v).lead p h in
      record { page = r.page; stands = r.stands; goes = r.goes from.at }

  prints_cut : (from : Writing) (n : ℕ) (p : Page) → Small from (suc n) → Stands from.position p
      → Prints ws from p (item_bytes from Cut) (page_mark (pos (suc from.page)) ∷ []) (writing_after from Cut)
  unfolding item_bytes writing_after
  prints_cut from n p s h =
      record {
        page = new_page;
        stands = stands_new;
        goes = goes_append ws from.at (end_page_lem from.at (pos from.bop) p h.at_stack)
            (begin_page_lem (from.at + 1) (suc from.page) (pos from.bop) (omega (integers, s.page_small)) (omega (integers, s.bop_before, s.at_small)));
      }

  pub prints_items : (from : Writing) {is : List Item} → OnPage from.position → Small from (length is) → AllValid low_end is → (p : Page) → Stands from.position p
      → Prints ws from p (items_bytes from is) (marks_of from.page is) (writing_after_all from is)
  unfolding transduced marks_of writing_after
  prints_items from o s galley.nil p h = record { page = p; stands = h; goes = goes_nil ws from.at (inside (pos from.bop) p) }
  prints_items from o s (galley.more {i = Placed c} {is = is} v vs) p h =
      let r = prints_character from c p o (valid_parts v) h in
      prints_append r (writing_next from (Placed c))
      (prints_items (writing_after from (Placed c)) (on_at c (valid_parts v)) (small_next from (Placed c) (length is) s) vs r.page r.stands)
  prints_items from o s (galley.more {i = Cut} {is = is} v vs) p h =
      let r = prints_cut from (length is) p s h in
      prints_append r (writing_next from Cut) (prints_items (writing_after from Cut) on_new (small_next from Cut (length is) s) vs r.page r.stands)
