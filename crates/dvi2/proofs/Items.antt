-- The bytes of valid items show them, one after the other: a character on its page, and a cut as the start of the next. A reader stands where the writing does.
-- Assumes nothing.
use mathlib.Core.Path.{◌≡◌, refl, ap}
use mathlib.Core.List.{List, [], ◌∷◌, ◌++◌}
use Prim.Native.Nat.{ℕ, suc, ◌<◌}
use native.Mathlib.Omega.{arith}
use borrow.Author.Tests.{le-leb}
use lib.IntN.{ℤ, pos, negsuc, ◌-ℤ◌, ◌*ℤ◌}
use lib.ListN.{length}
use lib.Signed.{◌≤ℤ◌}
use mir.Syntax.{w32}
use mir.Val.{SFits}
use Rattle.integers.specs.Parts.{integers, dif_parts, scale_parts}
use Rattle.octets.specs.Octets.{bytes, signed_bytes}
use Rattle.octets.specs.OctetsLaws.{signed_first, signed_bytes_pos}
use Rattle.measure.specs.Place.{height_end}
use Rattle.octets.specs.Transducer.{transduced}
use Rattle.galley_file.specs.declared.character.Character.{Character}
use Rattle.galley_file.specs.declared.item.Item.{Item}
use Rattle.galley_file.specs.declared.item.Item.TheVariants.{Placed, Cut}
use Rattle.galley_file.specs.CharacterLaws.{Valid, valid_parts, x_range, height_range}
use Rattle.galley_file.specs.Galley.{AllValid}
use Rattle.galley_file.specs.Galley as galley
use Rattle.sheet.specs.Sheet.{Mark, page_mark}
use Rattle.dvi.specs.Page.{Page, new_page}
use Rattle.extents.specs.FontMarks.{uses}
use Rattle.dvi.specs.Writer.{Position, start_position}
use Rattle.dvi.proofs.EditionLaws.{mark_at, marks_at}
use Rattle.dvi2.specs.Command.{BOP, EOP, first_layouts, layout_of, with_parameters, decode}
use Rattle.dvi2.specs.Page.{per_unit, between, inside, end_page, effect}
use Rattle.dvi2.specs.File.{go_on, after_effect, in_page, begin_page, between_pages, step}
use Rattle.dvi2.specs.Writer.{h_of, v_of, position_at, commands_of, bop_bytes, Writing, item_bytes, writing_after, items_bytes, writing_after_all}
use Rattle.dvi2.specs.WriterLaws.{Small, small_next}
use Rattle.dvi2.proofs.Runs.{Goes, goes_nil, goes_append, goes_step}
use Rattle.dvi2.proofs.Leads.{Stands, Reached, Leads, leads_append, position_in, position_x}
use Rattle.dvi2.proofs.FontPieces.{leads_font}
use Rattle.dvi2.proofs.Pieces.{leads_right, leads_down, leads_put}

-- where an x is shown
abbrev pub across : ℤ → ℤ
across x = per_unit *ℤ x

-- ---- a character

-- the position stands at the place of a valid character, or at a page's start
pub record OnPage (position : Position) : Type 0 where
  left : negsuc 54 ≤ℤ position.x
  right : position.x ≤ℤ pos 3239
  top : pos 0 ≤ℤ position.y
  bottom : position.y ≤ℤ pos 3000000

pub on_new : OnPage start_position
unfolding start_position
on_new = record { left = omega integers; right = omega integers; top = omega integers; bottom = omega integers }

pub on_at : (c : Character) → Valid height_end c → OnPage (position_at c)
unfolding position_at
on_at c v =
    let h = c.height.0 in
    let r = x_range v in
    let s = height_range v in
    record {
      left = r.0;
      right = r.1;
      top = omega (integers, s.0, scale_parts 3 h);
      bottom = omega (integers, s.0, s.1, scale_parts 3 h);
    }

-- moves between such places fit four bytes
x_small : (a b : ℤ) → negsuc 54 ≤ℤ a → a ≤ℤ pos 3239 → negsuc 54 ≤ℤ b → b ≤ℤ pos 3239 → SFits w32 (a -ℤ b)
x_small a b l r l' r' = omega (integers, dif_parts a b)

y_small : (a b : ℤ) → pos 0 ≤ℤ a → a ≤ℤ pos 3000000 → pos 0 ≤ℤ b → b ≤ℤ pos 3000000 → SFits w32 (a -ℤ b)
y_small a b l r l' r' = omega (integers, dif_parts a b)

three_times : (h : ℤ) → per_unit *ℤ (pos 3 *ℤ h) ≡ pos 3 *ℤ (pos 32768 *ℤ h)
three_times h =
    omega (integers, scale_parts 32768 (pos 3 *ℤ h), scale_parts 3 h, scale_parts 3 (pos 32768 *ℤ h), scale_parts 32768 h)

leads_character : (cs : List Character) (position : Position) (c : Character) → OnPage position → Valid height_end c
    → Leads cs position (commands_of (uses c.font cs) position c) (mark_at across c ∷ []) (cs ++ (c ∷ [])) (position_at c)
unfolding commands_of mark_at position_at
leads_character cs position c o v =
    rw (three_times c.height.0) at
    (leads_append (leads_font cs position c)
    (leads_append (leads_right (cs ++ (c ∷ [])) (position_in position c.font) (h_of c) (x_small (h_of c) position.x to.left to.right o.left o.right).sfits)
    (leads_append (leads_down (cs ++ (c ∷ [])) (position_x (position_in position c.font) (h_of c)) (v_of c) (y_small (v_of c) position.y to.top to.bottom o.top o.bottom).sfits)
    (leads_put (cs ++ (c ∷ [])) (position_at c) c.font c.code refl))))
  where
    to : OnPage (position_at c)
    to = on_at c v

-- ---- a page's start and end

pub begin_page_lem : (fs : List ℤ) (n : ℕ) (previous : ℤ) → n < 2147483648 → Goes (between fs) (bop_bytes n previous) (page_mark (pos n) ∷ []) (inside fs new_page)
unfolding step between_pages begin_page bop_bytes bytes signed_bytes
begin_page_lem fs n previous h =
    goes_step (between fs) (inside fs new_page) BOP (bytes 4 n ++ (bytes 36 0 ++ signed_bytes 4 previous)) (page_mark (pos n) ∷ []) stepped
  where
    stepped : (rest : List ℕ) → step (between fs) BOP ((bytes 4 n ++ (bytes 36 0 ++ signed_bytes 4 previous)) ++ rest) ≡ go_on (inside fs new_page) (page_mark (pos n) ∷ []) 44
    stepped rest =
        rw (le-leb 44 (length ((bytes 4 n ++ (bytes 36 0 ++ signed_bytes 4 previous)) ++ rest)) (omega arith))
        (ap (λ (z : ℤ). go_on (inside fs new_page) (page_mark z ∷ []) 44)
        (rw (signed_bytes_pos 4 n) at (signed_first 4 (pos n) ((bytes 36 0 ++ signed_bytes 4 previous) ++ rest) (record { half = omega arith }))))

pub end_page_lem : (fs : List ℤ) (p : Page) → p.stack ≡ [] → Goes (inside fs p) (EOP ∷ []) [] (between fs)
unfolding step in_page after_effect decode layout_of first_layouts with_parameters effect end_page
end_page_lem fs p e = goes_step (inside fs p) (between fs) EOP [] [] (λ rest. rw e)

-- ---- the items

reached_append : {fs : List ℤ} {p : Page} {bs bs' : List ℕ} {ms ns : List Mark} {cs ds : List Character} {mid to : Position} (r : Reached fs p bs ms cs mid) → Reached r.fonts r.page bs' ns ds to
    → Reached fs p (bs ++ bs') (ms ++ ns) ds to
reached_append r s = record { fonts = s.fonts; page = s.page; stands = s.stands; goes = goes_append r.goes s.goes }

stands_new : (cs : List Character) (position : Position) (fs : List ℤ) (p : Page) → Stands cs position fs p → Stands cs start_position fs new_page
unfolding start_position new_page
stands_new cs position fs p h = record { at_x = refl; at_y = refl; at_font = refl; at_stack = refl; used = h.used; current = λ f e. cc }

pub prints_items : (from : Writing) {is : List Item} → OnPage from.position → Small from (length is) → AllValid height_end is → (fs : List ℤ) (p : Page) → Stands from.behind from.position fs p
    → Reached fs p (items_bytes from is) (marks_at across from.page is) (writing_after_all from is).behind (writing_after_all from is).position
unfolding transduced item_bytes marks_at writing_after
prints_items from o s galley.nil fs p h = record { fonts = fs; page = p; stands = h; goes = goes_nil (inside fs p) }
prints_items from o s (galley.more {i = Placed c} {is = is} v vs) fs p h =
    let r = (leads_character from.behind from.position c o (valid_parts v)).lead fs p h in
    reached_append r (prints_items (writing_after from (Placed c)) (on_at c (valid_parts v)) (small_next from (Placed c) (length is) s) vs r.fonts r.page r.stands)
prints_items from o s (galley.more {i = Cut} {is = is} v vs) fs p h =
    reached_append
    (record {
      fonts = fs;
      page = new_page;
      stands = stands_new from.behind from.position fs p h;
      goes = goes_append (end_page_lem fs p h.at_stack) (begin_page_lem fs (suc from.page) (pos from.bop) (omega (arith, s.page_small)));
    })
    (prints_items (writing_after from Cut) on_new (small_next from Cut (length is) s) vs fs new_page (stands_new from.behind from.position fs p h))
