-- What a standing tells: where it is, and of the state.
-- Assumes nothing.
use mathlib.Core.Path.{◌≡◌, sym, ap, ◌∙◌}
use mathlib.Core.Bool.{true}
use mathlib.Core.List.{List, [], ◌∷◌, ◌++◌, foldl-append}
use mathlib.Core.Option.{Option, some, get_or}
use Prim.Native.Nat.{ℕ, ◌%◌, ◌<◌}
use native.Mathlib.Nat.{suc-ne-zero}
use native.Mathlib.Omega.{arith}
use borrow.Author.Tests.{leb-true}
use lib.Dec.{eqb, leb}
use lib.IntN.{ℤ, pos, negsuc, ◌*ℤ◌}
use lib.ListN.{length, length-append}
use lib.Seq.{length-take-le}
use lib.Signed.{◌≤ℤ◌}
use Rattle.integers.specs.Parts.{integers, scale_parts}
use Rattle.octets.specs.FieldLaws.{both}
use Rattle.octets.specs.Octets.{bytes, signed_bytes}
use Rattle.galley_file.specs.declared.character.Character.{Character}
use Rattle.galley_file.specs.declared.item.Item.{Item}
use Rattle.galley_file.specs.declared.item.Item.TheVariants.{Placed, Cut}
use Rattle.galley_file.specs.Item.{valid_item}
use Rattle.galley_file.specs.Galley.{AllValid, more}
use Rattle.dvi.specs.Writer.{Position}
use Rattle.dvi2.specs.Writer.{position_at, unit_bytes, preamble_bytes, bop_bytes, Writing, first_writing, writing_after, pages_bytes}
use Rattle.dvi2.specs.WriterLaws.{writing_at, length_pages}
use Rattle.dvi.specs.FontOrNone.{font_or_none, font_is}
use Rattle.dvi2_reading.specs.PageReading.{Stage, ready, named, chosen, moved, lowered, is_downward, lowest}
use Rattle.dvi2_reading.specs.Reading.{with_font, first_bop, height_of, character_of, in_page, between}
use Rattle.dvi2_reading.specs.Reached.{writing_of, open_bytes, Staged}
use Rattle.dvi2_reading.specs.Standing.{Standing}
use Rattle.dvi2_state.specs.declared.page_state.PageState.{PageState}
use Rattle.dvi2_state.specs.Page.{stage_of, page_state_of, page_position, SoundPage}

length_open : (is : List Item) → length (open_bytes is) ≡ (writing_of is).at
unfolding open_bytes preamble_bytes first_bop unit_bytes bop_bytes bytes signed_bytes first_writing
length_open is = omega (arith, writing_at first_writing is)

-- before a character, after whole items
pub ready_place : (s : List ℕ) (is : List Item) (position : Position) (at : ℕ) → Standing s (in_page (record { items = is; stage = ready; position = position })) at → at ≡ (writing_of is).at
ready_place s is position at k =
    let h = k.reached in
    omega (arith, ap length h.bytes_are, length-append (open_bytes is) h.rest, ap length h.staged.rest_is, length-take-le at s k.inside, length_open is)

pub between_place : (s : List ℕ) (is : List Item) (at : ℕ) → Standing s (between is) at → at ≡ length (pages_bytes is)
between_place s is at k = omega (arith, ap length k.reached.bytes_are, length-take-le at s k.inside)

-- from eop to the end of the next bop
pub cut_after : (s : List ℕ) (is : List Item) (at to : ℕ) → Standing s (between is) at → to ≡ (writing_of (is ++ (Cut ∷ []))).at → at < to
unfolding writing_after first_writing
cut_after s is at to k e =
    let p = ap (λ (w : Writing). w.at) (foldl-append writing_after first_writing is (Cut ∷ [])) in
    omega (arith, between_place s is at k, length_pages is, writing_at first_writing is, e, p)

-- the font of a character that was put
pub put_font : (s : List ℕ) (is : List Item) (c : Character) (position : Position) (at : ℕ) → Standing s (in_page (record { items = is ++ (Placed c ∷ []); stage = ready; position = position })) at → position.font ≡ some c.font
unfolding writing_after position_at
put_font s is c position at k = ap (λ (p : Position). p.font) (k.reached.staged.position_is ∙ ap (λ (w : Writing). w.position) (foldl-append writing_after first_writing is (Placed c ∷ [])))

-- ---- the state of a page

same_font : (f g : ℕ) → some f ≡ some g → f ≡ g
same_font f g e = cc

staged_font : (st : Stage) (is : List Item) (position : Position) (rest : List ℕ) → Staged st is position rest → (f : ℕ) → position.font ≡ some f → f < 120
unfolding with_font
staged_font ready is position rest a f e = (a.fonts f e).0
staged_font named is position rest a f e =
    let q = same_font f a.font (sym e ∙ ap (λ (p : Position). p.font) a.position_is) in
    omega (arith, a.small)
staged_font chosen is position rest a f e = let q = same_font f a.way.font (sym e ∙ a.way.font_is) in omega (arith, a.way.small)
staged_font moved is position rest a f e = let q = same_font f a.way.font (sym e ∙ a.way.font_is) in omega (arith, a.way.small)
staged_font lowered is position rest a f e = let q = same_font f a.way.font (sym e ∙ a.way.font_is) in omega (arith, a.way.small)

down_between : (y : ℤ) → is_downward y ≡ true → (pos 0 ≤ℤ y) × (y ≤ℤ pos lowest)
unfolding is_downward
down_between (pos n) e = let b = both (eqb (n % 3) 0) (leb n lowest) e in let l = leb-true n lowest b.1 in (omega integers, omega integers)
down_between (negsuc n) e = absurd (suc-ne-zero 0 cc)

module _ (s : List ℕ) (is : List Item) (h : PageState) (at : ℕ) (k : Standing s (in_page (page_state_of is h)) at) where
  pub is_down : is_downward (page_position h).y ≡ true
  is_down = k.reached.y_down

  pub sound : SoundPage h
  sound =
      let x = k.reached.x_between in
      let y = down_between (page_position h).y is_down in
      record {
        on_page = record { left = x.0; right = x.1; top = y.0; bottom = y.1 };
        font_valid = λ f e. staged_font (stage_of h.stage) is (page_position h) k.reached.rest k.reached.staged f e;
      }

-- ---- the character that is put

height_is : (h : ℤ) → is_downward (pos 3 *ℤ h) ≡ true → h ≡ height_of (pos 3 *ℤ h)
unfolding height_of
height_is (pos n) e = ap pos (omega arith)
height_is (negsuc n) e = let b = down_between (pos 3 *ℤ negsuc n) e in absurd (omega (integers, b.0, scale_parts 3 (negsuc n)))

pub character_is : (h : PageState) (code f : ℕ) → is_downward (page_position h).y ≡ true → font_or_none h.font ≡ some f
    → ◌≡◌ {A = Character} (record { x = h.x; height = h.height; font = h.font; code = code }) (character_of (page_position h) code)
unfolding character_of
character_is h code f d e =
    let n : h.font ≡ get_or (font_or_none h.font) 0 = font_is h.font f e ∙ sym (ap (λ (o : Option ℕ). get_or o 0) e) in
    (λ i. record { x = h.x; height = record { 0 = height_is h.height.0 d i }; font = n i; code = code })

-- ---- the items

pub last_valid : {top : ℤ} (is : List Item) (i : Item) → AllValid top (is ++ (i ∷ [])) → valid_item top i ≡ true
last_valid [] i (more v vs) = v
last_valid (j ∷ is) i (more v vs) = last_valid is i vs
