-- Inside a page the commands of a font keep `PageReached`.
--     after_defining      a definition
--     after_selecting     a selection
-- Assumes nothing.
use Rattle.std.specs.Prelude.{◌≡◌, refl, true, ◌&&◌, ℕ, ◌<◌, ltb, length}
use Rattle.std.proofs.Common.{sym, subst, ◌∙◌, suc-ne-zero}
use Rattle.std.proofs.Math.Path.{ap}
use Rattle.std.proofs.Math.Bool.{false, not}
use mathlib.Core.List.{List, ◌++◌}
use Rattle.std.proofs.Math.Option.{Option, none, some}
use borrow.Author.Tests.{ltb-true, eqb-true, not-true}
use Rattle.octets.specs.FieldLaws.{both}
use Rattle.galley_file.specs.Item.{characters_of}
use Rattle.galley_file.specs.Galley.{max_items}
use Rattle.extents.specs.FontMarks.{uses}
use Rattle.dvi.specs.Writer.{Position}
use Rattle.dvi2.specs.Writer.{selects, definition, font_change, Writing}
use Rattle.dvi2_reading.specs.PageReading.{defining, selecting, in_bytes, Stage, ready, named, chosen, moved, lowered, PageState, is_ready, is_more, is_font, may_choose, may_come}
use Rattle.dvi2_reading.specs.Reading.{with_font, page_state_after}
use Rattle.dvi2_reading.specs.Reached.{writing_of, open_bytes, Staged, PageReached, Reached}
use Rattle.dvi2_reading.proofs.PieceLaws.{more_bytes, behind_is, change_new, change_used, used_small}
use Rattle.dvi2_reading.proofs.WayLaws.{way_here, staged_ready}

module _ (h : PageState) (bs : List ℕ) (k : PageReached h bs) where
  pub after_defining : (f : ℕ) → may_come h (defining f) ≡ true → Reached (page_state_after h (defining f)) (bs ++ in_bytes (defining f))
  unfolding may_come page_state_after in_bytes with_font
  after_defining f e =
      let b₁ = both (is_more h.items) (is_ready h.stage && (ltb f 120 && not (uses f (characters_of h.items)))) e in
      let b₂ = both (is_ready h.stage) (ltb f 120 && not (uses f (characters_of h.items))) b₁.1 in
      let b₃ = both (ltb f 120) (not (uses f (characters_of h.items))) b₂.1 in
      let a = staged_ready h.items h.position k.rest h.stage b₂.0 k.staged in
      let u : uses f (writing_of h.items).behind ≡ false = ap (uses f) (behind_is h.items) ∙ not-true (uses f (characters_of h.items)) b₃.1 in
      let o_is : h.position.font ≡ (writing_of h.items).position.font = ap (λ (p : Position). p.font) a.position_is in
      record {
        writable = k.writable;
        x_between = k.x_between;
        y_down = k.y_down;
        rest = k.rest ++ definition f;
        bytes_are = more_bytes bs (open_bytes h.items) k.rest (definition f) k.bytes_are;
        staged =
            record {
              font = f;
              small = ltb-true f 120 b₃.0;
              more = ltb-true (length h.items) max_items b₁.0;
              position_is = ap (λ (p : Position). with_font p f) a.position_is;
              rest_is = ap (λ (l : List ℕ). l ++ definition f) a.rest_is;
              change =
                  change_new (writing_of h.items).behind (writing_of h.items).position.font f u
                  (λ g q. ap (uses g) (behind_is h.items) ∙ (a.fonts g (o_is ∙ q)).1);
            };
      }

  pub after_selecting : (f : ℕ) → may_come h (selecting f) ≡ true → Reached (page_state_after h (selecting f)) (bs ++ in_bytes (selecting f))
  unfolding may_come page_state_after in_bytes with_font
  after_selecting f e =
      let b = both (is_more h.items) (may_choose h.stage (characters_of h.items) h.position.font f) e in
      go h.stage k.staged b.0 b.1
    where
      P : Writing
      P = writing_of h.items

      made : is_more h.items ≡ true → f < 120 → h.position.x ≡ P.position.x → h.position.y ≡ P.position.y → k.rest ++ selects f ≡ font_change (uses f P.behind) P.position.font f
          → PageReached (record { items = h.items; stage = chosen; position = with_font h.position f }) (bs ++ selects f)
      made m s x_is y_is w =
          record {
            writable = k.writable;
            x_between = k.x_between;
            y_down = k.y_down;
            rest = k.rest ++ selects f;
            bytes_are = more_bytes bs (open_bytes h.items) k.rest (selects f) k.bytes_are;
            staged =
                record {
                  way = record { font = f; font_is = refl; small = s; rest_is = w ∙ sym (way_here P f (with_font h.position f) x_is y_is) };
                  more = ltb-true (length h.items) max_items m;
                  x_is = x_is;
                  y_is = y_is;
                };
          }

      go : (s : Stage) → Staged s h.items h.position k.rest → is_more h.items ≡ true → may_choose s (characters_of h.items) h.position.font f ≡ true
          → PageReached (record { items = h.items; stage = chosen; position = with_font h.position f }) (bs ++ selects f)
      go ready a m c =
          let b = both (uses f (characters_of h.items)) (not (is_font h.position.font f)) c in
          let n : is_font P.position.font f ≡ false = ap (λ (p : Position). is_font p.font f) (sym a.position_is) ∙ not-true (is_font h.position.font f) b.1 in
          made m (used_small f h.items k.writable.all_valid b.0) (ap (λ (p : Position). p.x) a.position_is) (ap (λ (p : Position). p.y) a.position_is)
          (ap (λ (l : List ℕ). l ++ selects f) a.rest_is
          ∙ sym (change_used P.behind P.position.font f (ap (uses f) (behind_is h.items) ∙ b.0) n))
      go named a m c =
          let q : f ≡ a.font = same_font h.position.font (ap (λ (p : Position). p.font) a.position_is) c in
          made m (subst (λ (g : ℕ). g < 120) (sym q) a.small) (ap (λ (p : Position). p.x) a.position_is) (ap (λ (p : Position). p.y) a.position_is)
          (ap (λ (l : List ℕ). l ++ selects f) a.rest_is
          ∙ subst (λ (g : ℕ). definition a.font ++ selects g ≡ font_change (uses g P.behind) P.position.font g) (sym q) (sym a.change))
        where
          same_font : (o : Option ℕ) → o ≡ some a.font → is_font o f ≡ true → f ≡ a.font
          same_font none e t = absurd (suc-ne-zero 0 cc)
          same_font (some g) e t = sym (eqb-true g f t) ∙ cc
      go chosen a m c = absurd (suc-ne-zero 0 cc)
      go moved a m c = absurd (suc-ne-zero 0 cc)
      go lowered a m c = absurd (suc-ne-zero 0 cc)
