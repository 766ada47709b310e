-- The writing from item to item: what it knows of the items behind it, with one more.
-- Assumes nothing.
use mathlib.Core.Path.{◌≡◌, refl, sym, ap, subst, ◌∙◌}
use mathlib.Core.Bool.{true}
use mathlib.Core.List.{List, [], ◌∷◌, ◌++◌, append-nil, foldl-append}
use Prim.Native.Nat.{ℕ, suc, ◌+◌, ◌<◌}
use native.Mathlib.Omega.{arith}
use lib.ListN.{length}
use Rattle.measure.specs.Place.{height_end}
use Rattle.galley_file.specs.declared.character.Character.{Character}
use Rattle.galley_file.specs.declared.item.Item.{Item}
use Rattle.galley_file.specs.declared.item.Item.TheVariants.{Placed, Cut}
use Rattle.galley_file.specs.Item.{characters_of}
use Rattle.galley_file.specs.ItemLaws.{characters_append}
use Rattle.galley_file.specs.Character.{valid}
use Rattle.galley_file.specs.CharacterLaws.{valid_parts}
use Rattle.extents.specs.FontMarks.{is_marked, uses}
use Rattle.extents.proofs.FontMarksLaws.{marked_used}
use Rattle.extents.specs.declared.Extents.{Extents}
use Rattle.extents.specs.Extents.{ExtentsAre, no_extents}
use Rattle.dvi.specs.Writer.{start_position}
use Rattle.extents.proofs.ExtentsLaws.{extents_none, extents_more}
use Rattle.dvi2.specs.Writer.{commands_of, Writing as W, first_writing, item_bytes, writing_after, writing_after_all}
use Rattle.dvi2.specs.WriterLaws.{writing_next, writing_behind}
use Rattle.dvi2_writer.specs.declared.writing.Writing.{Writing}
use Rattle.dvi2_commands.specs.Position.{position_of, PositionIs}
use Rattle.dvi2_writer.specs.Writing.{WritingIs, Advanced}

-- ---- after the first bop

pub writing_first : (p : Writing) → PositionIs p.position start_position → p.extents ≡ no_extents → p.page ≡ 1 → p.bop ≡ 15 → p.at ≡ 60 → WritingIs p []
unfolding first_writing characters_of
writing_first p n e g b a =
    record {
      tallied = record { extents_are = subst (λ (x : Extents). ExtentsAre x []) (sym e) extents_none; page_is = g; bop_is = b };
      position = n;
      at_is = a;
    }

-- ---- after one item more

module _ (p : Writing) (is : List Item) (h : WritingIs p is) where
  behind_is : (writing_after_all first_writing is).behind ≡ characters_of is
  unfolding first_writing
  behind_is = writing_behind first_writing is

  -- the marks tell whether a font is defined
  pub commands_are : (c : Character) → c.font < 120 → commands_of (is_marked p.extents.fonts.low p.extents.fonts.high c.font) (position_of p.position) c ≡ item_bytes (writing_after_all first_writing is) (Placed c)
  unfolding item_bytes
  commands_are c f =
      let k = marked_used p.extents.fonts.low p.extents.fonts.high (characters_of is) h.tallied.extents_are.fonts_are c.font f ∙ ap (uses c.font) (sym behind_is) in
      (λ i. commands_of (k i) (h.position.position_is i) c)

  after_is : (i : Item) → writing_after_all first_writing (is ++ (i ∷ [])) ≡ writing_after (writing_after_all first_writing is) i
  after_is i = foldl-append writing_after first_writing is (i ∷ [])

  at_more : (r : Writing) (i : Item) (n : ℕ) → r.at ≡ p.at + n → n ≡ length (item_bytes (writing_after_all first_writing is) i) → r.at ≡ (writing_after_all first_writing (is ++ (i ∷ []))).at
  at_more r i n e k =
      let q = writing_next (writing_after_all first_writing is) i in
      let a : r.at ≡ (writing_after (writing_after_all first_writing is) i).at = omega (arith, e, k, h.at_is, q) in
      a ∙ ap (λ (w : W). w.at) (sym (after_is i))

  pub writing_character : (r : Writing) (c : Character) (to : ℕ) → valid height_end c ≡ true → Advanced p c to r → to ≡ p.at + length (item_bytes (writing_after_all first_writing is) (Placed c))
      → WritingIs r (is ++ (Placed c ∷ []))
  unfolding writing_after characters_of
  writing_character r c to v a e =
      let cs = characters_of is in
      let x = h.tallied in
      let all : characters_of (is ++ (Placed c ∷ [])) ≡ cs ++ (c ∷ []) = characters_append is (Placed c ∷ []) in
      record {
        tallied = record {
          extents_are = rw (all, a.extents_are) (extents_more p.extents cs c x.extents_are (valid_parts v).font);
          page_is = a.page_is ∙ x.page_is ∙ ap (λ (w : W). w.page) (sym (after_is (Placed c)));
          bop_is = a.bop_is ∙ x.bop_is ∙ ap (λ (w : W). w.bop) (sym (after_is (Placed c)));
        };
        position = record { on_page = a.position.on_page; position_is = a.position.position_is ∙ ap (λ (w : W). w.position) (sym (after_is (Placed c))) };
        at_is = at_more r (Placed c) (length (item_bytes (writing_after_all first_writing is) (Placed c))) (a.at_is ∙ e) refl;
      }

  pub writing_cut : (r : Writing) → PositionIs r.position start_position → r.extents ≡ p.extents → r.page ≡ suc p.page → r.bop ≡ p.at + 1 → r.at ≡ p.at + 46 → WritingIs r (is ++ (Cut ∷ []))
  unfolding writing_after characters_of
  writing_cut r n f g b a =
      let q = h.tallied in
      let all : characters_of (is ++ (Cut ∷ [])) ≡ characters_of is = characters_append is (Cut ∷ []) ∙ append-nil (characters_of is) in
      record {
        tallied = record {
          extents_are = rw (all, f) q.extents_are;
          page_is = g ∙ ap suc q.page_is ∙ ap (λ (w : W). w.page) (sym (after_is Cut));
          bop_is = b ∙ ap (λ (k : ℕ). k + 1) h.at_is ∙ ap (λ (w : W). w.bop) (sym (after_is Cut));
        };
        position = record { on_page = n.on_page; position_is = n.position_is ∙ ap (λ (w : W). w.position) (sym (after_is Cut)) };
        at_is = a ∙ ap (λ (k : ℕ). k + 46) h.at_is ∙ ap (λ (w : W). w.at) (sym (after_is Cut));
      }
