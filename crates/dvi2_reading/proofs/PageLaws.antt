-- Inside a page each command that may come keeps `PageReached`.
--     page_reached     one command
-- Assumes nothing.
use Rattle.std.specs.Prelude.{◌≡◌, ◌&&◌, ℕ, ◌<◌, length}
use Rattle.std.proofs.Math.Path.{refl, sym, ap, subst}
use Rattle.std.proofs.Common.{◌∙◌}
use Rattle.std.proofs.Math.Bool.{true}
use mathlib.Core.List.{List, [], ◌∷◌, ◌++◌, append-nil, foldl-append}
use Rattle.std.proofs.Math.Option.{Option, some, get_or}
use borrow.Author.Tests.{ltb-true, leb-true}
use Rattle.std.proofs.Math.Dec.{leb}
use Rattle.octets.specs.FieldLaws.{both}
use Rattle.measure.specs.Place.{height_end}
use Rattle.galley_file.specs.Font.{size_index, is_double}
use Rattle.galley_file.specs.declared.character.Character.{Character}
use Rattle.galley_file.specs.declared.item.Item.TheVariants.{Placed}
use Rattle.galley_file.specs.Character.{valid_x, valid}
use Rattle.galley_file.specs.CharacterLaws.{parts_valid}
use Rattle.galley_file.specs.Item.{characters_of}
use Rattle.galley_file.specs.ItemLaws.{characters_append}
use Rattle.galley_file.specs.Galley.{max_items}
use Rattle.extents.specs.FontMarks.{uses}
use Rattle.dvi.specs.Writer.{Position}
use Rattle.dvi2.specs.Command.{PUT1, EOP}
use Rattle.dvi2.specs.Writer.{h_of, v_of, position_at, Writing, first_writing, item_bytes, writing_after}
use Rattle.dvi2_reading.specs.PageReading.{PageCommand, ending, defining, selecting, across, downward, putting, in_bytes, PageState, before_put, is_more, valid_in, may_come}
use Rattle.dvi2_reading.specs.Reading.{character_of, page_state_after}
use Rattle.dvi2_reading.specs.Reached.{writing_of, open_bytes, way_to, PageReached, Reached}
use Rattle.dvi2_reading.proofs.PieceLaws.{more_bytes, writable_more, open_more, pages_open, thrice, height_valid, uses_last}
use Rattle.dvi2_reading.proofs.WayLaws.{way_put, font_there, staged_way, staged_ready, font_same}
use Rattle.dvi2_reading.proofs.PageFontLaws.{after_defining, after_selecting}
use Rattle.dvi2_reading.proofs.PageMoveLaws.{after_across, after_downward}

one_character : (c : Character) → characters_of (Placed c ∷ []) ≡ c ∷ []
unfolding characters_of
one_character c = refl

-- the position after a character
position_placed : (q : Writing) (p : Position) (d : Character) → p.font ≡ some d.font → v_of d ≡ p.y → h_of d ≡ p.x → p ≡ (writing_after q (Placed d)).position
unfolding writing_after position_at
position_placed q p d a b e = (λ i. record { font = a i; x = sym e i; y = sym b i })

module _ (h : PageState) (bs : List ℕ) (k : PageReached h bs) where
  after_ending : may_come h ending ≡ true → Reached (page_state_after h ending) (bs ++ in_bytes ending)
  unfolding may_come page_state_after in_bytes
  after_ending e =
      let a = staged_ready h.items h.position k.rest h.stage e k.staged in
      record {
        writable = k.writable;
        bytes_are =
            more_bytes bs (open_bytes h.items) k.rest (EOP ∷ []) k.bytes_are
            ∙ ap (λ (l : List ℕ). open_bytes h.items ++ (l ++ (EOP ∷ []))) a.rest_is
            ∙ sym (pages_open h.items);
      }

  after_putting : (c : ℕ) → may_come h (putting c) ≡ true → Reached (page_state_after h (putting c)) (bs ++ in_bytes (putting c))
  unfolding may_come page_state_after in_bytes character_of
  after_putting c e =
      let T₃ = valid_in h.position.font h.position.x && (leb 1 c && leb c 108) in
      let b₁ = both (is_more h.items) (before_put h.stage && T₃) e in
      let b₂ = both (before_put h.stage) T₃ b₁.1 in
      let b₃ = both (valid_in h.position.font h.position.x) (leb 1 c && leb c 108) b₂.1 in
      let b₄ = both (leb 1 c) (leb c 108) b₃.1 in
      let t = font_there h.position.font h.position.x b₃.0 in
      let P = writing_of h.items in
      let w = staged_way h.items h.position k.rest h.stage k.staged b₂.0 t.font t.font_is in
      let d : Character = character_of h.position c in
      let f-is : w.font ≡ d.font = sym (ap (λ (o : Option ℕ). get_or o 0) w.font_is) in
      let v-is : v_of d ≡ h.position.y = thrice h.position.y k.y_down in
      let o_is : h.position.font ≡ some d.font = w.font_is ∙ ap (λ (f : ℕ). some f) f-is in
      let valid-d : valid height_end d ≡ true =
      parts_valid {c = d}
      (record {
        font = subst (λ (f : ℕ). f < 120) f-is w.small;
        first = leb-true 1 c b₄.0;
        last = leb-true c 108 b₄.1;
        across =
            subst (λ (f : ℕ). valid_x (is_double (size_index f)) h.position.x ≡ true) (font_same w t ∙ f-is) t.x_valid;
        height = height_valid h.position.y k.y_down;
      }) in
      let put : item_bytes P (Placed d) ≡ k.rest ++ (PUT1 ∷ c ∷ []) =
      way_put P h.position d refl v-is
      ∙ ap (λ (f : ℕ). way_to P f h.position ++ (PUT1 ∷ c ∷ [])) (sym f-is)
      ∙ ap (λ (l : List ℕ). l ++ (PUT1 ∷ c ∷ [])) (sym w.rest_is) in
      record {
        writable = writable_more h.items (Placed d) k.writable valid-d (ltb-true (length h.items) max_items b₁.0);
        x_between = k.x_between;
        y_down = k.y_down;
        rest = [];
        bytes_are =
            more_bytes bs (open_bytes h.items) k.rest (PUT1 ∷ c ∷ []) k.bytes_are
            ∙ ap (λ (l : List ℕ). open_bytes h.items ++ l) (sym put)
            ∙ sym (open_more h.items (Placed d))
            ∙ sym (append-nil (open_bytes (h.items ++ (Placed d ∷ []))));
        staged =
            record {
              position_is = position_placed P h.position d o_is v-is refl ∙ sym (ap (λ (p : Writing). p.position) (foldl-append writing_after first_writing h.items (Placed d ∷ [])));
              rest_is = refl;
              fonts = λ g q.
                  let n : d.font ≡ g = same_some d.font g (sym o_is ∙ q) in (
                    subst (λ (f : ℕ). f < 120) (f-is ∙ n) w.small,
                    ap (uses g) (characters_append h.items (Placed d ∷ [])) ∙ ap (λ (cs : List Character). uses g (characters_of h.items ++ cs)) (one_character d) ∙ uses_last g (characters_of h.items) d n,
                  );
            };
      }
    where
      same_some : (a b : ℕ) → some a ≡ some b → a ≡ b
      same_some a b e = cc

  pub page_reached : (d : PageCommand) → may_come h d ≡ true → Reached (page_state_after h d) (bs ++ in_bytes d)
  page_reached ending e = after_ending e
  page_reached (defining f) e = after_defining h bs k f e
  page_reached (selecting f) e = after_selecting h bs k f e
  page_reached (across m) e = after_across h bs k m e
  page_reached (downward m) e = after_downward h bs k m e
  page_reached (putting c) e = after_putting c e
