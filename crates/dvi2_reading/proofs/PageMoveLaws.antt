-- Inside a page the moves keep `PageReached`.
--     after_across       a move right
--     after_downward     a move down
-- Assumes nothing.
use Rattle.std.specs.Prelude.{◌≡◌, not, ◌&&◌, ℕ, ℤ, pos, ◌+ℤ◌, ◌-ℤ◌, length}
use Rattle.std.proofs.Math.Path.{sym, ap, subst}
use Rattle.std.proofs.Common.{◌∙◌}
use Rattle.std.proofs.Math.Bool.{true}
use mathlib.Core.List.{List, ◌++◌, append_assoc}
use borrow.Author.Tests.{ltb-true, not-true}
use Rattle.integers.specs.Equality.{eq_z}
use Rattle.octets.specs.FieldLaws.{both}
use Rattle.galley_file.specs.Font.{size_index, is_double}
use Rattle.galley_file.specs.Character.{valid_x}
use Rattle.galley_file.specs.Galley.{max_items}
use Rattle.extents.specs.FontMarks.{uses}
use Rattle.dvi.specs.Writer.{Position}
use Rattle.dvi2.specs.Command.{RIGHT1, DOWN1}
use Rattle.dvi2.specs.Writer.{font_change, shortest, move}
use Rattle.dvi2_reading.specs.PageReading.{across, downward, in_bytes, PageState, before_right, before_down, is_more, valid_in, is_downward, may_come}
use Rattle.dvi2_reading.specs.Reading.{page_state_after}
use Rattle.dvi2_reading.specs.Reached.{writing_of, open_bytes, way_to, PageReached, Reached}
use Rattle.dvi2_reading.proofs.PieceLaws.{more_bytes, move_between, move_some, x_between}
use Rattle.dvi2_reading.proofs.WayLaws.{way_across, way_here, font_there, right_put, right_down, down_put, staged_way, staged_x, staged_y, font_same}

module _ (h : PageState) (bs : List ℕ) (k : PageReached h bs) where
  pub after_across : (m : ℤ) → may_come h (across m) ≡ true → Reached (page_state_after h (across m)) (bs ++ in_bytes (across m))
  unfolding may_come page_state_after in_bytes
  after_across m e =
      let b₁ = both (is_more h.items) (before_right h.stage && (not (eq_z m (pos 0)) && valid_in h.position.font (h.position.x +ℤ m))) e in
      let b₂ = both (before_right h.stage) (not (eq_z m (pos 0)) && valid_in h.position.font (h.position.x +ℤ m)) b₁.1 in
      let b₃ = both (not (eq_z m (pos 0))) (valid_in h.position.font (h.position.x +ℤ m)) b₂.1 in
      let t = font_there h.position.font (h.position.x +ℤ m) b₃.1 in
      let P = writing_of h.items in
      let w = staged_way h.items h.position k.rest h.stage k.staged (right_put h.stage b₂.0) t.font t.font_is in
      let x_is = staged_x h.items h.position k.rest h.stage k.staged b₂.0 in
      let y_is = staged_y h.items h.position k.rest h.stage k.staged (right_down h.stage b₂.0) in
      let to : Position = record { font = h.position.font; x = h.position.x +ℤ m; y = h.position.y } in
      let v : valid_x (is_double (size_index w.font)) (h.position.x +ℤ m) ≡ true =
      subst (λ (f : ℕ). valid_x (is_double (size_index f)) (h.position.x +ℤ m) ≡ true) (font_same w t) t.x_valid in
      let s : move RIGHT1 (h.position.x +ℤ m -ℤ P.position.x) ≡ shortest RIGHT1 m =
      ap (λ (a : ℤ). move RIGHT1 ((h.position.x +ℤ m) -ℤ a)) (sym x_is)
      ∙ ap (move RIGHT1) (move_between h.position.x m)
      ∙ move_some RIGHT1 m (not-true (eq_z m (pos 0)) b₃.0) in
      record {
        writable = k.writable;
        x_between = x_between (is_double (size_index w.font)) (h.position.x +ℤ m) v;
        y_down = k.y_down;
        rest = k.rest ++ shortest RIGHT1 m;
        bytes_are = more_bytes bs (open_bytes h.items) k.rest (shortest RIGHT1 m) k.bytes_are;
        staged =
            record {
              way =
                  record {
                    font = w.font;
                    font_is = w.font_is;
                    small = w.small;
                    rest_is =
                        ap (λ (l : List ℕ). l ++ shortest RIGHT1 m) (w.rest_is ∙ way_here P w.font h.position x_is y_is)
                        ∙ sym (way_across P w.font to y_is ∙ ap (λ (l : List ℕ). font_change (uses w.font P.behind) P.position.font w.font ++ l) s);
                  };
              more = ltb-true (length h.items) max_items b₁.0;
              x_valid = v;
              y_is = y_is;
            };
      }

  pub after_downward : (m : ℤ) → may_come h (downward m) ≡ true → Reached (page_state_after h (downward m)) (bs ++ in_bytes (downward m))
  unfolding may_come page_state_after in_bytes way_to
  after_downward m e =
      let T₄ = valid_in h.position.font h.position.x && is_downward (h.position.y +ℤ m) in
      let b₁ = both (is_more h.items) (before_down h.stage && (not (eq_z m (pos 0)) && T₄)) e in
      let b₂ = both (before_down h.stage) (not (eq_z m (pos 0)) && T₄) b₁.1 in
      let b₃ = both (not (eq_z m (pos 0))) T₄ b₂.1 in
      let b₄ = both (valid_in h.position.font h.position.x) (is_downward (h.position.y +ℤ m)) b₃.1 in
      let t = font_there h.position.font h.position.x b₄.0 in
      let P = writing_of h.items in
      let w = staged_way h.items h.position k.rest h.stage k.staged (down_put h.stage b₂.0) t.font t.font_is in
      let y_is = staged_y h.items h.position k.rest h.stage k.staged b₂.0 in
      let F = font_change (uses w.font P.behind) P.position.font w.font in
      let R = move RIGHT1 (h.position.x -ℤ P.position.x) in
      let v : valid_x (is_double (size_index w.font)) h.position.x ≡ true =
      subst (λ (f : ℕ). valid_x (is_double (size_index f)) h.position.x ≡ true) (font_same w t) t.x_valid in
      let s : move DOWN1 ((h.position.y +ℤ m) -ℤ P.position.y) ≡ shortest DOWN1 m =
      ap (λ (a : ℤ). move DOWN1 ((h.position.y +ℤ m) -ℤ a)) (sym y_is)
      ∙ ap (move DOWN1) (move_between h.position.y m)
      ∙ move_some DOWN1 m (not-true (eq_z m (pos 0)) b₃.0) in
      record {
        writable = k.writable;
        x_between = k.x_between;
        y_down = b₄.1;
        rest = k.rest ++ shortest DOWN1 m;
        bytes_are = more_bytes bs (open_bytes h.items) k.rest (shortest DOWN1 m) k.bytes_are;
        staged =
            record {
              way =
                  record {
                    font = w.font;
                    font_is = w.font_is;
                    small = w.small;
                    rest_is =
                        ap (λ (l : List ℕ). l ++ shortest DOWN1 m) (w.rest_is ∙ way_across P w.font h.position y_is)
                        ∙ append_assoc F R (shortest DOWN1 m)
                        ∙ ap (λ (l : List ℕ). F ++ (R ++ l)) (sym s);
                  };
              more = ltb-true (length h.items) max_items b₁.0;
              x_valid = v;
            };
      }
