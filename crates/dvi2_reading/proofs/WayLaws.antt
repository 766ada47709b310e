-- The way from the last character to the next: its font, and the moves to its place.
-- Assumes nothing.
use Rattle.std.specs.Prelude.{◌≡◌, refl, true, ℕ, ℤ, ◌-ℤ◌}
use Rattle.std.proofs.Common.{sym, ◌∙◌, suc-ne-zero}
use Rattle.std.proofs.Math.Path.{ap}
use mathlib.Core.List.{List, [], ◌∷◌, ◌++◌, append_assoc, append-nil}
use Rattle.std.proofs.Math.Option.{Option, none, some}
use Rattle.galley_file.specs.Font.{size_index, is_double}
use Rattle.galley_file.specs.declared.character.Character.{Character}
use Rattle.galley_file.specs.declared.item.Item.{Item}
use Rattle.galley_file.specs.declared.item.Item.TheVariants.{Placed}
use Rattle.galley_file.specs.Character.{valid_x}
use Rattle.extents.specs.FontMarks.{uses}
use Rattle.dvi.specs.Writer.{Position}
use Rattle.dvi2.specs.Command.{PUT1, RIGHT1, DOWN1}
use Rattle.dvi2.specs.Writer.{h_of, v_of, font_change, move, commands_of, Writing, item_bytes}
use Rattle.dvi2_reading.specs.PageReading.{Stage, ready, named, chosen, moved, lowered, is_ready, before_right, before_down, before_put, valid_in}
use Rattle.dvi2_reading.specs.Reached.{writing_of, way_to, AtReady, Way, Staged}
use Rattle.dvi2_reading.proofs.PieceLaws.{nowhere, move_none, change_none}

-- ---- ways

module _ (p : Writing) (f : ℕ) (to : Position) where
  pub way_across : to.y ≡ p.position.y → way_to p f to ≡ font_change (uses f p.behind) p.position.font f ++ move RIGHT1 (to.x -ℤ p.position.x)
  unfolding way_to
  way_across e =
      ap (λ (l : List ℕ). font_change (uses f p.behind) p.position.font f ++ (move RIGHT1 (to.x -ℤ p.position.x) ++ l))
      (move_none DOWN1 (to.y -ℤ p.position.y) (nowhere to.y p.position.y e))
      ∙ ap (λ (l : List ℕ). font_change (uses f p.behind) p.position.font f ++ l) (append-nil (move RIGHT1 (to.x -ℤ p.position.x)))

  pub way_here : to.x ≡ p.position.x → to.y ≡ p.position.y → way_to p f to ≡ font_change (uses f p.behind) p.position.font f
  way_here d e =
      way_across e
      ∙ ap (λ (l : List ℕ). font_change (uses f p.behind) p.position.font f ++ l)
      (move_none RIGHT1 (to.x -ℤ p.position.x) (nowhere to.x p.position.x d))
      ∙ append-nil (font_change (uses f p.behind) p.position.font f)

-- the way to a character, and the put
pub way_put : (p : Writing) (to : Position) (c : Character) → h_of c ≡ to.x → v_of c ≡ to.y → item_bytes p (Placed c) ≡ way_to p c.font to ++ (PUT1 ∷ c.code ∷ [])
unfolding item_bytes commands_of way_to
way_put p to c a b =
    let F = font_change (uses c.font p.behind) p.position.font c.font in
    let R = move RIGHT1 (to.x -ℤ p.position.x) in
    let D = move DOWN1 (to.y -ℤ p.position.y) in
    (λ i. F ++ (move RIGHT1 (a i -ℤ p.position.x) ++ (move DOWN1 (b i -ℤ p.position.y) ++ (PUT1 ∷ c.code ∷ []))))
    ∙ ap (λ (l : List ℕ). F ++ l) (sym (append_assoc R D (PUT1 ∷ c.code ∷ [])))
    ∙ sym (append_assoc F (R ++ D) (PUT1 ∷ c.code ∷ []))

-- ---- what is there of the next character

pub record There (o : Option ℕ) (x : ℤ) : Type 0 where
  pub font : ℕ
  pub font_is : o ≡ some font
  pub x_valid : valid_x (is_double (size_index font)) x ≡ true

pub font_there : (o : Option ℕ) (x : ℤ) → valid_in o x ≡ true → There o x
font_there none x e = absurd (suc-ne-zero 0 cc)
font_there (some f) x e = record { font = f; font_is = refl; x_valid = e }

pub right_put : (s : Stage) → before_right s ≡ true → before_put s ≡ true
right_put ready e = e
right_put named e = e
right_put chosen e = e
right_put moved e = absurd (suc-ne-zero 0 cc)
right_put lowered e = absurd (suc-ne-zero 0 cc)

pub right_down : (s : Stage) → before_right s ≡ true → before_down s ≡ true
right_down ready e = e
right_down named e = e
right_down chosen e = e
right_down moved e = absurd (suc-ne-zero 0 cc)
right_down lowered e = absurd (suc-ne-zero 0 cc)

pub down_put : (s : Stage) → before_down s ≡ true → before_put s ≡ true
down_put ready e = e
down_put named e = e
down_put chosen e = e
down_put moved e = e
down_put lowered e = absurd (suc-ne-zero 0 cc)

module _ (is : List Item) (position : Position) (rest : List ℕ) where
  ready_way : AtReady is position rest → (f : ℕ) → position.font ≡ some f → Way is position rest
  ready_way a f e =
      let x_is : position.x ≡ (writing_of is).position.x = ap (λ (p : Position). p.x) a.position_is in
      let y_is : position.y ≡ (writing_of is).position.y = ap (λ (p : Position). p.y) a.position_is in
      let o_is : (writing_of is).position.font ≡ some f = sym (ap (λ (p : Position). p.font) a.position_is) ∙ e in
      record {
        font = f;
        font_is = e;
        small = (a.fonts f e).0;
        rest_is =
            a.rest_is
            ∙ sym
            (way_here (writing_of is) f position x_is y_is
            ∙ ap (λ (o : Option ℕ). font_change (uses f (writing_of is).behind) o f) o_is
            ∙ change_none (writing_of is).behind f);
      }

  pub staged_way : (s : Stage) → Staged s is position rest → before_put s ≡ true → (f : ℕ) → position.font ≡ some f → Way is position rest
  staged_way ready a b f e = ready_way a f e
  staged_way named a b f e = absurd (suc-ne-zero 0 cc)
  staged_way chosen a b f e = a.way
  staged_way moved a b f e = a.way
  staged_way lowered a b f e = a.way

  pub staged_x : (s : Stage) → Staged s is position rest → before_right s ≡ true → position.x ≡ (writing_of is).position.x
  staged_x ready a b = ap (λ (p : Position). p.x) a.position_is
  staged_x named a b = absurd (suc-ne-zero 0 cc)
  staged_x chosen a b = a.x_is
  staged_x moved a b = absurd (suc-ne-zero 0 cc)
  staged_x lowered a b = absurd (suc-ne-zero 0 cc)

  pub staged_y : (s : Stage) → Staged s is position rest → before_down s ≡ true → position.y ≡ (writing_of is).position.y
  staged_y ready a b = ap (λ (p : Position). p.y) a.position_is
  staged_y named a b = absurd (suc-ne-zero 0 cc)
  staged_y chosen a b = a.y_is
  staged_y moved a b = a.y_is
  staged_y lowered a b = absurd (suc-ne-zero 0 cc)

  pub staged_ready : (s : Stage) → is_ready s ≡ true → Staged s is position rest → AtReady is position rest
  staged_ready ready b a = a
  staged_ready named b a = absurd (suc-ne-zero 0 cc)
  staged_ready chosen b a = absurd (suc-ne-zero 0 cc)
  staged_ready moved b a = absurd (suc-ne-zero 0 cc)
  staged_ready lowered b a = absurd (suc-ne-zero 0 cc)

-- the font of a way
pub font_same : {is : List Item} {position : Position} {rest : List ℕ} (w : Way is position rest) {x : ℤ} (t : There position.font x) → t.font ≡ w.font
font_same w t = let e : some t.font ≡ some w.font = sym t.font_is ∙ w.font_is in cc
