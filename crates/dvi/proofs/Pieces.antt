-- What each of the writer's pieces does to a page that stands where the position does: the font command, the two moves, HORZCHAR.
-- Assumes nothing.
use mathlib.Core.Path.{◌≡◌, refl, ap, ◌∙◌}
use mathlib.Core.List.{List, [], ◌∷◌, ◌++◌}
use mathlib.Core.Option.{Option, none, some}
use Prim.Native.Nat.{ℕ, zero, suc, ◌+◌, ◌-◌, ◌≤◌, ◌<◌}
use native.Mathlib.Omega.{arith}
use borrow.Author.Tests.{lt-ltb, le-ltb, ltb-true, eqb-true}
use lib.Dec.{ltb, eqb}
use lib.IntN.{ℤ, pos, ◌+ℤ◌, ◌-ℤ◌}
use lib.ListN.{length}
use mir.Syntax.{w32}
use mir.Val.{SFits}
use Rattle.integers.specs.Parts.{integers, dif_parts}
use Rattle.integers.specs.Equality.{eq_z, eq_z_true}
use Rattle.octets.specs.Octets.{bytes, signed_bytes, width_of}
use Rattle.octets.specs.OctetsLaws.{by_cond, signed_bytes_pos}
use Rattle.octets.specs.WordLaws.{width_holds, width_range, true_fits32}
use Rattle.measure.proofs.TargetLaws.{move_ends}
use Rattle.dvi.specs.Command.{HORZCHAR, FONT, X4, Y4, FONTNUM, Command, horz_char, set_font, move_x, move_y, bare, takes, layouts, layout_of}
use Rattle.sheet.specs.Sheet.{Mark, char_mark}
use Rattle.dvi.specs.Page.{Numbers, Page, moved, marked, with_numbers, with_font, right_by, down_by, set_x, set_y, if_fits, go_to, char_here, set_still, effect}
use Rattle.dvi.specs.File.{inside}
use Rattle.dvi.specs.Writer.{Position, font_command, font_change, shortest, move}
use Rattle.dvi.proofs.Runs.{Goes, goes_nil, goes_append, goes_moved, goes_marked, decode_takes, decode_bare}

abbrev pub as_signed : Option ℕ → Option ℤ
as_signed none = none
as_signed (some f) = some (pos f)

-- the page stands where the position does, and its stack is empty
pub record Stands (position : Position) (p : Page) : Type 0 where
  pub at_x : p.numbers.x_at ≡ position.x
  pub at_y : p.numbers.y_at ≡ position.y
  pub at_font : p.font ≡ as_signed position.font
  pub at_stack : p.stack ≡ []

pub record Reached (ws : List ℤ) (last : ℤ) (p : Page) (bs : List ℕ) (ms : List Mark) (position : Position) : Type 0 where
  pub page : Page
  pub stands : Stands position page
  pub goes : (at : ℕ) → Goes ws at (inside last p) bs ms (inside last page)

-- from any page that stands at the one position the bytes show ms and lead to one that stands at the other
pub record Leads (ws : List ℤ) (last : ℤ) (position : Position) (bs : List ℕ) (ms : List Mark) (to : Position) : Type 0 where
  pub lead : (p : Page) → Stands position p → Reached ws last p bs ms to

-- ---- the position with another font, X or Y

abbrev pub position_in : Position → ℕ → Position
position_in position f = record { font = some f; x = position.x; y = position.y }

abbrev pub position_x : Position → ℤ → Position
position_x position a = record { font = position.font; x = a; y = position.y }

abbrev pub position_y : Position → ℤ → Position
position_y position b = record { font = position.font; x = position.x; y = b }

-- ---- single commands

-- FONTNUM 0 to 63
layout_fontnum : (f : ℕ) → f < 64 → layout_of (FONTNUM + f) ≡ bare (set_font (pos f))
unfolding layout_of
layout_fontnum f h =
    rw (le-ltb (FONTNUM + f) 128 (omega arith), le-ltb (FONTNUM + f) FONTNUM (omega arith), lt-ltb (FONTNUM + f) 218 (omega arith))
    (ap (λ (n : ℕ). bare (set_font (pos n))) (omega arith))

-- the three commands whose longest is op
abbrev Three : ℕ → (ℤ → Command) → Type 0
Three op make = (k : ℕ) → 2 ≤ k → k ≤ 4 → layout_of (op + (4 - k)) ≡ takes k make

three : (op : ℕ) (make : ℤ → Command) → layout_of (op + 2) ≡ takes 2 make → layout_of (op + 1) ≡ takes 3 make → layout_of (op + 0) ≡ takes 4 make → Three op make
three op make e₂ e₃ e₄ zero l h = absurd (omega arith)
three op make e₂ e₃ e₄ (suc zero) l h = absurd (omega arith)
three op make e₂ e₃ e₄ (suc (suc zero)) l h = e₂
three op make e₂ e₃ e₄ (suc (suc (suc zero))) l h = e₃
three op make e₂ e₃ e₄ (suc (suc (suc (suc zero)))) l h = e₄
three op make e₂ e₃ e₄ (suc (suc (suc (suc (suc k))))) l h = absurd (omega arith)

go_to_fits : (p : Page) (n : Numbers) → SFits w32 n.x_at → SFits w32 n.y_at → go_to p n ≡ moved (with_numbers p n)
unfolding go_to if_fits
go_to_fits p n h k = rw (true_fits32 n.x_at h, true_fits32 n.y_at k)

no_move : (from to : ℤ) → to -ℤ from ≡ pos 0 → from ≡ to
no_move from to e = omega (integers, dif_parts to from)

set_still_lem : (p : Page) (c : ℕ) (a b f : ℤ) → c < 128 → p.numbers.x_at ≡ a → p.numbers.y_at ≡ b → p.font ≡ some f
    → set_still p (pos c) p.font ≡ marked p (char_mark a b f c)
unfolding set_still char_here
set_still_lem p c a b f h ex ey ef = rw (ef, lt-ltb c 128 h, ex, ey)

-- the character's byte is its number
byte : (c : ℕ) → c < 128 → signed_bytes 1 (pos c) ≡ c ∷ []
unfolding bytes
byte c h = signed_bytes_pos 1 c ∙ ap {B = List ℕ} (λ (n : ℕ). n ∷ []) (omega arith)

-- ---- the pieces, one after another

module _ (ws : List ℤ) (last : ℤ) where
  pub leads_append : {position mid to : Position} {bs cs : List ℕ} {ms ns : List Mark} → Leads ws last position bs ms mid → Leads ws last mid cs ns to
      → Leads ws last position (bs ++ cs) (ms ++ ns) to
  leads_append {position} {mid} {to} {bs} {cs} {ms} {ns} f g = record { lead = λ p h. both (f.lead p h) }
    where
      chain : {p : Page} (r : Reached ws last p bs ms mid) → Reached ws last r.page cs ns to → Reached ws last p (bs ++ cs) (ms ++ ns) to
      chain r s = record { page = s.page; stands = s.stands; goes = λ at. goes_append ws at (r.goes at) (s.goes (at + length bs)) }

      both : {p : Page} → Reached ws last p bs ms mid → Reached ws last p (bs ++ cs) (ms ++ ns) to
      both r = chain r (g.lead r.page r.stands)

  -- ---- the font

  goes_font : (at : ℕ) (p : Page) (f : ℕ) → f < 120 → Goes ws at (inside last p) (font_command f) [] (inside last (with_font p (pos f)))
  unfolding font_command effect layout_of layouts
  goes_font at p f h =
      by_cond (λ (bs : List ℕ). Goes ws at (inside last p) bs [] (inside last (with_font p (pos f)))) (ltb f 64) _ _
      (λ e. goes_moved ws at last p (with_font p (pos f)) (set_font (pos f)) (FONTNUM + f) [] (decode_bare (FONTNUM + f) (set_font (pos f)) (layout_fontnum f (ltb-true f 64 e))) refl)
      (λ e. goes_moved ws at last p (with_font p (pos f)) (set_font (pos f)) FONT (signed_bytes 4 (pos f)) (decode_takes FONT 4 set_font (pos f) refl (record { half = omega arith })) refl)

  leads_font_command : (position : Position) (f : ℕ) → f < 120 → Leads ws last position (font_command f) [] (position_in position f)
  unfolding with_font
  leads_font_command position f h =
      record {
        lead = λ p k. record {
          page = with_font p (pos f);
          stands = record { at_x = k.at_x; at_y = k.at_y; at_font = refl; at_stack = k.at_stack };
          goes = λ at. goes_font at p f h;
        };
      }

  -- no font command where the font stays
  leads_same : (position : Position) (g f : ℕ) → position.font ≡ some g → g ≡ f → Leads ws last position [] [] (position_in position f)
  leads_same position g f e k =
      record {
        lead = λ p h. record {
          page = p;
          stands = record {
            at_x = h.at_x;
            at_y = h.at_y;
            at_font = h.at_font ∙ ap as_signed e ∙ ap (λ (n : ℕ). some (pos n)) k;
            at_stack = h.at_stack;
          };
          goes = λ at. goes_nil ws at (inside last p);
        };
      }

  pub leads_font : (position : Position) (f : ℕ) → f < 120 → Leads ws last position (font_change position.font f) [] (position_in position f)
  unfolding font_change
  leads_font position f h = go position.font refl
    where
      go : (o : Option ℕ) → position.font ≡ o → Leads ws last position (font_change o f) [] (position_in position f)
      go none e = leads_font_command position f h
      go (some g) e =
          by_cond (λ (bs : List ℕ). Leads ws last position bs [] (position_in position f)) (eqb g f) _ _
          (λ t. leads_same position g f e (eqb-true g f t))
          (λ t. leads_font_command position f h)

  -- ---- the moves

  -- a move by the shortest command, left out where it is 0
  leads_move : (position to : Position) (op : ℕ) (make : ℤ → Command) (m : ℤ) (after : Page → Page) → Three op make → SFits w32 m
      → (m ≡ pos 0 → (p : Page) → Stands position p → Stands to p)
      → ((p : Page) → Stands position p → Stands to (after p))
      → ((p : Page) → Stands position p → effect ws p (make m) ≡ moved (after p)) → Leads ws last position (move op m) [] to
  unfolding move shortest
  leads_move position to op make m after layouts fits still there eff =
      let k = width_of m in
      let r = width_range m in
      let decoded = decode_takes (op + (4 - k)) k make m (layouts k r.0 r.1) (width_holds m fits.sfits) in
      by_cond (λ (bs : List ℕ). Leads ws last position bs [] to) (eq_z m (pos 0)) _ _
      (λ t. record {
        lead = λ p h. record { page = p; stands = still (eq_z_true m (pos 0) t) p h; goes = λ at. goes_nil ws at (inside last p) };
      })
      (λ t. record {
        lead = λ p h. record {
          page = after p;
          stands = there p h;
          goes = λ at. goes_moved ws at last p (after p) (make m) (op + (4 - k)) (signed_bytes k m) decoded (eff p h);
        };
      })

  pub leads_x : (position : Position) (a : ℤ) → SFits w32 (a -ℤ position.x) → SFits w32 a → SFits w32 position.y → Leads ws last position (move X4 (a -ℤ position.x)) [] (position_x position a)
  unfolding with_numbers set_x right_by effect layout_of layouts
  leads_x position a fm fa fy =
      leads_move position (position_x position a) X4 move_x m (λ p. with_numbers p (set_x m (right_by m p.numbers))) (three X4 move_x refl refl refl) fm
      (λ e p h. record { at_x = h.at_x ∙ no_move position.x a e; at_y = h.at_y; at_font = h.at_font; at_stack = h.at_stack })
      (λ p h. record { at_x = arrives p h; at_y = h.at_y; at_font = h.at_font; at_stack = h.at_stack })
      (λ p h. go_to_fits p (set_x m (right_by m p.numbers)) (rw (arrives p h) fa) (rw h.at_y fy))
    where
      m : ℤ
      m = a -ℤ position.x

      arrives : (p : Page) → Stands position p → p.numbers.x_at +ℤ m ≡ a
      arrives p h = ap (λ (z : ℤ). z +ℤ m) h.at_x ∙ move_ends position.x a

  pub leads_y : (position : Position) (b : ℤ) → SFits w32 (b -ℤ position.y) → SFits w32 b → SFits w32 position.x → Leads ws last position (move Y4 (b -ℤ position.y)) [] (position_y position b)
  unfolding with_numbers set_y down_by effect layout_of layouts
  leads_y position b fm fb fx =
      leads_move position (position_y position b) Y4 move_y m (λ p. with_numbers p (set_y m (down_by m p.numbers))) (three Y4 move_y refl refl refl) fm
      (λ e p h. record { at_x = h.at_x; at_y = h.at_y ∙ no_move position.y b e; at_font = h.at_font; at_stack = h.at_stack })
      (λ p h. record { at_x = h.at_x; at_y = arrives p h; at_font = h.at_font; at_stack = h.at_stack })
      (λ p h. go_to_fits p (set_y m (down_by m p.numbers)) (rw h.at_x fx) (rw (arrives p h) fb))
    where
      m : ℤ
      m = b -ℤ position.y

      arrives : (p : Page) → Stands position p → p.numbers.y_at +ℤ m ≡ b
      arrives p h = ap (λ (z : ℤ). z +ℤ m) h.at_y ∙ move_ends position.y b

  -- ---- HORZCHAR

  pub leads_char : (position : Position) (f c : ℕ) → position.font ≡ some f → c < 128
      → Leads ws last position (HORZCHAR ∷ c ∷ []) (char_mark position.x position.y (pos f) c ∷ []) position
  unfolding effect layout_of layouts
  leads_char position f c e k =
      record {
        lead = λ p h. record {
          page = p;
          stands = h;
          goes = λ at.
              goes_marked ws at last p p (horz_char (pos c)) (char_mark position.x position.y (pos f) c) HORZCHAR (c ∷ [])
              (λ rest. rw (byte c k) at (decode_takes HORZCHAR 1 horz_char (pos c) refl (record { half = omega arith }) rest))
              (set_still_lem p c position.x position.y (pos f) k h.at_x h.at_y (h.at_font ∙ ap as_signed e));
        };
      }
