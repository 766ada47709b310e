-- What the moves and put1 do to a page.
--     leads_right     a move right, and leads_down one down
--     leads_put       put1
-- Assumes nothing.
use mathlib.Core.Path.{◌≡◌, refl, ap, ◌∙◌}
use mathlib.Core.List.{List, [], ◌∷◌}
use mathlib.Core.Option.{some}
use Prim.Native.Nat.{ℕ, zero, suc, ◌+◌, ◌-◌, ◌≤◌, ◌<◌}
use native.Mathlib.Omega.{arith}
use borrow.Author.Tests.{le-leb}
use lib.IntN.{ℤ, pos, ◌+ℤ◌, ◌-ℤ◌, ◌*ℤ◌}
use lib.ListN.{length}
use lib.Signed.{mag}
use Rattle.integers.specs.Parts.{integers, dif_parts}
use Rattle.integers.specs.Equality.{eq_z, eq_z_true}
use Rattle.octets.specs.Octets.{number_from, signed, signed_bytes}
use Rattle.octets.specs.OctetsLaws.{by_cond}
use Rattle.measure.proofs.TargetLaws.{move_ends}
use Rattle.galley_file.specs.declared.character.Character.{Character}
use Rattle.sheet.specs.Sheet.{char_mark}
use Rattle.dvi.specs.Page.{Page, with_numbers, right_by, down_by}
use Rattle.dvi.specs.Writer.{Position}
use Rattle.dvi2.specs.Command.{PUT1, RIGHT1, DOWN1, Command, put, right, down, takes, first_layouts, layout_of, command, in_file, with_parameters, decode}
use Rattle.dvi2.specs.Page.{per_unit, inside, leads, go_to, move_to, put_here, effect}
use Rattle.dvi2.specs.Writer.{parameter_width, shortest, move}
use Rattle.dvi2.specs.WriterLaws.{parameter_width_range, parameter_width_holds}
use Rattle.dvi2.proofs.Runs.{goes_nil, goes_command, decode_signed}
use Rattle.dvi2.proofs.Leads.{as_signed, Stands, Leads, position_x, position_y}

-- ---- the moves

-- the four commands whose shortest is op
abbrev Four : ℕ → (ℤ → Command) → Type 0
Four op make = (k : ℕ) → 1 ≤ k → k ≤ 4 → layout_of (op + (k - 1)) ≡ takes k signed make

four : (op : ℕ) (make : ℤ → Command) → layout_of (op + 0) ≡ takes 1 signed make → layout_of (op + 1) ≡ takes 2 signed make → layout_of (op + 2) ≡ takes 3 signed make → layout_of (op + 3) ≡ takes 4 signed make
    → Four op make
four op make e₁ e₂ e₃ e₄ zero l h = absurd (omega arith)
four op make e₁ e₂ e₃ e₄ (suc zero) l h = e₁
four op make e₁ e₂ e₃ e₄ (suc (suc zero)) l h = e₂
four op make e₁ e₂ e₃ e₄ (suc (suc (suc zero))) l h = e₃
four op make e₁ e₂ e₃ e₄ (suc (suc (suc (suc zero)))) l h = e₄
four op make e₁ e₂ e₃ e₄ (suc (suc (suc (suc (suc k))))) l h = absurd (omega arith)

no_move : (from to : ℤ) → to -ℤ from ≡ pos 0 → from ≡ to
no_move from to e = omega (integers, dif_parts to from)

module _ (cs : List Character) (position : Position) where
  -- a move by the shortest command, left out where it is 0
  leads_move : (to : Position) (op : ℕ) (make : ℤ → Command) (m : ℤ) (after : Page → Page) → Four op make → mag m < 2147483648
      → (m ≡ pos 0 → (fs : List ℤ) (p : Page) → Stands cs position fs p → Stands cs to fs p)
      → ((fs : List ℤ) (p : Page) → Stands cs position fs p → Stands cs to fs (after p))
      → ((fs : List ℤ) (p : Page) → effect fs p (make m) ≡ leads (inside fs (after p)) []) → Leads cs position (move op m) [] cs to
  unfolding move shortest
  leads_move to op make m after layouts small still there eff =
      let k = parameter_width m in
      let r = parameter_width_range m in
      let decoded = decode_signed (op + (k - 1)) k make m (layouts k r.0 r.1) (parameter_width_holds m small) in
      by_cond (λ (bs : List ℕ). Leads cs position bs [] cs to) (eq_z m (pos 0)) _ _
      (λ t. record {
        lead = λ fs p h. record { fonts = fs; page = p; stands = still (eq_z_true m (pos 0) t) fs p h; goes = goes_nil (inside fs p) };
      })
      (λ t. record {
        lead = λ fs p h. record {
          fonts = fs;
          page = after p;
          stands = there fs p h;
          goes = goes_command fs p (inside fs (after p)) (make m) [] (op + (k - 1)) (signed_bytes k m) decoded (eff fs p);
        };
      })

  pub leads_right : (a : ℤ) → mag (a -ℤ position.x) < 2147483648 → Leads cs position (move RIGHT1 (a -ℤ position.x)) [] cs (position_x position a)
  unfolding with_numbers right_by effect move_to go_to layout_of first_layouts
  leads_right a small =
      leads_move (position_x position a) RIGHT1 right m (λ p. with_numbers p (right_by m p.numbers)) (four RIGHT1 right refl refl refl refl) small
      (λ e fs p h. record { at_x = h.at_x ∙ no_move position.x a e; at_y = h.at_y; at_font = h.at_font; at_stack = h.at_stack; used = h.used; current = h.current })
      (λ fs p h. record { at_x = ap (λ (z : ℤ). z +ℤ m) h.at_x ∙ move_ends position.x a; at_y = h.at_y; at_font = h.at_font; at_stack = h.at_stack; used = h.used; current = h.current })
      (λ fs p. refl)
    where
      m : ℤ
      m = a -ℤ position.x

  pub leads_down : (b : ℤ) → mag (b -ℤ position.y) < 2147483648 → Leads cs position (move DOWN1 (b -ℤ position.y)) [] cs (position_y position b)
  unfolding with_numbers down_by effect move_to go_to layout_of first_layouts
  leads_down b small =
      leads_move (position_y position b) DOWN1 down m (λ p. with_numbers p (down_by m p.numbers)) (four DOWN1 down refl refl refl refl) small
      (λ e fs p h. record { at_x = h.at_x; at_y = h.at_y ∙ no_move position.y b e; at_font = h.at_font; at_stack = h.at_stack; used = h.used; current = h.current })
      (λ fs p h. record { at_x = h.at_x; at_y = ap (λ (z : ℤ). z +ℤ m) h.at_y ∙ move_ends position.y b; at_font = h.at_font; at_stack = h.at_stack; used = h.used; current = h.current })
      (λ fs p. refl)
    where
      m : ℤ
      m = b -ℤ position.y

  -- ---- put1

  pub leads_put : (f c : ℕ) → position.font ≡ some f → Leads cs position (PUT1 ∷ c ∷ []) (char_mark (per_unit *ℤ position.x) (per_unit *ℤ position.y) (pos f) c ∷ []) cs position
  unfolding decode layout_of first_layouts with_parameters in_file number_from effect put_here
  leads_put f c e =
      record {
        lead = λ fs p h. record {
          fonts = fs;
          page = p;
          stands = h;
          goes = goes_command fs p (inside fs p) (put (pos c)) (char_mark (per_unit *ℤ position.x) (per_unit *ℤ position.y) (pos f) c ∷ []) PUT1 (c ∷ []) decoded (puts fs p h);
        };
      }
    where
      decoded : (rest : List ℕ) → decode PUT1 (c ∷ rest) ≡ command (put (pos c)) 1
      decoded rest = rw (le-leb 1 (length (c ∷ rest)) (omega arith)) (ap (λ (n : ℕ). command (put (pos n)) 1) (omega arith))

      puts : (fs : List ℤ) (p : Page) → Stands cs position fs p → effect fs p (put (pos c)) ≡ leads (inside fs p) (char_mark (per_unit *ℤ position.x) (per_unit *ℤ position.y) (pos f) c ∷ [])
      puts fs p h = rw (h.at_font ∙ ap as_signed e, h.at_x, h.at_y)
