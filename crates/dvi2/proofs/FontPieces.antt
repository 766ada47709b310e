-- What the commands of a font do to a page: its definition, and its selection.
--     leads_font     the commands before a character that change its font
-- Assumes nothing.
use mathlib.Core.Path.{◌≡◌, refl, sym, ap, ◌∙◌}
use mathlib.Core.Bool.{Bool, true, false, ◌||◌}
use mathlib.Core.List.{List, [], ◌∷◌, ◌++◌}
use mathlib.Core.Option.{Option, none, some}
use Prim.Native.Nat.{ℕ, ◌+◌, ◌<◌}
use native.Mathlib.Omega.{arith}
use borrow.Author.Tests.{lt-ltb, le-ltb, le-leb, ltb-true, eqb-true}
use lib.Dec.{ltb, eqb}
use lib.IntN.{ℤ, pos}
use lib.ListN.{length}
use Rattle.integers.specs.Equality.{eq_z, true_eq_z}
use Rattle.octets.specs.Octets.{number_from, bytes}
use Rattle.octets.specs.OctetsLaws.{by_cond}
use Rattle.galley_file.specs.declared.character.Character.{Character}
use Rattle.dvi.specs.Page.{Page, with_font}
use Rattle.extents.specs.FontMarks.{uses}
use Rattle.dvi.specs.Writer.{Position, name_of}
use Rattle.extents.proofs.FontMarksLaws.{uses_more}
use Rattle.dvi2.specs.Command.{FNTNUM0, FNT1, FNTDEF1, set_font, define_font, bare, last_layouts, layout_of, command, in_file, with_parameters, decode}
use Rattle.dvi2.specs.Page.{inside, leads, is_defined, go_to, effect}
use Rattle.dvi2.specs.Writer.{selects, font_units, definition, font_commands, font_change}
use Rattle.dvi2.proofs.Runs.{Goes, goes_nil, goes_append, goes_command, decode_bare}
use Rattle.dvi2.proofs.Leads.{as_signed, Stands, Leads, position_in}

layout_fntnum : (f : ℕ) → f < 64 → layout_of (FNTNUM0 + f) ≡ bare (set_font (pos f))
unfolding layout_of
layout_fntnum f h =
    rw (le-ltb (FNTNUM0 + f) 128 (omega arith), le-ltb (FNTNUM0 + f) FNTNUM0 (omega arith), lt-ltb (FNTNUM0 + f) FNT1 (omega arith))
    (ap (λ (n : ℕ). bare (set_font (pos n))) (omega arith))

decode_fnt1 : (f : ℕ) (rest : List ℕ) → decode FNT1 (f ∷ rest) ≡ command (set_font (pos f)) 1
unfolding decode layout_of last_layouts with_parameters in_file number_from
decode_fnt1 f rest = rw (le-leb 1 (length (f ∷ rest)) (omega arith)) (ap (λ (n : ℕ). command (set_font (pos n)) 1) (omega arith))

-- the parameters of fnt_def1
abbrev defined : ℕ → List ℕ
defined f = f ∷ bytes 4 0 ++ (bytes 4 (font_units f) ++ (bytes 4 (font_units f) ++ (0 ∷ 4 ∷ name_of f)))

decode_definition : (f : ℕ) (rest : List ℕ) → decode FNTDEF1 (defined f ++ rest) ≡ command (define_font (pos f)) 19
unfolding decode layout_of last_layouts with_parameters in_file number_from bytes name_of
decode_definition f rest = rw (le-leb 19 (length (defined f ++ rest)) (omega arith)) (ap (λ (n : ℕ). command (define_font (pos n)) 19) (omega arith))

module _ (fs : List ℤ) (p : Page) where
  goes_define : (f : ℕ) → Goes (inside fs p) (definition f) [] (inside (pos f ∷ fs) p)
  unfolding definition effect go_to name_of bytes
  goes_define f = goes_command fs p (inside (pos f ∷ fs) p) (define_font (pos f)) [] FNTDEF1 (defined f) (decode_definition f) refl

  goes_select : (f : ℕ) → is_defined (pos f) fs ≡ true → Goes (inside fs p) (selects f) [] (inside fs (with_font p (pos f)))
  unfolding selects effect go_to
  goes_select f h =
      by_cond (λ (bs : List ℕ). Goes (inside fs p) bs [] (inside fs (with_font p (pos f)))) (ltb f 64) _ _
      (λ t. goes_command fs p (inside fs (with_font p (pos f))) (set_font (pos f)) [] (FNTNUM0 + f) [] (decode_bare (FNTNUM0 + f) (set_font (pos f)) (layout_fntnum f (ltb-true f 64 t))) chosen)
      (λ t. goes_command fs p (inside fs (with_font p (pos f))) (set_font (pos f)) [] FNT1 (f ∷ []) (decode_fnt1 f) chosen)
    where
      chosen : effect fs p (set_font (pos f)) ≡ leads (inside fs (with_font p (pos f))) []
      chosen = rw h

-- ---- fonts that are defined

or_true : (t : Bool) → (t || true) ≡ true
or_true true = refl
or_true false = refl

defined_still : (f g : ℤ) (fs : List ℤ) → is_defined f fs ≡ true → is_defined f (g ∷ fs) ≡ true
unfolding is_defined
defined_still f g fs h = rw h (or_true (eq_z g f))

defined_now : (f : ℤ) (fs : List ℤ) → is_defined f (f ∷ fs) ≡ true
unfolding is_defined
defined_now f fs = rw (true_eq_z f f (λ i. f))

-- the fonts of one character more
defined_more : (fs : List ℤ) (cs : List Character) (c : Character) → ((f : ℕ) → uses f cs ≡ true → is_defined (pos f) fs ≡ true) → is_defined (pos c.font) fs ≡ true
    → (f : ℕ) → uses f (cs ++ (c ∷ [])) ≡ true → is_defined (pos f) fs ≡ true
defined_more fs cs c h k f e = go (uses f cs) refl (sym (uses_more f cs c) ∙ e)
  where
    go : (t : Bool) → uses f cs ≡ t → (t || eqb c.font f) ≡ true → is_defined (pos f) fs ≡ true
    go true u q = h f u
    go false u q = let g = eqb-true c.font f q in rw g at k

-- ---- the font of a character

module _ (cs : List Character) (position : Position) (c : Character) where
  -- the page in the font of c
  chosen : (fs : List ℤ) (p : Page) → Stands cs position fs p → is_defined (pos c.font) fs ≡ true → Stands (cs ++ (c ∷ [])) (position_in position c.font) fs (with_font p (pos c.font))
  unfolding with_font
  chosen fs p h k =
      record {
        at_x = h.at_x;
        at_y = h.at_y;
        at_font = refl;
        at_stack = h.at_stack;
        used = defined_more fs cs c h.used k;
        current = λ f e. let g : c.font ≡ f = cc in rw g at k;
      }

  leads_commands : Leads cs position (font_commands (uses c.font cs) c.font) [] (cs ++ (c ∷ [])) (position_in position c.font)
  unfolding font_commands
  leads_commands =
      by_cond (λ (bs : List ℕ). Leads cs position bs [] (cs ++ (c ∷ [])) (position_in position c.font)) (uses c.font cs) _ _
      (λ t. record {
        lead = λ fs p h. record {
          fonts = fs;
          page = with_font p (pos c.font);
          stands = chosen fs p h (h.used c.font t);
          goes = goes_select fs p c.font (h.used c.font t);
        };
      })
      (λ t. record {
        lead = λ fs p h. record {
          fonts = pos c.font ∷ fs;
          page = with_font p (pos c.font);
          stands = chosen (pos c.font ∷ fs) p (one_more fs p h) (defined_now (pos c.font) fs);
          goes = goes_append (goes_define fs p c.font) (goes_select (pos c.font ∷ fs) p c.font (defined_now (pos c.font) fs));
        };
      })
    where
      one_more : (fs : List ℤ) (p : Page) → Stands cs position fs p → Stands cs position (pos c.font ∷ fs) p
      one_more fs p h =
          record {
            at_x = h.at_x;
            at_y = h.at_y;
            at_font = h.at_font;
            at_stack = h.at_stack;
            used = λ f e. defined_still (pos f) (pos c.font) fs (h.used f e);
            current = λ f e. defined_still (pos f) (pos c.font) fs (h.current f e);
          }

  -- no command where the font stays
  leads_same : (g : ℕ) → position.font ≡ some g → g ≡ c.font → Leads cs position [] [] (cs ++ (c ∷ [])) (position_in position c.font)
  leads_same g e k =
      record {
        lead = λ fs p h. record {
          fonts = fs;
          page = p;
          stands = record {
            at_x = h.at_x;
            at_y = h.at_y;
            at_font = h.at_font ∙ ap as_signed (e ∙ ap some k);
            at_stack = h.at_stack;
            used = defined_more fs cs c h.used (h.current c.font (e ∙ ap some k));
            current = λ f q. h.current f (e ∙ ap some k ∙ q);
          };
          goes = goes_nil (inside fs p);
        };
      }

  pub leads_font : Leads cs position (font_change (uses c.font cs) position.font c.font) [] (cs ++ (c ∷ [])) (position_in position c.font)
  unfolding font_change
  leads_font = go position.font refl
    where
      go : (o : Option ℕ) → position.font ≡ o → Leads cs position (font_change (uses c.font cs) o c.font) [] (cs ++ (c ∷ [])) (position_in position c.font)
      go none e = leads_commands
      go (some g) e =
          by_cond (λ (bs : List ℕ). Leads cs position bs [] (cs ++ (c ∷ [])) (position_in position c.font)) (eqb g c.font) _ _
          (λ t. leads_same g e (eqb-true g c.font t))
          (λ t. leads_commands)
