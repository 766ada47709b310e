-- What 002 and document 01 say of a page holds of its definition, and no effect makes the stack too high.
--     unset_char, unset_horz_char     no character is set before a font command
--     horz_char_widths                HORZCHAR asks for no width
--     push_pop                       PUSH and POP give back the page
--     horz_char_stays                 HORZCHAR changes nothing on the page
--     effect_stack                   the stack has at most 200 entries
-- Assumes nothing.
use Rattle.std.specs.Prelude.{◌≡◌, refl, ◌&&◌, ℕ, ◌≤◌, ltb, ℤ, pos, negsuc, length}
use Rattle.std.proofs.Common.{sym, ap}
use mathlib.Core.List.{List, [], ◌∷◌}
use Rattle.std.proofs.Math.Option.{Option, none, some}
use native.Mathlib.Omega.{arith}
use borrow.Author.Tests.{ltb-true}
use Rattle.octets.specs.Octets.{fits32}
use Rattle.octets.specs.OctetsLaws.{by_cond}
use Rattle.octets.specs.Answer.{cannot_set}
use Rattle.sheet.specs.Readable.{font_chars}
use Rattle.dvi.specs.Command.{Command, set_char, nop, eop, push, pop, vert_rule, horz_rule, horz_char, set_font, move_w, move_w0, move_x, move_x0, move_y, move_y0, move_z, move_z0}
use Rattle.sheet.specs.Sheet.{Mark}
use Rattle.dvi.specs.Page.{max_stack, Numbers, Page, new_page, Effect, fault, moved, marked, ended, with_numbers, with_font, if_fits, go_to, show_and_go_to, width_in, set_moving, set_in_font, set_still, pushed, popped, end_page, effect}

-- "a character before a font command on the new page is 27"
pub unset_char : (ws : List ℤ) (c : ℕ) → effect ws new_page (set_char c) ≡ fault cannot_set
unfolding effect new_page set_in_font
unset_char ws c = refl

-- HORZCHAR is set in a font beyond the table too: whatever the widths, it does the same
pub horz_char_widths : (ws vs : List ℤ) (p : Page) (c : ℤ) → effect ws p (horz_char c) ≡ effect vs p (horz_char c)
unfolding effect
horz_char_widths ws vs p c = refl

pub unset_horz_char : (ws : List ℤ) (c : ℤ) → effect ws new_page (horz_char c) ≡ fault cannot_set
unfolding effect new_page set_still
unset_horz_char ws (pos c) = refl
unset_horz_char ws (negsuc c) = refl

-- "Pop the W, X, Y, and Z-amounts, and the Y- and X-coordinates off the stack"
pub push_pop : (ws : List ℤ) (p q : Page) → effect ws p push ≡ moved q → effect ws q pop ≡ moved p
unfolding effect pushed popped
push_pop ws p q =
    by_cond (λ (e : Effect). e ≡ moved q → popped q q.stack ≡ moved p) (ltb (length p.stack) max_stack) _ _
    (λ _ e.
    let s : record { numbers = p.numbers; font = p.font; stack = p.numbers ∷ p.stack } ≡ q = cc in
    ap (λ (r : Page). popped r r.stack) (sym s))
    (λ _ e. cc)

-- "Set character 'c', but don't change the current value of the x-coordinate (or y-coordinate, either)"
pub horz_char_stays : (ws : List ℤ) (p q : Page) (c : ℤ) (m : Mark) → effect ws p (horz_char c) ≡ marked q m → q ≡ p
unfolding effect set_still
horz_char_stays ws p q c m = go c p.font
  where
    go : (c : ℤ) (f : Option ℤ) → set_still p c f ≡ marked q m → q ≡ p
    go (pos c) none e = cc
    go (negsuc c) none e = cc
    go (pos c) (some f) e = by_cond (λ (d : Effect). d ≡ marked q m → q ≡ p) (ltb c font_chars) _ _ (λ _ k. cc) (λ _ k. cc) e
    go (negsuc c) (some f) e = cc

-- ---- at most 200 entries

abbrev pub LowEffect : Effect → Type 0
LowEffect (fault n) = Unit {0}
LowEffect (moved p) = length p.stack ≤ max_stack
LowEffect (marked p m) = length p.stack ≤ max_stack
LowEffect ended = Unit {0}

fits_low : (n : Numbers) (e : Effect) → LowEffect e → LowEffect (if_fits n e)
unfolding if_fits
fits_low n e h = by_cond LowEffect (fits32 n.x_at && fits32 n.y_at) _ _ (λ _. h) (λ _. tt)

module _ (ws : List ℤ) (p : Page) (h : length p.stack ≤ max_stack) where
  go_low : (n : Numbers) → LowEffect (go_to p n)
  unfolding go_to with_numbers
  go_low n = fits_low n _ h

  show_low : (m : Mark) (n : Numbers) → LowEffect (show_and_go_to p m n)
  unfolding show_and_go_to with_numbers
  show_low m n = fits_low n _ h

  moving_low : (c : ℕ) (f : ℤ) (w : Option ℤ) → LowEffect (set_moving p c f w)
  unfolding set_moving
  moving_low c f none = tt
  moving_low c f (some w) = show_low _ _

  font_low : (c : ℕ) (f : Option ℤ) → LowEffect (set_in_font ws p c f)
  unfolding set_in_font
  font_low c none = tt
  font_low c (some f) = moving_low c f (width_in ws f c)

  still_low : (c : ℤ) (f : Option ℤ) → LowEffect (set_still p c f)
  unfolding set_still
  still_low (pos c) none = tt
  still_low (negsuc c) none = tt
  still_low (pos c) (some f) = by_cond LowEffect (ltb c font_chars) _ _ (λ _. h) (λ _. tt)
  still_low (negsuc c) (some f) = tt

  push_low : LowEffect (pushed p)
  unfolding pushed
  push_low =
      by_cond LowEffect (ltb (length p.stack) max_stack) _ _ (λ e. ltb-true (length p.stack) max_stack e) (λ _. tt)

  pop_low : (s : List Numbers) → length s ≤ max_stack → LowEffect (popped p s)
  unfolding popped
  pop_low [] g = tt
  pop_low (n ∷ s) g = omega arith

  end_low : (s : List Numbers) → LowEffect (end_page s)
  unfolding end_page
  end_low [] = tt
  end_low (n ∷ s) = tt

  pub effect_stack : (c : Command) → LowEffect (effect ws p c)
  unfolding effect with_font
  effect_stack (set_char c) = font_low c p.font
  effect_stack nop = h
  effect_stack eop = end_low p.stack
  effect_stack push = push_low
  effect_stack pop = pop_low p.stack h
  effect_stack (vert_rule a w) = show_low _ _
  effect_stack (horz_rule a w) = h
  effect_stack (horz_char c) = still_low c p.font
  effect_stack (set_font f) = h
  effect_stack (move_w m) = go_low _
  effect_stack move_w0 = go_low _
  effect_stack (move_x m) = go_low _
  effect_stack move_x0 = go_low _
  effect_stack (move_y m) = go_low _
  effect_stack move_y0 = go_low _
  effect_stack (move_z m) = go_low _
  effect_stack move_z0 = go_low _
