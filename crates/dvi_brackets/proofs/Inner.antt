-- Commands that are neither PUSH nor POP.
--     Inner, InnerDecoded     such a command, decoded; EOP among them has no parameters
--     inner_decoded           every other first byte gives such a command
--     onto, Onto              a page, and an effect, with another stack
--     effect_onto             such a command does not look at the stack, but for EOP
-- Assumes nothing.
use Rattle.std.specs.Prelude.{◌≡◌, Bool, true, false, cond, ◌&&◌, ◌⊎◌, List, [], ◌∷◌, ℕ, zero, suc, ◌-◌, ltb, leb, ℤ, pos, negsuc, length, get_or, drop}
use Rattle.std.proofs.Math.Path.{refl}
use Rattle.std.proofs.Math.Logic.{inl, inr}
use Rattle.std.proofs.Math.Option.{Option, none, some}
use Rattle.std.proofs.Common.{arith, ltb-false}
use Rattle.octets.specs.Octets.{fits32}
use Rattle.octets.specs.OctetsLaws.{by_cond}
use Rattle.octets.specs.Answer.{cannot_set, out_of32_bits}
use Rattle.sheet.specs.Readable.{font_chars}
use Rattle.dvi.specs.Command.{PUSH, POP, FONTNUM, Command, NoBracket, set_char, nop, eop, push, pop, vert_rule, horz_rule, horz_char, set_font, move_w, move_w0, move_x, move_x0, move_y, move_y0, move_z, move_z0, Layout, barred, bare, takes, takes_two, layouts, layout_of, Decoded, no_command, cut_short, command, with_parameters, decode}
use Rattle.sheet.specs.Sheet.{Mark}
use Rattle.dvi.specs.Page.{Numbers, Page, Effect, fault, moved, marked, ended, with_numbers, with_font, if_fits, go_to, show_and_go_to, char_here, rule_here, width_in, set_moving, set_in_font, set_still, effect}

-- ---- which commands are neither PUSH nor POP

-- the command c with n bytes of parameters is neither; EOP has no parameters
abbrev pub Inner : Command → ℕ → Type 0
Inner c n = NoBracket c × (c ≡ eop → n ≡ 0)

abbrev pub InnerDecoded : Decoded → Type 0
InnerDecoded no_command = Unit {0}
InnerDecoded cut_short = Unit {0}
InnerDecoded (command c n) = Inner c n

abbrev InnerLayout : Layout → Type 0
InnerLayout barred = Unit {0}
InnerLayout (bare c) = Inner c 0
InnerLayout (takes n c) = (z : ℤ) → Inner (c z) n
InnerLayout (takes_two c) = (z w : ℤ) → Inner (c z w) 8

abbrev AllInner : List Layout → Type 0
AllInner [] = Unit {0}
AllInner (f ∷ fs) = InnerLayout f × AllInner fs

inner_entry : (fs : List Layout) → AllInner fs → (k : ℕ) → InnerLayout (get_or fs k barred)
inner_entry [] h k = tt
inner_entry (f ∷ fs) h zero = h.0
inner_entry (f ∷ fs) h (suc k) = inner_entry fs h.1 k

-- from VERTRULE on
inner_rest : AllInner (drop 6 layouts)
unfolding layouts
inner_rest = ((λ z w. (tt, λ e. cc)), ((λ z w. (tt, λ e. cc)), ((λ z. (tt, λ e. cc)), ((λ z. (tt, λ e. cc)), ((λ z. (tt, λ e. cc)), ((λ z. (tt, λ e. cc)), ((λ z. (tt, λ e. cc)), ((tt, λ _. refl), ((λ z. (tt, λ e. cc)), ((λ z. (tt, λ e. cc)), ((λ z. (tt, λ e. cc)), ((tt, λ _. refl), ((λ z. (tt, λ e. cc)), ((λ z. (tt, λ e. cc)), ((λ z. (tt, λ e. cc)), ((tt, λ _. refl), ((λ z. (tt, λ e. cc)), ((λ z. (tt, λ e. cc)), ((λ z. (tt, λ e. cc)), ((tt, λ _. refl), tt))))))))))))))))))))

inner_table : (k : ℕ) → (k ≡ 4 → ⊥) → (k ≡ 5 → ⊥) → InnerLayout (get_or layouts k barred)
unfolding layouts
inner_table zero h g = (tt, λ _. refl)
inner_table (suc zero) h g = tt
inner_table (suc (suc zero)) h g = (tt, λ _. refl)
inner_table (suc (suc (suc zero))) h g = tt
inner_table (suc (suc (suc (suc zero)))) h g = absurd (h refl)
inner_table (suc (suc (suc (suc (suc zero))))) h g = absurd (g refl)
inner_table (suc (suc (suc (suc (suc (suc k)))))) h g = inner_entry (drop 6 layouts) inner_rest k

inner_layout : (b : ℕ) → (b ≡ PUSH → ⊥) → (b ≡ POP → ⊥) → InnerLayout (layout_of b)
unfolding layout_of
inner_layout b h g =
    by_cond InnerLayout (ltb b 128) _ _ (λ _. (tt, λ _. refl))
    (λ e.
    let l = ltb-false b 128 e in
    by_cond InnerLayout (ltb b FONTNUM) _ _
    (λ _. inner_table (b - 128) (λ k. h (omega (arith, k, l))) (λ k. g (omega (arith, k, l))))
    (λ _. by_cond InnerLayout (ltb b 218) _ _ (λ _. (tt, λ _. refl)) (λ _. tt)))

inner_parameters : (f : Layout) (ps : List ℕ) → InnerLayout f → InnerDecoded (with_parameters f ps)
unfolding with_parameters
inner_parameters barred ps h = tt
inner_parameters (bare c) ps h = h
inner_parameters (takes n c) ps h = by_cond InnerDecoded (leb n (length ps)) _ _ (λ _. h _) (λ _. tt)
inner_parameters (takes_two c) ps h = by_cond InnerDecoded (leb 8 (length ps)) _ _ (λ _. h _ _) (λ _. tt)

pub inner_decoded : (b : ℕ) (ps : List ℕ) → (b ≡ PUSH → ⊥) → (b ≡ POP → ⊥) → InnerDecoded (decode b ps)
unfolding decode
inner_decoded b ps h g = inner_parameters (layout_of b) ps (inner_layout b h g)

-- ---- such a command does not look at the stack

-- the page p with the stack st
abbrev pub onto : Page → List Numbers → Page
onto p st = record { numbers = p.numbers; font = p.font; stack = st }

abbrev pub onto_effect : List Numbers → Effect → Effect
onto_effect st (fault k) = fault k
onto_effect st (moved q) = moved (onto q st)
onto_effect st (marked q m) = marked (onto q st) m
onto_effect st ended = ended

-- the page does not end
abbrev pub Goes : Effect → Type 0
Goes (fault k) = Unit {0}
Goes (moved q) = Unit {0}
Goes (marked q m) = Unit {0}
Goes ended = ⊥

-- a is what e is with the stack st, and does not end the page
abbrev pub Onto : List Numbers → Effect → Effect → Type 0
Onto st a e = (a ≡ onto_effect st e) × Goes e

module _ (ws : List ℤ) (p : Page) (st : List Numbers) where
  if_onto : (t : Bool) (e : Effect) (k : ℕ) → Goes e → Onto st (cond t (onto_effect st e) (fault k)) (cond t e (fault k))
  if_onto true e k g = (refl, g)
  if_onto false e k g = (refl, tt)

  go_onto : (n : Numbers) → Onto st (go_to (onto p st) n) (go_to p n)
  unfolding go_to with_numbers if_fits
  go_onto n = if_onto (fits32 n.x_at && fits32 n.y_at) (moved (with_numbers p n)) out_of32_bits tt

  show_onto : (m : Mark) (n : Numbers) → Onto st (show_and_go_to (onto p st) m n) (show_and_go_to p m n)
  unfolding show_and_go_to with_numbers if_fits
  show_onto m n = if_onto (fits32 n.x_at && fits32 n.y_at) (marked (with_numbers p n) m) out_of32_bits tt

  moving_onto : (c : ℕ) (f : ℤ) (w : Option ℤ) → Onto st (set_moving (onto p st) c f w) (set_moving p c f w)
  unfolding set_moving char_here
  moving_onto c f none = (refl, tt)
  moving_onto c f (some w) = show_onto _ _

  font_onto : (c : ℕ) (f : Option ℤ) → Onto st (set_in_font ws (onto p st) c f) (set_in_font ws p c f)
  unfolding set_in_font
  font_onto c none = (refl, tt)
  font_onto c (some f) = moving_onto c f (width_in ws f c)

  still_onto : (c : ℤ) (f : Option ℤ) → Onto st (set_still (onto p st) c f) (set_still p c f)
  unfolding set_still char_here
  still_onto (pos c) none = (refl, tt)
  still_onto (negsuc c) none = (refl, tt)
  still_onto (pos c) (some f) = if_onto (ltb c font_chars) (marked p (char_here p f c)) cannot_set tt
  still_onto (negsuc c) (some f) = (refl, tt)

  pub effect_onto : (c : Command) (n : ℕ) → Inner c n → (c ≡ eop) ⊎ Onto st (effect ws (onto p st) c) (effect ws p c)
  unfolding effect with_font rule_here
  effect_onto push n h = absurd h.0
  effect_onto pop n h = absurd h.0
  effect_onto eop n h = inl refl
  effect_onto (set_char c) n h = inr (font_onto c p.font)
  effect_onto nop n h = inr (refl, tt)
  effect_onto (vert_rule a w) n h = inr (show_onto _ _)
  effect_onto (horz_rule a w) n h = inr (refl, tt)
  effect_onto (horz_char c) n h = inr (still_onto c p.font)
  effect_onto (set_font f) n h = inr (refl, tt)
  effect_onto (move_w m) n h = inr (go_onto _)
  effect_onto move_w0 n h = inr (go_onto _)
  effect_onto (move_x m) n h = inr (go_onto _)
  effect_onto move_x0 n h = inr (go_onto _)
  effect_onto (move_y m) n h = inr (go_onto _)
  effect_onto move_y0 n h = inr (go_onto _)
  effect_onto (move_z m) n h = inr (go_onto _)
  effect_onto move_z0 n h = inr (go_onto _)
