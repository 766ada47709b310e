-- How commands stand in bytes, for the numbers that the code computes from the first byte.
-- Assumes nothing.
use mathlib.Core.Path.{◌≡◌, refl, sym, ap, ◌∙◌, subst}
use mathlib.Core.Bool.{Bool, true, false, cond}
use mathlib.Core.List.{List}
use Prim.Native.Nat.{ℕ, zero, suc, ◌+◌, ◌-◌, ◌≤◌, ◌<◌}
use native.Mathlib.Decide.{ℕ_discrete}
use native.Mathlib.Nat.{suc-ne-zero}
use native.Mathlib.Omega.{arith}
use borrow.Author.Tests.{lt-ltb, le-ltb, le-leb, lt-leb}
use lib.Dec.{leb}
use lib.IntN.{ℤ, pos}
use lib.ListN.{length, take}
use Rattle.std.specs.Prelude.{Option, Some, None}
use Rattle.octets.specs.Octets.{signed, signed_at}
use Rattle.dvi.specs.Command.{FONTNUM, Command, set_char, vert_rule, horz_rule, horz_char, set_font, Layout, bare, takes, layouts, layout_of, no_command, cut_short, command, with_parameters, decode}
use Rattle.dvi_command.specs.Command.{parameter_if, parameter_of, still_of, moving_of}
use Rattle.dvi_command.specs.declared.Amount.{Amount}
use Rattle.dvi_command.specs.declared.Amount.TheVariants.{W, X, Y, Z}

-- what holds at each of n numbers from k on, written out
abbrev Each : (ℕ → Type 0) → ℕ → ℕ → Type 0
Each P k zero = Unit {0}
Each P k (suc n) = P k × Each P (suc k) n

by_discrete : {X : Type 0} (i k : ℕ) → (i ≡ k → X) → ((i ≡ k → ⊥) → X) → X
by_discrete {X} i k f g = by (ℕ_discrete i k)
  where
    by : Dec (i ≡ k) → X
    by (yes e) = f e
    by (no n) = g n

each : (P : ℕ → Type 0) (n k : ℕ) → Each P k n → (i : ℕ) → k ≤ i → i < k + n → P i
each P zero k ps i h g = absurd (omega arith)
each P (suc n) k ps i h g =
    by_discrete i k (λ e. subst P (sym e) ps.0) (λ f. each P n (suc k) ps.1 i (omega arith) (omega arith))

-- the command with first byte op, from the layout of op
pub arm : (op k : ℕ) (ps : List ℕ) (f : Layout) → op ≡ k → layout_of k ≡ f → with_parameters f ps ≡ decode op ps
unfolding decode
arm op k ps f o e = ap (λ (g : Layout). with_parameters g ps) (sym e) ∙ ap (λ (n : ℕ). decode n ps) (sym o)

-- the four commands from k on move by one amount: with four bytes, three, two and none
pub record Moves (k : ℕ) (amount : Amount) : Type 0 where
  pub four : layout_of k ≡ takes 4 (moving_of amount)
  pub three : layout_of (k + 1) ≡ takes 3 (moving_of amount)
  pub two : layout_of (k + 2) ≡ takes 2 (moving_of amount)
  pub none : layout_of (k + 3) ≡ bare (still_of amount)

pub moves_w : Moves 138 W
unfolding layout_of layouts
moves_w = record { four = refl; three = refl; two = refl; none = refl }

pub moves_x : Moves 142 X
unfolding layout_of layouts
moves_x = record { four = refl; three = refl; two = refl; none = refl }

pub moves_y : Moves 146 Y
unfolding layout_of layouts
moves_y = record { four = refl; three = refl; two = refl; none = refl }

pub moves_z : Moves 150 Z
unfolding layout_of layouts
moves_z = record { four = refl; three = refl; two = refl; none = refl }

pub arm_none : (op k : ℕ) (amount : Amount) (ps : List ℕ) {c : Command} → op ≡ k → layout_of k ≡ bare (still_of amount) → c ≡ still_of amount → command c 0 ≡ decode op ps
unfolding with_parameters
arm_none op k amount ps o e q = ap (λ (c : Command). command c 0) q ∙ arm op k ps (bare (still_of amount)) o e

pub none_of : (r : Option ℤ) → ((m : ℤ) → r ≡ Some m → ⊥) → r ≡ None
none_of (Some m) f = absurd (f m refl)
none_of None f = refl

-- a parameter that is there, and one that is not
module _ (n : ℕ) (f : ℤ → Command) where
  there : (b : Bool) (v m : ℤ) → parameter_if b v ≡ Some m → cond b (command (f v) n) cut_short ≡ command (f m) n
  there true v m e = let d : v ≡ m = cc in ap (λ (u : ℤ). command (f u) n) d
  there false v m e = absurd (suc-ne-zero 0 cc)

  missing : (b : Bool) (v : ℤ) → parameter_if b v ≡ None → cond b (command (f v) n) cut_short ≡ cut_short
  missing true v e = absurd (suc-ne-zero 0 cc)
  missing false v e = refl

  pub with_value : (ps : List ℕ) (m : ℤ) → parameter_of n ps ≡ Some m → with_parameters (takes n f) ps ≡ command (f m) n
  unfolding with_parameters parameter_of
  with_value ps m e = there (leb n (length ps)) (signed (take n ps)) m e

  pub with_none : (ps : List ℕ) → parameter_of n ps ≡ None → with_parameters (takes n f) ps ≡ cut_short
  unfolding with_parameters parameter_of
  with_none ps e = missing (leb n (length ps)) (signed (take n ps)) e

pub parameter_value : (n : ℕ) (ps : List ℕ) (m : ℤ) → n ≤ length ps → m ≡ signed (take n ps) → Some m ≡ parameter_of n ps
unfolding parameter_of
parameter_value n ps m h d = rw (le-leb n (length ps) h) (ap Some d)

pub parameter_short : (n : ℕ) (ps : List ℕ) → length ps < n → None ≡ parameter_of n ps
unfolding parameter_of
parameter_short n ps h = rw (lt-leb n (length ps) h)

-- BOP and PST, among 128 to 133
pub decode_barred : (op : ℕ) (ps : List ℕ) → 128 ≤ op → op < 134 → (op ≡ 128 → ⊥) → (op ≡ 130 → ⊥) → (op ≡ 132 → ⊥) → (op ≡ 133 → ⊥) → no_command ≡ decode op ps
unfolding decode layout_of layouts with_parameters
decode_barred op ps =
    each (λ (o : ℕ). (o ≡ 128 → ⊥) → (o ≡ 130 → ⊥) → (o ≡ 132 → ⊥) → (o ≡ 133 → ⊥) → no_command ≡ decode o ps) 6 128
    ((λ a b c d. absurd (a refl)), ((λ a b c d. refl), ((λ a b c d. absurd (b refl)), ((λ a b c d. refl), ((λ a b c d. absurd (c refl)), ((λ a b c d. absurd (d refl)), tt))))))
    op

-- the two rules
pub decode_rule_cut : (op : ℕ) (ps : List ℕ) → 134 ≤ op → op < 136 → length ps < 8 → cut_short ≡ decode op ps
unfolding decode layout_of layouts with_parameters
decode_rule_cut op ps h g l =
    each (λ (o : ℕ). cut_short ≡ decode o ps) 2 134 (rw (lt-leb 8 (length ps) l), (rw (lt-leb 8 (length ps) l), tt)) op h g

module _ (ps : List ℕ) (l : 8 ≤ length ps) (h w : ℤ) (e : h ≡ signed (take 4 ps)) (f : w ≡ signed_at 4 4 ps) where
  pub decode_vert : (op : ℕ) → op ≡ 134 → command (vert_rule h w) 8 ≡ decode op ps
  unfolding decode layout_of layouts with_parameters
  decode_vert op o = rw (o, e, f) (sym (rw (le-leb 8 (length ps) l)))

  pub decode_horz : (op : ℕ) → op ≡ 135 → command (horz_rule h w) 8 ≡ decode op ps
  unfolding decode layout_of layouts with_parameters
  decode_horz op o = rw (o, e, f) (sym (rw (le-leb 8 (length ps) l)))

pub decode_horz_char : (op : ℕ) (ps : List ℕ) → op ≡ 136 → decode op ps ≡ with_parameters (takes 1 horz_char) ps
unfolding decode layout_of layouts
decode_horz_char op ps o = ap (λ (n : ℕ). decode n ps) o

pub decode_font : (op : ℕ) (ps : List ℕ) → op ≡ 137 → decode op ps ≡ with_parameters (takes 4 set_font) ps
unfolding decode layout_of layouts
decode_font op ps o = ap (λ (n : ℕ). decode n ps) o

pub decode_set : (op : ℕ) (ps : List ℕ) → op < 128 → command (set_char op) 0 ≡ decode op ps
unfolding decode layout_of with_parameters
decode_set op ps h = rw (lt-ltb op 128 h)

pub decode_fontnum : (op : ℕ) (ps : List ℕ) → FONTNUM ≤ op → op < 218 → command (set_font (pos (op - FONTNUM))) 0 ≡ decode op ps
unfolding decode layout_of with_parameters
decode_fontnum op ps h g = rw (le-ltb op 128 (omega arith), le-ltb op FONTNUM h, lt-ltb op 218 g)

pub decode_undefined : (op : ℕ) (ps : List ℕ) → 218 ≤ op → no_command ≡ decode op ps
unfolding decode layout_of with_parameters
decode_undefined op ps h = rw (le-ltb op 128 (omega arith), le-ltb op FONTNUM (omega arith), le-ltb op 218 h)

-- of two numbers from k on, the one that is not the first
pub second_of : (k n : ℕ) → k ≤ n → n < k + 2 → (n ≡ k → ⊥) → n ≡ k + 1
second_of k n h g a = omega arith
