-- What begins a move, byte by byte; and where a character of a font may stand.
-- Assumes nothing.
use mathlib.Core.Path.{◌≡◌, refl, sym, ap, ◌∙◌}
use mathlib.Core.Bool.{Bool, false, ◌&&◌}
use mathlib.Core.Option.{Option}
use mathlib.Core.List.{List, [], ◌∷◌, ◌++◌, append-nil}
use Prim.Native.Nat.{ℕ, zero, suc, ◌+◌, ◌-◌, ◌≤◌, ◌<◌}
use native.Mathlib.Omega.{arith}
use borrow.Author.Tests.{eq-eqb, ne_eqb}
use lib.Dec.{eqb}
use lib.IntN.{ℤ}
use lib.ListN.{length, get_or, take, drop, length-drop, drop_of_length-le}
use lib.Seq.{sets, drop-cons, take_all}
use Rattle.std.specs.List.{starts_with}
use Rattle.octets.specs.Octets.{bytes, residue, signed_bytes}
use Rattle.octets.specs.OctetsLaws.{word_bytes}
use Rattle.octets.specs.Write.{sets_start}
use Rattle.dvi2.specs.Writer.{parameter_width, shortest}
use Rattle.galley_file.specs.Font.{size_index, is_double}
use Rattle.galley_file.specs.Character.{valid_x}
use Rattle.dvi2_reading.specs.PageReading.{begins, valid_in}
use Rattle.dvi.specs.FontOrNone.{font_or_none, font_some}

-- ---- beginnings

-- all bytes from k on
pub tail_is : (xs : List ℕ) (k n : ℕ) → length xs ≡ n → take (n - k) (drop k xs) ≡ drop k xs
tail_is xs k n e = take_all (n - k) (drop k xs) (omega (arith, length-drop k xs))

pub starts_begins : (e s : List ℕ) → starts_with eqb e s ≡ begins s e
unfolding begins
starts_begins e [] = refl
starts_begins [] (x ∷ s) = refl
starts_begins (y ∷ e) (x ∷ s) = ap (λ (t : Bool). eqb x y && t) (starts_begins e s)

-- ---- numbers

pub no_font : (x : ℤ) (f : ℕ) → f ≡ 255 → false ≡ valid_in (font_or_none f) x
unfolding font_or_none
no_font x f e = rw (eq-eqb f 255 e)

pub valid_font : (x : ℤ) (f i : ℕ) (d : Bool) → (f ≡ 255 → ⊥) → i ≡ size_index f → d ≡ is_double i → valid_x d x ≡ valid_in (font_or_none f) x
valid_font x f i d n a b = ap (λ (t : Bool). valid_x t x) (b ∙ ap is_double a) ∙ sym (ap (λ (o : Option ℕ). valid_in o x) (font_some f n))

-- ---- a move's bytes

drop_bytes : (n k : ℕ) → k ≤ 4 → drop (4 - k) (bytes 4 n) ≡ bytes k n
unfolding bytes
drop_bytes n zero h = refl
drop_bytes n (suc zero) h = refl
drop_bytes n (suc (suc zero)) h = refl
drop_bytes n (suc (suc (suc zero))) h = refl
drop_bytes n (suc (suc (suc (suc zero)))) h = refl
drop_bytes n (suc (suc (suc (suc (suc k))))) h = absurd (omega arith)

-- the last k bytes of four
pub drop_signed : (m : ℤ) (k : ℕ) → k ≤ 4 → drop (4 - k) (signed_bytes 4 m) ≡ signed_bytes k m
unfolding signed_bytes
drop_signed m k h = drop_bytes (residue 4294967296 m) k h ∙ word_bytes k m h

-- four bytes written over four
pub over_four : (e xs : List ℕ) → length e ≡ 4 → length xs ≡ 4 → sets e 0 xs ≡ xs
over_four e xs l m = sets_start e xs (omega arith) ∙ ap (λ (t : List ℕ). xs ++ t) (drop_of_length-le e {i = length xs} (omega arith)) ∙ append-nil xs

module _ (s : List ℕ) (at : ℕ) (op w : ℕ) (m : ℤ) (h : at < length s) (e : w ≡ parameter_width m) where
  pub move_other : (get_or s at 0 ≡ op + (w - 1) → ⊥) → begins (drop at s) (shortest op m) ≡ false
  unfolding begins shortest
  move_other n = rw (drop-cons s at 0 h, ← e, ne_eqb (get_or s at 0) (op + (w - 1)) n)

  pub move_begins : get_or s at 0 ≡ op + (w - 1) → begins (drop at s) (shortest op m) ≡ begins (drop (suc at) s) (signed_bytes w m)
  unfolding begins shortest
  move_begins q = rw (drop-cons s at 0 h, ← e, eq-eqb (get_or s at 0) (op + (w - 1)) q)
