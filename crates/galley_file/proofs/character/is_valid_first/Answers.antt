-- `galley_file::character::is_valid_first` meets its contract: an x that is at most 3,184 as a natural number is that number, and is
-- valid in every size.
-- Assumes nothing.
use mathlib.Core.Path.{◌≡◌, refl, sym, ap, ◌∙◌}
use mathlib.Core.Bool.{Bool, true, false, ◌&&◌}
use Prim.Native.Nat.{ℕ, ◌+◌, ◌≤◌}
use native.Mathlib.Omega.{arith}
use lib.IntN.{ℤ, pos, negsuc}
use lib.Dec.{leb, ltb}
use lib.ListN.{get_or}
use lib.Signed.{le_z, ◌≤ℤ◌}
use Rattle.integers.specs.Parts.{integers, true_le_z}
use Rattle.octets.specs.Octets.{nat_at, signed_at}
use Rattle.octets.specs.OctetsLaws.{signed_at_twos, twos_low}
use Rattle.measure.specs.Place.{within}
use Rattle.galley_file.specs.declared.character.Character.{Character}
use Rattle.galley_file.specs.Font.{size_index, is_double}
use Rattle.galley_file.specs.Form.{height_bytes, greatest_height}
use Rattle.galley_file.specs.FormLaws.{form_sizes}
use Rattle.galley_file.specs.Character.{valid_x, valid, character_at}
use Rattle.galley_file.proofs.character.is_valid_first.Goals as goal
use Rattle.galley_file.proofs.character.is_valid_first.Goals.{After-character_at-c}

-- an x of 0 to 3,184 is valid in every size
every-size : (d : Bool) (n : ℕ) → n ≤ 3184 → valid_x d (pos n) ≡ true
every-size true n h =
    let l : le_z (negsuc 54) (pos n) ≡ true = omega integers in
    let r : le_z (pos n) (pos 3184) ≡ true = omega integers in
    rw (l, r)
every-size false n h =
    let l : le_z (pos 0) (pos n) ≡ true = omega integers in
    let r : le_z (pos n) (pos 3239) ≡ true = omega integers in
    rw (l, r)

-- the height is in range, so the rest decides
by-rest : (top : ℤ) (n : ℕ) (t : Bool) → pos n ≤ℤ top → (t && within top (pos n)) ≡ t
by-rest top n t h =
    let l : le_z (pos n) top ≡ true = true_le_z (pos n) top (omega (integers, h)) in
    let z : le_z (pos 0) (pos n) ≡ true = true_le_z (pos 0) (pos n) (omega integers) in
    rw (z, l) (ends t)
  where
    ends : (t : Bool) → (t && true) ≡ t
    ends true = refl
    ends false = refl

module _ (c : After-character_at-c) where
  rest-decides : (t : Bool) → let s = c.args.s.now in (t && within (greatest_height c.args.f) (pos (nat_at (height_bytes c.args.f) 5 s))) ≡ t
  rest-decides t = by-rest (greatest_height c.args.f) _ t c.requires.1

pub returns-then-nat2_at : goal.returns-then-nat2_at
unfolding valid character_at
returns-then-nat2_at c =
    let s = c.args.s.now in
    let n = c.nat2_at in
    let l : nat_at 2 3 s ≤ 3184 = omega (arith, n.ensures.0, c.if-nat2_at.true) in
    let x : signed_at 2 3 s ≡ pos (nat_at 2 3 s) = signed_at_twos 2 3 s (omega (arith, c.requires.0, (form_sizes c.args.f).size_is)) ∙ twos_low 65536 (nat_at 2 3 s) (omega arith) in
    let e = every-size (is_double (size_index (get_or s (0 + (height_bytes c.args.f + 5)) 0))) (nat_at 2 3 s) l in
    c.valid_beside_x.ensures
    ∙ ap (λ (g : Character). ltb g.font 120 && leb 1 g.code && leb g.code 108 && true) c.character_at-c.ensures
    ∙ simp (x, e) (sym (rest-decides (goal.at.returns-then-nat2_at c).After-character_at-c _))

pub returns-else-nat2_at : goal.returns-else-nat2_at
unfolding valid character_at
returns-else-nat2_at c =
    c.valid_but_height.ensures
    ∙ ap (λ (g : Character). ltb g.font 120 && leb 1 g.code && leb g.code 108 && valid_x (is_double (size_index g.font)) g.x.0) c.character_at-c.ensures
    ∙ sym (rest-decides (goal.at.returns-else-nat2_at c).After-character_at-c _)
