-- Demand 3 of an edition from one fact: where its files show each x. If that is at most one third of an rsu from the true place, different places show as different.
--     mark_at          the mark of a character, where each x is shown at such a place
--     marks_at         the marks of a list of items, from a page on
--     demanded        demand 3 of an edition whose files show these
-- Assumes nothing.
use Rattle.std.specs.Prelude.{◌≡◌, ℤ, nat_abs, ◌-ℤ◌, ◌*ℤ◌, length}
use Rattle.std.proofs.Math.Path.{refl, ap}
use mathlib.Core.List.{List, [], ◌∷◌}
use Rattle.std.proofs.Math.Option.{some}
use Prim.Native.Nat.{ℕ, zero, suc, ◌≤◌}
use Rattle.std.proofs.Common.{arith}
use Rattle.std.proofs.Math.IntN.{pos}
use Rattle.std.proofs.Math.ListN.{get_elem?}
use Rattle.integers.specs.Parts.{integers, dif_parts, scale_parts, abs_parts}
use Rattle.octets.specs.Answer.{written, if_room}
use Rattle.galley_file.specs.declared.character.Character.{Character}
use Rattle.galley_file.specs.declared.item.Item.{Item}
use Rattle.galley_file.specs.declared.item.Item.TheVariants.{Placed, Cut}
use Rattle.sheet.specs.Sheet.{Mark, page_mark, char_mark}
use Rattle.dvi.specs.Edition.{Edition, ShowsAll, shows_none, shows_next, shows_cut, shown_font, shown_place, Alike, Compared, Within, Demand3}

unfoldable pub mark_at : (ℤ → ℤ) → Character → Mark
mark_at across c = char_mark (across c.x.0) (pos 3 *ℤ (pos 32768 *ℤ c.height.0)) (pos c.font) c.code

unfoldable pub marks_at : (ℤ → ℤ) → ℕ → List Item → List Mark
marks_at across n [] = []
marks_at across n (Placed c ∷ is) = mark_at across c ∷ marks_at across n is
marks_at across n (Cut ∷ is) = page_mark (pos (suc n)) ∷ marks_at across (suc n) is

-- the places that a number is near are one place
near_only : (t a b : ℤ) → nat_abs (t -ℤ pos 32768 *ℤ a) ≤ 1 → nat_abs (t -ℤ pos 32768 *ℤ b) ≤ 1 → a ≡ b
near_only t a b h k =
    let p = pos 32768 *ℤ a in
    let q = pos 32768 *ℤ b in
    omega (integers, abs_parts (t -ℤ p), abs_parts (t -ℤ q), dif_parts t p, dif_parts t q, scale_parts 32768 a, scale_parts 32768 b)

height_only : (h g : ℤ) → pos 3 *ℤ (pos 32768 *ℤ h) ≡ pos 3 *ℤ (pos 32768 *ℤ g) → h ≡ g
height_only h g e =
    omega (integers, scale_parts 3 (pos 32768 *ℤ h), scale_parts 3 (pos 32768 *ℤ g), scale_parts 32768 h, scale_parts 32768 g)

module _ (e : Edition) (across : ℤ → ℤ) (close : e.distance ≤ 1) (near : (x : ℤ) → nat_abs (across x -ℤ pos 32768 *ℤ x) ≤ e.distance) where
  -- ---- what shows a list

  shows_marks : (n : ℕ) (is : List Item) → ShowsAll e.distance n is (marks_at across n is)
  unfolding marks_at mark_at
  shows_marks n [] = shows_none
  shows_marks n (Placed c ∷ is) = shows_next (record { shown_x = across c.x.0; mark_is = refl; near_place = near c.x.0 }) (shows_marks n is)
  shows_marks n (Cut ∷ is) = shows_cut (shows_marks (suc n) is)

  -- ---- two lists

  across_injective : (x y : ℤ) → across x ≡ across y → x ≡ y
  across_injective x y q = near_only (across y) x y (rw q at (within_one x)) (within_one y)
    where
      within_one : (z : ℤ) → nat_abs (across z -ℤ pos 32768 *ℤ z) ≤ 1
      within_one z = omega (arith, near z, close)

  alike : (c d : Character) → Alike c d (mark_at across c) (mark_at across d)
  unfolding mark_at
  alike c d =
      record {
        fonts = (λ q. let f : c.font ≡ d.font = cc in f, λ q. ap pos q);
        places = (
          λ q.
              let x : c.x.0 ≡ d.x.0 = across_injective c.x.0 d.x.0 (ap (λ p. p.0) q) in
              let h : c.height.0 ≡ d.height.0 = height_only c.height.0 d.height.0 (ap (λ p. p.1) q) in
              (λ i. record { 0 = x i }, λ i. record { 0 = h i }),
          λ q i. (across (q.0 i).0, pos 3 *ℤ (pos 32768 *ℤ (q.1 i).0)),
        );
      }

  mark_injective : (c d : Character) → mark_at across c ≡ mark_at across d → c ≡ d
  unfolding mark_at
  mark_injective c d q =
      let a = alike c d in
      let p = a.places.0 (ap shown_place q) in
      let f = a.fonts.0 (ap shown_font q) in
      let k : c.code ≡ d.code = cc in
      (λ i. record { x = p.0 i; height = p.1 i; font = f i; code = k i })

  marks_injective : (n : ℕ) (is js : List Item) → marks_at across n is ≡ marks_at across n js → is ≡ js
  unfolding marks_at mark_at
  marks_injective n [] [] q = refl
  marks_injective n [] (Placed d ∷ js) q = cc
  marks_injective n [] (Cut ∷ js) q = cc
  marks_injective n (Placed c ∷ is) [] q = cc
  marks_injective n (Placed c ∷ is) (Placed d ∷ js) q =
      let p = mark_injective c d (cc) in
      let r = marks_injective n is js (cc) in
      (λ i. Placed (p i) ∷ r i)
  marks_injective n (Placed c ∷ is) (Cut ∷ js) q = cc
  marks_injective n (Cut ∷ is) [] q = cc
  marks_injective n (Cut ∷ is) (Placed d ∷ js) q = cc
  marks_injective n (Cut ∷ is) (Cut ∷ js) q = ap (λ (l : List Item). Cut ∷ l) (marks_injective (suc n) is js (cc))

  -- the mark at an index
  mark_at_lem : (n : ℕ) (is : List Item) (i : ℕ) (c : Character) (m : Mark) → get_elem? is i ≡ some (Placed c) → get_elem? (marks_at across n is) i ≡ some m → m ≡ mark_at across c
  unfolding marks_at
  mark_at_lem n [] i c m q p = cc
  mark_at_lem n (Placed d ∷ is) zero c m q p = let r : d ≡ c = cc in cc (ap (mark_at across) r)
  mark_at_lem n (Placed d ∷ is) (suc i) c m q p = mark_at_lem n is i c m q p
  mark_at_lem n (Cut ∷ is) zero c m q p = cc
  mark_at_lem n (Cut ∷ is) (suc i) c m q p = mark_at_lem (suc n) is i c m q p

  -- ---- the demand

  module _ (fits : (is : List Item) → Within e is → length (e.file is) ≤ e.longest)
      (shown : (is : List Item) → Within e is → e.show (e.file is) ≡ some (page_mark (pos 1) ∷ marks_at across 1 is))
      (back : (is : List Item) → Within e is → (room : ℕ) → e.read (e.file is) room ≡ if_room e.no_room room (written (e.reply is))) where
    compared : {is js : List Item} {ms ns : List Mark} → Within e is → Within e js → e.show (e.file is) ≡ some (page_mark (pos 1) ∷ ms)
        → e.show (e.file js) ≡ some (page_mark (pos 1) ∷ ns) → Compared e is js ms ns
    compared {is} {js} {ms} {ns} v w p q =
        let a : ms ≡ marks_at across 1 is = (let s = shown is v in cc) in
        let b : ns ≡ marks_at across 1 js = (let s = shown js w in cc) in
        record {
          same_file = (
            λ f. marks_injective 1 is js (let s = shown is v in let t = shown js w in let g = ap e.show f in cc),
            ap e.file,
          );
          each = λ i c d m n f g x y.
              rw (mark_at_lem 1 is i c m f (rw a at x), mark_at_lem 1 js i d n g (rw b at y)) (alike c d);
        }

    pub demanded : Demand3 e
    demanded =
        record {
          faithful = λ {is} v. record { file_size = fits is v; marks = marks_at across 1 is; shown = shown is v; all_shown = shows_marks 1 is; read_back = back is v };
          compared = compared;
        }
