-- The steps of a move right and of a move down, each by the tests that the code makes.
-- Assumes nothing.
use mathlib.Core.Path.{◌≡◌, refl, sym, ap, subst, ◌∙◌}
use mathlib.Core.Bool.{true, false, not, ◌&&◌}
use mathlib.Core.List.{List, ◌∷◌}
use Prim.Native.Nat.{ℕ, ◌+◌, ◌*◌, ◌%◌, ◌≤◌, ◌<◌}
use native.Mathlib.Omega.{arith}
use borrow.Author.Tests.{eq-eqb, le-leb}
use lib.Dec.{eqb, leb}
use lib.IntN.{ℤ, pos, ◌+ℤ◌, ◌-ℤ◌}
use lib.ListN.{length, take}
use lib.Signed.{mag}
use Rattle.integers.specs.Equality.{eq_z}
use Rattle.octets.specs.Octets.{Bytes, signed}
use Rattle.octets.specs.FieldLaws.{both}
use Rattle.measure.specs.Target.{entry_x}
use Rattle.measure.proofs.TargetLaws.{move_ends}
use Rattle.galley_file.specs.Font.{size_index, is_double}
use Rattle.dvi2.specs.Command.{RIGHT1, DOWN1}
use Rattle.dvi2.specs.Writer.{parameter_width, shortest}
use Rattle.dvi2_reading.specs.PageReading.{begins, across, downward, in_bytes, PageState, before_right, before_down, is_more, valid_in, is_downward, may_come, some_below, lowest}
use Rattle.dvi2_reading.specs.Reading.{in_page, page_state_after, refuse, short, go, step, places, heights}
use Rattle.dvi2_reading.proofs.BytesLaws.{both_true, begins_is, some_found, found_some}
use Rattle.dvi2_reading.proofs.PieceLaws.{move_between, x_mag}
use Rattle.dvi2_reading.proofs.WayLaws.{font_there}
use Rattle.dvi2_reading.proofs.CharacterPath.{mag_dif, down_mag}
use Rattle.dvi2_reading.proofs.MayLaws.{way₃, way₄, as_such, counted, down_counted}
use Rattle.dvi2_state.specs.Page.{right_begins, down_begins}
use Rattle.dvi2_reading.proofs.StepLaws.{page_refuse}
use Rattle.dvi2_state.proofs.Searches.{false_right}
use Rattle.dvi2_moves.proofs.CommandKinds.{move_right, move_down, MoveCase, move_not, move_bad, move_go, move_early, move_short}
use Rattle.dvi2_state.proofs.Searches.{no_truth}

-- ---- moves right

across_bytes : (m : ℤ) → in_bytes (across m) ≡ shortest RIGHT1 m
unfolding in_bytes
across_bytes m = refl

down_bytes : (m : ℤ) → in_bytes (downward m) ≡ shortest DOWN1 m
unfolding in_bytes
down_bytes m = refl

near_move : (a m : ℤ) → mag a < 4000000 → mag (a +ℤ m) < 4000000 → mag m < 2147483648
near_move a m h k = subst (λ (z : ℤ). mag z < 2147483648) (move_between a m) (mag_dif (a +ℤ m) a k h)

module _ (h : PageState) (b : ℕ) (ps : List ℕ) (k : ℕ) where
  pub right_parts : (m : ℤ) → may_come h (across m) ≡ true
      → (is_more h.items ≡ true) × ((before_right h.stage ≡ true) × ((not (eq_z m (pos 0)) ≡ true) × (valid_in h.position.font (h.position.x +ℤ m) ≡ true)))
  unfolding may_come
  right_parts m e =
      let b₁ = both (is_more h.items) (before_right h.stage && (not (eq_z m (pos 0)) && valid_in h.position.font (h.position.x +ℤ m))) e in
      let b₂ = both (before_right h.stage) (not (eq_z m (pos 0)) && valid_in h.position.font (h.position.x +ℤ m)) b₁.1 in
      let b₃ = both (not (eq_z m (pos 0))) (valid_in h.position.font (h.position.x +ℤ m)) b₂.1 in
      (b₁.0, (b₂.0, (b₃.0, b₃.1)))

  pub parts_right : (m : ℤ) → is_more h.items ≡ true → before_right h.stage ≡ true → not (eq_z m (pos 0)) ≡ true → valid_in h.position.font (h.position.x +ℤ m) ≡ true → may_come h (across m) ≡ true
  unfolding may_come
  parts_right m a c d e = rw (a, c, d) e

  right_case : mag h.position.x < 4000 → 1 ≤ k → k ≤ 4 → b ≡ 142 + k → MoveCase h b ps k
  unfolding in_bytes
  right_case x l u o =
      record {
        op = RIGHT1;
        mk = across;
        bytes_of = λ m. refl;
        mk_fits = λ m s. s;
        near = λ m c.
            let t = font_there h.position.font (h.position.x +ℤ m) (right_parts m c).1.1.1 in
            let g = x_mag (is_double (size_index t.font)) (h.position.x +ℤ m) t.x_valid in
            near_move h.position.x m (omega arith) (omega arith);
        lo = l;
        hi = u;
        op_is = omega arith;
        only_move = move_right b ps (omega arith) (omega arith);
      }

  module _ (x : mag h.position.x < 4000) (lo : 1 ≤ k) (hi : k ≤ 4) (o : b ≡ 142 + k) where
    pub right_not : before_right h.stage ≡ false → step (in_page h) b ps ≡ refuse
    unfolding may_come right_case
    right_not e = move_not h b ps k (right_case x lo hi o) (λ m. no m)
      where
        no : (m : ℤ) → (is_more h.items && (before_right h.stage && (not (eq_z m (pos 0)) && valid_in h.position.font (h.position.x +ℤ m)))) ≡ false
        no m = rw e (false_right (is_more h.items))

    pub right_bad : (l : k ≤ length ps) → (parameter_width (signed (take k ps)) ≡ k → may_come h (across (signed (take k ps))) ≡ true → ⊥) → step (in_page h) b ps ≡ refuse
    unfolding right_case
    right_bad l f = move_bad h b ps k (right_case x lo hi o) l f

    pub right_go : (l : k ≤ length ps) → Bytes ps → parameter_width (signed (take k ps)) ≡ k → may_come h (across (signed (take k ps))) ≡ true
        → step (in_page h) b ps ≡ go (page_state_after h (across (signed (take k ps)))) k
    unfolding right_case
    right_go l y w c = move_go h b ps k (right_case x lo hi o) l y w c

    module _ (more : is_more h.items ≡ true) (br : before_right h.stage ≡ true) (l : length ps < k) where
      pub right_found : some_below places (λ i. right_begins (b ∷ ps) h.position (entry_x i)) ≡ true → step (in_page h) b ps ≡ short
      unfolding right_begins right_case
      right_found e =
          let f = some_found places (λ i. right_begins (b ∷ ps) h.position (entry_x i)) e in
          let to = entry_x f.found in
          let m = to -ℤ h.position.x in
          let t = both (begins (b ∷ ps) (shortest RIGHT1 m)) (not (eq_z m (pos 0)) && valid_in h.position.font to) f.holds in
          let u = both (not (eq_z m (pos 0))) (valid_in h.position.font to) t.1 in
          let c = parts_right m more br u.0 (subst (λ (z : ℤ). valid_in h.position.font z ≡ true) (sym (move_ends h.position.x to)) u.1) in
          let g = begins_is (b ∷ ps) (shortest RIGHT1 m) t.0 in
          move_short h b ps k (right_case x lo hi o) l m t.0
          (way₃ h (b ∷ ps) f.found f.is_below (as_such h (b ∷ ps) (across m) g.more (across_bytes m ∙ g.whole_is) c))

      pub right_none : some_below places (λ i. right_begins (b ∷ ps) h.position (entry_x i)) ≡ false → step (in_page h) b ps ≡ refuse
      unfolding right_begins right_case
      right_none e =
          move_early h b ps k (right_case x lo hi o) l
          (λ m c g.
          let w = right_parts m c in
          let t = font_there h.position.font (h.position.x +ℤ m) w.1.1.1 in
          let n = counted (is_double (size_index t.font)) (h.position.x +ℤ m) t.x_valid in
          let q : entry_x n.count -ℤ h.position.x ≡ m = ap (λ (a : ℤ). a -ℤ h.position.x) n.place_is ∙ move_between h.position.x m in
          let y : right_begins (b ∷ ps) h.position (entry_x n.count) ≡ true =
          both_true (begins (b ∷ ps) (shortest RIGHT1 (entry_x n.count -ℤ h.position.x))) _
          (subst (λ (a : ℤ). begins (b ∷ ps) (shortest RIGHT1 a) ≡ true) (sym q) g)
          (both_true (not (eq_z (entry_x n.count -ℤ h.position.x) (pos 0))) _
          (subst (λ (a : ℤ). not (eq_z a (pos 0)) ≡ true) (sym q) w.1.1.0)
          (subst (λ (a : ℤ). valid_in h.position.font a ≡ true) (sym n.place_is) w.1.1.1)) in
          no_truth _ (found_some places (λ i. right_begins (b ∷ ps) h.position (entry_x i)) n.count n.is_below y) e)

-- ---- moves down

thrice_is_down : (n : ℕ) → n < heights → is_downward (pos (3 * n)) ≡ true
unfolding is_downward
thrice_is_down n l = both_true (eqb (3 * n % 3) 0) (leb (3 * n) lowest) (eq-eqb (3 * n % 3) 0 (omega arith)) (le-leb (3 * n) lowest (omega arith))

module _ (h : PageState) (b : ℕ) (ps : List ℕ) (k : ℕ) where
  pub down_parts : (m : ℤ) → may_come h (downward m) ≡ true
      → (is_more h.items ≡ true) × ((before_down h.stage ≡ true) × ((not (eq_z m (pos 0)) ≡ true) × ((valid_in h.position.font h.position.x ≡ true) × (is_downward (h.position.y +ℤ m) ≡ true))))
  unfolding may_come
  down_parts m e =
      let T₄ = valid_in h.position.font h.position.x && is_downward (h.position.y +ℤ m) in
      let b₁ = both (is_more h.items) (before_down h.stage && (not (eq_z m (pos 0)) && T₄)) e in
      let b₂ = both (before_down h.stage) (not (eq_z m (pos 0)) && T₄) b₁.1 in
      let b₃ = both (not (eq_z m (pos 0))) T₄ b₂.1 in
      let b₄ = both (valid_in h.position.font h.position.x) (is_downward (h.position.y +ℤ m)) b₃.1 in
      (b₁.0, (b₂.0, (b₃.0, (b₄.0, b₄.1))))

  pub parts_down : (m : ℤ) → is_more h.items ≡ true → before_down h.stage ≡ true → not (eq_z m (pos 0)) ≡ true → valid_in h.position.font h.position.x ≡ true → is_downward (h.position.y +ℤ m) ≡ true
      → may_come h (downward m) ≡ true
  unfolding may_come
  parts_down m a c d e f = rw (a, c, d, e) f

  down_case_lem : mag h.position.y < 4000000 → 1 ≤ k → k ≤ 4 → b ≡ 156 + k → MoveCase h b ps k
  unfolding in_bytes
  down_case_lem y l u o =
      record {
        op = DOWN1;
        mk = downward;
        bytes_of = λ m. refl;
        mk_fits = λ m s. s;
        near = λ m c. near_move h.position.y m y (down_mag (h.position.y +ℤ m) (down_parts m c).1.1.1.1);
        lo = l;
        hi = u;
        op_is = omega arith;
        only_move = move_down b ps (omega arith) (omega arith);
      }

  module _ (y : mag h.position.y < 4000000) (lo : 1 ≤ k) (hi : k ≤ 4) (o : b ≡ 156 + k) where
    pub down_not : (before_down h.stage ≡ true → valid_in h.position.font h.position.x ≡ true → ⊥) → step (in_page h) b ps ≡ refuse
    unfolding down_case_lem
    down_not f = page_refuse h b ps
        (λ d m a.
        let i = move_down b ps (omega arith) (omega arith) d a in
        let w = down_parts i.by (ap (may_come h) (sym i.is_move) ∙ m) in
        f w.1.0 w.1.1.1.0)

    pub down_bad : (l : k ≤ length ps) → (parameter_width (signed (take k ps)) ≡ k → may_come h (downward (signed (take k ps))) ≡ true → ⊥) → step (in_page h) b ps ≡ refuse
    unfolding down_case_lem
    down_bad l f = move_bad h b ps k (down_case_lem y lo hi o) l f

    pub down_go : (l : k ≤ length ps) → Bytes ps → parameter_width (signed (take k ps)) ≡ k → may_come h (downward (signed (take k ps))) ≡ true
        → step (in_page h) b ps ≡ go (page_state_after h (downward (signed (take k ps)))) k
    unfolding down_case_lem
    down_go l z w c = move_go h b ps k (down_case_lem y lo hi o) l z w c

    module _ (more : is_more h.items ≡ true) (bd : before_down h.stage ≡ true) (vx : valid_in h.position.font h.position.x ≡ true) (l : length ps < k) where
      pub down_found : some_below heights (λ i. down_begins (b ∷ ps) h.position (pos (3 * i))) ≡ true → step (in_page h) b ps ≡ short
      unfolding down_begins down_case_lem
      down_found e =
          let f = some_found heights (λ i. down_begins (b ∷ ps) h.position (pos (3 * i))) e in
          let to = pos (3 * f.found) in
          let m = to -ℤ h.position.y in
          let t = both (begins (b ∷ ps) (shortest DOWN1 m)) (not (eq_z m (pos 0))) f.holds in
          let c = parts_down m more bd t.1 vx (subst (λ (z : ℤ). is_downward z ≡ true) (sym (move_ends h.position.y to)) (thrice_is_down f.found f.is_below)) in
          let g = begins_is (b ∷ ps) (shortest DOWN1 m) t.0 in
          move_short h b ps k (down_case_lem y lo hi o) l m t.0
          (way₄ h (b ∷ ps) f.found f.is_below (as_such h (b ∷ ps) (downward m) g.more (down_bytes m ∙ g.whole_is) c))

      pub down_none : some_below heights (λ i. down_begins (b ∷ ps) h.position (pos (3 * i))) ≡ false → step (in_page h) b ps ≡ refuse
      unfolding down_begins down_case_lem
      down_none e =
          move_early h b ps k (down_case_lem y lo hi o) l
          (λ m c g.
          let w = down_parts m c in
          let n = down_counted (h.position.y +ℤ m) w.1.1.1.1 in
          let q : pos (3 * n.count) -ℤ h.position.y ≡ m = ap (λ (a : ℤ). a -ℤ h.position.y) n.place_is ∙ move_between h.position.y m in
          let z : down_begins (b ∷ ps) h.position (pos (3 * n.count)) ≡ true =
          both_true (begins (b ∷ ps) (shortest DOWN1 (pos (3 * n.count) -ℤ h.position.y))) (not (eq_z (pos (3 * n.count) -ℤ h.position.y) (pos 0)))
          (subst (λ (a : ℤ). begins (b ∷ ps) (shortest DOWN1 a) ≡ true) (sym q) g)
          (subst (λ (a : ℤ). not (eq_z a (pos 0)) ≡ true) (sym q) w.1.1.0) in
          no_truth _ (found_some heights (λ i. down_begins (b ∷ ps) h.position (pos (3 * i))) n.count n.is_below z) e)
