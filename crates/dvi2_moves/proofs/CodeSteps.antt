-- The steps of a move right, of a move down and of put1, in the code's terms.
--     down_is                 the test of a place down, and down_height its height
--     r_go, d_go, p_go        a step on; r_found, d_found, p-short: one cut short; the others: one refused
-- Assumes nothing.
use mathlib.Core.Path.{◌≡◌, refl, sym, ap, ◌∙◌}
use mathlib.Core.Bool.{true, false, not}
use mathlib.Core.List.{List, ◌∷◌}
use mathlib.Core.Option.{Option}
use Prim.Native.Nat.{ℕ, suc, ◌+◌, ◌-◌, ◌*◌, ◌/◌, ◌%◌, ◌≤◌, ◌<◌}
use native.Mathlib.Nat.{suc-ne-zero}
use native.Mathlib.Omega.{arith}
use borrow.Author.Tests.{lt-ltb, le-leb, lt-leb, leb-true}
use lib.Dec.{eqb, leb}
use lib.IntN.{ℤ, pos, negsuc, nat_abs, ◌+ℤ◌}
use lib.ListN.{length, get_or, drop, length-drop, drop_of_length-le}
use lib.Seq.{drop-cons}
use lib.Signed.{mag, le_z, ◌≤ℤ◌}
use Rattle.std.specs.Prelude.{Ok, Err}
use Rattle.integers.specs.Parts.{integers}
use Rattle.integers.specs.Equality.{eq_z}
use Rattle.octets.specs.Octets.{Bytes, signed_at}
use Rattle.octets.specs.OctetsLaws.{bytes_drop}
use Rattle.octets.specs.FieldLaws.{both}
use Rattle.galley_file.specs.Font.{size_index, is_double}
use Rattle.galley_file.specs.declared.item.Item.{Item}
use Rattle.galley_file.specs.Galley.{max_items}
use Rattle.dvi2.specs.Writer.{parameter_width}
use Rattle.measure.specs.Target.{entry_x}
use Rattle.dvi2_reading.specs.PageReading as Page
use Rattle.dvi2_reading.specs.PageReading.{some_below, valid_in, is_downward, across, downward, lowest}
use Rattle.dvi2_reading.specs.Reading.{step, in_page, go, height_of, page_state_after, places, heights}
use mir.Syntax.{w32}
use mir.Val.{SFits}
use Rattle.dvi2_reading.proofs.PieceLaws.{between_mag, x_mag}
use Rattle.dvi2_reading.proofs.WayLaws.{font_there}
use Rattle.dvi2_state.specs.declared.page_state.PageState.{PageState}
use Rattle.dvi.specs.FontOrNone.{font_or_none}
use Rattle.dvi2_state.specs.declared.page_state.Stepped.TheVariants.{Put}
use Rattle.dvi2_state.specs.declared.page_state.Wrong.TheVariants.{Bad, Short}
use Rattle.dvi2_state.specs.Page.{stage_of, page_state_of, page_position, SoundPage, StepIs, MayMove, right_begins, down_begins}
use Rattle.dvi2_state.proofs.Searches.{false_right, true_right, no_move, a_move}
use Rattle.dvi2_state.proofs.Searches.{no_truth}
use Rattle.dvi2_moves.proofs.MoveSteps.{right_not, right_bad, right_go, right_found, right_none, parts_right, right_parts, down_not, down_bad, down_go, down_found, down_none, parts_down, down_parts}
use Rattle.dvi2_moves.proofs.Pages.{put_not, put_bad, put_short, put_go}

pub drop_here : (S : List ℕ) (at : ℕ) → at < length S → drop at S ≡ get_or S at 0 ∷ drop (at + 1) S
drop_here S at l = let e : suc at ≡ at + 1 = omega arith in drop-cons S at 0 l ∙ ap (λ (n : ℕ). get_or S at 0 ∷ drop n S) e

-- ---- places

pub not_down : (t : ℤ) → le_z (pos 0) t ≡ false → false ≡ is_downward t
unfolding is_downward
not_down (pos n) e = absurd (omega (integers, e))
not_down (negsuc n) e = refl

pub too_low : (t : ℤ) → le_z t (pos lowest) ≡ false → false ≡ is_downward t
unfolding is_downward
too_low (pos n) e = sym (rw (lt-leb n lowest (omega (integers, e))) (false_right (eqb (n % 3) 0)))
too_low (negsuc n) e = refl

pub down_is : (t : ℤ) → le_z (pos 0) t ≡ true → le_z t (pos lowest) ≡ true → eqb (nat_abs t % 3) 0 ≡ is_downward t
unfolding is_downward
down_is (pos n) l u = sym (rw (le-leb n lowest (omega (integers, u))) (true_right (eqb (n % 3) 0)))
down_is (negsuc n) l u = absurd (omega (integers, l))

-- the height of a place down
pub down_height : (t : ℤ) → is_downward t ≡ true → (pos 0 ≤ℤ t) × ((nat_abs t ≤ lowest) × (pos (nat_abs t / 3) ≡ height_of t))
unfolding is_downward height_of
down_height (pos n) e = let b = both (eqb (n % 3) 0) (leb n lowest) e in (omega integers, (leb-true n lowest b.1, refl))
down_height (negsuc n) e = absurd (suc-ne-zero 0 cc)

-- ---- small facts

not_zero : (z : ℤ) → not (eq_z z (pos 0)) ≡ true → z ≡ pos 0 → ⊥
not_zero z n e = no_truth (not (eq_z z (pos 0))) n (no_move z e)

pub valid_fits : (o : Option ℕ) (t : ℤ) → valid_in o t ≡ true → SFits w32 t
valid_fits o t v = let f = font_there o t v in let m = x_mag (is_double (size_index f.font)) t f.x_valid in record { sfits = omega arith }

-- ---- moves

x_near : {h : PageState} → SoundPage h → mag h.x.0 < 4000
x_near {h} s = between_mag h.x.0 (s.on_page.left, s.on_page.right)

y_near : {h : PageState} → SoundPage h → mag (page_position h).y < 4000000
y_near {h} s = go (page_position h).y s.on_page.top s.on_page.bottom
  where
    go : (y : ℤ) → pos 0 ≤ℤ y → y ≤ℤ pos lowest → mag y < 4000000
    go (pos n) a b = omega integers
    go (negsuc n) a b = omega integers

module _ (S : List ℕ) (at op k : ℕ) (h : PageState) (g : MayMove S at op k h) (is : List Item) (l : length is < max_items) where
  abbrev P : List ℕ
  P = drop (at + 1) S

  abbrev H : Page.PageState
  H = page_state_of is h

  abbrev m : ℤ
  m = signed_at k (at + 1) S

  more : Page.is_more is ≡ true
  more = lt-ltb (length is) max_items l

  cut_short : length S - at ≤ k → length P < k
  cut_short c = let i = g.inside in let n = length-drop (at + 1) S in omega arith

  whole : k < length S - at → k ≤ length P
  whole c = let n = length-drop (at + 1) S in omega arith

  module _ (o : op ≡ 142 + k) where
    opcode_right : get_or S at 0 ≡ 142 + k
    opcode_right = g.opcode_is ∙ o

    pub r_not : Page.before_right (stage_of h.stage) ≡ false → StepIs S at h is (Err Bad)
    r_not e = sym (right_not H (get_or S at 0) P k (x_near g.sound) g.some_bytes g.few_bytes opcode_right e)

    module _ (b : Page.before_right (stage_of h.stage) ≡ true) (c : length S - at ≤ k) where
      pub r_found : some_below places (λ n. right_begins (drop at S) (page_position h) (entry_x n)) ≡ true → StepIs S at h is (Err Short)
      r_found e =
          sym (right_found H (get_or S at 0) P k (x_near g.sound) g.some_bytes g.few_bytes opcode_right more b (cut_short c)
          (ap (λ (s : List ℕ). some_below places (λ n. right_begins s (page_position h) (entry_x n))) (sym (drop_here S at g.inside)) ∙ e))

      pub r_none : some_below places (λ n. right_begins (drop at S) (page_position h) (entry_x n)) ≡ false → StepIs S at h is (Err Bad)
      r_none e =
          sym (right_none H (get_or S at 0) P k (x_near g.sound) g.some_bytes g.few_bytes opcode_right more b (cut_short c)
          (ap (λ (s : List ℕ). some_below places (λ n. right_begins s (page_position h) (entry_x n))) (sym (drop_here S at g.inside)) ∙ e))

    module _ (c : k < length S - at) where
      pub r_bad : (parameter_width m ≡ k → (m ≡ pos 0 → ⊥) → valid_in (font_or_none h.font) (h.x.0 +ℤ m) ≡ true → ⊥) → StepIs S at h is (Err Bad)
      r_bad f =
          sym (right_bad H (get_or S at 0) P k (x_near g.sound) g.some_bytes g.few_bytes opcode_right (whole c)
          (λ w n. let p = right_parts H (get_or S at 0) P k m n in f w (not_zero m p.1.1.0) p.1.1.1))

      pub r_go : Bytes S → Page.before_right (stage_of h.stage) ≡ true → parameter_width m ≡ k → (m ≡ pos 0 → ⊥)
          → valid_in (font_or_none h.font) (h.x.0 +ℤ m) ≡ true → step (in_page H) (get_or S at 0) P ≡ go (page_state_after H (across m)) k
      r_go y b w n v =
          right_go H (get_or S at 0) P k (x_near g.sound) g.some_bytes g.few_bytes opcode_right (whole c) (bytes_drop (at + 1) S y) w
          (parts_right H (get_or S at 0) P k m more b (a_move m n) v)

  module _ (o : op ≡ 156 + k) where
    opcode_down : get_or S at 0 ≡ 156 + k
    opcode_down = g.opcode_is ∙ o

    pub d_not : (Page.before_down (stage_of h.stage) ≡ true → valid_in (font_or_none h.font) h.x.0 ≡ true → ⊥) → StepIs S at h is (Err Bad)
    d_not e = sym (down_not H (get_or S at 0) P k (y_near g.sound) g.some_bytes g.few_bytes opcode_down e)

    pub d_bad : k < length S - at → (parameter_width m ≡ k → (m ≡ pos 0 → ⊥) → is_downward ((page_position h).y +ℤ m) ≡ true → ⊥) → StepIs S at h is (Err Bad)
    d_bad c f =
        sym (down_bad H (get_or S at 0) P k (y_near g.sound) g.some_bytes g.few_bytes opcode_down (whole c)
        (λ w n. let p = down_parts H (get_or S at 0) P k m n in f w (not_zero m p.1.1.0) p.1.1.1.1))

    module _ (b : Page.before_down (stage_of h.stage) ≡ true) (v : valid_in (font_or_none h.font) h.x.0 ≡ true) where
      pub d_found : length S - at ≤ k → some_below heights (λ n. down_begins (drop at S) (page_position h) (pos (3 * n))) ≡ true → StepIs S at h is (Err Short)
      d_found c e =
          sym (down_found H (get_or S at 0) P k (y_near g.sound) g.some_bytes g.few_bytes opcode_down more b v (cut_short c)
          (ap (λ (s : List ℕ). some_below heights (λ n. down_begins s (page_position h) (pos (3 * n)))) (sym (drop_here S at g.inside)) ∙ e))

      pub d_none : length S - at ≤ k → some_below heights (λ n. down_begins (drop at S) (page_position h) (pos (3 * n))) ≡ false → StepIs S at h is (Err Bad)
      d_none c e =
          sym (down_none H (get_or S at 0) P k (y_near g.sound) g.some_bytes g.few_bytes opcode_down more b v (cut_short c)
          (ap (λ (s : List ℕ). some_below heights (λ n. down_begins s (page_position h) (pos (3 * n)))) (sym (drop_here S at g.inside)) ∙ e))

      pub d_go : k < length S - at → Bytes S → parameter_width m ≡ k → (m ≡ pos 0 → ⊥)
          → is_downward ((page_position h).y +ℤ m) ≡ true → step (in_page H) (get_or S at 0) P ≡ go (page_state_after H (downward m)) k
      d_go c y w n d =
          down_go H (get_or S at 0) P k (y_near g.sound) g.some_bytes g.few_bytes opcode_down (whole c) (bytes_drop (at + 1) S y) w
          (parts_down H (get_or S at 0) P k m more b (a_move m n) v d)

-- ---- put

module _ (S : List ℕ) (at : ℕ) (h : PageState) (a : at < length S) (o : get_or S at 0 ≡ 133) (is : List Item) (l : length is < max_items) where
  pub p_not : (Page.before_put (stage_of h.stage) ≡ true → valid_in (font_or_none h.font) h.x.0 ≡ true → ⊥) → StepIs S at h is (Err Bad)
  p_not f = sym (put_not (page_state_of is h) (get_or S at 0) (drop (at + 1) S) o f)

  next_here : at + 1 < length S → drop (at + 1) S ≡ get_or S (at + 1) 0 ∷ drop (suc (at + 1)) S
  next_here n = drop-cons S (at + 1) 0 n

  pub p_bad : at + 1 < length S → (1 ≤ get_or S (at + 1) 0 → get_or S (at + 1) 0 ≤ 108 → ⊥) → StepIs S at h is (Err Bad)
  p_bad n f = sym (put_bad (page_state_of is h) (get_or S at 0) (drop (at + 1) S) o (get_or S (at + 1) 0) (drop (suc (at + 1)) S) (next_here n) f)

  module _ (b : Page.before_put (stage_of h.stage) ≡ true) (v : valid_in (font_or_none h.font) h.x.0 ≡ true) where
    pub p_short : length S - at < 2 → StepIs S at h is (Err Short)
    p_short n = sym (put_short (page_state_of is h) (get_or S at 0) (drop (at + 1) S) o (lt-ltb (length is) max_items l) b v (drop_of_length-le S {i = at + 1} (omega arith)))

    pub p_go : at + 1 < length S → 1 ≤ get_or S (at + 1) 0 → get_or S (at + 1) 0 ≤ 108
        → StepIs S at h is (Ok (Put (get_or S (at + 1) 0)))
    unfolding page_state_after
    p_go n lo hi =
        sym (put_go (page_state_of is h) (get_or S at 0) (drop (at + 1) S) o (lt-ltb (length is) max_items l) b v (get_or S (at + 1) 0) (drop (suc (at + 1)) S) (next_here n) lo hi)
