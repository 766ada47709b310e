-- A command that is cut short: `may_begin` says whether one that leads on begins so.
--     may_lead      where it may begin, some command leads on that begins so
--     lead_may      and the other way
-- Assumes nothing.
use Rattle.std.specs.Prelude.{◌≡◌, refl, Bool, false, ◌&&◌, ◌||◌, ℕ, ◌+◌, ◌-◌, ◌*◌, ◌/◌, ◌%◌, ◌<◌, ltb, eqb, ℤ, negsuc, ◌+ℤ◌, ◌-ℤ◌}
use Rattle.std.proofs.Common.{sym, subst, ◌∙◌, suc-ne-zero, arith, lt-ltb, ltb-true, leb-true, eqb-true}
use Rattle.std.proofs.Math.Path.{ap}
use Rattle.std.proofs.Math.Bool.{true, not}
use mathlib.Core.List.{List, [], ◌∷◌, ◌++◌}
use Rattle.std.proofs.Math.Option.{some}
use Rattle.std.proofs.Math.Dec.{leb}
use Rattle.std.proofs.Math.IntN.{pos}
use Rattle.std.proofs.Math.ListN.{length}
use Rattle.std.specs.Int.Signed.{mag, le_z}
use Rattle.integers.specs.Parts.{integers, up, dn, dif_parts}
use Rattle.integers.specs.Equality.{eq_z}
use Rattle.octets.specs.FieldLaws.{both}
use Rattle.measure.specs.Target.{entry_x}
use Rattle.galley_file.specs.Font.{size_index, is_double}
use Rattle.galley_file.specs.declared.item.Item.TheVariants.{Cut}
use Rattle.galley_file.specs.Character.{valid_x}
use Rattle.galley_file.specs.Item.{characters_of}
use Rattle.galley_file.specs.Galley.{max_items}
use Rattle.extents.specs.FontMarks.{uses}
use Rattle.dvi2.specs.Command.{PUT1}
use Rattle.dvi2.specs.Writer.{preamble_bytes}
use Rattle.dvi2_reading.specs.PageReading.{begins, some_below, PageCommand, ending, defining, selecting, across, downward, putting, in_bytes, PageState, is_ready, before_right, before_down, before_put, is_more, valid_in, is_downward, may_come, lowest}
use Rattle.dvi2_reading.specs.Reading.{State, start, opened, in_page, between, closing, with_font, page_state_after, new_page_state, first_bop, further_bop, post_of, closing_of, next, may_begin_as, may_begin_in, may_begin, places, heights}
use Rattle.dvi2_reading.proofs.BytesLaws.{both_true, either, left_true, right_true, Longer, begins_is, is_begins, some_found, found_some}
use Rattle.dvi2_reading.proofs.CommandLaws.{MoveFits, page_next_lem, next_page_lem, only_is, is_only}
use Rattle.dvi2_reading.specs.Reached.{writing_of, PageReached, Reached}
use Rattle.dvi2_reading.proofs.PieceLaws.{move_between, between_mag}
use Rattle.dvi2_reading.proofs.WayLaws.{font_there}
use Rattle.dvi2_reading.proofs.PageLaws.{page_reached}
use Rattle.dvi2_reading.proofs.StateLaws.{AfterEop, to_post, to_page, onward}
use Rattle.dvi2_reading.proofs.CharacterPath.{mag_dif, down_mag}
use Rattle.dvi2_reading.proofs.PathLaws.{post_path, page_path, start_path, opened_path}

-- a command that leads on and begins so
pub record Leads (q : State) (s : List ℕ) : Type 0 where
  pub whole : List ℕ
  pub after_it : State
  pub leads : next q whole ≡ some after_it
  pub longer : Longer s whole

-- a place across, counted from -55
pub record Counted (z : ℤ) : Type 0 where
  pub count : ℕ
  pub is_below : count < places
  pub place_is : entry_x count ≡ z

pub counted : (d : Bool) (z : ℤ) → valid_x d z ≡ true → Counted z
counted true (pos n) e =
    let b = both (le_z (negsuc 54) (pos n)) (le_z (pos n) (pos 3184)) e in
    let l = leb-true n 3184 b.1 in
    record { count = n + 55; is_below = omega arith; place_is = omega (integers, dif_parts (pos (n + 55)) (pos 55)) }
counted true (negsuc n) e =
    let b = both (le_z (negsuc 54) (negsuc n)) (le_z (negsuc n) (pos 3184)) e in
    let l = leb-true n 54 b.0 in
    record { count = 54 - n; is_below = omega arith; place_is = omega (integers, dif_parts (pos (54 - n)) (pos 55)) }
counted false (pos n) e =
    let b = both (le_z (pos 0) (pos n)) (le_z (pos n) (pos 3239)) e in
    let l = leb-true n 3239 b.1 in
    record { count = n + 55; is_below = omega arith; place_is = omega (integers, dif_parts (pos (n + 55)) (pos 55)) }
counted false (negsuc n) e = absurd (suc-ne-zero 0 cc)

pub record Lowered (z : ℤ) : Type 0 where
  pub count : ℕ
  pub is_below : count < heights
  pub place_is : pos (3 * count) ≡ z

pub down_counted : (z : ℤ) → is_downward z ≡ true → Lowered z
unfolding is_downward
down_counted (pos n) e =
    let b = both (eqb (n % 3) 0) (leb n lowest) e in
    let l = leb-true n lowest b.1 in
    let m = eqb-true (n % 3) 0 b.0 in
    record { count = n / 3; is_below = omega arith; place_is = ap pos (omega arith) }
down_counted (negsuc n) e = absurd (suc-ne-zero 0 cc)

-- ---- inside a page

module _ (h : PageState) (s : List ℕ) where
  -- the five ways in which `may_begin_in` holds
  pub way₁ : (f : ℕ) → f < 120 → may_begin_as h s (defining f) ≡ true → may_begin_in h s ≡ true
  unfolding may_begin_in
  way₁ f l e = left_true (some_below 120 (λ f. may_begin_as h s (defining f))) _ (found_some 120 (λ f. may_begin_as h s (defining f)) f l e)

  pub way₂ : (f : ℕ) → f < 120 → may_begin_as h s (selecting f) ≡ true → may_begin_in h s ≡ true
  unfolding may_begin_in
  way₂ f l e =
      right_true (some_below 120 (λ f. may_begin_as h s (defining f))) _
      (left_true (some_below 120 (λ f. may_begin_as h s (selecting f))) _ (found_some 120 (λ f. may_begin_as h s (selecting f)) f l e))

  pub way₃ : (n : ℕ) → n < places → may_begin_as h s (across (entry_x n -ℤ h.position.x)) ≡ true → may_begin_in h s ≡ true
  unfolding may_begin_in
  way₃ n l e =
      right_true (some_below 120 (λ f. may_begin_as h s (defining f))) _
      (right_true (some_below 120 (λ f. may_begin_as h s (selecting f))) _
      (left_true (some_below places (λ n. may_begin_as h s (across (entry_x n -ℤ h.position.x)))) _
      (found_some places (λ n. may_begin_as h s (across (entry_x n -ℤ h.position.x))) n l e)))

  pub way₄ : (n : ℕ) → n < heights → may_begin_as h s (downward (pos (3 * n) -ℤ h.position.y)) ≡ true → may_begin_in h s ≡ true
  unfolding may_begin_in
  way₄ n l e =
      right_true (some_below 120 (λ f. may_begin_as h s (defining f))) _
      (right_true (some_below 120 (λ f. may_begin_as h s (selecting f))) _
      (right_true (some_below places (λ n. may_begin_as h s (across (entry_x n -ℤ h.position.x)))) _
      (left_true (some_below heights (λ n. may_begin_as h s (downward (pos (3 * n) -ℤ h.position.y)))) _
      (found_some heights (λ n. may_begin_as h s (downward (pos (3 * n) -ℤ h.position.y))) n l e))))

  pub way₅ : may_begin_as h s (putting 1) ≡ true → may_begin_in h s ≡ true
  unfolding may_begin_in
  way₅ e =
      right_true (some_below 120 (λ f. may_begin_as h s (defining f))) _
      (right_true (some_below 120 (λ f. may_begin_as h s (selecting f))) _
      (right_true (some_below places (λ n. may_begin_as h s (across (entry_x n -ℤ h.position.x)))) _
      (right_true (some_below heights (λ n. may_begin_as h s (downward (pos (3 * n) -ℤ h.position.y)))) _ e)))

  pub as_such : (d : PageCommand) (z : List ℕ) → in_bytes d ≡ s ++ z → may_come h d ≡ true → may_begin_as h s d ≡ true
  unfolding may_begin_as
  as_such d z b m = both_true (begins s (in_bytes d)) (may_come h d) (is_begins s (in_bytes d) z b) m

module _ (h : PageState) (bs : List ℕ) (k : PageReached h bs) (s : List ℕ) where
  by_command : (d : PageCommand) → MoveFits d → may_begin_as h s d ≡ true → Leads (in_page h) s
  unfolding may_begin_as
  by_command d m e =
      let b = both (begins s (in_bytes d)) (may_come h d) e in
      record { whole = in_bytes d; after_it = page_state_after h d; leads = page_next_lem h d m b.1; longer = begins_is s (in_bytes d) b.0 }

  x_dif : (n : ℕ) → n < places → mag (entry_x n) < 4000000
  x_dif n l = go (entry_x n) (dif_parts (pos n) (pos 55))
    where
      go : (z : ℤ) → up z + (0 + 55) ≡ n + 0 + dn z → mag z < 4000000
      go (pos m) e = omega arith
      go (negsuc m) e = omega arith

  page_lead : may_begin_in h s ≡ true → Leads (in_page h) s
  unfolding may_begin_in
  page_lead e =
      either (some_below 120 (λ f. may_begin_as h s (defining f))) _ e (Leads (in_page h) s)
      (λ a. let b = some_found 120 (λ f. may_begin_as h s (defining f)) a in by_command (defining b.found) tt b.holds)
      (λ e₂.
      either (some_below 120 (λ f. may_begin_as h s (selecting f))) _ e₂ (Leads (in_page h) s)
      (λ a. let b = some_found 120 (λ f. may_begin_as h s (selecting f)) a in by_command (selecting b.found) tt b.holds)
      (λ e₃.
      either (some_below places (λ n. may_begin_as h s (across (entry_x n -ℤ h.position.x)))) _ e₃ (Leads (in_page h) s)
      (λ a.
      let b = some_found places (λ n. may_begin_as h s (across (entry_x n -ℤ h.position.x))) a in
      let x = between_mag h.position.x k.x_between in
      by_command (across (entry_x b.found -ℤ h.position.x)) (mag_dif (entry_x b.found) h.position.x (x_dif b.found b.is_below) (omega arith)) b.holds)
      (λ e₄.
      either (some_below heights (λ n. may_begin_as h s (downward (pos (3 * n) -ℤ h.position.y)))) _ e₄ (Leads (in_page h) s)
      (λ a.
      let b = some_found heights (λ n. may_begin_as h s (downward (pos (3 * n) -ℤ h.position.y))) a in
      let l = b.is_below in
      by_command (downward (pos (3 * b.found) -ℤ h.position.y)) (mag_dif (pos (3 * b.found)) h.position.y (omega arith) (down_mag h.position.y k.y_down)) b.holds)
      (λ a. by_command (putting 1) tt a))))

  lead_page : (d : PageCommand) (z : List ℕ) → in_bytes d ≡ s ++ z → may_come h d ≡ true → 0 < length s → length s < length (in_bytes d) → may_begin_in h s ≡ true
  unfolding in_bytes may_come page_state_after with_font
  lead_page ending z b m p l = absurd (omega arith)
  lead_page (defining f) z b m p l =
      let b₁ = both (is_more h.items) (is_ready h.stage && (ltb f 120 && not (uses f (characters_of h.items)))) m in
      let b₂ = both (is_ready h.stage) (ltb f 120 && not (uses f (characters_of h.items))) b₁.1 in
      let b₃ = both (ltb f 120) (not (uses f (characters_of h.items))) b₂.1 in
      way₁ h s f (ltb-true f 120 b₃.0) (as_such h s (defining f) z b m)
  lead_page (selecting f) z b m p l =
      let r = page_reached h bs k (selecting f) m in
      let w = r.staged.way in
      let e : some f ≡ some w.font = w.font_is in
      way₂ h s f (subst (λ (g : ℕ). g < 120) (sym (same_some f w.font e)) w.small) (as_such h s (selecting f) z b m)
    where
      same_some : (a b : ℕ) → some a ≡ some b → a ≡ b
      same_some a b e = cc
  lead_page (across m) z b e p l =
      let b₁ = both (is_more h.items) (before_right h.stage && (not (eq_z m (pos 0)) && valid_in h.position.font (h.position.x +ℤ m))) e in
      let b₂ = both (before_right h.stage) (not (eq_z m (pos 0)) && valid_in h.position.font (h.position.x +ℤ m)) b₁.1 in
      let b₃ = both (not (eq_z m (pos 0))) (valid_in h.position.font (h.position.x +ℤ m)) b₂.1 in
      let t = font_there h.position.font (h.position.x +ℤ m) b₃.1 in
      let n = counted (is_double (size_index t.font)) (h.position.x +ℤ m) t.x_valid in
      let q : entry_x n.count -ℤ h.position.x ≡ m = ap (λ (a : ℤ). a -ℤ h.position.x) n.place_is ∙ move_between h.position.x m in
      way₃ h s n.count n.is_below (subst (λ (a : ℤ). may_begin_as h s (across a) ≡ true) (sym q) (as_such h s (across m) z b e))
  lead_page (downward m) z b e p l =
      let T₄ = valid_in h.position.font h.position.x && is_downward (h.position.y +ℤ m) in
      let b₁ = both (is_more h.items) (before_down h.stage && (not (eq_z m (pos 0)) && T₄)) e in
      let b₂ = both (before_down h.stage) (not (eq_z m (pos 0)) && T₄) b₁.1 in
      let b₃ = both (not (eq_z m (pos 0))) T₄ b₂.1 in
      let b₄ = both (valid_in h.position.font h.position.x) (is_downward (h.position.y +ℤ m)) b₃.1 in
      let n = down_counted (h.position.y +ℤ m) b₄.1 in
      let q : pos (3 * n.count) -ℤ h.position.y ≡ m = ap (λ (a : ℤ). a -ℤ h.position.y) n.place_is ∙ move_between h.position.y m in
      way₄ h s n.count n.is_below (subst (λ (a : ℤ). may_begin_as h s (downward a) ≡ true) (sym q) (as_such h s (downward m) z b e))
  lead_page (putting c) z b e p l =
      let T₃ = valid_in h.position.font h.position.x && (leb 1 c && leb c 108) in
      let b₁ = both (is_more h.items) (before_put h.stage && T₃) e in
      let b₂ = both (before_put h.stage) T₃ b₁.1 in
      let b₃ = both (valid_in h.position.font h.position.x) (leb 1 c && leb c 108) b₂.1 in
      let o = opcode s z b p l in
      way₅ h s
      (as_such h s (putting 1) (1 ∷ []) (ap (λ (t : List ℕ). t ++ (1 ∷ [])) (sym o))
      (both_true (is_more h.items) (before_put h.stage && (valid_in h.position.font h.position.x && true)) b₁.0
      (both_true (before_put h.stage) (valid_in h.position.font h.position.x && true) b₂.0
      (both_true (valid_in h.position.font h.position.x) true b₃.0 refl))))
    where
      opcode : (s z : List ℕ) → PUT1 ∷ c ∷ [] ≡ s ++ z → 0 < length s → length s < 2 → s ≡ PUT1 ∷ []
      opcode [] z b p l = absurd (omega arith)
      opcode (a ∷ []) z b p l = let q : PUT1 ≡ a = cc in ap (λ (n : ℕ). n ∷ []) (sym q)
      opcode (a ∷ a' ∷ s) z b p l = absurd (omega arith)

-- ---- in any state

only_lead : (q r : State) (s e : List ℕ) → begins s e ≡ true → next q e ≡ some r → Leads q s
only_lead q r s e b n = record { whole = e; after_it = r; leads = n; longer = begins_is s e b }

pub may_lead : (q : State) (bs s : List ℕ) → Reached q bs → may_begin q s ≡ true → Leads q s
unfolding may_begin next
may_lead start bs s k e = only_lead start opened s preamble_bytes e start_path
may_lead opened bs s k e = only_lead opened (in_page (new_page_state [])) s first_bop e opened_path
may_lead (in_page h) bs s k e = page_lead h bs k s e
may_lead (between is) bs s k e =
    either (begins s (post_of is)) (is_more is && begins s (further_bop (writing_of is))) e (Leads (between is) s)
    (λ a. only_lead (between is) (closing is (closing_of is)) s (post_of is) a (post_path is))
    (λ a.
    let b = both (is_more is) (begins s (further_bop (writing_of is))) a in
    only_lead (between is) (in_page (new_page_state (is ++ (Cut ∷ [])))) s (further_bop (writing_of is)) b.1 (page_path is (ltb-true (length is) max_items b.0)))
may_lead (closing is []) bs s k e = absurd (suc-ne-zero 0 cc)
may_lead (closing is (c ∷ es)) bs s k e = only_lead (closing is (c ∷ es)) (closing is es) s c e (is_only c (closing is es))

pub lead_may : (q r : State) (bs s z c : List ℕ) → Reached q bs → next q c ≡ some r → c ≡ s ++ z → 0 < length s → length s < length c → may_begin q s ≡ true
unfolding may_begin next
lead_may start r bs s z c k n b p l = is_begins s preamble_bytes z (sym (only_is c preamble_bytes opened r n).bytes_are ∙ b)
lead_may opened r bs s z c k n b p l = is_begins s first_bop z (sym (only_is c first_bop (in_page (new_page_state [])) r n).bytes_are ∙ b)
lead_may (in_page h) r bs s z c k n b p l =
    let w = next_page_lem h c r n in
    lead_page h bs k s w.which z (sym w.bytes_are ∙ b) w.may p (subst (λ (d : List ℕ). length s < length d) w.bytes_are l)
lead_may (between is) r bs s z c k n b p l = go (onward is c r n)
  where
    go : AfterEop is c r → (begins s (post_of is) || is_more is && begins s (further_bop (writing_of is))) ≡ true
    go (to_post e q) = left_true (begins s (post_of is)) (is_more is && begins s (further_bop (writing_of is))) (is_begins s (post_of is) z (sym e ∙ b))
    go (to_page e m q) =
        right_true (begins s (post_of is)) (is_more is && begins s (further_bop (writing_of is)))
        (both_true (is_more is) (begins s (further_bop (writing_of is))) (lt-ltb (length is) max_items m) (is_begins s (further_bop (writing_of is)) z (sym e ∙ b)))
lead_may (closing is []) r bs s z c k n b p l = absurd (suc-ne-zero 0 cc)
lead_may (closing is (d ∷ es)) r bs s z c k n b p l = is_begins s d z (sym (only_is c d (closing is es) r n).bytes_are ∙ b)
