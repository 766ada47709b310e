-- The commands of a character are a way inside a page.
--     character_path     from any page so reached to the page after the character
-- Assumes nothing.
use Rattle.std.specs.Prelude.{◌≡◌, Bool, cond, ◌&&◌, ℕ, suc, ◌+◌, ◌*◌, ◌%◌, ◌≤◌, ◌<◌, ltb, eqb, ℤ, pos, negsuc, ◌+ℤ◌, ◌-ℤ◌, ◌*ℤ◌, length}
use Rattle.std.proofs.Math.Path.{refl, subst}
use Rattle.std.proofs.Common.{sym, ap, ◌∙◌, suc-ne-zero, arith, lt-ltb, le-leb, leb-true, eqb-true, eq-eqb}
use Rattle.std.proofs.Math.Bool.{true, false, not}
use mathlib.Core.List.{List, [], ◌∷◌, ◌++◌}
use Rattle.std.proofs.Math.Option.{Option, none, some}
use Rattle.std.proofs.Math.Dec.{leb}
use Rattle.std.specs.Int.Signed.{mag, le_z}
use Rattle.integers.specs.Parts.{integers, up, dn, dif_parts}
use Rattle.integers.specs.Equality.{eq_z, eq_z_true}
use Rattle.octets.specs.FieldLaws.{both}
use Rattle.measure.specs.Place.{height_end}
use Rattle.measure.proofs.TargetLaws.{move_ends}
use Rattle.galley_file.specs.Font.{size_index, is_double}
use Rattle.galley_file.specs.declared.character.Character.{Character}
use Rattle.galley_file.specs.declared.item.Item.{Item}
use Rattle.galley_file.specs.declared.item.Item.TheVariants.{Placed}
use Rattle.galley_file.specs.Character.{valid_x, valid}
use Rattle.galley_file.specs.CharacterLaws.{Valid, valid_parts}
use Rattle.galley_file.specs.Item.{characters_of}
use Rattle.galley_file.specs.Galley.{max_items}
use Rattle.extents.specs.FontMarks.{uses}
use Rattle.dvi.specs.Writer.{Position}
use Rattle.dvi2.specs.Command.{PUT1, RIGHT1, DOWN1}
use Rattle.dvi2.specs.Writer.{h_of, v_of, position_at, selects, definition, font_commands, font_change, shortest, move, commands_of}
use Rattle.dvi2_reading.specs.PageReading.{defining, selecting, across, downward, putting, in_bytes, Stage, ready, named, chosen, moved, lowered, PageState, before_right, before_down, before_put, is_more, is_font, valid_in, is_downward, may_come, lowest}
use Rattle.dvi2_reading.specs.Reading.{in_page, height_of, character_of, with_font, page_state_after}
use Rattle.dvi2_reading.proofs.BytesLaws.{both_true}
use Rattle.dvi2_reading.specs.SizeLaws.{put_command, definition_command, selects_command, right_command, down_command}
use Rattle.dvi2_reading.proofs.CommandLaws.{page_next_lem}
use Rattle.dvi2_reading.proofs.PieceLaws.{move_none, move_some, x_mag}
use Rattle.dvi2_reading.proofs.Path.{Path, stop, step, path_append, path_one}

-- ---- numbers

up_mag : (z : ℤ) → (up z ≤ suc (mag z)) × (dn z ≤ suc (mag z))
up_mag (pos n) = omega arith
up_mag (negsuc n) = omega arith

pub mag_dif : (a b : ℤ) → mag a < 4000000 → mag b < 4000000 → mag (a -ℤ b) < 2147483648
mag_dif a b h k = go (a -ℤ b) (dif_parts a b)
  where
    go : (z : ℤ) → up z + (dn a + up b) ≡ up a + dn b + dn z → mag z < 2147483648
    go (pos n) e = omega (arith, up_mag a, up_mag b)
    go (negsuc n) e = omega (arith, up_mag a, up_mag b)

none_moved : (a b : ℤ) → b -ℤ a ≡ pos 0 → a ≡ b
none_moved a b e = omega (integers, dif_parts b a)

pub down_mag : (y : ℤ) → is_downward y ≡ true → mag y < 4000000
unfolding is_downward
down_mag (pos n) e = let b = both (eqb (n % 3) 0) (leb n lowest) e in let l = leb-true n lowest b.1 in omega arith
down_mag (negsuc n) e = absurd (suc-ne-zero 0 cc)

thrice_down : (h : ℤ) → le_z (pos 0) h ≡ true → le_z h height_end ≡ true → (is_downward (pos 3 *ℤ h) ≡ true) × (height_of (pos 3 *ℤ h) ≡ h)
unfolding is_downward height_of
thrice_down (pos n) l u =
    let k = leb-true n 1000000 u in
    (both_true (eqb (3 * n % 3) 0) (leb (3 * n) lowest) (eq-eqb (3 * n % 3) 0 (omega arith)) (le-leb (3 * n) lowest (omega arith)), ap pos (omega arith))
thrice_down (negsuc n) l u = absurd (suc-ne-zero 0 cc)

not_so : (t : Bool) → t ≡ false → not t ≡ true
not_so t e = rw e

-- ---- the commands of a character, from a page so reached

module _ (is : List Item) (l : length is < max_items) where
  abbrev midpage : Stage → Position → PageState
  midpage s p = record { items = is; stage = s; position = p }

  is_more_lem : is_more is ≡ true
  is_more_lem = lt-ltb (length is) max_items l

  -- a font that differs
  select_path : (position : Position) (f : ℕ) → f < 120 → is_font position.font f ≡ false
      → Path (in_page (midpage ready position)) (font_commands (uses f (characters_of is)) f) (in_page (midpage chosen (with_font position f)))
  unfolding font_commands may_come page_state_after in_bytes with_font
  select_path position f s n = go (uses f (characters_of is)) refl
    where
      go : (t : Bool) → uses f (characters_of is) ≡ t
          → Path (in_page (midpage ready position)) (cond t (selects f) (definition f ++ selects f)) (in_page (midpage chosen (with_font position f)))
      go true u =
          path_one
          (page_next_lem (midpage ready position) (selecting f) tt
          (both_true (is_more is) (uses f (characters_of is) && not (is_font position.font f)) is_more_lem
          (both_true (uses f (characters_of is)) (not (is_font position.font f)) u (not_so (is_font position.font f) n))))
          (selects_command f)
      go false u =
          step
          (page_next_lem (midpage ready position) (defining f) tt
          (both_true (is_more is) (true && (ltb f 120 && not (uses f (characters_of is)))) is_more_lem
          (both_true (ltb f 120) (not (uses f (characters_of is))) (lt-ltb f 120 s) (not_so (uses f (characters_of is)) u))))
          (definition_command f)
          (path_one
          (page_next_lem (midpage named (with_font position f)) (selecting f) tt (both_true (is_more is) (eqb f f) is_more_lem (eq-eqb f f refl)))
          (selects_command f))

  record Fonted (position : Position) (f : ℕ) : Type 0 where
    pub at_stage : Stage
    pub before : before_right at_stage ≡ true
    pub path : Path (in_page (midpage ready position)) (font_change (uses f (characters_of is)) position.font f) (in_page (midpage at_stage (with_font position f)))

  font_path : (position : Position) (f : ℕ) → f < 120 → Fonted position f
  unfolding font_change with_font
  font_path position f s = go position.font refl
    where
      other : (o : Option ℕ) → position.font ≡ o → is_font o f ≡ false → font_change (uses f (characters_of is)) o f ≡ font_commands (uses f (characters_of is)) f → Fonted position f
      other o e n w =
          record {
            at_stage = chosen;
            before = refl;
            path =
                subst (λ (b : List ℕ). Path (in_page (midpage ready position)) b (in_page (midpage chosen (with_font position f))))
                (sym (ap (λ (p : Option ℕ). font_change (uses f (characters_of is)) p f) e ∙ w))
                (select_path position f s (ap (λ (p : Option ℕ). is_font p f) e ∙ n));
          }

      go : (o : Option ℕ) → position.font ≡ o → Fonted position f
      go none e = other none e refl refl
      go (some g) e = by_font (eqb g f) refl
        where
          by_font : (t : Bool) → eqb g f ≡ t → Fonted position f
          by_font true q =
              let p : position.font ≡ some f = e ∙ ap (λ (n : ℕ). some n) (eqb-true g f q) in
              record {
                at_stage = ready;
                before = refl;
                path =
                    subst (λ (b : List ℕ). Path (in_page (midpage ready position)) b (in_page (midpage ready (with_font position f))))
                    (sym (ap (λ (o : Option ℕ). font_change (uses f (characters_of is)) o f) e ∙ rw q))
                    (subst (λ (o : Option ℕ). Path (in_page (midpage ready position)) [] (in_page (midpage ready (record { font = o; x = position.x; y = position.y })))) p stop);
              }
          by_font false q = other (some g) e q (rw q)

  -- ---- a move, right or down

  -- from one place to another, to a stage that may go on
  record Moves (op : ℕ) (s : Stage) (goesOn : Stage → Bool) (at : ℤ → Position) (from to : ℤ) : Type 0 where
    pub at_stage : Stage
    pub before : goesOn at_stage ≡ true
    pub path : Path (in_page (midpage s (at from))) (move op (to -ℤ from)) (in_page (midpage at_stage (at to)))

  -- no command where the place stays; else one, to the stage after it
  move_path : (op : ℕ) (s after : Stage) (goesOn : Stage → Bool) (at : ℤ → Position) (from to : ℤ) → goesOn s ≡ true → goesOn after ≡ true
      → (eq_z (to -ℤ from) (pos 0) ≡ false → Path (in_page (midpage s (at from))) (shortest op (to -ℤ from)) (in_page (midpage after (at (from +ℤ (to -ℤ from))))))
      → Moves op s goesOn at from to
  move_path op s after goesOn at from to g h one = go (eq_z (to -ℤ from) (pos 0)) refl
    where
      m : ℤ
      m = to -ℤ from

      go : (t : Bool) → eq_z m (pos 0) ≡ t → Moves op s goesOn at from to
      go true q =
          let z = eq_z_true m (pos 0) q in
          record {
            at_stage = s;
            before = g;
            path =
                subst (λ (w : List ℕ). Path (in_page (midpage s (at from))) w (in_page (midpage s (at to)))) (sym (move_none op m z))
                (subst (λ (a : ℤ). Path (in_page (midpage s (at from))) [] (in_page (midpage s (at a)))) (none_moved from to z) stop);
          }
      go false q =
          record {
            at_stage = after;
            before = h;
            path =
                subst (λ (w : List ℕ). Path (in_page (midpage s (at from))) w (in_page (midpage after (at to)))) (sym (move_some op m q))
                (subst (λ (a : ℤ). Path (in_page (midpage s (at from))) (shortest op m) (in_page (midpage after (at a)))) (move_ends from to) (one q));
          }

  right_path : (s : Stage) (f : ℕ) (x y to : ℤ) → before_right s ≡ true → mag x < 4000 → valid_x (is_double (size_index f)) to ≡ true
      → Moves RIGHT1 s before_down (λ a. record { font = some f; x = a; y = y }) x to
  unfolding may_come page_state_after in_bytes
  right_path s f x y to b k v =
      move_path RIGHT1 s moved before_down (λ a. record { font = some f; x = a; y = y }) x to (before_down_lem s b) refl
      (λ q.
      let m = to -ℤ x in
      let a : valid_in (some f) (x +ℤ m) ≡ true = subst (λ (z : ℤ). valid_x (is_double (size_index f)) z ≡ true) (sym (move_ends x to)) v in
      path_one
      (page_next_lem (midpage s (record { font = some f; x = x; y = y })) (across m)
      (let g = x_mag (is_double (size_index f)) to v in mag_dif to x (omega arith) (omega arith))
      (both_true (is_more is) (before_right s && (not (eq_z m (pos 0)) && valid_in (some f) (x +ℤ m))) is_more_lem
      (both_true (before_right s) (not (eq_z m (pos 0)) && valid_in (some f) (x +ℤ m)) b
      (both_true (not (eq_z m (pos 0))) (valid_in (some f) (x +ℤ m)) (not_so (eq_z m (pos 0)) q) a))))
      (right_command m))
    where
      before_down_lem : (s : Stage) → before_right s ≡ true → before_down s ≡ true
      before_down_lem ready e = e
      before_down_lem named e = e
      before_down_lem chosen e = e
      before_down_lem moved e = refl
      before_down_lem lowered e = e

  down_path : (s : Stage) (f : ℕ) (x y to : ℤ) → before_down s ≡ true → is_downward y ≡ true → valid_x (is_double (size_index f)) x ≡ true → is_downward to ≡ true
      → Moves DOWN1 s before_put (λ a. record { font = some f; x = x; y = a }) y to
  unfolding may_come page_state_after in_bytes
  down_path s f x y to b k v d =
      move_path DOWN1 s lowered before_put (λ a. record { font = some f; x = x; y = a }) y to (before_put_lem s b) refl
      (λ q.
      let m = to -ℤ y in
      let a : is_downward (y +ℤ m) ≡ true = subst (λ (z : ℤ). is_downward z ≡ true) (sym (move_ends y to)) d in
      path_one
      (page_next_lem (midpage s (record { font = some f; x = x; y = y })) (downward m) (mag_dif to y (down_mag to d) (down_mag y k))
      (both_true (is_more is) (before_down s && (not (eq_z m (pos 0)) && (valid_in (some f) x && is_downward (y +ℤ m)))) is_more_lem
      (both_true (before_down s) (not (eq_z m (pos 0)) && (valid_in (some f) x && is_downward (y +ℤ m))) b
      (both_true (not (eq_z m (pos 0))) (valid_in (some f) x && is_downward (y +ℤ m)) (not_so (eq_z m (pos 0)) q)
      (both_true (valid_in (some f) x) (is_downward (y +ℤ m)) v a)))))
      (down_command m))
    where
      before_put_lem : (s : Stage) → before_down s ≡ true → before_put s ≡ true
      before_put_lem ready e = e
      before_put_lem named e = e
      before_put_lem chosen e = e
      before_put_lem moved e = e
      before_put_lem lowered e = refl

  put_path : (s : Stage) (c : Character) → before_put s ≡ true → Valid height_end c → height_of (v_of c) ≡ c.height.0
      → Path (in_page (midpage s (position_at c))) (PUT1 ∷ c.code ∷ []) (in_page (record { items = is ++ (Placed c ∷ []); stage = ready; position = position_at c }))
  unfolding may_come page_state_after in_bytes character_of position_at
  put_path s c b v e =
      subst (λ (h : ℤ). Path (in_page (midpage s (position_at c))) (PUT1 ∷ c.code ∷ [])
      (in_page (record { items = is ++ (Placed (record { x = c.x; height = record { 0 = h }; font = c.font; code = c.code }) ∷ []); stage = ready; position = position_at c }))) e
      (path_one
      (page_next_lem (midpage s (position_at c)) (putting c.code) tt
      (both_true (is_more is) (before_put s && (valid_in (some c.font) c.x.0 && (leb 1 c.code && leb c.code 108))) is_more_lem
      (both_true (before_put s) (valid_in (some c.font) c.x.0 && (leb 1 c.code && leb c.code 108)) b
      (both_true (valid_in (some c.font) c.x.0) (leb 1 c.code && leb c.code 108) v.across
      (both_true (leb 1 c.code) (leb c.code 108) (le-leb 1 c.code v.first) (le-leb c.code 108 v.last))))))
      (put_command c.code))

  pub character_path : (position : Position) (c : Character) → mag position.x < 4000 → is_downward position.y ≡ true → valid height_end c ≡ true
      → Path (in_page (midpage ready position)) (commands_of (uses c.font (characters_of is)) position c) (in_page (record { items = is ++ (Placed c ∷ []); stage = ready; position = position_at c }))
  unfolding commands_of position_at with_font
  character_path position c kx ky u =
      let v = valid_parts {c = c} u in
      let f = c.font in
      let h = both (le_z (pos 0) c.height.0) (le_z c.height.0 height_end) v.height in
      let t = thrice_down c.height.0 h.0 h.1 in
      let a = font_path position f v.font in
      let r = right_path a.at_stage f position.x position.y (h_of c) a.before kx v.across in
      let d = down_path r.at_stage f (h_of c) position.y (v_of c) r.before ky v.across t.0 in
      path_append a.path (path_append r.path (path_append d.path (put_path d.at_stage c d.before v t.1)))
