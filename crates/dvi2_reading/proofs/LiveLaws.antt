-- A page so reached can be gone on with.
--     page_live     a file begins so
-- Assumes nothing.
use Rattle.std.specs.Prelude.{◌≡◌, refl, true, List, [], ◌∷◌, ◌++◌, ℕ, ◌<◌, ℤ, pos, ◌-ℤ◌, length}
use Rattle.std.proofs.Common.{sym, ap, ◌∙◌, append_assoc, append-nil, arith}
use Rattle.measure.specs.Place.{height_end}
use Rattle.galley_file.specs.Font.{size_index, is_double}
use Rattle.galley_file.specs.declared.character.Character.{Character}
use Rattle.galley_file.specs.declared.item.Item.{Item}
use Rattle.galley_file.specs.declared.item.Item.TheVariants.{Placed}
use Rattle.galley_file.specs.Character.{valid_x, valid}
use Rattle.galley_file.specs.CharacterLaws.{parts_valid}
use Rattle.galley_file.specs.Galley.{max_items}
use Rattle.extents.specs.FontMarks.{uses}
use Rattle.dvi2.specs.Command.{PUT1, EOP, RIGHT1, DOWN1}
use Rattle.dvi2.specs.Writer.{h_of, v_of, selects, font_change, move, commands_of, Writing, item_bytes, dvi2_file}
use Rattle.dvi2_reading.specs.Beginning.{Writable, Begins}
use Rattle.dvi2_reading.specs.PageReading.{Stage, ready, named, chosen, moved, lowered, PageState, is_downward}
use Rattle.dvi2_reading.specs.Reading.{height_of}
use Rattle.dvi2_reading.specs.Reached.{writing_of, open_bytes, Way, Staged, PageReached}
use Rattle.dvi2_reading.proofs.PieceLaws.{writable_more, open_more, close_bytes, file_open, thrice, height_valid, zero_valid}
use Rattle.dvi2_reading.proofs.WayLaws.{way_here, way_put}

-- ---- how to go on

-- the file of some items begins with what begins it
file_begins : (is : List Item) → Writable is → (bs w : List ℕ) → bs ++ w ≡ dvi2_file is → Begins bs
file_begins is v bs w e = record { items = is; rest = w; made = record { writable = v; file_is = e } }

module _ (is : List Item) (bs rest : List ℕ) (v : Writable is) (b : bs ≡ open_bytes is ++ rest) where
  -- by a character that begins with the rest
  gone_on : (c : Character) → valid height_end c ≡ true → length is < max_items → (w : List ℕ) → item_bytes (writing_of is) (Placed c) ≡ rest ++ w → Begins bs
  gone_on c u l w e =
      let js = is ++ (Placed c ∷ []) in
      file_begins js (writable_more is (Placed c) v u l) bs (w ++ ((EOP ∷ []) ++ close_bytes js))
      (ap (λ (s : List ℕ). s ++ (w ++ ((EOP ∷ []) ++ close_bytes js))) b
      ∙ sym (append_assoc (open_bytes is ++ rest) w ((EOP ∷ []) ++ close_bytes js))
      ∙ ap (λ (s : List ℕ). s ++ ((EOP ∷ []) ++ close_bytes js))
      (append_assoc (open_bytes is) rest w ∙ ap (λ (s : List ℕ). open_bytes is ++ s) (sym e) ∙ sym (open_more is (Placed c)))
      ∙ sym (file_open js))

  -- by nothing
  gone_out : rest ≡ [] → Begins bs
  gone_out e =
      file_begins is v bs ((EOP ∷ []) ++ close_bytes is)
      (ap (λ (s : List ℕ). s ++ ((EOP ∷ []) ++ close_bytes is)) (b ∙ ap (λ (s : List ℕ). open_bytes is ++ s) e ∙ append-nil (open_bytes is))
      ∙ sym (file_open is))

-- a character at a place, with font f
abbrev sample : ℕ → ℤ → ℤ → Character
sample f x y = record { x = record { 0 = x }; height = record { 0 = height_of y }; font = f; code = 1 }

sample_valid : (f : ℕ) (x y : ℤ) → f < 120 → valid_x (is_double (size_index f)) x ≡ true → is_downward y ≡ true → valid height_end (sample f x y) ≡ true
sample_valid f x y s v d = parts_valid {c = sample f x y} (record { font = s; first = omega arith; last = omega arith; across = v; height = height_valid y d })

-- the commands of a character begin with its font
font_first : (p : Writing) (c : Character) (l m : List ℕ) → font_change (uses c.font p.behind) p.position.font c.font ≡ l ++ m
    → item_bytes p (Placed c) ≡ l ++ (m ++ (move RIGHT1 (h_of c -ℤ p.position.x) ++ (move DOWN1 (v_of c -ℤ p.position.y) ++ (PUT1 ∷ c.code ∷ []))))
unfolding item_bytes commands_of
font_first p c l m e =
    let w = move RIGHT1 (h_of c -ℤ p.position.x) ++ (move DOWN1 (v_of c -ℤ p.position.y) ++ (PUT1 ∷ c.code ∷ [])) in
    ap (λ (s : List ℕ). s ++ w) e ∙ append_assoc l m w

pub page_live : (h : PageState) (bs : List ℕ) → PageReached h bs → Begins bs
page_live h bs k = go h.stage k.staged
  where
    P : Writing
    P = writing_of h.items

    on : (c : Character) → valid height_end c ≡ true → length h.items < max_items → (w : List ℕ) → item_bytes P (Placed c) ≡ k.rest ++ w → Begins bs
    on = gone_on h.items bs k.rest k.writable k.bytes_are

    put : (w : Way h.items h.position k.rest) → length h.items < max_items → valid_x (is_double (size_index w.font)) h.position.x ≡ true → Begins bs
    put w l v =
        let c = sample w.font h.position.x h.position.y in
        on c (sample_valid w.font h.position.x h.position.y w.small v k.y_down) l (PUT1 ∷ 1 ∷ [])
        (way_put P h.position c refl (thrice h.position.y k.y_down) ∙ ap (λ (s : List ℕ). s ++ (PUT1 ∷ 1 ∷ [])) (sym w.rest_is))

    from_font : (f : ℕ) → f < 120 → length h.items < max_items → (m : List ℕ) → font_change (uses f P.behind) P.position.font f ≡ k.rest ++ m → Begins bs
    from_font f s l m e =
        let c = sample f (pos 0) h.position.y in
        on c (sample_valid f (pos 0) h.position.y s (zero_valid (is_double (size_index f))) k.y_down) l
        (m ++ (move RIGHT1 (h_of c -ℤ P.position.x) ++ (move DOWN1 (v_of c -ℤ P.position.y) ++ (PUT1 ∷ c.code ∷ []))))
        (font_first P c k.rest m e)

    go : (s : Stage) → Staged s h.items h.position k.rest → Begins bs
    go ready a = gone_out h.items bs k.rest k.writable k.bytes_are a.rest_is
    go named a = from_font a.font a.small a.more (selects a.font) (a.change ∙ ap (λ (s : List ℕ). s ++ selects a.font) (sym a.rest_is))
    go chosen a =
        from_font a.way.font a.way.small a.more []
        (sym (a.way.rest_is ∙ way_here P a.way.font h.position a.x_is a.y_is) ∙ sym (append-nil k.rest))
    go moved a = put a.way a.more a.x_valid
    go lowered a = put a.way a.more a.x_valid
