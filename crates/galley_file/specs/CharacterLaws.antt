-- A character's field and back.
-- Assumes nothing.
use Rattle.std.specs.Prelude.{◌≡◌, refl, Bool, true, false, ◌&&◌, List, [], ◌∷◌, ◌++◌, ℕ, suc, ◌+◌, ◌≤◌, ◌<◌, leb, ltb, ℤ, negsuc, length, get_or, take, drop, ◌≤ℤ◌}
use Rattle.std.proofs.Common.{sym, ap, ◌∙◌, add_comm, arith, lt-ltb, ltb-true, le-leb, leb-true, take-add, drop-cons, drop-drop}
use Rattle.std.proofs.Math.IntN.{pos}
use Rattle.std.specs.Int.Signed.{le_z}
use Rattle.integers.specs.Parts.{integers}
use Rattle.octets.specs.Octets.{Bytes, number, signed, nat_at, signed_at, bytes, signed_bytes, Holds}
use Rattle.octets.specs.OctetsLaws.{signed_signed_bytes, number_signed_bytes, signed_bytes_signed_at, signed_bytes_nat_at}
use Rattle.octets.specs.Field.{field, starts_field}
use Rattle.octets.specs.FieldLaws.{both, field_starts, starts, starts_field_lem}
use Rattle.measure.specs.Place.{within}
use Rattle.galley_file.specs.declared.character.Character.{Character}
use Rattle.galley_file.specs.declared.form.Form.{Form}
use Rattle.galley_file.specs.declared.form.Form.TheVariants.{Old, New}
use Rattle.galley_file.specs.Form.{character_tag, height_bytes, body_bytes, character_size, greatest_height}
use Rattle.galley_file.specs.FormLaws.{form_sizes}
use Rattle.galley_file.specs.Font.{size_index, is_double}
use Rattle.galley_file.specs.Character.{valid_x, valid, character_body, character_field, character_at, is_character}

-- what the tests of a valid character tell
pub record Valid (top : ℤ) (c : Character) : Type 0 where
  pub font : c.font < 120
  pub first : 1 ≤ c.code
  pub last : c.code ≤ 108
  pub across : valid_x (is_double (size_index c.font)) c.x.0 ≡ true
  pub height : within top c.height.0 ≡ true

pub valid_parts : {top : ℤ} {c : Character} → valid top c ≡ true → Valid top c
unfolding valid
valid_parts {top} {c} e =
    let h₄ = both _ _ e in
    let h₃ = both _ _ h₄.0 in
    let h₂ = both _ _ h₃.0 in
    let h₁ = both _ _ h₂.0 in
    record { font = ltb-true _ _ h₁.0; first = leb-true _ _ h₁.1; last = leb-true _ _ h₂.1; across = h₃.1; height = h₄.1 }

pub parts_valid : {top : ℤ} {c : Character} → Valid top c → valid top c ≡ true
unfolding valid
parts_valid {top} {c} v = simp (lt-ltb _ _ v.font, le-leb _ _ v.first, le-leb _ _ v.last, v.across, v.height)

no_and : (t u : Bool) → u ≡ false → (t && u) ≡ false
no_and true u e = e
no_and false u e = refl

-- a greater height is not valid, whatever the rest
pub too_high : (top : ℤ) (c : Character) → le_z c.height.0 top ≡ false → valid top c ≡ false
unfolding valid
too_high top c e =
    no_and (ltb c.font 120 && leb 1 c.code && leb c.code 108 && valid_x (is_double (size_index c.font)) c.x.0) (within top c.height.0)
    (no_and (le_z (pos 0) c.height.0) (le_z c.height.0 top) e)

-- a valid x is in -55 .. 3,239
pub x_range : {top : ℤ} {c : Character} → Valid top c → (negsuc 54 ≤ℤ c.x.0) × (c.x.0 ≤ℤ pos 3239)
x_range {top} {c} v = go (is_double (size_index c.font)) v.across
  where
    go : (d : Bool) → valid_x d c.x.0 ≡ true → (negsuc 54 ≤ℤ c.x.0) × (c.x.0 ≤ℤ pos 3239)
    go true e = let h = both (le_z (negsuc 54) c.x.0) (le_z c.x.0 (pos 3184)) e in (omega (integers, h.0), omega (integers, h.1))
    go false e = let h = both (le_z (pos 0) c.x.0) (le_z c.x.0 (pos 3239)) e in (omega (integers, h.0), omega (integers, h.1))

-- and two bytes hold it
x_held : (x : ℤ) → negsuc 54 ≤ℤ x → x ≤ℤ pos 3239 → Holds 2 x
x_held (pos n) l h = record { half = omega integers }
x_held (negsuc n) l h = record { half = omega integers }

-- a valid height is in 0 .. top
pub height_range : {top : ℤ} {c : Character} → Valid top c → (pos 0 ≤ℤ c.height.0) × (c.height.0 ≤ℤ top)
height_range {top} {c} v =
    let h = both (le_z (pos 0) c.height.0) (le_z c.height.0 top) v.height in
    (omega (integers, h.0), omega (integers, h.1))

-- and a form's bytes hold it as it is
height_held : (form : Form) (h : ℤ) → pos 0 ≤ℤ h → h ≤ℤ greatest_height form → pos (number (signed_bytes (height_bytes form) h)) ≡ h
height_held Old (pos n) l h = ap pos (number_signed_bytes 2 n (omega integers))
height_held New (pos n) l h = ap pos (number_signed_bytes 4 n (omega integers))
height_held form (negsuc n) l h = absurd l.le

-- the number that a valid character is read from
pub height_number : (form : Form) (s : List ℕ) (i : ℕ) → valid (greatest_height form) (character_at form s i) ≡ true → pos (nat_at (height_bytes form) (i + 5) s) ≤ℤ greatest_height form
unfolding character_at
height_number form s i v = (height_range (valid_parts v)).1

pub length_character_body : (form : Form) (c : Character) → length (character_body form c) ≡ body_bytes form
unfolding character_body bytes signed_bytes
length_character_body Old c = refl
length_character_body New c = refl

pub length_character_field : (form : Form) (c : Character) → length (character_field form c) ≡ character_size form
unfolding character_field character_body field bytes signed_bytes
length_character_field Old c = refl
length_character_field New c = refl

pub drop_field : (form : Form) (c : Character) (rest : List ℕ) → drop (character_size form) (character_field form c ++ rest) ≡ rest
unfolding character_field character_body field bytes signed_bytes
drop_field Old c rest = refl
drop_field New c rest = refl

module _ (form : Form) (c : Character) (v : valid (greatest_height form) c ≡ true) (rest : List ℕ) where
  x_back : signed (signed_bytes 2 c.x.0) ≡ c.x.0
  x_back = let r = x_range (valid_parts v) in signed_signed_bytes 2 c.x.0 (x_held c.x.0 r.0 r.1)

  height_back : pos (number (signed_bytes (height_bytes form) c.height.0)) ≡ c.height.0
  height_back = let h = height_range (valid_parts v) in height_held form c.height.0 h.0 h.1

  pub character_at_field : character_at form (character_field form c ++ rest) 0 ≡ c
  unfolding character_at character_field character_body field bytes signed_bytes
  character_at_field = go form height_back
    where
      go : (f : Form) → pos (number (signed_bytes (height_bytes f) c.height.0)) ≡ c.height.0 → character_at f (character_field f c ++ rest) 0 ≡ c
      go Old h = (λ i. record { x = record { 0 = x_back i }; height = record { 0 = h i }; font = c.font; code = c.code })
      go New h = (λ i. record { x = record { 0 = x_back i }; height = record { 0 = h i }; font = c.font; code = c.code })

  pub field_is_character : is_character form (character_field form c ++ rest) ≡ true
  unfolding is_character character_field
  field_is_character =
      simp (field_starts (character_tag form) (character_body form c) rest (body_bytes form) (length_character_body form c) (omega (arith, (form_sizes form).body_is, (form_sizes form).most)))
      (ap (valid (greatest_height form)) character_at_field ∙ v)

-- what a character's field tells
pub record ReadCharacter (form : Form) (s : List ℕ) : Type 0 where
  pub head : starts_field (character_tag form) (body_bytes form) s ≡ true
  pub long : character_size form ≤ length s
  pub is_valid : valid (greatest_height form) (character_at form s 0) ≡ true

pub read_character : (form : Form) (s : List ℕ) → is_character form s ≡ true → ReadCharacter form s
unfolding is_character
read_character form s e =
    let h = both (starts_field (character_tag form) (body_bytes form) s) (valid (greatest_height form) (character_at form s 0)) e in
    record { head = h.0; long = omega (arith, (starts h.0).long, (form_sizes form).body_is, (form_sizes form).size_is); is_valid = h.1 }

-- the bytes of a body with w bytes of height, by their parts
body_parts : (w : ℕ) (s : List ℕ) → w + 7 ≤ length s
    → take (2 + (w + 2)) (drop 3 s) ≡ take 2 (drop 3 s) ++ (take w (drop 5 s) ++ (get_or s (w + 5) 0 ∷ get_or s (w + 6) 0 ∷ []))
body_parts w s l =
    let z : suc (w + 5) ≡ w + 6 = omega arith in
    let two : take 2 (drop (w + 5) s) ≡ get_or s (w + 5) 0 ∷ get_or s (w + 6) 0 ∷ [] =
    ap (take 2) (drop-cons s (w + 5) 0 (omega arith))
    ∙ ap (λ (k : ℕ). get_or s (w + 5) 0 ∷ take 1 (drop k s)) z
    ∙ ap (λ (t : List ℕ). get_or s (w + 5) 0 ∷ take 1 t) (drop-cons s (w + 6) 0 (omega arith)) in
    let rest : take (w + 2) (drop 5 s) ≡ take w (drop 5 s) ++ take 2 (drop (w + 5) s) =
    take-add w 2 (drop 5 s) ∙ ap (λ (t : List ℕ). take w (drop 5 s) ++ take 2 t) (drop-drop w 5 s ∙ ap (λ (k : ℕ). drop k s) (add_comm 5 w)) in
    take-add 2 (w + 2) (drop 3 s)
    ∙ ap (λ (t : List ℕ). take 2 (drop 3 s) ++ take (w + 2) t) (drop-drop 2 3 s)
    ∙ ap (λ (t : List ℕ). take 2 (drop 3 s) ++ t) (rest ∙ ap (λ (t : List ℕ). take w (drop 5 s) ++ t) two)

-- bytes that start with such a field are its numbers' field and what follows
field_back : (tag w : ℕ) (s : List ℕ) → Bytes s → starts_field tag (2 + (w + 2)) s ≡ true
    → s ≡ field tag (signed_bytes 2 (signed_at 2 3 s) ++ (signed_bytes w (pos (nat_at w 5 s)) ++ (get_or s (w + 5) 0 ∷ get_or s (w + 6) 0 ∷ []))) ++ drop (3 + (2 + (w + 2))) s
field_back tag w s b e =
    let l = (starts e).long in
    let x = sym (signed_bytes_signed_at 2 3 s b (omega arith)) in
    let h = sym (signed_bytes_nat_at w 5 s b (omega arith)) in
    starts_field_lem tag (2 + (w + 2)) s b e
    ∙ ap (λ (t : List ℕ). field tag t ++ drop (3 + (2 + (w + 2))) s)
    (body_parts w s (omega arith) ∙ (λ i. x i ++ (h i ++ (get_or s (w + 5) 0 ∷ get_or s (w + 6) 0 ∷ []))))

-- bytes that start with a character are its field and what follows
pub is_character_field : (form : Form) (s : List ℕ) → Bytes s → is_character form s ≡ true → s ≡ character_field form (character_at form s 0) ++ drop (character_size form) s
unfolding character_field character_body character_at
is_character_field Old s b e = field_back 1 2 s b (read_character Old s e).head
is_character_field New s b e = field_back 7 4 s b (read_character New s e).head
