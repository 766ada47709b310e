-- Reading back: the characters of a checked galley, one after the other.
-- Assumes nothing.
use mathlib.Core.Path.{◌≡◌, refl, sym, ap, subst, ◌∙◌}
use mathlib.Core.Bool.{Bool, true, false, cond}
use mathlib.Core.List.{List, [], ◌∷◌, ◌++◌}
use Prim.Native.Nat.{ℕ, zero, suc, ◌+◌, ◌*◌, ◌<◌, ◌≤◌}
use native.Mathlib.Nat.{suc-ne-zero}
use native.Mathlib.Omega.{arith}
use borrow.Author.Tests.{lt-ltb, le-ltb}
use lib.Dec.{ltb, eqb}
use lib.ListN.{length, get_or, length-append}
use lib.IntN.{pos}
use lib.Signed.{◌≤ℤ◌}
use Rattle.octets.specs.Octets.{nat_at}
use Rattle.octets.specs.Answer.{accepted, refused, no_character, galley_too_long}
use Rattle.galley_file.specs.declared.character.Character.{Character}
use Rattle.galley_file.specs.declared.item.Item.{Item}
use Rattle.galley_file.specs.declared.item.Item.TheVariants.{Placed, Cut}
use Rattle.galley_file.specs.declared.form.Form.TheVariants.{New}
use Rattle.galley_file.specs.Form.{greatest_height, max_galley}
use Rattle.galley_file.specs.Character.{valid, character_at}
use Rattle.galley_file.specs.CharacterLaws.{height_number}
use Rattle.galley_file.specs.Item.{item_at, tally, characters_of, cuts_of}
use Rattle.galley_file.specs.ItemLaws.{characters_append, count_item}
use Rattle.galley_file.specs.Galley.{max_items, Reading, whole, malformed, read_galley, items_of}
use Rattle.galley_file.specs.GalleyLaws.{checked, read_as, length_fields}
use Rattle.galley_file.specs.ReadingLaws.{reading_length}
use Rattle.galley_file.specs.Walk.{Walk, walk_start, walk_step}
use Rattle.galley_file.specs.Outcome.{count_outcome, check_outcome}
use Rattle.galley_check.specs.Found.{found, not_found, pick_found, read_back_outcome, zeros}

-- where the check refuses, so does reading back
pub back_refused : (g : List ℕ) (n number place : ℕ) → refused number place ≡ check_outcome New g → not_found number place ≡ read_back_outcome g n
unfolding check_outcome read_back_outcome
back_refused g n number place e = go (ltb (max_galley New) (length g)) (read_galley New g) e
  where
    go : (t : Bool) (r : Reading) → refused number place ≡ cond t (refused galley_too_long 0) (count_outcome 0 r) → not_found number place ≡ cond t (not_found galley_too_long 0) (pick_found n r)
    go true r h = cc
    go false (whole is) h = absurd (suc-ne-zero 0 cc)
    go false (malformed p) h = cc

-- and where it accepts, the characters decide
module _ (g : List ℕ) (n : ℕ) (is : List Item) (fits : length g ≤ max_galley New) (read : read_galley New g ≡ whole is) where
  picked : n < length (characters_of is) → found (get_or (characters_of is) n zeros) ≡ read_back_outcome g n
  unfolding read_back_outcome
  picked h = rw (le-ltb _ _ fits, read, lt-ltb _ _ h)

  missing : length (characters_of is) ≤ n → not_found no_character 0 ≡ read_back_outcome g n
  unfolding read_back_outcome
  missing h = rw (le-ltb _ _ fits, read, le-ltb _ _ h)

-- an accepted galley's characters decide
pub back_accepted : (g : List ℕ) (n count : ℕ) → accepted count ≡ check_outcome New g → read_back_outcome g n ≡ pick_found n (whole (items_of New g))
unfolding read_back_outcome
back_accepted g n count e = rw (le-ltb _ _ (checked New g count e).fits, read_as New g count e)

pub back_none : (g : List ℕ) (n count : ℕ) → accepted count ≡ check_outcome New g → count ≤ n → not_found no_character 0 ≡ read_back_outcome g n
back_none g n count e h = let c = checked New g count e in missing g n c.items c.fits c.read (omega (arith, c.counted))

-- a galley within the limit has few characters
pub back_few : (g : List ℕ) (count : ℕ) → accepted count ≡ check_outcome New g → 11 * count + 7 ≤ max_galley New
unfolding read_galley
back_few g count e =
    let c = checked New g count e in
    omega (arith, reading_length New c.items max_items g 0 0 c.read, length_fields New c.items, c.counted, c.fits)

-- the element after a list
get_d_at : (cs : List Character) (c : Character) (ds : List Character) (n : ℕ) → length cs ≡ n → get_or (cs ++ (c ∷ ds)) n zeros ≡ c
get_d_at [] c ds zero e = refl
get_d_at [] c ds (suc n) e = absurd (omega arith)
get_d_at (d ∷ cs) c ds zero e = absurd (omega arith)
get_d_at (d ∷ cs) c ds (suc n) e = get_d_at cs c ds n (omega arith)

-- character n of the items is this turn's
pub pick_turn : (all done rest : List Item) (c : Character) (n : ℕ) → all ≡ done ++ (Placed c ∷ rest) → length (characters_of done) ≡ n → found c ≡ pick_found n (whole all)
unfolding characters_of
pick_turn all done rest c n a k =
    let cs = characters_of done in
    let r = characters_of rest in
    let q : characters_of all ≡ cs ++ (c ∷ r) = ap characters_of a ∙ characters_append done (Placed c ∷ rest) in
    let is-there : get_or (characters_of all) n zeros ≡ c = ap (λ (l : List Character). get_or l n zeros) q ∙ get_d_at cs c r n k in
    let room : n < length (characters_of all) = omega (arith, k, ap length q, length-append cs (c ∷ r)) in
    ap found (sym is-there) ∙ rw (lt-ltb _ _ room)

-- there is none
pub pick_none : (all : List Item) (n : ℕ) → length (characters_of all) ≤ n → not_found no_character 0 ≡ pick_found n (whole all)
pick_none all n h = rw (le-ltb _ _ h)

-- the characters of the items gone by, with this turn's
pub counted_more : (done : List Item) (i : Item) → length (characters_of (done ++ (i ∷ []))) ≡ length (characters_of done) + tally i
unfolding characters_of
counted_more done i = omega (arith, ap length (characters_append done (i ∷ [])), length-append (characters_of done) (characters_of (i ∷ [])), count_item i [])

-- an item that is no character counts 0
pub tally_cut : (i : Item) → ((c : Character) → i ≡ Placed c → ⊥) → tally i ≡ 0
tally_cut (Placed c) h = absurd (h c refl)
tally_cut Cut h = refl

-- ---- a galley without cuts: character n stands at byte 11 n

-- the character c stands at i
record Stands (g : List ℕ) (i : ℕ) (c : Character) : Type 0 where
  item_is : item_at New g i ≡ Placed c
  room : i + 11 ≤ length g
  is_valid : valid (greatest_height New) c ≡ true

uncut : (g : List ℕ) (done rest : List Item) (at n : ℕ) → Walk New g done rest at → cuts_of rest ≡ 0 → n < length (characters_of rest)
    → Stands g (at + 11 * n) (get_or (characters_of rest) n zeros)
unfolding characters_of cuts_of
uncut g done [] at n w z h = absurd (omega arith)
uncut g done (Cut ∷ rest) at n w z h = absurd (omega arith)
uncut g done (Placed c ∷ rest) at zero w z h =
    let s = walk_step New g done (Placed c) rest at w in
    let y : at + 11 * 0 ≡ at = omega arith in
    record { item_is = ap (item_at New g) y ∙ s.here; room = omega (arith, s.room); is_valid = s.is_valid }
uncut g done (Placed c ∷ rest) at (suc n) w z h =
    let s = walk_step New g done (Placed c) rest at w in
    let r = uncut g (done ++ (Placed c ∷ [])) rest (at + 11) n s.walk z (omega arith) in
    let y : at + 11 + 11 * n ≡ at + 11 * suc n = omega arith in
    subst (λ (i : ℕ). Stands g i (get_or (characters_of rest) n zeros)) y r

by_tag : (s : List ℕ) (i : ℕ) (c : Character) → item_at New s i ≡ Placed c → character_at New s i ≡ c
unfolding item_at
by_tag s i c = go (eqb (get_or s i 0) 6)
  where
    go : (t : Bool) → cond t Cut (Placed (character_at New s i)) ≡ Placed c → character_at New s i ≡ c
    go true e = absurd (suc-ne-zero 0 cc)
    go false e = cc

module _ (g : List ℕ) (n count : ℕ) (e : accepted count ≡ check_outcome New g) (short : length g ≡ 11 * count + 7) (h : n < count) where
  stands : Stands g (n * 11) (get_or (characters_of (checked New g count e).items) n zeros)
  unfolding read_galley
  stands =
      let c = checked New g count e in
      let l = reading_length New c.items max_items g 0 0 c.read in
      let z : 0 + 11 * n ≡ n * 11 = omega arith in
      subst (λ (i : ℕ). Stands g i (get_or (characters_of c.items) n zeros)) z
      (uncut g [] c.items 0 n (walk_start New g c.items c.read) (omega (arith, l, length_fields New c.items, c.counted)) (omega (arith, c.counted)))

  character_is : character_at New g (n * 11) ≡ get_or (characters_of (checked New g count e).items) n zeros
  character_is = by_tag g (n * 11) (get_or (characters_of (checked New g count e).items) n zeros) stands.item_is

  pub back_room : (n * 11 + 11 ≤ length g) × (pos (nat_at 4 (n * 11 + 5) g) ≤ℤ greatest_height New)
  back_room = (stands.room, height_number New g (n * 11) (ap (valid (greatest_height New)) character_is ∙ stands.is_valid))

  pub back_found : found (character_at New g (n * 11)) ≡ read_back_outcome g n
  back_found =
      let c = checked New g count e in
      ap found character_is ∙ picked g n c.items c.fits c.read (omega (arith, c.counted))
