-- What the writers of both editions of DVI share.
--     flatten_append          the bytes of two lists of pieces
--     pieces_append           those of the pieces made of two lists, and length_pieces their number
--     length_if               the length of a command that may be left out, and if_most the most bytes of it
--     Offsets                 the offsets that a writer keeps
--     Small                   they fit four bytes, after n items more too, each of at most so many bytes
--     Next                    the offsets after an item of at most so many bytes
--     small_next              those after an item fit, and small_all those after a list of items
-- Assumes nothing.
use Rattle.std.specs.Prelude.{◌≡◌, Bool, true, false, cond, ℕ, suc, ◌+◌, ◌*◌, ◌≤◌, ◌<◌, length}
use Rattle.std.proofs.Math.Path.{refl, sym, ap}
use Rattle.std.proofs.Common.{◌∙◌, zero-add, suc-add, length-append}
use mathlib.Core.List.{List, [], ◌∷◌, ◌++◌, map, foldl, flatten, append_assoc}
use Rattle.std.proofs.Math.Nat.{mul-suc}
use native.Mathlib.Omega.{arith}
use Rattle.galley_file.specs.declared.item.Item.{Item}

-- ---- pieces one after another

pub flatten_append : (ps qs : List (List ℕ)) → flatten (ps ++ qs) ≡ flatten ps ++ flatten qs
unfolding flatten
flatten_append [] qs = refl
flatten_append (p ∷ ps) qs = ap (λ (l : List ℕ). p ++ l) (flatten_append ps qs) ∙ sym (append_assoc p (flatten ps) (flatten qs))

module _ (piece : ℕ → List ℕ) where
  pub pieces_append : (fs gs : List ℕ) → flatten (map piece (fs ++ gs)) ≡ flatten (map piece fs) ++ flatten (map piece gs)
  unfolding flatten
  pieces_append [] gs = refl
  pieces_append (f ∷ fs) gs =
      ap (λ (l : List ℕ). piece f ++ l) (pieces_append fs gs)
      ∙ sym (append_assoc (piece f) (flatten (map piece fs)) (flatten (map piece gs)))

  pub length_pieces : (n : ℕ) → ((f : ℕ) → length (piece f) ≡ n) → (fs : List ℕ) → length (flatten (map piece fs)) ≡ n * length fs
  unfolding flatten
  length_pieces n h [] = omega arith
  length_pieces n h (f ∷ fs) = rw (length-append, mul-suc n (length fs)) (omega (arith, h f, length_pieces n h fs))

-- ---- a command that may be left out

pub length_if : (left_out : Bool) (bs : List ℕ) (n : ℕ) → length bs ≡ n → length (cond left_out [] bs) ≡ cond left_out 0 n
length_if true bs n h = refl
length_if false bs n h = h

pub if_most : (left_out : Bool) (bs : List ℕ) (n : ℕ) → length bs ≤ n → length (cond left_out [] bs) ≤ n
if_most true bs n h = omega arith
if_most false bs n h = h

-- ---- the offsets

pub record Offsets : Type 0 where
  -- the page's number
  pub page : ℕ
  -- the offset of its bop
  pub bop : ℕ
  -- the offset of the next byte
  pub at : ℕ

pub record Small (most : ℕ) (o : Offsets) (n : ℕ) : Type 0 where
  pub bop_before : o.bop ≤ o.at
  pub at_small : o.at + most * n < 2147483648
  pub page_small : o.page + n < 2147483648

pub record Next (most : ℕ) (o p : Offsets) : Type 0 where
  pub page_next_lem : p.page ≤ suc o.page
  pub bop_next : o.bop ≤ o.at → p.bop ≤ p.at
  pub at_next : p.at ≤ o.at + most

module _ {W : Type 0} (after : W → Item → W) (offsets_of : W → Offsets) (most : ℕ) (next : (w : W) (i : Item) → Next most (offsets_of w) (offsets_of (after w i))) where
  pub small_next : (w : W) (i : Item) (n : ℕ) → Small most (offsets_of w) (suc n) → Small most (offsets_of (after w i)) n
  small_next w i n s =
      let x = next w i in
      record {
        bop_before = x.bop_next s.bop_before;
        at_small = omega (arith, s.at_small, x.at_next, mul-suc most n);
        page_small = omega (arith, s.page_small, x.page_next_lem);
      }

  pub small_all : (w : W) (is : List Item) (n : ℕ) → Small most (offsets_of w) (length is + n) → Small most (offsets_of (foldl after w is)) n
  small_all w [] n s = rw zero-add at s
  small_all w (i ∷ is) n s = small_all (after w i) is n (small_next w i (length is + n) (rw suc-add at s))
