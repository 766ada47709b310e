-- The postamble: what stands after the byte PST, to the end of the file (002; document 01, "DVI").
--     trailer         what stands after the font definitions and their end mark
--     Part            where a reader of the font definitions stands
--     definitions     the font definitions, their end mark and the trailer
--     postamble       the whole
use Rattle.std.specs.Prelude.{ℕ, zero, suc, Bool, true, false, cond, ◌&&◌, List, [], ◌∷◌, leb, eqb, ℤ, pos, negsuc, length, get_or, take, drop}
use Rattle.integers.specs.Equality.{eq_z}
use Rattle.octets.specs.Octets.{signed}

unfoldable pub all223 : List ℕ → Bool
all223 [] = true
all223 (b ∷ bs) = eqb b 223 && all223 bs

-- PST's offset, a zero byte, and four or more bytes 223 to the end of the file
unfoldable pub trailer : ℕ → List ℕ → Bool
trailer pst bs =
    leb 9 (length bs) && eq_z (signed (take 4 bs)) (pos pst) && eqb (get_or bs 4 0) 0 && all223 (drop 5 bs)

pub data Part : Type 0 where
  -- at a font ID, or at the -1 that ends the definitions
  at_id : Part
  -- so many bytes before the character that stands before a name
  before_name : ℕ → Part
  -- in a name, which ends before this character
  in_name : ℕ → Part

-- A definition is an ID other than -1 in four bytes, a number in four, any character, a name without it, and that character
-- again. Neither ID nor number is compared; a name may be empty, and a definition may be repeated or missing.
unfoldable pub definitions : ℕ → Part → List ℕ → Bool
definitions pst part [] = false
definitions pst at_id (b ∷ bs) =
    leb 3 (length bs)
    && cond (eq_z (signed (take 4 (b ∷ bs))) (negsuc 0)) (trailer pst (drop 3 bs)) (definitions pst (before_name 7) bs)
definitions pst (before_name (suc n)) (b ∷ bs) = definitions pst (before_name n) bs
definitions pst (before_name zero) (q ∷ bs) = definitions pst (in_name q) bs
definitions pst (in_name q) (b ∷ bs) = cond (eqb b q) (definitions pst at_id bs) (definitions pst (in_name q) bs)

-- The last BOP's offset, height and width (any numbers), definitions, trailer. `last` is that offset, and `pst` PST's.
unfoldable pub postamble : ℤ → ℕ → List ℕ → Bool
postamble last pst bs =
    leb 12 (length bs) && eq_z (signed (take 4 bs)) last && definitions pst at_id (drop 12 bs)
