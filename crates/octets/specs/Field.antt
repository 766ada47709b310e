-- Fields (document 01, "Galley": "A field is one tag byte, a two-byte length, a body"). Galleys and sheets are made of them.
use Rattle.std.specs.Prelude.{ℕ, ◌+◌, Bool, ◌&&◌, List, ◌∷◌, ◌++◌, leb, eqb, length, get_or}
use Rattle.octets.specs.Octets.{bytes, nat_at}

unfoldable pub field : ℕ → List ℕ → List ℕ
field tag body = tag ∷ bytes 2 (length body) ++ body

-- End: tag 2, length 4: a count
unfoldable pub end_field : ℕ → List ℕ
end_field n = field 2 (bytes 4 n)

-- s starts with a whole field of this tag and this length
unfoldable pub starts_field : ℕ → ℕ → List ℕ → Bool
starts_field tag len s = leb (3 + len) (length s) && eqb (get_or s 0 0) tag && eqb (nat_at 2 1 s) len

-- s starts with a whole End that counts n
unfoldable pub starts_end : ℕ → List ℕ → Bool
starts_end n s = starts_field 2 4 s && eqb (nat_at 4 3 s) n
