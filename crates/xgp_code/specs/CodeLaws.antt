-- What the tables of codes give.
--     decode_held       a code has its bytes in the file
--     decode_known      characters of seven bits, four fonts, columns of 14 bits
-- Assumes nothing.
use Rattle.std.specs.Prelude.{◌≡◌, refl, Bool, true, cond, List, [], ◌∷◌, ℕ, suc, ◌+◌, ◌*◌, ◌≤◌, ◌<◌, ltb, pos, length, Result, Ok, Err}
use Rattle.std.proofs.Common.{arith, ltb-true}
use Rattle.octets.specs.OctetsLaws.{by_cond}
use Rattle.xgp_code.specs.Measure.{in_dots}
use Rattle.xgp_code.specs.Code.{Meaning, outside, reserved, whole, further, normal, columns, adjusts, increments, operations, escaped, usual, of_seven_bits, one_more, read, decode}
use Rattle.xgp_code.specs.declared.Code.{Code}
use Rattle.xgp_code.specs.declared.Code.TheVariants.{Null, Char, LineFeed, FormFeed, Return, Font, Column, Increment, Adjust}
use Rattle.xgp_code.specs.declared.Decoded.{Decoded}
use Rattle.octets.specs.declared.refusal.Reason.{Reason}

-- ---- the bytes of a code

-- at most k bytes after the first
abbrev pub Held : ℕ → Result Decoded Reason → Type 0
Held k (Err r) = Unit {0}
Held k (Ok d) = d.after ≤ k

held_if : (k b : ℕ) (d : Result Decoded Reason) → Held k d → Held k (of_seven_bits b d)
unfolding of_seven_bits
held_if k b d h = by_cond (Held k) (ltb b 128) d _ (λ _. h) (λ _. tt)

held_more : (k : ℕ) (d : Result Decoded Reason) → Held k d → Held (suc k) (one_more d)
unfolding one_more
held_more k (Err r) h = tt
held_more k (Ok d) h = omega arith

held : (f : Meaning) (bs : List ℕ) → Held (length bs) (read f bs)
unfolding read
held outside bs = tt
held reserved bs = tt
held (whole c) bs = omega arith
held (further f) [] = tt
held (further f) (b ∷ bs) = held_if (suc (length bs)) b _ (held_more (length bs) (read (f b) bs) (held (f b) bs))

pub decode_held : (b : ℕ) (bs : List ℕ) → Held (length bs) (decode b bs)
unfolding decode
decode_held b bs = held_if (length bs) b (read (usual b) bs) (held (usual b) bs)

-- ---- the codes that are read

-- characters of seven bits, four fonts, columns of 14 bits
abbrev pub InPart : Code → Type 0
InPart Null = Unit {0}
InPart (Char c) = c < 128
InPart LineFeed = Unit {0}
InPart FormFeed = Unit {0}
InPart Return = Unit {0}
InPart (Font f) = f < 4
InPart (Column d) = (n : ℕ) × ((n < 16384) × (d ≡ in_dots (pos n)))
InPart (Increment d) = Unit {0}
InPart (Adjust l) = Unit {0}

abbrev Good : Meaning → Type 0
Good outside = Unit {0}
Good reserved = Unit {0}
Good (whole c) = InPart c
Good (further f) = (b : ℕ) → b < 128 → Good (f b)

good_if : (t : Bool) (f g : Meaning) → (t ≡ true → Good f) → Good g → Good (cond t f g)
good_if t f g h k = by_cond Good t f g h (λ _. k)

good_operations : (b : ℕ) → b < 128 → Good (operations b)
unfolding operations columns adjusts
good_operations b h =
    good_if (ltb b 4) (whole (Font b)) _ (λ e. ltb-true b 4 e)
    (good_if (ltb b 32) reserved _ (λ _. tt)
    (good_if (ltb b 33) columns _ (λ _. (λ i k j l. (128 * i + j, (omega arith, refl))))
    (good_if (ltb b 35) outside _ (λ _. tt)
    (good_if (ltb b 36) adjusts _ (λ _. (λ i k. tt))
    (good_if (ltb b 41) outside _ (λ _. tt) tt)))))

good_escaped : (b : ℕ) → b < 128 → Good (escaped b)
unfolding escaped increments
good_escaped b h =
    good_if (ltb b 1) (normal b) _ (λ _. h)
    (good_if (ltb b 2) (further operations) _ (λ _. good_operations)
    (good_if (ltb b 3) increments _ (λ _. (λ i k. tt))
    (good_if (ltb b 5) outside _ (λ _. tt)
    (good_if (ltb b 9) reserved _ (λ _. tt)
    (good_if (ltb b 11) (normal b) _ (λ _. h)
    (good_if (ltb b 12) reserved _ (λ _. tt)
    (good_if (ltb b 14) (normal b) _ (λ _. h)
    (good_if (ltb b 32) reserved _ (λ _. tt) h))))))))

good_usual : (b : ℕ) → b < 128 → Good (usual b)
unfolding usual
good_usual b h =
    good_if (ltb b 1) (whole Null) _ (λ _. tt)
    (good_if (ltb b 8) (normal b) _ (λ _. h)
    (good_if (ltb b 10) outside _ (λ _. tt)
    (good_if (ltb b 11) (whole LineFeed) _ (λ _. tt)
    (good_if (ltb b 12) (normal b) _ (λ _. h)
    (good_if (ltb b 13) (whole FormFeed) _ (λ _. tt)
    (good_if (ltb b 14) (whole Return) _ (λ _. tt)
    (good_if (ltb b 127) (normal b) _ (λ _. h) good_escaped)))))))

abbrev pub Known : Result Decoded Reason → Type 0
Known (Err r) = Unit {0}
Known (Ok d) = InPart d.code

known_if : (b : ℕ) (d : Result Decoded Reason) → (b < 128 → Known d) → Known (of_seven_bits b d)
unfolding of_seven_bits
known_if b d h = by_cond Known (ltb b 128) d _ (λ e. h (ltb-true b 128 e)) (λ _. tt)

known_more : (d : Result Decoded Reason) → Known d → Known (one_more d)
unfolding one_more
known_more (Err r) h = tt
known_more (Ok d) h = h

known_read : (f : Meaning) (bs : List ℕ) → Good f → Known (read f bs)
unfolding read
known_read outside bs h = tt
known_read reserved bs h = tt
known_read (whole c) bs h = h
known_read (further f) [] h = tt
known_read (further f) (b ∷ bs) h = known_if b _ (λ l. known_more (read (f b) bs) (known_read (f b) bs (h b l)))

pub decode_known : (b : ℕ) (bs : List ℕ) → Known (decode b bs)
unfolding decode
decode_known b bs = known_if b _ (λ l. known_read (usual b) bs (good_usual b l))
