-- The codes of XGP character mode (003) and the part of them that is read (document 02, "The XGP drawer"). 003's numbers are octal; so
-- are those in comments at the tables' rows.
--     Meaning        what a byte means, or that the next one decides
--     usual          003's column "Usual meaning"
--     escaped        003's column "Escape significance"
--     operations     the operation codes of XGP ESCAPE 1
--     read           the code that bytes make after a byte of that meaning
--     decode         the code with this first byte, before these bytes
use Rattle.std.specs.Prelude.{ℕ, suc, ◌+◌, ◌*◌, cond, List, [], ◌∷◌, ltb, pos, Result, Ok, Err}
use Rattle.octets.specs.Octets.{twos}
use Rattle.xgp_code.specs.Measure.{in_dots, in_lines}
use Rattle.xgp_code.specs.declared.Code.{Code}
use Rattle.xgp_code.specs.declared.Code.TheVariants.{Null, Char, LineFeed, FormFeed, Return, Font, Column, Increment, Adjust}
use Rattle.xgp_code.specs.declared.Decoded.{Decoded}
use Rattle.octets.specs.declared.refusal.Reason.{Reason}
use Rattle.octets.specs.declared.refusal.Reason.TheVariants.{OutsidePart, ReservedCode, CodeCutShort}

-- ---- the tables

pub data Meaning : Type 0 where
  -- in 003, and outside this part
  outside : Meaning
  -- reserved, or not listed
  reserved : Meaning
  -- the code is whole
  whole : Code → Meaning
  -- the next byte decides
  further : (ℕ → Meaning) → Meaning

-- "Normal means the definition of this byte in the current font will be printed"
abbrev pub normal : ℕ → Meaning
normal b = whole (Char b)

-- 40: "the next 14 bits", two bytes of seven bits, high first
unfoldable pub columns : Meaning
columns = further (λ h. further (λ l. whole (Column (in_dots (pos (128 * h + l))))))

-- 43: "the next 7 bits are taken in two's complement"
unfoldable pub adjusts : Meaning
adjusts = further (λ b. whole (Adjust (in_lines (twos 128 b))))

-- XGP ESCAPE 2: "0-77 are positive increments, 100 to 177 are negative increments (100 = -100, 177 = -1)"
unfoldable pub increments : Meaning
increments = further (λ b. whole (Increment (in_dots (twos 128 b))))

-- XGP ESCAPE 1: "causes the next 7 bits to be read as a special operation code"
unfoldable pub operations : ℕ → Meaning
operations b =
    cond (ltb b 0x04) (whole (Font b))  -- 0-3 Font select
    (cond (ltb b 0x20) reserved  -- 4-37 Reserved for future use
    (cond (ltb b 0x21) columns  -- 40 XGP Column Selector
    (cond (ltb b 0x23) outside  -- 41 XGP Underscore, 42 Line space
    (cond (ltb b 0x24) adjusts  -- 43 Base-line adjust
    (cond (ltb b 0x29) outside  -- 44 page number, 45 heading text, 46, 47 Underline, 50 intercharacter spacing
    reserved)))))  -- 51-177 not listed

-- the escape significance; "on escaped 10 octal 003's last sentence decides over its table: reserved"
unfoldable pub escaped : ℕ → Meaning
escaped b =
    cond (ltb b 0x01) (normal b)  -- 0 Normal
    (cond (ltb b 0x02) (further operations)  -- 1 XGP ESCAPE 1
    (cond (ltb b 0x03) increments  -- 2 XGP ESCAPE 2
    (cond (ltb b 0x05) outside  -- 3 XGP ESCAPE 3, 4 XGP ESCAPE 4
    (cond (ltb b 0x09) reserved  -- 5-10 Reserved
    (cond (ltb b 0x0B) (normal b)  -- 11, 12 Normal
    (cond (ltb b 0x0C) reserved  -- 13 Reserved
    (cond (ltb b 0x0E) (normal b)  -- 14, 15 Normal
    (cond (ltb b 0x20) reserved  -- 16-37 Reserved
    (normal b)))))))))  -- 40-177 Normal

-- the usual meaning
unfoldable pub usual : ℕ → Meaning
usual b =
    cond (ltb b 0x01) (whole Null)  -- 0 Null
    (cond (ltb b 0x08) (normal b)  -- 1-7 Normal
    (cond (ltb b 0x0A) outside  -- 10 Backspace, 11 TAB
    (cond (ltb b 0x0B) (whole LineFeed)  -- 12 LF
    (cond (ltb b 0x0C) (normal b)  -- 13 Normal
    (cond (ltb b 0x0D) (whole FormFeed)  -- 14 FF
    (cond (ltb b 0x0E) (whole Return)  -- 15 CR
    (cond (ltb b 0x7F) (normal b)  -- 16-176 Normal
    (further escaped))))))))  -- 177 ESCAPE

-- ---- codes in bytes

-- 60: a byte above 127, wherever it stands in a code
unfoldable pub of_seven_bits : ℕ → Result Decoded Reason → Result Decoded Reason
of_seven_bits b d = cond (ltb b 128) d (Err OutsidePart)

-- a code with one byte more
unfoldable pub one_more : Result Decoded Reason → Result Decoded Reason
one_more (Err r) = Err r
one_more (Ok d) = Ok (record { code = d.code; after = suc d.after })

-- The code that the bytes make, and how many of them. 62: no byte is left. What the bytes that are there tell comes first, so that at one
-- code 60 and 61 come before 62; and no byte has both 60 and 61.
unfoldable pub read : Meaning → List ℕ → Result Decoded Reason
read outside bs = Err OutsidePart
read reserved bs = Err ReservedCode
read (whole c) bs = Ok (record { code = c; after = 0 })
read (further f) [] = Err CodeCutShort
read (further f) (b ∷ bs) = of_seven_bits b (one_more (read (f b) bs))

unfoldable pub decode : ℕ → List ℕ → Result Decoded Reason
decode b bs = of_seven_bits b (read (usual b) bs)

-- how a code goes on after its next byte, if that is one
abbrev pub after_byte : Result ℕ Reason → (ℕ → Result Decoded Reason) → Result Decoded Reason
after_byte (Ok b) f = f b
after_byte (Err r) f = Err r
