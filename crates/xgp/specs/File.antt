-- What a file of XGP character mode shows, or why it is refused and where (document 02, "The XGP drawer").
--     Step        what the code at a place leads to
--     step        the step that each code makes
--     run         what the rest of a file shows
--     read_xgp     what a file shows, with these widths and this line spacing
use Rattle.std.specs.Prelude.{ℕ, zero, suc, List, [], ◌∷◌, ℤ, Result, Ok, Err}
use Rattle.octets.specs.Answer.{number_in}
use Rattle.octets.specs.declared.refusal.Reason.{Reason}
use Rattle.sheet.specs.Sheet.{Mark}
use Rattle.sheet.specs.Shown.{Shown, refused_at, shows, shows_first}
use Rattle.xgp_code.specs.Code.{decode}
use Rattle.xgp.specs.State.{start, Effect, fault, moved, effect}
use Rattle.xgp_code.specs.declared.Decoded.{Decoded}
use Rattle.xgp.specs.declared.state.State.{State}

pub data Step : Type 0 where
  -- a refusal with this number
  refuse : ℕ → Step
  -- the state after the code, what it shows, and the number of its bytes after the first
  go_on : State → List Mark → ℕ → Step

unfoldable pub after_effect : ℕ → Effect → Step
after_effect n (fault r) = refuse r
after_effect n (moved t ms) = go_on t ms n

unfoldable pub after_code : List ℤ → ℕ → State → Result Decoded Reason → Step
after_code ws spacing s (Err r) = refuse (number_in r)
after_code ws spacing s (Ok d) = after_effect d.after (effect ws spacing s d.code)

-- the code with first byte b, before the bytes bs
unfoldable pub step : List ℤ → ℕ → State → ℕ → List ℕ → Step
step ws spacing s b bs = after_code ws spacing s (decode b bs)

-- what a step at offset `at` shows, with what the rest shows
unfoldable pub follow : ℕ → Step → (State → ℕ → Shown) → Shown
follow at (refuse r) rest = refused_at r at
follow at (go_on t ms n) rest = shows_first ms (rest t n)

-- the rest of the file from offset `at`, after n bytes that are passed over
unfoldable pub run : List ℤ → ℕ → ℕ → State → ℕ → List ℕ → Shown
run ws spacing at s n [] = shows []
run ws spacing at s (suc n) (b ∷ bs) = run ws spacing (suc at) s n bs
run ws spacing at s zero (b ∷ bs) = follow at (step ws spacing s b bs) (λ t n. run ws spacing (suc at) t n bs)

unfoldable pub read_xgp : List ℤ → ℕ → List ℕ → Shown
read_xgp ws spacing file = run ws spacing 0 (start spacing) 0 file
