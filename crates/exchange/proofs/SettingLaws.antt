-- What a setting does to a state: it sets something of its own.
--     applied                   the state after it
--     each_mode                 a law of each mode
--     applied_either            two settings of different things, in either order
--     escape_way, lead_way      a direction that it does not set stays
-- Assumes nothing.
use Rattle.std.specs.Prelude.{◌≡◌, refl, Bool}
use Rattle.std.proofs.Common.{ap}
use Rattle.typesetter.specs.declared.machine.Modes.{Modes}
use Rattle.typesetter.specs.declared.machine.State.{State}
use Rattle.typesetter.specs.Machine.{with_rail, with_mag, with_tilt, with_half, with_escape, with_lead, with_modes, with_size}
use Rattle.exchange.specs.Exchange.{Mode, rail, mag, tilt, half, escapeWay, leadWay, Setting, moded, sized, Different}

abbrev pub with_mode : Modes → Mode → Bool → Modes
with_mode m rail u = with_rail m u
with_mode m mag u = with_mag m u
with_mode m tilt u = with_tilt m u
with_mode m half u = with_half m u
with_mode m escapeWay u = with_escape m u
with_mode m leadWay u = with_lead m u

abbrev pub applied : State → Setting → State
applied s (moded m u) = with_modes s (with_mode s.modes m u)
applied s (sized n) = with_size s n

pub each_mode : (P : Mode → Type 0) → P rail → P mag → P tilt → P half → P escapeWay → P leadWay → (m : Mode) → P m
each_mode P a b c d e f rail = a
each_mode P a b c d e f mag = b
each_mode P a b c d e f tilt = c
each_mode P a b c d e f half = d
each_mode P a b c d e f escapeWay = e
each_mode P a b c d e f leadWay = f

-- two modes are set in either order
abbrev EitherMode : Modes → Bool → Bool → Mode → Mode → Type 0
EitherMode a u v m n = (m ≡ n → ⊥) → with_mode (with_mode a m u) n v ≡ with_mode (with_mode a n v) m u

modes_either : (a : Modes) (u v : Bool) (m n : Mode) → EitherMode a u v m n
modes_either a u v rail = each_mode (EitherMode a u v rail) (λ d. absurd (d refl)) (λ _. refl) (λ _. refl) (λ _. refl) (λ _. refl) (λ _. refl)
modes_either a u v mag = each_mode (EitherMode a u v mag) (λ _. refl) (λ d. absurd (d refl)) (λ _. refl) (λ _. refl) (λ _. refl) (λ _. refl)
modes_either a u v tilt = each_mode (EitherMode a u v tilt) (λ _. refl) (λ _. refl) (λ d. absurd (d refl)) (λ _. refl) (λ _. refl) (λ _. refl)
modes_either a u v half = each_mode (EitherMode a u v half) (λ _. refl) (λ _. refl) (λ _. refl) (λ d. absurd (d refl)) (λ _. refl) (λ _. refl)
modes_either a u v escapeWay = each_mode (EitherMode a u v escapeWay) (λ _. refl) (λ _. refl) (λ _. refl) (λ _. refl) (λ d. absurd (d refl)) (λ _. refl)
modes_either a u v leadWay = each_mode (EitherMode a u v leadWay) (λ _. refl) (λ _. refl) (λ _. refl) (λ _. refl) (λ _. refl) (λ d. absurd (d refl))

pub applied_either : (s : State) (x y : Setting) → Different x y → applied (applied s x) y ≡ applied (applied s y) x
applied_either s (moded m u) (moded n v) d = ap (with_modes s) (modes_either s.modes u v m n d)
applied_either s (moded m u) (sized n) d = refl
applied_either s (sized n) (moded m u) d = refl
applied_either s (sized n) (sized k) d = absurd d

-- a setting leaves a direction that it does not set
pub escape_way : (a : Modes) (u : Bool) (m : Mode) → (m ≡ escapeWay → ⊥) → (with_mode a m u).escape_back ≡ a.escape_back
escape_way a u =
    each_mode (λ m. (m ≡ escapeWay → ⊥) → (with_mode a m u).escape_back ≡ a.escape_back)
    (λ _. refl) (λ _. refl) (λ _. refl) (λ _. refl) (λ d. absurd (d refl)) (λ _. refl)

pub lead_way : (a : Modes) (u : Bool) (m : Mode) → (m ≡ leadWay → ⊥) → (with_mode a m u).lead_back ≡ a.lead_back
lead_way a u =
    each_mode (λ m. (m ≡ leadWay → ⊥) → (with_mode a m u).lead_back ≡ a.lead_back)
    (λ _. refl) (λ _. refl) (λ _. refl) (λ _. refl) (λ _. refl) (λ d. absurd (d refl))
