-- The commands inside a page: bytes and back; and what `next` says of a command.
--     MoveFits             the number of a move fits four bytes
--     command_of_in_bytes    the bytes of a command are read as it
--     page_next_lem            a command that may come leads on
--     next_page_lem            a command that leads on is one that may come
-- Assumes nothing.
use Rattle.std.specs.Prelude.{◌≡◌, refl, Bool, true, false, cond, ◌&&◌, List, [], ◌∷◌, ℕ, zero, suc, ◌+◌, ◌-◌, ◌≤◌, ◌<◌, ltb, leb, eqb}
use Rattle.std.proofs.Common.{ap, ◌∙◌, suc-ne-zero, arith, ltb-true, le-leb, ne_eqb}
use Rattle.std.proofs.Math.Option.{none, some}
use Rattle.std.specs.Int.Signed.{mag}
use Rattle.octets.specs.Octets.{signed, signed_bytes}
use Rattle.octets.specs.OctetsLaws.{by_cond, signed_signed_bytes}
use Rattle.octets.specs.FieldLaws.{both}
use Rattle.dvi2.specs.Command.{PUT1, EOP, RIGHT1, DOWN1, FNTNUM0, FNT1, FNTDEF1}
use Rattle.dvi2.specs.Writer.{parameter_width, selects, definition, shortest}
use Rattle.dvi2.specs.WriterLaws.{parameter_width_range, parameter_width_holds}
use Rattle.dvi2_reading.specs.PageReading.{same, PageCommand, ending, defining, selecting, across, downward, putting, in_bytes, command_of, PageState, may_come}
use Rattle.dvi2_reading.specs.Reading.{State, in_page, page_state_after, page_next, only, next}
use Rattle.dvi2_reading.proofs.BytesLaws.{same_is, same_self}
use Rattle.dvi2_reading.specs.SizeLaws.{Command, eop_command, put_command, definition_command, selects_command, right_command, down_command}

-- the number of a move fits four bytes
abbrev pub MoveFits : PageCommand → Type 0
MoveFits ending = Unit {0}
MoveFits (defining f) = Unit {0}
MoveFits (selecting f) = Unit {0}
MoveFits (across m) = mag m < 2147483648
MoveFits (downward m) = mag m < 2147483648
MoveFits (putting c) = Unit {0}

select_of : (f : ℕ) → command_of (selects f) ≡ selecting f
unfolding selects command_of
select_of f =
    by_cond (λ (c : List ℕ). command_of c ≡ selecting f) (ltb f 64) _ _
    (λ e. one (ltb-true f 64 e))
    (λ _. refl)
  where
    one : f < 64 → command_of ((FNTNUM0 + f) ∷ []) ≡ selecting f
    one l =
        let a : eqb (FNTNUM0 + f) PUT1 ≡ false = ne_eqb (FNTNUM0 + f) PUT1 (λ (e : FNTNUM0 + f ≡ PUT1). omega arith) in
        let b : eqb (FNTNUM0 + f) EOP ≡ false = ne_eqb (FNTNUM0 + f) EOP (λ (e : FNTNUM0 + f ≡ EOP). omega arith) in
        let c : eqb (FNTNUM0 + f) FNTDEF1 ≡ false = ne_eqb (FNTNUM0 + f) FNTDEF1 (λ (e : FNTNUM0 + f ≡ FNTDEF1). omega arith) in
        let d : eqb (FNTNUM0 + f) FNT1 ≡ false = ne_eqb (FNTNUM0 + f) FNT1 (λ (e : FNTNUM0 + f ≡ FNT1). omega arith) in
        let g : leb FNTNUM0 (FNTNUM0 + f) ≡ true = le-leb FNTNUM0 (FNTNUM0 + f) (omega arith) in
        let n : FNTNUM0 + f - FNTNUM0 ≡ f = omega arith in
        rw (a, b, c, d, g, n)

-- one of the four commands of a move
of_width : (op k : ℕ) (bs : List ℕ) (d : PageCommand) → command_of ((op + 0) ∷ bs) ≡ d → command_of ((op + 1) ∷ bs) ≡ d → command_of ((op + 2) ∷ bs) ≡ d
    → command_of ((op + 3) ∷ bs) ≡ d → 1 ≤ k → k ≤ 4 → command_of ((op + (k - 1)) ∷ bs) ≡ d
of_width op zero bs d a b c e l h = absurd (omega arith)
of_width op (suc zero) bs d a b c e l h = a
of_width op (suc (suc zero)) bs d a b c e l h = b
of_width op (suc (suc (suc zero))) bs d a b c e l h = c
of_width op (suc (suc (suc (suc zero)))) bs d a b c e l h = e
of_width op (suc (suc (suc (suc (suc k))))) bs d a b c e l h = absurd (omega arith)

pub command_of_in_bytes : (d : PageCommand) → MoveFits d → command_of (in_bytes d) ≡ d
unfolding in_bytes command_of definition shortest
command_of_in_bytes ending s = refl
command_of_in_bytes (defining f) s = refl
command_of_in_bytes (selecting f) s = select_of f
command_of_in_bytes (across m) s =
    let r = parameter_width_range m in
    let bs = signed_bytes (parameter_width m) m in
    of_width RIGHT1 (parameter_width m) bs (across (signed bs)) refl refl refl refl r.0 r.1
    ∙ ap across (signed_signed_bytes (parameter_width m) m (parameter_width_holds m s))
command_of_in_bytes (downward m) s =
    let r = parameter_width_range m in
    let bs = signed_bytes (parameter_width m) m in
    of_width DOWN1 (parameter_width m) bs (downward (signed bs)) refl refl refl refl r.0 r.1
    ∙ ap downward (signed_signed_bytes (parameter_width m) m (parameter_width_holds m s))
command_of_in_bytes (putting c) s = refl

pub in_bytes_command : (d : PageCommand) → Command (in_bytes d)
unfolding in_bytes
in_bytes_command ending = eop_command
in_bytes_command (defining f) = definition_command f
in_bytes_command (selecting f) = selects_command f
in_bytes_command (across m) = right_command m
in_bytes_command (downward m) = down_command m
in_bytes_command (putting c) = put_command c

-- ---- what leads on

pub page_next_lem : (h : PageState) (d : PageCommand) → MoveFits d → may_come h d ≡ true → next (in_page h) (in_bytes d) ≡ some (page_state_after h d)
unfolding next page_next
page_next_lem h d s m =
    ap (page_next h (in_bytes d)) (command_of_in_bytes d s) ∙ rw (same_self (in_bytes d), m)

-- an option that is there
pub only_some : (t : Bool) (q r : State) → cond t (some q) none ≡ some r → (t ≡ true) × (q ≡ r)
only_some true q r e = (refl, cc)
only_some false q r e = absurd (suc-ne-zero 0 cc)

pub record Came (h : PageState) (c : List ℕ) (r : State) : Type 0 where
  pub which : PageCommand
  pub bytes_are : c ≡ in_bytes which
  pub may : may_come h which ≡ true
  pub leads : page_state_after h which ≡ r

pub next_page_lem : (h : PageState) (c : List ℕ) (r : State) → next (in_page h) c ≡ some r → Came h c r
unfolding next page_next
next_page_lem h c r e =
    let d = command_of c in
    let o = only_some (same c (in_bytes d) && may_come h d) (page_state_after h d) r e in
    let b = both (same c (in_bytes d)) (may_come h d) o.0 in
    record { which = d; bytes_are = same_is c (in_bytes d) b.0; may = b.1; leads = o.1 }

pub record Only (c e : List ℕ) (q r : State) : Type 0 where
  pub bytes_are : c ≡ e
  pub leads : q ≡ r

pub only_is : (c e : List ℕ) (q r : State) → only c e q ≡ some r → Only c e q r
unfolding only
only_is c e q r h = let o = only_some (same c e) q r h in record { bytes_are = same_is c e o.0; leads = o.1 }

pub is_only : (e : List ℕ) (q : State) → only e e q ≡ some q
unfolding only
is_only e q = rw (same_self e)
