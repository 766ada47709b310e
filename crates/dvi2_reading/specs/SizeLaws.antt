-- The writer's commands have DVItype's lengths.
--     Command          a whole command, whatever follows it
-- Assumes nothing.
use Rattle.std.specs.Prelude.{◌≡◌, refl, true, false, List, [], ◌∷◌, ◌++◌, ℕ, zero, suc, ◌+◌, ◌-◌, ◌≤◌, ◌<◌, ltb, eqb, ℤ, length}
use Rattle.std.proofs.Common.{sym, ap, ◌∙◌, arith, lt-ltb, le-ltb, ltb-true, ne_eqb}
use Rattle.octets.specs.Octets.{number_from, bytes, signed_bytes}
use Rattle.octets.specs.OctetsLaws.{by_cond, length_signed_bytes}
use Rattle.galley_file.specs.declared.character.Character.{Character}
use Rattle.dvi.specs.Writer.{name_of}
use Rattle.dvi2.specs.Command.{PUT1, BOP, EOP, RIGHT1, DOWN1, FNTNUM0, FNT1, PRE, POST, POSTPOST, first_layouts, last_layouts, layout_of}
use Rattle.dvi2.specs.Writer.{parameter_width, selects, definition, shortest, unit_bytes, preamble_bytes, bop_bytes, post_bytes}
use Rattle.dvi2.specs.WriterLaws.{parameter_width_range, length_bop, length_post}
use Rattle.dvi2_reading.specs.Beginning.{size_of, parameters, command_size}

pub record Command (c : List ℕ) : Type 0 where
  pub sized : (w : List ℕ) → command_size (c ++ w) ≡ length c
  pub some_byte : 0 < length c

pub preamble_command : Command preamble_bytes
unfolding command_size parameters preamble_bytes unit_bytes bytes
preamble_command = record { sized = λ w. refl; some_byte = omega arith }

pub bop_command : (n : ℕ) (previous : ℤ) → Command (bop_bytes n previous)
unfolding command_size parameters bop_bytes
bop_command n previous = record { sized = λ w. sym (length_bop n previous); some_byte = omega (arith, length_bop n previous) }

pub post_command : (last pages : ℕ) (cs : List Character) → Command (post_bytes last pages cs)
unfolding command_size parameters post_bytes
post_command last pages cs = record { sized = λ w. sym (length_post last pages cs); some_byte = omega (arith, length_post last pages cs) }

pub postpost_command : (n : ℕ) → Command (POSTPOST ∷ bytes 4 n ++ (2 ∷ []))
unfolding command_size parameters bytes
postpost_command n = record { sized = λ w. refl; some_byte = omega arith }

pub fill_command : Command (223 ∷ [])
unfolding command_size parameters size_of layout_of
fill_command = record { sized = λ w. refl; some_byte = omega arith }

pub eop_command : Command (EOP ∷ [])
unfolding command_size parameters size_of layout_of first_layouts
eop_command = record { sized = λ w. refl; some_byte = omega arith }

pub put_command : (c : ℕ) → Command (PUT1 ∷ c ∷ [])
unfolding command_size parameters size_of layout_of first_layouts
put_command c = record { sized = λ w. refl; some_byte = omega arith }

pub definition_command : (f : ℕ) → Command (definition f)
unfolding command_size parameters size_of layout_of last_layouts definition bytes number_from name_of
definition_command f = record { sized = λ w. refl; some_byte = omega arith }

pub selects_command : (f : ℕ) → Command (selects f)
unfolding selects command_size parameters layout_of size_of last_layouts
selects_command f =
    by_cond Command (ltb f 64) _ _
    (λ e. record { sized = λ w. one w (ltb-true f 64 e); some_byte = omega arith })
    (λ _. record { sized = λ w. two w; some_byte = omega arith })
  where
    one : (w : List ℕ) → f < 64 → command_size ((FNTNUM0 + f) ∷ w) ≡ 1
    one w l =
        let b : eqb (FNTNUM0 + f) BOP ≡ false = ne_eqb (FNTNUM0 + f) BOP (λ (e : FNTNUM0 + f ≡ BOP). omega arith) in
        let p : eqb (FNTNUM0 + f) PRE ≡ false = ne_eqb (FNTNUM0 + f) PRE (λ (e : FNTNUM0 + f ≡ PRE). omega arith) in
        let s : eqb (FNTNUM0 + f) POST ≡ false = ne_eqb (FNTNUM0 + f) POST (λ (e : FNTNUM0 + f ≡ POST). omega arith) in
        let t : eqb (FNTNUM0 + f) POSTPOST ≡ false = ne_eqb (FNTNUM0 + f) POSTPOST (λ (e : FNTNUM0 + f ≡ POSTPOST). omega arith) in
        let u : ltb (FNTNUM0 + f) 128 ≡ false = le-ltb (FNTNUM0 + f) 128 (omega arith) in
        let v : ltb (FNTNUM0 + f) FNTNUM0 ≡ false = le-ltb (FNTNUM0 + f) FNTNUM0 (omega arith) in
        let x : ltb (FNTNUM0 + f) FNT1 ≡ true = lt-ltb (FNTNUM0 + f) FNT1 (omega arith) in
        rw (b, p, s, t, u, v, x)

    two : (w : List ℕ) → command_size (FNT1 ∷ f ∷ w) ≡ 2
    two w = refl

-- one of the four commands of a move
of_width : (op k : ℕ) (bs : List ℕ) → command_size ((op + 0) ∷ bs) ≡ 2 → command_size ((op + 1) ∷ bs) ≡ 3 → command_size ((op + 2) ∷ bs) ≡ 4
    → command_size ((op + 3) ∷ bs) ≡ 5 → 1 ≤ k → k ≤ 4 → command_size ((op + (k - 1)) ∷ bs) ≡ suc k
of_width op zero bs a b c d l h = absurd (omega arith)
of_width op (suc zero) bs a b c d l h = a
of_width op (suc (suc zero)) bs a b c d l h = b
of_width op (suc (suc (suc zero))) bs a b c d l h = c
of_width op (suc (suc (suc (suc zero)))) bs a b c d l h = d
of_width op (suc (suc (suc (suc (suc k))))) bs a b c d l h = absurd (omega arith)

pub right_command : (m : ℤ) → Command (shortest RIGHT1 m)
unfolding shortest command_size parameters size_of layout_of first_layouts
right_command m =
    let r = parameter_width_range m in
    let l = length_signed_bytes (parameter_width m) m in
    record {
      sized = λ w. of_width RIGHT1 (parameter_width m) (signed_bytes (parameter_width m) m ++ w) refl refl refl refl r.0 r.1 ∙ ap suc (sym l);
      some_byte = omega arith;
    }

pub down_command : (m : ℤ) → Command (shortest DOWN1 m)
unfolding shortest command_size parameters size_of layout_of first_layouts
down_command m =
    let r = parameter_width_range m in
    let l = length_signed_bytes (parameter_width m) m in
    record {
      sized = λ w. of_width DOWN1 (parameter_width m) (signed_bytes (parameter_width m) m ++ w) refl refl refl refl r.0 r.1 ∙ ap suc (sym l);
      some_byte = omega arith;
    }
