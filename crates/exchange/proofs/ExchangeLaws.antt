-- Exchanging neighbouring codes keeps a tape accepted or not, and its galley.
--     exchange_accepted       two neighbours
--     reordered_accepted      any number of exchanges
--     escape_lead_exchanged   every escape, 80 to FE, with every lead, 60 to 7F, on either machine
--     switches_exchanged      the codes of two different switches of a machine
-- All come from one law of runs, `reordered_alike`: the two runs are the same, or both are refused.
-- Assumes nothing.
use Rattle.std.specs.Prelude.{◌≡◌, refl, Bool, true, false, cond, List, [], ◌∷◌, ◌++◌, ◌↔◌, ℕ, ◌+◌, ◌≤◌, ◌<◌, ltb, length, Ok}
use Rattle.std.proofs.Common.{sym, ap, subst, ◌∙◌, suc-ne-zero, arith, length-append}
use Rattle.octets.specs.Answer.{refusal, written, if_room, tape_too_long, no_galley_room}
use Rattle.typesetter.specs.declared.code.Machine.{Machine}
use Rattle.typesetter.specs.declared.code.Code.TheVariants.{Instructs}
use Rattle.typesetter.specs.declared.machine.State.{State}
use Rattle.typesetter.specs.Code.{machine_of, code_of}
use Rattle.typesetter.specs.Machine.{start}
use Rattle.tape.specs.Tape.{Ending, max_tape, Run, run, closing, read_result, on_machine, tape_result}
use Rattle.tape.specs.RunLaws.{go_on, run_append, run_machine}
use Rattle.exchange.specs.Exchange.{Mode, turn, Switch, rail_switch, mag_switch, tilt_switch, half_switch, switch_code, moded, settings, either, Exchangeable, instructions, ignored_first, ignored_second, Reordered, unchanged, exchanged, further, Accepted}
use Rattle.exchange.proofs.AlikeLaws.{Alike, same, refused, alike_then, alike_after, alike_before}
use Rattle.exchange.proofs.EscapeLaws.{escape_and_lead}
use Rattle.exchange.proofs.SwapLaws.{swap}

-- ---- whole tapes

-- two codes and what follows
swap_before : (s : State) (at a b : ℕ) (ys : List ℕ) → Exchangeable s.machine a b → Alike (run s at (a ∷ b ∷ ys)) (run s at (b ∷ a ∷ ys))
swap_before s at a b ys x =
    subst (λ (r : Run). Alike r (run s at (b ∷ a ∷ ys))) (sym (run_append s at (a ∷ b ∷ []) ys))
    (subst (Alike (go_on (run s at (a ∷ b ∷ [])).items (run s at (a ∷ b ∷ [])).ending (λ t. run t (at + 2) ys))) (sym (run_append s at (b ∷ a ∷ []) ys))
    (alike_before (λ t. run t (at + 2) ys) (swap s at a b x)))

-- and what stands before them
swap_alike : (s : State) (at : ℕ) (xs : List ℕ) (a b : ℕ) (ys : List ℕ) → Exchangeable s.machine a b
    → Alike (run s at (xs ++ (a ∷ (b ∷ ys)))) (run s at (xs ++ (b ∷ (a ∷ ys))))
swap_alike s at xs a b ys x =
    let is = (run s at xs).items in
    let e = (run s at xs).ending in
    let f : State → Run = λ t. run t (at + length xs) (a ∷ b ∷ ys) in
    let g : State → Run = λ t. run t (at + length xs) (b ∷ a ∷ ys) in
    subst (λ (r : Run). Alike r (run s at (xs ++ (b ∷ (a ∷ ys))))) (sym (run_append s at xs (a ∷ b ∷ ys)))
    (subst (Alike (go_on is e f)) (sym (run_append s at xs (b ∷ a ∷ ys)))
    (alike_after is e f g (λ t r. swap_before t (at + length xs) a b ys (subst (λ (m : Machine). Exchangeable m a b) (sym (run_machine s at xs r)) x))))

pub reordered_alike : (s : State) (at : ℕ) {xs ys : List ℕ} → Reordered s.machine xs ys → Alike (run s at xs) (run s at ys)
reordered_alike s at unchanged = same refl
reordered_alike s at (exchanged {a} {b} xs ys x) = swap_alike s at xs a b ys x
reordered_alike s at (further r q) = alike_then (reordered_alike s at r) (reordered_alike s at q)

pub reordered_length : {machine : Machine} {xs ys : List ℕ} → Reordered machine xs ys → length xs ≡ length ys
reordered_length unchanged = refl
reordered_length (exchanged {a} {b} xs ys x) = omega (arith, length-append xs (a ∷ b ∷ ys), length-append xs (b ∷ a ∷ ys))
reordered_length (further r q) = reordered_length r ∙ reordered_length q

exchangeable_back : {machine : Machine} {a b : ℕ} → Exchangeable machine a b → Exchangeable machine b a
exchangeable_back (instructions ea eb m) = instructions eb ea (either m)
exchangeable_back (ignored_first e) = ignored_second e
exchangeable_back (ignored_second e) = ignored_first e

pub reordered_back : {machine : Machine} {xs ys : List ℕ} → Reordered machine xs ys → Reordered machine ys xs
reordered_back unchanged = unchanged
reordered_back (exchanged xs ys x) = exchanged xs ys (exchangeable_back x)
reordered_back (further r q) = further (reordered_back q) (reordered_back r)

never : {n p : ℕ} {bs : List ℕ} {X : Type 0} → refusal n p ≡ written bs → X
never e = absurd (suc-ne-zero 0 cc)

-- a run that is refused writes no galley, and the same run the same
read_alike : (s : State) (xs ys : List ℕ) (room : ℕ) (g : List ℕ) → length xs ≡ length ys → Alike (run s 0 xs) (run s 0 ys)
    → read_result s xs room ≡ written g → read_result s ys room ≡ written g
unfolding read_result if_room
read_alike s xs ys room g l (same e) w = sym (λ i. if_room no_galley_room room (closing (l i) (e i).items (e i).ending)) ∙ w
read_alike s xs ys room g l (refused e f) w = never (sym (ap (λ (x : Ending). if_room no_galley_room room (closing (length xs) (run s 0 xs).items x)) e) ∙ w)

-- one way; the other is the same
accepted_onward : (kind : Machine) (machine : ℕ) → machine_of machine ≡ Ok kind → {xs ys : List ℕ} → Reordered kind xs ys → (room : ℕ) (g : List ℕ)
    → Accepted xs machine room g → Accepted ys machine room g
unfolding tape_result
accepted_onward kind machine named {xs} {ys} r room g w = go (ltb max_tape (length xs)) refl w
  where
    l : length xs ≡ length ys
    l = reordered_length r

    go : (t : Bool) → ltb max_tape (length xs) ≡ t → cond t (refusal tape_too_long 0) (on_machine xs room (machine_of machine)) ≡ written g
        → Accepted ys machine room g
    go true t e = never e
    go false t e =
        ap (λ (u : Bool). cond u (refusal tape_too_long 0) (on_machine ys room (machine_of machine))) (sym (ap (ltb max_tape) l) ∙ t)
        ∙ ap (on_machine ys room) named
        ∙ read_alike (start kind) xs ys room g l (reordered_alike (start kind) 0 r) (sym (ap (on_machine xs room) named) ∙ e)

-- any number of exchanges: the tape is accepted exactly when it was before, with the same galley
pub reordered_accepted : (kind : Machine) (machine : ℕ) → machine_of machine ≡ Ok kind → {xs ys : List ℕ} → Reordered kind xs ys
    → (room : ℕ) (g : List ℕ) → Accepted xs machine room g ↔ Accepted ys machine room g
reordered_accepted kind machine named r room g = (accepted_onward kind machine named r room g, accepted_onward kind machine named (reordered_back r) room g)

-- "exchange two neighbouring codes, and the tape is accepted exactly when it was before, with the same galley"
pub exchange_accepted : (kind : Machine) (machine : ℕ) → machine_of machine ≡ Ok kind → (xs : List ℕ) (a b : ℕ) (ys : List ℕ) → Exchangeable kind a b
    → (room : ℕ) (g : List ℕ) → Accepted (xs ++ (a ∷ (b ∷ ys))) machine room g ↔ Accepted (xs ++ (b ∷ (a ∷ ys))) machine room g
exchange_accepted kind machine named xs a b ys x = reordered_accepted kind machine named (exchanged xs ys x)

-- ---- the codes that the request names

switch_code_lem : (machine : Machine) {m : Mode} (p : Switch machine m) (u : Bool) → code_of machine (switch_code p u) ≡ Instructs (turn m u)
unfolding code_of
switch_code_lem machine rail_switch false = refl
switch_code_lem machine rail_switch true = refl
switch_code_lem machine mag_switch false = refl
switch_code_lem machine mag_switch true = refl
switch_code_lem machine half_switch false = refl
switch_code_lem machine half_switch true = refl
switch_code_lem machine tilt_switch false = refl
switch_code_lem machine tilt_switch true = refl

pub two_switches : (machine : Machine) {m n : Mode} (p : Switch machine m) (q : Switch machine n) (u v : Bool) → (m ≡ n → ⊥)
    → Exchangeable machine (switch_code p u) (switch_code q v)
two_switches machine {m} {n} p q u v d = instructions (switch_code_lem machine p u) (switch_code_lem machine q v) (settings (moded m u) (moded n v) d)

-- "exchange two neighbouring codes, one an escape and one a lead", on either machine; the other order is the same law read backward
pub escape_lead_exchanged : (kind : Machine) (machine : ℕ) → machine_of machine ≡ Ok kind → (xs : List ℕ) (a b : ℕ) (ys : List ℕ) → 0x80 ≤ a
    → a < 0xFF → 0x60 ≤ b → b < 0x80
    → (room : ℕ) (g : List ℕ) → Accepted (xs ++ (a ∷ (b ∷ ys))) machine room g ↔ Accepted (xs ++ (b ∷ (a ∷ ys))) machine room g
escape_lead_exchanged kind machine named xs a b ys la ha lb hb = exchange_accepted kind machine named xs a b ys (escape_and_lead kind a b la ha lb hb)

-- "neighbouring codes of two different switches among rail, mag, tilt and half, on the 8-font machine", and on the other, which has no tilt
pub switches_exchanged : (kind : Machine) (machine : ℕ) → machine_of machine ≡ Ok kind
    → (xs : List ℕ) {m n : Mode} (p : Switch kind m) (q : Switch kind n) (u v : Bool) (ys : List ℕ) → (m ≡ n → ⊥)
    → (room : ℕ) (g : List ℕ) → Accepted (xs ++ (switch_code p u ∷ (switch_code q v ∷ ys))) machine room g ↔ Accepted (xs ++ (switch_code q v ∷ (switch_code p u ∷ ys))) machine room g
switches_exchanged kind machine named xs p q u v ys d = exchange_accepted kind machine named xs (switch_code p u) (switch_code q v) ys (two_switches kind p q u v d)
