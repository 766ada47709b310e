-- What a run of bytes shows and where it leads: runs follow one another, and each command is one step of `run`.
-- Assumes nothing.
use mathlib.Core.Path.{◌≡◌, refl, sym, ap, ◌∙◌}
use mathlib.Core.List.{List, [], ◌∷◌, ◌++◌, append_assoc}
use mathlib.Core.Option.{Option, none, some}
use Prim.Native.Nat.{ℕ, zero, suc, ◌+◌, ◌≤◌}
use native.Mathlib.Omega.{arith}
use borrow.Author.Tests.{le-leb}
use lib.IntN.{ℤ}
use lib.ListN.{length, drop, length-append}
use lib.Seq.{drop-append_seam}
use Rattle.octets.specs.Octets.{signed, signed_bytes, Holds}
use Rattle.octets.specs.OctetsLaws.{length_signed_bytes, signed_first}
use Rattle.sheet.specs.Sheet.{Mark}
use Rattle.dvi.specs.Page.{Page}
use Rattle.dvi2.specs.Command.{Command, bare, takes, layout_of, command, in_file, with_parameters, decode}
use Rattle.dvi2.specs.Page.{State, inside, leads, effect}
use Rattle.dvi2.specs.File.{go_on, after_effect, in_page, step, shows_first, follow, run}

shows_first_nil : (r : Option (List Mark)) → shows_first [] r ≡ r
unfolding shows_first
shows_first_nil none = refl
shows_first_nil (some ms) = refl

shows_first_append : (ms ns : List Mark) (r : Option (List Mark)) → shows_first ms (shows_first ns r) ≡ shows_first (ms ++ ns) r
unfolding shows_first
shows_first_append ms ns none = refl
shows_first_append ms ns (some ks) = ap some (sym (append_assoc ms ns ks))

-- bytes that are passed over
pub run_pass : (n : ℕ) (q : State) (bs : List ℕ) → n ≤ length bs → run q n bs ≡ run q 0 (drop n bs)
unfolding run
run_pass zero q bs h = refl
run_pass (suc n) q [] h = absurd (omega arith)
run_pass (suc n) q (b ∷ bs) h = run_pass n q bs (omega arith)

-- from state q the bytes bs show ms and lead to state r
pub record Goes (q : State) (bs : List ℕ) (ms : List Mark) (r : State) : Type 0 where
  pub goes : (rest : List ℕ) → run q 0 (bs ++ rest) ≡ shows_first ms (run r 0 rest)

pub goes_nil : (q : State) → Goes q [] [] q
goes_nil q = record { goes = λ rest. rw shows_first_nil }

pub goes_append : {q r s : State} {bs cs : List ℕ} {ms ns : List Mark} → Goes q bs ms r → Goes r cs ns s → Goes q (bs ++ cs) (ms ++ ns) s
goes_append {bs} {cs} g h = record { goes = λ rest. rw (append_assoc, g.goes (cs ++ rest), h.goes rest, shows_first_append) }

pub goes_step : (q r : State) (op : ℕ) (ps : List ℕ) (ms : List Mark) → ((rest : List ℕ) → step q op (ps ++ rest) ≡ go_on r ms (length ps)) → Goes q (op ∷ ps) ms r
unfolding run follow
goes_step q r op ps ms e = record { goes = λ rest. rw (e rest) (ap (shows_first ms) (over rest)) }
  where
    -- the parameters are passed over
    over : (rest : List ℕ) → run r (length ps) (ps ++ rest) ≡ run r 0 rest
    over rest = run_pass (length ps) r (ps ++ rest) (omega (arith, length-append ps rest)) ∙ ap (run r 0) (drop-append_seam ps rest)

-- a command inside a page
pub goes_command : (fs : List ℤ) (p : Page) (r : State) (c : Command) (ms : List Mark) (op : ℕ) (ps : List ℕ) → ((rest : List ℕ) → decode op (ps ++ rest) ≡ command c (length ps))
    → effect fs p c ≡ leads r ms → Goes (inside fs p) (op ∷ ps) ms r
unfolding step in_page after_effect
goes_command fs p r c ms op ps d e = goes_step (inside fs p) r op ps ms (λ rest. rw (d rest, e))

-- a command with one number in two's complement, and with none
pub decode_signed : (op n : ℕ) (make : ℤ → Command) (z : ℤ) → layout_of op ≡ takes n signed make → Holds n z → (rest : List ℕ)
    → decode op (signed_bytes n z ++ rest) ≡ command (make z) (length (signed_bytes n z))
unfolding decode with_parameters in_file
decode_signed op n make z e h rest =
    rw (e, length-append, length_signed_bytes n z, le-leb n (n + length rest) (omega arith), signed_first n z rest h)

pub decode_bare : (op : ℕ) (c : Command) → layout_of op ≡ bare c → (rest : List ℕ) → decode op rest ≡ command c 0
unfolding decode with_parameters
decode_bare op c e rest = rw e
