-- What a run of bytes shows and where it leads: runs follow one another, and each command is one step of `run`.
-- Assumes nothing.
use mathlib.Core.Path.{◌≡◌, ap, ◌∙◌}
use mathlib.Core.List.{List, [], ◌∷◌, ◌++◌, append_assoc}
use Prim.Native.Nat.{ℕ, suc, ◌+◌}
use native.Mathlib.Nat.{add-zero, add_assoc}
use native.Mathlib.Omega.{arith}
use borrow.Author.Tests.{le-leb}
use lib.IntN.{ℤ}
use lib.ListN.{length, length-append}
use lib.Seq.{drop-append_seam}
use Rattle.octets.specs.Octets.{signed_bytes, Holds}
use Rattle.octets.specs.OctetsLaws.{length_signed_bytes, signed_first}
use Rattle.dvi.specs.Command.{Command, bare, takes, layout_of, command, with_parameters, decode}
use Rattle.sheet.specs.Sheet.{Mark}
use Rattle.dvi.specs.Page.{Page, moved, marked, effect}
use Rattle.sheet.specs.Shown.{shows_first}
use Rattle.dvi.specs.File.{State, inside, go_on, after_effect, in_page, step, follow, run_as, marks_alone, run}
use Rattle.sheet.specs.ShownLaws.{shows_first_nil, shows_first_append}
use Rattle.dvi.proofs.FileLaws.{run_pass}

-- from state q at offset `at` the bytes bs show ms and lead to state r
pub record Goes (ws : List ℤ) (at : ℕ) (q : State) (bs : List ℕ) (ms : List Mark) (r : State) : Type 0 where
  pub goes : (rest : List ℕ) → run ws at q 0 (bs ++ rest) ≡ shows_first ms (run ws (at + length bs) r 0 rest)

module _ (ws : List ℤ) (at : ℕ) where
  pub goes_nil : (q : State) → Goes ws at q [] [] q
  goes_nil q = record { goes = λ rest. rw (add-zero, shows_first_nil) }

  pub goes_append : {q r s : State} {bs cs : List ℕ} {ms ns : List Mark} → Goes ws at q bs ms r → Goes ws (at + length bs) r cs ns s
      → Goes ws at q (bs ++ cs) (ms ++ ns) s
  goes_append {bs} {cs} g h =
      record { goes = λ rest. rw (append_assoc, g.goes (cs ++ rest), h.goes rest, shows_first_append, length-append, add_assoc) }

  pub goes_step : (q r : State) (op : ℕ) (ps : List ℕ) (ms : List Mark) → ((rest : List ℕ) → step ws at q op (ps ++ rest) ≡ go_on r ms (length ps))
      → Goes ws at q (op ∷ ps) ms r
  unfolding run_as follow
  goes_step q r op ps ms e = record { goes = λ rest. rw (e rest) (ap (shows_first ms) (over rest)) }
    where
      -- the parameters are passed over
      over : (rest : List ℕ) → run ws (suc at) r (length ps) (ps ++ rest) ≡ run ws (at + suc (length ps)) r 0 rest
      over rest =
          run_pass marks_alone ws (suc at) (length ps) r (ps ++ rest) (omega (arith, length-append ps rest))
          ∙ ap (run ws (suc at + length ps) r 0) (drop-append_seam ps rest)
          ∙ ap (λ (n : ℕ). run ws n r 0 rest) (omega arith)

  -- a command inside a page that shows nothing, and one that shows m
  pub goes_moved : (last : ℤ) (p r : Page) (c : Command) (op : ℕ) (ps : List ℕ) → ((rest : List ℕ) → decode op (ps ++ rest) ≡ command c (length ps))
      → effect ws p c ≡ moved r → Goes ws at (inside last p) (op ∷ ps) [] (inside last r)
  unfolding step in_page after_effect
  goes_moved last p r c op ps d e = goes_step (inside last p) (inside last r) op ps [] (λ rest. rw (d rest, e))

  pub goes_marked : (last : ℤ) (p r : Page) (c : Command) (m : Mark) (op : ℕ) (ps : List ℕ) → ((rest : List ℕ) → decode op (ps ++ rest) ≡ command c (length ps))
      → effect ws p c ≡ marked r m → Goes ws at (inside last p) (op ∷ ps) (m ∷ []) (inside last r)
  unfolding step in_page after_effect
  goes_marked last p r c m op ps d e = goes_step (inside last p) (inside last r) op ps (m ∷ []) (λ rest. rw (d rest, e))

-- a command with one parameter, and with none
pub decode_takes : (op n : ℕ) (make : ℤ → Command) (z : ℤ) → layout_of op ≡ takes n make → Holds n z → (rest : List ℕ)
    → decode op (signed_bytes n z ++ rest) ≡ command (make z) (length (signed_bytes n z))
unfolding decode with_parameters
decode_takes op n make z e h rest =
    rw (e, length-append, length_signed_bytes n z, le-leb n (n + length rest) (omega arith), signed_first n z rest h)

pub decode_bare : (op : ℕ) (c : Command) → layout_of op ≡ bare c → (rest : List ℕ) → decode op rest ≡ command c 0
unfolding decode with_parameters
decode_bare op c e rest = rw e
