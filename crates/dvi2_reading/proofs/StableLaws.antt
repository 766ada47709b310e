-- A command's length hangs on no byte after it.
-- Assumes nothing.
use Rattle.std.specs.Prelude.{◌≡◌, Bool, ℕ, ◌+◌, ◌≤◌, ◌<◌, eqb, length, take, drop}
use Rattle.std.proofs.Common.{sym, ◌∙◌, arith, take-append-drop, length-drop, length-take-le, get_or-take}
use Rattle.std.proofs.Math.Path.{ap}
use Rattle.std.proofs.Math.Bool.{true, false, cond}
use mathlib.Core.List.{List, ◌++◌}
use Rattle.std.proofs.Math.ListN.{get_or, get_or-append}
use Rattle.std.proofs.lemmas.List.{take-append-le, drop-append-le}
use Rattle.octets.specs.Octets.{number}
use Rattle.dvi2.specs.Command.{BOP, PRE, POST, POSTPOST, Layout, barred, bare, passes, takes, passes_text, defines, layout_of}
use Rattle.dvi2_reading.specs.Beginning.{size_of, parameters}

module _ (ps rest : List ℕ) (N : ℕ) (h : N ≤ length ps) where
  -- k bytes from i on, all among the first N
  part : (k i : ℕ) → i + k ≤ N → take k (drop i (take N ps ++ rest)) ≡ take k (drop i ps)
  part k i l = first (take N ps) rest ∙ sym (first (take N ps) (drop N ps)) ∙ ap (λ (s : List ℕ). take k (drop i s)) (take-append-drop N ps)
    where
      first : (a w : List ℕ) → take k (drop i (take N ps ++ w)) ≡ take k (drop i (take N ps))
      first a w =
          let n = length-take-le N ps h in
          let m = length-drop i (take N ps) in
          ap (take k) (drop-append-le i (take N ps) w (omega arith)) ∙ take-append-le k (drop i (take N ps)) w (omega arith)

  size_kept : (f : Layout) → size_of f ps ≡ N → size_of f (take N ps ++ rest) ≡ N
  unfolding size_of
  size_kept barred e = e
  size_kept (bare c) e = e
  size_kept (passes n c) e = e
  size_kept (takes n read c) e = e
  size_kept (passes_text n) e = ap (λ (b : List ℕ). n + number b) (part n 0 (omega arith)) ∙ e
  size_kept (defines n read) e =
      (λ i. n + 14 + number (part 1 (n + 12) (omega arith) i) + number (part 1 (n + 13) (omega arith) i)) ∙ e

  byte_kept : (i : ℕ) → i < N → get_or (take N ps ++ rest) i 0 ≡ get_or ps i 0
  byte_kept i l = let n = length-take-le N ps h in get_or-append (take N ps) rest 0 i (omega arith) ∙ get_or-take N ps i 0 l

  pub parameters_kept : (op : ℕ) → parameters op ps ≡ N → parameters op (take N ps ++ rest) ≡ N
  unfolding parameters
  parameters_kept op = go (eqb op BOP) (eqb op PRE) (eqb op POST) (eqb op POSTPOST)
    where
      go : (a b c d : Bool) → cond a 44 (cond b (14 + get_or ps 13 0) (cond c 28 (cond d 5 (size_of (layout_of op) ps)))) ≡ N
          → cond a 44 (cond b (14 + get_or (take N ps ++ rest) 13 0) (cond c 28 (cond d 5 (size_of (layout_of op) (take N ps ++ rest))))) ≡ N
      go true b c d e = e
      go false true c d e = ap (λ (n : ℕ). 14 + n) (byte_kept 13 (omega arith)) ∙ e
      go false false true d e = e
      go false false false true e = e
      go false false false false e = size_kept (layout_of op) e
