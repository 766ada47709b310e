-- Steps between pages, by the outcomes of the code's tests.
-- Assumes nothing.
use mathlib.Core.Path.{◌≡◌, refl}
use mathlib.Core.Bool.{true, false, true≢false}
use mathlib.Core.List.{List, [], ◌∷◌}
use Prim.Native.Nat.{ℕ, ◌≤◌, ◌<◌}
use native.Mathlib.Omega.{arith}
use borrow.Author.Tests.{ne_eqb, le-leb, lt-leb, ltb-true}
use lib.IntN.{ℤ, pos, negsuc}
use lib.ListN.{length, take}
use lib.Signed.{lt_z, non_neg}
use Rattle.integers.specs.Equality.{true_eq_z, false_eq_z}
use Rattle.octets.specs.Octets.{signed, signed_at}
use Rattle.octets.specs.Answer.{bad_command, dvi_ends_early, wrong_offset, bad_postamble}
use Rattle.dvi.specs.Command.{BOP, PST}
use Rattle.sheet.specs.Sheet.{page_mark}
use Rattle.dvi.specs.Page.{new_page}
use Rattle.dvi.specs.Postamble.{postamble}
use Rattle.std.specs.Prelude.{Ok, Err}
use Rattle.dvi.specs.Command.{Decoded, no_command, cut_short, command}
use Rattle.dvi.specs.Page.{Page, effect}
use Rattle.dvi_command.specs.Command.{Read, read_of}
use Rattle.dvi.specs.File.{Step, in_page, after_effect, between, inside, refuse, go_on, finish, begin_page, end_file, step}

module _ (last : ℤ) (at : ℕ) (ps : List ℕ) where
  pub begin_short : length ps < 8 → refuse dvi_ends_early ≡ begin_page last at ps
  unfolding begin_page
  begin_short h = rw (lt-leb 8 (length ps) h)

  pub begin_off : 8 ≤ length ps → (signed_at 4 4 ps ≡ last → ⊥) → refuse wrong_offset ≡ begin_page last at ps
  unfolding begin_page
  begin_off h e = rw (le-leb 8 (length ps) h, false_eq_z (signed_at 4 4 ps) last e)

  pub begin_on : 8 ≤ length ps → signed_at 4 4 ps ≡ last → go_on (inside (pos at) new_page) (page_mark (signed (take 4 ps)) ∷ []) 8 ≡ begin_page last at ps
  unfolding begin_page
  begin_on h e = rw (le-leb 8 (length ps) h, true_eq_z (signed_at 4 4 ps) last e)

pub non_neg_no : (z : ℤ) → lt_z z (pos 0) ≡ true → non_neg z ≡ false
non_neg_no (pos n) h = absurd (omega (arith, ltb-true n 0 h))
non_neg_no (negsuc n) h = refl

pub non_neg_yes : (z : ℤ) → lt_z z (pos 0) ≡ false → non_neg z ≡ true
non_neg_yes (pos n) h = refl
non_neg_yes (negsuc n) h = absurd (true≢false h)

module _ (ws : List ℤ) (last : ℤ) (at : ℕ) (ps : List ℕ) where
  pub end_first : non_neg last ≡ false → refuse bad_command ≡ step ws at (between last) PST ps
  unfolding step
  end_first h = rw h

  pub end_good : non_neg last ≡ true → postamble last at ps ≡ true → finish ≡ step ws at (between last) PST ps
  unfolding step end_file
  end_good h e = rw (h, e)

  pub end_bad : non_neg last ≡ true → postamble last at ps ≡ false → refuse bad_postamble ≡ step ws at (between last) PST ps
  unfolding step end_file
  end_bad h e = rw (h, e)

  pub neither : (op : ℕ) → (op ≡ BOP → ⊥) → (op ≡ PST → ⊥) → refuse bad_command ≡ step ws at (between last) op ps
  unfolding step
  neither op h g = rw (ne_eqb op BOP h, ne_eqb op PST g)

-- a command inside a page, by what is decoded
abbrev pub read_page : List ℤ → ℤ → Page → Read → Step
read_page ws last p (Ok d) = after_effect last d.1 (effect ws p d.0)
read_page ws last p (Err k) = refuse k

pub page_read : (ws : List ℤ) (last : ℤ) (p : Page) (x : Decoded) → read_page ws last p (read_of x) ≡ in_page ws last p x
unfolding in_page
page_read ws last p no_command = refl
page_read ws last p cut_short = refl
page_read ws last p (command c n) = refl
