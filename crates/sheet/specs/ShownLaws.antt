-- What is shown first, and the room that it takes.
-- Assumes nothing.
use Rattle.std.specs.Prelude.{◌≡◌, List, [], ◌++◌, ℕ, ◌+◌, ◌≤◌, length}
use Rattle.std.proofs.Math.Path.{refl, ap}
use Rattle.std.proofs.Common.{sym, append_assoc, arith, length-append}
use Rattle.octets.specs.Pass.{bytes_of, Roomy}
use Rattle.octets.specs.PassLaws.{refused_roomy}
use Rattle.sheet.specs.Sheet.{Mark, mark_fields}
use Rattle.sheet.specs.SheetLaws.{mark_fields_append, length_sheet}
use Rattle.sheet.specs.Shown.{ShownAs, Shown, refused_at, shows, shows_first, shown_result}

module _ {A : Type 0} where
  pub shows_first_nil : (r : ShownAs A) → shows_first [] r ≡ r
  unfolding shows_first
  shows_first_nil (refused_at n at) = refl
  shows_first_nil (shows ms) = refl

  pub shows_first_append : (ms ns : List A) (r : ShownAs A) → shows_first ms (shows_first ns r) ≡ shows_first (ms ++ ns) r
  unfolding shows_first
  shows_first_append ms ns (refused_at n at) = refl
  shows_first_append ms ns (shows ks) = ap shows (sym (append_assoc ms ns ks))

-- a file whose sheet has room has room for the marks that it shows first, and End
pub shown_room : (ms : List Mark) (r : Shown) {x : Shown} {room : ℕ} → x ≡ shows_first ms r → Roomy (shown_result x) room → length (mark_fields ms) + 7 ≤ room
unfolding shows_first shown_result
shown_room ms (refused_at k i) e h = absurd (refused_roomy (ap shown_result e) h)
shown_room ms (shows ns) e h =
    omega (
      arith,
      h.enough,
      ap (λ (x : Shown). length (bytes_of (shown_result x))) e,
      length_sheet (ms ++ ns),
      ap length (mark_fields_append ms ns),
      length-append (mark_fields ms) (mark_fields ns),
    )
