-- One page of the plain reader, from its BOP; nothing here is part of what a call promises.
--     bop_bytes     the bytes of BOP
--     page_run      the run of the page whose BOP stands at a place
--     PageRead     a page is read up to its EOP, and its marks are in the sheet, if writing
--     PageDone     how the code's page ends: a refusal, or such a page
use Rattle.std.specs.Prelude.{◌≡◌, Bool, false, List, ◌∷◌, ℕ, ◌+◌, ℤ, length, drop, Ok, Err, Result as ResultOf}
use Rattle.octets.specs.Answer.{number_in}
use Rattle.octets.specs.Write.{Put}
use Rattle.octets.specs.declared.refusal.Refusal.{Refusal}
use Rattle.sheet.specs.Sheet.{Mark, mark_fields}
use Rattle.sheet.specs.Shown.{Shown, refused_at}
use Rattle.dvi.specs.Page.{max_stack, new_page}
use Rattle.dvi_brackets.specs.Brackets.{Run, to_eop, run, page_then}
use Rattle.dvi_brackets.specs.Reading.{run_marks}
use Rattle.dvi_plain.specs.declared.PageEnd.{PageEnd}

abbrev pub bop_bytes : ℕ
bop_bytes = 9

abbrev pub page_run : List ℤ → List ℕ → ℕ → Run
page_run ws s at = run ws max_stack (at + bop_bytes) new_page 0 (drop (at + bop_bytes) s)

-- x is the run of the page whose BOP stands at `at` and shows m; next, to and total are the places and the count after its EOP
pub record PageRead (at : ℕ) (x : Run) (m : Mark) (w : Bool) (before : List ℕ) (from count next to total : ℕ) (later : List ℕ) : Type 0 where
  pub bytes : ℕ
  pub run_is : x ≡ to_eop (run_marks x) bytes
  pub next_is : next ≡ at + bop_bytes + bytes + 1
  pub put : Put w before from (mark_fields (m ∷ run_marks x)) later to
  pub counted : total ≡ count + length (m ∷ run_marks x)

abbrev pub PageDone : ℕ → Run → Mark → Bool → List ℕ → ℕ → ℕ → ResultOf PageEnd Refusal → List ℕ → Type 0
PageDone at x m w before from count (Err r) later =
    ((rest : ℕ → Shown) → page_then (at + bop_bytes) x rest ≡ refused_at (number_in r.reason) r.place) × (w ≡ false → later ≡ before)
PageDone at x m w before from count (Ok e) later = PageRead at x m w before from count e.at e.to e.count later
