-- What a file shows, or why it is refused and where.
--     ShownAs        what is told of each mark that a file shows, or the file's refusal
--     Shown          the marks themselves
--     shows_first     marks before those of the rest
--     shown_result    the sheet of what is shown, or the refusal
use Rattle.std.specs.Prelude.{ℕ, List, ◌++◌}
use Rattle.octets.specs.Answer.{Result, refusal, written}
use Rattle.sheet.specs.Sheet.{Mark, sheet}

pub data ShownAs (A : Type 0) : Type 0 where
  -- the number and the place
  refused_at : ℕ → ℕ → ShownAs A
  -- an A for each page, character and rule, in file order
  shows : List A → ShownAs A

abbrev pub Shown : Type 0
Shown = ShownAs Mark

unfoldable pub shows_first : {A : Type 0} → List A → ShownAs A → ShownAs A
shows_first ms (refused_at r at) = refused_at r at
shows_first ms (shows ns) = shows (ms ++ ns)

unfoldable pub shown_result : Shown → Result
shown_result (refused_at number place) = refusal number place
shown_result (shows ms) = written (sheet ms)
