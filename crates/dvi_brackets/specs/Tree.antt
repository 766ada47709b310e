-- A well-bracketed run as a tree (document 02, "A plain reader to check the quick one"): a run is made of items, and an item is a command or a group.
--     Items, Piece             a run, and an item
--     items_bytes, piece_bytes   their bytes
--     Stands                   a command stands in its bytes, whatever follows
--     Formed, FormedPiece      every command stands in its bytes, and groups stand in one another to a depth
--     Read                     what a run or an item leads to
--     read_items, read_piece     the reading: on leaving a group the six numbers are what they were on entering
use Rattle.std.specs.Prelude.{ℕ, zero, suc, ◌≡◌, List, [], ◌∷◌, ◌++◌, ℤ, length}
use Rattle.dvi.specs.Command.{PUSH, POP, Command, command, decode}
use Rattle.sheet.specs.Sheet.{Mark}
use Rattle.dvi.specs.Page.{Page, Effect, fault, moved, marked, ended, with_numbers, effect}

mutual
  pub data Items : Type 0 where
    none : Items
    also : Piece → Items → Items

  pub data Piece : Type 0 where
    -- a command, its first byte and its parameters' bytes
    single : Command → ℕ → List ℕ → Piece
    -- PUSH, a run, POP
    bracketed : Items → Piece

unfoldable mutual
  pub items_bytes : Items → List ℕ
  items_bytes none = []
  items_bytes (also x xs) = piece_bytes x ++ items_bytes xs

  pub piece_bytes : Piece → List ℕ
  piece_bytes (single c b ps) = b ∷ ps
  piece_bytes (bracketed xs) = PUSH ∷ items_bytes xs ++ (POP ∷ [])

pub record Stands (c : Command) (b : ℕ) (ps : List ℕ) : Type 0 where
  pub decoded : (rest : List ℕ) → decode b (ps ++ rest) ≡ command c (length ps)
  pub no_push : b ≡ PUSH → ⊥
  pub no_pop : b ≡ POP → ⊥

abbrev mutual
  pub Formed : Items → ℕ → Type 0
  Formed none d = Unit {0}
  Formed (also x xs) d = FormedPiece x d × Formed xs d

  pub FormedPiece : Piece → ℕ → Type 0
  FormedPiece (single c b ps) d = Stands c b ps
  FormedPiece (bracketed xs) zero = ⊥
  FormedPiece (bracketed xs) (suc d) = Formed xs d

pub data Read : Type 0 where
  -- some command of it is refused, or ends the page
  fails : Read
  -- the page after it, and what it shows
  leads : Page → List Mark → Read

unfoldable pub read_first : List Mark → Read → Read
read_first ms fails = fails
read_first ms (leads q ns) = leads q (ms ++ ns)

unfoldable pub then_read : Read → (Page → Read) → Read
then_read fails f = fails
then_read (leads q ms) f = read_first ms (f q)

unfoldable pub effect_read : Effect → Read
effect_read (fault k) = fails
effect_read (moved q) = leads q []
effect_read (marked q m) = leads q (m ∷ [])
effect_read ended = fails

-- a group that was entered on the page p is left
unfoldable pub leave_read : Page → Read → Read
leave_read p fails = fails
leave_read p (leads q ms) = leads (with_numbers q p.numbers) ms

unfoldable mutual
  pub read_items : Items → List ℤ → Page → Read
  read_items none ws p = leads p []
  read_items (also x xs) ws p = then_read (read_piece x ws p) (λ q. read_items xs ws q)

  pub read_piece : Piece → List ℤ → Page → Read
  read_piece (single c b ps) ws p = effect_read (effect ws p c)
  read_piece (bracketed xs) ws p = leave_read p (read_items xs ws p)
