-- From a state, a count of characters and a place on a tape to others, code by code. What the quick ways' contracts cite; nothing here is part of
-- what a call promises.
--     put_at        an item's field put into a buffer after so many characters and bytes of cuts, if writing
--     Further      codes each of which moves the machine or sets a character, whose field is put
--     Stretched    such codes over a stretch, where only the carriage moves
use Rattle.std.specs.Prelude.{◌≡◌, Bool, List, ℕ, ◌+◌, ◌*◌, ◌<◌, length, get_or, Ok}
use Rattle.octets.specs.Write.{put_if}
use Rattle.galley_file.specs.declared.form.Form.TheVariants.{New}
use Rattle.galley_file.specs.declared.character.Character.{Character}
use Rattle.galley_file.specs.declared.item.Item.{Item}
use Rattle.galley_file.specs.declared.item.Item.TheVariants.{Placed}
use Rattle.galley_file.specs.Item.{item_field}
use Rattle.typesetter.specs.declared.machine.State.{State}
use Rattle.typesetter.specs.declared.machine.Effect.TheVariants.{Moved, Flashed}
use Rattle.typesetter.specs.Machine.{with_carriage, byte_effect}
use Rattle.tape_stretch.specs.declared.Stretch.{Stretch}

-- an item's field after n characters and k bytes of cuts
abbrev pub put_at : Bool → ℕ → ℕ → Item → List ℕ → List ℕ
put_at w n k i out = put_if w out (11 * n + k) (item_field New i)

pub data Further (w : Bool) (tape out : List ℕ) (s : State) (count cuts i : ℕ) : State → ℕ → ℕ → List ℕ → Type 0 where
  here : Further w tape out s count cuts i s count i out
  moved : {t u : State} {n j : ℕ} {later : List ℕ} → Further w tape out s count cuts i t n j later → j < length tape
      → byte_effect t (get_or tape j 0) ≡ Ok (Moved u) → Further w tape out s count cuts i u n (j + 1) later
  flashed : {t : State} {n j : ℕ} {later next : List ℕ} {k : Character} → Further w tape out s count cuts i t n j later → j < length tape
      → byte_effect t (get_or tape j 0) ≡ Ok (Flashed k) → next ≡ put_at w n cuts (Placed k) later → Further w tape out s count cuts i t (n + 1) (j + 1) next

abbrev pub Stretched : Bool → List ℕ → List ℕ → State → ℕ → ℕ → ℕ → Stretch → List ℕ → Type 0
Stretched w tape out s count cuts i r later = Further w tape out s count cuts i (with_carriage s r.carriage) r.count r.next later
