-- The reader and the statement agree: a file is read as `gives is` exactly where the writer makes it of the items `is`, and as `bad place` exactly where 46 at that place
-- is the refusal.
--     gives_exactly                   the reader gives back the items of the writer's files, and accepts no other
--     bad_exactly                     and refuses the others where `Refused` says
--     made_once                       a file is that of one list of items only
--     result_made, result_refused     what the reader gives
--     accepts_exactly                 it gives bytes exactly for the writer's files, and they are the galley
-- Assumes nothing.
use Rattle.std.specs.Prelude.{◌≡◌, refl, Bool, true, false, cond, List, [], ◌∷◌, ◌++◌, ◌↔◌, ℕ, suc, ◌+◌, ◌≤◌, ltb, leb, length, take}
use Rattle.std.proofs.Common.{sym, ap, subst, ◌∙◌, suc-ne-zero, arith, le-ltb, le-leb, length-append, take_at, drop_at}
use Rattle.std.proofs.Math.Option.{some}
use Rattle.octets.specs.Answer.{refusal, written, outcome, if_room, file_too_long, no_galley_room, not_ours}
use Rattle.octets.specs.AnswerLaws.{room_made, room_enough, accepted_room}
use Rattle.galley_file.specs.declared.form.Form.TheVariants.{New}
use Rattle.galley_file.specs.declared.item.Item.{Item}
use Rattle.galley_file.specs.Galley.{galley}
use Rattle.dvi2.specs.File.{max_dvi2}
use Rattle.dvi2.specs.Writer.{dvi2_file}
use Rattle.dvi2.specs.WriterLaws.{file_fits}
use Rattle.dvi2_reading.specs.Beginning.{Writable, FileOf, parameters, command_size, Refused}
use Rattle.dvi2_reading.specs.Reading.{State, may_begin, Read, gives, bad, at_end, refuse, short, go, whole_step, step, follow, read, read_file, galley_result, read2_result}
use Rattle.dvi2_reading.specs.Reading as R
use Rattle.dvi2_reading.specs.SizeLaws.{Command}
use Rattle.dvi2_reading.proofs.Path.{Path, stop, step as R-step}
use Rattle.dvi2_reading.proofs.PathLaws.{file_path}
use Rattle.dvi2_reading.proofs.BeginningLaws.{refused_once, refused_none}
use Rattle.dvi2_reading.proofs.ReadLaws.{Comes, comes_items, comes_fault, read_pass, reads}

-- ---- a file of the writer's

read_command : (q r : State) (at : ℕ) (c u : List ℕ) → Command c → R.next q c ≡ some r → read q at 0 (c ++ u) ≡ read r (at + length c) 0 u
unfolding read step whole_step follow command_size
read_command q r at [] u d n = let s = d.some_byte in absurd (omega arith)
read_command q r at (b ∷ ps) u d n =
    let N : parameters b (ps ++ u) ≡ length ps = omega (arith, d.sized u) in
    let L : leb (length ps) (length (ps ++ u)) ≡ true = le-leb (length ps) (length (ps ++ u)) (omega (arith, length-append ps u)) in
    let T : take (length ps) (ps ++ u) ≡ ps = take_at ps u (length ps) refl in
    let S : step q b (ps ++ u) ≡ go r (length ps) =
    ap (λ (m : ℕ). cond (leb m (length (ps ++ u))) (whole_step m (R.next q (b ∷ take m (ps ++ u)))) (cond (may_begin q (b ∷ (ps ++ u))) short refuse)) N
    ∙ rw L (ap (λ (t : List ℕ). whole_step (length ps) (R.next q (b ∷ t))) T ∙ ap (whole_step (length ps)) n) in
    ap (λ (j : R.Step). follow at (at + suc (length (ps ++ u))) j (λ r m. read r (suc at) m (ps ++ u))) S
    ∙ read_pass r (suc at) (length ps) (ps ++ u) (omega (arith, length-append ps u))
    ∙ ap (read r (suc at + length ps) 0) (drop_at ps u (length ps) refl)
    ∙ ap (λ (j : ℕ). read r j 0 u) (omega arith)

read_path : {q e : State} {w : List ℕ} (at : ℕ) → Path q w e → read q at 0 w ≡ read e (at + length w) 0 []
read_path {q} at stop = ap (λ (j : ℕ). read q j 0 []) (omega arith)
read_path {q} {e} at (R-step {r = r} {c = c} {bs = u} n d p) =
    read_command q r at c u d n
    ∙ read_path (at + length c) p
    ∙ ap (λ (j : ℕ). read e j 0 []) (omega (arith, length-append c u))

pub reads_back : (is : List Item) → Writable is → read_file (dvi2_file is) ≡ gives is
unfolding read at_end
reads_back is w = read_path 0 (file_path is w)

-- ---- exactly

no_items : {X : Type 0} {p : ℕ} {is : List Item} → bad p ≡ gives is → X
no_items e = absurd (suc-ne-zero 0 cc)

items_same : {is js : List Item} → gives is ≡ gives js → is ≡ js
items_same e = cc

place_same : {p q : ℕ} → bad p ≡ bad q → p ≡ q
place_same e = cc

pub gives_exactly : (s : List ℕ) (is : List Item) → (read_file s ≡ gives is) ↔ FileOf s is
gives_exactly s is = (λ e. there (read_file s) (reads s) e, λ m. ap read_file m.file_is ∙ reads_back is m.writable)
  where
    there : (r : Read) → Comes s r → r ≡ gives is → FileOf s is
    there r (comes_items {is = js} m) e = subst (FileOf s) (items_same e) m
    there r (comes_fault f) e = no_items e

pub bad_exactly : (s : List ℕ) (place : ℕ) → (read_file s ≡ bad place) ↔ Refused s place
bad_exactly s place = (λ e. there (read_file s) (reads s) e, λ m. back (read_file s) (reads s) m)
  where
    there : (r : Read) → Comes s r → r ≡ bad place → Refused s place
    there r (comes_items m) e = no_items (sym e)
    there r (comes_fault f) e = subst (Refused s) (place_same e) f

    back : (r : Read) → Comes s r → Refused s place → r ≡ bad place
    back r (comes_items {is = is} m) f = absurd (refused_none s place is f m)
    back r (comes_fault {place = p} g) f = ap bad (refused_once s p place g f)

-- the same file is the file of one list of items only
pub made_once : (s : List ℕ) (is js : List Item) → FileOf s is → FileOf s js → is ≡ js
made_once s is js m n = items_same (sym ((gives_exactly s is).1 m) ∙ (gives_exactly s js).1 n)

-- ---- what the reader gives

-- for a file of the writer's, which is within the limit: its galley
pub result_made : (s : List ℕ) (is : List Item) (room : ℕ) → FileOf s is → read2_result s room ≡ if_room no_galley_room room (written (galley New is))
unfolding read2_result galley_result
result_made s is room m =
    let l = file_fits is m.writable.few in
    let e = ap length m.file_is in
    rw (le-ltb max_dvi2 (length s) (omega arith), (gives_exactly s is).1 m)

-- for any other file within the limit: 46 at the place
pub result_refused : (s : List ℕ) (place room : ℕ) → length s ≤ max_dvi2 → Refused s place → read2_result s room ≡ refusal not_ours place
unfolding read2_result galley_result if_room
result_refused s place room l f = rw (le-ltb max_dvi2 (length s) l, (bad_exactly s place).1 f)

-- what is given back for a file
pub record GivenBack (s g : List ℕ) (room : ℕ) : Type 0 where
  pub items : List Item
  pub made : FileOf s items
  pub galley_is : g ≡ galley New items
  pub fits : length g ≤ room

-- bytes are given exactly for the writer's files, and they are the galley
pub accepts_exactly : (s g : List ℕ) (room : ℕ) → (read2_result s room ≡ written g) ↔ GivenBack s g room
unfolding read2_result galley_result
accepts_exactly s g room = (λ e. there (ltb max_dvi2 (length s)) e, λ k. back k)
  where
    given : (r : Read) → read_file s ≡ r → if_room no_galley_room room (galley_result r) ≡ written g → GivenBack s g room
    given (gives is) q e =
        let w = room_made no_galley_room room (written (galley New is)) g e in
        let b : g ≡ galley New is = cc in
        record {
          items = is;
          made = (gives_exactly s is).0 q;
          galley_is = b;
          fits = accepted_room no_galley_room room (length g) (written (galley New is)) (sym (ap outcome e));
        }
    given (bad place) q e = let w = room_made no_galley_room room (refusal not_ours place) g e in absurd (suc-ne-zero 0 cc)

    there : (t : Bool) → cond t (refusal file_too_long 0) (if_room no_galley_room room (galley_result (read_file s))) ≡ written g → GivenBack s g room
    there true e = absurd (suc-ne-zero 0 cc)
    there false e = given (read_file s) refl e

    back : GivenBack s g room → read2_result s room ≡ written g
    back k =
        result_made s k.items room k.made
        ∙ room_enough no_galley_room room (galley New k.items) (omega (arith, k.fits, ap length k.galley_is))
        ∙ ap written (sym k.galley_is)
