-- A tape's figures, by how its run ends.
--     figures_long, figures_none      1 and 50
--     figures_on                      on a machine, from its start
--     in_font_append, in_font_most      how many characters have a font number
--     items_back                      the items of a tape, read back from its galley
-- Assumes nothing.
use Rattle.std.specs.Prelude.{◌≡◌, ℕ, ◌+◌, ◌<◌, ◌≤◌, Bool, true, false, cond, List, [], ◌∷◌, ◌++◌, length, ◌==◌, refl, Result as ResultOf, Ok, Err}
use Rattle.octets.specs.declared.refusal.Reason.{Reason}
use Rattle.octets.specs.declared.refusal.Reason.TheVariants.{NoMachine}
use Rattle.std.proofs.Math.Path.{ap}
use Rattle.std.proofs.Common.{◌∙◌, arith, lt-ltb, le-ltb}
use Rattle.octets.specs.Answer.{refusal, written, if_room, tape_too_long, after_cut, no_stop, no_galley_room, no_machine}
use Rattle.octets.specs.AnswerLaws.{room_enough}
use Rattle.galley_file.specs.declared.form.Form.TheVariants.{New}
use Rattle.galley_file.specs.declared.character.Character.{Character}
use Rattle.galley_file.specs.declared.item.Item.{Item}
use Rattle.galley_file.specs.Form.{max_galley}
use Rattle.galley_file.specs.Item.{characters_of}
use Rattle.galley_file.specs.Galley.{galley, items_in, items_of}
use Rattle.typesetter.specs.declared.code.Machine.{Machine}
use Rattle.typesetter.specs.Machine.{start}
use Rattle.typesetter.specs.Code.{machine_of}
use Rattle.tape.specs.Tape.{Ending, max_tape, run, closing, read_result, on_machine, tape_result}
use Rattle.tape.specs.TapeLaws.{items_on, items_read, items_fit}
use Rattle.figures.specs.Figures.{moves, in_font, refused_with, accepted_with, figures_by, figures_of}
use Rattle.figures.specs.Counting.{figures_at, figures_from}
use Rattle.figures.specs.LeadLaws.{cond_most}

-- ---- characters

pub in_font_append : (n : ℕ) (cs ds : List Character) → in_font n (cs ++ ds) ≡ in_font n cs + in_font n ds
unfolding in_font
in_font_append n [] ds = omega arith
in_font_append n (c ∷ cs) ds = omega (arith, in_font_append n cs ds)

pub in_font_most : (n : ℕ) (cs : List Character) → in_font n cs ≤ length cs
unfolding in_font
in_font_most n [] = omega arith
in_font_most n (c ∷ cs) = omega (arith, cond_most (c.font == n) 1 0 1 (omega arith) (omega arith), in_font_most n cs)

-- the characters of the galley of a tape within the limit are those that it flashes
pub items_back : (kind : Machine) (tape : List ℕ) → length tape ≤ max_tape → items_of New (galley New (items_on kind tape)) ≡ items_on kind tape
unfolding items_of
items_back kind tape h = ap items_in (items_read kind tape h)

-- ---- figures

module _ (tape : List ℕ) (machine : ℕ) where
  pub figures_long : max_tape < length tape → figures_of tape machine ≡ refused_with tape_too_long
  unfolding figures_of tape_result
  figures_long h = ap (λ (t : Bool). figures_by (machine_of machine) tape (cond t (refusal tape_too_long 0) (on_machine tape (max_galley New) (machine_of machine)))) (lt-ltb _ _ h)

  module _ (h : length tape ≤ max_tape) where
    by_machine : {k : ResultOf Machine Reason} → machine_of machine ≡ k → figures_of tape machine ≡ figures_by k tape (on_machine tape (max_galley New) k)
    unfolding figures_of tape_result
    by_machine e =
        ap (λ (t : Bool). figures_by (machine_of machine) tape (cond t (refusal tape_too_long 0) (on_machine tape (max_galley New) (machine_of machine)))) (le-ltb _ _ h)
        ∙ ap (λ (k : ResultOf Machine Reason). figures_by k tape (on_machine tape (max_galley New) k)) e

    pub figures_none : machine_of machine ≡ Err NoMachine → figures_of tape machine ≡ refused_with no_machine
    figures_none e = by_machine e

    pub figures_on : (kind : Machine) → machine_of machine ≡ Ok kind → figures_of tape machine ≡ figures_from (start kind) tape
    unfolding read_result figures_from if_room
    figures_on kind e = by_machine e ∙ go (run (start kind) 0 tape).ending
      where
        is : List Item
        is = (run (start kind) 0 tape).items

        stopped : figures_by (Ok kind) tape (if_room no_galley_room (max_galley New) (written (galley New is))) ≡ accepted_with (characters_of is) (moves (start kind) tape)
        stopped =
            ap (figures_by (Ok kind) tape) (room_enough no_galley_room (max_galley New) (galley New is) (items_fit kind tape h))
            ∙ ap (λ (l : List Item). accepted_with (characters_of l) (moves (start kind) tape)) (items_back kind tape h)

        closed : (t u : Bool) → figures_by (Ok kind) tape (if_room no_galley_room (max_galley New) (cond t (refusal after_cut (length tape)) (cond u (written (galley New is)) (refusal no_stop (length tape)))))
            ≡ cond t (refused_with after_cut) (cond u (accepted_with (characters_of is) (moves (start kind) tape)) (refused_with no_stop))
        closed true u = refl
        closed false true = stopped
        closed false false = refl

        go : (x : Ending) → figures_by (Ok kind) tape (if_room no_galley_room (max_galley New) (closing (length tape) is x)) ≡ figures_at is (moves (start kind) tape) x
        go (Ok s) = closed s.cut s.stopped
        go (Err r) = refl
