-- `punch_codes::setting::set_for` meets its contract, part by part.
-- Assumes nothing.
use mathlib.Core.Path.{◌≡◌, ap, ◌∙◌}
use Rattle.galley_file.specs.CharacterLaws.{valid_parts, x_range}
use Rattle.galley_file.specs.Font.{is_double}
use Rattle.punch_codes.specs.Codes.{carriage_of, carriage_for, modes_for, set_for}
use Rattle.punch_codes.proofs.setting.set_for.Goals as goal
use Rattle.punch_codes.proofs.setting.set_for.Goals.{After-carriage_of-carriage}

pub carriage_of-carriage-requires : goal.carriage_of-carriage-requires
carriage_of-carriage-requires c = (x_range (valid_parts c.requires)).1

-- the carriage goes to the character's place
across-is : (c : After-carriage_of-carriage) → c.carriage_of-carriage.result.0 ≡ carriage_for c.args.c
across-is c =
    c.carriage_of-carriage.ensures
    ∙ ap (carriage_of c.args.c.x.0) (c.is_double.ensures ∙ ap is_double c.size_index-size.ensures.0)

pub returns : goal.returns
unfolding set_for
returns c =
    let a = c.args in
    let e = across-is (goal.at.returns c).After-carriage_of-carriage in
    let n = c.size_index-size.ensures.0 in
    let m = c.modes_for.ensures ∙ ap (modes_for a.s a.c) e in
    λ i. record { machine = a.s.machine; initialized = a.s.initialized; parked = a.s.parked; stopped = a.s.stopped; cut = a.s.cut; modes = m i; size = n i; carriage = record { 0 = e i }; height = a.c.height }
