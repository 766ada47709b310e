-- `galley_check::leading_items` meets its contract: the field of an item lies in the slice, and the items behind it are counted.
-- Assumes nothing.
use Rattle.std.proofs.Common.{◌≡◌, ℕ, ◌-◌, sym, subst, ◌∙◌, arith, length, take, drop}
use Rattle.galley_file.specs.Galley.{leading}
use Rattle.galley_file.specs.CharacterLaws.{read_character}
use Rattle.galley_file.specs.ItemLaws.{cut_long}
use Rattle.galley_check.specs.Span.{run_number}
use Rattle.galley_check.proofs.Reading.{number_none, number_stop, number_character, number_cut, number_most}
use Rattle.galley_check.proofs.+leading_items.Goals as goal

pub returns-then-room-eq0 : goal.returns-then-room-eq0
returns-then-room-eq0 t c = number_none _ _ _ c.if-room-eq0.true

-- the field lies in the slice
pub slice_bounds-leading_items-count : goal.slice_bounds-leading_items-count
slice_bounds-leading_items-count t c =
    let r = read_character _ _ (sym c.starts_character.ensures ∙ c.if-starts_character.true) in
    omega (arith, c.character_size-size.ensures, r.long)

pub slice_bounds-leading_items-start : goal.slice_bounds-leading_items-start
slice_bounds-leading_items-start t c = slice_bounds-leading_items-count t c

pub overflow_add-result : goal.overflow_add-result
overflow_add-result t c = omega (arith, number_most _ _ _ _ c.leading_items.ensures, c.if-room-eq0.false)

pub returns-then-starts_character : goal.returns-then-starts_character
returns-then-starts_character t c =
    let s = c.args.s.now in
    let l = c.leading_items in
    let w = subst (λ (n : ℕ). l.result ≡ run_number (leading c.args.f (c.args.room - 1) (take (length s - n) (drop n s)))) c.character_size-size.ensures.0 l.ensures in
    number_character _ _ _ _ c.if-room-eq0.false (sym c.starts_character.ensures ∙ c.if-starts_character.true) w

pub slice_bounds-leading_items-count-then-is_cut : goal.slice_bounds-leading_items-count-then-is_cut
slice_bounds-leading_items-count-then-is_cut t c = cut_long _ (sym c.is_cut.ensures ∙ c.if-is_cut.true)

pub slice_bounds-leading_items-start-then-is_cut : goal.slice_bounds-leading_items-start-then-is_cut
slice_bounds-leading_items-start-then-is_cut t c = slice_bounds-leading_items-count-then-is_cut t c

pub overflow_add-result-then-is_cut : goal.overflow_add-result-then-is_cut
overflow_add-result-then-is_cut t c = omega (arith, number_most _ _ _ _ c.leading_items-then-is_cut.ensures, c.if-room-eq0.false)

pub returns-then-is_cut : goal.returns-then-is_cut
returns-then-is_cut t c =
    number_cut _ _ _ _ c.if-room-eq0.false (sym c.starts_character.ensures ∙ c.if-starts_character.false) (sym c.is_cut.ensures ∙ c.if-is_cut.true)
    c.leading_items-then-is_cut.ensures

pub returns : goal.returns
returns t c = number_stop _ _ _ (sym c.starts_character.ensures ∙ c.if-starts_character.false) (sym c.is_cut.ensures ∙ c.if-is_cut.false)
