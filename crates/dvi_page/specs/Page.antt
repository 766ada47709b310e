-- The code's page as that of the format. The entries of its stack lie in an array beside it.
--     font_if_set     the font, which counts where the flag says so
--     page_of        the page that a page of the code is, with this array
--     effect_of      the effect that an effect of the code is
use Rattle.std.specs.Prelude.{Bool, true, false, List, ℤ}
use Rattle.std.proofs.Math.Option.{Option, none, some}
use Rattle.octets.specs.Answer.{number_in}
use Rattle.dvi.specs.Page as S
use Rattle.dvi.specs.Mark.{mark_of}
use Rattle.dvi_page.specs.Stack.{six_numbers, stack_of}
use Rattle.dvi_page.specs.declared.page.Page.{Page}
use Rattle.dvi_page.specs.declared.page.Effect.{Effect}
use Rattle.dvi_page.specs.declared.page.Effect.TheVariants.{Fault, Moved, Marked, Ended}

abbrev pub font_if_set : Bool → ℤ → Option ℤ
font_if_set false f = none
font_if_set true f = some f

abbrev pub page_of : Page → List ℤ → S.Page
page_of p l = record { numbers = six_numbers p.numbers; font = font_if_set p.has_font p.font; stack = stack_of l p.depth }

abbrev pub effect_of : Effect → List ℤ → S.Effect
effect_of (Fault r) l = S.fault (number_in r)
effect_of (Moved p) l = S.moved (page_of p l)
effect_of (Marked p m) l = S.marked (page_of p l) (mark_of m)
effect_of Ended l = S.ended
