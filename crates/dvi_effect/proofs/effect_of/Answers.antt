-- `dvi_effect::effect_of` meets its contract: PUSH and POP by the stack, any other command by `plain_effect`.
-- Assumes nothing.
use mathlib.Core.Path.{◌≡◌, refl, sym, ap, ◌∙◌}
use Rattle.dvi.specs.Command.{NoBracket}
use Rattle.dvi.specs.Page.{Page, effect}
use Rattle.dvi_command.specs.Command.{command_of}
use Rattle.dvi_page.specs.Page.{page_of}
use Rattle.dvi_command.specs.declared.Command.{Command}
use Rattle.dvi_command.specs.declared.Command.TheVariants.{SetChar, Nop, Eop, Push, Pop, VertRule, HorzRule, HorzChar, SetFont, MoveW, MoveW0, MoveX, MoveX0, MoveY, MoveY0, MoveZ, MoveZ0}
use Rattle.dvi_effect.proofs.effect_of.Goals as goal
use Rattle.dvi_effect.proofs.effect_of.Goals.{Start}

-- the commands other than PUSH and POP
no-bracket : (k : Command) → (k ≡ Push → ⊥) → (k ≡ Pop → ⊥) → NoBracket (command_of k)
no-bracket (SetChar c) h g = tt
no-bracket Nop h g = tt
no-bracket Eop h g = tt
no-bracket Push h g = absurd (h refl)
no-bracket Pop h g = absurd (g refl)
no-bracket (VertRule a w) h g = tt
no-bracket (HorzRule a w) h g = tt
no-bracket (HorzChar c) h g = tt
no-bracket (SetFont f) h g = tt
no-bracket (MoveW m) h g = tt
no-bracket MoveW0 h g = tt
no-bracket (MoveX m) h g = tt
no-bracket MoveX0 h g = tt
no-bracket (MoveY m) h g = tt
no-bracket MoveY0 h g = tt
no-bracket (MoveZ m) h g = tt
no-bracket MoveZ0 h g = tt

-- the page before the command, and the effect of the command that the match found
module _ (s : Start) where
  abbrev page : Page
  page = page_of s.args.p s.args.entries.now

  found : {k : Command} → s.args.c ≡ k → effect s.args.widths.now page (command_of k) ≡ effect s.args.widths.now page (command_of s.args.c)
  found e = ap (λ (k : Command). effect s.args.widths.now page (command_of k)) (sym e)

pub plain_effect-requires : goal.plain_effect-requires
plain_effect-requires c = no-bracket c.args.c c.in_default.not-Push c.in_default.not-Pop

pub returns-in-Push : goal.returns-in-Push
unfolding effect
returns-in-Push c = c.push.ensures ∙ found (goal.at.returns-in-Push c).Start c.in-Push.is

pub returns-in-Pop : goal.returns-in-Pop
unfolding effect
returns-in-Pop c = c.pop.ensures ∙ found (goal.at.returns-in-Pop c).Start c.in-Pop.is

pub returns-in_default : goal.returns-in_default
returns-in_default c = c.plain_effect.ensures c.args.entries.now
