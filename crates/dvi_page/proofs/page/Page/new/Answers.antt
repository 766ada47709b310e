-- `dvi_page::page::Page::new` meets its contract: six zeros, no font, no entry.
-- Assumes nothing.
use mathlib.Core.Path.{refl}
use Rattle.dvi.specs.Page.{new_page}
use Rattle.dvi_page.specs.Stack.{stack_of}
use Rattle.dvi_page.proofs.page.Page.new.Goals as goal

pub returns : goal.returns
unfolding new_page stack_of
returns c l = refl
