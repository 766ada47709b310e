-- `dvi_page::page::Page::push` meets its contract: the entry lies above the others.
-- Assumes nothing.
use native.Mathlib.Omega.{arith}
use Rattle.dvi_page.specs.Page.{page_of}
use Rattle.dvi_page.specs.StackLaws.{stack_length}
use Rattle.dvi_page.proofs.Stacks.{push_full, push_room}
use Rattle.dvi_page.proofs.page.Page.push.Goals as goal

pub returns-then-self-ge-MAX_STACK : goal.returns-then-self-ge-MAX_STACK
returns-then-self-ge-MAX_STACK c =
    let a = c.args in
    push_full (page_of a.self a.entries.now) (omega (arith, stack_length a.entries.now a.self.depth))

pub returns : goal.returns
returns c =
    let a = c.args in
    push_room (page_of a.self a.entries.now) (omega (arith, stack_length a.entries.now a.self.depth)) c.put_entry.ensures
