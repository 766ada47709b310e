-- The code's state and step as those of the format.
--     state_of     the state that a state of the code is, with this stack
--     depth_of     the entries on the stack
--     step_of      the step that a step of the code is
use Rattle.std.specs.Prelude.{ℕ, List, [], ◌∷◌, ℤ}
use Rattle.octets.specs.Answer.{number_in}
use Rattle.dvi.specs.File as S
use Rattle.dvi.specs.Mark.{mark_of}
use Rattle.dvi_page.specs.Page.{page_of}
use Rattle.dvi_step.specs.declared.State.{State}
use Rattle.dvi_step.specs.declared.State.TheVariants.{Between, Inside}
use Rattle.dvi_step.specs.declared.Stepped.{Stepped}
use Rattle.dvi_step.specs.declared.Stepped.TheVariants.{Refuse, Go, Show, Finish}

abbrev pub state_of : State → List ℤ → S.State
state_of (Between last) l = S.between last
state_of (Inside last p) l = S.inside last (page_of p l)

abbrev pub depth_of : State → ℕ
depth_of (Between last) = 0
depth_of (Inside last p) = p.depth

abbrev pub step_of : Stepped → List ℤ → S.Step
step_of (Refuse r) l = S.refuse (number_in r)
step_of (Go q n) l = S.go_on (state_of q l) [] n
step_of (Show q m n) l = S.go_on (state_of q l) (mark_of m ∷ []) n
step_of Finish l = S.finish
