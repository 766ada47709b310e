-- Where a pass over a file stands: what the file shows is what was shown so far, before what the rest shows from the present state.
-- `tell` is what the pass keeps of a command's marks.
--     Standing                                                     where a pass stands
--     standing_start, standing_next                                the first place, and one command further
--     standing_refused, standing_finished, standing_ended          where it ends
-- Assumes nothing.
use Rattle.std.specs.Prelude.{◌≡◌, List, [], ◌++◌, ℕ, ◌+◌, ◌≤◌, ◌<◌, ℤ, negsuc, length, get_or, drop}
use Rattle.std.proofs.Common.{sym, ◌∙◌, subst, append-nil, arith, length-drop}
use Rattle.std.proofs.Math.Path.{ap}
use Rattle.octets.specs.Answer.{dvi_ends_early}
use Rattle.sheet.specs.Sheet.{Mark}
use Rattle.dvi.specs.Page.{max_stack}
use Rattle.dvi.specs.File as F
use Rattle.sheet.specs.Shown.{refused_at, shows, shows_first}
use Rattle.dvi.specs.File.{refuse, go_on, finish, run_as, read_as}
use Rattle.sheet.specs.ShownLaws.{shows_first_nil, shows_first_append}
use Rattle.dvi.proofs.FileLaws.{Low, SoundStep, step_sound, step_here, run_next, run_refuse, run_finish, run_end}
use Rattle.dvi_page.specs.Stack.{stack_size}
use Rattle.dvi_page.specs.StackLaws.{stack_length}
use Rattle.dvi_step.specs.Step.{state_of, depth_of}
use Rattle.dvi_step.specs.declared.State.{State}
use Rattle.dvi_step.specs.declared.State.TheVariants.{Between, Inside}

low_in : (q : State) (l : List ℤ) → depth_of q ≤ max_stack → Low (state_of q l)
low_in (Between last) l h = tt
low_in (Inside last p) l h = omega (arith, stack_length l p.depth)

low_out : (q : State) (l : List ℤ) → Low (state_of q l) → depth_of q ≤ max_stack
low_out (Between last) l h = omega arith
low_out (Inside last p) l h = omega (arith, stack_length l p.depth)

pub record Standing {A : Type 0} (tell : ℕ → List Mark → List A) (ws : List ℤ) (s : List ℕ) (l : List ℤ) (q : State) (at : ℕ) (ms : List A) : Type 0 where
  pub so_far : read_as tell ws s ≡ shows_first ms (run_as tell ws at (state_of q l) 0 (drop at s))
  pub within : at ≤ length s
  pub whole : length l ≡ stack_size
  pub low : depth_of q ≤ max_stack

pub standing_start : {A : Type 0} (tell : ℕ → List Mark → List A) (ws : List ℤ) (s : List ℕ) (l : List ℤ) → length l ≡ stack_size → Standing tell ws s l (Between (negsuc 0)) 0 []
unfolding read_as
standing_start tell ws s l h =
    record { so_far = sym (shows_first_nil (run_as tell ws 0 (F.between (negsuc 0)) 0 s)); within = omega arith; whole = h; low = omega arith }

module _ {A : Type 0} {tell : ℕ → List Mark → List A} {ws : List ℤ} {s : List ℕ} {l : List ℤ} {q : State} {at : ℕ} {ms : List A} (b : Standing tell ws s l q at ms) where
  module _ (h : at < length s) where
    -- one command further
    pub standing_next : (m : List ℤ) (t : State) (ns : List Mark) (n : ℕ) → length m ≡ stack_size → step_here ws s at (state_of q l) ≡ go_on (state_of t m) ns n → Standing tell ws s m t (at + 1 + n) (ms ++ tell at ns)
    standing_next m t ns n k e =
        let d : (n ≤ length (drop (at + 1) s)) × Low (state_of t m) = subst (SoundStep (length (drop (at + 1) s))) e (step_sound ws at (state_of q l) (get_or s at 0) (drop (at + 1) s) (low_in q l b.low)) in
        record {
          so_far =
              b.so_far
              ∙ ap (shows_first ms) (run_next tell ws s at (state_of q l) (state_of t m) ns n h e d.0)
              ∙ shows_first_append ms (tell at ns) (run_as tell ws (at + 1 + n) (state_of t m) 0 (drop (at + 1 + n) s));
          within = omega (arith, d.0, length-drop (at + 1) s);
          whole = k;
          low = low_out t m d.1;
        }

    pub standing_refused : (k : ℕ) → step_here ws s at (state_of q l) ≡ refuse k → read_as tell ws s ≡ refused_at k at
    unfolding shows_first
    standing_refused k e = b.so_far ∙ ap (shows_first ms) (run_refuse tell ws s at (state_of q l) k h e)

    pub standing_finished : step_here ws s at (state_of q l) ≡ finish → read_as tell ws s ≡ shows ms
    unfolding shows_first
    standing_finished e = b.so_far ∙ ap (shows_first ms) (run_finish tell ws s at (state_of q l) h e) ∙ ap shows (append-nil ms)

  pub standing_ended : length s ≤ at → read_as tell ws s ≡ refused_at dvi_ends_early at
  unfolding shows_first
  standing_ended h = b.so_far ∙ ap (shows_first ms) (run_end tell ws s at (state_of q l) h)
