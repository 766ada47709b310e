-- A file read command by command. A reader that stands at offset `at` of the file s has `drop at s` before it.
--     step_sound                                   a command that goes on has its parameters in the file, and the stack has at most 200 entries
--     run_next, run_refuse, run_finish, run_end    what the rest shows, by the step that the command there makes
--     unplaced_read                                marks with the offsets of their commands are the marks
-- Assumes nothing.
use Rattle.std.specs.Prelude.{◌≡◌, refl, Bool, cond, ◌&&◌, leb, eqb, ℤ, negsuc, length, get_or, drop}
use Rattle.std.proofs.Math.Path.{ap}
use Rattle.std.proofs.Common.{◌∙◌, add-one, arith, leb-true, drop_of_length-le, drop-drop}
use mathlib.Core.List.{List, [], ◌∷◌, ◌++◌, map}
use Prim.Native.Nat.{ℕ, zero, suc, ◌+◌, ◌≤◌, ◌<◌}
use Rattle.std.proofs.Math.Nat.{add-zero}
use Rattle.std.proofs.Math.Seq.{drop-cons}
use Rattle.std.specs.Int.Signed.{non_neg}
use Rattle.integers.specs.Equality.{eq_z}
use Rattle.octets.specs.Octets.{signed_at}
use Rattle.octets.specs.OctetsLaws.{by_cond}
use Rattle.octets.specs.Answer.{dvi_ends_early}
use Rattle.dvi.specs.Command.{BOP, PST, Layout, barred, bare, takes, takes_two, layout_of, Decoded, no_command, cut_short, command, with_parameters, decode}
use Rattle.sheet.specs.Sheet.{Mark}
use Rattle.dvi.specs.Page.{max_stack, Page, new_page, Effect, fault, moved, marked, ended, effect}
use Rattle.dvi.proofs.PageLaws.{LowEffect, effect_stack}
use Rattle.dvi.specs.Postamble.{postamble}
use Rattle.sheet.specs.Shown.{ShownAs, Shown, refused_at, shows, shows_first}
use Rattle.dvi.specs.File.{State, between, inside, Step, refuse, go_on, finish, after_effect, in_page, begin_page, end_file, step, follow, run_as, marks_alone, run, read_as, read_dvi, PlacedMark, mark_in, placed_at, read_placed, unplaced}

-- ---- what holds of every step

-- the stack has at most 200 entries
abbrev pub Low : State → Type 0
Low (between last) = Unit {0}
Low (inside last p) = length p.stack ≤ max_stack

-- a step over at most k bytes to such a state
abbrev pub SoundStep : ℕ → Step → Type 0
SoundStep k (refuse r) = Unit {0}
SoundStep k (go_on q ms n) = (n ≤ k) × Low q
SoundStep k finish = Unit {0}

effect_sound : (k : ℕ) (last : ℤ) (n : ℕ) (e : Effect) → n ≤ k → LowEffect e → SoundStep k (after_effect last n e)
unfolding after_effect
effect_sound k last n (fault r) h g = tt
effect_sound k last n (moved p) h g = (h, g)
effect_sound k last n (marked p m) h g = (h, g)
effect_sound k last n ended h g = (h, tt)

abbrev pub Held : ℕ → Decoded → Type 0
Held k no_command = Unit {0}
Held k cut_short = Unit {0}
Held k (command c n) = n ≤ k

pub held : (f : Layout) (ps : List ℕ) → Held (length ps) (with_parameters f ps)
unfolding with_parameters
held barred ps = tt
held (bare c) ps = omega arith
held (takes n c) ps = by_cond (Held (length ps)) (leb n (length ps)) _ _ (λ e. leb-true n (length ps) e) (λ _. tt)
held (takes_two c) ps = by_cond (Held (length ps)) (leb 8 (length ps)) _ _ (λ e. leb-true 8 (length ps) e) (λ _. tt)

page_sound : (ws : List ℤ) (k : ℕ) (last : ℤ) (p : Page) (d : Decoded) → Held k d → length p.stack ≤ max_stack → SoundStep k (in_page ws last p d)
unfolding in_page
page_sound ws k last p no_command h g = tt
page_sound ws k last p cut_short h g = tt
page_sound ws k last p (command c n) h g = effect_sound k last n (effect ws p c) h (effect_stack ws p g c)

sound_if : (k : ℕ) (t : Bool) (e f : Step) → SoundStep k e → SoundStep k f → SoundStep k (cond t e f)
sound_if k t e f h g = by_cond (SoundStep k) t e f (λ _. h) (λ _. g)

begin_sound : (last : ℤ) (at : ℕ) (ps : List ℕ) → SoundStep (length ps) (begin_page last at ps)
unfolding begin_page new_page
begin_sound last at ps =
    by_cond (SoundStep (length ps)) (leb 8 (length ps)) _ _
    (λ e. sound_if (length ps) (eq_z (signed_at 4 4 ps) last) _ _ (omega (arith, leb-true 8 (length ps) e), omega arith) tt)
    (λ _. tt)

pub step_sound : (ws : List ℤ) (at : ℕ) (q : State) (op : ℕ) (ps : List ℕ) → Low q → SoundStep (length ps) (step ws at q op ps)
unfolding step decode end_file
step_sound ws at (inside last p) op ps h = page_sound ws (length ps) last p (decode op ps) (held (layout_of op) ps) h
step_sound ws at (between last) op ps h =
    sound_if (length ps) (eqb op BOP) _ _ (begin_sound last at ps)
    (sound_if (length ps) (eqb op PST && non_neg last) _ _ (sound_if (length ps) (postamble last at ps) _ _ tt tt) tt)

-- ---- one command

-- the step that the command at `at` makes
abbrev pub step_here : List ℤ → List ℕ → ℕ → State → Step
step_here ws s at q = step ws at q (get_or s at 0) (drop (at + 1) s)

module _ {A : Type 0} (tell : ℕ → List Mark → List A) (ws : List ℤ) where
  -- bytes that are passed over
  pub run_pass : (at n : ℕ) (q : State) (bs : List ℕ) → n ≤ length bs → run_as tell ws at q n bs ≡ run_as tell ws (at + n) q 0 (drop n bs)
  unfolding run_as
  run_pass at zero q bs h = rw add-zero
  run_pass at (suc n) q [] h = absurd (omega arith)
  run_pass at (suc n) q (b ∷ bs) h = run_pass (suc at) n q bs (omega arith) ∙ ap (λ (k : ℕ). run_as tell ws k q 0 (drop n bs)) (omega arith)

  module _ (s : List ℕ) (at : ℕ) (q : State) where
    run_here : at < length s → run_as tell ws at q 0 (drop at s) ≡ follow tell at (step_here ws s at q) (λ r n. run_as tell ws (suc at) r n (drop (at + 1) s))
    unfolding run_as
    run_here h = rw (add-one, drop-cons s at 0)

    pub run_next : (r : State) (ms : List Mark) (n : ℕ) → at < length s → step_here ws s at q ≡ go_on r ms n → n ≤ length (drop (at + 1) s)
        → run_as tell ws at q 0 (drop at s) ≡ shows_first (tell at ms) (run_as tell ws (at + 1 + n) r 0 (drop (at + 1 + n) s))
    unfolding follow
    run_next r ms n h e l =
        run_here h
        ∙ ap (λ (k : Step). follow tell at k (λ r n. run_as tell ws (suc at) r n (drop (at + 1) s))) e
        ∙ ap (shows_first (tell at ms))
        (run_pass (suc at) n r (drop (at + 1) s) l
        ∙ ap (λ (k : ℕ). run_as tell ws k r 0 (drop n (drop (at + 1) s))) (omega arith)
        ∙ ap (run_as tell ws (at + 1 + n) r 0) (drop-drop n (at + 1) s))

    pub run_refuse : (k : ℕ) → at < length s → step_here ws s at q ≡ refuse k → run_as tell ws at q 0 (drop at s) ≡ refused_at k at
    unfolding follow
    run_refuse k h e = run_here h ∙ ap (λ (j : Step). follow tell at j (λ r n. run_as tell ws (suc at) r n (drop (at + 1) s))) e

    pub run_finish : at < length s → step_here ws s at q ≡ finish → run_as tell ws at q 0 (drop at s) ≡ shows []
    unfolding follow
    run_finish h e = run_here h ∙ ap (λ (j : Step). follow tell at j (λ r n. run_as tell ws (suc at) r n (drop (at + 1) s))) e

    pub run_end : length s ≤ at → run_as tell ws at q 0 (drop at s) ≡ refused_at dvi_ends_early at
    unfolding run_as
    run_end h = rw (drop_of_length-le s h)

-- ---- marks and their places

unplaced_first : (at : ℕ) (ms : List Mark) (r : ShownAs PlacedMark) → unplaced (shows_first (placed_at at ms) r) ≡ shows_first ms (unplaced r)
unfolding shows_first placed_at
unplaced_first at ms (refused_at k i) = refl
unplaced_first at [] (shows ps) = refl
unplaced_first at (m ∷ ms) (shows ps) =
    let e = unplaced_first at ms (shows ps) in
    let d : map mark_in (placed_at at ms ++ ps) ≡ ms ++ map mark_in ps = cc in
    ap (λ (ns : List Mark). shows (m ∷ ns)) d

-- a step, by what holds of the rest
unplaced_follow : (at : ℕ) (rest : State → ℕ → ShownAs PlacedMark) (alone : State → ℕ → Shown) → ((r : State) (n : ℕ) → unplaced (rest r n) ≡ alone r n) → (k : Step)
    → unplaced (follow placed_at at k rest) ≡ follow marks_alone at k alone
unfolding follow
unplaced_follow at rest alone e (refuse r) = refl
unplaced_follow at rest alone e (go_on r ms n) = unplaced_first at ms (rest r n) ∙ ap (shows_first ms) (e r n)
unplaced_follow at rest alone e finish = refl

unplaced_run : (ws : List ℤ) (at : ℕ) (q : State) (n : ℕ) (bs : List ℕ) → unplaced (run_as placed_at ws at q n bs) ≡ run ws at q n bs
unfolding run_as
unplaced_run ws at q n [] = refl
unplaced_run ws at q (suc n) (b ∷ bs) = unplaced_run ws (suc at) q n bs
unplaced_run ws at q zero (b ∷ bs) =
    unplaced_follow at (λ r n. run_as placed_at ws (suc at) r n bs) (λ r n. run ws (suc at) r n bs) (λ r n. unplaced_run ws (suc at) r n bs) (step ws at q b bs)

-- marks with their places are the marks
pub unplaced_read : (ws : List ℤ) (dvi : List ℕ) → unplaced (read_placed ws dvi) ≡ read_dvi ws dvi
unfolding read_as
unplaced_read ws dvi = unplaced_run ws 0 (between (negsuc 0)) 0 dvi
