-- The end of a file: one definition after another, post_post, one byte 223 after another, and nothing more.
-- Assumes nothing.
use mathlib.Core.Path.{◌≡◌, refl, sym, ap, subst, ◌∙◌}
use mathlib.Core.Bool.{Bool, true, false, cond}
use mathlib.Core.List.{List, [], ◌∷◌, ◌++◌, map, append_assoc, append-nil, flatten}
use Prim.Native.Nat.{ℕ, zero, suc, ◌+◌, ◌-◌, ◌≤◌, ◌<◌}
use native.Mathlib.Nat.{add-zero}
use native.Mathlib.Numerals.{add-one}
use native.Mathlib.Omega.{arith}
use lib.ListN.{length, take, drop, length-append}
use lib.Seq.{length-take-le}
use Rattle.std.specs.Prelude.{Result, Ok, Err}
use Rattle.galley_file.specs.declared.character.Character.{Character}
use Rattle.galley_file.specs.declared.item.Item.{Item}
use Rattle.galley_file.specs.Item.{characters_of}
use Rattle.extents.specs.FontMarks.{uses, used_fonts, is_marked, FontsAre}
use Rattle.extents.proofs.FontMarksLaws.{marked_used}
use Rattle.dvi2.specs.Writer.{definition, pages_bytes, command_bytes, fillers}
use Rattle.dvi2.specs.WriterLaws.{length_file}
use Rattle.dvi2_frame.specs.Frame.{post_post_of}
use Rattle.dvi2_reading.specs.Reading.{State, closing, fill, closing_of, gives, bad, at_end, read_file}
use Rattle.dvi2_reading.specs.SizeLaws.{definition_command, postpost_command, fill_command}
use Rattle.dvi2_reading.proofs.StepLaws.{ended_refuse}
use Rattle.dvi2_reading.specs.Standing.{Standing}
use Rattle.dvi2_reading.proofs.StandingLaws.{standing_refuse, standing_end, sole_closing}
use Rattle.dvi2_close.specs.declared.expect.NotOurs.{NotOurs}
use Rattle.dvi2_close.specs.Fonts.{used_from}
use Rattle.dvi2_close.specs.Reading.{expected, Inside, ReadsTo}
use Rattle.dvi2_close.proofs.Expected.{expect_reads_to, expect_inside, reads_to_standing, reads_to_fault, inside_to}

-- ---- the definitions

used_from_lem : (cs : List Character) (n f : ℕ) → used_fonts (f + n) cs ≡ used_fonts f cs ++ used_from f n cs
unfolding used_fonts used_from
used_from_lem cs zero f = ap (λ (k : ℕ). used_fonts k cs) (add-zero f) ∙ sym (append-nil (used_fonts f cs))
used_from_lem cs (suc n) f =
    let e : f + suc n ≡ suc f + n = omega arith in
    ap (λ (k : ℕ). used_fonts k cs) e ∙ used_from_lem cs n (suc f) ∙ append_assoc (used_fonts f cs) (cond (uses f cs) (f ∷ []) []) (used_from (suc f) n cs)

used_none : (cs : List Character) → used_fonts 0 cs ≡ []
unfolding used_fonts
used_none cs = refl

used_all : (cs : List Character) → used_fonts 120 cs ≡ used_from 0 120 cs
used_all cs = used_from_lem cs 120 0 ∙ ap (λ (l : List ℕ). l ++ used_from 0 120 cs) (used_none cs)

module _ (s : List ℕ) (is : List Item) (es : List (List ℕ)) where
  abbrev cs : List Character
  cs = characters_of is

  -- n fonts from f on are to be defined
  abbrev pub Defining : ℕ → ℕ → State
  Defining f n = closing is (map definition (used_from f n cs) ++ es)

  pub defining_first : (at : ℕ) → Standing s (closing is (map definition (used_fonts 120 cs) ++ es)) at → Standing s (Defining 0 120) at
  defining_first at k = subst (λ (fs : List ℕ). Standing s (closing is (map definition fs ++ es)) at) (used_all cs) k

  pub defining_last : (n at : ℕ) → n ≡ 0 → Standing s (Defining 120 n) at → Standing s (closing is es) at
  unfolding used_from
  defining_last n at e k = subst (λ (m : ℕ). Standing s (Defining 120 m) at) e k

  module _ (low high : ℕ) (k : FontsAre low high cs) where
    defining_one : (f n to : ℕ) → f < 120 → Standing s (Defining f (suc n)) to → ReadsTo s (Defining (suc f) n) (cond (is_marked low high f) (expected s to (definition f)) (Ok to))
    unfolding used_from
    defining_one f n to l st = go (is_marked low high f) refl
      where
        Before : Bool → Type 0
        Before b = Standing s (closing is (map definition (cond b (f ∷ []) [] ++ used_from (suc f) n cs) ++ es)) to

        go : (t : Bool) → is_marked low high f ≡ t → ReadsTo s (Defining (suc f) n) (cond t (expected s to (definition f)) (Ok to))
        go true e =
            let b : Before true = subst Before (sym (marked_used low high cs k f l) ∙ e) st in
            expect_reads_to s _ (Defining (suc f) n) to (definition f) b (sole_closing (drop to s) is (definition f) (map definition (used_from (suc f) n cs) ++ es) (definition_command f))
        go false e = subst Before (sym (marked_used low high cs k f l) ∙ e) st

    pub defining_next : (f to : ℕ) → f < 120 → Standing s (Defining f (120 - f)) to
        → ReadsTo s (Defining (f + 1) (120 - (f + 1))) (cond (is_marked low high f) (expected s to (definition f)) (Ok to))
    defining_next f to l st =
        let m : 120 - f ≡ suc (120 - (f + 1)) = omega arith in
        subst (λ (g : ℕ). ReadsTo s (Defining g (120 - (f + 1))) (cond (is_marked low high f) (expected s to (definition f)) (Ok to))) (sym (add-one f))
        (defining_one f (120 - (f + 1)) to l (subst (λ (j : ℕ). Standing s (Defining f j) to) m st))

-- what a loop over the fonts knows: from `at` on, the fonts below f are defined before `to`
abbrev pub Defined : List ℕ → ℕ → ℕ → ℕ → ℕ → ℕ → Type 0
Defined s at low high f to =
    (is : List Item) (es : List (List ℕ)) → FontsAre low high (characters_of is) → Standing s (closing is (map definition (used_fonts 120 (characters_of is)) ++ es)) at
    → Standing s (Defining s is es f (120 - f)) to

pub defined_start : (s : List ℕ) (at low high : ℕ) → Defined s at low high 0 at
defined_start s at low high is es k st = defining_first s is es at st

pub defined_end : (s : List ℕ) (at low high f to : ℕ) → Defined s at low high f to → f ≡ 120
    → (is : List Item) (es : List (List ℕ)) → FontsAre low high (characters_of is) → Standing s (closing is (map definition (used_fonts 120 (characters_of is)) ++ es)) at → Standing s (closing is es) to
defined_end s at low high f to d e is es k st =
    let n : 120 - f ≡ 0 = omega arith in
    defining_last s is es (120 - f) to n (subst (λ (g : ℕ). Standing s (Defining s is es g (120 - f)) to) e (d is es k st))

module _ (s : List ℕ) (at low high f to : ℕ) (d : Defined s at low high f to) (l : f < 120) (r : Result ℕ NotOurs) (q : r ≡ cond (is_marked low high f) (expected s to (definition f)) (Ok to)) where
  defined_reads_to : (is : List Item) (es : List (List ℕ)) → FontsAre low high (characters_of is) → Standing s (closing is (map definition (used_fonts 120 (characters_of is)) ++ es)) at
      → ReadsTo s (Defining s is es (f + 1) (120 - (f + 1))) r
  defined_reads_to is es k st = subst (ReadsTo s (Defining s is es (f + 1) (120 - (f + 1)))) (sym q) (defining_next s is es low high k f to l (d is es k st))

  pub defined_next : (next : ℕ) → r ≡ Ok next → Defined s at low high (f + 1) next
  defined_next next h is es k st = reads_to_standing h (defined_reads_to is es k st)

  pub defined_fault : (w : NotOurs) → r ≡ Err w → (is : List Item) (es : List (List ℕ)) → FontsAre low high (characters_of is)
      → Standing s (closing is (map definition (used_fonts 120 (characters_of is)) ++ es)) at → read_file s ≡ bad w.place
  defined_fault w h is es k st = reads_to_fault s (Defining s is es (f + 1) (120 - (f + 1))) h (defined_reads_to is es k st)

  pub defined_inside : (next : ℕ) → to ≤ length s → r ≡ Ok next → next ≤ length s
  defined_inside next i h = inside_to h (subst (Inside (length s)) (sym q) (go (is_marked low high f)))
    where
      go : (t : Bool) → Inside (length s) (cond t (expected s to (definition f)) (Ok to))
      go true = expect_inside s to (definition f) i
      go false = i

-- ---- post_post

pub closing_is : (is : List Item) (post : ℕ) → post ≡ length (pages_bytes is)
    → closing_of is ≡ map definition (used_fonts 120 (characters_of is)) ++ (post_post_of post ∷ fill (fillers (length (command_bytes is))))
unfolding closing_of post_post_of
closing_is is post e = ap (λ (n : ℕ). map definition (used_fonts 120 (characters_of is)) ++ (post_post_of n ∷ fill (fillers (length (command_bytes is))))) (sym e)

pub post_post_reads_to : (s : List ℕ) (is : List Item) (post n at : ℕ) → Standing s (closing is (post_post_of post ∷ fill n)) at → ReadsTo s (closing is (fill n)) (expected s at (post_post_of post))
unfolding post_post_of
post_post_reads_to s is post n at k = expect_reads_to s _ (closing is (fill n)) at (post_post_of post) k (sole_closing (drop at s) is (post_post_of post) (fill n) (postpost_command post))

-- ---- the bytes 223

pub filler_reads_to : (s : List ℕ) (is : List Item) (n to : ℕ) → Standing s (closing is (fill (suc n))) to → ReadsTo s (closing is (fill n)) (expected s to (223 ∷ []))
unfolding fill
filler_reads_to s is n to k = expect_reads_to s _ (closing is (fill n)) to (223 ∷ []) k (sole_closing (drop to s) is (223 ∷ []) (fill n) fill_command)

pub filled : (s : List ℕ) (is : List Item) (n to : ℕ) → n ≡ 0 → Standing s (closing is (fill n)) to → Standing s (closing is []) to
unfolding fill
filled s is n to e k = subst (λ (m : ℕ). Standing s (closing is (fill m)) to) e k

length_fill : (n : ℕ) → length (flatten (fill n)) ≡ n
unfolding fill flatten
length_fill zero = refl
length_fill (suc n) = ap suc (length_fill n)

-- what a loop over them knows: of n, the first k stand before `to`
abbrev pub Filling : List ℕ → ℕ → ℕ → ℕ → ℕ → Type 0
Filling s at n k to = (is : List Item) → Standing s (closing is (fill (fillers at))) at → Standing s (closing is (fill (n - k))) to

pub filling_start : (s : List ℕ) (at n : ℕ) → n ≡ fillers at → Filling s at n 0 at
filling_start s at n e is st = let m : fillers at ≡ n - 0 = omega arith in subst (λ (j : ℕ). Standing s (closing is (fill j)) at) m st

pub filling_end : (s : List ℕ) (at n k to : ℕ) → Filling s at n k to → n ≤ k → (is : List Item) → Standing s (closing is (fill (fillers at))) at → Standing s (closing is []) to
filling_end s at n k to f l is st = filled s is (n - k) to (omega arith) (f is st)

module _ (s : List ℕ) (at n k to : ℕ) (f : Filling s at n k to) (l : k < n) (r : Result ℕ NotOurs) (q : r ≡ expected s to (223 ∷ [])) where
  filling_reads_to : (is : List Item) → Standing s (closing is (fill (fillers at))) at → ReadsTo s (closing is (fill (n - (k + 1)))) r
  filling_reads_to is st =
      let m : n - k ≡ suc (n - (k + 1)) = omega arith in
      subst (ReadsTo s (closing is (fill (n - (k + 1))))) (sym q)
      (filler_reads_to s is (n - (k + 1)) to (subst (λ (j : ℕ). Standing s (closing is (fill j)) to) m (f is st)))

  pub filling_next : (next : ℕ) → r ≡ Ok next → Filling s at n (k + 1) next
  filling_next next h is st = reads_to_standing h (filling_reads_to is st)

  pub filling_fault : (w : NotOurs) → r ≡ Err w → (is : List Item) → Standing s (closing is (fill (fillers at))) at → read_file s ≡ bad w.place
  filling_fault w h is st = reads_to_fault s (closing is (fill (n - (k + 1)))) h (filling_reads_to is st)

-- they start after all commands
pub fill_place : (s : List ℕ) (is : List Item) (at : ℕ) → Standing s (closing is (fill (fillers (length (command_bytes is))))) at → at ≡ length (command_bytes is)
fill_place s is at k =
    let n = fillers (length (command_bytes is)) in
    let b = ap length k.reached.bytes_are in
    omega (arith, b, length-append (take at s) (flatten (fill n)), length-take-le at s k.inside, length_fill n, length_file is)

pub fill_here : (s : List ℕ) (is : List Item) (at : ℕ) → Standing s (closing is (fill (fillers (length (command_bytes is))))) at → Standing s (closing is (fill (fillers at))) at
fill_here s is at k = subst (λ (n : ℕ). Standing s (closing is (fill (fillers n))) at) (sym (fill_place s is at k)) k

-- ---- the end

module _ (s : List ℕ) (is : List Item) (at : ℕ) (k : Standing s (closing is []) at) where
  pub closed_more : at < length s → read_file s ≡ bad at
  closed_more l = standing_refuse s (closing is []) at k l (sym (ended_refuse is _ _))

  pub closed_end : length s ≤ at → read_file s ≡ gives is
  unfolding at_end
  closed_end l = standing_end s (closing is []) at k l
