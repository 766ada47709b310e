-- Bytes written into a buffer, one run after another.
-- Assumes nothing.
use Rattle.std.specs.Prelude.{◌≡◌, refl, Bool, true, false, List, [], ◌∷◌, ◌++◌, ℕ, suc, ◌+◌, ◌≤◌, length, drop, set}
use Rattle.std.proofs.Common.{sym, ap, subst, ◌∙◌, add-zero, add-suc, suc-add, zero-add, arith, length-append}
use Rattle.std.proofs.lemmas.List.Edits.{sets, sets-eq}
use Rattle.std.proofs.Math.Seq.{length-sets}

-- The bytes xs were written at `at` into o₀, which is now o₁, and `next` is the place after them.
pub record Wrote (o₀ : List ℕ) (at : ℕ) (xs o₁ : List ℕ) (next : ℕ) : Type 0 where
  pub buffer_is : o₁ ≡ sets o₀ at xs
  pub next_is : next ≡ at + length xs

-- a buffer with bytes written at a place, if writing
abbrev pub put_if : Bool → List ℕ → ℕ → List ℕ → List ℕ
put_if true out at bs = sets out at bs
put_if false out at bs = out

pub sets_append : (l : List ℕ) (i : ℕ) (xs ys : List ℕ) → sets l i (xs ++ ys) ≡ sets (sets l i xs) (i + length xs) ys
sets_append l i [] ys = ap (λ (j : ℕ). sets l j ys) (sym (add-zero i))
sets_append l i (a ∷ xs) ys =
    sets_append (set l i a) (suc i) xs ys
    ∙ ap (λ (j : ℕ). sets (sets (set l i a) (suc i) xs) j ys) (suc-add i (length xs) ∙ sym (add-suc i (length xs)))

-- a run from the start of a buffer that has room: the bytes, and the rest of the buffer as it was
pub sets_start : (o xs : List ℕ) → length xs ≤ length o → sets o 0 xs ≡ xs ++ drop (length xs) o
sets_start o xs h = sets-eq xs o 0 (omega arith) ∙ ap (λ (j : ℕ). xs ++ drop j o) (zero-add (length xs))

pub wrote_none : (o : List ℕ) (at : ℕ) → Wrote o at [] o at
wrote_none o at = record { buffer_is = refl; next_is = omega arith }

pub length_wrote : {o₀ : List ℕ} {at : ℕ} {xs o₁ : List ℕ} {next : ℕ} → Wrote o₀ at xs o₁ next → length o₁ ≡ length o₀
length_wrote {o₀} {at} {xs} w = ap length w.buffer_is ∙ length-sets o₀ at xs

-- one run after another
pub then : {o₀ : List ℕ} {at : ℕ} {xs o₁ : List ℕ} {i : ℕ} {ys o₂ : List ℕ} {j : ℕ} → Wrote o₀ at xs o₁ i → Wrote o₁ i ys o₂ j → Wrote o₀ at (xs ++ ys) o₂ j
then {o₀} {at} {xs} {o₁} {i} {ys} {o₂} {j} w v =
    let l = length-append xs ys in
    let e = w.next_is in
    let f = v.next_is in
    record {
      buffer_is =
          v.buffer_is
          ∙ ap (λ (o : List ℕ). sets o i ys) w.buffer_is
          ∙ ap (λ (k : ℕ). sets (sets o₀ at xs) k ys) w.next_is
          ∙ sym (sets_append o₀ at xs ys);
      next_is = omega arith;
    }

-- where n and k more bytes had room, after n bytes there is room for k
pub room_after : {o₀ : List ℕ} {at : ℕ} {xs o₁ : List ℕ} {next : ℕ} → Wrote o₀ at xs o₁ next → (n k : ℕ) → length xs ≡ n → at + (n + k) ≤ length o₀ → next + k ≤ length o₁
room_after w n k e h = omega (arith, w.next_is, length_wrote w)

-- the same bytes, named otherwise
pub named : {o₀ : List ℕ} {at : ℕ} {xs ys o₁ : List ℕ} {i : ℕ} → xs ≡ ys → Wrote o₀ at xs o₁ i → Wrote o₀ at ys o₁ i
named {o₀} {at} {xs} {ys} {o₁} {i} e w = subst (λ (l : List ℕ). Wrote o₀ at l o₁ i) e w

-- ---- written, or only counted

-- the buffer `before` is now `later`, with xs at `to` if writing, and `next` is the place after them
pub record Put (w : Bool) (before : List ℕ) (to : ℕ) (xs later : List ℕ) (next : ℕ) : Type 0 where
  pub buffer : later ≡ put_if w before to xs
  pub place : next ≡ to + length xs

pub put_written : {w : Bool} {before : List ℕ} {to : ℕ} {xs later : List ℕ} {next : ℕ} → w ≡ true → Wrote before to xs later next → Put w before to xs later next
put_written {w} {before} {to} {xs} e v =
    record { buffer = v.buffer_is ∙ sym (ap (λ (u : Bool). put_if u before to xs) e); place = v.next_is }

pub put_named : {w : Bool} {before : List ℕ} {to : ℕ} {xs ys later : List ℕ} {next : ℕ} → xs ≡ ys → Put w before to xs later next → Put w before to ys later next
put_named {w} {before} {to} {xs} {ys} {later} {next} e p = subst (λ (l : List ℕ). Put w before to l later next) e p

pub put_if_none : (w : Bool) (out : List ℕ) (to : ℕ) → out ≡ put_if w out to []
put_if_none true out to = refl
put_if_none false out to = refl

pub put_if_append : (w : Bool) (before : List ℕ) (to : ℕ) (xs ys : List ℕ) {out later : List ℕ} {i : ℕ} → out ≡ put_if w before to xs → i ≡ to + length xs → later ≡ put_if w out i ys
    → later ≡ put_if w before to (xs ++ ys)
put_if_append false before to xs ys e t f = f ∙ e
put_if_append true before to xs ys e t f = f ∙ (λ o. sets (e o) (t o) ys) ∙ sym (sets_append before to xs ys)

pub put_none : (w : Bool) (before : List ℕ) (to : ℕ) → Put w before to [] before to
put_none w before to = record { buffer = put_if_none w before to; place = omega arith }

pub put_then : {w : Bool} {before : List ℕ} {to : ℕ} {xs later : List ℕ} {i : ℕ} {ys latest : List ℕ} {j : ℕ} → Put w before to xs later i → Put w later i ys latest j → Put w before to (xs ++ ys) latest j
put_then {w} {before} {to} {xs} {ys = ys} u v =
    record {
      buffer = put_if_append w before to xs ys u.buffer u.place v.buffer;
      place = omega (arith, u.place, v.place, length-append xs ys);
    }

-- without writing nothing changes
pub put_still : {w : Bool} {before : List ℕ} {to : ℕ} {xs later : List ℕ} {i : ℕ} → w ≡ false → Put w before to xs later i → later ≡ before
put_still {w} {before} {to} {xs} e u = u.buffer ∙ ap (λ (v : Bool). put_if v before to xs) e

pub put_counted : {w : Bool} {before : List ℕ} {to : ℕ} {xs : List ℕ} {next : ℕ} → w ≡ false → next ≡ to + length xs → Put w before to xs before next
put_counted {w} {before} {to} {xs} e n = record { buffer = sym (ap (λ (u : Bool). put_if u before to xs) e); place = n }

length_put_if : (w : Bool) (before : List ℕ) (to : ℕ) (xs : List ℕ) → length (put_if w before to xs) ≡ length before
length_put_if true before to xs = length-sets before to xs
length_put_if false before to xs = refl

pub put_length : {w : Bool} {before : List ℕ} {to : ℕ} {xs later : List ℕ} {next : ℕ} → Put w before to xs later next → length later ≡ length before
put_length {w} {before} {to} {xs} p = ap length p.buffer ∙ length_put_if w before to xs
