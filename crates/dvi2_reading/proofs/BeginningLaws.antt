-- Where a file is refused, by the statement alone.
--     refused_once     a file is refused at one place at most
--     refused_none     and a file of the writer's at none
-- Assumes nothing.
use Rattle.std.specs.Prelude.{◌≡◌, List, [], ◌++◌, ℕ, zero, suc, ◌+◌, ◌≤◌, ◌<◌, length, take, drop}
use Rattle.std.proofs.Common.{sym, ap, subst, ◌∙◌, append_assoc, append-nil, arith, take-append-drop, drop-cons, take_all, take-take}
use Rattle.octets.specs.OctetsLaws.{by_test}
use Rattle.galley_file.specs.declared.item.Item.{Item}
use Rattle.dvi2_reading.specs.Beginning.{FileOf, Begins, command_size, CommandAt, first, next, Refused, bad_command, ends_early}

-- ---- beginnings

-- what begins a beginning begins a file
pub begins_part : (s w : List ℕ) → Begins (s ++ w) → Begins s
begins_part s w b =
    record {
      items = b.items;
      rest = w ++ b.rest;
      made = record { writable = b.made.writable; file_is = sym (append_assoc s w b.rest) ∙ b.made.file_is };
    }

begins_take : (n m : ℕ) (s : List ℕ) → n ≤ m → Begins (take m s) → Begins (take n s)
begins_take n m s h b =
    begins_part (take n s) (drop n (take m s))
    (subst Begins (sym (ap (λ (l : List ℕ). l ++ drop n (take m s)) (sym (take-take n m s h)) ∙ take-append-drop n (take m s))) b)

made_begins : (s : List ℕ) (is : List Item) → FileOf s is → Begins s
made_begins s is m = record { items = is; rest = []; made = record { writable = m.writable; file_is = append-nil s ∙ m.file_is } }

-- ---- the place is the only one

size_some : (s : List ℕ) (at : ℕ) → at < length s → 0 < command_size (drop at s)
unfolding command_size
size_some s at l = rw (drop-cons s at 0 l) (omega arith)

-- of two places where commands start, none is inside the command at the other; n bounds their sum
after_command : (n : ℕ) (s : List ℕ) (p q : ℕ) → p + q ≤ n → CommandAt s p → CommandAt s q → p < length s → p < q → p + command_size (drop p s) ≤ q
after_command zero s p q b c d l m = absurd (omega arith)
after_command (suc n) s p q b c first l m = absurd (omega arith)
after_command (suc n) s p q b c (next {at = at} d k) l m =
    let z = size_some s at k in
    by_test p at
    (λ (a : p < at). let h = after_command n s p at (omega arith) c d l a in omega arith)
    (λ (a : at ≤ p).
    by_test at p
    (λ (o : at < p). let h = after_command n s at p (omega arith) d c k o in absurd (omega arith))
    (λ (o : p ≤ at). let e : p ≡ at = omega arith in subst (λ (i : ℕ). i + command_size (drop i s) ≤ at + command_size (drop at s)) (sym e) (omega arith)))

-- where the whole begins a file, so does each part
whole_part : (s : List ℕ) (n : ℕ) → Begins s → Begins (take n s)
whole_part s n b = begins_take n (n + length s) s (omega arith) (subst Begins (sym (take_all (n + length s) s (omega arith))) b)

pub refused_once : (s : List ℕ) (p q : ℕ) → Refused s p → Refused s q → p ≡ q
refused_once s p q (bad_command c l b n) (bad_command d k o m) =
    by_test p q
    (λ (h : p < q). absurd (n (begins_take (p + command_size (drop p s)) q s (after_command (p + q) s p q (omega arith) c d l h) o)))
    (λ (h : q ≤ p).
    by_test q p
    (λ (g : q < p). absurd (m (begins_take (q + command_size (drop q s)) p s (after_command (q + p) s q p (omega arith) d c k g) b)))
    (λ (g : p ≤ q). omega arith))
refused_once s p q (bad_command c l b n) (ends_early e o m) = absurd (n (whole_part s (p + command_size (drop p s)) o))
refused_once s p q (ends_early e o m) (bad_command c l b n) = absurd (n (whole_part s (q + command_size (drop q s)) o))
refused_once s p q (ends_early e o m) (ends_early d k n) = e ∙ sym d

pub refused_none : (s : List ℕ) (p : ℕ) (is : List Item) → Refused s p → FileOf s is → ⊥
refused_none s p is (bad_command c l b n) m = n (whole_part s (p + command_size (drop p s)) (made_begins s is m))
refused_none s p is (ends_early e b n) m = n is m
