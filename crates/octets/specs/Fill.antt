-- A part of a buffer that is filled: one byte is written there so many times.
-- Assumes nothing.
use Rattle.std.proofs.Common.{◌≡◌, sym, ap, ◌∙◌, List, ℕ, ◌+◌, ◌≤◌, length, take, drop, replicate, append_assoc, length-drop, arith}
use Rattle.std.proofs.lemmas.List.{length-replicate, length-take-le}
use Rattle.std.proofs.lemmas.List.Edits.{sets-eq, paste_all}
use Rattle.std.proofs.lemmas.Slice.{put_mid-paste}
use borrow.Rule.Slice.PartMut.{put_mid}
use Rattle.octets.specs.Write.{Wrote}

pub wrote_filled : (o : List ℕ) (at k n v : ℕ) (ys : List ℕ) → k ≡ n → ys ≡ replicate (length (take k (drop at o))) v → at + n ≤ length o → Wrote o at (replicate n v) (put_mid at k o ys) (at + n)
wrote_filled o at k n v ys e f h =
    let bs = replicate n v in
    let l : length bs ≡ n = length-replicate n v in
    let m : length (take k (drop at o)) ≡ n = length-take-le k (drop at o) (omega (arith, length-drop at o)) ∙ e in
    record {
      buffer_is =
          put_mid-paste at k o ys bs n (f ∙ ap (λ (i : ℕ). replicate i v) m) (sym e) (sym l)
          ∙ paste_all o at bs n (sym l)
          ∙ sym (rw (append_assoc, l) at (sets-eq bs o at (omega arith)));
      next_is = omega arith;
    }
