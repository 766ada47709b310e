-- A part of a buffer that other bytes replace: these bytes are written there.
-- Assumes nothing.
use Rattle.std.proofs.Common.{◌≡◌, refl, sym, ◌∙◌, List, ℕ, ◌+◌, ◌≤◌, length, append_assoc}
use Rattle.std.proofs.lemmas.List.Edits.{sets-eq, paste_all}
use Rattle.std.proofs.lemmas.Slice.{put_mid-paste}
use borrow.Rule.Slice.PartMut.{put_mid}
use Rattle.octets.specs.Write.{Wrote}

pub wrote_part : (o : List ℕ) (at k : ℕ) (bs ys : List ℕ) → ys ≡ bs → length bs ≡ k → at + length bs ≤ length o → Wrote o at bs (put_mid at k o ys) (at + length bs)
wrote_part o at k bs ys e f h = record {
  buffer_is =
      put_mid-paste at k o ys bs (length bs) e f refl
      ∙ paste_all o at bs (length bs) refl
      ∙ sym (rw append_assoc at (sets-eq bs o at h));
  next_is = refl;
}
