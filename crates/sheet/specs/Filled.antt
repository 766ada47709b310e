-- The sheet that a pass has made so far, and how it ends.
--     mark_counted                        a mark's field that is only counted
--     Filled                              place, count and buffer are those of the marks so far
--     filled_start, filled_still          nothing yet, no mark more
--     filled_more, filled_mark            marks more, one mark more
--     filled_refused, filled_finished     what the pass found
-- Assumes nothing.
use Rattle.std.specs.Prelude.{◌≡◌, refl, Bool, true, false, List, [], ◌∷◌, ◌++◌, ℕ, ◌+◌, ◌*◌, ◌≤◌, ◌<◌, length, Ok, Err}
use Rattle.std.proofs.Common.{sym, ◌∙◌, subst, append-nil, arith, length-append}
use Rattle.std.proofs.Math.Path.{ap}
use Rattle.octets.specs.Field.{end_field}
use Rattle.octets.specs.Write.{put_if, put_if_append, Put, put_named, put_none, put_then, put_still, put_counted}
use Rattle.octets.specs.Answer.{accepted, outcome, number_in}
use Rattle.octets.specs.Pass.{bytes_of, Roomy, Passed}
use Rattle.octets.specs.PassLaws.{passed_refused}
use Rattle.octets.specs.declared.refusal.Refusal.{Refusal}
use Rattle.sheet.specs.Sheet.{Mark, mark_field, mark_fields, sheet}
use Rattle.sheet.specs.SheetLaws.{field_size, length_mark_field, one_field, fields_most, mark_fields_append, length_sheet}
use Rattle.sheet.specs.Shown.{Shown, refused_at, shows, shown_result}

pub mark_counted : {w : Bool} {before : List ℕ} {to next : ℕ} (m : Mark) → w ≡ false → next ≡ to + field_size m → Put w before to (mark_field m) before next
mark_counted m e n = put_counted e (omega (arith, length_mark_field m))

-- after `at` bytes of the file the marks ms are shown
pub record Filled (w : Bool) (first out : List ℕ) (ms : List Mark) (at to count : ℕ) : Type 0 where
  pub put : Put w first 0 (mark_fields ms) out to
  pub counted : count ≡ length ms
  pub few : count ≤ at
  pub near : to ≤ 20 * at
  pub same : length out ≡ length first

pub filled_start : (w : Bool) (first : List ℕ) → Filled w first first [] 0 0 0
unfolding mark_fields
filled_start w first = record { put = put_none w first 0; counted = refl; few = omega arith; near = omega arith; same = refl }

module _ {w : Bool} {first out : List ℕ} {ms : List Mark} {at to count : ℕ} (p : Filled w first out ms at to count) where
  pub filled_still : (k : ℕ) → at ≤ k → Filled w first out (ms ++ []) k to count
  filled_still k h =
      subst (λ (ns : List Mark). Filled w first out ns k to count) (sym (append-nil ms))
      (record { put = p.put; counted = p.counted; few = omega (arith, p.few); near = omega (arith, p.near); same = p.same })

  pub filled_more : (k : ℕ) (ns : List Mark) {later : List ℕ} {next total : ℕ} → at + length ns ≤ k → Put w out to (mark_fields ns) later next → total ≡ count + length ns → length later ≡ length out
      → Filled w first later (ms ++ ns) k next total
  filled_more k ns h f c g =
      record {
        put = put_named (sym (mark_fields_append ms ns)) (put_then p.put f);
        counted = omega (arith, c, p.counted, length-append ms ns);
        few = omega (arith, c, p.few);
        near = omega (arith, p.near, f.place, fields_most ns);
        same = g ∙ p.same;
      }

  -- one mark more
  pub filled_mark : (k : ℕ) (m : Mark) {later : List ℕ} {next : ℕ} → at < k → Put w out to (mark_field m) later next → length later ≡ length out
      → Filled w first later (ms ++ (m ∷ [])) k next (count + 1)
  filled_mark k m h f g = filled_more k (m ∷ []) (omega arith) (put_named (one_field m) f) refl g

  module _ {x : Shown} where
    pub filled_refused : {r : Refusal} → x ≡ refused_at (number_in r.reason) r.place → (w ≡ true → Roomy (shown_result x) (length first)) → Passed (shown_result x) w first (Err r) out
    unfolding shown_result
    filled_refused e h = passed_refused (ap shown_result e) h (λ s. put_still s p.put)

    pub filled_finished : {later : List ℕ} → x ≡ shows ms → later ≡ put_if w out to (end_field count) → Passed (shown_result x) w first (Ok (to + 7)) later
    unfolding shown_result sheet
    filled_finished {later} e f =
        record {
          found = ap accepted (omega (arith, p.put.place, length_sheet ms)) ∙ ap (λ (y : Shown). outcome (shown_result y)) (sym e);
          buffer =
              put_if_append w first 0 (mark_fields ms) (end_field (length ms)) p.put.buffer p.put.place (f ∙ ap (λ (n : ℕ). put_if w out to (end_field n)) p.counted)
              ∙ ap (λ (y : Shown). put_if w first 0 (bytes_of (shown_result y))) (sym e);
        }
