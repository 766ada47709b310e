-- The extents of a running tape (document 02, "Extents at a glance"): after every call they are those of the characters gone out since the
-- last accepted start, over all pages, whatever was accepted or refused in between; a close keeps them.
--     Since           calls without an accepted start among them
--     ExtentsOut      the extents are those of the characters in these bytes
--     extents_out     after an accepted start and such calls
-- Assumes nothing.
use Rattle.std.specs.Prelude.{◌≡◌, refl, List, [], ◌∷◌, ◌++◌, ◌⊎◌, ℕ}
use Rattle.std.proofs.Common.{sym, ap, subst, ◌∙◌, append_assoc, append-nil, inl, inr}
use Rattle.std.specs.Prelude.{Ok, Err}
use Rattle.octets.specs.declared.refusal.Reason.TheVariants.{NoMachine}
use Rattle.octets.specs.Field.{end_field}
use Rattle.measure.specs.Place.{height_end}
use Rattle.octets.specs.Pass.{bytes_of}
use Rattle.octets.specs.Transducer.{transduced}
use Rattle.galley_file.specs.declared.form.Form.TheVariants.{New}
use Rattle.galley_file.specs.declared.item.Item.{Item}
use Rattle.galley_file.specs.Item.{characters_of}
use Rattle.galley_file.specs.ItemLaws.{characters_append}
use Rattle.galley_file.specs.Galley.{AllValid, nil, more, fields}
use Rattle.galley_file.specs.GalleyLaws.{fields_append}
use Rattle.extents.specs.declared.Extents.{Extents}
use Rattle.extents.specs.Extents.{ExtentsAre, with_characters, extents_of}
use Rattle.extents.proofs.ExtentsLaws.{extents_append, extents_are}
use Rattle.typesetter.specs.declared.code.Machine.{Machine}
use Rattle.typesetter.specs.Code.{machine_of}
use Rattle.running.specs.declared.Phase.TheVariants.{AtRest}
use Rattle.running.specs.declared.Running.{Running}
use Rattle.running.specs.Running.{Replied, fresh, start_on, start_of, grown}
use Rattle.running_laws.specs.Calls.{Call, starting, given, tape_after, output}
use Rattle.running_laws.specs.CallsLaws.{Later, resting, Kind, roomless, still, keeps, adds, finishes, kind_of, stuck_gives}

-- ---- what has gone out since the start

data Sent : Running → List ℕ → Type 0 where
  sent : {r : Running} (is : List Item) → AllValid height_end is → r.extents ≡ extents_of (characters_of is) → Sent r (fields New is)
  closed_with : {r : Running} (is : List Item) (n : ℕ) → AllValid height_end is → r.extents ≡ extents_of (characters_of is) → r.phase ≡ AtRest
      → Sent r (fields New is ++ end_field n)

all_more : {is js : List Item} → AllValid height_end is → AllValid height_end js → AllValid height_end (is ++ js)
all_more nil w = w
all_more (more v vs) w = more v (all_more vs w)

-- nothing more goes out
same_out : {r : Running} {bs : List ℕ} → Sent r bs → Sent r (bs ++ [])
same_out {r} {bs} s = subst (Sent r) (sym (append-nil bs)) s

sent_kind : {r : Running} (is : List Item) → AllValid height_end is → r.extents ≡ extents_of (characters_of is) → {x : Replied} → Kind r x
    → Sent x.tape (fields New is ++ bytes_of x.result)
sent_kind is v e roomless = same_out (sent is v e)
sent_kind is v e (still s) = same_out (sent is v e)
sent_kind is v e (keeps h) = same_out (sent is v e)
sent_kind {r} is v e (adds t n js w) =
    subst (Sent (grown r t n js)) (fields_append New is js)
    (sent (is ++ js) (all_more v w)
    (ap (λ (x : Extents). with_characters x (characters_of js)) e ∙ sym (extents_append (characters_of is) (characters_of js)) ∙ ap extents_of (sym (characters_append is js))))
sent_kind {r} is v e finishes = closed_with is r.count v e refl

sent_later : {r : Running} {bs : List ℕ} → Sent r bs → {c : Call} → Later c → Sent (given r c).tape (bs ++ bytes_of (given r c).result)
sent_later {r} (sent is v e) l = sent_kind is v e (kind_of r l)
sent_later {r} (closed_with is n v e i) l =
    subst (λ (x : Replied). Sent x.tape ((fields New is ++ end_field n) ++ bytes_of x.result)) (sym (stuck_gives (resting i) l)) (same_out (closed_with is n v e i))

-- pieces, closings and starts with a wrong machine
pub data Since : List Call → Type 0 where
  done : Since []
  later : {c : Call} {cs : List Call} → Later c → Since cs → Since (c ∷ cs)
  wrong : {machine : ℕ} {cs : List Call} → machine_of machine ≡ Err NoMachine → Since cs → Since (starting machine ∷ cs)

sent_since : {r : Running} {bs : List ℕ} → Sent r bs → {cs : List Call} → Since cs → Sent (tape_after r cs) (bs ++ output r cs)
unfolding transduced start_of
sent_since s done = same_out s
sent_since {r} {bs} s (later {c} {cs} l ls) =
    subst (Sent (tape_after (given r c).tape cs)) (append_assoc bs (bytes_of (given r c).result) (output (given r c).tape cs)) (sent_since {r = (given r c).tape} (sent_later s l) ls)
sent_since {r} {bs} s (wrong {machine} {cs} n ls) =
    subst (λ (x : Replied). Sent (tape_after x.tape cs) (bs ++ (bytes_of x.result ++ output x.tape cs))) (sym (ap (start_on r) n)) (sent_since {r = r} s ls)

pub record ExtentsOut (e : Extents) (out : List ℕ) : Type 0 where
  pub items : List Item
  pub end : List ℕ
  pub out_is : out ≡ fields New items ++ end
  pub end_is : (end ≡ []) ⊎ ((n : ℕ) × (end ≡ end_field n))
  pub all_valid : AllValid height_end items
  pub extents_are : ExtentsAre e (characters_of items)

sent_out : {r : Running} {bs : List ℕ} → Sent r bs → ExtentsOut r.extents bs
sent_out (sent is v e) =
    record { items = is; end = []; out_is = sym (append-nil (fields New is)); end_is = inl refl; all_valid = v; extents_are = subst (λ (x : Extents). ExtentsAre x (characters_of is)) (sym e) (extents_are is v) }
sent_out (closed_with is n v e i) =
    record { items = is; end = end_field n; out_is = refl; end_is = inr (n, refl); all_valid = v; extents_are = subst (λ (x : Extents). ExtentsAre x (characters_of is)) (sym e) (extents_are is v) }

-- "After every piece, accepted or refused, they are those of the characters gone out so far, over all pages"; "starting anew clears them"
pub extents_out : (r : Running) (machine : ℕ) (kind : Machine) → machine_of machine ≡ Ok kind → {cs : List Call} → Since cs
    → ExtentsOut (tape_after r (starting machine ∷ cs)).extents (output r (starting machine ∷ cs))
unfolding transduced start_of fields characters_of extents_of with_characters
extents_out r machine kind named {cs} s =
    sent_out (subst (λ (x : Replied). Sent (tape_after x.tape cs) (bytes_of x.result ++ output x.tape cs)) (sym (ap (start_on r) named)) (sent_since (sent {r = fresh kind} [] nil refl) s))
