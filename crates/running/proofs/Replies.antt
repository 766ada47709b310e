-- Replies of the code, by the definition that they meet.
-- Assumes nothing.
use mathlib.Core.Path.{◌≡◌, ap, ◌∙◌}
use mathlib.Core.List.{List}
use Prim.Native.Nat.{ℕ, ◌+◌, ◌≤◌}
use native.Mathlib.Omega.{arith}
use lib.ListN.{length}
use lib.Seq.{sets}
use Rattle.octets.specs.Answer.{refused, written, accepted, number_in}
use Rattle.octets.specs.declared.refusal.Refusal.{Refusal}
use Rattle.std.specs.Prelude.{Ok, Err}
use Rattle.octets.specs.Write.{sets_start}
use Rattle.galley_file.specs.declared.item.Item.{Item}
use Rattle.galley_file.specs.Item.{characters_of}
use Rattle.extents.specs.declared.Extents.{Extents}
use Rattle.extents.specs.Extents.{with_characters}
use Rattle.typesetter.specs.declared.machine.State.{State}
use Rattle.running.specs.declared.Phase.TheVariants.{Open}
use Rattle.running.specs.declared.Running.{Running}
use Rattle.running.specs.declared.Reply.{Reply}
use Rattle.running.specs.declared.Refused.{Refused}
use Rattle.running.specs.declared.Refused.TheVariants.{Now}
use Rattle.running.specs.Answer.{outcome_in}
use Rattle.running.specs.Running.{Replied, refusing, failed, failing, grown, Leaves}
use Rattle.running.specs.RunningLaws.{leaves}

module _ {f : Reply} {buffer later : List ℕ} {reply : ℕ → Replied} where
  -- a refusal with this number and place
  pub refuses : (r : Running) {q : Refused} {n place : ℕ} → reply (length buffer) ≡ refusing r n place → f ≡ record { tape = r; answer = Err q } → outcome_in (Err q) ≡ refused n place → later ≡ buffer
      → Leaves (outcome_in f.answer) f.tape reply buffer later
  refuses r {q} {n} {place} p e o b = leaves (refusing r n place) p (ap (λ (g : Reply). outcome_in g.answer) e ∙ o) (ap (λ (g : Reply). g.tape) e) b

  -- the same, of one that was found now
  pub refuses_now : (r : Running) {q k : Refusal} → reply (length buffer) ≡ refusing r (number_in k.reason) k.place → f ≡ record { tape = r; answer = Err (Now q) } → q ≡ k → later ≡ buffer
      → Leaves (outcome_in f.answer) f.tape reply buffer later
  refuses_now r p e d b = refuses r p e (ap (λ (x : Refusal). refused (number_in x.reason) x.place) d) b

  -- one that is kept
  pub fails : (r : Running) {q k : Refusal} → reply (length buffer) ≡ failing r (number_in k.reason) k.place → f ≡ record { tape = failed r (number_in q.reason) q.place; answer = Err (Now q) } → q ≡ k → later ≡ buffer
      → Leaves (outcome_in f.answer) f.tape reply buffer later
  fails r {q} {k} p e d b =
      leaves (failing r (number_in k.reason) k.place) p (ap (λ (g : Reply). outcome_in g.answer) e ∙ ap (λ (x : Refusal). refused (number_in x.reason) x.place) d)
      (ap (λ (g : Reply). g.tape) e ∙ ap (λ (x : Refusal). failed r (number_in x.reason) x.place) d) b

  -- bytes written from the start of a buffer that has room for them
  pub puts : (next : Running) {n : ℕ} (bs : List ℕ) → reply (length buffer) ≡ record { tape = next; result = written bs } → f ≡ record { tape = next; answer = Ok n }
      → n ≡ length bs → n ≤ length buffer → later ≡ sets buffer 0 bs → Leaves (outcome_in f.answer) f.tape reply buffer later
  puts next {n} bs q e l room w =
      leaves (record { tape = next; result = written bs }) q (ap (λ (g : Reply). outcome_in g.answer) e ∙ ap accepted l) (ap (λ (g : Reply). g.tape) e) (w ∙ sets_start buffer bs (omega (arith, l)))

-- the reply to a piece that is written
pub grew : (r : Running) (t : State) (n m k : ℕ) (is : List Item) (x : Extents) → k ≡ length (characters_of is) → x ≡ with_characters r.extents (characters_of is)
    → ◌≡◌ {A = Reply} (record { tape = record { phase = Open; state = t; total = r.total + n; count = r.count + k; extents = x }; answer = Ok m }) (record { tape = grown r t n is; answer = Ok m })
grew r t n m k is x e q = λ i. record { tape = record { phase = Open; state = t; total = r.total + n; count = r.count + e i; extents = q i }; answer = Ok m }
