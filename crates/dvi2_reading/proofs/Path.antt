-- Commands that lead from one state to another, one after the other.
-- Assumes nothing.
use Rattle.std.specs.Prelude.{◌≡◌, refl, List, [], ◌++◌, ℕ, ◌<◌, length}
use Rattle.std.proofs.Common.{sym, ap, subst, ◌∙◌, append_assoc, append-nil, arith, length-append}
use Rattle.std.proofs.Math.Option.{some}
use Rattle.dvi2_reading.specs.Beginning.{command_size}
use Rattle.dvi2_reading.specs.Reading.{State, next}
use Rattle.dvi2_reading.proofs.BytesLaws.{cut_first, cut_rest}
use Rattle.dvi2_reading.specs.SizeLaws.{Command}
use Rattle.dvi2_reading.specs.Reached.{Reached}
use Rattle.dvi2_reading.proofs.StateLaws.{next_reached}

pub data Path : State → List ℕ → State → Type 0 where
  stop : {q : State} → Path q [] q
  step : {q r e : State} {c bs : List ℕ} → next q c ≡ some r → Command c → Path r bs e → Path q (c ++ bs) e

pub path_append : {q r e : State} {bs cs : List ℕ} → Path q bs r → Path r cs e → Path q (bs ++ cs) e
path_append stop p = p
path_append {q} {r} {e} {bs} {cs} (step {c = c} {bs = ds} n k p) o = subst (λ (l : List ℕ). Path q l e) (sym (append_assoc c ds cs)) (step n k (path_append p o))

pub path_one : {q r : State} {c : List ℕ} → next q c ≡ some r → Command c → Path q c r
path_one {q} {r} {c} n k = subst (λ (l : List ℕ). Path q l r) (append-nil c) (step n k stop)

pub path_reached : {q e : State} {w : List ℕ} → Path q w e → (bs : List ℕ) → Reached q bs → Reached e (bs ++ w)
path_reached {q} stop bs k = subst (Reached q) (sym (append-nil bs)) k
path_reached {q} {e} (step {r = r} {c = c} {bs = ds} n d p) bs k =
    subst (Reached e) (append_assoc bs c ds) (path_reached p (bs ++ c) (next_reached bs c q r k n))

-- the first command of a way that is not at its end
pub record First (q : State) (w : List ℕ) (e : State) : Type 0 where
  pub first : List ℕ
  pub then_rest : List ℕ
  pub after_first : State
  pub bytes_are : w ≡ first ++ then_rest
  pub leads : next q first ≡ some after_first
  pub one : Command first
  pub goes_on : Path after_first then_rest e

pub path_first : {q e : State} {w : List ℕ} → Path q w e → 0 < length w → First q w e
path_first stop l = absurd (omega arith)
path_first (step {r = r} {c = c} {bs = ds} n d p) l =
    record { first = c; then_rest = ds; after_first = r; bytes_are = refl; leads = n; one = d; goes_on = p }

pub path_none : {q e : State} {w : List ℕ} → Path q w e → w ≡ [] → q ≡ e
path_none stop z = refl
path_none (step {c = c} {bs = ds} n d p) z =
    let a = ap length z in let b = length-append c ds in let s = d.some_byte in absurd (omega arith)

-- past a command, the way goes on from the state after it
pub path_past : {q r e : State} {w : List ℕ} (c u : List ℕ) → Path q w e → w ≡ c ++ u → Command c → next q c ≡ some r → Path r u e
path_past {q} {r} {e} {w} c u p z d n =
    let l = length-append c u in
    let s = d.some_byte in
    let k = ap length z in
    let f = path_first p (omega arith) in
    let m : f.first ++ f.then_rest ≡ c ++ u = sym f.bytes_are ∙ z in
    let same_size : length f.first ≡ length c = sym (f.one.sized f.then_rest) ∙ ap command_size m ∙ d.sized u in
    let a = cut_first f.first f.then_rest c u m same_size in
    let b = cut_rest f.first f.then_rest c u m same_size in
    let g : some f.after_first ≡ some r = sym f.leads ∙ ap (next q) a ∙ n in
    subst (λ (s : State). Path s u e) (injective f.after_first r g) (subst (λ (t : List ℕ). Path f.after_first t e) b f.goes_on)
  where
    injective : (s t : State) → some s ≡ some t → s ≡ t
    injective s t g = cc
