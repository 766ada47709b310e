-- A tape cut at will: after an accepted start, and with room for each piece and the close, the pieces give what the whole tape at once gives.
--     in_pieces         number and place of the close are those of the whole tape, and an accepted tape's joined output is its galley
--     again             the same with refusals for room in between
--     earlier_out       the fields of the pieces before a fault are out
--     past_limit        1 at place 0 as soon as the total passes the limit, and past_limit_kept from then on
--     extents_whole     the extents after some pieces
-- Assumes nothing.
use Rattle.std.specs.Prelude.{◌≡◌, refl, Bool, true, false, ℕ, ◌≤◌, ◌<◌}
use Rattle.std.proofs.Math.Path.{sym, ap, subst}
use Rattle.std.proofs.Common.{◌∙◌, suc-ne-zero, arith}
use mathlib.Core.List.{List, [], ◌∷◌, ◌++◌, append_assoc, append-nil}
use Rattle.std.proofs.Math.ListN.{length, length-append}
use Rattle.std.specs.Prelude.{Ok, Err}
use Rattle.octets.specs.Answer.{Result, refusal, written, outcome, number_of, place_of, tape_too_long}
use Rattle.octets.specs.Field.{end_field}
use Rattle.octets.specs.Pass.{bytes_of}
use Rattle.octets.specs.Transducer.{transduced}
use Rattle.octets.proofs.TransducerLaws.{transduced_append}
use Rattle.galley_file.specs.declared.form.Form.TheVariants.{New}
use Rattle.galley_file.specs.Item.{characters_of}
use Rattle.galley_file.specs.Galley.{fields, galley}
use Rattle.galley_file.specs.GalleyLaws.{length_galley}
use Rattle.extents.specs.Extents.{extents_of}
use Rattle.typesetter.specs.declared.code.Machine.{Machine}
use Rattle.typesetter.specs.declared.machine.State.{State}
use Rattle.typesetter.specs.Machine.{start}
use Rattle.typesetter.specs.Code.{machine_of}
use Rattle.tape.specs.Tape.{Ending, max_tape, run, read_result, tape_result}
use Rattle.tape.specs.ResultLaws.{on_machine_lem, read_fault, read_cut, read_open, read_whole}
use Rattle.tape.specs.TapeLaws.{items_on}
use Rattle.running.specs.declared.Running.{Running}
use Rattle.running.specs.Running.{Replied, fresh, start_on, start_of, feed_of, close_open, close_of}
use Rattle.running.specs.RunningLaws.{close_phase, close_cut, close_unstopped, close_whole}
use Rattle.running_laws.specs.Calls.{Call, starting, closing, tape_given, tape_after, bytes_given, output, without_room, Piece, whole_tape, pieces, calls_for, RoomForEach, none, more}
use Rattle.running_laws.specs.CallsLaws.{a_piece, AllLater, Repeated, repeats, without_room_lem}
use Rattle.running_laws.specs.FedLaws.{never, going_at, Stands, going, broken, going_sound, limit, fed, fault_stays, fresh_stands, stands_open}

module _ (kind : Machine) where
  abbrev ends : List ℕ → Ending
  ends xs = (run (start kind) 0 xs).ending

  -- ---- what many do

  pub record FedAll (r : Running) (xs : List ℕ) (ps : List Piece) : Type 0 where
    pub stands : Stands kind (tape_after r (pieces ps)) (xs ++ whole_tape ps)
    pub out : {u : State} → (run (start kind) 0 (xs ++ whole_tape ps)).ending ≡ Ok u
        → fields New (items_on kind xs) ++ output r (pieces ps) ≡ fields New (items_on kind (xs ++ whole_tape ps))

  -- a run that reaches a state over xs and ys reaches one over xs
  through : (xs ys : List ℕ) {u : State} → ends (xs ++ ys) ≡ Ok u → (t : State) × (ends xs ≡ Ok t)
  through xs ys {u} h = go (ends xs) refl
    where
      go : (x : Ending) → ends xs ≡ x → (t : State) × (ends xs ≡ Ok t)
      go (Ok t) q = (t, q)
      go (Err f) q = never (sym (fault_stays kind xs ys q) ∙ h)

  pub fed_all : {r : Running} {xs : List ℕ} → Stands kind r xs → (ps : List Piece) → length (xs ++ whole_tape ps) ≤ max_tape → RoomForEach kind xs ps
      → FedAll r xs ps
  unfolding whole_tape pieces transduced
  fed_all {r} {xs} s [] fits none =
      let q = append-nil xs in
      record { stands = subst (Stands kind r) (sym q) s; out = λ u. append-nil (fields New (items_on kind xs)) ∙ ap (λ (l : List ℕ). fields New (items_on kind l)) (sym q) }
  fed_all {r} {xs} s (p ∷ ps) fits (more roomy rest) =
      let q : (xs ++ p.codes) ++ whole_tape ps ≡ xs ++ (p.codes ++ whole_tape ps) = append_assoc xs p.codes (whole_tape ps) in
      let all : length ((xs ++ p.codes) ++ whole_tape ps) ≤ max_tape = omega (arith, ap length q, fits) in
      let first : length (xs ++ p.codes) ≤ max_tape = omega (arith, length-append (xs ++ p.codes) (whole_tape ps), all) in
      let f = fed kind s p.codes p.room first roomy in
      let next = feed_of r p.codes p.room in
      let k = fed_all {r = next.tape} {xs = xs ++ p.codes} f.stands ps all rest in
      record {
        stands = subst (Stands kind (tape_after next.tape (pieces ps))) q k.stands;
        out = λ {u} h.
            let h' : ends ((xs ++ p.codes) ++ whole_tape ps) ≡ Ok u = ap ends q ∙ h in
            sym (append_assoc (fields New (items_on kind xs)) (bytes_of next.result) (output next.tape (pieces ps)))
            ∙ ap (λ (l : List ℕ). l ++ output next.tape (pieces ps)) (f.out (through (xs ++ p.codes) (whole_tape ps) h').1)
            ∙ k.out h'
            ∙ ap (λ (l : List ℕ). fields New (items_on kind l)) q;
      }

  -- x of the close, and y of the whole tape
  pub record Final (xs : List ℕ) (x y : Result) : Type 0 where
    pub number_is : number_of (outcome x) ≡ number_of (outcome y)
    pub place_is : place_of (outcome x) ≡ place_of (outcome y)
    pub galley_is : (g : List ℕ) → y ≡ written g → (fields New (items_on kind xs) ++ bytes_of x ≡ g) × ((t : State) × ((run (start kind) 0 xs).ending ≡ Ok t))

  refused_both : (xs : List ℕ) {x y : Result} {n place : ℕ} → x ≡ refusal n place → y ≡ refusal n place → Final xs x y
  refused_both xs {y = y} {n = n} {place = place} p q =
      let f : Final xs (refusal n place) (refusal n place) = record { number_is = refl; place_is = refl; galley_is = λ g e. absurd (suc-ne-zero 0 cc) } in
      subst (λ (x : Result). Final xs x y) (sym p) (subst (Final xs (refusal n place)) (sym q) f)

  written_both : (xs : List ℕ) {x y : Result} {t : State} → ends xs ≡ Ok t → x ≡ written (end_field (length (characters_of (items_on kind xs))))
      → y ≡ written (galley New (items_on kind xs)) → Final xs x y
  unfolding galley
  written_both xs {y = y} {t = t} e p q =
      let end = end_field (length (characters_of (items_on kind xs))) in
      let f : Final xs (written end) (written (fields New (items_on kind xs) ++ end)) =
      record { number_is = refl; place_is = refl; galley_is = λ g h. let w : fields New (items_on kind xs) ++ end ≡ g = cc in (w, (t, e)) } in
      subst (λ (x : Result). Final xs x y) (sym p) (subst (Final xs (written end)) (sym q) f)

  pub final : {r : Running} {xs : List ℕ} → Stands kind r xs → length xs ≤ max_tape → (machine : ℕ) → machine_of machine ≡ Ok kind → (room whole : ℕ)
      → 7 ≤ room → length (galley New (items_on kind xs)) ≤ whole
      → Final xs (close_of r room).result (tape_result xs machine whole)
  final (broken {r} {xs} {q} e h) short machine named room whole roomy enough =
      refused_both xs (ap (λ (x : Replied). x.result) (close_phase r room e)) (on_machine_lem xs machine whole short named refl ∙ read_fault (start kind) xs whole h)
  final (going {xs} {t} e short) _ machine named room whole roomy enough = go t.cut refl t.stopped refl
    where
      gives : {x : Replied} → close_open (going_at kind xs t) room ≡ x → (close_of (going_at kind xs t) room).result ≡ x.result
      gives q = ap (λ (x : Replied). x.result) (close_phase (going_at kind xs t) room refl ∙ q)

      at_once : {x : Result} → read_result (start kind) xs whole ≡ x → tape_result xs machine whole ≡ x
      at_once q = on_machine_lem xs machine whole short named refl ∙ q

      go : (k : Bool) → t.cut ≡ k → (u : Bool) → t.stopped ≡ u → Final xs (close_of (going_at kind xs t) room).result (tape_result xs machine whole)
      go true d u s = refused_both xs (gives (close_cut (going_at kind xs t) room (going_sound kind xs t e short) d)) (at_once (read_cut (start kind) xs whole t e d))
      go false d false s =
          refused_both xs (gives (close_unstopped (going_at kind xs t) room (going_sound kind xs t e short) d s)) (at_once (read_open (start kind) xs whole t e d s))
      go false d true s =
          written_both xs e (gives (close_whole (going_at kind xs t) room (going_sound kind xs t e short) d s roomy))
          (at_once (read_whole (start kind) xs whole t e d s (length (fields New (items_on kind xs))) refl (omega (arith, length_galley New (items_on kind xs), enough))))

-- a start on a machine of this number of fonts, and pieces within the limit, with room for each
module _ (r : Running) (machine : ℕ) (kind : Machine) (named : machine_of machine ≡ Ok kind) (ps : List Piece) (short : length (whole_tape ps) ≤ max_tape) (roomy : RoomForEach kind [] ps) where
  abbrev fed_tape : Running
  fed_tape = tape_after r (starting machine ∷ pieces ps)

  begun : start_of r machine ≡ record { tape = fresh kind; result = written [] }
  unfolding start_of
  begun = ap (start_on r) named

  all_fed : FedAll kind (fresh kind) [] ps
  all_fed = fed_all kind (fresh_stands kind) ps short roomy

  pub after_pieces : Stands kind fed_tape (whole_tape ps)
  after_pieces = subst (λ (x : Replied). Stands kind (tape_after x.tape (pieces ps)) (whole_tape ps)) (sym begun) all_fed.stands

  -- "On a fault, earlier pieces' fields are out"
  pub earlier_out : {t : State} → (run (start kind) 0 (whole_tape ps)).ending ≡ Ok t
      → output r (starting machine ∷ pieces ps) ≡ fields New (items_on kind (whole_tape ps))
  unfolding transduced run fields
  earlier_out h = ap (λ (x : Replied). bytes_of x.result ++ output x.tape (pieces ps)) begun ∙ all_fed.out h

  -- "1 at place 0 as soon as the total passes the limit"
  pub past_limit : {t : State} → (run (start kind) 0 (whole_tape ps)).ending ≡ Ok t → (p : List ℕ) (room : ℕ)
      → max_tape < length (whole_tape ps ++ p) → (feed_of fed_tape p room).result ≡ refusal tape_too_long 0
  past_limit {t} h p room long =
      ap (λ (q : Running). (feed_of q p room).result) (stands_open kind after_pieces h) ∙ ap (λ (x : Replied). x.result) (limit kind (whole_tape ps) t h short p room long)

  -- and from then on, until a start
  pub past_limit_kept : {t : State} → (run (start kind) 0 (whole_tape ps)).ending ≡ Ok t → (p : List ℕ) (room : ℕ) → max_tape < length (whole_tape ps ++ p)
      → {cs : List Call} → AllLater cs → Repeated (feed_of fed_tape p room).tape cs tape_too_long 0
  past_limit_kept h p room long ls = repeats fed_tape (a_piece {bs = p} {room = room}) (past_limit h p room long) (λ e. omega (arith, e)) ls

  -- the extents are those of the whole tape's characters so far
  pub extents_whole : {t : State} → (run (start kind) 0 (whole_tape ps)).ending ≡ Ok t
      → fed_tape.extents ≡ extents_of (characters_of (items_on kind (whole_tape ps)))
  extents_whole h = ap (λ (q : Running). q.extents) (stands_open kind after_pieces h)

  pub record InPieces (room whole : ℕ) : Type 0 where
    pub number_is : number_of (outcome (close_of (tape_after r (starting machine ∷ pieces ps)) room).result) ≡ number_of (outcome (tape_result (whole_tape ps) machine whole))
    pub place_is : place_of (outcome (close_of (tape_after r (starting machine ∷ pieces ps)) room).result) ≡ place_of (outcome (tape_result (whole_tape ps) machine whole))
    pub galley_is : (g : List ℕ) → tape_result (whole_tape ps) machine whole ≡ written g → output r (calls_for machine ps room) ≡ g

  whole_output : (room : ℕ) {y : Result} → Final kind (whole_tape ps) (close_of fed_tape room).result y → (g : List ℕ) → y ≡ written g
      → output r (calls_for machine ps room) ≡ g
  unfolding calls_for transduced
  whole_output room f g e =
      let k = f.galley_is g e in
      transduced_append bytes_given tape_given r (starting machine ∷ pieces ps) (closing room ∷ [])
      ∙ (λ i. earlier_out k.1.1 i ++ append-nil (bytes_of (close_of fed_tape room).result) i)
      ∙ k.0

  -- the whole tape is read with room for its galley
  pub in_pieces : (room whole : ℕ) → 7 ≤ room → length (galley New (items_on kind (whole_tape ps))) ≤ whole → InPieces room whole
  in_pieces room whole close-room enough =
      let f = final kind after_pieces short machine named room whole close-room enough in
      record { number_is = f.number_is; place_is = f.place_is; galley_is = whole_output room f }

  -- the same where calls are refused for room and offered again
  pub again : (cs : List Call) (room whole : ℕ) → 7 ≤ room → length (galley New (items_on kind (whole_tape ps))) ≤ whole
      → without_room r cs ≡ calls_for machine ps room
      → (g : List ℕ) → tape_result (whole_tape ps) machine whole ≡ written g → output r cs ≡ g
  again cs room whole close-room enough q g e = sym (without_room_lem r cs).output_is ∙ ap (output r) q ∙ (in_pieces room whole close-room enough).galley_is g e
