-- One turn of each pass over a checked galley: what was found, or written, of the items behind, with one more.
-- Assumes nothing.
use mathlib.Core.Path.{◌≡◌, refl, sym, ap, subst, ◌∙◌}
use mathlib.Core.Bool.{true}
use mathlib.Core.List.{List, [], ◌∷◌, ◌++◌, foldl-append}
use Rattle.std.proofs.Common.{append_assoc}
use Prim.Native.Nat.{ℕ, ◌+◌, ◌≤◌, ◌<◌}
use native.Mathlib.Omega.{arith}
use lib.ListN.{length, length-append}
use Rattle.octets.specs.Octets.{bytes, signed_bytes}
use Rattle.octets.specs.Write.{Wrote, wrote_none, then, named, length_wrote}
use Rattle.octets.specs.Transducer.{transduced}
use Rattle.octets.proofs.TransducerLaws.{transduced_more, transduced_part}
use Rattle.galley_file.specs.declared.item.Item.{Item}
use Rattle.galley_file.specs.declared.item.Item.TheVariants.{Placed, Cut}
use Rattle.measure.specs.Place.{low_end}
use Rattle.galley_file.specs.Item.{valid_item, characters_of}
use Rattle.galley_file.specs.Galley.{max_items, AllValid}
use Rattle.extents.specs.declared.Extents.{Extents}
use Rattle.extents.specs.Extents.{no_extents, with_characters, extents_of, with_one_item}
use Rattle.extents.proofs.ExtentsLaws.{with_item}
use Rattle.dvi.specs.Writer.{start_position, bop_bytes, Writing, first_writing, item_bytes, writing_after, items_bytes, writing_after_all}
use Rattle.dvi.proofs.WriterLaws.{items_bytes_most, writing_small}
use Rattle.dvi.specs.Writer as P
use Rattle.dvi_characters.specs.declared.position.Position.{Position}
use Rattle.dvi_writer.specs.declared.writing.Writing.{Writing as CodeWriting}
use Rattle.dvi_writer.specs.declared.plan.Plan.{Plan}
use Rattle.dvi_characters.specs.Position.{position_of, OnPage, PositionIs, position_after}
use Rattle.dvi_writer.specs.Writing.{writing_of, WritingIs}
use Rattle.dvi_writer.specs.Plan.{item_length, PlanIs}
use Rattle.dvi_writer.proofs.Galleys.{low_next}

pub plan_none : (p : Plan) → p.length ≡ 0 → p.extents ≡ no_extents → PlanIs p []
unfolding transduced characters_of extents_of with_characters
plan_none p l e = record { length_is = l; extents_are = e }

pub length_cut : (p : Writing) → length (item_bytes p Cut) ≡ 10
unfolding item_bytes bop_bytes signed_bytes bytes
length_cut p = refl

-- ---- the plan of one item more

pub length_item : (p : Writing) (i : Item) → item_length p.position i ≡ length (item_bytes p i)
unfolding item_bytes
length_item p (Placed c) = refl
length_item p Cut = sym (length_cut p)

plan_more : (is : List Item) (p r : Plan) → PlanIs p is → (last : Position) (i : Item) → (writing_after_all first_writing is).position ≡ position_of last
    → (r.length ≡ p.length + item_length (position_of last) i) × (r.extents ≡ with_one_item p.extents i) → PlanIs r (is ++ (i ∷ []))
unfolding extents_of
plan_more is p r a last i q x =
    let n = ap (λ (k : P.Position). item_length k i) (sym q) ∙ length_item (writing_after_all first_writing is) i in
    let m = ap length (transduced_more item_bytes writing_after first_writing is i) in
    record {
      length_is = omega (arith, x.0, n, a.length_is, m, length-append (items_bytes first_writing is) (item_bytes (writing_after_all first_writing is) i));
      extents_are = x.1 ∙ ap (λ (e : Extents). with_one_item e i) a.extents_are ∙ sym (with_item no_extents is i);
    }

-- ---- the writing

pub past_item_lem : (p : Writing) (i : Item) → (writing_after p i).position ≡ position_after i
unfolding writing_after
past_item_lem p (Placed c) = refl
past_item_lem p Cut = refl

-- the same of an item that is another
pub wrote_kind : (o : List ℕ) (p : CodeWriting) (o' : List ℕ) (r : CodeWriting) {i j : Item} → i ≡ j
    → (Wrote o p.at (item_bytes (writing_of p) i) o' r.at) × WritingIs r (writing_after (writing_of p) i)
    → (Wrote o p.at (item_bytes (writing_of p) j) o' r.at) × WritingIs r (writing_after (writing_of p) j)
wrote_kind o p o' r e w = subst (λ (k : Item). (Wrote o p.at (item_bytes (writing_of p) k) o' r.at) × WritingIs r (writing_after (writing_of p) k)) e w

-- ---- the first pass

-- after some items: their plan, and the position after them
pub record Measured (done : List Item) (p : Plan) (last : Position) : Type 0 where
  pub plan : PlanIs p done
  pub position : PositionIs last (writing_after_all first_writing done).position

pub measured_start : (p : Plan) (q : Position) → PlanIs p [] → PositionIs q start_position → Measured [] p q
unfolding first_writing
measured_start p q x n = record { plan = x; position = n }

module _ (done : List Item) (p : Plan) (last : Position) (m : Measured done p last) (i : Item) where
  pub measured_short : (is rest : List Item) → is ≡ done ++ (i ∷ rest) → length is ≤ max_items → p.length ≤ 17825792
  measured_short is rest e f =
      omega (arith, f, m.plan.length_is, items_bytes_most first_writing done, ap length e, length-append done (i ∷ rest))

  pub measured_next : (r : Plan) (next : Position)
      → (r.length ≡ p.length + item_length (position_of last) i) × (r.extents ≡ with_one_item p.extents i) → PositionIs next (position_after i)
      → Measured (done ++ (i ∷ [])) r next
  measured_next r next x n =
      record {
        plan = plan_more done p r m.plan last i (sym m.position.position_is) x;
        position = record {
          on_page = n.on_page;
          position_is = n.position_is ∙ sym (past_item_lem (writing_after_all first_writing done) i) ∙ ap (λ (p : Writing). p.position) (sym (foldl-append writing_after first_writing done (i ∷ [])));
        };
      }

-- ---- the second pass

-- some items are written, and the writing is that after them
pub record Printed (done : List Item) (first out : List ℕ) (p : CodeWriting) : Type 0 where
  pub wrote : Wrote first 9 (items_bytes first_writing done) out p.at
  pub writing : WritingIs p (writing_after_all first_writing done)

pub printed_start : (first : List ℕ) (p : CodeWriting) → WritingIs p first_writing → Printed [] first first p
unfolding transduced writing_of first_writing
printed_start first p n =
    let e : p.at ≡ 9 = ap (λ (q : Writing). q.at) n.writing_is in
    record { wrote = rw e (wrote_none first 9); writing = n }

module _ (done : List Item) (first out : List ℕ) (p : CodeWriting) (m : Printed done first out p) (i : Item) where
  -- what writing one item more asks
  pub printed_asks : (is rest : List Item) → is ≡ done ++ (i ∷ rest) → AllValid low_end is → length is ≤ max_items → 9 + length (items_bytes first_writing is) ≤ length first
      → ((p.at + length (item_bytes (writing_of p) i) ≤ length out) × ((p.at < 2147483648) × (p.bop < 2147483648))) × ((p.page < 4294967295) × (OnPage (position_of p.position) × (valid_item low_end i ≡ true)))
  unfolding writing_of
  printed_asks is rest e v f room =
      let whole : is ≡ (done ++ (i ∷ [])) ++ rest = e ∙ sym (append_assoc done (i ∷ []) rest) in
      let more = transduced_part item_bytes writing_after first_writing (done ++ (i ∷ [])) rest in
      let one = ap length (transduced_more item_bytes writing_after first_writing done i) in
      let same : length (item_bytes (writing_of p) i) ≡ length (item_bytes (writing_after_all first_writing done) i) = ap (λ (x : Writing). length (item_bytes x i)) m.writing.writing_is in
      let small = writing_small done 1 (omega (arith, f, ap length e, length-append done (i ∷ rest))) in
      let place : p.at ≡ (writing_after_all first_writing done).at = ap (λ (x : Writing). x.at) m.writing.writing_is in
      let bop : p.bop ≡ (writing_after_all first_writing done).bop = ap (λ (x : Writing). x.bop) m.writing.writing_is in
      let page : p.page ≡ (writing_after_all first_writing done).page = ap (λ (x : Writing). x.page) m.writing.writing_is in (
        (
          omega (
            arith,
            room,
            length_wrote m.wrote,
            m.wrote.next_is,
            same,
            one,
            more,
            ap (λ (l : List Item). length (items_bytes first_writing l)) whole,
            length-append (items_bytes first_writing done) (item_bytes (writing_after_all first_writing done) i),
          ),
          (omega (arith, place, small.at_small), omega (arith, bop, place, small.bop_before, small.at_small)),
        ),
        (omega (arith, page, small.page_small), (m.writing.on_page, low_next is done i rest v e)),
      )

  pub printed_next : (later : List ℕ) (r : CodeWriting)
      → Wrote out p.at (item_bytes (writing_of p) i) later r.at → WritingIs r (writing_after (writing_of p) i) → Printed (done ++ (i ∷ [])) first later r
  printed_next later r w n =
      record {
        wrote = named (ap (λ (x : Writing). items_bytes first_writing done ++ item_bytes x i) m.writing.writing_is ∙ sym (transduced_more item_bytes writing_after first_writing done i)) (then m.wrote w);
        writing = record {
          on_page = n.on_page;
          writing_is = n.writing_is ∙ ap (λ (x : Writing). writing_after x i) m.writing.writing_is ∙ sym (foldl-append writing_after first_writing done (i ∷ []));
        };
      }
