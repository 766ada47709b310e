-- From state to state: each command that leads on keeps `Reached`, and a file begins with what stands behind any state that is reached.
--     next_command     a command that leads on is one command
--     next_reached     and what stands behind the state after it
--     live             a file of the writer's begins so
-- Assumes nothing.
use Rattle.std.specs.Prelude.{◌≡◌, refl, Bool, true, false, cond, ℕ, zero, suc, ◌<◌, pos, negsuc, length}
use Rattle.std.proofs.Common.{sym, ap, subst, ◌∙◌, suc-ne-zero, arith, ltb-true}
use mathlib.Core.List.{List, [], ◌∷◌, ◌++◌, map, append_assoc, append-nil, foldl-append, flatten}
use Rattle.std.proofs.Math.Option.{none, some}
use Rattle.integers.specs.Parts.{integers}
use Rattle.octets.specs.Octets.{bytes}
use Rattle.octets.specs.Transducer.{transduced}
use Rattle.galley_file.specs.declared.item.Item.{Item}
use Rattle.galley_file.specs.declared.item.Item.TheVariants.{Cut}
use Rattle.galley_file.specs.Item.{characters_of}
use Rattle.galley_file.specs.Galley.{max_items, nil}
use Rattle.extents.specs.FontMarks.{used_fonts}
use Rattle.dvi.specs.Writer.{start_position}
use Rattle.dvi.specs.WritingLaws.{flatten_append}
use Rattle.dvi2.specs.Command.{EOP, POSTPOST}
use Rattle.dvi2.specs.Writer.{definition, preamble_bytes, Writing, first_writing, item_bytes, writing_after, pages_bytes, definition_bytes, post_bytes, postamble_bytes, command_bytes, fillers, bytes223, dvi2_file}
use Rattle.dvi2_reading.specs.Beginning.{Writable, Begins}
use Rattle.dvi2_reading.specs.PageReading.{same, in_bytes, is_downward, is_more}
use Rattle.dvi2_reading.specs.Reading.{State, start, opened, in_page, between, closing, page_state_after, new_page_state, first_bop, further_bop, post_of, fill, closing_of, only, next}
use Rattle.dvi2_reading.proofs.BytesLaws.{same_is}
use Rattle.dvi2_reading.specs.SizeLaws.{Command, preamble_command, bop_command, post_command, postpost_command, fill_command, definition_command}
use Rattle.dvi2_reading.proofs.CommandLaws.{in_bytes_command, next_page_lem, only_is}
use Rattle.dvi2_reading.specs.Reached.{writing_of, open_bytes, PageReached, Between, Commands, no_more, one_more, Closing, Reached}
use Rattle.dvi2_reading.proofs.PieceLaws.{writable_more, open_more, pages_open, close_bytes, file_pages, file_open}
use Rattle.dvi2_reading.proofs.PageLaws.{page_reached}
use Rattle.dvi2_reading.proofs.LiveLaws.{page_live}

-- ---- the postamble

flatten_fill : (n : ℕ) → flatten (fill n) ≡ bytes223 n
unfolding flatten fill bytes223
flatten_fill zero = refl
flatten_fill (suc n) = ap (λ (l : List ℕ). 223 ∷ l) (flatten_fill n)

pub close_flatten : (is : List Item) → close_bytes is ≡ post_of is ++ flatten (closing_of is)
unfolding close_bytes postamble_bytes post_of closing_of flatten
close_flatten is =
    let A = post_bytes (writing_of is).bop (writing_of is).page (characters_of is) in
    let D = definition_bytes (used_fonts 120 (characters_of is)) in
    let Q = POSTPOST ∷ bytes 4 (length (pages_bytes is)) ++ (2 ∷ []) in
    let N = fillers (length (command_bytes is)) in
    append_assoc A (D ++ Q) (bytes223 N)
    ∙ ap (λ (l : List ℕ). A ++ l)
    (append_assoc D Q (bytes223 N)
    ∙ ap (λ (l : List ℕ). D ++ (Q ++ l)) (sym (flatten_fill N))
    ∙ sym (flatten_append (map definition (used_fonts 120 (characters_of is))) (Q ∷ fill N)))

commands_append : {es fs : List (List ℕ)} → Commands es → Commands fs → Commands (es ++ fs)
commands_append no_more d = d
commands_append (one_more c cs) d = one_more c (commands_append cs d)

definitions_commands : (fs : List ℕ) → Commands (map definition fs)
definitions_commands [] = no_more
definitions_commands (f ∷ fs) = one_more (definition_command f) (definitions_commands fs)

fill_commands : (n : ℕ) → Commands (fill n)
unfolding fill
fill_commands zero = no_more
fill_commands (suc n) = one_more fill_command (fill_commands n)

pub closing_commands : (is : List Item) → Commands (closing_of is)
unfolding closing_of
closing_commands is =
    commands_append (definitions_commands (used_fonts 120 (characters_of is)))
    (one_more (postpost_command (length (pages_bytes is))) (fill_commands (fillers (length (command_bytes is)))))

-- ---- what leads on between pages

pub data AfterEop (is : List Item) (c : List ℕ) (r : State) : Type 0 where
  to_post : c ≡ post_of is → closing is (closing_of is) ≡ r → AfterEop is c r
  to_page : c ≡ further_bop (writing_of is) → length is < max_items → in_page (new_page_state (is ++ (Cut ∷ []))) ≡ r → AfterEop is c r

pub onward : (is : List Item) (c : List ℕ) (r : State) → next (between is) c ≡ some r → AfterEop is c r
unfolding next
onward is c r = go (same c (post_of is)) refl (is_more is) refl
  where
    nothing : {X : Type 0} → none ≡ some r → X
    nothing e = absurd (suc-ne-zero 0 cc)

    go : (t : Bool) → same c (post_of is) ≡ t → (u : Bool) → is_more is ≡ u
        → cond t (some (closing is (closing_of is))) (cond u (only c (further_bop (writing_of is)) (in_page (new_page_state (is ++ (Cut ∷ []))))) none) ≡ some r
        → AfterEop is c r
    go true p u q e = to_post (same_is c (post_of is) p) cc
    go false p true q e =
        let o = only_is c (further_bop (writing_of is)) (in_page (new_page_state (is ++ (Cut ∷ [])))) r e in
        to_page o.bytes_are (ltb-true (length is) max_items q) o.leads
    go false p false q e = nothing e

-- ---- commands

pub further_command : (p : Writing) → Command (further_bop p)
unfolding further_bop
further_command p = bop_command (suc p.page) (pos p.bop)

pub first_command : Command first_bop
unfolding first_bop
first_command = bop_command 1 (negsuc 0)

pub of_post : (is : List Item) → Command (post_of is)
unfolding post_of
of_post is = post_command (writing_of is).bop (writing_of is).page (characters_of is)

pub next_command : (q r : State) (bs c : List ℕ) → Reached q bs → next q c ≡ some r → Command c
unfolding next
next_command start r bs c k e = subst Command (sym (only_is c preamble_bytes opened r e).bytes_are) preamble_command
next_command opened r bs c k e = subst Command (sym (only_is c first_bop (in_page (new_page_state [])) r e).bytes_are) first_command
next_command (in_page h) r bs c k e = let n = next_page_lem h c r e in subst Command (sym n.bytes_are) (in_bytes_command n.which)
next_command (between is) r bs c k e = go (onward is c r e)
  where
    go : AfterEop is c r → Command c
    go (to_post b l) = subst Command (sym b) (of_post is)
    go (to_page b m l) = subst Command (sym b) (further_command (writing_of is))
next_command (closing is []) r bs c k e = absurd (suc-ne-zero 0 cc)
next_command (closing is (e₁ ∷ es)) r bs c k e = subst Command (sym (only_is c e₁ (closing is es) r e).bytes_are) (head k.commands)
  where
    head : Commands (e₁ ∷ es) → Command e₁
    head (one_more h t) = h

-- ---- what stands behind the next state

none_writable : Writable []
none_writable = record { all_valid = nil; few = omega arith }

new_page_lem : (is : List Item) (bs : List ℕ) → Writable is → bs ≡ open_bytes is → start_position ≡ (writing_of is).position → PageReached (new_page_state is) bs
unfolding new_page_state start_position is_downward
new_page_lem is bs w b p =
    record {
      writable = w;
      x_between = (omega integers, omega integers);
      y_down = refl;
      rest = [];
      bytes_are = b ∙ sym (append-nil (open_bytes is));
      staged = record { position_is = p; rest_is = refl; fonts = λ g e. absurd (suc-ne-zero 0 cc) };
    }

open_none : open_bytes [] ≡ preamble_bytes ++ first_bop
unfolding open_bytes transduced
open_none = ap (λ (l : List ℕ). preamble_bytes ++ l) (append-nil first_bop)

position_none : start_position ≡ (writing_of []).position
unfolding first_writing
position_none = refl

pub first_page : PageReached (new_page_state []) (preamble_bytes ++ first_bop)
first_page = new_page_lem [] (preamble_bytes ++ first_bop) none_writable (sym open_none) position_none

cut_bytes : (p : Writing) → (EOP ∷ []) ++ further_bop p ≡ item_bytes p Cut
unfolding further_bop item_bytes
cut_bytes p = refl

cut_position : (p : Writing) → start_position ≡ (writing_after p Cut).position
unfolding writing_after
cut_position p = refl

cut_page : (is : List Item) (bs : List ℕ) → Between is bs → length is < max_items → PageReached (new_page_state (is ++ (Cut ∷ []))) (bs ++ further_bop (writing_of is))
cut_page is bs k m =
    new_page_lem (is ++ (Cut ∷ [])) (bs ++ further_bop (writing_of is)) (writable_more is Cut k.writable refl m)
    (ap (λ (l : List ℕ). l ++ further_bop (writing_of is)) (k.bytes_are ∙ pages_open is)
    ∙ append_assoc (open_bytes is) (EOP ∷ []) (further_bop (writing_of is))
    ∙ ap (λ (l : List ℕ). open_bytes is ++ l) (cut_bytes (writing_of is))
    ∙ sym (open_more is Cut))
    (cut_position (writing_of is) ∙ sym (ap (λ (p : Writing). p.position) (foldl-append writing_after first_writing is (Cut ∷ []))))

post_closing : (is : List Item) (bs : List ℕ) → Between is bs → Closing is (closing_of is) (bs ++ post_of is)
post_closing is bs k =
    record {
      writable = k.writable;
      bytes_are =
          append_assoc bs (post_of is) (flatten (closing_of is))
          ∙ (λ i. k.bytes_are i ++ sym (close_flatten is) i)
          ∙ sym (file_pages is);
      commands = closing_commands is;
    }

next_closing : (is : List Item) (e : List ℕ) (es : List (List ℕ)) (bs : List ℕ) → Closing is (e ∷ es) bs → Closing is es (bs ++ e)
unfolding flatten
next_closing is e es bs k =
    record { writable = k.writable; bytes_are = append_assoc bs e (flatten es) ∙ k.bytes_are; commands = tail k.commands }
  where
    tail : Commands (e ∷ es) → Commands es
    tail (one_more h t) = t

module _ (bs c : List ℕ) where
  to : (q r : State) (e : List ℕ) → c ≡ e → q ≡ r → Reached q (bs ++ e) → Reached r (bs ++ c)
  to q r e b l k = subst (λ (s : State). Reached s (bs ++ c)) l (subst (λ (d : List ℕ). Reached q (bs ++ d)) (sym b) k)

  pub next_reached : (q r : State) → Reached q bs → next q c ≡ some r → Reached r (bs ++ c)
  unfolding next
  next_reached start r k e =
      let o = only_is c preamble_bytes opened r e in
      to opened r preamble_bytes o.bytes_are o.leads (ap (λ (l : List ℕ). l ++ preamble_bytes) k)
  next_reached opened r k e =
      let o = only_is c first_bop (in_page (new_page_state [])) r e in
      to (in_page (new_page_state [])) r first_bop o.bytes_are o.leads (subst (λ (l : List ℕ). PageReached (new_page_state []) (l ++ first_bop)) (sym k) first_page)
  next_reached (in_page h) r k e =
      let n = next_page_lem h c r e in
      to (page_state_after h n.which) r (in_bytes n.which) n.bytes_are n.leads (page_reached h bs k n.which n.may)
  next_reached (between is) r k e = go (onward is c r e)
    where
      go : AfterEop is c r → Reached r (bs ++ c)
      go (to_post b l) = to (closing is (closing_of is)) r (post_of is) b l (post_closing is bs k)
      go (to_page b m l) = to (in_page (new_page_state (is ++ (Cut ∷ [])))) r (further_bop (writing_of is)) b l (cut_page is bs k m)
  next_reached (closing is []) r k e = absurd (suc-ne-zero 0 cc)
  next_reached (closing is (e₁ ∷ es)) r k e =
      let o = only_is c e₁ (closing is es) r e in
      to (closing is es) r e₁ o.bytes_are o.leads (next_closing is e₁ es bs k)

-- ---- how to go on

made : (is : List Item) → Writable is → (bs w : List ℕ) → bs ++ w ≡ dvi2_file is → Begins bs
made is v bs w e = record { items = is; rest = w; made = record { writable = v; file_is = e } }

pub live : (q : State) (bs : List ℕ) → Reached q bs → Begins bs
live start bs k = made [] none_writable bs (dvi2_file []) (ap (λ (l : List ℕ). l ++ dvi2_file []) k)
live opened bs k =
    let w = (EOP ∷ []) ++ close_bytes [] in
    made [] none_writable bs (first_bop ++ w)
    (ap (λ (l : List ℕ). l ++ (first_bop ++ w)) k
    ∙ sym (append_assoc preamble_bytes first_bop w)
    ∙ ap (λ (l : List ℕ). l ++ w) (sym open_none)
    ∙ sym (file_open []))
live (in_page h) bs k = page_live h bs k
live (between is) bs k = made is k.writable bs (close_bytes is) (ap (λ (l : List ℕ). l ++ close_bytes is) k.bytes_are ∙ sym (file_pages is))
live (closing is es) bs k = made is k.writable bs (flatten es) k.bytes_are
