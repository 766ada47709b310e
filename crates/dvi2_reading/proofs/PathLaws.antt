-- The writer's file is a way from the start to the end.
--     file_path     from the start through the file of some items, all is read
-- Assumes nothing.
use Rattle.std.specs.Prelude.{◌≡◌, refl, true, ℕ, ◌<◌, ℤ, length}
use Rattle.std.proofs.Common.{sym, ap, subst, ◌∙◌, arith, lt-ltb, length-append}
use mathlib.Core.List.{List, [], ◌∷◌, ◌++◌, append_assoc, append-nil, foldl-append, flatten}
use Rattle.std.proofs.Math.Option.{some}
use Rattle.measure.specs.Place.{height_end}
use Rattle.octets.specs.Transducer.{transduced}
use Rattle.galley_file.specs.declared.item.Item.{Item}
use Rattle.galley_file.specs.declared.item.Item.TheVariants.{Placed, Cut}
use Rattle.galley_file.specs.Item.{valid_item}
use Rattle.galley_file.specs.Galley.{max_items, AllValid, more}
use Rattle.extents.specs.FontMarks.{uses}
use Rattle.dvi.specs.Writer.{Position, start_position}
use Rattle.dvi2.specs.Command.{EOP}
use Rattle.dvi2.specs.Writer.{position_at, commands_of, preamble_bytes, bop_bytes, Writing, first_writing, item_bytes, writing_after, items_bytes, pages_bytes, dvi2_file}
use Rattle.dvi2_reading.specs.Beginning.{Writable}
use Rattle.dvi2_reading.specs.PageReading.{same, ending, in_bytes, ready, may_come}
use Rattle.dvi2_reading.specs.Reading.{start, opened, in_page, between, closing, page_state_after, new_page_state, first_bop, further_bop, post_of, closing_of, next}
use Rattle.dvi2_reading.proofs.BytesLaws.{same_self}
use Rattle.dvi2_reading.specs.SizeLaws.{preamble_command, eop_command}
use Rattle.dvi2_reading.proofs.CommandLaws.{page_next_lem, is_only}
use Rattle.dvi2_reading.specs.Reached.{writing_of, PageReached, Commands, no_more, one_more}
use Rattle.dvi2_reading.proofs.PieceLaws.{behind_is, file_pages, between_mag}
use Rattle.dvi2_reading.proofs.StateLaws.{close_flatten, closing_commands, first_command, further_command, of_post, first_page}
use Rattle.dvi2_reading.proofs.Path.{Path, stop, step, path_append, path_one, path_reached}
use Rattle.dvi2_reading.proofs.CharacterPath.{character_path}

-- ---- the file

all_after : {top : ℤ} (is js : List Item) → AllValid top (is ++ js) → AllValid top js
all_after [] js v = v
all_after (i ∷ is) js (more u v) = all_after is js v

first_valid : {top : ℤ} (j : Item) (js : List Item) → AllValid top (j ∷ js) → valid_item top j ≡ true
first_valid j js (more u v) = u

record ItemPath (is : List Item) (position : Position) (j : Item) : Type 0 where
  pub to_position : Position
  pub path :
      Path (in_page (record { items = is; stage = ready; position = position })) (item_bytes (writing_of is) j)
      (in_page (record { items = is ++ (j ∷ []); stage = ready; position = to_position }))

pub page_path : (is : List Item) → length is < max_items → next (between is) (further_bop (writing_of is)) ≡ some (in_page (new_page_state (is ++ (Cut ∷ []))))
unfolding next further_bop post_of Rattle.dvi2.specs.Writer.post_bytes bop_bytes same
page_path is l = rw (lt-ltb (length is) max_items l) (is_only (further_bop (writing_of is)) (in_page (new_page_state (is ++ (Cut ∷ [])))))

item_path : (is : List Item) (position : Position) (bs : List ℕ) → PageReached (record { items = is; stage = ready; position = position }) bs → (j : Item) → valid_item height_end j ≡ true
    → length is < max_items → ItemPath is position j
unfolding item_bytes new_page_state may_come page_state_after in_bytes further_bop
item_path is position bs k (Placed c) v l =
    record {
      to_position = position_at c;
      path =
          subst
          (λ (w : List ℕ).
          Path (in_page (record { items = is; stage = ready; position = position })) w (in_page (record { items = is ++ (Placed c ∷ []); stage = ready; position = position_at c })))
          (λ i. commands_of (uses c.font (sym (behind_is is) i)) (k.staged.position_is i) c)
          (character_path is l position c (between_mag position.x k.x_between) k.y_down v);
    }
item_path is position bs k Cut v l =
    record {
      to_position = start_position;
      path =
          step {c = EOP ∷ []} (page_next_lem (record { items = is; stage = ready; position = position }) ending tt refl) eop_command
          (path_one (page_path is l) (further_command (writing_of is)));
    }

record ItemsPath (is : List Item) (position : Position) (js : List Item) : Type 0 where
  pub to_position : Position
  pub path :
      Path (in_page (record { items = is; stage = ready; position = position })) (items_bytes (writing_of is) js)
      (in_page (record { items = is ++ js; stage = ready; position = to_position }))

items_path : (js is : List Item) (position : Position) (bs : List ℕ) → PageReached (record { items = is; stage = ready; position = position }) bs → Writable (is ++ js) → ItemsPath is position js
unfolding transduced
items_path [] is position bs k w =
    record {
      to_position = position;
      path =
          subst (λ (l : List Item). Path (in_page (record { items = is; stage = ready; position = position })) [] (in_page (record { items = l; stage = ready; position = position })))
          (sym (append-nil is)) stop;
    }
items_path (j ∷ js) is position bs k w =
    let n = length-append is (j ∷ js) in
    let f = w.few in
    let one = item_path is position bs k j (first_valid j js (all_after is (j ∷ js) w.all_valid)) (omega arith) in
    let a : (is ++ (j ∷ [])) ++ js ≡ is ++ (j ∷ js) = append_assoc is (j ∷ []) js in
    let rest =
    items_path js (is ++ (j ∷ [])) one.to_position (bs ++ item_bytes (writing_of is) j) (path_reached one.path bs k)
    (subst Writable (sym a) w) in
    record {
      to_position = rest.to_position;
      path =
          path_append one.path
          (subst
          (λ (p : Writing).
          Path (in_page (record { items = is ++ (j ∷ []); stage = ready; position = one.to_position })) (items_bytes p js)
          (in_page (record { items = is ++ (j ∷ js); stage = ready; position = rest.to_position })))
          (foldl-append writing_after first_writing is (j ∷ []))
          (subst
          (λ (l : List Item).
          Path (in_page (record { items = is ++ (j ∷ []); stage = ready; position = one.to_position })) (items_bytes (writing_of (is ++ (j ∷ []))) js)
          (in_page (record { items = l; stage = ready; position = rest.to_position })))
          a rest.path));
    }

closing_path : (is : List Item) (es : List (List ℕ)) → Commands es → Path (closing is es) (flatten es) (closing is [])
unfolding flatten next
closing_path is [] no_more = stop
closing_path is (e ∷ es) (one_more c cs) = step (is_only e (closing is es)) c (closing_path is es cs)

pub post_path : (is : List Item) → next (between is) (post_of is) ≡ some (closing is (closing_of is))
unfolding next
post_path is = rw (same_self (post_of is))

pub start_path : next start preamble_bytes ≡ some opened
unfolding next
start_path = is_only preamble_bytes opened

pub opened_path : next opened first_bop ≡ some (in_page (new_page_state []))
unfolding next
opened_path = is_only first_bop (in_page (new_page_state []))

end_path : (is : List Item) (position : Position) → next (in_page (record { items = is; stage = ready; position = position })) (EOP ∷ []) ≡ some (between is)
unfolding may_come page_state_after in_bytes
end_path is position = page_next_lem (record { items = is; stage = ready; position = position }) ending tt refl

pub file_path : (is : List Item) → Writable is → Path start (dvi2_file is) (closing is [])
unfolding new_page_state first_bop pages_bytes
file_path is w =
    let k = items_path is [] start_position (preamble_bytes ++ first_bop) first_page w in
    let tail : Path (between is) (post_of is ++ flatten (closing_of is)) (closing is []) =
    step (post_path is) (of_post is) (closing_path is (closing_of is) (closing_commands is)) in
    let pages : Path start (pages_bytes is) (between is) =
    step start_path preamble_command (step opened_path first_command (path_append k.path (path_one (end_path is k.to_position) eop_command))) in
    subst (λ (l : List ℕ). Path start l (closing is [])) (sym (file_pages is ∙ ap (λ (l : List ℕ). pages_bytes is ++ l) (close_flatten is))) (path_append pages tail)
