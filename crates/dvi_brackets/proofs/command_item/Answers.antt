-- `dvi_brackets::command_item` meets its contract: the command is decoded, its effect taken, and the item made of it.
-- Assumes nothing.
use mathlib.Core.Path.{◌≡◌, refl, sym, ap, subst, ◌∙◌}
use mathlib.Core.List.{List, []}
use Prim.Native.Nat.{ℕ}
use native.Mathlib.Nat.{suc-ne-zero}
use lib.IntN.{ℤ}
use Rattle.std.specs.Prelude.{Ok, Err, Result as ResultOf}
use Rattle.octets.specs.declared.refusal.Reason.{Reason}
use Rattle.dvi.specs.Page.{Page}
use lib.ListN.{length, get_or, drop}
use Rattle.dvi.specs.Command as S
use Rattle.dvi.specs.Command.{decode}
use Rattle.dvi_command.specs.Command.{decoded_of, read_of}
use Rattle.dvi_page.specs.Page.{page_of, effect_of}
use Rattle.dvi_command.specs.declared.Decoded.{Decoded}
use Rattle.dvi_brackets.specs.Brackets.{Item, bad_item, effect_item, command_item}
use Rattle.dvi_brackets.proofs.Inner.{InnerDecoded, inner_decoded}
use Rattle.dvi_brackets.specs.Reading.{RoomyItem, ItemDone}
use Rattle.dvi_brackets.proofs.Going.{item_bad}
use Rattle.dvi_brackets.proofs.command_item.Goals as goal
use Rattle.dvi_brackets.proofs.command_item.Goals.{After-decode, After-plain_effect-e}

-- what was decoded
module _ (c : After-decode) where
  abbrev here : S.Decoded → Item
  here d = command_item c.args.widths.now c.args.at (page_of c.args.p []) d

  abbrev whole : S.Decoded
  whole = decode (get_or c.args.s.now 0 0) (drop 1 c.args.s.now)

  decoded : {k : ResultOf Decoded Reason} → c.decode.result ≡ k → read_of whole ≡ decoded_of k
  decoded e = sym c.decode.ensures ∙ ap decoded_of e

command_is : (x : S.Decoded) {d : S.Command} {n : ℕ} → read_of x ≡ Ok (d, n) → x ≡ S.command d n
command_is S.no_command e = absurd (suc-ne-zero 0 cc)
command_is S.cut_short e = absurd (suc-ne-zero 0 cc)
command_is (S.command a k) {d} {n} e = let q : ◌≡◌ {A = S.Command × ℕ} (a, k) (d, n) = cc in ap (λ (p : S.Command × ℕ). S.command p.0 p.1) q

refused_is : (ws : List ℤ) (at : ℕ) (p : Page) (x : S.Decoded) {k : ℕ} → read_of x ≡ Err k → command_item ws at p x ≡ bad_item k at
unfolding command_item
refused_is ws at p S.no_command e = cc
refused_is ws at p S.cut_short e = cc
refused_is ws at p (S.command d n) e = absurd (suc-ne-zero 0 cc)

pub plain_effect-e-requires : goal.plain_effect-e-requires
plain_effect-e-requires c =
    (subst InnerDecoded (command_is (whole (goal.at.plain_effect-e-requires c).After-decode) (decoded (goal.at.plain_effect-e-requires c).After-decode c.in-Ok.is))
    (inner_decoded (get_or c.args.s.now 0 0) (drop 1 c.args.s.now) c.requires.fact.0 c.requires.fact.1)).0

-- the step that decoded
abbrev decoding : After-plain_effect-e → After-decode
decoding c = record { before = c.before.before.before; type_inv = record { s = c.type_inv.s; out = c.type_inv.out } }

-- the item is that of the effect
as-effect : (c : After-plain_effect-e) → here (decoding c) (whole (decoding c)) ≡ effect_item c.args.at c.in-Ok.d.length (effect_of c.plain_effect-e.result [])
unfolding command_item
as-effect c =
    ap (here (decoding c)) (command_is (whole (decoding c)) (decoded (decoding c) c.in-Ok.is)) ∙ ap (effect_item c.args.at c.in-Ok.d.length) (sym (c.plain_effect-e.ensures []))

pub effect_item-requires : goal.effect_item-requires
effect_item-requires c =
    record { in_file = c.requires.s_nonzero.1; roomy_item = λ w. subst (λ (i : Item). RoomyItem i c.args.to (length c.args.out.now)) (as-effect (goal.at.effect_item-requires c).After-plain_effect-e) (c.requires.roomy_item w) }

pub returns-in-Err : goal.returns-in-Err
returns-in-Err c =
    let g = (goal.at.returns-in-Err c).After-decode in
    item_bad (refused_is c.args.widths.now c.args.at (page_of c.args.p []) (whole g) (decoded g c.in-Err.is)) (λ w. (c.requires.roomy_item w).accepted) (λ _. refl)

pub returns-in-Ok : goal.returns-in-Ok
returns-in-Ok c =
    let r = c.effect_item in
    subst (λ (i : Item). ItemDone i c.args.writing c.args.out.now c.args.to c.args.count r.result r.new.out) (sym (as-effect (goal.at.returns-in-Ok c).After-plain_effect-e)) r.ensures
