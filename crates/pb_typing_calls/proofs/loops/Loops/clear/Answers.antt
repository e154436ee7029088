use Rattle.std.proofs.Common.{◌∙◌, ◌+◌, ◌-◌, length, map, take, drop, ap, arith, refl, sym, pos}
use Rattle.std.proofs.lemmas.List.{length-map}
use borrow.Rule.Slice.PartMut.{put_mid}
use Rattle.pb_base_values.specs.Carrier.{Value}
use Rattle.pb_typing_calls.proofs.Holding.{part-length, same-zeros, written}
use Rattle.pb_typing_calls.proofs.loops.Loops.clear.Goals as goal

pub returns : goal.returns
returns c = λ vs count.
    let l = c.args.self.now in
    let slots = c.args.slots.now in
    let n = l.slot + length l.carriers.now - l.slot in
    let part = take n (drop l.slot slots) in
    let long = part-length slots l.slot (length l.carriers.now) n c.requires refl in
    let zeros = map (λ (v : Value). pos 0) vs in
    let many = length-map vs (λ (v : Value). pos 0) in
    ap (put_mid l.slot n slots) (c.clear.ensures ∙ same-zeros (pos 0) part vs (long ∙ sym count))
    ∙ written l slots zeros n (omega (arith, many, count))
