use Rattle.std.proofs.Common.{◌≡◌, ◌∙◌, ap, sym, Some, None}
use Rattle.pb_text_meaning.specs.Sorts.{place_from}
use Rattle.pb_protocol_folding.specs.Enumerators.{enumerators_of, passes}
use Rattle.pb_protocol_folding.proofs.Enumerators.{within-struct, within-alias, place-here}
use Rattle.pb_protocol_folding.proofs.enumerator.place_in.Goals.{in-Struct+in_default-place_among, in_default}
use Rattle.pb_protocol_folding.proofs.enumerator.place_in.Goals as goal

pub returns-in-Some : goal.returns-in-Some
returns-in-Some c =
    let found : place_from 0 (passes c.args.sought) (enumerators_of c.in-Struct.enumerators.items) ≡ Some c.in-Some.place =
    ap (λ es. place_from 0 (passes c.args.sought) (enumerators_of es)) (sym c.deref.ensures.value) ∙ (sym c.place_among.ensures ∙ c.in-Some.is) in
    sym (place-here c.args.sought c.args.declarations.now c.loop-declaration.declaration-index c.declaration-item.result (Some c.in-Some.place) c.loop-declaration-test.true c.declaration-item.is
    (within-struct c.args.sought c.declaration-item.result c.in-Struct.enumerators c.in-Struct.is ∙ found))
    ∙ c.loop-declaration.invariant

pub loop-declaration-preserved : goal.loop-declaration-preserved
loop-declaration-preserved c =
    let here = place-here c.args.sought c.args.declarations.now c.loop-declaration.declaration-index c.declaration-item.result None c.loop-declaration-test.true c.declaration-item.is in
    elim c.match-declaration.branch [
      | in-Struct+in_default-place_among w ↦
          sym (here (within-struct c.args.sought c.declaration-item.result w.in-Struct.enumerators w.in-Struct.is
          ∙ (ap (λ es. place_from 0 (passes c.args.sought) (enumerators_of es)) (sym w.deref.ensures.value) ∙ (sym w.place_among.ensures ∙ w.in_default-place_among.is))))
          ∙ c.loop-declaration.invariant
      | in_default w ↦ sym (here (within-alias c.args.sought c.declaration-item.result w.in_default.field-0 w.in_default.is)) ∙ c.loop-declaration.invariant
    ]
