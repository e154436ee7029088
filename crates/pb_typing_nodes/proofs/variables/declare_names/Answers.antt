use Rattle.std.proofs.Common.{◌≡◌, ℕ, suc, ◌+◌, ◌<◌, length, drop, ◌∙◌, ap, refl, arith}
use Rattle.pb_typing_declarations.specs.Entries.{shapes_of}
use Rattle.pb_typing_nodes.specs.declared.scope.Variable.{Variable}
use Rattle.pb_typing_nodes.specs.Scopes.{named_shapes, named_slots, table_slots, table_view}
use Rattle.pb_typing_nodes.proofs.SlotLemmas.{shapes_next, slots_next}
use Rattle.pb_typing_nodes.proofs.variables.declare_names.Goals as goal

pub loop-place-preserved : goal.loop-place-preserved
loop-place-preserved c =
    let names = c.args.names.now in
    let carriers = c.args.carriers.now in
    let k = c.loop-place.place in
    let n = c.index-names-place.result in
    let slot : ℕ = c.args.first + k in
    let v : Variable = record { slot = slot; shape = c.carrier_shape-shape.result } in
    let within : slot < length carriers = omega (arith, c.requires, c.loop-place-test.true) in
    let next : c.args.first + (k + 1) ≡ slot + 1 = omega arith in
    let after : c.args.first + (k + 1) ≡ suc slot = omega arith in
    record {
      shapes =
          ap (λ (m : ℕ). named_shapes (drop (k + 1) names) (shapes_of (drop m carriers)) (table_view c.in_ok-table.table)) next
          ∙ (shapes_next names k n carriers slot c.index-carriers-slot.result c.loop-place.table c.in_ok-table.table v
          c.loop-place-test.true c.index-names-place.is within c.index-carriers-slot.is c.carrier_shape-shape.ensures c.in_ok-table.ensures
          ∙ c.loop-place.invariant.shapes);
      slots =
          ap (λ (m : ℕ). named_slots (drop (k + 1) names) m (table_slots c.in_ok-table.table)) after
          ∙ (slots_next names k n c.loop-place.table c.in_ok-table.table v slot c.loop-place-test.true c.index-names-place.is refl c.in_ok-table.ensures
          ∙ c.loop-place.invariant.slots);
    }
