use Rattle.std.proofs.Common.{◌≡◌, drop, map}
use Rattle.pb_protocol_symmetry.specs.Test.{are_for, are_plain}
use Rattle.pb_protocol_scalar_sets.specs.Joined.{joined_kinds, link_kind, operation_kind}
use Rattle.pb_protocol_scalar_sets.specs.Terms.{kind_at, kinds_at, terms_said}
use Rattle.pb_protocol_scalar_sets.specs.View.{known_kind, scope_of, variable_said}
use Rattle.pb_protocol_scalar_sets.proofs.term.+terms.Given as goal

-- the operands that are left, behind those before them
abbrev pub invariant-chain_kind-loop-link : goal.invariant-chain_kind-loop-link
invariant-chain_kind-loop-link l =
    let kinds = link_kind (kind_at l.context (scope_of l.around)) in
    joined_kinds (known_kind l.kind) (map kinds (drop l.link-index l.links)) ≡ joined_kinds (known_kind l.initial.kind) (map kinds l.links)

abbrev pub invariant-arithmetic_kind-loop-link : goal.invariant-arithmetic_kind-loop-link
invariant-arithmetic_kind-loop-link l =
    let kinds = operation_kind (kind_at l.context (scope_of l.around)) in
    joined_kinds (known_kind l.kind) (map kinds (drop l.link-index l.links)) ≡ joined_kinds (known_kind l.initial.kind) (map kinds l.links)

-- the arguments that are left
abbrev pub invariant-are_plain-loop-argument : goal.invariant-are_plain-loop-argument
invariant-are_plain-loop-argument l =
    let kinds = kinds_at l.context (scope_of l.around) in are_plain (kinds (terms_said l.arguments)) ≡ are_plain (kinds (terms_said (drop l.argument-index l.arguments)))

abbrev pub invariant-are_for-loop-index : goal.invariant-are_for-loop-index
invariant-are_for-loop-index l =
    let kinds = kinds_at l.context (scope_of l.around) in
    let sort = l.context.set.sort.now in
    are_for sort (map variable_said l.parameters) (kinds (terms_said l.arguments))
    ≡ are_for sort (map variable_said (drop l.index l.parameters)) (kinds (terms_said (drop l.index l.arguments)))
