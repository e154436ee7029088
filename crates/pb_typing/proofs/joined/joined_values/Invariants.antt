use Rattle.std.proofs.Common.{◌≡◌, ◌++◌, ◌∷◌}
use Rattle.std.specs.Vec.Iter.{into_iter_items}
use Rattle.pb_typing.specs.Value.{folded}
use Rattle.pb_typing.specs.ValueView.{pieces, value_view, value_views}
use Rattle.pb_typing.proofs.joined.joined_values.Given as goal

abbrev pub invariant-loop-value : goal.invariant-loop-value
invariant-loop-value l =
    folded l.connective (pieces l.state ++ value_views (into_iter_items l.value-iterator)) ≡ folded l.connective (value_view l.fn.first ∷ value_views l.fn.rest.items)
