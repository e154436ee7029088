use Rattle.std.proofs.Common.{◌≡◌, ◌<◌, ◌+◌, [], drop, get_or, refl, arith}
use Rattle.pb_protocol_unfolder_terms.specs.declared.sorts.Variable as declared_variable
use Rattle.pb_protocol_unfolder_terms.specs.View.{spec_of}
use Rattle.pb_protocol_unfolder_terms.proofs.TupleLemmas.{count-at, next-has, tuple_count, value_count}
use Rattle.pb_protocol_unfolder_terms.proofs.written.has_tuples.Goals as goal

pub loop-variable-preserved : goal.loop-variable-preserved
loop-variable-preserved c =
    let spec = spec_of c.args.sorts in
    let vs = c.args.variables.now in
    let k = c.loop-variable.variable-index in
    let none : declared_variable.Variable = record { name = record { ref_ptr = (0, 0); now = [] }; sort = record { ref_ptr = (0, 0); now = [] } } in
    let counted : c.value_count.result ≡ value_count spec (get_or vs k none) = c.value_count.ensures in
    let some : 0 < value_count spec (get_or vs k none) = omega (arith, counted, c.if-value_count-eq0.false) in
    next-has (value_count spec (get_or vs k none)) (tuple_count spec (drop (k + 1) vs)) (tuple_count spec (drop k vs)) (0 < tuple_count spec vs)
    (count-at spec vs k (k + 1) none refl c.loop-variable-test.true) some c.loop-variable.invariant
