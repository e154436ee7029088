use Rattle.std.proofs.Common.{◌≡◌, ◌∙◌, ◌<◌, ◌+◌, ◌-◌, ◌*◌, ℕ, List, [], map, drop, get_or, length, refl, sym, ap, arith, rules}
use Rattle.std.proofs.lemmas.List.{length-map}
use Rattle.pb_text_meaning.specs.Syntax.{Term}
use Rattle.pb_protocol_unfolding.specs.Written.{written_tuples, written_values}
use Rattle.pb_protocol_unfolder_terms.specs.declared.sorts.Variable as declared_variable
use Rattle.pb_protocol_unfolder_terms.specs.View.{spec_of, variable_of}
use Rattle.pb_protocol_unfolder_terms.specs.Values.{tuple_of, written_term}
use Rattle.pb_protocol_unfolder_terms.proofs.TupleLemmas.{longer, more-of-all, not-within, too-long, tuple_count, value_count, values-of-all}
use Rattle.pb_protocol_unfolder_terms.proofs.written.written_tuples.Goals as goal

pub returns-in_err-values : goal.returns-in_err-values
returns-in_err-values c =
    let none : declared_variable.Variable = record { name = record { ref_ptr = (0, 0); now = [] }; sort = record { ref_ptr = (0, 0); now = [] } } in
    let next : c.loop-index.index ≡ (c.loop-index.index - 1) + 1 = omega arith in
    let within : c.loop-index.index - 1 < length c.args.variables.now = omega arith in
    let some : 0 < tuple_count (spec_of c.args.sorts) c.args.variables.now = search rules in
    let all = written_tuples (spec_of c.args.sorts) (map variable_of c.args.variables.now) in
    too-long c.from_residual-in_err-values.result c.in_err-values.field-0.0 _ all c.args.place c.from_residual-in_err-values.ensures.1
    (longer (written_values (spec_of c.args.sorts) (variable_of (get_or c.args.variables.now (c.loop-index.index - 1) none)).sort) all c.args.place c.in_err-values.field-0.0
    (values-of-all (spec_of c.args.sorts) c.args.variables.now (c.loop-index.index - 1) c.loop-index.index none next within some) c.in_err-values.ensures)

pub returns-then-not-is_within_limit : goal.returns-then-not-is_within_limit
returns-then-not-is_within_limit c =
    let spec = spec_of c.args.sorts in
    let vs = c.args.variables.now in
    let j = c.loop-index.index in
    let none : declared_variable.Variable = record { name = record { ref_ptr = (0, 0); now = [] }; sort = record { ref_ptr = (0, 0); now = [] } } in
    let next : j ≡ (j - 1) + 1 = omega arith in
    let within : j - 1 < length vs = omega arith in
    let some : 0 < tuple_count spec vs = search rules in
    let values = c.in_ok-values.values in
    let n : length values.items ≡ value_count spec (get_or vs (j - 1) none) =
    sym (length-map values.items written_term) ∙ ap (λ (ts : List Term). length ts) c.in_ok-values.ensures in
    let m : length c.loop-index.tuples.items ≡ tuple_count spec (drop j vs) =
    sym (length-map c.loop-index.tuples.items tuple_of) ∙ ap (λ (ts : List (List Term)). length ts) c.loop-index.invariant in
    let left : c.len.result ≡ value_count spec (get_or vs (j - 1) none) = omega (arith, c.len.ensures, values.ok.0, n) in
    let right : c.len-in-loop-index.result ≡ tuple_count spec (drop j vs) = omega (arith, c.len-in-loop-index.ensures, c.loop-index.tuples.ok.0, m) in
    let over : 8192 < c.len.result * c.len-in-loop-index.result = not-within (c.len.result * c.len-in-loop-index.result) c.if-not-is_within_limit.ensures.1 in
    let same : c.len.result * c.len-in-loop-index.result ≡ value_count spec (get_or vs (j - 1) none) * tuple_count spec (drop j vs) =
    ap (λ (a : ℕ). a * c.len-in-loop-index.result) left ∙ ap (λ (b : ℕ). value_count spec (get_or vs (j - 1) none) * b) right in
    (refl, more-of-all spec vs (j - 1) j none next within some (omega (arith, over, same)))
