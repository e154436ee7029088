use Rattle.std.proofs.Common.{◌≡◌, ℕ, List, map, length, ◌∙◌, ap}
use Rattle.pb_text_tree.specs.Form.{variable_forms}
use Rattle.pb_text_meaning.specs.Erase.{erased_variables}
use Rattle.pb_protocol_meaning.specs.Syntax.{StateVariable}
use Rattle.pb_protocol_meaning.specs.Steps.{indices_of}
use Rattle.pb_protocol_meaning.specs.Erase.{erased_state_variable}
use Rattle.pb_protocol_tree.specs.Form.{state_variable_form}
use Rattle.pb_protocol_scalar_sets.specs.Sorts.{spec_of}
use Rattle.pb_protocol_scalar_sets.specs.View.{variable_said}
use Rattle.pb_protocol_scalar_sets.specs.declared.variable.Variable as declared_variable
use Rattle.pb_protocol_representatives.specs.declared.axis.Axis.{Axis}
use Rattle.pb_protocol_representatives.specs.declared.digit.Digit.{Digit}
use Rattle.pb_protocol_representatives.specs.Digits.{axes_of, combinations_of, digit_of}
use Rattle.pb_protocol_representatives.specs.Tables.{ArrayForm, index_digits}
use Rattle.pb_protocol_representatives.proofs.Indices.{count-indices}
use Rattle.pb_protocol_representatives.proofs.array.array_of.Goals as goal

pub returns-in-Some : goal.returns-in-Some
returns-in-Some c =
    let spec = spec_of c.args.set.now.protocol.now in
    let sort = c.args.set.now.sort.now in
    let y : StateVariable = erased_state_variable (state_variable_form c.args.sort.now c.args.variable.now) in
    let indices : map variable_said c.in_ok-indices.indices.items ≡ y.indices =
    c.in_ok-indices.ensures ∙ ap (λ xs. erased_variables (variable_forms xs)) c.deref.ensures.value in
    let digits : c.in_ok-digits.digits.items ≡ index_digits spec sort y.indices =
    c.in_ok-digits.ensures ∙ (ap (λ (xs : List declared_variable.Variable). index_digits spec sort (map variable_said xs)) c.deref-2.ensures.value
    ∙ ap (index_digits spec sort) indices) in
    let axes : c.in_ok-axes-in-Some.axes.items ≡ axes_of (index_digits spec sort y.indices) =
    c.in_ok-axes-in-Some.ensures ∙ (ap axes_of c.deref-in-Some.ensures.value ∙ ap axes_of digits) in
    let count : c.in-Some.count ≡ length (indices_of spec y) =
    c.in-Some.ensures ∙ (ap combinations_of c.deref-3.ensures.value ∙ (ap combinations_of digits ∙ count-indices spec sort y)) in
    let digit : c.digit_of-digit.result ≡ digit_of spec sort y.sort =
    c.digit_of-digit.ensures ∙ ap (digit_of spec sort) c.as_str.ensures.value in
    let form : List Axis → ℕ → Digit → ArrayForm = λ xs n d. record { axes = xs; count = n; digit = d } in
    ap (λ (xs : List Axis). form xs c.in-Some.count c.digit_of-digit.result) axes
    ∙ (ap (λ (n : ℕ). form (axes_of (index_digits spec sort y.indices)) n c.digit_of-digit.result) count
    ∙ ap (form (axes_of (index_digits spec sort y.indices)) (length (indices_of spec y))) digit)
