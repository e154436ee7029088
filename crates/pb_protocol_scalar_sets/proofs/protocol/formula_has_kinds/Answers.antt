use Rattle.std.proofs.Common.{◌≡◌, ◌∙◌, ◌++◌, List, [], map, sym, ap}
use Rattle.std.specs.Prelude.{reverse}
use Rattle.pb_protocol_tree.specs.Form.{formula_form}
use Rattle.pb_protocol_meaning.specs.Erase.{erased_formula, protocol_of}
use Rattle.pb_protocol_symmetry.specs.Kinds.{Signature}
use Rattle.pb_protocol_scalar_sets.specs.declared.signature.Signature as declared_signature
use Rattle.pb_protocol_scalar_sets.specs.Tested.{tested_in}
use Rattle.pb_protocol_scalar_sets.specs.View.{signature_said}
use Rattle.pb_protocol_scalar_sets.proofs.Symmetric.{formula-said}
use Rattle.pb_protocol_scalar_sets.proofs.protocol.formula_has_kinds.Goals as goal

pub returns : goal.returns
returns c =
    let set = c.args.set.now in
    let items = c.in_ok-state.state.items in
    let m = protocol_of set.protocol.now in
    let lists : List declared_signature.Signature → List declared_signature.Signature → List Signature = λ v w. reverse (map signature_said v) ++ map signature_said w in
    let states : lists c.deref-3.result.now c.deref-2.result.now ≡ tested_in set (map signature_said items) m.definitions =
    ap (λ (v : List declared_signature.Signature). lists v c.deref-2.result.now) c.deref-3.ensures.value
    ∙ (ap (lists c.in_ok-at_states.at_states.signatures.items) (c.deref-2.ensures.value ∙ sym c.deref.ensures.value)
    ∙ (c.in_ok-at_states.ensures.signatures ∙ ap (λ (v : List declared_signature.Signature). tested_in set (map signature_said v) m.definitions) c.deref.ensures.value)) in
    let start : lists c.deref-4.result.now [] ≡ tested_in set [] m.definitions =
    ap (λ (v : List declared_signature.Signature). lists v []) c.deref-4.ensures.value ∙ c.in_ok-at_start.ensures.signatures in
    c.is_same.ensures
    ∙ formula-said set (lists c.deref-3.result.now c.deref-2.result.now) (lists c.deref-4.result.now [])
    (map signature_said items) (erased_formula (formula_form c.args.formula.now)) c.in_ok-state.ensures
    states start
