use Rattle.std.proofs.Common.{◌≡◌, ◌∙◌, ◌++◌, List, [], map, true, sym, ap}
use Rattle.std.specs.Prelude.{reverse}
use Rattle.pb_protocol_meaning.specs.Erase.{protocol_of}
use Rattle.pb_protocol_symmetry.specs.Kinds.{Signature}
use Rattle.pb_protocol_symmetry.specs.States.{signature_of}
use Rattle.pb_protocol_scalar_sets.specs.declared.signature.Signature as declared_signature
use Rattle.pb_protocol_scalar_sets.specs.Symmetric.{are_declared, are_fit}
use Rattle.pb_protocol_scalar_sets.specs.Tested.{are_defined_in, tested_in}
use Rattle.pb_protocol_scalar_sets.specs.View.{signature_said}
use Rattle.pb_protocol_scalar_sets.proofs.Symmetric.{undeclared, undefined, undefined-start, by-steps}
use Rattle.pb_protocol_scalar_sets.proofs.protocol.is_symmetric.Goals as goal

pub returns-then-not-are_declared : goal.returns-then-not-are_declared
returns-then-not-are_declared c =
    let set = c.args.set.now in
    undeclared set (map signature_said c.in_ok-state.state.items) c.in_ok-state.ensures
    (ap (λ (v : List declared_signature.Signature). are_declared set (map signature_said v)) (sym c.deref.ensures.value) ∙ (sym c.are_declared.ensures ∙ c.if-not-are_declared.true))

pub returns-then-not-definitions : goal.returns-then-not-definitions
returns-then-not-definitions c =
    let set = c.args.set.now in
    let m = protocol_of set.protocol.now in
    let declared : are_declared set (map signature_said c.in_ok-state.state.items) ≡ true =
    ap (λ (v : List declared_signature.Signature). are_declared set (map signature_said v)) (sym c.deref.ensures.value) ∙ (sym c.are_declared.ensures ∙ c.if-not-are_declared.false) in
    undefined set (map signature_said c.in_ok-state.state.items) c.in_ok-state.ensures declared
    (ap (λ (v : List declared_signature.Signature). are_defined_in set (map signature_said v) m.definitions) (sym c.deref-2.ensures.value)
    ∙ (sym c.in_ok-definitions.ensures.new ∙ c.if-not-definitions.true))

pub returns-then-not-are_new_at_start : goal.returns-then-not-are_new_at_start
returns-then-not-are_new_at_start c =
    let set = c.args.set.now in
    let m = protocol_of set.protocol.now in
    let declared : are_declared set (map signature_said c.in_ok-state.state.items) ≡ true =
    ap (λ (v : List declared_signature.Signature). are_declared set (map signature_said v)) (sym c.deref.ensures.value) ∙ (sym c.are_declared.ensures ∙ c.if-not-are_declared.false) in
    let defined : are_defined_in set (map signature_said c.in_ok-state.state.items) m.definitions ≡ true =
    ap (λ (v : List declared_signature.Signature). are_defined_in set (map signature_said v) m.definitions) (sym c.deref-2.ensures.value)
    ∙ (sym c.in_ok-definitions.ensures.new ∙ c.if-not-definitions.false) in
    undefined-start set (map signature_said c.in_ok-state.state.items) c.in_ok-state.ensures declared defined (sym c.in_ok-are_new_at_start.ensures ∙ c.if-not-are_new_at_start.true)

pub returns : goal.returns
returns c =
    let set = c.args.set.now in
    let items = c.in_ok-state.state.items in
    let state = map signature_said items in
    let m = protocol_of set.protocol.now in
    let e = c.in_ok-state.ensures in
    let ds = c.in_ok-definitions.definitions in
    let declared : are_declared set state ≡ true =
    ap (λ (v : List declared_signature.Signature). are_declared set (map signature_said v)) (sym c.deref.ensures.value) ∙ (sym c.are_declared.ensures ∙ c.if-not-are_declared.false) in
    let defined : are_defined_in set state m.definitions ≡ true =
    ap (λ (v : List declared_signature.Signature). are_defined_in set (map signature_said v) m.definitions) (sym c.deref-2.ensures.value)
    ∙ (sym c.in_ok-definitions.ensures.new ∙ c.if-not-definitions.false) in
    let start : are_defined_in set [] m.definitions ≡ true = sym c.in_ok-are_new_at_start.ensures ∙ c.if-not-are_new_at_start.false in
    let lists : List declared_signature.Signature → List declared_signature.Signature → List Signature = λ v w. reverse (map signature_said v) ++ map signature_said w in
    let known : lists c.deref-4.result.now c.deref-3.result.now ≡ tested_in set state m.definitions =
    ap (λ (v : List declared_signature.Signature). lists v c.deref-3.result.now) c.deref-4.ensures.value
    ∙ (ap (lists ds.signatures.items) (c.deref-3.ensures.value ∙ sym c.deref-2.ensures.value)
    ∙ (c.in_ok-definitions.ensures.signatures ∙ ap (λ (v : List declared_signature.Signature). tested_in set (map signature_said v) m.definitions) c.deref-2.ensures.value)) in
    let targets : map signature_said c.deref-3.result.now ≡ map (signature_of set.sort.now) m.variables = ap (map signature_said) c.deref-3.ensures.value ∙ e in
    c.in_ok-are_fit.ensures m.variables targets ∙ (ap (are_fit set m.variables) known ∙ by-steps set state e declared defined start)
