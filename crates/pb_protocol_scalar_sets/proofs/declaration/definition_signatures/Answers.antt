use Rattle.std.proofs.Common.{◌≡◌, ◌∙◌, ◌&&◌, ◌++◌, ◌+◌, ◌∷◌, ◌<◌, length, get_or, subst, Bool, List, map, drop, string_bytes, sym, ap}
use Rattle.std.specs.Prelude.{reverse}
use Rattle.std.proofs.Math.Bool.{and_assoc}
use Rattle.pb_protocol_tree.specs.declared.protocol.Definition as declared_definition
use Rattle.pb_protocol_tree.specs.Form.{definition_form}
use Rattle.pb_protocol_meaning.specs.Erase.{erased_definition}
use Rattle.pb_protocol_symmetry.specs.Kinds.{Signature}
use Rattle.pb_protocol_symmetry.specs.ProtocolTest.{is_unknown}
use Rattle.pb_protocol_scalar_sets.specs.declared.signature.Signature as declared_signature
use Rattle.pb_protocol_scalar_sets.specs.Tested.{are_defined_in, tested_in, tested_signature_in}
use Rattle.pb_protocol_scalar_sets.specs.View.{signature_said}
use Rattle.pb_protocol_scalar_sets.proofs.Tested.{known-pushed, next-tested, next-defined, definitions_said}
use Rattle.pb_protocol_scalar_sets.proofs.declaration.definition_signatures.Goals as goal

pub loop-definition-preserved : goal.loop-definition-preserved
loop-definition-preserved c =
    let set = c.args.set.now in
    let base = map signature_said c.args.state.now in
    let v = c.loop-definition.signatures.items in
    let known = reverse (map signature_said v) ++ base in
    let ds = set.protocol.now.definitions.items in
    let k = c.loop-definition.definition-index in
    let d = c.definition-item.result in
    let s = c.in_ok-signature.signature in
    let rest = definitions_said (drop (k + 1) ds) in
    let lists : List declared_signature.Signature → List Signature = λ u. reverse (map signature_said u) ++ base in
    let is : signature_said s ≡ tested_signature_in set known (erased_definition (definition_form d)) =
    c.in_ok-signature.ensures ∙ ap (λ u. tested_signature_in set (lists u) (erased_definition (definition_form d))) c.deref-in-loop-definition-2.ensures.value in
    let name : c.is_unknown-is_new.result ≡ is_unknown known (string_bytes d.name.text) =
    c.is_unknown-is_new.ensures ∙ (ap (λ u. is_unknown (lists u) c.deref-in-loop-definition.result.now) c.deref.ensures.value ∙ ap (is_unknown known) c.deref-in-loop-definition.ensures) in
    let pushed = known-pushed base v c.push.new.self.items s c.in_ok-push.ensures.items in
    let same = c.deref-definition-items.ensures.value in
    let below : k < length ds = subst (λ (es : List declared_definition.Definition). k < length es) same c.loop-definition-test.true in
    let at : d ≡ get_or ds k d = subst (λ (es : List declared_definition.Definition). d ≡ get_or es k d) same c.definition-item.is in
    let tested = next-tested set known ds k d (signature_said s) below at is in
    let defined = next-defined set known ds k d (signature_said s) below at is in
    record {
      tested = ap (λ (t : List Signature). tested_in set t rest) pushed ∙ (sym tested ∙ c.loop-definition.invariant.tested);
      new =
          ap (λ (t : List Signature). (c.loop-definition.are_new && c.is_unknown-is_new.result) && are_defined_in set t rest) pushed
          ∙ (and_assoc c.loop-definition.are_new c.is_unknown-is_new.result (are_defined_in set (signature_said s ∷ known) rest)
          ∙ (ap (λ (b : Bool). c.loop-definition.are_new && (b && are_defined_in set (signature_said s ∷ known) rest)) name
          ∙ (ap (λ (b : Bool). c.loop-definition.are_new && b) (sym defined) ∙ c.loop-definition.invariant.new)));
    }
