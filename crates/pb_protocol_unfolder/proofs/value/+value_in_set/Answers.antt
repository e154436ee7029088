use Rattle.std.proofs.Common.{◌≡◌, ◌∙◌, sym, ap, refl, true, Some, None, [], string_bytes}
use Rattle.std.proofs.lemmas.Result.{IfOk-weaker}
use Rattle.pb_base_values.specs.Carrier.{Value}
use Rattle.pb_text_tree.specs.declared.term.Term as tree
use Rattle.pb_text_meaning.specs.Value.{value}
use Rattle.pb_protocol_folding.specs.Folding as folding
use Rattle.pb_protocol_folding.specs.View.{term_of}
use Rattle.pb_protocol_folding.proofs.Seen.{chain-alone, chain-many, arithmetic-alone, arithmetic-many}
use Rattle.pb_protocol_meaning.specs.Meaning.{meaning}
use Rattle.pb_protocol_meaning.specs.Steps.{data_of, functions_at_start}
use Rattle.pb_protocol_unfolding.specs.PutIn as put
use Rattle.pb_protocol_unfolding.specs.Unfolding.{valued}
use Rattle.pb_protocol_unfolder_terms.specs.Values.{written_term}
use Rattle.pb_protocol_unfolder_terms.specs.Contexts.{forms_by}
use Rattle.pb_protocol_unfolder_steps.specs.Unfolder.{protocol_in, scope_within}
use Rattle.pb_protocol_unfolder.specs.Defined.{stands_for}
use Rattle.pb_protocol_unfolder.specs.Faults.{meant}
use Rattle.pb_protocol_unfolder.specs.Values.{value_of_named}
use Rattle.pb_protocol_unfolder.proofs.NameFaults.{only-values}
use Rattle.pb_protocol_unfolder.proofs.ValueLemmas.{bound-value, defined-value, is_nameless}
use Rattle.pb_protocol_unfolder.proofs.ValueFaults.{alone-refused, alone-value, meant-bound, meant-free, plain-refused, plain-value, said-so}
use Rattle.pb_protocol_unfolder.proofs.value.+value_in_set.Goals as goal

pub bound_value-requires : goal.bound_value-requires
bound_value-requires t c = only-values c.args.scope.now.names c.args.scope.now.values

pub returns-in-Some : goal.returns-in-Some
returns-in-Some t c =
    let m = protocol_in c.args.unfolder.now in
    let spec = data_of m in
    let ρ = scope_within c.args.unfolder.now c.args.scope.now.names in
    let x = string_bytes c.in-Name.name.text in
    let s = term_of c.args.term.now in
    let k = written_term c.in-Some.written in
    let found : Some k ≡ put.term_of ρ x = c.in-Some.ensures spec (forms_by m) ∙ ap (put.term_of ρ) c.as_str.ensures.value in
    record {
      value = IfOk-weaker c.value_of_written.result (λ (v : Value). v ≡ value spec [] k) (λ (v : Value). v ≡ value_of_named c.args.unfolder.now c.args.scope.now.names s)
          (λ v h. bound-value spec (functions_at_start m) ρ x k v found h ∙ ap (λ (r : tree.Term). meaning spec (functions_at_start m) (valued spec [] ρ) (term_of r)) (sym c.in-Name.is))
          c.value_of_written.ensures.value;
      refused = said-so m c.args.place k (meant m ρ s) c.value_of_written.result
          (meant-bound m ρ x k found ∙ ap (λ (r : tree.Term). meant m ρ (term_of r)) (sym c.in-Name.is)) c.value_of_written.ensures.refused;
    }

pub returns-in-None : goal.returns-in-None
returns-in-None t c =
    let m = protocol_in c.args.unfolder.now in
    let spec = data_of m in
    let ρ = scope_within c.args.unfolder.now c.args.scope.now.names in
    let x = string_bytes c.in-Name.name.text in
    let s = term_of c.args.term.now in
    let d = stands_for m.definitions x in
    let found : None ≡ put.term_of ρ x = c.in-None.ensures spec (forms_by m) ∙ ap (put.term_of ρ) c.as_str.ensures.value in
    record {
      value = IfOk-weaker c.defined_value.result (λ (v : Value). folding.written_value spec d ≡ Some v) (λ (v : Value). v ≡ value_of_named c.args.unfolder.now c.args.scope.now.names s)
          (λ v h. defined-value spec m.definitions ρ x v found h ∙ ap (λ (r : tree.Term). meaning spec (functions_at_start m) (valued spec [] ρ) (term_of r)) (sym c.in-Name.is))
          c.defined_value.ensures.value;
      refused = said-so m c.args.place d (meant m ρ s) c.defined_value.result
          (meant-free m ρ x found ∙ ap (λ (r : tree.Term). meant m ρ (term_of r)) (sym c.in-Name.is)) c.defined_value.ensures.refused;
    }

-- ---- chains

pub returns-then-is_empty : goal.returns-then-is_empty
returns-then-is_empty t c =
    let same = chain-alone _ _ _ _ _ _ c.in-Chain.is c.is_empty.ensures c.if-is_empty.true c.deref.ensures in
    record {
      value = alone-value c.args.unfolder.now c.args.scope.now.names _ _ c.value_in_set.result same c.value_in_set.ensures.value;
      refused = alone-refused c.args.unfolder.now c.args.scope.now.names c.args.place _ _ c.value_in_set.result same c.value_in_set.ensures.refused;
    }

pub returns-else-is_empty : goal.returns-else-is_empty
returns-else-is_empty t c =
    let nameless = sym (chain-many is_nameless true c.in-Chain.connective (λ l r. refl) _ _ _ _ c.in-Chain.is c.is_empty.ensures c.if-is_empty.false) in
    record {
      value = plain-value c.args.unfolder.now c.args.scope.now.names _ c.plain_value.result nameless c.plain_value.ensures.value;
      refused = plain-refused c.args.unfolder.now c.args.scope.now.names c.args.place _ c.plain_value.result nameless c.plain_value.ensures.refused;
    }

pub returns-then-is_empty-2 : goal.returns-then-is_empty-2
returns-then-is_empty-2 t c =
    let same = arithmetic-alone _ _ _ _ _ c.in-Arithmetic.is c.is_empty-in-Arithmetic.ensures c.if-is_empty-2.true c.deref-then-is_empty-2.ensures in
    record {
      value = alone-value c.args.unfolder.now c.args.scope.now.names _ _ c.value_in_set-then-is_empty-2.result same c.value_in_set-then-is_empty-2.ensures.value;
      refused = alone-refused c.args.unfolder.now c.args.scope.now.names c.args.place _ _ c.value_in_set-then-is_empty-2.result same c.value_in_set-then-is_empty-2.ensures.refused;
    }

pub returns-else-is_empty-2 : goal.returns-else-is_empty-2
returns-else-is_empty-2 t c =
    let nameless = sym (arithmetic-many is_nameless true (λ o l r. refl) _ _ _ _ c.in-Arithmetic.is c.is_empty-in-Arithmetic.ensures c.if-is_empty-2.false) in
    record {
      value = plain-value c.args.unfolder.now c.args.scope.now.names _ c.plain_value-in-Arithmetic.result nameless c.plain_value-in-Arithmetic.ensures.value;
      refused = plain-refused c.args.unfolder.now c.args.scope.now.names c.args.place _ c.plain_value-in-Arithmetic.result nameless c.plain_value-in-Arithmetic.ensures.refused;
    }
