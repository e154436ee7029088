use Rattle.std.proofs.Common.{◌≡◌, ◌<◌, ◌+◌, ◌∙◌, ℕ, ◌∷◌, inl, inr, sym, ap, refl, subst, take_all, rules, arith, List, map, flat_map, length}
use Rattle.std.proofs.lemmas.Grind.{common_steps}
use Rattle.pb_text_meaning.specs.Syntax as syntax
use Rattle.pb_text_meaning.specs.Erase.{erased_variables}
use Rattle.pb_text_tree.specs.declared.variable.Variables.{Variables}
use Rattle.pb_text_tree.specs.Form.{variable_forms}
use Rattle.pb_model_meaning.specs.Syntax.{Formula}
use Rattle.pb_protocol_tree.specs.declared.formula.Formula as tree
use Rattle.pb_protocol_tree.specs.declared.formula.Link.{Link}
use Rattle.pb_protocol_tree.specs.Form.{FormulaForm, formula_form, step_set_form}
use Rattle.pb_protocol_folding.specs.FoldedModels.{folded_joined_formula}
use Rattle.pb_protocol_folding.specs.Places.{AreAmong, places_of}
use Rattle.pb_protocol_unfolder_terms.specs.declared.written.Written.{Written}
use Rattle.pb_protocol_unfolder_terms.specs.View.{variable_of}
use Rattle.pb_protocol_unfolder_terms.specs.Values.{tuple_of, written_term}
use Rattle.std.specs.Prelude.{box_value, sum_by, OnOk}
use Rattle.pb_protocol_unfolding.specs.PutIn.{standing}
use Rattle.pb_protocol_unfolding.specs.Unfolding.{terms_of}
use Rattle.pb_text_tree.specs.Form.{term_form}
use Rattle.pb_protocol_meaning.specs.Erase.{erase, erased_formula}
use Rattle.pb_protocol_unfolder_steps.specs.declared.unfolder.Unfolder.{Unfolder}
use Rattle.pb_protocol_unfolder_steps.specs.Unfolder.{form_in, protocol_in, scope_within}
use Rattle.pb_protocol_unfolder.specs.declared.fault.UnfoldingFault.{UnfoldingFault}
use Rattle.pb_protocol_unfolder.specs.declared.formula.Copies.{Copies}
use Rattle.pb_protocol_unfolder.specs.Copies.{copy_operators, link_operators, tuples_in}
use Rattle.pb_protocol_unfolder.specs.Left.{left_formula, left_operators}
use Rattle.pb_protocol_unfolder.specs.Operators.{written_operators}
use Rattle.pb_protocol_unfolder.specs.Links.{folded_chain, linked_formula}
use Rattle.pb_protocol_unfolder.specs.Faults.{IsFaultOfFormula}
use Rattle.pb_protocol_unfolder.specs.Parts.{IsFaultOfCopies, IsFaultOfLinks}
use Rattle.pb_protocol_unfolder.specs.Places.{flat_link_places, link_places, places_in}
use Rattle.pb_protocol_unfolder.proofs.FaultLemmas.{at-item, item-in, of-many-by, of-tuples-by, part-by-so, part-of}
use Rattle.pb_protocol_unfolder.proofs.FormulaParts.{IsFaultWithin, chain-parts, first-refused, fixpoint-parts, modal-parts, negation-parts, operators_in, second-refused, token-refused}
use Rattle.pb_protocol_unfolder.proofs.ValueFaults.{copies-so, fault-so, links-so, modality-so}
use Rattle.pb_protocol_unfolder.proofs.OperatorLemmas.{behind-left, behind-over, both-left, chain-formula, copies-counted, end-counted, first-over, item-over, item-taken, loop-ends, more-over, one-over, one-spent, operand-left, operand-over, rest-over, same-left, same-over, set-over, token-over}
use Rattle.pb_protocol_unfolder.proofs.ChainFormulas.{are-copies, copies-made, left-chain, left-quantified}
use Rattle.pb_protocol_folding.proofs.Places.{same-among}
use Rattle.pb_protocol_unfolder.proofs.PlaceLemmas.{behind-among, chain-among, part-among, pushed-among, taken-among, through-among}
use Rattle.pb_protocol_unfolder.proofs.formula.+formulas.Goals as goal

pub unfold_formula-returns-in_ok-joined-in-Chain : goal.unfold_formula-returns-in_ok-joined-in-Chain
unfold_formula-returns-in_ok-joined-in-Chain t c =
    let k = c.in-Chain.connective in
    let x = c.deref-in-Chain.result.now in
    let ls = c.deref-in-Chain-2.result.now in
    record {
      formula = c.in_ok-joined-in-Chain.ensures.formula
          ∙ ap (λ (f : Formula). folded_chain k f (map linked_formula c.in_ok-links-in-Chain.links.items)) c.in_ok-first-in-Chain.ensures.formula
          ∙ ap (folded_chain k (left_formula c.args.formulas.now c.args.scope.now.names (formula_form x))) c.in_ok-links-in-Chain.ensures.formulas
          ∙ left-chain c.args.formulas.now c.args.scope.now.names k x c.in-Chain.first c.in-Chain.links ls c.args.formula.now c.in-Chain.is c.deref-in-Chain.ensures
          c.deref-in-Chain-2.ensures.value;
      places = chain-among k x c.in-Chain.first c.in-Chain.links ls c.args.formula.now (places_of c.in_ok-joined-in-Chain.field-0) (places_of c.in_ok-first-in-Chain.first)
          (flat_map flat_link_places c.in_ok-links-in-Chain.links.items)
          c.in-Chain.is c.deref-in-Chain.ensures c.deref-in-Chain-2.ensures.value c.in_ok-joined-in-Chain.ensures.places c.in_ok-first-in-Chain.ensures.places c.in_ok-links-in-Chain.ensures.places;
      room = both-left _ _ _ _ _ _ c.in_ok-first-in-Chain.ensures.room c.in_ok-links-in-Chain.ensures.room
          (chain-formula c.args.formulas.now c.args.scope.now.names k x c.in-Chain.first c.in-Chain.links ls c.args.formula.now c.in-Chain.is c.deref-in-Chain.ensures
          c.deref-in-Chain-2.ensures.value);
      refused = search rules;
    }

pub unfold_formula-returns-in_ok-joined_formula-in-Quantified : goal.unfold_formula-returns-in_ok-joined_formula-in-Quantified
unfold_formula-returns-in_ok-joined_formula-in-Quantified t c =
    let q = c.in-Quantified.quantifier in
    let f = box_value c.in-Quantified.body in
    let xs = variable_forms c.in-Quantified.variables.items in
    let all = flat_map places_of c.in_ok-operands-in-Quantified.operands.items in
    let made : Copies = record { place = c.in-Quantified.place; variables = c.deref-in-Quantified-3.result; tuples = c.deref-in-Quantified-4.result; outer = c.args.scope } in
    let are = are-copies c.args.formulas.now c.args.scope.now.names made _ _ _ _ _ refl c.deref-in-Quantified-3.ensures.value c.deref-in-Quantified-4.ensures.value
    c.in_ok-variables-in-Quantified.ensures
    c.deref-in-Quantified.ensures.value
    (c.in_ok-tuples-in-Quantified.ensures.tuples ∙ ap (λ (v : Unfolder). tuples_in v (map variable_of c.deref-in-Quantified-2.result.now)) c.unfolder.ensures)
    c.deref-in-Quantified-2.ensures.value in
    record {
      formula = c.in_ok-joined_formula-in-Quantified.ensures.formula
          ∙ ap (folded_joined_formula q) (c.in_ok-operands-in-Quantified.ensures.formulas ∙ copies-made c.args.formulas.now c.args.scope.now.names made f (erased_variables xs) are)
          ∙ left-quantified c.args.formulas.now c.args.scope.now.names q c.in-Quantified.place xs (formula_form f)
          ∙ sym (ap (λ (g : tree.Formula). left_formula c.args.formulas.now c.args.scope.now.names (formula_form g)) c.in-Quantified.is);
      places = through-among (places_of c.in_ok-joined_formula-in-Quantified.field-0) all (places_in c.args.formula.now) c.in_ok-joined_formula-in-Quantified.ensures.places
          (part-among all c.args.formula.now f (ap places_in c.in-Quantified.is) c.in_ok-operands-in-Quantified.ensures.places);
      room = same-left _ _ _ _ c.in_ok-operands-in-Quantified.ensures.room
          (copies-counted c.args.formulas.now c.args.scope.now.names made f q c.in-Quantified.place xs are ∙ sym
          (ap (operators_in c.args.formulas.now c.args.scope.now.names) c.in-Quantified.is));
      refused = search rules;
    }

pub unfold_formula-returns-in_ok-not_formula-in-Negation-clause-places : goal.unfold_formula-returns-in_ok-not_formula-in-Negation-clause-places
unfold_formula-returns-in_ok-not_formula-in-Negation-clause-places t c =
    let inner = c.deref.result.now in
    let operand = c.in_ok-operand-in-Negation.operand in
    through-among (places_of c.in_ok-not_formula-in-Negation.field-0) (places_of operand) (places_in c.args.formula.now) c.in_ok-not_formula-in-Negation.ensures.places
    (part-among (places_of operand) c.args.formula.now inner (ap places_in c.in-Negation.is ∙ sym (ap places_in c.deref.ensures)) c.in_ok-operand-in-Negation.ensures.places)

pub unfold_formula-returns-in_ok-new-in-Modal-clause-places : goal.unfold_formula-returns-in_ok-new-in-Modal-clause-places
unfold_formula-returns-in_ok-new-in-Modal-clause-places t c =
    let inner = c.deref-in-Modal.result.now in
    let operand = c.in_ok-operand-in-Modal.operand in
    let boxed = box_value c.in_ok-new-in-Modal.field-0 in
    through-among (places_of boxed) (places_of operand) (places_in c.args.formula.now) (same-among (places_of boxed) (places_of operand) (ap places_of c.in_ok-new-in-Modal.ensures.ok))
    (part-among (places_of operand) c.args.formula.now inner (ap places_in c.in-Modal.is ∙ sym (ap places_in c.deref-in-Modal.ensures)) c.in_ok-operand-in-Modal.ensures.places)

pub unfold_formula-returns-in_ok-new-in-Fixpoint-clause-places : goal.unfold_formula-returns-in_ok-new-in-Fixpoint-clause-places
unfold_formula-returns-in_ok-new-in-Fixpoint-clause-places t c =
    let p = c.in-Fixpoint.place in
    let inner = c.deref-in-Fixpoint.result.now in
    let body = c.in_ok-body-in-Fixpoint.body in
    let boxed = box_value c.in_ok-new-in-Fixpoint.field-0 in
    through-among (p ∷ places_of boxed) (p ∷ places_in inner) (places_in c.args.formula.now)
    (behind-among p (places_of boxed) (places_in inner)
    (through-among (places_of boxed) (places_of body) (places_in inner)
    (same-among (places_of boxed) (places_of body) (ap places_of c.in_ok-new-in-Fixpoint.ensures.ok))
    c.in_ok-body-in-Fixpoint.ensures.places))
    (same-among (p ∷ places_in inner) (places_in c.args.formula.now)
    (sym (ap places_in c.in-Fixpoint.is ∙ ap (λ (g : tree.Formula). p ∷ places_in g) (sym c.deref-in-Fixpoint.ensures))))

-- how many operators a copy of the formula has, by its values
abbrev counted : Unfolder → Copies → List Written → tree.Formula → ℕ
counted u a vs g =
    written_operators (protocol_in u) (standing (map variable_of a.variables.now) (terms_of (map written_term vs)) (scope_within u a.outer.now.names)) (erased_formula (formula_form g))

same-counted : (u : Unfolder) (a : Copies) (vs ws : List Written) (f g : tree.Formula) → vs ≡ ws → f ≡ g → counted u a vs f ≡ counted u a ws g
same-counted u a vs ws f g values same = ap (λ (xs : List Written). counted u a xs f) values ∙ ap (counted u a ws) same

pub unfold_copies-loop-values-preserved : goal.unfold_copies-loop-values-preserved
unfold_copies-loop-values-preserved t c =
    let f = c.in_ok-unfold_formula.field-0 in
    record {
      formulas = first_of (search rules, grind (arith, common_steps));
      places = pushed-among places_of c.push.new.self.items c.loop-values.unfolded.items f (places_in (box_value c.args.body.now)) c.in_ok-push.ensures.items c.loop-values.invariant.places
          (part-among (places_of f) (box_value c.args.body.now) c.deref-in-loop-values.result.now (sym (ap places_in c.deref-in-loop-values.ensures)) c.in_ok-unfold_formula.ensures.places);
      room = item-taken (copy_operators c.args.formulas.now c.args.copies.now (box_value c.args.body.now)) _ _ _ _ _ _ c.loop-values-test.true c.values-item.is
          c.loop-values.invariant.room
          (one-spent _ _ _ _ _ c.in_ok-take.ensures.taken c.in_ok-unfold_formula.ensures.room
          (same-counted c.args.formulas.now c.args.copies.now _ _ _ _ c.deref.ensures.value c.deref-in-loop-values.ensures));
    }

pub unfold_links-loop-link-preserved : goal.unfold_links-loop-link-preserved
unfold_links-loop-link-preserved t c = record {
  formulas = first_of (search rules, grind (arith, common_steps));
  places = taken-among flat_link_places link_places c.push.new.self.items c.loop-link.flat_links.items (record { place = c.link-item.result.place; operand = c.in_ok-operand.operand })
      c.args.links.now c.loop-link.link-index c.link-item.result c.in_ok-push.ensures.items c.loop-link-test.true c.link-item.is c.loop-link.invariant.places c.in_ok-operand.ensures.places;
  room = item-taken (link_operators c.args.formulas.now c.args.scope.now.names) _ _ _ _ _ _ c.loop-link-test.true c.link-item.is c.loop-link.invariant.room
      (one-spent _ _ _ _ _ c.in_ok-take.ensures.taken c.in_ok-operand.ensures.room refl);
}

pub unfold_copies-returns-clause-room : goal.unfold_copies-returns-clause-room
unfold_copies-returns-clause-room t c =
    loop-ends _ _ _ _ c.loop-values.invariant.room
    (end-counted (copy_operators c.args.formulas.now c.args.copies.now (box_value c.args.body.now)) c.args.copies.now.tuples.now c.loop-values.values-index c.loop-values-test.false)

pub unfold_links-returns-clause-room : goal.unfold_links-returns-clause-room
unfold_links-returns-clause-room t c =
    loop-ends _ _ _ _ c.loop-link.invariant.room
    (end-counted (link_operators c.args.formulas.now c.args.scope.now.names) c.args.links.now c.loop-link.link-index c.loop-link-test.false)

pub unfold_links-returns-clause-places : goal.unfold_links-returns-clause-places
unfold_links-returns-clause-places t c =
    subst (λ (ls : List Link). AreAmong (flat_map flat_link_places c.loop-link.flat_links.items) (flat_map link_places ls))
    (take_all c.loop-link.link-index c.args.links.now c.loop-link-test.false) c.loop-link.invariant.places

-- ---- what room is left

pub unfold_formula-returns-in-Data-clause-room : goal.unfold_formula-returns-in-Data-clause-room
unfold_formula-returns-in-Data-clause-room t c =
    subst (λ (g : tree.Formula). OnOk c.unfold_data.result
    (c.args.room.now.operators ≡ c.unfold_data.new.room.operators + left_operators c.args.formulas.now c.args.scope.now.names (formula_form g)))
    (sym c.in-Data.is) c.unfold_data.ensures.room

pub unfold_formula-returns-in_ok-not_formula-in-Negation-clause-room : goal.unfold_formula-returns-in_ok-not_formula-in-Negation-clause-room
unfold_formula-returns-in_ok-not_formula-in-Negation-clause-room t c =
    let parts = negation-parts c.args.formulas.now c.args.scope.now.names c.args.room.now.operators _ _ _ _ c.in-Negation.is c.deref.ensures in
    behind-left _ _ _ _ _ c.in_ok-take-in-Negation.ensures.taken c.in_ok-operand-in-Negation.ensures.room parts.counted

pub unfold_formula-returns-in_ok-new-in-Modal-clause-room : goal.unfold_formula-returns-in_ok-new-in-Modal-clause-room
unfold_formula-returns-in_ok-new-in-Modal-clause-room t c =
    let parts = modal-parts c.args.formulas.now c.args.scope.now.names c.args.room.now.operators _ _ _ _ _ _ c.in-Modal.is c.deref-in-Modal.ensures in
    operand-left _ _ _ _ _ _ _ c.in_ok-take-in-Modal.ensures.taken c.in_ok-steps-in-Modal.ensures.room c.in_ok-operand-in-Modal.ensures.room parts.counted

pub unfold_formula-returns-in_ok-new-in-Fixpoint-clause-room : goal.unfold_formula-returns-in_ok-new-in-Fixpoint-clause-room
unfold_formula-returns-in_ok-new-in-Fixpoint-clause-room t c =
    let parts = fixpoint-parts c.args.formulas.now c.args.scope.now.names c.args.room.now.operators _ _ _ _ _ _ c.in-Fixpoint.is c.deref-in-Fixpoint.ensures in
    behind-left _ _ _ _ _ c.in_ok-take-in-Fixpoint.ensures.taken c.in_ok-body-in-Fixpoint.ensures.room parts.counted

pub unfold_copies-returns-in_err-take-clause-refused : goal.unfold_copies-returns-in_err-take-clause-refused
unfold_copies-returns-in_err-take-clause-refused t c =
    let body = box_value c.args.body.now in
    of-many-by c.from_residual.result c.in_err-take.field-0.0 (c.loop-values.room.operators < 1) c.args.copies.now.place
    (IsFaultOfCopies (form_in c.args.formulas.now) (c.args.room.now.operators < sum_by (copy_operators c.args.formulas.now c.args.copies.now body)
    c.args.copies.now.tuples.now)
    (scope_within c.args.formulas.now c.args.copies.now.outer.now.names) c.args.copies.now.place (map variable_of c.args.copies.now.variables.now)
    (map tuple_of c.args.copies.now.tuples.now) (formula_form body)) c.from_residual.ensures.1
    (λ f o. inl (
      item-over (copy_operators c.args.formulas.now c.args.copies.now body) _ _ _ _ _ c.loop-values-test.true c.values-item.is c.loop-values.invariant.room (one-over _ _ o.0),
      o.1,
    ))
    c.in_err-take.ensures.refused

pub unfold_copies-returns-in_err-unfold_formula-clause-refused : goal.unfold_copies-returns-in_err-unfold_formula-clause-refused
unfold_copies-returns-in_err-unfold_formula-clause-refused t c =
    let a = c.args.copies.now in
    let m = form_in c.args.formulas.now in
    let ρ = scope_within c.args.formulas.now a.outer.now.names in
    let xs = map variable_of a.variables.now in
    let ks = c.values-item.result in
    let whole = box_value c.args.body.now in
    let Many = c.args.room.now.operators < sum_by (copy_operators c.args.formulas.now a whole) a.tuples.now in
    let IsFault : List Written → tree.Formula → UnfoldingFault → Type 0 = λ vs g. IsFaultOfFormula m Many (standing xs (terms_of (map written_term vs)) ρ) (formula_form g) in
    part-of c.from_residual-in_err-unfold_formula.result c.in_err-unfold_formula.field-0.0 _
    (IsFaultOfCopies m Many ρ a.place xs (map tuple_of a.tuples.now) (formula_form whole)) c.from_residual-in_err-unfold_formula.ensures.1
    c.in_err-unfold_formula.ensures.refused
    (λ p is. inr (
      tuple_of ks,
      at-item tuple_of a.tuples.now c.loop-values.values-index ks c.loop-values-test.true c.values-item.is,
      subst (λ (g : tree.Formula). IsFault ks.items g p) c.deref-in-loop-values.ensures
          (subst (λ (vs : List Written). IsFault vs c.deref-in-loop-values.result.now p) c.deref.ensures.value
          (fault-so m _ Many
          (λ h. item-over (copy_operators c.args.formulas.now a whole) _ _ _ _ _ c.loop-values-test.true c.values-item.is c.loop-values.invariant.room
          (more-over _ _ _ _ c.in_ok-take.ensures.taken (same-counted c.args.formulas.now a _ _ _ _ c.deref.ensures.value c.deref-in-loop-values.ensures) h))
          p (standing xs (terms_of (map written_term c.deref.result.now)) ρ) (formula_form c.deref-in-loop-values.result.now) is)),
    ))

pub unfold_links-returns-in_err-take-clause-refused : goal.unfold_links-returns-in_err-take-clause-refused
unfold_links-returns-in_err-take-clause-refused t c =
    of-many-by c.from_residual.result c.in_err-take.field-0.0 (c.loop-link.room.operators < 1) c.link-item.result.place
    (IsFaultOfLinks (form_in c.args.formulas.now) (c.args.room.now.operators < sum_by (link_operators c.args.formulas.now c.args.scope.now.names) c.args.links.now)
    (scope_within c.args.formulas.now c.args.scope.now.names) c.args.links.now) c.from_residual.ensures.1
    (λ f o. (
      c.link-item.result,
      item-in c.args.links.now c.loop-link.link-index c.link-item.result c.loop-link-test.true c.link-item.is,
      inl (item-over (link_operators c.args.formulas.now c.args.scope.now.names) _ _ _ _ _ c.loop-link-test.true c.link-item.is c.loop-link.invariant.room (one-over _ _ o.0), o.1),
    )) c.in_err-take.ensures.refused

pub unfold_links-returns-in_err-operand-clause-refused : goal.unfold_links-returns-in_err-operand-clause-refused
unfold_links-returns-in_err-operand-clause-refused t c =
    let s = c.args.scope.now.names in
    let l = c.link-item.result in
    let Many = c.args.room.now.operators < sum_by (link_operators c.args.formulas.now s) c.args.links.now in
    part-of c.from_residual-in_err-operand.result c.in_err-operand.field-0.0 _ (IsFaultOfLinks (form_in c.args.formulas.now) Many (scope_within c.args.formulas.now s)
    c.args.links.now) c.from_residual-in_err-operand.ensures.1
    c.in_err-operand.ensures.refused
    (λ p is. (
      l,
      item-in c.args.links.now c.loop-link.link-index l c.loop-link-test.true c.link-item.is,
      inr (fault-so (form_in c.args.formulas.now) (c.take.new.self.operators < left_operators c.args.formulas.now s (formula_form l.operand)) Many
          (λ h. item-over (link_operators c.args.formulas.now s) _ _ _ _ _ c.loop-link-test.true c.link-item.is c.loop-link.invariant.room
          (more-over _ _ _ _ c.in_ok-take.ensures.taken refl h))
          p (scope_within c.args.formulas.now s) (formula_form l.operand) is),
    ))

pub unfold_formula-returns-in-Data-clause-refused : goal.unfold_formula-returns-in-Data-clause-refused
unfold_formula-returns-in-Data-clause-refused t c =
    let m = form_in c.args.formulas.now in
    let fault : FormulaForm → UnfoldingFault → Type 0 = λ g. IsFaultOfFormula m (c.args.room.now.operators < left_operators c.args.formulas.now c.args.scope.now.names g)
    (scope_within c.args.formulas.now c.args.scope.now.names) g in
    part-by-so (fault (FormulaForm.«data» c.in-Data.place (term_form c.in-Data.term))) (fault (formula_form c.args.formula.now)) c.unfold_data.result
    (λ f is. subst (λ (g : tree.Formula). fault (formula_form g) f) (sym c.in-Data.is) is) c.unfold_data.ensures.refused

pub unfold_formula-returns-in_err-take-in-Negation-clause-refused : goal.unfold_formula-returns-in_err-take-in-Negation-clause-refused
unfold_formula-returns-in_err-take-in-Negation-clause-refused t c =
    let parts = negation-parts c.args.formulas.now c.args.scope.now.names c.args.room.now.operators _ _ _ _ c.in-Negation.is refl in
    token-refused c.in-Negation.place c.from_residual-in_err-take-in-Negation.result c.in_err-take-in-Negation.field-0.0 parts
    c.from_residual-in_err-take-in-Negation.ensures.1 c.in_err-take-in-Negation.ensures.refused

pub unfold_formula-returns-in_err-operand-in-Negation-clause-refused : goal.unfold_formula-returns-in_err-operand-in-Negation-clause-refused
unfold_formula-returns-in_err-operand-in-Negation-clause-refused t c =
    let parts = negation-parts c.args.formulas.now c.args.scope.now.names c.args.room.now.operators _ _ _ _ c.in-Negation.is c.deref.ensures in
    second-refused c.deref.result.now _ c.from_residual-in_err-operand-in-Negation.result c.in_err-operand-in-Negation.field-0.0 parts
    (behind-over _ _ _ _ c.in_ok-take-in-Negation.ensures.taken parts.counted) c.from_residual-in_err-operand-in-Negation.ensures.1 c.in_err-operand-in-Negation.ensures.refused

pub unfold_formula-returns-in_err-first-in-Chain-clause-refused : goal.unfold_formula-returns-in_err-first-in-Chain-clause-refused
unfold_formula-returns-in_err-first-in-Chain-clause-refused t c =
    let parts = chain-parts c.args.formulas.now c.args.scope.now.names c.args.room.now.operators _ _ _ _ _ _ c.in-Chain.is c.deref-in-Chain.ensures refl in
    first-refused c.deref-in-Chain.result.now _ c.from_residual-in_err-first-in-Chain.result c.in_err-first-in-Chain.field-0.0 parts (first-over _ _ _ _ parts.counted)
    c.from_residual-in_err-first-in-Chain.ensures.1 c.in_err-first-in-Chain.ensures.refused

pub unfold_formula-returns-in_err-links-in-Chain-clause-refused : goal.unfold_formula-returns-in_err-links-in-Chain-clause-refused
unfold_formula-returns-in_err-links-in-Chain-clause-refused t c =
    let m = form_in c.args.formulas.now in
    let parts = chain-parts c.args.formulas.now c.args.scope.now.names c.args.room.now.operators _ _ _ _ _ _ c.in-Chain.is c.deref-in-Chain.ensures c.deref-in-Chain-2.ensures.value in
    part-of c.from_residual-in_err-links-in-Chain.result c.in_err-links-in-Chain.field-0.0 _ _ c.from_residual-in_err-links-in-Chain.ensures.1 c.in_err-links-in-Chain.ensures.refused
    (λ p is. parts.second p (links-so m _ _ (rest-over _ _ _ _ _ c.in_ok-first-in-Chain.ensures.room parts.counted) p (scope_within c.args.formulas.now c.args.scope.now.names)
    c.deref-in-Chain-2.result.now is))

pub unfold_formula-returns-in_err-take-in-Modal-clause-refused : goal.unfold_formula-returns-in_err-take-in-Modal-clause-refused
unfold_formula-returns-in_err-take-in-Modal-clause-refused t c =
    let parts = modal-parts c.args.formulas.now c.args.scope.now.names c.args.room.now.operators _ _ _ _ _ _ c.in-Modal.is refl in
    let IsFault = IsFaultWithin c.args.formulas.now c.args.scope.now.names c.args.room.now.operators c.args.formula.now c.args.formula.now in
    of-many-by c.from_residual-in_err-take-in-Modal.result c.in_err-take-in-Modal.field-0.0 (c.args.room.now.operators < 1) c.in-Modal.place IsFault
    c.from_residual-in_err-take-in-Modal.ensures.1 (λ p o. parts.first p (inl (token-over _ _ _ parts.counted o.0, o.1))) c.in_err-take-in-Modal.ensures.refused

pub unfold_formula-returns-in_err-steps-in-Modal-clause-refused : goal.unfold_formula-returns-in_err-steps-in-Modal-clause-refused
unfold_formula-returns-in_err-steps-in-Modal-clause-refused t c =
    let m = erase (form_in c.args.formulas.now) in
    let ρ = scope_within c.args.formulas.now c.args.scope.now.names in
    let parts = modal-parts c.args.formulas.now c.args.scope.now.names c.args.room.now.operators _ _ _ _ _ _ c.in-Modal.is refl in
    part-of c.from_residual-in_err-steps-in-Modal.result c.in_err-steps-in-Modal.field-0.0 _ _ c.from_residual-in_err-steps-in-Modal.ensures.1 c.in_err-steps-in-Modal.ensures.refused
    (λ p is. parts.first p (modality-so m _ _ (set-over _ _ _ _ _ c.in_ok-take-in-Modal.ensures.taken parts.counted) p ρ c.in-Modal.place (step_set_form c.in-Modal.steps) is))

pub unfold_formula-returns-in_err-operand-in-Modal-clause-refused : goal.unfold_formula-returns-in_err-operand-in-Modal-clause-refused
unfold_formula-returns-in_err-operand-in-Modal-clause-refused t c =
    let parts = modal-parts c.args.formulas.now c.args.scope.now.names c.args.room.now.operators _ _ _ _ _ _ c.in-Modal.is c.deref-in-Modal.ensures in
    second-refused c.deref-in-Modal.result.now _ c.from_residual-in_err-operand-in-Modal.result c.in_err-operand-in-Modal.field-0.0 parts
    (operand-over _ _ _ _ _ _ c.in_ok-take-in-Modal.ensures.taken c.in_ok-steps-in-Modal.ensures.room parts.counted)
    c.from_residual-in_err-operand-in-Modal.ensures.1 c.in_err-operand-in-Modal.ensures.refused

pub unfold_formula-returns-in_err-take-in-Fixpoint-clause-refused : goal.unfold_formula-returns-in_err-take-in-Fixpoint-clause-refused
unfold_formula-returns-in_err-take-in-Fixpoint-clause-refused t c =
    let parts = fixpoint-parts c.args.formulas.now c.args.scope.now.names c.args.room.now.operators _ _ _ _ _ _ c.in-Fixpoint.is refl in
    token-refused c.in-Fixpoint.place c.from_residual-in_err-take-in-Fixpoint.result c.in_err-take-in-Fixpoint.field-0.0 parts
    c.from_residual-in_err-take-in-Fixpoint.ensures.1 c.in_err-take-in-Fixpoint.ensures.refused

pub unfold_formula-returns-in_err-body-in-Fixpoint-clause-refused : goal.unfold_formula-returns-in_err-body-in-Fixpoint-clause-refused
unfold_formula-returns-in_err-body-in-Fixpoint-clause-refused t c =
    let parts = fixpoint-parts c.args.formulas.now c.args.scope.now.names c.args.room.now.operators _ _ _ _ _ _ c.in-Fixpoint.is c.deref-in-Fixpoint.ensures in
    second-refused c.deref-in-Fixpoint.result.now _ c.from_residual-in_err-body-in-Fixpoint.result c.in_err-body-in-Fixpoint.field-0.0 parts
    (behind-over _ _ _ _ c.in_ok-take-in-Fixpoint.ensures.taken parts.counted) c.from_residual-in_err-body-in-Fixpoint.ensures.1 c.in_err-body-in-Fixpoint.ensures.refused

pub unfold_formula-returns-in_err-tuples-in-Quantified-clause-refused : goal.unfold_formula-returns-in_err-tuples-in-Quantified-clause-refused
unfold_formula-returns-in_err-tuples-in-Quantified-clause-refused t c =
    let IsFault = IsFaultWithin c.args.formulas.now c.args.scope.now.names c.args.room.now.operators c.args.formula.now in
    let named : map variable_of c.deref-in-Quantified-2.result.now ≡ erased_variables (variable_forms c.in-Quantified.variables.items) =
    ap (map variable_of) c.deref-in-Quantified-2.ensures.value ∙ c.in_ok-variables-in-Quantified.ensures
    ∙ ap (λ (gs : List Variables). erased_variables (variable_forms gs)) c.deref-in-Quantified.ensures.value in
    of-tuples-by c.from_residual-in_err-tuples-in-Quantified.result c.in_err-tuples-in-Quantified.field-0.0 c.in-Quantified.place
    (tuples_in c.unfolder.result.now (map variable_of c.deref-in-Quantified-2.result.now))
    (IsFault c.args.formula.now) c.from_residual-in_err-tuples-in-Quantified.ensures.1
    (λ p o. subst (λ (g : tree.Formula). IsFault g p) (sym c.in-Quantified.is) (inl (
      subst (λ (ys : List syntax.Variable). 8192 < length (tuples_in c.args.formulas.now ys)) named
          (subst (λ (v : Unfolder). 8192 < length (tuples_in v (map variable_of c.deref-in-Quantified-2.result.now))) c.unfolder.ensures o.1),
      o.0,
    )))
    c.in_err-tuples-in-Quantified.ensures.refused

pub unfold_formula-returns-in_err-operands-in-Quantified-clause-refused : goal.unfold_formula-returns-in_err-operands-in-Quantified-clause-refused
unfold_formula-returns-in_err-operands-in-Quantified-clause-refused t c =
    let u = c.args.formulas.now in
    let body = box_value c.in-Quantified.body in
    let groups = variable_forms c.in-Quantified.variables.items in
    let place = c.in-Quantified.place in
    let made : Copies = record { place = c.in-Quantified.place; variables = c.deref-in-Quantified-3.result; tuples = c.deref-in-Quantified-4.result; outer = c.args.scope } in
    let are = are-copies u c.args.scope.now.names made _ _ _ _ _ refl c.deref-in-Quantified-3.ensures.value c.deref-in-Quantified-4.ensures.value c.in_ok-variables-in-Quantified.ensures
    c.deref-in-Quantified.ensures.value
    (c.in_ok-tuples-in-Quantified.ensures.tuples ∙ ap (λ (v : Unfolder). tuples_in v (map variable_of c.deref-in-Quantified-2.result.now)) c.unfolder.ensures)
    c.deref-in-Quantified-2.ensures.value in
    let whole = copies-counted u c.args.scope.now.names made body c.in-Quantified.quantifier place groups are ∙ sym (ap (operators_in u c.args.scope.now.names) c.in-Quantified.is) in
    let Many = c.args.room.now.operators < operators_in u c.args.scope.now.names c.args.formula.now in
    let IsFault = IsFaultWithin u c.args.scope.now.names c.args.room.now.operators c.args.formula.now in
    let IsOfCopies : List syntax.Variable → List (List syntax.Term) → UnfoldingFault → Type 0 =
    λ xs kss. IsFaultOfCopies (form_in u) Many (scope_within u c.args.scope.now.names) place xs kss (formula_form body) in
    part-of c.from_residual-in_err-operands-in-Quantified.result c.in_err-operands-in-Quantified.field-0.0 _ (IsFault c.args.formula.now) c.from_residual-in_err-operands-in-Quantified.ensures.1
    c.in_err-operands-in-Quantified.ensures.refused
    (λ p is. subst (λ (g : tree.Formula). IsFault g p) (sym c.in-Quantified.is)
    (inr (subst (λ (xs : List syntax.Variable). IsOfCopies xs (tuples_in u (erased_variables groups)) p) are.variables
    (subst (λ (kss : List (List syntax.Term)). IsOfCopies (map variable_of made.variables.now) kss p) are.tuples
    (copies-so (form_in u) _ Many (same-over _ _ _ whole) p (scope_within u c.args.scope.now.names) place (map variable_of made.variables.now) (map tuple_of c.deref-in-Quantified-4.result.now)
    (formula_form body) is)))))
