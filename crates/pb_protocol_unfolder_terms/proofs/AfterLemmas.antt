-- An element after copies of assignments: the one at a place counts where its condition holds, and else those before it.
use Rattle.std.proofs.Common.{◌≡◌, ◌<◌, ◌+◌, ℕ, suc, true, false, List, [], map, take, length, get_or, inl, inr, refl, sym, ◌∙◌, Some, subst, arith, string_bytes}
use Rattle.std.specs.Prelude.{IfErr, IsErrAnd, Result, codes}
use Rattle.pb_base.specs.declared.or_memory.OrMemory.{OrMemory}
use Rattle.pb_text_tree.specs.declared.name.Name as declared_name
use Rattle.pb_text_tree.specs.declared.sort.SortDeclaration.{SortDeclaration}
use Rattle.pb_text_meaning.specs.Syntax.{Name, Term}
use Rattle.pb_protocol_tree.specs.Form.{assignment_form}
use Rattle.pb_protocol_folding.specs.Folding.{folded, truth_value}
use Rattle.pb_protocol_folding.specs.View as tree
use Rattle.pb_protocol_unfolding.specs.PutIn.{choice, put_in}
use Rattle.pb_protocol_unfolder_terms.specs.declared.copies.AssignmentCopy.{AssignmentCopy}
use Rattle.pb_protocol_unfolder_terms.specs.declared.assigned.Element.{Element}
use Rattle.pb_protocol_unfolder_terms.specs.declared.assigned.Latest.{Latest}
use Rattle.pb_protocol_unfolder_terms.specs.declared.assigned.Latest.TheVariants as latest
use Rattle.pb_protocol_unfolder_terms.specs.declared.context.Context.{Context}
use Rattle.pb_protocol_unfolder_terms.specs.declared.fault.UnfoldFault.{UnfoldFault}
use Rattle.pb_protocol_unfolder_terms.specs.declared.level.Level.{Level}
use Rattle.pb_protocol_unfolder_terms.specs.declared.scope.TermScope.{TermScope}
use Rattle.pb_protocol_unfolder_terms.specs.declared.unfolded.Unfolded.{Unfolded}
use Rattle.pb_protocol_unfolder_terms.specs.Assigned.{IsLatest, after_by, choice_by, condition_by, element_said, placed_by, scope_inside}
use Rattle.pb_protocol_unfolder_terms.specs.Behind.{IsBehind}
use Rattle.pb_protocol_unfolder_terms.specs.Contexts.{folding_in, forms_in, spec_in}
use Rattle.pb_protocol_unfolder_terms.specs.Tells.{surroundings_in}
use Rattle.pb_protocol_unfolder_terms.specs.TermFaults.{HasValues, IfFaultAt, IsFaultInAssignment, IsFaultInCopies}
use Rattle.pb_protocol_unfolder_terms.specs.Unfolding.{IsRefusal, IsUnfolded, Unfolds, operator_count}
use Rattle.pb_protocol_unfolder_terms.proofs.ArgumentLemmas.{taken-there}
use Rattle.pb_protocol_unfolder_terms.proofs.BehindLemmas.{behind-refused, behind-unfolded}
use Rattle.pb_protocol_unfolder_terms.proofs.ChainLemmas.{err-kept}
use Rattle.pb_protocol_unfolder_terms.proofs.ChoiceLemmas.{IsChoice, IsChosen, chosen-refused, if-named, right-refused, truth-said, two-unfolded}
use Rattle.pb_protocol_unfolder_terms.proofs.LargeLemmas.{copies-before, copies-in}
use Rattle.pb_protocol_unfolder_terms.proofs.MetLemmas.{at-weaker, err-told, item-in}

-- the element after all copies, and where the condition holds
abbrev pub element_after : Context → Level → TermScope → List AssignmentCopy → Element → Name → Term
element_after k v s bs e sort = after_by k v.definitions s bs (element_said e sort)

abbrev pub condition_at : Context → Level → TermScope → AssignmentCopy → Element → Name → Term
condition_at k v s a e sort = condition_by k v.definitions s a (element_said e sort)

-- what is assigned
abbrev pub value_at : Context → Level → TermScope → AssignmentCopy → Term
value_at k v s a = put_in (spec_in k) (forms_in k v.definitions) (scope_inside k s a) (tree.term_of a.assignment.now.value.term)

-- the copy at the place counts
pub record IsAssignedAt (k : Context) (v : Level) (s : TermScope) (bs : List AssignmentCopy) (e : Element) (p : ℕ) (a : AssignmentCopy) (condition : Unfolded) : Type 0 where
  pub within : p < length bs
  pub there : a ≡ get_or bs p a
  pub holds : (sort : Name) → tree.term_of condition.term ≡ folded (folding_in k) true (condition_at k v s a e sort)
  pub behind : (sort : Name) → IsBehind (folding_in k) v.room (element_after k v s bs e sort) (choice_by k v.definitions s (take p bs) a (element_said e sort)) true
      (condition.room + suc (operator_count (condition_at k v s a e sort)))

module _ (k : Context) (v : Level) (s : TermScope) (bs : List AssignmentCopy) (e : Element) {l : Latest} {p : ℕ} {condition : Unfolded}
    (found : (sort : Name) → IsLatest k v.definitions v.room s bs (element_said e sort) l) (is : l ≡ latest.Assigned p condition) where
  latest-at : (sort : Name) → IsLatest k v.definitions v.room s bs (element_said e sort) (latest.Assigned p condition)
  latest-at sort = subst (IsLatest k v.definitions v.room s bs (element_said e sort)) is (found sort)

  pub latest-within : p < length bs
  latest-within = (latest-at []).0

  pub assigned-at : {a : AssignmentCopy} → a ≡ get_or bs p a → IsAssignedAt k v s bs e p a condition
  assigned-at {a = a} there = record {
    within = latest-within;
    there = there;
    holds = λ sort. ((latest-at sort).1 a (taken-there bs p a latest-within there)).0;
    behind = λ sort. ((latest-at sort).1 a (taken-there bs p a latest-within there)).1;
  }

module _ {k : Context} {v : Level} {s : TermScope} {bs : List AssignmentCopy} {e : Element} {p : ℕ} {a : AssignmentCopy} {condition : Unfolded} (is : IsAssignedAt k v s bs e p a condition) where
  -- its condition holds
  pub value-unfolded : {u r : Unfolded} → Some true ≡ truth_value (tree.term_of condition.term) → IsUnfolded (folding_in k) false condition.room (value_at k v s a) u
      → IsChosen u r → (sort : Name) → IsUnfolded (folding_in k) false v.room (element_after k v s bs e sort) r
  value-unfolded {r = r} says h chosen sort =
      let b = condition_at k v s a e sort in
      let x = value_at k v s a in
      let rest = element_after k v s (take p bs) e sort in
      behind-unfolded (folding_in k) v.room (element_after k v s bs e sort) (choice b x rest) (condition.room + suc (operator_count b)) r refl (is.behind sort)
      (chosen (folding_in k) (codes "if") b x rest condition.room (condition.room + suc (operator_count b)) true false if-named (sym (is.holds sort) ∙ truth-said condition.term true says) h
      (omega arith))

  -- there is no room for its term
  pub value-refused : (r : Result Unfolded (OrMemory UnfoldFault)) (d : OrMemory UnfoldFault) → IsErrAnd r (λ f. f ≡ d)
      → IsRefusal condition.room (value_at k v s a) d
      → (sort : Name) → Unfolds (folding_in k) false v.room (element_after k v s bs e sort) r
  value-refused r d same h sort =
      let b = condition_at k v s a e sort in
      let x = value_at k v s a in
      let rest = element_after k v s (take p bs) e sort in
      err-kept r d _ (IsRefusal v.room (element_after k v s bs e sort)) same
      (behind-refused (folding_in k) v.room (element_after k v s bs e sort) (choice b x rest) true (condition.room + suc (operator_count b)) d (is.behind sort)
      (chosen-refused (condition.room + suc (operator_count b)) condition.room (codes "if") b x rest true d (omega arith) h))

  -- or for what those before it give
  pub rest-refused : {left : Unfolded} (r : Result Unfolded (OrMemory UnfoldFault)) (d : OrMemory UnfoldFault) → IsErrAnd r (λ f. f ≡ d)
      → IsUnfolded (folding_in k) false condition.room (value_at k v s a) left
      → ((sort : Name) → IsRefusal left.room (element_after k v s (take p bs) e sort) d) → (sort : Name) → Unfolds (folding_in k) false v.room (element_after k v s bs e sort) r
  rest-refused {left = left} r d same l h sort =
      let b = condition_at k v s a e sort in
      let x = value_at k v s a in
      let rest = element_after k v s (take p bs) e sort in
      err-kept r d _ (IsRefusal v.room (element_after k v s bs e sort)) same
      (behind-refused (folding_in k) v.room (element_after k v s bs e sort) (choice b x rest) true (condition.room + suc (operator_count b)) d (is.behind sort)
      (right-refused (condition.room + suc (operator_count b)) condition.room left.room (codes "if") b x rest d (omega arith) l.room (h sort)))

  -- it is a choice of both
  pub rest-unfolded : (name : declared_name.Name) {D : List SortDeclaration} {left right r : Unfolded} → D ≡ k.declarations.now → string_bytes name.text ≡ codes "if"
      → IsUnfolded (folding_in k) false condition.room (value_at k v s a) left
      → ((sort : Name) → IsUnfolded (folding_in k) false left.room (element_after k v s (take p bs) e sort) right)
      → IsChoice D name condition.term left right r → (sort : Name) → IsUnfolded (folding_in k) false v.room (element_after k v s bs e sort) r
  rest-unfolded name {r = r} sorts named l h choose sort =
      let b = condition_at k v s a e sort in
      let x = value_at k v s a in
      let rest = element_after k v s (take p bs) e sort in
      behind-unfolded (folding_in k) v.room (element_after k v s bs e sort) (choice b x rest) (condition.room + suc (operator_count b)) r refl (is.behind sort)
      (two-unfolded k false name condition.term sorts named refl (is.holds sort) l (h sort) (omega arith) choose)

  -- a fault of its term, and of those before it, which have a level less
  pub value-told : (r : Result Unfolded (OrMemory UnfoldFault)) (d : OrMemory UnfoldFault) → IsErrAnd r (λ f. f ≡ d)
      → (HasValues s → IfFaultAt (IsFaultInAssignment (surroundings_in k) v.depth v.definitions (scope_inside k s a) (assignment_form a.assignment.now)) d)
      → HasValues s → IfErr r (IfFaultAt (IsFaultInCopies (surroundings_in k) v.depth v.definitions (placed_by k s bs)))
  value-told r d same faults values =
      let m = surroundings_in k in
      let Q = IsFaultInCopies m v.depth v.definitions (placed_by k s bs) in
      err-told r d (IfFaultAt Q) same
      (at-weaker (IsFaultInAssignment m v.depth v.definitions (scope_inside k s a) (assignment_form a.assignment.now)) Q d
      (λ f q o. copies-in m v.depth v.definitions k s bs a f q (item-in bs p a is.within is.there) o) (faults values))

  pub rest-told : {less : ℕ} (r : Result Unfolded (OrMemory UnfoldFault)) (d : OrMemory UnfoldFault) → IsErrAnd r (λ f. f ≡ d) → suc less ≡ v.depth
      → (HasValues s → IfFaultAt (IsFaultInCopies (surroundings_in k) less v.definitions (placed_by k s (take p bs))) d)
      → HasValues s → IfErr r (IfFaultAt (IsFaultInCopies (surroundings_in k) v.depth v.definitions (placed_by k s bs)))
  rest-told {less = less} r d same more faults values =
      let m = surroundings_in k in
      let Q = IsFaultInCopies m v.depth v.definitions (placed_by k s bs) in
      err-told r d (IfFaultAt Q) same
      (at-weaker (IsFaultInCopies m less v.definitions (placed_by k s (take p bs))) Q d
      (λ f q o. subst (λ (j : ℕ). IsFaultInCopies m j v.definitions (placed_by k s bs) f q) more
      (copies-before m less v.definitions k s p bs f q is.within o)) (faults values))
