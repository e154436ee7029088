-- The last of the copies of assignments that isn't seen to be to another element: those behind a place are passed over.
use Rattle.std.proofs.Common.{◌≡◌, ◌<◌, ◌≤◌, ◌+◌, ◌-◌, ℕ, suc, Bool, true, false, List, [], map, take, length, get_or, inl, refl, sym, ◌∙◌, ap, subst, arith, not, string_bytes}
use Rattle.std.specs.Prelude.{IfErr, IsErrAnd, MatchResult, Result, codes}
use Rattle.pb_base.specs.declared.or_memory.OrMemory.{OrMemory}
use Rattle.pb_base.specs.declared.or_memory.OrMemory.TheVariants.{Refused}
use Rattle.pb_text_tree.specs.declared.place.Place.{Place}
use Rattle.pb_text_meaning.specs.Syntax.{Name, Term, same_name}
use Rattle.pb_protocol_unfolder_terms.specs.declared.copies.AssignmentCopy.{AssignmentCopy}
use Rattle.pb_protocol_tree.specs.Form.{assignment_form}
use Rattle.pb_protocol_folding.specs.Folding.{folded}
use Rattle.pb_protocol_folding.specs.View as tree
use Rattle.pb_protocol_unfolder_terms.specs.declared.assigned.Element.{Element}
use Rattle.pb_protocol_unfolder_terms.specs.declared.assigned.Latest.{Latest}
use Rattle.pb_protocol_unfolder_terms.specs.declared.assigned.Latest.TheVariants as latest
use Rattle.pb_protocol_unfolder_terms.specs.declared.context.Context.{Context}
use Rattle.pb_protocol_unfolder_terms.specs.declared.fault.UnfoldFault.{UnfoldFault}
use Rattle.pb_protocol_unfolder_terms.specs.declared.fault.UnfoldRule.TheVariants as rule
use Rattle.pb_protocol_unfolder_terms.specs.declared.level.Level.{Level}
use Rattle.pb_protocol_unfolder_terms.specs.declared.scope.TermScope.{TermScope}
use Rattle.pb_protocol_unfolder_terms.specs.declared.unfolded.Unfolded.{Unfolded}
use Rattle.pb_protocol_unfolder_terms.specs.Assigned.{IsLatest, choice_by, element_said, placed_by, scope_around, scope_inside}
use Rattle.pb_protocol_unfolder_terms.specs.Behind.{IsBehind}
use Rattle.pb_protocol_unfolder_terms.specs.Contexts.{folding_in, forms_in, spec_in}
use Rattle.pb_protocol_unfolder_terms.specs.Tells.{surroundings_in}
use Rattle.pb_protocol_unfolder_terms.specs.TermFaults.{HasValues, IfFaultAt, IsFaultInAssignment, IsFaultInCopies}
use Rattle.pb_protocol_unfolder_terms.specs.Unfolding.{IsRefusal, IsUnfolded, operator_count}
use Rattle.pb_protocol_unfolder_terms.proofs.AfterLemmas.{condition_at, element_after, value_at}
use Rattle.pb_protocol_unfolder_terms.proofs.ArgumentLemmas.{taken-all, taken-none, taken-there}
use Rattle.pb_protocol_unfolder_terms.proofs.AssignedLemmas.{after-other, after-same, not-fails, not-holds}
use Rattle.pb_protocol_unfolder_terms.proofs.BehindLemmas.{behind-refused, choice-behind, further-behind, nothing-passed}
use Rattle.pb_protocol_unfolder_terms.proofs.ChainLemmas.{err-kept, no-room}
use Rattle.pb_protocol_unfolder_terms.proofs.ChoiceLemmas.{condition-refused}
use Rattle.pb_protocol_unfolder_terms.proofs.LargeLemmas.{copies-in, copies-room}
use Rattle.pb_protocol_unfolder_terms.proofs.MetLemmas.{at-weaker, err-told, item-in}
use Rattle.pb_protocol_unfolder_terms.proofs.ReadLemmas.{some-is}

-- the first m copies stand for all
abbrev pub IsPassedTo : Context → Level → TermScope → List AssignmentCopy → Element → ℕ → Bool → ℕ → Type 0
IsPassedTo k v s bs e m passed left = (sort : Name) → IsBehind (folding_in k) v.room (element_after k v s bs e sort) (element_after k v s (take m bs) e sort) passed left

-- what a test of two texts says of their names
pub names-differ : {x y shown other : Name} {b : Bool} → shown ≡ x → other ≡ y → b ≡ not (same_name shown other) → b ≡ true → same_name x y ≡ false
names-differ {y = y} {shown = shown} {other = other} e f test holds =
    ap (λ (z : Name). same_name z y) (sym e) ∙ ap (same_name shown) (sym f) ∙ not-holds (same_name shown other) (sym test ∙ holds)

pub names-agree : {x y shown other : Name} {b : Bool} → shown ≡ x → other ≡ y → b ≡ not (same_name shown other) → b ≡ false → same_name x y ≡ true
names-agree {y = y} {shown = shown} {other = other} e f test fails =
    ap (λ (z : Name). same_name z y) (sym e) ∙ ap (same_name shown) (sym f) ∙ not-fails (same_name shown other) (sym test ∙ fails)

module _ (k : Context) (v : Level) (s : TermScope) (bs : List AssignmentCopy) (e : Element) where
  -- none is passed over yet
  pub none-passed : IsPassedTo k v s bs e (length bs) false v.room
  none-passed sort =
      nothing-passed (folding_in k) v.room (element_after k v s bs e sort) (element_after k v s (take (length bs) bs) e sort)
      (ap (λ (ds : List AssignmentCopy). element_after k v s ds e sort) (taken-all bs (length bs) (λ h. omega (arith, h))))

  -- one to another array is left out
  pub other-passed : (m : ℕ) {a : AssignmentCopy} {passed : Bool} {left : ℕ} → 0 < m → m ≤ length bs → a ≡ get_or bs (m - 1) a
      → same_name (string_bytes a.assignment.now.variable.text) (string_bytes e.array.now.text) ≡ false → IsPassedTo k v s bs e m passed left → IsPassedTo k v s bs e (m - 1) passed left
  other-passed m {a = a} {passed = passed} {left = left} some within is other h sort =
      let next : m ≡ suc (m - 1) = omega arith in
      subst (λ (z : Term). IsBehind (folding_in k) v.room (element_after k v s bs e sort) z passed left)
      (ap (λ (j : ℕ). element_after k v s (take j bs) e sort) next
      ∙ after-other (spec_in k) (forms_in k v.definitions) (scope_around k s) bs (m - 1) a (element_said e sort) (omega arith) is other) (h sort)

  -- none is left
  pub all-passed : {m : ℕ} {passed : Bool} {left : ℕ} → m ≡ 0 → IsPassedTo k v s bs e m passed left
      → (sort : Name) → IsBehind (folding_in k) v.room (element_after k v s bs e sort) (element_after k v s [] e sort) passed left
  all-passed {passed = passed} {left = left} none h sort =
      subst (λ (z : Term). IsBehind (folding_in k) v.room (element_after k v s bs e sort) z passed left)
      (ap (λ (m : ℕ). element_after k v s (take m bs) e sort) none ∙ ap (λ (ds : List AssignmentCopy). element_after k v s ds e sort) (taken-none bs)) (h sort)

-- the copy at the place is to the element's array, and those behind it are passed over
pub record IsNextAt (k : Context) (v : Level) (s : TermScope) (bs : List AssignmentCopy) (e : Element) (p : ℕ) (a : AssignmentCopy) (passed : Bool) (left : ℕ) : Type 0 where
  pub within : p < length bs
  pub there : a ≡ get_or bs p a
  pub name : same_name (string_bytes a.assignment.now.variable.text) (string_bytes e.array.now.text) ≡ true
  pub behind : (sort : Name) → IsBehind (folding_in k) v.room (element_after k v s bs e sort) (choice_by k v.definitions s (take p bs) a (element_said e sort)) passed left

pub next-at : (k : Context) (v : Level) (s : TermScope) (bs : List AssignmentCopy) (e : Element) (m : ℕ) {a : AssignmentCopy} {passed : Bool} {left : ℕ} → 0 < m → m ≤ length bs
    → a ≡ get_or bs (m - 1) a → same_name (string_bytes a.assignment.now.variable.text) (string_bytes e.array.now.text) ≡ true → IsPassedTo k v s bs e m passed left
    → IsNextAt k v s bs e (m - 1) a passed left
next-at k v s bs e m {a = a} {passed = passed} {left = left} some within is same h = record {
  within = omega arith;
  there = is;
  name = same;
  behind = λ sort.
      let next : m ≡ suc (m - 1) = omega arith in
      subst (λ (z : Term). IsBehind (folding_in k) v.room (element_after k v s bs e sort) z passed left)
      (ap (λ (j : ℕ). element_after k v s (take j bs) e sort) next
      ∙ after-same (spec_in k) (forms_in k v.definitions) (scope_around k s) bs (m - 1) a (element_said e sort) (omega arith) is same) (h sort);
}

-- its index is compared with the element's, with room for so many operators
pub record IsComparedAt (k : Context) (v : Level) (s : TermScope) (bs : List AssignmentCopy) (e : Element) (p : ℕ) (a : AssignmentCopy) (passed : Bool) (left inner : ℕ) : Type 0 where
  pub next : IsNextAt k v s bs e p a passed left
  pub one : left ≡ suc inner

module _ {k : Context} {v : Level} {s : TermScope} {bs : List AssignmentCopy} {e : Element} {p : ℕ} {a : AssignmentCopy} {passed : Bool} {left : ℕ} (is : IsNextAt k v s bs e p a passed left) where
  pub next-refused : (r : Result Latest (OrMemory UnfoldFault)) (d : OrMemory UnfoldFault) → IsErrAnd r (λ f. f ≡ d)
      → ((sort : Name) → IsRefusal left (choice_by k v.definitions s (take p bs) a (element_said e sort)) d) → (sort : Name)
      → MatchResult r (IsLatest k v.definitions v.room s bs (element_said e sort)) (IsRefusal v.room (element_after k v s bs e sort))
  next-refused r d same h sort =
      err-kept r d (IsLatest k v.definitions v.room s bs (element_said e sort)) (IsRefusal v.room (element_after k v s bs e sort)) same
      (behind-refused (folding_in k) v.room (element_after k v s bs e sort) (choice_by k v.definitions s (take p bs) a (element_said e sort)) passed left d (is.behind sort) (h sort))

  -- there is no room for the choice
  pub next-without-room : {place : Place} (r : Result Latest (OrMemory UnfoldFault)) (d : OrMemory UnfoldFault) → IsErrAnd r (λ f. f ≡ d)
      → d ≡ Refused (record { rule = rule.Operators; place = place }) → left ≡ 0
      → (sort : Name) → MatchResult r (IsLatest k v.definitions v.room s bs (element_said e sort)) (IsRefusal v.room (element_after k v s bs e sort))
  next-without-room {place = place} r d same refused none =
      next-refused r d same (λ sort. no-room left (choice_by k v.definitions s (take p bs) a (element_said e sort)) d place refused (omega (arith, none)))

  pub next-room-told : (r : Result Latest (OrMemory UnfoldFault)) (d : OrMemory UnfoldFault) → IsErrAnd r (λ f. f ≡ d)
      → d ≡ Refused (record { rule = rule.Operators; place = a.assignment.now.variable.place })
      → IfErr r (IfFaultAt (IsFaultInCopies (surroundings_in k) v.depth v.definitions (placed_by k s bs)))
  next-room-told r d same refused =
      err-told r d (IfFaultAt (IsFaultInCopies (surroundings_in k) v.depth v.definitions (placed_by k s bs))) same
      (copies-room (surroundings_in k) v.depth v.definitions k s bs a rule.Operators d refused (item-in bs p a is.within is.there) (λ w token. token))

  pub compared-at : {inner : ℕ} → left ≡ suc inner → IsComparedAt k v s bs e p a passed left inner
  compared-at one = record { next = is; one = one }

module _ {k : Context} {v : Level} {s : TermScope} {bs : List AssignmentCopy} {e : Element} {p : ℕ} {a : AssignmentCopy} {passed : Bool} {left inner : ℕ}
    (is : IsComparedAt k v s bs e p a passed left inner) where
  -- there is no room for the condition
  pub comparison-refused : (r : Result Latest (OrMemory UnfoldFault)) (d : OrMemory UnfoldFault) → IsErrAnd r (λ f. f ≡ d)
      → ((sort : Name) → IsRefusal inner (condition_at k v s a e sort) d)
      → (sort : Name) → MatchResult r (IsLatest k v.definitions v.room s bs (element_said e sort)) (IsRefusal v.room (element_after k v s bs e sort))
  comparison-refused r d same refused =
      next-refused is.next r d same (λ sort.
      condition-refused left inner (codes "if") (condition_at k v s a e sort) (value_at k v s a) (element_after k v s (take p bs) e sort) d is.one (refused sort))

  -- it is false, and the copy is passed over
  pub condition-passed : {room : ℕ} {u : Unfolded} → ((sort : Name) → IsUnfolded (folding_in k) true inner (condition_at k v s a e sort) u)
      → tree.term_of u.term ≡ Term.Truth false → room ≡ u.room → IsPassedTo k v s bs e p true room
  condition-passed {room = room} unfolded fails same sort =
      let c = unfolded sort in
      further-behind (folding_in k) v.room (element_after k v s bs e sort) (condition_at k v s a e sort) (value_at k v s a) (element_after k v s (take p bs) e sort)
      passed left inner room is.one (omega (arith, same, c.room)) (sym c.term ∙ fails) (is.next.behind sort)

  -- or it counts
  pub condition-counts : {u : Unfolded} → ((sort : Name) → IsUnfolded (folding_in k) true inner (condition_at k v s a e sort) u)
      → (sort : Name) → IsLatest k v.definitions v.room s bs (element_said e sort) (latest.Assigned p u)
  condition-counts {u = u} unfolded sort =
      let c = unfolded sort in (
        is.next.within,
        λ d there.
            subst (λ (z : AssignmentCopy). (tree.term_of u.term ≡ folded (folding_in k) true (condition_at k v s z e sort))
            × IsBehind (folding_in k) v.room (element_after k v s bs e sort) (choice_by k v.definitions s (take p bs) z (element_said e sort)) true
            (u.room + suc (operator_count (condition_at k v s z e sort))))
            (some-is a d (sym (taken-there bs p a is.next.within is.next.there) ∙ there)) (
              c.term,
              choice-behind (folding_in k) v.room (element_after k v s bs e sort) (condition_at k v s a e sort) (value_at k v s a)
                  (element_after k v s (take p bs) e sort) passed left inner u.room is.one c.room (is.next.behind sort),
            ),
      )

  -- a fault of the comparison is one of the assignment
  pub comparison-told : (r : Result Latest (OrMemory UnfoldFault)) (d : OrMemory UnfoldFault) → IsErrAnd r (λ f. f ≡ d)
      → (HasValues s → IfFaultAt (IsFaultInAssignment (surroundings_in k) v.depth v.definitions (scope_inside k s a) (assignment_form a.assignment.now)) d)
      → HasValues s → IfErr r (IfFaultAt (IsFaultInCopies (surroundings_in k) v.depth v.definitions (placed_by k s bs)))
  comparison-told r d same faults values =
      let m = surroundings_in k in
      let Q = IsFaultInCopies m v.depth v.definitions (placed_by k s bs) in
      err-told r d (IfFaultAt Q) same
      (at-weaker (IsFaultInAssignment m v.depth v.definitions (scope_inside k s a) (assignment_form a.assignment.now)) Q d
      (λ f q o. copies-in m v.depth v.definitions k s bs a f q (item-in bs p a is.next.within is.next.there) o) (faults values))
