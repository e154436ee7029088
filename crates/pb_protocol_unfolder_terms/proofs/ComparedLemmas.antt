-- Arguments that are compared with written values: the first with the first, and the others behind it.
use Rattle.std.proofs.Common.{◌≡◌, ◌<◌, ◌≤◌, ◌+◌, ◌-◌, ℕ, suc, Bool, true, false, List, drop, length, take, Some, sym, ◌∙◌, subst, arith}
use Rattle.std.specs.List.{slice_get}
use Rattle.std.specs.Prelude.{Result, IsErrAnd}
use Rattle.pb_base.specs.declared.or_memory.OrMemory.{OrMemory}
use Rattle.pb_base.specs.declared.or_memory.OrMemory.TheVariants.{Refused}
use Rattle.pb_text_tree.specs.declared.place.Place.{Place}
use Rattle.pb_text_tree.specs.declared.sort.SortDeclaration.{SortDeclaration}
use Rattle.pb_text_tree.specs.declared.term.Argument.{Argument}
use Rattle.pb_text_tree.specs.declared.term.Term as declared_term
use Rattle.pb_text_meaning.specs.Syntax.{Operator, Spec, Term}
use Rattle.pb_protocol_folding.specs.Folding.{folded}
use Rattle.pb_protocol_folding.specs.View as tree
use Rattle.pb_protocol_unfolder_terms.specs.declared.assigned.Compared.{Compared}
use Rattle.pb_protocol_unfolder_terms.specs.declared.context.Context.{Context}
use Rattle.pb_protocol_unfolder_terms.specs.declared.fault.UnfoldFault.{UnfoldFault}
use Rattle.pb_protocol_unfolder_terms.specs.declared.fault.UnfoldRule.TheVariants as rule
use Rattle.pb_protocol_unfolder_terms.specs.declared.level.Level.{Level}
use Rattle.pb_protocol_unfolder_terms.specs.declared.scope.TermScope.{TermScope}
use Rattle.pb_protocol_unfolder_terms.specs.declared.sorts.Variable.{Variable}
use Rattle.pb_protocol_unfolder_terms.specs.declared.unfolded.Unfolded.{Unfolded}
use Rattle.pb_protocol_unfolder_terms.specs.declared.written.Written.{Written}
use Rattle.pb_protocol_unfolder_terms.specs.Assigned.{compared_by}
use Rattle.pb_protocol_unfolder_terms.specs.Contexts.{folding_in, forms_in, spec_in}
use Rattle.pb_protocol_unfolder_terms.specs.Met.{Occurrence}
use Rattle.pb_protocol_unfolder_terms.specs.Puts.{put}
use Rattle.pb_protocol_unfolder_terms.specs.Scopes.{scope_of}
use Rattle.pb_protocol_unfolder_terms.specs.Tells.{AreIndicesMet}
use Rattle.pb_protocol_unfolder_terms.specs.Unfolding.{IsRefusal, IsUnfolded, Unfolds, operator_count}
use Rattle.pb_protocol_unfolder_terms.proofs.ArgumentLemmas.{behind-first}
use Rattle.pb_protocol_unfolder_terms.proofs.AssignedLemmas.{compared-first, comparing}
use Rattle.pb_protocol_unfolder_terms.proofs.ChainLemmas.{err-kept, no-room, refusal-weaker}
use Rattle.pb_protocol_unfolder_terms.proofs.ChoosingLemmas.{equal_to}
use Rattle.pb_protocol_unfolder_terms.proofs.MetLemmas.{indices-others}

-- these arguments are these values
abbrev pub comparing_by : Context → Level → TermScope → List Argument → List Written → Term
comparing_by k v s given vs = comparing (spec_in k) (forms_in k v.definitions) (scope_of (spec_in k) (forms_in k) s) given vs

-- an argument is a value
abbrev pub equal_by : Context → Level → TermScope → Argument → Written → Term
equal_by k v s a value = equal_to (put k v.definitions s (tree.term_of a.term)) value

-- what stands behind the first, as the code takes it
abbrev pub left_of : {A : Type 0} → List A → List A
left_of xs = take (length xs - 1) (drop 1 xs)

-- the first argument is compared with the first value
pub record IsComparing (k : Context) (v : Level) (s : TermScope) (h : Compared) (a : Argument) (value : Written) : Type 0 where
  pub argument_there : Some a ≡ slice_get h.arguments.now 0
  pub value_there : Some value ≡ slice_get h.index.now 0

pub comparing-at : (k : Context) (v : Level) (s : TermScope) (h : Compared) {a : Argument} {value : Written} → Some a ≡ slice_get h.arguments.now 0 → Some value ≡ slice_get h.index.now 0
    → IsComparing k v s h a value
comparing-at k v s h argument value = record { argument_there = argument; value_there = value }

-- its index is unfolded and compared
pub record IsEqualAt (k : Context) (v : Level) (s : TermScope) (h : Compared) (a : Argument) (value : Written) (index : Unfolded) (equal : declared_term.Term) : Type 0 where
  pub first : IsComparing k v s h a value
  pub term : tree.term_of equal ≡ folded (folding_in k) true (equal_by k v s a value)
  pub room : v.room ≤ index.room + suc (operator_count (equal_by k v s a value))

module _ {k : Context} {v : Level} {s : TermScope} {h : Compared} {a : Argument} {value : Written} (is : IsComparing k v s h a value) where
  abbrev others : Term
  others = comparing_by k v s (drop 1 h.arguments.now) (drop 1 h.index.now)

  both-said : Term.Binary Operator.And (equal_by k v s a value) others ≡ compared_by k v.definitions s h
  both-said = compared-first (spec_in k) (forms_in k v.definitions) (scope_of (spec_in k) (forms_in k) s) h.arguments.now h.index.now a value is.argument_there is.value_there

  comparing-refused : (r : Result Unfolded (OrMemory UnfoldFault)) (d : OrMemory UnfoldFault) → IsErrAnd r (λ f. f ≡ d)
      → IsRefusal v.room (Term.Binary Operator.And (equal_by k v s a value) others) d → Unfolds (folding_in k) true v.room (compared_by k v.definitions s h) r
  comparing-refused r d same refused =
      err-kept r d _ (IsRefusal v.room (compared_by k v.definitions s h)) same (subst (λ (z : Term). IsRefusal v.room z d) both-said refused)

  -- there is no room for the comparison and what stands behind it
  pub comparing-without-room : {place : Place} (r : Result Unfolded (OrMemory UnfoldFault)) (d : OrMemory UnfoldFault) → IsErrAnd r (λ f. f ≡ d)
      → d ≡ Refused (record { rule = rule.Operators; place = place }) → v.room < 2 → Unfolds (folding_in k) true v.room (compared_by k v.definitions s h) r
  comparing-without-room {place = place} r d same refused none =
      comparing-refused r d same (no-room v.room (Term.Binary Operator.And (equal_by k v s a value) others) d place refused (omega (arith, none)))

  -- or for the index
  pub index-refused : (inner : ℕ) (r : Result Unfolded (OrMemory UnfoldFault)) (d : OrMemory UnfoldFault) → IsErrAnd r (λ f. f ≡ d) → v.room ≡ inner + 2
      → IsRefusal inner (put k v.definitions s (tree.term_of a.term)) d → Unfolds (folding_in k) true v.room (compared_by k v.definitions s h) r
  index-refused inner r d same two refused =
      comparing-refused r d same
      (refusal-weaker v.room inner (put k v.definitions s (tree.term_of a.term)) (Term.Binary Operator.And (equal_by k v s a value) others) d (λ g. omega (arith, two, g)) refused)

  -- the index is unfolded
  pub equal-at : (equal : declared_term.Term) {inner : ℕ} {D : List SortDeclaration} {index : Unfolded} → v.room ≡ inner + 2
      → IsUnfolded (folding_in k) false inner (put k v.definitions s (tree.term_of a.term)) index → D ≡ k.declarations.now
      → ((t : Term) (truth : Bool) → tree.term_of index.term ≡ folded (tree.spec_of D) false t → tree.term_of equal ≡ folded (tree.spec_of D) truth (equal_to t value))
      → IsEqualAt k v s h a value index equal
  equal-at equal {index = index} two unfolded sorts equality = record {
    first = is;
    term = subst (λ (ds : List SortDeclaration). (t : Term) (truth : Bool) → tree.term_of index.term ≡ folded (tree.spec_of ds) false t
        → tree.term_of equal ≡ folded (tree.spec_of ds) truth (equal_to t value)) sorts equality (put k v.definitions s (tree.term_of a.term)) true unfolded.term;
    room = omega (arith, two, unfolded.room);
  }

module _ {k : Context} {v : Level} {s : TermScope} {h : Compared} {a : Argument} {value : Written} {index : Unfolded} {equal : declared_term.Term} (is : IsEqualAt k v s h a value index equal) where
  equal-unfolded : {r : Unfolded} → IsUnfolded (folding_in k) true v.room (Term.Binary Operator.And (equal_by k v s a value) (others is.first)) r
      → IsUnfolded (folding_in k) true v.room (compared_by k v.definitions s h) r
  equal-unfolded {r = r} unfolded = subst (λ (z : Term). IsUnfolded (folding_in k) true v.room z r) (both-said is.first) unfolded

  -- it isn't the value
  pub unequal-unfolded : {r : Unfolded} → tree.term_of equal ≡ Term.Truth false
      → ((S : Spec) (n : ℕ) (x y : Term) → folded S true x ≡ Term.Truth false → n ≤ index.room + suc (operator_count x) → IsUnfolded S true n (Term.Binary Operator.And x y) r)
      → IsUnfolded (folding_in k) true v.room (compared_by k v.definitions s h) r
  unequal-unfolded fails none = equal-unfolded (none (folding_in k) v.room (equal_by k v s a value) (others is.first) (sym is.term ∙ fails) is.room)

  -- there is no room for the others
  pub others-refused : (r : Result Unfolded (OrMemory UnfoldFault)) (d : OrMemory UnfoldFault) → IsErrAnd r (λ f. f ≡ d)
      → IsRefusal index.room (comparing_by k v s (left_of h.arguments.now) (left_of h.index.now)) d → Unfolds (folding_in k) true v.room (compared_by k v.definitions s h) r
  others-refused r d same refused =
      comparing-refused is.first r d same
      (refusal-weaker v.room index.room (others is.first) (Term.Binary Operator.And (equal_by k v s a value) (others is.first)) d (λ g. omega (arith, is.room, g))
      (subst (λ (gs : List Argument). IsRefusal index.room (comparing_by k v s gs (drop 1 h.index.now)) d) (behind-first h.arguments.now)
      (subst (λ (ws : List Written). IsRefusal index.room (comparing_by k v s (left_of h.arguments.now) ws) d) (behind-first h.index.now) refused)))

  -- it may be the value, and the others decide
  pub others-unfolded : {u r : Unfolded} → IsUnfolded (folding_in k) true index.room (comparing_by k v s (left_of h.arguments.now) (left_of h.index.now)) u
      → ((S : Spec) (n m : ℕ) (x y : Term) → tree.term_of equal ≡ folded S true x → IsUnfolded S true n y u → m ≤ n + suc (operator_count x) → IsUnfolded S true m (Term.Binary Operator.And x y) r)
      → IsUnfolded (folding_in k) true v.room (compared_by k v.definitions s h) r
  others-unfolded {u = u} unfolded both =
      equal-unfolded (both (folding_in k) index.room v.room (equal_by k v s a value) (others is.first) is.term
      (subst (λ (gs : List Argument). IsUnfolded (folding_in k) true index.room (comparing_by k v s gs (drop 1 h.index.now)) u) (behind-first h.arguments.now)
      (subst (λ (ws : List Written). IsUnfolded (folding_in k) true index.room (comparing_by k v s (left_of h.arguments.now) ws) u) (behind-first h.index.now) unfolded)) is.room)

-- what stands behind the first is met
pub others-met : (k : Context) (v : Level) (s : TermScope) (h : Compared) (behind : List Variable) → behind ≡ drop 1 h.indices.now → (whole : Occurrence)
    → AreIndicesMet k v.depth v.definitions s h.place h.arguments.now h.indices.now whole → AreIndicesMet k v.depth v.definitions s h.place (left_of h.arguments.now) behind whole
others-met k v s h behind is whole met =
    subst (λ (vs : List Variable). AreIndicesMet k v.depth v.definitions s h.place (left_of h.arguments.now) vs whole) (sym is)
    (subst (λ (gs : List Argument). AreIndicesMet k v.depth v.definitions s h.place gs (drop 1 h.indices.now) whole) (sym (behind-first h.arguments.now))
    (indices-others k v.definitions s whole h.place h.indices.now h.arguments.now v.depth met))
