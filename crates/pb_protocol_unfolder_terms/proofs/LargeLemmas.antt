-- What is too large is told at a token of what is met.
use Rattle.std.proofs.Common.{◌≡◌, ◌<◌, ℕ, zero, suc, Bool, inl, inr, refl, sym, ap, subst, arith, List, [], ◌∷◌, take, length, get_or, map, Some}
use Rattle.std.specs.List.{slice_get}
use Rattle.std.specs.Prelude.{Contains, IfErr, IsErrAnd, Result, Ok, Err}
use Rattle.pb_base.specs.declared.or_memory.OrMemory.{OrMemory}
use Rattle.pb_base.specs.declared.or_memory.OrMemory.TheVariants.{Refused, Memory}
use Rattle.pb_text_tree.specs.declared.place.Place.{Place}
use Rattle.pb_text_tree.specs.declared.operator.Connective.{Connective}
use Rattle.pb_text_tree.specs.declared.term.Argument.{Argument}
use Rattle.pb_text_tree.specs.declared.term.ArithmeticLink.{ArithmeticLink}
use Rattle.pb_text_tree.specs.declared.term.Term as declared_term
use Rattle.pb_text_tree.specs.declared.term.TermLink.{TermLink}
use Rattle.pb_protocol_tree.specs.Form.{assignment_form}
use Rattle.pb_text_tree.specs.Form.{Named, TermForm, argument_forms, arithmetic_links, calculated, chained, named, term_form, term_links}
use Rattle.pb_text_meaning.specs.Syntax.{Spec, Term}
use Rattle.pb_protocol_unfolding.specs.PutIn.{TermScope}
use Rattle.pb_protocol_unfolding.specs.Written.{written_values}
use Rattle.pb_protocol_unfolder_terms.specs.Assigned.{placed_by, scope_around, scope_inside}
use Rattle.pb_protocol_unfolder_terms.specs.AssignmentCopies.{CopyBehind, copy_behind, placed_copy}
use Rattle.pb_protocol_unfolder_terms.specs.declared.context.Context.{Context}
use Rattle.pb_protocol_unfolder_terms.specs.declared.copies.AssignmentCopy.{AssignmentCopy}
use Rattle.pb_protocol_unfolder_terms.specs.declared.fault.UnfoldFault.{UnfoldFault}
use Rattle.pb_protocol_unfolder_terms.specs.declared.fault.UnfoldRule.{UnfoldRule}
use Rattle.pb_protocol_unfolder_terms.specs.declared.fault.UnfoldRule.TheVariants as rule
use Rattle.pb_protocol_unfolder_terms.specs.declared.level.Level.{Level}
use Rattle.pb_protocol_unfolder_terms.specs.declared.scope.TermScope as declared_scope
use Rattle.pb_protocol_unfolder_terms.specs.declared.sorts.Variable.{Variable}
use Rattle.pb_protocol_unfolder_terms.specs.declared.unfolded.Unfolded.{Unfolded}
use Rattle.pb_protocol_unfolder_terms.specs.Deep.{IsDepthFault}
use Rattle.pb_protocol_unfolder_terms.specs.Large.{HasManyValues, IsConnectiveAt, IsOperatorAt, IsTokenMet, IsTokenOf, IsValuesFault}
use Rattle.pb_protocol_unfolder_terms.specs.Met.{Itself, Occurrence, Surroundings, at}
use Rattle.pb_protocol_unfolder_terms.specs.Tells.{AreMetAt, IsFaultOf, IsMetAt, IsTermMet, IsTokenAt, Tells, scope_said, surroundings_in}
use Rattle.pb_protocol_unfolder_terms.specs.TermFaults.{Breaks, IfFaultAt, IsFaultInAssignment, IsFaultInCopies, PlacedCopy, WithMany}
use Rattle.pb_protocol_unfolder_terms.specs.Unfolding.{OnOperators, Unfolds, operator_count}
use Rattle.pb_protocol_unfolder_terms.specs.Values.{IsTooLong}
use Rattle.pb_protocol_unfolder_terms.specs.View.{variable_of}
use Rattle.pb_protocol_unfolder_terms.proofs.MetLemmas.{err-told, first-in, mapped-in, taken-at, taken-length}
use Rattle.pb_protocol_unfolder_terms.proofs.ProtocolLemmas.{mapped-length}
use Rattle.pb_protocol_unfolder_terms.proofs.ReadLemmas.{not-none, some-is}

-- ---- faults

-- it nests too deep
pub depth-told : {Q : Occurrence → Type 0} {p : Place} (k : Context) (e : OrMemory UnfoldFault) → e ≡ Refused (record { rule = rule.Depth; place = p })
    → ((whole : Occurrence) → Q whole → IsDepthFault (surroundings_in k) whole p) → (whole : Occurrence) → Q whole → IsFaultOf (surroundings_in k) whole e
depth-told k e is deep whole h = subst (IsFaultOf (surroundings_in k) whole) (sym is) (deep whole h)

-- there is no room at a token
pub room-told : {A : Type 0} {Q : Occurrence → Type 0} {p : Place} (k : Context) (r : Result A (OrMemory UnfoldFault)) (e : OrMemory UnfoldFault) → IsErrAnd r (λ d. d ≡ e)
    → e ≡ Refused (record { rule = rule.Operators; place = p }) → ((whole : Occurrence) → Q whole → IsTokenAt k p whole) → Tells k r Q
room-told k r e same is token whole h = err-told r e (IsFaultOf (surroundings_in k) whole) same (subst (IsFaultOf (surroundings_in k) whole) (sym is) (token whole h))

-- there are too many values
pub values-told : {A B : Type 0} {Q : Occurrence → Type 0} {p : Place} (k : Context) (xs : List A) (r : Result B (OrMemory UnfoldFault)) (e : OrMemory UnfoldFault) → IsErrAnd r (λ d. d ≡ e)
    → IsTooLong xs p e → ((whole : Occurrence) → Q whole → 8192 < length xs → IsValuesFault (surroundings_in k) whole p) → Tells k r Q
values-told {A = A} {p = p} k xs r e same is many whole h = err-told r e (IsFaultOf (surroundings_in k) whole) same (by e is)
  where
    by : (d : OrMemory UnfoldFault) → IsTooLong xs p d → IsFaultOf (surroundings_in k) whole d
    by Memory g = tt
    by (Refused f) g = subst (λ (fault : UnfoldFault). IsFaultOf (surroundings_in k) whole (Refused fault)) (sym g.0) (many whole h g.1)

-- by the rule of operators there are as many as that
pub with-many : (S : Spec) (b : Bool) (n : ℕ) (t : Term) (P : UnfoldRule → Place → Type 0) (r : Result Unfolded (OrMemory UnfoldFault)) → Unfolds S b n t r → IfErr r (IfFaultAt P)
    → IfErr r (IfFaultAt (WithMany (n < operator_count t) P))
with-many S b n t P (Ok u) h is = tt
with-many S b n t P (Err Memory) h is = tt
with-many S b n t P (Err (Refused f)) h is = by f.rule h is
  where
    by : (r : UnfoldRule) → OnOperators r (n < operator_count t) → P r f.place → WithMany (n < operator_count t) P r f.place
    by rule.Operators many is = (many, is)
    by rule.Depth many is = is
    by rule.Values many is = is
    by rule.Index many is = is

-- an index with too many values
pub first-many : (S : Spec) (is : List Variable) (i : Variable) → Some i ≡ slice_get is 0 → 8192 < length (written_values S i.sort.now) → HasManyValues S (map variable_of is)
first-many S [] i there many = absurd (not-none i there)
first-many S (j ∷ js) i there many =
    (variable_of j, first-in (variable_of j) (map variable_of js), subst (λ (v : Variable). 8192 < length (written_values S v.sort.now)) (some-is i j there) many)

-- ---- tokens

-- a token of a term as the code holds it, and that of a name with arguments
pub token-met : (k : Context) (v : Level) (s : declared_scope.TermScope) (x : declared_term.Term) (p : Place) {u : declared_term.Term} → x ≡ u → IsTokenOf (term_form u) p
    → (whole : Occurrence) → IsTermMet k (suc v.depth) v.definitions s (term_form x) whole → IsTokenAt k p whole
token-met k v s x p same token whole h = (
  at (suc v.depth) v.definitions (scope_said k s) (term_form x),
  h.0,
  inl (subst (λ (z : declared_term.Term). IsTokenOf (term_form z) p) (sym same) token),
)

pub name-met : (k : Context) (v : Level) (s : declared_scope.TermScope) (f : Named) (given : List Argument)
    → (whole : Occurrence) → IsTermMet k (suc v.depth) v.definitions s (TermForm.application f (argument_forms given)) whole → IsTokenAt k f.place whole
name-met k v s f given whole h = (at (suc v.depth) v.definitions (scope_said k s) (TermForm.application f (argument_forms given)), h.0, inl refl)

module _ (c : Context) (l n : ℕ) (ρ : TermScope) (whole : Occurrence) where
  connective-at : (k : Connective) (x : TermForm) (ls : List TermLink) (i : ℕ) (d : TermLink) → i < length ls → d ≡ get_or ls i d
      → IsConnectiveAt (chained (TermForm.connected k) x (term_links ls)) d.place
  connective-at k x [] i d within is = absurd (omega (arith, within))
  connective-at k x (m ∷ ls) zero d within is = inl (ap (λ (b : TermLink). b.place) is)
  connective-at k x (m ∷ ls) (suc i) d within is = inr (connective-at k (term_form m.operand) ls i d (omega (arith, within)) is)

  -- a connective of a chain
  pub chain-token : (k : Connective) (x : TermForm) (ls : List TermLink) (i : ℕ) (d : TermLink) → i < length ls → d ≡ get_or ls i d
      → IsMetAt c l n ρ (chained (TermForm.connected k) x (term_links ls)) whole → IsTokenAt c d.place whole
  chain-token k x ls i d within is h = (at l n ρ (chained (TermForm.connected k) x (term_links ls)), h, inr (inl (connective-at k x ls i d within is)))

  operator-within : (x : TermForm) (ls : List ArithmeticLink) (p : Place) → IsOperatorAt x p → IsOperatorAt (calculated x (arithmetic_links ls)) p
  operator-within x [] p h = h
  operator-within x (m ∷ ls) p h = operator-within (TermForm.computed m.operator m.place x (term_form m.operand)) ls p (inr h)

  operator-at : (x : TermForm) (ls : List ArithmeticLink) (i : ℕ) (d : ArithmeticLink) → i < length ls → d ≡ get_or ls i d → IsOperatorAt (calculated x (arithmetic_links ls)) d.place
  operator-at x [] i d within is = absurd (omega (arith, within))
  operator-at x (m ∷ ls) zero d within is = operator-within (TermForm.computed m.operator m.place x (term_form m.operand)) ls d.place (inl (ap (λ (b : ArithmeticLink). b.place) is))
  operator-at x (m ∷ ls) (suc i) d within is = operator-at (TermForm.computed m.operator m.place x (term_form m.operand)) ls i d (omega (arith, within)) is

  -- the operator before an operand
  pub arithmetic-token : (x : TermForm) (ls : List ArithmeticLink) (i : ℕ) (d : ArithmeticLink) → i < length ls → d ≡ get_or ls i d
      → IsMetAt c l n ρ (calculated x (arithmetic_links ls)) whole → IsTokenAt c d.place whole
  arithmetic-token x ls i d within is h = (at l n ρ (calculated x (arithmetic_links ls)), h, inr (inr (operator-at x ls i d within is)))

  -- the first of the arguments
  pub first-argument : (given : List Argument) (a : Argument) → Some a ≡ slice_get given 0 → AreMetAt c l n ρ given whole → IsMetAt c l n ρ (term_form a.term) whole
  first-argument [] a there h = absurd (not-none a there)
  first-argument (b ∷ given) a there h = h a (subst (Contains (b ∷ given)) (sym (some-is a b there)) (first-in b given))

-- ---- copies of assignments

-- a fault in one of the copies, with all levels
pub copies-in : (m : Surroundings) (l n : ℕ) (k : Context) (s : declared_scope.TermScope) (bs : List AssignmentCopy) (a : AssignmentCopy) (r : UnfoldRule) (p : Place) → Contains bs a
    → IsFaultInAssignment m l n (scope_inside k s a) (assignment_form a.assignment.now) r p → IsFaultInCopies m l n (placed_by k s bs) r p
copies-in m l n k s bs a r p there h =
    let placed = mapped-in (placed_copy (scope_around k s)) (map copy_behind bs) (copy_behind a) (mapped-in copy_behind bs a there) in
    (placed_copy (scope_around k s) (copy_behind a), placed, l, omega (arith, placed.1), h)

taken-behind : (j : ℕ) (bs : List AssignmentCopy) → map copy_behind (take j bs) ≡ take j (map copy_behind bs)
taken-behind zero [] = refl
taken-behind zero (b ∷ bs) = refl
taken-behind (suc j) [] = refl
taken-behind (suc j) (b ∷ bs) = ap (λ xs. copy_behind b ∷ xs) (taken-behind j bs)

-- one in those before a place, which have a level less
pub copies-before : (m : Surroundings) (l n : ℕ) (k : Context) (s : declared_scope.TermScope) (j : ℕ) (bs : List AssignmentCopy) (r : UnfoldRule) (p : Place) → j < length bs
    → IsFaultInCopies m l n (placed_by k s (take j bs)) r p → IsFaultInCopies m (suc l) n (placed_by k s bs) r p
copies-before m l n k s j bs r p within fault = from (subst (λ (cs : List CopyBehind). IsFaultInCopies m l n (map g cs) r p) (taken-behind j bs) fault)
  where
    g : CopyBehind → PlacedCopy
    g = placed_copy (scope_around k s)

    from : IsFaultInCopies m l n (map g (take j (map copy_behind bs))) r p → IsFaultInCopies m (suc l) n (map g (map copy_behind bs)) r p
    from (c, there, i, less, h) =
        let before = taken-at g j (map copy_behind bs) c there in (
          c,
          before.0,
          i,
          omega (
            arith,
            less,
            before.1,
            before.2,
            mapped-length g (take j (map copy_behind bs)),
            mapped-length g (map copy_behind bs),
            mapped-length copy_behind bs,
            taken-length j (map copy_behind bs),
            within,
          ),
          h,
        )

-- a fault at the token of what is assigned to
pub copies-room : (m : Surroundings) (l n : ℕ) (k : Context) (s : declared_scope.TermScope) (bs : List AssignmentCopy) (a : AssignmentCopy)
    (r : UnfoldRule) (e : OrMemory UnfoldFault) → e ≡ Refused (record { rule = r; place = a.assignment.now.variable.place })
    → Contains bs a → ((w : Occurrence) → IsTokenMet m w a.assignment.now.variable.place → Breaks m w r a.assignment.now.variable.place)
    → IfFaultAt (IsFaultInCopies m l n (placed_by k s bs)) e
copies-room m l n k s bs a r e is there breaks =
    let w = at (suc l) n (scope_inside k s a) (TermForm.application (named a.assignment.now.variable) (argument_forms a.assignment.now.index.items)) in
    subst (IfFaultAt (IsFaultInCopies m l n (placed_by k s bs))) (sym is)
    (copies-in m l n k s bs a r a.assignment.now.variable.place there (inl (breaks w (w, Itself, inl refl))))

-- no level is left to choose it
pub copies-deep : (m : Surroundings) (l n : ℕ) (k : Context) (s : declared_scope.TermScope) (bs : List AssignmentCopy) (a : AssignmentCopy)
    (e : OrMemory UnfoldFault) → e ≡ Refused (record { rule = rule.Depth; place = a.assignment.now.variable.place })
    → Contains bs a → l ≡ 0 → IfFaultAt (IsFaultInCopies m l n (placed_by k s bs)) e
copies-deep m l n k s bs a e is there none =
    subst (IfFaultAt (IsFaultInCopies m l n (placed_by k s bs))) (sym is)
    (copies-in m l n k s bs a rule.Depth a.assignment.now.variable.place there (inr (inr (none, refl, refl))))
