-- Copies of assignments: their conditions and values, and all of them.
use Rattle.std.proofs.Common.{◌≡◌, ◌∙◌, ℕ, suc, List, [], ◌∷◌, ◌++◌, map, inl, inr, refl, sym, ap, subst, string_bytes}
use Rattle.std.specs.Prelude.{IfErr, Result, Ok, Err, flat_map}
use Rattle.std.proofs.lemmas.List.{map-append}
use Rattle.pb_base.specs.declared.or_memory.OrMemory.{OrMemory}
use Rattle.pb_text_tree.specs.declared.place.Place.{Place}
use Rattle.pb_text_tree.specs.declared.term.Argument.{Argument}
use Rattle.pb_text_tree.specs.Form.{TermForm, argument_forms, named, term_form}
use Rattle.pb_text_meaning.specs.Syntax.{Name, Spec}
use Rattle.pb_protocol_tree.specs.declared.step.Assignment as declared_assignment
use Rattle.pb_protocol_tree.specs.Form.{assignment_form}
use Rattle.pb_protocol_meaning.specs.Erase.{erased_assignment}
use Rattle.pb_protocol_folding.specs.View as tree
use Rattle.pb_protocol_unfolding.specs.PutIn.{TermScope, all_put_in}
use Rattle.pb_protocol_unfolding.specs.Unfolding.{Copy, all_copies, is_index}
use Rattle.pb_protocol_unfolding.specs.Unfolding as spec
use Rattle.pb_protocol_unfolding.specs.Written.{written_tuples}
use Rattle.pb_protocol_unfolder_terms.specs.declared.assigned.Compared.{Compared}
use Rattle.pb_protocol_unfolder_terms.specs.declared.assigned.Element.{Element}
use Rattle.pb_protocol_unfolder_terms.specs.declared.context.Context.{Context}
use Rattle.pb_protocol_unfolder_terms.specs.declared.copies.AssignmentCopy.{AssignmentCopy}
use Rattle.pb_protocol_unfolder_terms.specs.declared.fault.UnfoldFault.{UnfoldFault}
use Rattle.pb_protocol_unfolder_terms.specs.declared.fault.UnfoldRule.{UnfoldRule}
use Rattle.pb_protocol_unfolder_terms.specs.declared.level.Level.{Level}
use Rattle.pb_protocol_unfolder_terms.specs.declared.scope.TermScope as declared_scope
use Rattle.pb_protocol_unfolder_terms.specs.declared.unfolded.Unfolded.{Unfolded}
use Rattle.pb_protocol_unfolder_terms.specs.declared.written.Written.{Written}
use Rattle.pb_protocol_unfolder_terms.specs.Assigned.{compared_by, condition_by, copies_of, element_said, placed_by, scope_around, scope_inside}
use Rattle.pb_protocol_unfolder_terms.specs.AssignmentCopies.{AreCopiesOf, assignments_said, copies_at, copy_at, copy_said, placed_copy, variables_before}
use Rattle.pb_protocol_unfolder_terms.specs.Contexts.{forms_in, spec_in}
use Rattle.pb_protocol_unfolder_terms.specs.Met.{Itself, Occurrence, Surroundings, at}
use Rattle.pb_protocol_unfolder_terms.specs.Tells.{AreIndices, AreIndicesMet, IsFaultOf, IsTermMet, Tells, scope_said, surroundings_in}
use Rattle.pb_protocol_unfolder_terms.specs.TermFaults.{Breaks, HasValues, IfFaultAt, IsFaultInAssignment, PlacedCopy, placed_copies, placed_copies_of}
use Rattle.pb_protocol_unfolder_terms.specs.Values.{written_term}
use Rattle.pb_protocol_unfolder_terms.proofs.MetLemmas.{arguments-met, assigned-many, assigned-read, at-by, values-met}
use Rattle.pb_protocol_unfolder_terms.proofs.TermLemmas.{copies-of-tuples}

-- ---- all copies

twice : {X Y Z : Type 0} (f : X → Y) (g : Y → Z) (xs : List X) → map g (map f xs) ≡ map (λ x. g (f x)) xs
twice f g [] = refl
twice f g (x ∷ xs) = ap (λ ys. g (f x) ∷ ys) (twice f g xs)

-- what copies say, of one assignment and of all
one-copied : (S : Spec) (ρ : TermScope) (b : declared_assignment.Assignment) → map (copy_said ρ) (copies_at S b) ≡ spec.copies_of S ρ (erased_assignment (assignment_form b))
one-copied S ρ b =
    let xs = variables_before b in
    twice (copy_at b xs) (copy_said ρ) (written_tuples S xs)
    ∙ sym (copies-of-tuples S xs (λ (σ : TermScope). let c : Copy = record { scope = σ; assignment = erased_assignment (assignment_form b) } in c) ρ)

all-copied : (S : Spec) (ρ : TermScope) (bs : List declared_assignment.Assignment) → map (copy_said ρ) (flat_map (copies_at S) bs) ≡ all_copies S ρ (assignments_said bs)
all-copied S ρ [] = refl
all-copied S ρ (b ∷ bs) =
    map-append (copy_said ρ) (copies_at S b) (flat_map (copies_at S) bs)
    ∙ ap (λ (cs : List Copy). cs ++ map (copy_said ρ) (flat_map (copies_at S) bs)) (one-copied S ρ b)
    ∙ ap (λ (cs : List Copy). spec.copies_of S ρ (erased_assignment (assignment_form b)) ++ cs) (all-copied S ρ bs)

pub copies-are : (S : Spec) (ρ : TermScope) (bs : List declared_assignment.Assignment) (cs : List AssignmentCopy) → AreCopiesOf S bs cs → copies_of cs ρ ≡ all_copies S ρ (assignments_said bs)
copies-are S ρ bs cs are = ap (map (copy_said ρ)) are ∙ all-copied S ρ bs

-- and where they stand
one-placed : (S : Spec) (ρ : TermScope) (b : declared_assignment.Assignment) → map (placed_copy ρ) (copies_at S b) ≡ placed_copies_of S ρ (assignment_form b)
one-placed S ρ b =
    let xs = variables_before b in
    twice (copy_at b xs) (placed_copy ρ) (written_tuples S xs)
    ∙ sym (copies-of-tuples S xs (λ (σ : TermScope). let c : PlacedCopy = record { scope = σ; assignment = assignment_form b } in c) ρ)

all-placed : (S : Spec) (ρ : TermScope) (bs : List declared_assignment.Assignment) → map (placed_copy ρ) (flat_map (copies_at S) bs) ≡ placed_copies S ρ (map assignment_form bs)
all-placed S ρ [] = refl
all-placed S ρ (b ∷ bs) =
    map-append (placed_copy ρ) (copies_at S b) (flat_map (copies_at S) bs)
    ∙ ap (λ (cs : List PlacedCopy). cs ++ map (placed_copy ρ) (flat_map (copies_at S) bs)) (one-placed S ρ b)
    ∙ ap (λ (cs : List PlacedCopy). placed_copies_of S ρ (assignment_form b) ++ cs) (all-placed S ρ bs)

pub copies-placed : (k : Context) (s : declared_scope.TermScope) (S : Spec) (bs : List declared_assignment.Assignment) (cs : List AssignmentCopy) → AreCopiesOf S bs cs
    → placed_by k s cs ≡ placed_copies S (scope_around k s) (map assignment_form bs)
copies-placed k s S bs cs are = ap (map (placed_copy (scope_around k s))) are ∙ all-placed S (scope_around k s) bs

-- ---- a condition

-- what is compared is the condition
pub condition-said : (k : Context) (n : ℕ) (s inner : declared_scope.TermScope) (b : AssignmentCopy) (h : Compared) (e : Element) (sort : Name)
    → scope_around k inner ≡ scope_inside k s b → h.arguments.now ≡ b.assignment.now.index.items → h.index.now ≡ e.index.now
    → compared_by k n inner h ≡ condition_by k n s b (element_said e sort)
condition-said k n s inner b h e sort scope arguments index =
    ap (λ (ρ : TermScope). is_index (all_put_in (spec_in k) (forms_in k n) ρ (tree.terms_of h.arguments.now)) (map written_term h.index.now)) scope
    ∙ ap (λ (gs : List Argument). is_index (all_put_in (spec_in k) (forms_in k n) (scope_inside k s b) (tree.terms_of gs)) (map written_term h.index.now)) arguments
    ∙ ap (λ (ws : List Written). is_index (all_put_in (spec_in k) (forms_in k n) (scope_inside k s b) (tree.terms_of b.assignment.now.index.items)) (map written_term ws)) index

-- what is met is a fault of an assignment
met-told : (m : Surroundings) (w : Occurrence) (Q : UnfoldRule → Place → Type 0) → ((f : UnfoldRule) (q : Place) → Breaks m w f q → Q f q)
    → (r : Result Unfolded (OrMemory UnfoldFault)) → IfErr r (IsFaultOf m w) → IfErr r (IfFaultAt Q)
met-told m w Q to (Ok u) h = tt
met-told m w Q to (Err d) h = at-by m w Q d to h

module _ (k : Context) (v : Level) (s inner : declared_scope.TermScope) (b : AssignmentCopy) (scope : scope_around k inner ≡ scope_inside k s b) (r : Result Unfolded (OrMemory UnfoldFault)) where
  abbrev InScope : TermScope → Type 0
  InScope ρ = IfErr r (IfFaultAt (IsFaultInAssignment (surroundings_in k) v.depth v.definitions ρ (assignment_form b.assignment.now)))

  -- a fault of the comparison is one of the assignment
  pub condition-told : (h : Compared) → HasValues inner → h.arguments.now ≡ b.assignment.now.index.items → AreIndices k (string_bytes b.assignment.now.variable.text) h.indices.now
      → h.place ≡ b.assignment.now.variable.place → Tells k r (AreIndicesMet k v.depth v.definitions inner h.place h.arguments.now h.indices.now) → InScope (scope_inside k s b)
  condition-told h values arguments indices place faults =
      subst InScope scope
      (met-told m w (IsFaultInAssignment m v.depth v.definitions σ (assignment_form b.assignment.now)) (λ f q o. inl o) r
      (faults w (subst (λ (q : Place). AreIndicesMet k v.depth v.definitions inner q h.arguments.now h.indices.now w) (sym place)
      (subst (λ (gs : List Argument). AreIndicesMet k v.depth v.definitions inner b.assignment.now.variable.place gs h.indices.now w) (sym arguments) met))))
    where
      m : Surroundings
      m = surroundings_in k

      σ : TermScope
      σ = scope_said k inner

      given : List Argument
      given = b.assignment.now.index.items

      x : Name
      x = string_bytes b.assignment.now.variable.text

      w : Occurrence
      w = at (suc v.depth) v.definitions σ (TermForm.application (named b.assignment.now.variable) (argument_forms given))

      met : AreIndicesMet k v.depth v.definitions inner b.assignment.now.variable.place given h.indices.now w
      met = record {
        read = record {
          scope_met = values-met k inner w values;
          outside = λ q o. assigned-read k (suc v.depth) v.definitions σ (named b.assignment.now.variable) given x h.indices.now indices refl q o;
          token = (w, Itself, inl refl);
          values = λ many. assigned-many k (suc v.depth) v.definitions σ (named b.assignment.now.variable) given x h.indices.now indices refl many;
        };
        arguments_met = arguments-met k v.depth v.definitions σ w (named b.assignment.now.variable) given Itself;
      }

  -- and so is one of the term
  pub term-told : HasValues inner → Tells k r (IsTermMet k v.depth v.definitions inner (term_form b.assignment.now.value.term)) → InScope (scope_inside k s b)
  term-told values faults =
      let m = surroundings_in k in
      let σ = scope_said k inner in
      let w = at v.depth v.definitions σ (term_form b.assignment.now.value.term) in
      subst InScope scope
      (met-told m w (IsFaultInAssignment m v.depth v.definitions σ (assignment_form b.assignment.now)) (λ f q o. inr (inl o)) r (faults w (Itself, values-met k inner w values)))
