-- The tests of a protocol and of a formula, part by part.
use Rattle.std.proofs.Common.{◌≡◌, Bool, true, false, not, ◌&&◌, List, [], ◌∷◌, map, refl, sym, ap, ◌∙◌}
use Rattle.std.specs.List.{list_all}
use Rattle.std.proofs.lemmas.List.Folds.{list_all-map}
use Rattle.pb_base_values.specs.Carrier.{contains}
use Rattle.pb_text_meaning.specs.Syntax.{Name, same_name, Variable, Spec}
use Rattle.pb_text_meaning.specs.Sorts.{carrier_of}
use Rattle.pb_protocol_meaning.specs.Syntax.{StateVariable, Definition, Assignment, Step, Formula}
use Rattle.pb_protocol_meaning.specs.Erase.{protocol_of}
use Rattle.pb_protocol_symmetry.specs.Kinds.{Signature, extended}
use Rattle.pb_protocol_symmetry.specs.Test.{is_plain}
use Rattle.pb_protocol_symmetry.specs.States.{signature_of}
use Rattle.pb_protocol_symmetry.specs.ProtocolTest as test
use Rattle.pb_protocol_symmetry.specs.ProtocolTest.{is_symmetric, signatures_in, step_has_kinds, assignment_has_kinds, indices_have_values, formula_has_kinds}
use Rattle.pb_protocol_scalar_sets.specs.declared.scalar_set.ScalarSet.{ScalarSet}
use Rattle.pb_protocol_scalar_sets.specs.declared.term.Context.{Context}
use Rattle.pb_protocol_scalar_sets.specs.Sorts.{spec_of}
use Rattle.pb_protocol_scalar_sets.specs.Steps.{may_assign, assignment_fits, step_fits}
use Rattle.pb_protocol_scalar_sets.specs.Symmetric.{are_apart, have_values, are_declared, are_fit, is_same}
use Rattle.pb_protocol_scalar_sets.specs.Terms.{kind_at}
use Rattle.pb_protocol_scalar_sets.specs.Tested.{are_defined_in, tested_in}
use Rattle.pb_protocol_scalar_sets.specs.View.{signature_said, known_said}

-- ---- state variables

own-names : (sort : Name) (ys : List StateVariable) → are_apart (map (signature_of sort) ys) ≡ test.have_own_names ys
own-names sort [] = refl
own-names sort (y ∷ ys) =
    ap (λ (b : Bool). b && are_apart (map (signature_of sort) ys)) (list_all-map (λ (s : Signature). not (same_name y.name s.name)) (signature_of sort) ys)
    ∙ ap (λ (b : Bool). list_all (λ (z : StateVariable). not (same_name y.name z.name)) ys && b) (own-names sort ys)

values : (spec : Spec) (sort : Name) (ys : List StateVariable) → list_all (have_values spec) (map (signature_of sort) ys) ≡ list_all (indices_have_values spec) ys
values spec sort ys = list_all-map (have_values spec) (signature_of sort) ys

-- ---- steps

module _ (c : Context) where
  assignment-targets : (scope : List Variable) (a : Assignment) (ys : List StateVariable)
      → list_all (may_assign c (extended a.variables scope) a.variables a) (map (signature_of c.set.sort.now) ys)
      ≡ assignment_has_kinds (spec_of c.set.protocol.now) c.set.sort.now c.set.moved.now (known_said c.known) scope ys a
  assignment-targets scope a [] = refl
  assignment-targets scope a (y ∷ ys) =
      ap (λ (b : Bool). may_assign c (extended a.variables scope) a.variables a (signature_of c.set.sort.now y) && b) (assignment-targets scope a ys)

  module _ (ys : List StateVariable) (state : map signature_said c.known.state.now ≡ map (signature_of c.set.sort.now) ys) where
    assignments-kinds : (scope : List Variable) (xs : List Assignment)
        → list_all (assignment_fits c scope) xs
        ≡ list_all (assignment_has_kinds (spec_of c.set.protocol.now) c.set.sort.now c.set.moved.now (known_said c.known) scope ys) xs
    assignments-kinds scope [] = refl
    assignments-kinds scope (a ∷ xs) =
        ap (λ (b : Bool). b && list_all (assignment_fits c scope) xs)
        (ap (list_all (may_assign c (extended a.variables scope) a.variables a)) state ∙ assignment-targets scope a ys)
        ∙ ap (λ (b : Bool). assignment_has_kinds (spec_of c.set.protocol.now) c.set.sort.now c.set.moved.now (known_said c.known) scope ys a && b) (assignments-kinds scope xs)

    step-kinds : (a : Step) → step_fits c a ≡ step_has_kinds (spec_of c.set.protocol.now) c.set.sort.now c.set.moved.now (known_said c.known) ys a
    step-kinds a = ap (λ (b : Bool). is_plain (kind_at c (extended a.variables []) a.guard) && b) (assignments-kinds (extended a.variables []) a.assignments)

    pub steps-kinds : (xs : List Step) → list_all (step_fits c) xs ≡ list_all (step_has_kinds (spec_of c.set.protocol.now) c.set.sort.now c.set.moved.now (known_said c.known) ys) xs
    steps-kinds [] = refl
    steps-kinds (a ∷ xs) =
        ap (λ (b : Bool). b && list_all (step_fits c) xs) (step-kinds a)
        ∙ ap (λ (b : Bool). step_has_kinds (spec_of c.set.protocol.now) c.set.sort.now c.set.moved.now (known_said c.known) ys a && b) (steps-kinds xs)

-- ---- a protocol

-- what is tested, where these are the state variables as terms name them
pub symmetric-parts : (set : ScalarSet) (state : List Signature) → state ≡ map (signature_of set.sort.now) (protocol_of set.protocol.now).variables
    → is_symmetric (protocol_of set.protocol.now) set.sort.now set.moved.now
    ≡ (are_declared set state && are_defined_in set state (protocol_of set.protocol.now).definitions && are_defined_in set [] (protocol_of set.protocol.now).definitions
    && are_fit set (protocol_of set.protocol.now).variables (tested_in set state (protocol_of set.protocol.now).definitions))
symmetric-parts set state e =
    let m = protocol_of set.protocol.now in
    let inside = list_all (contains (carrier_of (spec_of set.protocol.now) set.sort.now)) set.moved.now in
    let ys = map (signature_of set.sort.now) m.variables in
    let parts : List Signature → Bool → Bool → Bool =
    λ s own has. (inside && own && has) && are_defined_in set s m.definitions && are_defined_in set [] m.definitions && are_fit set m.variables (tested_in set s m.definitions) in
    sym (ap (λ (s : List Signature). parts s (are_apart s) (list_all (have_values (spec_of set.protocol.now)) s)) e
    ∙ (ap (λ (b : Bool). parts ys b (list_all (have_values (spec_of set.protocol.now)) ys)) (own-names set.sort.now m.variables)
    ∙ ap (λ (b : Bool). parts ys (test.have_own_names m.variables) b) (values (spec_of set.protocol.now) set.sort.now m.variables)))

-- where a part fails, and where all but the last hold
module _ (set : ScalarSet) (state : List Signature) (e : state ≡ map (signature_of set.sort.now) (protocol_of set.protocol.now).variables) where
  abbrev definitions_in : List Definition
  definitions_in = (protocol_of set.protocol.now).definitions

  abbrev steps_fit : Bool
  steps_fit = are_fit set (protocol_of set.protocol.now).variables (tested_in set state definitions_in)

  abbrev answer : Bool
  answer = is_symmetric (protocol_of set.protocol.now) set.sort.now set.moved.now

  pub undeclared : are_declared set state ≡ false → false ≡ answer
  undeclared h = sym (symmetric-parts set state e ∙ ap (λ (b : Bool). b && are_defined_in set state definitions_in && are_defined_in set [] definitions_in && steps_fit) h)

  module _ (declared : are_declared set state ≡ true) where
    rest : answer ≡ (are_defined_in set state definitions_in && are_defined_in set [] definitions_in && steps_fit)
    rest = symmetric-parts set state e ∙ ap (λ (b : Bool). b && are_defined_in set state definitions_in && are_defined_in set [] definitions_in && steps_fit) declared

    pub undefined : are_defined_in set state definitions_in ≡ false → false ≡ answer
    undefined h = sym (rest ∙ ap (λ (b : Bool). b && are_defined_in set [] definitions_in && steps_fit) h)

    module _ (defined : are_defined_in set state definitions_in ≡ true) where
      pub undefined-start : are_defined_in set [] definitions_in ≡ false → false ≡ answer
      undefined-start h = sym (rest ∙ (ap (λ (b : Bool). b && are_defined_in set [] definitions_in && steps_fit) defined ∙ ap (λ (b : Bool). b && steps_fit) h))

      pub by-steps : are_defined_in set [] definitions_in ≡ true → steps_fit ≡ answer
      by-steps h = sym (rest ∙ (ap (λ (b : Bool). b && are_defined_in set [] definitions_in && steps_fit) defined ∙ ap (λ (b : Bool). b && steps_fit) h))

-- ---- a formula

pub formula-said : (set : ScalarSet) (states start state : List Signature) (f : Formula) → state ≡ map (signature_of set.sort.now) (protocol_of set.protocol.now).variables
    → states ≡ tested_in set state (protocol_of set.protocol.now).definitions → start ≡ tested_in set [] (protocol_of set.protocol.now).definitions
    → is_same set states start f
    ≡ formula_has_kinds (protocol_of set.protocol.now) set.sort.now set.moved.now (signatures_in (protocol_of set.protocol.now) set.sort.now set.moved.now) [] f
formula-said set states start state f e at_states at_start =
    let m = protocol_of set.protocol.now in
    ap (λ (s : List Signature). is_same set s start f) (at_states ∙ ap (λ (s : List Signature). tested_in set s m.definitions) e)
    ∙ ap (λ (s : List Signature). is_same set (tested_in set (map (signature_of set.sort.now) m.variables) m.definitions) s f) at_start
