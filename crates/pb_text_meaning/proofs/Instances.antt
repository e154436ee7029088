-- In a text whose right sides are positive, each set of the solution is an extreme fixpoint.
use Rattle.std.proofs.Common.{◌≡◌, List, [], ◌∷◌, map, Contains, subst, sym, ◌∙◌}
use Rattle.std.specs.Cmp.Lexicographic.{same_text}
use Rattle.std.proofs.lemmas.Bool.{and_parts}
use Rattle.std.proofs.lemmas.List.{length-map}
use Rattle.pb_base_values.specs.Carrier.{Tuple, is_within, tuples}
use Rattle.pb_base_values.proofs.Tuples.{In, in_map, in_contains, in_tuples, length-tuples}
use Rattle.pb_fixpoint.specs.Solution.{Environment}
use Rattle.pb_fixpoint.specs.Fixpoint.{AreInstances, AreMonotone, IsSolved}
use Rattle.pb_fixpoint.proofs.Solved.{value_of-solved}
use Rattle.pb_text_meaning.specs.Syntax.{Name, same_name, Equation, Spec}
use Rattle.pb_text_meaning.specs.Formula.{Instance, carriers_of}
use Rattle.pb_text_meaning.specs.Meaning.{equation_of}
use Rattle.pb_text_meaning.specs.Positive.{ArePositive}
use Rattle.pb_text_meaning.proofs.Positive.{positive_is_monotone}

abbrev pub named_with : Name → Tuple → Instance
named_with x vs = record { name = x; values = vs }

-- the instances of a text's equation
pub instances_of : (spec : Spec) (X : Equation) → AreInstances (equation_of spec X) (map (named_with X.name) (tuples (carriers_of spec X.parameters)))
instances_of spec X = record {
  all = λ i own.
      let p = and_parts (same_name X.name i.name) (is_within (carriers_of spec X.parameters) i.values) own in
      let here : In i.values (tuples (carriers_of spec X.parameters)) = in_tuples (carriers_of spec X.parameters) i.values p.1 in
      let same : X.name ≡ i.name = same_text X.name i.name (sym p.0) in
      subst (λ (x : Name). Contains (map (named_with X.name) (tuples (carriers_of spec X.parameters))) (named_with x i.values)) same
      (in_contains (named_with X.name i.values) (map (named_with X.name) (tuples (carriers_of spec X.parameters))) (in_map (named_with X.name) i.values (tuples (carriers_of spec X.parameters)) here));
  count = length-map (tuples (carriers_of spec X.parameters)) (named_with X.name) ∙ length-tuples (carriers_of spec X.parameters);
}

pub are_monotone : (spec : Spec) (E : List Equation) → ArePositive E → AreMonotone (map (equation_of spec) E)
are_monotone spec [] p = tt
are_monotone spec (X ∷ E) p = (positive_is_monotone spec X p.0, are_monotone spec E p.1)

-- the sets of a text's equations are extreme fixpoints
pub text_is_solved : (spec : Spec) (X : Equation) (E : List Equation) (t : Environment Instance) → ArePositive (X ∷ E) → IsSolved (equation_of spec X) (map (equation_of spec) E) t
text_is_solved spec X E t p =
    value_of-solved (equation_of spec X) (map (equation_of spec) E) (positive_is_monotone spec X p.0) (are_monotone spec E p.1) t
    (map (named_with X.name) (tuples (carriers_of spec X.parameters))) (instances_of spec X)
