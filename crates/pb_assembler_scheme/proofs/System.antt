-- The trees of the scheme's programs have the solution of the specification, and with it its answer.
use Rattle.std.proofs.Common.{◌≡◌, ℕ, zero, suc, ◌+◌, Bool, true, false, ◌&&◌, List, [], ◌∷◌, map, length, Option, Some, None, refl, sym, ap, ◌∙◌, subst, arith, get_or}
use Rattle.std.specs.Prelude.{nat_le, nat_lt}
use Rattle.std.specs.List.{All, slice_get}
use Rattle.std.specs.Option.{option_map}
use Rattle.std.proofs.lemmas.Bool.{and_parts}
use Rattle.std.proofs.lemmas.Option.{slice_get-get_or, slice_get-map, slice_get_within, get_or_from_slice_get}
use Rattle.std.proofs.lemmas.Slice.Eq.{bytes_eq-Decides}
use Rattle.pb_fixpoint.specs.Solution as fixpoint
use Rattle.pb_fixpoint.specs.Solution.{Environment, solution, empty}
use Rattle.pb_fixpoint.specs.Transfer.{Matches, IsSame, AreSame}
use Rattle.pb_fixpoint.proofs.Transfer.{solution-matches}
use Rattle.pb_base_values.specs.Carrier.{Carrier, is_within, tuple_count}
use Rattle.pb_sorts.specs.Instance.{first_of, size_of, tuple_count_at}
use Rattle.pb_sorts.proofs.Numbers.{first_of-next}
use Rattle.pb_fixpoint_trees.specs.Tree.{Tree, tree_truth}
use Rattle.pb_fixpoint_trees.specs.Equations.{numbered, solved}
use Rattle.pb_text_meaning.specs.Syntax.{same_name, Equation, Spec}
use Rattle.pb_text_meaning.specs.Formula.{Instance, carriers_of, equation_named, is_instance}
use Rattle.pb_text_meaning.specs.Meaning.{equation_of, equations_of}
use Rattle.pb_typing_rules.specs.WellTyped.{IsWellTyped}
use Rattle.pb_typing_values.specs.Environment.{all_carriers}
use Rattle.pb_bytecode_program.specs.Machine.{Program}
use Rattle.pb_assembler_scheme.specs.Correct.{number_in}
use Rattle.pb_assembler_scheme.specs.Equations.{IsProgramOf, DecidesEquation}
use Rattle.pb_assembler_scheme.specs.System.{ArePrograms, AreTrees, signature_of, initial_instance, HaveAnswer}
use Rattle.pb_assembler_scheme.proofs.Known.{IsKnown, place_in, known-instance, owns-number}
use Rattle.pb_assembler_scheme.proofs.Numbered.{found-named}
use Rattle.pb_normal.proofs.Sequences.{changed, HoldsAlike, same-solution}

-- the program of the equation at a place
record HasProgram (spec : Spec) (ps : List Program) (k : ℕ) (X : Equation) : Type 0 where
  program : Program
  at : slice_get ps k ≡ Some program
  of_equation : IsProgramOf spec X program

program-at : (spec : Spec) (E : List Equation) (ps : List Program) (k : ℕ) (X : Equation) → ArePrograms spec E ps → slice_get E k ≡ Some X → HasProgram spec ps k X
program-at spec [] ps k X h e = cc
program-at spec (Y ∷ E) [] k X h e = absurd h
program-at spec (Y ∷ E) (p ∷ ps) zero X h e = let same : Y ≡ X = cc in record { program = p; at = refl; of_equation = subst (λ (Z : Equation). IsProgramOf spec Z p) same h.0 }
program-at spec (Y ∷ E) (p ∷ ps) (suc k) X h e = let r = program-at spec E ps k X h.1 e in record { program = r.program; at = r.at; of_equation = r.of_equation }

-- where the equation of an instance holds
abbrev pub holds_of : Spec → Option Equation → Instance → Environment Instance → Bool
holds_of spec None i t = false
holds_of spec (Some X) i t = (equation_of spec X).holds i t

abbrev pub holds_there : Spec → Equation → Instance → Environment Instance → Bool
holds_there spec X i t = holds_of spec (equation_named spec.equations i.name) i t

-- an equation that holds at each instance where the equation of the instance's name does
abbrev pub by_name : Spec → Equation → fixpoint.Equation Instance
by_name spec X = changed Instance Equation (equation_of spec) (holds_there spec) X

module _ (spec : Spec) (typed : IsWellTyped spec)
    (decides : All (λ (X : Equation). (p : Program) → IsProgramOf spec X p → DecidesEquation spec X p) spec.equations)
    (ps : List Program) (programs : ArePrograms spec spec.equations ps) (trees : ℕ → Tree) (ends : AreTrees spec ps trees) where
  holds-alike : (X : Equation) (k : ℕ) → slice_get spec.equations k ≡ Some X → HoldsAlike Instance Equation (equation_of spec) (holds_there spec) X
  holds-alike X k at t i own =
      let two = and_parts (same_name X.name i.name) (is_within (carriers_of spec X.parameters) i.values) own in
      let name : X.name ≡ i.name = (bytes_eq-Decides X.name i.name).0 two.0 in
      let found = found-named spec.equations k X typed.declarations.predicate_variables at in
      ap (λ (o : Option Equation). holds_of spec o i t) (ap (equation_named spec.equations) (sym name) ∙ found)

  all-alike : All (HoldsAlike Instance Equation (equation_of spec) (holds_there spec)) spec.equations
  all-alike k d below = holds-alike (get_or spec.equations k d) k (slice_get-get_or spec.equations k d below)

  -- an instance's tree is true where its equation holds
  tree-holds : (numbers : Environment ℕ) (t : Environment Instance)
      → Matches (is_instance spec) (number_in spec) numbers t → (i : Instance) → IsKnown spec i
      → holds_of spec (equation_named spec.equations i.name) i t ≡ tree_truth numbers (trees (number_in spec i))
  tree-holds numbers t matches i known =
      let X = known.equation in
      let k = place_in spec i in
      let h = program-at spec spec.equations ps k X programs known.at in
      let p = h.program in
      let fit = subst (λ (cs : List Carrier). is_within cs i.values ≡ true) (sym h.of_equation.parameters) known.within in
      let here = get_or_from_slice_get spec.equations k X X known.at in
      let law : DecidesEquation spec X p =
      subst (λ (Y : Equation). (q : Program) → IsProgramOf spec Y q → DecidesEquation spec Y q) here
      (decides k X (slice_get_within spec.equations k X known.at)) p h.of_equation in
      ap (λ (o : Option Equation). holds_of spec o i t) known.found
      ∙ ap (λ x. (equation_of spec X).holds (record { name = x; values = i.values }) t) (sym known.named)
      ∙ sym (law i.values (trees (number_in spec i)) fit (ends k p i.values h.at fit) numbers t matches)

  size-at : (k : ℕ) (X : Equation) → slice_get spec.equations k ≡ Some X → size_of (all_carriers spec) k ≡ tuple_count (carriers_of spec X.parameters)
  size-at k X at =
      ap tuple_count_at (slice_get-map (λ (Y : Equation). carriers_of spec Y.parameters) spec.equations k ∙ ap (option_map (λ (Y : Equation). carriers_of spec Y.parameters)) at)

  is-same : (k first : ℕ) (X : Equation) → slice_get spec.equations k ≡ Some X → first ≡ first_of (all_carriers spec) k
      → IsSame (is_instance spec) (number_in spec) (Rattle.pb_fixpoint_trees.specs.Equations.equation first (signature_of spec X) trees) (by_name spec X)
  is-same k first X at begins = record {
    sign = refl;
    size = refl;
    owns = λ i e.
        let known = known-instance spec i e in
        let h = program-at spec spec.equations ps (place_in spec i) known.equation programs known.at in
        owns-number spec typed.declarations.predicate_variables h.program.callees h.of_equation.callees i known k X at
        ∙ ap (λ (m : ℕ). nat_le m (number_in spec i) && nat_lt (number_in spec i) (m + size_of (all_carriers spec) k)) (sym begins)
        ∙ ap (λ (m : ℕ). nat_le first (number_in spec i) && nat_lt (number_in spec i) (first + m)) (size-at k X at);
    holds = λ numbers t matches i e. tree-holds numbers t matches i (known-instance spec i e);
  }

  long : (E : List Equation) → length (map (λ (X : Equation). carriers_of spec X.parameters) E) ≡ length E
  long [] = refl
  long (X ∷ E) = ap suc (long E)

  pub are-same : (E : List Equation) (k first : ℕ) → first ≡ first_of (all_carriers spec) k → ((b : ℕ) → slice_get spec.equations (k + b) ≡ slice_get E b)
      → AreSame (is_instance spec) (number_in spec) (numbered first (map (signature_of spec) E) trees) (map (by_name spec) E)
  are-same [] k first begins behind = tt
  are-same (X ∷ E) k first begins behind =
      let none : k + 0 ≡ k = omega arith in
      let at : slice_get spec.equations k ≡ Some X = ap (slice_get spec.equations) (sym none) ∙ behind 0 in
      let below = slice_get_within spec.equations k X at in
      let count = long spec.equations in
      let next : first + tuple_count (carriers_of spec X.parameters) ≡ first_of (all_carriers spec) (suc k) =
      ap (λ (m : ℕ). m + tuple_count (carriers_of spec X.parameters)) begins
      ∙ ap (λ (m : ℕ). first_of (all_carriers spec) k + m) (sym (size-at k X at))
      ∙ sym (first_of-next (all_carriers spec) k (omega (arith, count))) in (
        is-same k first X at begins,
        are-same E (suc k) (first + tuple_count (carriers_of spec X.parameters)) next (λ b. let move : suc k + b ≡ k + suc b = omega arith in ap (slice_get spec.equations) move ∙ behind (suc b)),
      )

  pub solutions-match : (i : Instance) → is_instance spec i ≡ true → solution (equations_of spec) empty i ≡ solved (map (signature_of spec) spec.equations) trees (number_in spec i)
  solutions-match i e =
      ap (λ (t : Environment Instance). t i) (same-solution Instance Equation (equation_of spec) (holds_there spec) spec.equations all-alike empty)
      ∙ solution-matches ℕ Instance (is_instance spec) (number_in spec) (numbered 0 (map (signature_of spec) spec.equations) trees) (map (by_name spec) spec.equations)
      (are-same spec.equations 0 0 refl (λ b. let none : 0 + b ≡ b = omega arith in ap (slice_get spec.equations) none)) empty empty (λ j k. refl) i e

  pub have-answer : HaveAnswer spec trees
  have-answer =
      sym (ap (λ b. b && solution (equations_of spec) empty (initial_instance spec)) typed.values ∙ solutions-match (initial_instance spec) typed.values)
