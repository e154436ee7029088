-- The equation at a place, in the text and in the typed tree, and its instances.
use Rattle.std.proofs.Common.{◌≡◌, ℕ, zero, suc, ◌<◌, arith, List, [], ◌∷◌, map, length, get_or, Option, Some, sym, ◌∙◌, ap, true}
use Rattle.std.specs.Prelude.{◌==◌}
use Rattle.std.proofs.lemmas.Bool.{eqb-true, and_parts}
use Rattle.std.specs.List.{slice_get}
use Rattle.std.proofs.lemmas.Option.{same_Some, slice_get_within, slice_get-get_or}
use Rattle.pb_text_tree.specs.declared.spec.Equation as declared_equation
use Rattle.pb_text_tree.specs.declared.spec.Spec as declared_spec
use Rattle.pb_text_tree.specs.Form.{equation_form, spec_form}
use Rattle.pb_base_values.specs.Carrier as carriers
use Rattle.pb_base_values.specs.Carrier.{is_within}
use Rattle.pb_sorts.specs.declared.carrier.Carrier.{Carrier}
use Rattle.pb_sorts.specs.Carrier.{values_of}
use Rattle.pb_sorts.specs.Instance as numbered
use Rattle.pb_sorts.specs.Instance.{instances, is_instance, is_tuple_of, owns_number}
use Rattle.pb_sorts.specs.Layout.{carriers_of}
use Rattle.pb_text_meaning.specs.Syntax.{Variable, Equation, Spec}
use Rattle.pb_text_meaning.specs.Sorts.{carrier_of}
use Rattle.pb_text_meaning.specs.Formula as formula
use Rattle.pb_text_meaning.specs.Erase.{erase, erased_equation}
use Rattle.pb_sorts.proofs.Numbers.{owns_number-owns_instance}
use Rattle.pb_sorts.proofs.Places.{slice_get-mapped, map_length}
use Rattle.pb_sorts.proofs.Equations.{length-carriers_of, slice_get-carriers_of}
use Rattle.pb_typing_declarations.specs.Shapes.{Shape}
use Rattle.pb_typing_declarations.specs.Entries.{shape_of, shapes_of}
use Rattle.pb_typing_tree.specs.Tree as tree
use Rattle.pb_typing_tree.specs.declared.formula.Equation as typed_equation
use Rattle.pb_typing_tree.specs.Elaboration.{elaborated_equation, elaborated_equations}
use Rattle.pb_typing_tree.specs.Loops.{all_loops, equation_loops}
use Rattle.pb_typing_tree.specs.View.{formula_view, loop_shapes, right_views}
use Rattle.pb_typing_values.specs.Environment.{all_carriers}

-- what an instance at one of an equation's numbers is
pub owned_instance : (S : Spec) (layout : List (List Carrier)) (k n : ℕ) (X : Equation) (i : numbered.Instance) → carriers_of layout ≡ all_carriers S → slice_get S.equations k ≡ Some X
    → slice_get (instances (carriers_of layout)) n ≡ Some i → owns_number (carriers_of layout) k n ≡ true → (i.equation ≡ k) × (is_within (formula.carriers_of S X.parameters) i.values ≡ true)
owned_instance S layout k n X i laid at there own =
    let css = carriers_of layout in
    let there_too : slice_get css k ≡ Some (formula.carriers_of S X.parameters) =
    ap (λ (cs : List (List carriers.Carrier)). slice_get cs k) laid ∙ slice_get-mapped (λ (Y : Equation). formula.carriers_of S Y.parameters) S.equations k X at in
    let p = and_parts (i.equation == k) (is_instance css i) (sym (owns_number-owns_instance css k n i (slice_get_within css k _ there_too) there) ∙ own) in
    let same : i.equation ≡ k = eqb-true i.equation k p.0 in (
      same,
      ap (λ (o : Option (List carriers.Carrier)). is_tuple_of o i.values) (sym there_too) ∙ (ap (λ (j : ℕ). is_tuple_of (slice_get css j) i.values) (sym same) ∙ p.1),
    )

-- the equation at a place of the program's list
pub equation_there : (E : List declared_equation.Equation) (k : ℕ) (X : declared_equation.Equation) → k < length E
    → X ≡ get_or E k X → slice_get (map erased_equation (map equation_form E)) k ≡ Some (erased_equation (equation_form X))
equation_there [] k X lt at = absurd (omega arith)
equation_there (Y ∷ E) zero X lt at = ap (λ (Z : declared_equation.Equation). Some (erased_equation (equation_form Z))) (sym at)
equation_there (Y ∷ E) (suc k) X lt at = equation_there E k X (omega arith) at

-- a layout has as many equations as the text
pub laid_length : (spec : declared_spec.Spec) (layout : List (List Carrier)) → carriers_of layout ≡ all_carriers (erase (spec_form spec)) → length layout ≡ length spec.equations.items
laid_length spec layout laid =
    sym (length-carriers_of layout)
    ∙ (ap (λ (cs : List (List carriers.Carrier)). length cs) laid
    ∙ (map_length (λ (Y : Equation). formula.carriers_of (erase (spec_form spec)) Y.parameters) (erase (spec_form spec)).equations
    ∙ (map_length erased_equation (spec_form spec).equations ∙ map_length equation_form spec.equations.items)))

-- the equation at a place that a layout knows
pub equation_known : (spec : declared_spec.Spec) (layout : List (List Carrier)) (k : ℕ) (X : declared_equation.Equation)
    → carriers_of layout ≡ all_carriers (erase (spec_form spec)) → k < length layout → X ≡ get_or spec.equations.items k X
    → slice_get (erase (spec_form spec)).equations k ≡ Some (erased_equation (equation_form X))
equation_known spec layout k X laid lt at = equation_there spec.equations.items k X (omega (arith, lt, laid_length spec layout laid)) at

-- ---- the typed tree

-- so many trees as equations
pub typed_length : (S : Spec) (layout : List (List Carrier)) (E : List typed_equation.Equation)
    → carriers_of layout ≡ all_carriers S → right_views E ≡ elaborated_equations S S.equations → length layout ≡ length E
typed_length S layout E laid views =
    sym (length-carriers_of layout)
    ∙ (ap (λ (cs : List (List carriers.Carrier)). length cs) laid
    ∙ (map_length (λ (Y : Equation). formula.carriers_of S Y.parameters) S.equations
    ∙ (sym (map_length (elaborated_equation S) S.equations)
    ∙ (ap (λ (fs : List tree.Formula). length fs) (sym views) ∙ map_length (λ (Y : typed_equation.Equation). formula_view Y.right) E))))

there : (E : List typed_equation.Equation) (k : ℕ) (R : typed_equation.Equation) → k < length E → R ≡ get_or E k R → slice_get E k ≡ Some R
there E k R lt at = slice_get-get_or E k R lt ∙ ap (λ (Y : typed_equation.Equation). Some Y) (sym at)

-- the tree at a place is that of the equation there
pub right_there : (S : Spec) (E : List typed_equation.Equation) (k : ℕ) (X : Equation) (R : typed_equation.Equation)
    → right_views E ≡ elaborated_equations S S.equations → slice_get S.equations k ≡ Some X → k < length E → R ≡ get_or E k R
    → formula_view R.right ≡ elaborated_equation S X
right_there S E k X R views here lt at =
    same_Some (formula_view R.right) (elaborated_equation S X)
    (sym (slice_get-mapped (λ (Y : typed_equation.Equation). formula_view Y.right) E k R (there E k R lt at))
    ∙ (ap (λ (fs : List tree.Formula). slice_get fs k) views ∙ slice_get-mapped (elaborated_equation S) S.equations k X here))

-- so many loops as the equation's quantifiers have variables
pub loops_there : (S : Spec) (E : List typed_equation.Equation) (k : ℕ) (X : Equation) (R : typed_equation.Equation)
    → loop_shapes E ≡ all_loops S → slice_get S.equations k ≡ Some X → k < length E → R ≡ get_or E k R
    → length R.loops.items ≡ length (equation_loops S X)
loops_there S E k X R shapes here lt at =
    sym (map_length shape_of R.loops.items)
    ∙ ap (λ (ss : List Shape). length ss)
    (same_Some (shapes_of R.loops.items) (equation_loops S X)
    (sym (slice_get-mapped (λ (Y : typed_equation.Equation). shapes_of Y.loops.items) E k R (there E k R lt at))
    ∙ (ap (λ (sss : List (List Shape)). slice_get sss k) shapes ∙ slice_get-mapped (equation_loops S) S.equations k X here)))

-- so many carriers as parameters
pub parameters_there : (S : Spec) (layout : List (List Carrier)) (k : ℕ) (X : Equation) (cs : List Carrier)
    → carriers_of layout ≡ all_carriers S → slice_get S.equations k ≡ Some X → slice_get layout k ≡ Some cs
    → length cs ≡ length X.parameters
parameters_there S layout k X cs laid here at =
    sym (map_length values_of cs)
    ∙ (ap (λ (ds : List carriers.Carrier). length ds)
    (same_Some (map values_of cs) (formula.carriers_of S X.parameters)
    (sym (slice_get-carriers_of layout k cs at)
    ∙ (ap (λ (css : List (List carriers.Carrier)). slice_get css k) laid
    ∙ slice_get-mapped (λ (Y : Equation). formula.carriers_of S Y.parameters) S.equations k X here)))
    ∙ map_length (λ (x : Variable). carrier_of S x.sort) X.parameters)
