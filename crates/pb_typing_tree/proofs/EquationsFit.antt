-- The typed tree of each equation of a well-typed specification fits at each instance.
use Rattle.std.proofs.Common.{◌≡◌, ℕ, zero, suc, ◌+◌, Bool, true, List, [], ◌∷◌, ◌++◌, length, refl, sym, ◌∙◌, ap, arith, true≢false, length-append}
use Rattle.std.specs.List.{All}
use Rattle.std.proofs.lemmas.Bool.{and_parts}
use Rattle.std.proofs.lemmas.List.{length-map}
use Rattle.pb_base_values.specs.Carrier.{Tuple, contains, is_within}
use Rattle.pb_text_meaning.specs.Syntax.{Variable, Formula, Equation, Spec}
use Rattle.pb_text_meaning.specs.Sorts.{carrier_of}
use Rattle.pb_text_meaning.specs.Formula.{carriers_of}
use Rattle.pb_text_meaning.specs.Meaning.{assigned}
use Rattle.pb_text_meaning.specs.Fits.{RightFits}
use Rattle.pb_typing_declarations.specs.Shapes.{sort_shape}
use Rattle.pb_typing_declarations.proofs.ShapeLaws.{shape_carrier-sort_shape}
use Rattle.pb_typing_rules.specs.Formula.{IsProper}
use Rattle.pb_typing_rules.specs.WellTyped.{parameter_scope, AreProper, IsWellTyped}
use Rattle.pb_typing_rules.proofs.Fitting.{spec_fits}
use Rattle.pb_typing_tree.specs.Expansion.{expanded}
use Rattle.pb_typing_tree.specs.Elaboration.{unslotted, with_slots, width}
use Rattle.pb_typing_tree.specs.Loops.{loops, variable_shapes}
use Rattle.pb_typing_tree.specs.Fits.{slot_count, EquationFits}
use Rattle.pb_typing_tree.proofs.Fits.{elaborated-fits, expanded-fits}
use Rattle.pb_typing_tree.proofs.Plain.{expanded-plain}
use Rattle.pb_typing_tree.proofs.Parameters.{agree-parameters, free-parameters}

-- a slot for each variable of the quantifiers
pub length-loops : (spec : Spec) (f : Formula) → length (loops spec f) ≡ width f
length-loops spec (Formula.Truth b) = refl
length-loops spec (Formula.Val x) = refl
length-loops spec (Formula.Not f) = length-loops spec f
length-loops spec (Formula.And f g) = length-append (loops spec f) (loops spec g) ∙ omega (arith, length-loops spec f, length-loops spec g)
length-loops spec (Formula.Or f g) = length-append (loops spec f) (loops spec g) ∙ omega (arith, length-loops spec f, length-loops spec g)
length-loops spec (Formula.Implies f g) = length-append (loops spec f) (loops spec g) ∙ omega (arith, length-loops spec f, length-loops spec g)
length-loops spec (Formula.Quantified q xs f) =
    length-append (variable_shapes spec xs) (loops spec f) ∙ omega (arith, length-map xs (λ (x : Variable). sort_shape spec x.sort), length-loops spec f)
length-loops spec (Formula.Call X es) = refl

-- a value for each parameter
pub within-length : (spec : Spec) (xs : List Variable) (vs : Tuple) → is_within (carriers_of spec xs) vs ≡ true → length vs ≡ length xs
within-length spec [] [] e = refl
within-length spec [] (v ∷ vs) e = absurd (true≢false (sym e))
within-length spec (x ∷ xs) [] e = absurd (true≢false (sym e))
within-length spec (x ∷ xs) (v ∷ vs) e = ap suc (within-length spec xs vs (and_parts (contains (carrier_of spec x.sort) v) (is_within (carriers_of spec xs) vs) e).1)

equation-fits : (spec : Spec) (X : Equation) → IsProper spec true (parameter_scope spec X) X.right → RightFits spec X → EquationFits spec X
equation-fits spec X proper fits vs slots within hold clear =
    let scope = parameter_scope spec X in
    let a = assigned X.parameters vs [] in
    elaborated-fits spec (slot_count spec X) (expanded X.right) scope (λ s. sym (shape_carrier-sort_shape spec s)) (expanded-plain spec true scope X.right proper)
    (with_slots X.parameters 0 unslotted) (length X.parameters) slots a (free-parameters X.parameters)
    (agree-parameters X.parameters vs slots (within-length spec X.parameters vs within) hold) clear (omega (arith, length-loops spec (expanded X.right)))
    (expanded-fits spec X.right a (fits vs within))

rights-fit : (spec : Spec) (E : List Equation) → AreProper spec E → All (RightFits spec) E → All (EquationFits spec) E
rights-fit spec [] proper fits k d below = absurd (omega arith)
rights-fit spec (X ∷ E) proper fits zero d below = equation-fits spec X proper.0 (fits 0 X (omega arith))
rights-fit spec (X ∷ E) proper fits (suc k) d below = rights-fit spec E proper.1 (λ j e lt. fits (suc j) e (omega (arith, lt))) k d (omega arith)

pub equations-fit : (spec : Spec) → IsWellTyped spec → All (EquationFits spec) spec.equations
equations-fit spec h = rights-fit spec spec.equations h.rights (spec_fits spec h).rights
