-- The scheme's programs of a well-typed specification's equations are accepted, where they keep the limits.
use Rattle.std.proofs.Common.{◌≡◌, ℕ, zero, suc, ◌+◌, Bool, true, false, cond, List, [], ◌∷◌, map, length, Some, refl, ap, ◌∙◌, subst, arith}
use Rattle.std.specs.Prelude.{slice_get}
use Rattle.std.specs.List.{All}
use Rattle.pb_sorts.specs.declared.carrier.Carrier.{Carrier}
use Rattle.pb_sorts.specs.declared.carrier.Carrier.TheVariants as carrier
use Rattle.pb_sorts.specs.Carrier.{values_of}
use Rattle.pb_text_meaning.specs.Syntax.{Name, same_name, Variable, Equation, Spec}
use Rattle.pb_text_meaning.specs.Sorts as sorts
use Rattle.pb_text_meaning.specs.Formula.{carriers_of}
use Rattle.pb_typing_declarations.specs.Shapes.{Shape, sort_shape, end_of, shape_carrier}
use Rattle.pb_typing_declarations.specs.Entries.{carrier_shape}
use Rattle.pb_typing_declarations.specs.WellDeclared.{AreVariables, IsDeclared, has_shape}
use Rattle.pb_typing_declarations.proofs.ShapeLaws.{shape_carrier-sort_shape}
use Rattle.pb_typing_rules.specs.Scope.{Scope, outermost, declare, bound}
use Rattle.pb_typing_rules.specs.Formula.{IsProper}
use Rattle.pb_typing_rules.specs.WellTyped.{parameter_scope, AreProper, IsWellTyped}
use Rattle.pb_bytecode_program.specs.Values.{is_inhabited}
use Rattle.pb_bytecode_program.specs.Abstract.{abstraction_of}
use Rattle.pb_bytecode_program.specs.declared.domain.AbstractValue.{AbstractValue}
use Rattle.pb_bytecode_program.specs.Machine.{Program}
use Rattle.pb_bytecode_program.specs.Accepted.{Accepted, Table}
use Rattle.pb_normal.specs.Loops.{variable_shapes}
use Rattle.pb_normal.specs.View.{shapes_of}
use Rattle.pb_normal.specs.Normalisation.{Slotting, unslotted, with_slot, with_slots}
use Rattle.pb_normal.specs.Equations.{normal_equation}
use Rattle.pb_assembler_scheme.specs.Equations.{IsProgramOf}
use Rattle.pb_assembler_scheme.proofs.Slots.{program-slots}
use Rattle.pb_assembler_scheme.specs.Limits.{KeepsLimits}
use Rattle.pb_assembler_scheme.specs.Made.{struct_counts, parameter_shapes, IsMadeOf}
use Rattle.pb_assembler_scheme.proofs.AcceptedFormulas.{known_of}
use Rattle.pb_assembler_scheme.proofs.AcceptedWhole.{AreInhabited, parameters_solid, has_table}
use Rattle.pb_assembler_scheme.proofs.Shapes.{HasCarrier, has_carrier}
use Rattle.pb_assembler_scheme.proofs.TextTerms.{IsKnown, InSlot}
use Rattle.pb_assembler_scheme.proofs.TextFormulas.{declared_known, more_slots, formula_types, variable_known}

abbrev AreShaped : Spec → List Variable → Type 0
AreShaped spec xs = All (λ (x : Variable). has_shape (end_of spec x.sort) ≡ true) xs

module _ (spec : Spec) (declared : IsDeclared spec) (p : Program) (same : p.sorts ≡ struct_counts spec.sorts) where
  same_carrier : (d : Carrier) (s : Shape) (k : HasCarrier p.sorts (Some d) s) → d ≡ k.carrier
  same_carrier d s k = let e = k.is in cc

  inhabited : (xs : List Variable) (cs : List Carrier) → shapes_of cs ≡ variable_shapes spec xs → AreShaped spec xs → AreInhabited cs
  inhabited xs [] e shaped = tt
  inhabited [] (d ∷ cs) e shaped = cc
  inhabited (x ∷ xs) (d ∷ cs) e shaped =
      let here : carrier_shape (Some d) ≡ sort_shape spec x.sort = cc in
      let k = has_carrier p.sorts (Some d) (sort_shape spec x.sort) here (variable_known spec declared p same x (shaped 0 x (omega arith))) in
      (ap is_inhabited (same_carrier d (sort_shape spec x.sort) k) ∙ k.inhabited, inhabited xs cs (cc) (λ i y l. shaped (suc i) y (omega arith)))

  module _ (ps : List AbstractValue) where
    abbrev InSlots : ℕ → Scope → Slotting → Type 0
    InSlots n scope c = (x : Name) → InSlot p.sorts [] ps n (c x) (scope x)

    -- from slot n on, these are the parameters
    abbrev HaveFrom : ℕ → List Carrier → Type 0
    HaveFrom n cs = (i : ℕ) → slice_get ps (n + i) ≡ slice_get (map abstraction_of cs) i

    parameters_agree : (xs : List Variable) (cs : List Carrier) (n m : ℕ) (scope : Scope) (c : Slotting)
        → m ≡ n + length xs → shapes_of cs ≡ variable_shapes spec xs → AreShaped spec xs → HaveFrom n cs → InSlots n scope c
        → InSlots m (bound spec xs scope) (with_slots xs n c)
    parameters_agree [] cs n m scope c l e shaped have slots = let at : n ≡ m = omega arith in subst (λ k. InSlots k scope c) at slots
    parameters_agree (x ∷ xs) [] n m scope c l e shaped have slots = cc
    parameters_agree (x ∷ xs) (d ∷ cs) n m scope c l e shaped have slots =
        let s = sort_shape spec x.sort in
        let here : carrier_shape (Some d) ≡ s = cc in
        let known = variable_known spec declared p same x (shaped 0 x (omega arith)) in
        let k = has_carrier p.sorts (Some d) s here known in
        let zero_on : n ≡ n + 0 = omega arith in
        let at : slice_get ps n ≡ Some (known_of s) = ap (slice_get ps) zero_on ∙ have 0 ∙ ap (λ (b : Carrier). Some (abstraction_of b)) (same_carrier d s k) ∙ ap Some k.known in
        parameters_agree xs cs (suc n) m (declare x.name s scope) (with_slot x.name n c) (omega arith) (cc) (λ i y b. shaped (suc i) y (omega arith))
        (λ i. let on : suc n + i ≡ n + suc i = omega arith in ap (slice_get ps) on ∙ have (suc i))
        (λ y. by y s at (declared_known p.sorts s known) (same_name x.name y))
      where
        by : (y : Name) (s : Shape) → slice_get ps n ≡ Some (known_of s) → IsKnown p.sorts s → (b : Bool) → InSlot p.sorts [] ps (suc n) (cond b (Some n) (c y)) (cond b (Some s) (scope y))
        by y s at known true = (omega arith, at, known)
        by y s at known false = more_slots p.sorts [] ps n (suc n) (c y) (scope y) (omega arith) (slots y)

module _ (spec : Spec) (typed : IsWellTyped spec) where
  equation_accepted : (X : Equation) → IsProper spec true (parameter_scope spec X) X.right
      → AreVariables spec X.parameters → (p : Program) → IsMadeOf spec X p → KeepsLimits p (normal_equation spec X)
      → (table : Table) × Accepted p table
  equation_accepted X proper variables p m limits =
      let some = inhabited spec typed.declarations p m.sorts X.parameters p.parameters m.parameters variables.shaped in
      let ps = map abstraction_of p.parameters in
      let slots = parameters_agree spec typed.declarations p m.sorts ps X.parameters p.parameters 0 (length X.parameters) outermost unslotted (omega arith) m.parameters variables.shaped
      (λ i. let at : 0 + i ≡ i = omega arith in ap (slice_get ps) at) (λ x. tt) in
      has_table p (normal_equation spec X) m.compiled
      (formula_types spec typed.declarations p m.sorts ps (parameters_solid p p.parameters some) m.callees true
      (parameter_scope spec X) X.right proper [] (with_slots X.parameters 0 unslotted) (length X.parameters)
      (record { slots = slots; fresh = λ i l. refl; solid = tt }) (program-slots p (normal_equation spec X) m.compiled.slots))
      some limits

  rights_accepted : (E : List Equation) → AreProper spec E → All (λ (X : Equation). AreVariables spec X.parameters) E
      → All (λ (X : Equation). (p : Program) → IsMadeOf spec X p → KeepsLimits p (normal_equation spec X)
      → (table : Table) × Accepted p table) E
  rights_accepted [] proper variables k d below = absurd (omega arith)
  rights_accepted (X ∷ E) proper variables zero d below = equation_accepted X proper.0 (variables 0 X (omega arith))
  rights_accepted (X ∷ E) proper variables (suc k) d below = rights_accepted E proper.1 (λ i Y l. variables (suc i) Y (omega arith)) k d (omega arith)

  pub equations_accepted : All (λ (X : Equation). (p : Program) → IsMadeOf spec X p → KeepsLimits p (normal_equation spec X) → (table : Table) × Accepted p table) spec.equations
  equations_accepted = rights_accepted spec.equations typed.rights typed.declarations.parameters

-- ---- these are the scheme's programs

carrier_values : (d : Carrier) → values_of d ≡ shape_carrier (carrier_shape (Some d))
carrier_values carrier.Bool = refl
carrier_values (carrier.Enum e) = refl
carrier_values (carrier.Range r) = refl

pub all_values : (spec : Spec) (cs : List Carrier) (xs : List Variable) → shapes_of cs ≡ variable_shapes spec xs → map values_of cs ≡ carriers_of spec xs
all_values spec [] [] e = refl
all_values spec [] (x ∷ xs) e = cc
all_values spec (d ∷ cs) [] e = cc
all_values spec (d ∷ cs) (x ∷ xs) e =
    let here : carrier_shape (Some d) ≡ sort_shape spec x.sort = cc in
    let first : values_of d ≡ sorts.carrier_of spec x.sort = carrier_values d ∙ ap shape_carrier here ∙ shape_carrier-sort_shape spec x.sort in
    let rest = all_values spec cs xs (cc) in
    cc

callee_values : (spec : Spec) (ds : List (List Carrier)) (E : List Equation)
    → map shapes_of ds ≡ parameter_shapes spec E
    → map (λ (cs : List Carrier). map values_of cs) ds ≡ map (λ (X : Equation). carriers_of spec X.parameters) E
callee_values spec [] [] e = refl
callee_values spec [] (X ∷ E) e = cc
callee_values spec (d ∷ ds) [] e = cc
callee_values spec (d ∷ ds) (X ∷ E) e =
    let first = all_values spec d X.parameters (cc) in
    let rest = callee_values spec ds E (cc) in
    cc

pub program_made : (spec : Spec) (X : Equation) (p : Program) → IsMadeOf spec X p → IsProgramOf spec X p
program_made spec X p m = record { compiled = m.compiled; parameters = all_values spec p.parameters X.parameters m.parameters; callees = callee_values spec p.callees spec.equations m.callees }
