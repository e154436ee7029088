-- Whole texts: no fault exactly where what the text says is well typed.
use Rattle.std.proofs.Common.{◌≡◌, ◌≤◌, ℕ, Bool, true, false, ◌&&◌, cond, List, [], ◌∷◌, map, length, refl, sym, ◌∙◌, ap, subst, arith, Option, Some, None, true≢false}
use Rattle.std.specs.Prelude.{All}
use Rattle.pb_sorts.specs.declared.counting.TheConstants.{MAX_NUMBERS}
use Rattle.std.specs.List.{Contains}
use Rattle.std.specs.Option.{IfSome}
use Rattle.std.proofs.lemmas.Bool.{and_parts}
use Rattle.std.proofs.lemmas.List.Elements.{All-head, All-tail}
use Rattle.pb_text_tree.specs.Form.{ArgumentForms, no_arguments, argument, EquationForm, SpecForm}
use Rattle.pb_base_values.specs.Carrier.{Carrier, Value, is_within, contains}
use Rattle.pb_text_meaning.specs.Syntax.{Name, same_name, Variable, Equation, Spec}
use Rattle.pb_text_meaning.specs.Sorts.{carrier_of}
use Rattle.pb_text_meaning.specs.Value.{value, values}
use Rattle.pb_text_meaning.specs.Formula.{carriers_of, equation_named, fits}
use Rattle.pb_text_meaning.specs.Erase.{erase, erased_equation, erased_term, erased_arguments, erased_variables}
use Rattle.pb_typing_declarations.specs.declared.fault.TypingFault.{TypingFault}
use Rattle.pb_base.specs.OrMemory.{IfFault}
use Rattle.pb_base.specs.declared.or_memory.OrMemory.{OrMemory}
use Rattle.pb_base.specs.declared.or_memory.OrMemory.TheVariants.{Refused, Memory}
use Rattle.pb_typing_declarations.specs.Faults.{IsAmong}
use Rattle.pb_typing_declarations.specs.Declarations.{declaration_faults}
use Rattle.pb_typing_declarations.specs.WellDeclared.{HaveEnds, IsDeclared}
use Rattle.pb_typing_rules.specs.Scope.{outermost, bound}
use Rattle.pb_typing_rules.specs.Formula.{count, IsCalled}
use Rattle.pb_typing_rules.specs.Faults.{instance_faults, right_faults, may_have, value_faults, parameters_named, and_then, faults}
use Rattle.pb_typing_rules.specs.WellTyped.{AreProper, IsWellTypedWithin}
use Rattle.pb_typing_declarations.proofs.Parts.{no_parts, no_whole, holds_unless, unless_holds}
use Rattle.pb_typing_declarations.proofs.DeclaredEnds.{faultless_ends}
use Rattle.pb_typing_declarations.proofs.DeclaredLaw as declaration
use Rattle.pb_typing_rules.proofs.SortValues.{some_value}
use Rattle.pb_typing_rules.proofs.Exact.{proper, formula_clear, instance_proper, instance_clear}

rights_proper : (spec : Spec) (E : List EquationForm) → HaveEnds spec → right_faults spec E ≡ [] → AreProper spec (map erased_equation E)
rights_proper spec [] ends e = tt
rights_proper spec (X ∷ E) ends e =
    let q = no_parts _ _ e in (proper spec ends true (bound spec (erased_variables X.parameters) outermost) X.right q.0, rights_proper spec E ends q.1)

rights_clear : (spec : Spec) (E : List EquationForm) → AreProper spec (map erased_equation E) → right_faults spec E ≡ []
rights_clear spec [] h = refl
rights_clear spec (X ∷ E) h =
    no_whole _ _ (formula_clear spec true (bound spec (erased_variables X.parameters) outermost) X.right h.0) (rights_clear spec E h.1)

-- ---- the values of the initial instance

-- a carrier with values has those that it may have
pub may_have_of_some : (c : Carrier) (v : Value) → 1 ≤ length c → may_have c v ≡ contains c v
may_have_of_some [] v some = absurd (omega (arith, some))
may_have_of_some (w ∷ ws) v some = refl

may_have_contained : (c : Carrier) (v : Value) → contains c v ≡ true → may_have c v ≡ true
may_have_contained [] v e = refl
may_have_contained (w ∷ ws) v e = e

abbrev HasValues : Spec → Variable → Type 0
HasValues spec x = 1 ≤ length (carrier_of spec x.sort)

within_of_clear : (spec : Spec) (es : ArgumentForms) (xs : List Variable) → All (HasValues spec) xs → count (erased_arguments es) ≡ length xs → value_faults spec es xs ≡ []
    → is_within (carriers_of spec xs) (values spec [] (erased_arguments es)) ≡ true
within_of_clear spec no_arguments [] some n e = refl
within_of_clear spec no_arguments (x ∷ xs) some n e = absurd (omega (arith, n))
within_of_clear spec (argument p y es) [] some n e = absurd (omega (arith, n))
within_of_clear spec (argument p y es) (x ∷ xs) some n e =
    let q = no_parts _ _ e in
    let here = sym (may_have_of_some (carrier_of spec x.sort) (value spec [] (erased_term y)) (All-head (HasValues spec) x xs some)) ∙ holds_unless _ _ _ q.0 in
    ap (λ b. b && is_within (carriers_of spec xs) (values spec [] (erased_arguments es))) here
    ∙ within_of_clear spec es xs (All-tail (HasValues spec) x xs some) (omega (arith, n)) q.1

values_clear : (spec : Spec) (es : ArgumentForms) (xs : List Variable) → is_within (carriers_of spec xs) (values spec [] (erased_arguments es)) ≡ true → value_faults spec es xs ≡ []
values_clear spec no_arguments xs e = refl
values_clear spec (argument p y es) [] e = refl
values_clear spec (argument p y es) (x ∷ xs) e =
    let v = value spec [] (erased_term y) in
    let q = and_parts (contains (carrier_of spec x.sort) v) (is_within (carriers_of spec xs) (values spec [] (erased_arguments es))) e in
    no_whole _ _ (unless_holds _ _ _ (may_have_contained (carrier_of spec x.sort) v q.0)) (values_clear spec es xs q.1)

abbrev HaveValues : Spec → Equation → Type 0
HaveValues spec X = All (HasValues spec) X.parameters

-- an equation's parameters have values, where it is declared as it must be
equation_values : (spec : Spec) (x : Name) (E : List Equation) → All (HaveValues spec) E → IfSome (equation_named E x) (HaveValues spec)
equation_values spec x [] all = tt
equation_values spec x (X ∷ E) all = by_test (same_name X.name x) (equation_values spec x E (All-tail (HaveValues spec) X E all))
  where
    by_test : (b : Bool) → IfSome (equation_named E x) (HaveValues spec) → IfSome (cond b (Some X) (equation_named E x)) (HaveValues spec)
    by_test true rest = All-head (HaveValues spec) X E all
    by_test false rest = rest

parameters_values : (spec : Spec) → IsDeclared spec → All (HaveValues spec) spec.equations
parameters_values spec d k X below j x within =
    some_value spec _ d ((d.parameters k X below).shaped j x within)

instance_of_clear : (spec : Spec) (es : ArgumentForms) (X : Option Equation) → IfSome X (HaveValues spec)
    → IsCalled spec outermost (erased_arguments es) X → value_faults spec es (parameters_named X) ≡ []
    → fits spec X (values spec [] (erased_arguments es)) ≡ true
instance_of_clear spec es None some h e = absurd h
instance_of_clear spec es (Some X) some h e = within_of_clear spec es X.parameters some h.0 e

instance_values_clear : (spec : Spec) (es : ArgumentForms) (X : Option Equation) → fits spec X (values spec [] (erased_arguments es)) ≡ true → value_faults spec es (parameters_named X) ≡ []
instance_values_clear spec es None e = absurd (true≢false (sym e))
instance_values_clear spec es (Some X) e = values_clear spec es X.parameters e

and_then_parts : (xs ys : List TypingFault) → and_then xs ys ≡ [] → (xs ≡ []) × (ys ≡ [])
and_then_parts [] ys e = (refl, e)
and_then_parts (x ∷ xs) ys e = cc

and_then_whole : (xs ys : List TypingFault) → xs ≡ [] → ys ≡ [] → and_then xs ys ≡ []
and_then_whole xs ys e f = ap (λ (zs : List TypingFault). and_then zs ys) e ∙ f

-- ---- all

pub well_typed : {limit : ℕ} (text : SpecForm) → limit ≤ MAX_NUMBERS → faults limit text ≡ [] → IsWellTypedWithin limit (erase text)
well_typed {limit} text small e =
    let spec = erase text in
    let i = text.initial in
    let q = no_parts (declaration_faults limit text) _ e in
    let r = no_parts (right_faults spec text.equations) _ q.1 in
    let u = and_then_parts (instance_faults spec true outermost i) _ r.1 in
    let ends = faultless_ends limit text q.0 in
    let initial = instance_proper spec ends true outermost i u.0 in
    let within = declaration.declared_within text small q.0 in
    let declared = within.declared in
    let some = equation_values spec i.name.text spec.equations (parameters_values spec declared) in
    record {
      few = within.few;
      typed = record {
        declarations = declared;
        rights = rights_proper spec text.equations ends r.0;
        initial = initial;
        values = instance_of_clear spec i.arguments (equation_named spec.equations i.name.text) some initial.1 u.1;
      };
    }

pub faultless : {limit : ℕ} (text : SpecForm) → IsWellTypedWithin limit (erase text) → faults limit text ≡ []
faultless {limit} text within =
    let h = within.typed in
    let spec = erase text in
    let i = text.initial in
    no_whole (declaration_faults limit text) _ (declaration.faultless text (record { declared = h.declarations; few = within.few }))
    (no_whole (right_faults spec text.equations) _ (rights_clear spec text.equations h.rights)
    (and_then_whole (instance_faults spec true outermost i) _ (instance_clear spec true outermost i h.initial)
    (instance_values_clear spec i.arguments (equation_named spec.equations i.name.text) h.values)))

-- a fault refutes it
pub ill_typed : (limit : ℕ) (text : SpecForm) (e : OrMemory TypingFault) → IsAmong (faults limit text) e → IfFault e (λ _. ¬ IsWellTypedWithin limit (erase text))
ill_typed limit text Memory h = tt
ill_typed limit text (Refused fault) h = λ typed.
    let none : Contains [] fault = subst (λ (all : List TypingFault). Contains all fault) (faultless text typed) h in
    omega (arith, none.1)
