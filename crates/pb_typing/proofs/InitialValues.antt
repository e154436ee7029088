-- The values of the initial instance's arguments, against the carriers of its equation's parameters.
use Rattle.std.proofs.Common.{◌≡◌, ℕ, zero, suc, Bool, true, false, List, [], ◌∷◌, map, length, Option, Some, None, refl, sym, ◌∙◌, ap, subst, arith, true≢false, ◌<◌, ◌||◌}
use Rattle.std.specs.Prelude.{Result, Ok, Err, MatchResult, nat_lt}
use Rattle.std.specs.List.{slice_get}
use Rattle.std.proofs.lemmas.Option.{cond_some}
use Rattle.std.proofs.lemmas.Bool.{ltb-true}
use Rattle.std.proofs.lemmas.List.{length-map}
use Rattle.pb_base.specs.declared.limits.TheConstants.{MAX_EQUATIONS}
use Rattle.pb_base.specs.declared.or_memory.OrMemory.{OrMemory}
use Rattle.pb_base.specs.declared.or_memory.OrMemory.TheVariants.{Refused, Memory}
use Rattle.pb_base_values.specs.Carrier as carriers
use Rattle.pb_base_values.specs.Carrier.{Value, contains}
use Rattle.pb_sorts.specs.declared.carrier.Carrier.{Carrier}
use Rattle.pb_sorts.specs.Carrier.{values_of}
use Rattle.pb_sorts.proofs.Equations.{slice_get-carriers_of}
use Rattle.pb_sorts.proofs.Counts.{some_values}
use Rattle.pb_text_tree.specs.declared.term.Argument.{Argument}
use Rattle.pb_text_tree.specs.Form.{ArgumentForms, InstanceForm, SpecForm, argument_forms, term_form}
use Rattle.pb_text_meaning.specs.Syntax.{same_name, Equation, Spec, Terms, Variable}
use Rattle.pb_text_meaning.specs.Sorts.{carrier_of}
use Rattle.pb_text_meaning.specs.Value.{value}
use Rattle.pb_text_meaning.specs.Formula.{carriers_of, equation_named}
use Rattle.pb_text_meaning.specs.Erase.{erased_arguments, erased_term}
use Rattle.pb_text_meaning.specs.Fits.{AllFit}
use Rattle.pb_typing_declarations.specs.declared.declarations.Declarations.{Declarations}
use Rattle.pb_typing_declarations.specs.declared.fault.TypingFault.{TypingFault}
use Rattle.pb_typing_declarations.specs.declared.fault.TypingRule.TheVariants.{OutsideCarrier}
use Rattle.pb_typing_declarations.specs.Agreement.{equation_place}
use Rattle.pb_typing_declarations.specs.Faults.{unless, IsAmong}
use Rattle.pb_typing_declarations.specs.View.{spec_of, text_of}
use Rattle.pb_typing_declarations.specs.WellDeclared.{HaveEnds}
use Rattle.pb_typing_declarations.proofs.DeclaredLaw.{declared_within, within_numbers}
use Rattle.pb_typing_declarations.proofs.Parts.{among_left, among_right, no_whole}
use Rattle.pb_typing_rules.specs.Faults.{and_then, initial_faults, instance_faults, may_have, parameters_named, value_faults}
use Rattle.pb_typing_rules.specs.Formula.{count, IsCalled}
use Rattle.pb_typing_rules.specs.Scope.{Scope, outermost}
use Rattle.pb_typing_rules.specs.Term.{AreTyped}
use Rattle.pb_typing_rules.proofs.Contained.{all_fit, called_typed}
use Rattle.pb_typing_rules.proofs.Exact.{instance_proper}
use Rattle.pb_typing_rules.proofs.WellTypedLemmas.{may_have_of_some}
use Rattle.pb_typing_tree.specs.Elaboration.{Slotting}
use Rattle.pb_typing_tree.specs.Expansion.{have_quantifier}
use Rattle.pb_typing_tree.specs.InitialPlace.{initial_place}
use Rattle.pb_typing_tree.proofs.Plain.{typed-plain}
use Rattle.pb_typing.specs.declared.instance.Call.{Call}
use Rattle.pb_typing.specs.Elaborated.{IsCall}
use Rattle.pb_typing.specs.Typed.{IsLayout}
use Rattle.pb_typing.proofs.FormulaSteps.{call_placed}
use Rattle.pb_typing.proofs.Found.{found}

abbrev first : List carriers.Carrier → carriers.Carrier
first [] = []
first (c ∷ cs) = c

abbrev behind : List carriers.Carrier → List carriers.Carrier
behind [] = []
behind (c ∷ cs) = cs

abbrev is_some : List carriers.Carrier → Bool
is_some [] = false
is_some (c ∷ cs) = true

-- the first of some parameters, whose carrier comes first
pub record Headed (S : Spec) (c : Carrier) (cs : List Carrier) (xs : List Variable) : Type 0 where
  pub head : Variable
  pub rest : List Variable
  pub whole : xs ≡ head ∷ rest
  pub carrier : values_of c ≡ carrier_of S head.sort
  pub carriers : map values_of cs ≡ carriers_of S rest

pub headed : (S : Spec) (c : Carrier) (cs : List Carrier) (xs : List Variable) → map values_of (c ∷ cs) ≡ carriers_of S xs → Headed S c cs xs
headed S c cs [] e = absurd (true≢false (ap is_some e))
headed S c cs (x ∷ xs) e = record { head = x; rest = xs; whole = refl; carrier = ap first e; carriers = ap behind e }

-- the test of an argument is that of its value in its parameter's carrier
tested : (S : Spec) (c : Carrier) (x : Variable) (a : Argument) (v : Value) (b : Bool)
    → values_of c ≡ carrier_of S x.sort → v ≡ value S [] (erased_term (term_form a.term)) → b ≡ contains (values_of c) v
    → b ≡ may_have (carrier_of S x.sort) (value S [] (erased_term (term_form a.term)))
tested S c x a v b ec ev eb =
    let w = value S [] (erased_term (term_form a.term)) in
    eb ∙ (ap (contains (values_of c)) ev ∙ (sym (may_have_of_some (values_of c) w (some_values c)) ∙ ap (λ (d : carriers.Carrier). may_have d w) ec))

-- a fault of the first argument
pub value_fault : (S : Spec) {c : Carrier} {cs allc : List Carrier} {a : Argument} {es all : List Argument} (xs : List Variable) {v : Value} {b : Bool} (e : OrMemory TypingFault)
    → allc ≡ c ∷ cs → all ≡ a ∷ es → map values_of allc ≡ carriers_of S xs
    → v ≡ value S [] (erased_term (term_form a.term)) → b ≡ contains (values_of c) v → IsAmong (unless b OutsideCarrier a.place) e
    → IsAmong (value_faults S (argument_forms all) xs) e
value_fault S {c} {cs} {allc} {a} {es} {all} xs {v} {b} e ec ea m ev eb h =
    let p = headed S c cs xs (sym (ap (map values_of) ec) ∙ m) in
    let same = tested S c p.head a v b p.carrier ev eb in
    let here : IsAmong (value_faults S (argument_forms (a ∷ es)) (p.head ∷ p.rest)) e =
    among_left _ _ e (subst (λ (t : Bool). IsAmong (unless t OutsideCarrier a.place) e) same h) in
    subst (λ (zs : List Argument). IsAmong (value_faults S (argument_forms zs) xs) e) (sym ea)
    (subst (λ (ys : List Variable). IsAmong (value_faults S (argument_forms (a ∷ es)) ys) e) (sym p.whole) here)

abbrev pub Tells : Spec → List Argument → List Variable → Result (Unit {0}) (OrMemory TypingFault) → Type 0
Tells S es xs r = MatchResult r (λ u. value_faults S (argument_forms es) xs ≡ []) (IsAmong (value_faults S (argument_forms es) xs))

-- what is told of the other arguments, where the first one has no fault
later : (S : Spec) (a : Argument) (es : List Argument) (x : Variable) (xs : List Variable)
    (r : Result (Unit {0}) (OrMemory TypingFault))
    → unless (may_have (carrier_of S x.sort) (value S [] (erased_term (term_form a.term)))) OutsideCarrier a.place ≡ []
    → Tells S es xs r → Tells S (a ∷ es) (x ∷ xs) r
later S a es x xs (Ok u) clear told = no_whole _ _ clear told
later S a es x xs (Err e) clear told = among_right _ _ e told

pub value_clear : (S : Spec) {c : Carrier} {cs allc : List Carrier} {a : Argument} {es all : List Argument} (xs : List Variable) {v : Value} {b : Bool} (r : Result (Unit {0}) (OrMemory TypingFault))
    → allc ≡ c ∷ cs → all ≡ a ∷ es → map values_of allc ≡ carriers_of S xs → v ≡ value S [] (erased_term (term_form a.term)) → b ≡ contains (values_of c) v → unless b OutsideCarrier a.place ≡ []
    → ((ys : List Variable) → map values_of cs ≡ carriers_of S ys → Tells S es ys r) → Tells S all xs r
value_clear S {c} {cs} {allc} {a} {es} {all} xs {v} {b} r ec ea m ev eb clear told =
    let p = headed S c cs xs (sym (ap (map values_of) ec) ∙ m) in
    let same = tested S c p.head a v b p.carrier ev eb in
    let here = later S a es p.head p.rest r (ap (λ (t : Bool). unless t OutsideCarrier a.place) (sym same) ∙ clear) (told p.rest p.carriers) in
    subst (λ (zs : List Argument). Tells S zs xs r) (sym ea) (subst (λ (ys : List Variable). Tells S (a ∷ es) ys r) (sym p.whole) here)

-- ---- the equation of the initial instance

abbrev carriers_at : Spec → Option Equation → Option (List carriers.Carrier)
carriers_at S None = None
carriers_at S (Some X) = Some (carriers_of S X.parameters)

mapped : (S : Spec) (E : List Equation) (k : ℕ) → slice_get (map (λ (X : Equation). carriers_of S X.parameters) E) k ≡ carriers_at S (slice_get E k)
mapped S [] k = refl
mapped S (X ∷ E) zero = refl
mapped S (X ∷ E) (suc k) = mapped S E k

same_parameters : (S : Spec) (o : Option Equation) (cs : List carriers.Carrier) → carriers_at S o ≡ Some cs → cs ≡ carriers_of S (parameters_named o)
same_parameters S None cs e = cc
same_parameters S (Some X) cs e = cc

-- the parameters of an instance's equation
abbrev pub parameters_of : Spec → InstanceForm → List Variable
parameters_of S i = parameters_named (equation_named S.equations i.name.text)

-- the carriers at the place of a call's equation are those of its parameters
pub carriers_there : {S : Spec} {layout : List (List Carrier)} {a : Scope} {d : Slotting} {i : InstanceForm} {call : Call} {cs : List Carrier}
    → IsLayout S layout → IsCall S a d i call → slice_get layout call.equation ≡ Some cs → map values_of cs ≡ carriers_of S (parameters_of S i)
carriers_there {S} {layout} {a} {d} {i} {call} {cs} laid called there =
    same_parameters S (equation_named S.equations i.name.text) (map values_of cs)
    (ap (carriers_at S) (found (λ X. same_name X.name i.name.text) S.equations call.equation (call_placed called))
    ∙ (sym (mapped S S.equations call.equation)
    ∙ (ap (λ (css : List (List carriers.Carrier)). slice_get css call.equation) (sym laid.values) ∙ slice_get-carriers_of layout call.equation cs there)))

-- ---- faults, and where there are none, other faults

pub among_then : (xs ys : List TypingFault) (e : OrMemory TypingFault) → IsAmong xs e → IsAmong (and_then xs ys) e
among_then [] ys Memory h = tt
among_then [] ys (Refused fault) h = absurd (omega (arith, h.1))
among_then (x ∷ xs) ys e h = h

-- each data term of an instance without faults fits, where no variable is in scope
pub arguments_fit : (S : Spec) (i : InstanceForm) → HaveEnds S → instance_faults S true outermost i ≡ [] → AllFit S [] (erased_arguments i.arguments)
arguments_fit S i ends e =
    let proper = instance_proper S ends true outermost i e in
    all_fit S outermost [] (erased_arguments i.arguments) (λ x. tt) (called_typed S outermost (erased_arguments i.arguments) (equation_named S.equations i.name.text) proper.1)

-- it has no quantifier
pub none_quantified : (S : Spec) (i : InstanceForm) → HaveEnds S → instance_faults S true outermost i ≡ [] → have_quantifier (erased_arguments i.arguments) ≡ false
none_quantified S i ends e =
    let proper = instance_proper S ends true outermost i e in
    all_plain (erased_arguments i.arguments) (called_typed S outermost (erased_arguments i.arguments) (equation_named S.equations i.name.text) proper.1)
  where
    all_plain : (xs : Terms) → AreTyped S outermost xs → have_quantifier xs ≡ false
    all_plain Terms.NoTerms h = refl
    all_plain (Terms.Then x xs) h = ap (λ (b : Bool). b || have_quantifier xs) (typed-plain S outermost x h.0) ∙ all_plain xs h.1

-- and it has an argument for each of its equation's parameters
counted : (S : Spec) (i : InstanceForm) → HaveEnds S → instance_faults S true outermost i ≡ []
    → count (erased_arguments i.arguments) ≡ length (parameters_of S i)
counted S i ends e =
    let proper = instance_proper S ends true outermost i e in
    each_counted (equation_named S.equations i.name.text) proper.1
  where
    each_counted : (o : Option Equation) → IsCalled S outermost (erased_arguments i.arguments) o → count (erased_arguments i.arguments) ≡ length (parameters_named o)
    each_counted None h = absurd h
    each_counted (Some X) h = h.0

-- the faults of an instance that has none of its own are those of its values
pub values_left : (S : Spec) (i : InstanceForm) (es : List Argument) → argument_forms es ≡ i.arguments → instance_faults S true outermost i ≡ []
    → value_faults S (argument_forms es) (parameters_of S i) ≡ initial_faults S i
values_left S i es are clear =
    ap (λ (zs : ArgumentForms). value_faults S zs (parameters_of S i)) are
    ∙ sym (ap (λ (fs : List TypingFault). and_then fs (value_faults S i.arguments (parameters_of S i))) clear)

-- as many carriers as arguments
pub carriers_counted : {S : Spec} {layout : List (List Carrier)} {a : Scope} {d : Slotting} {i : InstanceForm} {call : Call} {cs : List Carrier} → IsLayout S layout → IsCall S a d i call
    → slice_get layout call.equation ≡ Some cs → HaveEnds S → instance_faults S true outermost i ≡ [] → length cs ≡ count (erased_arguments i.arguments)
carriers_counted {S} {layout} {a} {d} {i} {call} {cs} laid called there ends clear =
    sym (length-map cs values_of)
    ∙ (ap (λ (ds : List carriers.Carrier). length ds) (carriers_there laid called there)
    ∙ (length-map (parameters_of S i) (λ (x : Variable). carrier_of S x.sort) ∙ sym (counted S i ends clear)))

-- ---- its place

-- the place at which its equation is found is the first, and a byte holds it
pub initial_found : (d : Declarations) {t : SpecForm} {a : Scope} {c : Slotting} {call : Call} → text_of d ≡ t → IsCall (spec_of d) a c t.initial call
    → (call.equation ≡ initial_place (spec_of d)) × (call.equation < MAX_EQUATIONS)
initial_found d {t} {a} {c} {call} said called =
    let S = spec_of d in
    let at = ap (λ (u : SpecForm). equation_place S u.initial.name.text) said ∙ call_placed called in
    let found = cond_some (nat_lt (initial_place S) (length S.equations)) (initial_place S) call.equation at in
    let below : initial_place S < length S.equations = ltb-true _ _ found.0 in
    let few = (declared_within (text_of d) (within_numbers d.counting) d.faultless).declared.few_equations in
    (sym found.1, omega (arith, below, few, found.1))
