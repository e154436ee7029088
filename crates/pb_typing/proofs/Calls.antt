-- Calls of predicate variables: arguments against the carriers of parameters.
use Rattle.std.proofs.Common.{◌≡◌, ℕ, zero, suc, Bool, false, List, [], ◌∷◌, ◌++◌, map, length, refl, sym, ◌∙◌, ap, subst, arith, Option, Some, None}
use Rattle.std.specs.Prelude.{◌==◌}
use Rattle.std.proofs.lemmas.Bool.{eqb-true}
use Rattle.std.specs.List.{slice_get}
use Rattle.std.proofs.lemmas.List.{append_assoc}
use Rattle.pb_sorts.specs.declared.carrier.Carrier.{Carrier}
use Rattle.pb_text_tree.specs.declared.place.Place.{Place}
use Rattle.pb_text_tree.specs.declared.term.Argument.{Argument}
use Rattle.pb_text_tree.specs.declared.formula.Instance as declared_instance
use Rattle.pb_text_tree.specs.Form.{argument_forms, instance_form, term_form}
use Rattle.pb_text_meaning.specs.Syntax.{Name, same_name, Equation, Spec, Variable}
use Rattle.pb_text_meaning.specs.Formula.{equation_named}
use Rattle.pb_text_meaning.specs.Erase.{erased_arguments, erased_term}
use Rattle.pb_typing_declarations.specs.declared.fault.TypingRule.TheVariants as rule
use Rattle.pb_typing_declarations.specs.declared.fault.TypingFault.{TypingFault}
use Rattle.pb_base.specs.declared.or_memory.OrMemory.{OrMemory}
use Rattle.pb_base.specs.declared.or_memory.OrMemory.TheVariants.{Refused}
use Rattle.pb_typing_declarations.specs.Faults.{unless, IsAmong}
use Rattle.pb_typing_declarations.specs.Agreement.{equation_place}
use Rattle.pb_typing_declarations.specs.Entries.{shapes_of}
use Rattle.pb_typing_declarations.specs.Shapes.{Shape, sort_shape, variable_shapes}
use Rattle.pb_typing_rules.specs.Shapes.{may_be_alike}
use Rattle.pb_typing_rules.specs.Scope.{Scope}
use Rattle.pb_typing_rules.specs.Term.{shape}
use Rattle.pb_typing_rules.specs.Formula.{count}
use Rattle.pb_typing_rules.specs.Faults.{term_faults, argument_faults, called_faults, instance_faults}
use Rattle.pb_typing_declarations.proofs.Parts.{among_left, among_right, holds_unless, no_whole}
use Rattle.pb_typing.specs.Arguments.{faults_against}
use Rattle.pb_typing.specs.Typed.{IsLayout}
use Rattle.pb_typing_nodes.proofs.SlotLemmas.{length-shapes, length-variables}
use Rattle.pb_typing.proofs.Found.{found, not_found}

pub length-erased : (xs : List Argument) → count (erased_arguments (argument_forms xs)) ≡ length xs
length-erased [] = refl
length-erased (x ∷ xs) = ap suc (length-erased xs)

-- ---- as many arguments as parameters

pub against : (S : Spec) (a : Scope) (xs : List Argument) (ys : List Variable) → length xs ≡ length ys → argument_faults S a (argument_forms xs) ys ≡ faults_against S a xs (variable_shapes S ys)
against S a [] ys e = refl
against S a (x ∷ xs) [] e = absurd (omega (arith, e))
against S a (x ∷ xs) (y ∷ ys) e =
    let first = term_faults S false a (term_form x.term) in
    let kind = unless (may_be_alike (shape S a (erased_term (term_form x.term))) (sort_shape S y.sort)) rule.WrongKind x.place in
    ap (λ (zs : List TypingFault). first ++ (kind ++ zs)) (against S a xs ys (omega (arith, e)))
    ∙ sym (append_assoc first kind (faults_against S a xs (variable_shapes S ys)))

-- ---- the equation of a call

-- the equation that has the name, whose parameters have these carriers
pub record IsNamed (S : Spec) (x : Name) (cs : List Carrier) : Type 0 where
  pub equation : Equation
  pub named : equation_named S.equations x ≡ Some equation
  pub shapes : shapes_of cs ≡ variable_shapes S equation.parameters

abbrev parameter_shapes : Spec → Option Equation → Option (List Shape)
parameter_shapes S None = None
parameter_shapes S (Some X) = Some (variable_shapes S X.parameters)

mapped : (S : Spec) (E : List Equation) (k : ℕ) → slice_get (map (λ (X : Equation). variable_shapes S X.parameters) E) k ≡ parameter_shapes S (slice_get E k)
mapped S [] k = refl
mapped S (X ∷ E) zero = refl
mapped S (X ∷ E) (suc k) = mapped S E k

shapes-there : (layout : List (List Carrier)) (k : ℕ) (cs : List Carrier) → slice_get layout k ≡ Some cs → slice_get (map shapes_of layout) k ≡ Some (shapes_of cs)
shapes-there [] k cs e = absurd (cc)
shapes-there (ds ∷ layout) zero cs e = let same : ds ≡ cs = cc in ap (λ (es : List Carrier). Some (shapes_of es)) same
shapes-there (ds ∷ layout) (suc k) cs e = shapes-there layout k cs e

is_named : (S : Spec) (x : Name) (cs : List Carrier) (o : Option Equation) → equation_named S.equations x ≡ o → parameter_shapes S o ≡ Some (shapes_of cs) → IsNamed S x cs
is_named S x cs None n e = absurd (cc)
is_named S x cs (Some X) n e = record { equation = X; named = n; shapes = cc }

named_there : (S : Spec) (layout : List (List Carrier)) (x : Name) (k : ℕ) (cs : List Carrier) → IsLayout S layout → equation_place S x ≡ Some k → slice_get layout k ≡ Some cs → IsNamed S x cs
named_there S layout x k cs laid at there =
    is_named S x cs (equation_named S.equations x) refl
    (ap (parameter_shapes S) (found (λ X. same_name X.name x) S.equations k at)
    ∙ (sym (mapped S S.equations k)
    ∙ (ap (λ (css : List (List Shape)). slice_get css k) (sym laid.shapes) ∙ shapes-there layout k cs there)))

-- the equation of an instance's name
pub named_of : (S : Spec) (layout : List (List Carrier)) (i : declared_instance.Instance) {text : Name} (k : ℕ) (cs : List Carrier) → IsLayout S layout → text ≡ (instance_form i).name.text
    → equation_place S text ≡ Some k → slice_get layout k ≡ Some cs → IsNamed S (instance_form i).name.text cs
named_of S layout i k cs laid is at there = named_there S layout (instance_form i).name.text k cs laid (ap (equation_place S) (sym is) ∙ at) there

-- ---- the faults of an instance whose equation this is

abbrev pub call_faults : Spec → Bool → Scope → List Argument → List Carrier → Place → List TypingFault
call_faults S even a xs cs p = unless even rule.OddNegations p ++ (unless (length xs == length cs) rule.WrongCount p ++ faults_against S a xs (shapes_of cs))

numbers : (S : Spec) (x : Name) (xs : List Argument) (cs : List Carrier) (n : IsNamed S x cs)
    → (count (erased_arguments (argument_forms xs)) == length n.equation.parameters) ≡ (length xs == length cs)
numbers S x xs cs n =
    ap (λ (k : ℕ). k == length n.equation.parameters) (length-erased xs)
    ∙ ap (λ (k : ℕ). length xs == k) (sym (length-variables S n.equation.parameters) ∙ (ap length (sym n.shapes) ∙ length-shapes cs))

called : (S : Spec) (even : Bool) (a : Scope) (i : declared_instance.Instance) (cs : List Carrier) → (n : IsNamed S (instance_form i).name.text cs)
    → instance_faults S even a (instance_form i) ≡ called_faults S even a (argument_forms i.arguments.items) (Some n.equation) i.name.place
called S even a i cs n = ap (λ (o : Option Equation). called_faults S even a (argument_forms i.arguments.items) o i.name.place) n.named

-- as many arguments as parameters
instance-called : (S : Spec) (even : Bool) (a : Scope) (i : declared_instance.Instance) (cs : List Carrier) → IsNamed S (instance_form i).name.text cs
    → length i.arguments.items ≡ length cs → instance_faults S even a (instance_form i) ≡ call_faults S even a i.arguments.items cs i.name.place
instance-called S even a i cs n same =
    let xs = i.arguments.items in
    let p = i.name.place in
    let counted : length xs ≡ length n.equation.parameters = omega (arith, same, length-shapes cs, ap length n.shapes, length-variables S n.equation.parameters) in
    called S even a i cs n
    ∙ ap (λ (zs : List TypingFault). unless even rule.OddNegations p ++ zs)
    (ap (λ (b : Bool). unless b rule.WrongCount p ++ argument_faults S a (argument_forms xs) n.equation.parameters) (numbers S (instance_form i).name.text xs cs n)
    ∙ ap (λ (zs : List TypingFault). unless (length xs == length cs) rule.WrongCount p ++ zs)
    (against S a xs n.equation.parameters counted ∙ ap (faults_against S a xs) (sym n.shapes)))

-- the number of arguments that is counted is right
pub as_many : {m : ℕ} (xs : List Argument) (cs : List Carrier) (p : Place) → m ≡ length xs → unless (m == length cs) rule.WrongCount p ≡ [] → length xs ≡ length cs
as_many {m} xs cs p counted h = sym counted ∙ eqb-true m (length cs) (holds_unless (m == length cs) rule.WrongCount p h)

-- an odd number of negations around
pub odd_instance : {S : Spec} {cs : List Carrier} {b : Bool} (even : Bool) (a : Scope) (i : declared_instance.Instance) (e : OrMemory TypingFault)
    → IsNamed S (instance_form i).name.text cs → b ≡ even → IsAmong (unless b rule.OddNegations i.name.place) e → IsAmong (instance_faults S even a (instance_form i)) e
odd_instance {S} {cs} {b} even a i e n is h =
    subst (λ (zs : List TypingFault). IsAmong zs e) (sym (called S even a i cs n))
    (among_left (unless even rule.OddNegations i.name.place) _ e (subst (λ (c : Bool). IsAmong (unless c rule.OddNegations i.name.place) e) is h))

-- another number of arguments
pub count_instance : {S : Spec} {cs : List Carrier} {m : ℕ} (even : Bool) (a : Scope) (i : declared_instance.Instance) (e : OrMemory TypingFault)
    → IsNamed S (instance_form i).name.text cs → m ≡ length i.arguments.items → IsAmong (unless (m == length cs) rule.WrongCount i.name.place) e
    → IsAmong (instance_faults S even a (instance_form i)) e
count_instance {S} {cs} {m} even a i e n counted h =
    let same = ap (λ (k : ℕ). k == length cs) counted ∙ sym (numbers S (instance_form i).name.text i.arguments.items cs n) in
    subst (λ (zs : List TypingFault). IsAmong zs e) (sym (called S even a i cs n))
    (among_right (unless even rule.OddNegations i.name.place) _ e
    (among_left _ _ e (subst (λ (b : Bool). IsAmong (unless b rule.WrongCount i.name.place) e) same h)))

-- a fault of the arguments
pub arguments_instance : {S : Spec} {cs : List Carrier} {xs : List Argument} (even : Bool) (a : Scope) (i : declared_instance.Instance) (e : OrMemory TypingFault)
    → IsNamed S (instance_form i).name.text cs → length i.arguments.items ≡ length cs → xs ≡ i.arguments.items → IsAmong (faults_against S a xs (shapes_of cs)) e
    → IsAmong (instance_faults S even a (instance_form i)) e
arguments_instance {S} {cs} {xs} even a i e n same are h =
    subst (λ (zs : List TypingFault). IsAmong zs e) (sym (instance-called S even a i cs n same))
    (among_right (unless even rule.OddNegations i.name.place) _ e
    (among_right (unless (length i.arguments.items == length cs) rule.WrongCount i.name.place) _ e
    (subst (λ (ys : List Argument). IsAmong (faults_against S a ys (shapes_of cs)) e) are h)))

-- none of these
pub clear_instance : {S : Spec} {cs : List Carrier} {b : Bool} {m : ℕ} {xs : List Argument} (even : Bool) (a : Scope) (i : declared_instance.Instance)
    → IsNamed S (instance_form i).name.text cs → b ≡ even → m ≡ length i.arguments.items → xs ≡ i.arguments.items → unless b rule.OddNegations i.name.place ≡ []
    → unless (m == length cs) rule.WrongCount i.name.place ≡ [] → faults_against S a xs (shapes_of cs) ≡ [] → instance_faults S even a (instance_form i) ≡ []
clear_instance {S} {cs} {b} {m} {xs} even a i n is counted are odd many clear =
    let p = i.name.place in
    instance-called S even a i cs n (as_many i.arguments.items cs p counted many)
    ∙ no_whole (unless even rule.OddNegations p) _ (sym (ap (λ (c : Bool). unless c rule.OddNegations p) is) ∙ odd)
    (no_whole (unless (length i.arguments.items == length cs) rule.WrongCount p) _ (subst (λ (k : ℕ). unless (k == length cs) rule.WrongCount p ≡ []) counted many)
    (subst (λ (ys : List Argument). faults_against S a ys (shapes_of cs) ≡ []) are clear))

-- no equation has the name
pub unknown_instance : (S : Spec) (even : Bool) (a : Scope) (i : declared_instance.Instance) (text : Name) → text ≡ (instance_form i).name.text → equation_place S text ≡ None
    → IsAmong (instance_faults S even a (instance_form i)) (Refused (record { rule = rule.UnknownName; place = i.name.place }))
unknown_instance S even a i text is place =
    let e = Refused (record { rule = rule.UnknownName; place = i.name.place }) in
    let none = ap (equation_named S.equations) (sym is) ∙ not_found (λ X. same_name X.name text) S.equations place in
    subst (λ (o : Option Equation). IsAmong (called_faults S even a (argument_forms i.arguments.items) o i.name.place) e) (sym none)
    (among_left (unless false rule.UnknownName i.name.place) _ e (0, omega arith, refl))
