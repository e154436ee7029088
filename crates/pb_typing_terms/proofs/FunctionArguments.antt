-- A function's arguments.
use Rattle.std.proofs.Common.{◌≡◌, ℕ, zero, suc, ◌<◌, Bool, false, List, [], ◌∷◌, ◌++◌, length, get_or, refl, sym, ◌∙◌, ap, subst, arith, Option, Some}
use Rattle.std.specs.Prelude.{◌==◌}
use Rattle.pb_text_tree.specs.declared.term.Argument.{Argument}
use Rattle.pb_text_tree.specs.Form.{Named, term_form, argument_forms}
use Rattle.pb_text_meaning.specs.Syntax.{Name, Spec}
use Rattle.pb_text_meaning.specs.Erase.{erased_arguments}
use Rattle.pb_typing_declarations.specs.declared.fault.TypingRule.TheVariants as rule
use Rattle.pb_typing_declarations.specs.declared.fault.TypingFault.{TypingFault}
use Rattle.pb_base.specs.declared.or_memory.OrMemory.{OrMemory}
use Rattle.pb_typing_declarations.specs.Faults.{unless, IsAmong}
use Rattle.pb_typing_rules.specs.Functions.{Function, Choice, OfTwo, function_named, arity}
use Rattle.pb_typing_rules.specs.Scope.{Scope}
use Rattle.pb_typing_rules.specs.Term.{shapes}
use Rattle.pb_typing_rules.specs.Faults.{term_faults, terms_faults, function_faults}
use Rattle.pb_typing_declarations.proofs.Parts.{among_left, among_right}
use Rattle.pb_typing_nodes.specs.declared.context.Context.{Context}
use Rattle.pb_typing_nodes.specs.Contexts.{scope_in, text_in}
use Rattle.pb_typing_nodes.specs.declared.function.Function as declared
use Rattle.pb_typing_nodes.specs.declared.function.FunctionOfOne.{FunctionOfOne}
use Rattle.pb_typing_nodes.specs.declared.function.FunctionOfOne.TheVariants as of_one
use Rattle.pb_typing_nodes.specs.Functions.{IsFunction, arity_of, extreme_operation, view_of_one}

pub length-shapes : (S : Spec) (a : Scope) (xs : List Argument) → length (shapes S a (erased_arguments (argument_forms xs))) ≡ length xs
length-shapes S a [] = refl
length-shapes S a (x ∷ xs) = ap suc (length-shapes S a xs)

-- so many arguments are those at their places
pub one_argument : (xs : List Argument) (d : Argument) → length xs ≡ 1 → xs ≡ get_or xs 0 d ∷ []
one_argument [] d count = absurd (omega (arith, count))
one_argument (x ∷ []) d count = refl
one_argument (x ∷ (y ∷ xs)) d count = absurd (omega (arith, count))

pub two_arguments : (xs : List Argument) (d e : Argument) → length xs ≡ 2 → xs ≡ get_or xs 0 d ∷ get_or xs 1 e ∷ []
two_arguments [] d e count = absurd (omega (arith, count))
two_arguments (x ∷ []) d e count = absurd (omega (arith, count))
two_arguments (x ∷ (y ∷ [])) d e count = refl
two_arguments (x ∷ (y ∷ (z ∷ xs))) d e count = absurd (omega (arith, count))

pub three_arguments : (xs : List Argument) (d e f : Argument) → length xs ≡ 3 → xs ≡ get_or xs 0 d ∷ get_or xs 1 e ∷ get_or xs 2 f ∷ []
three_arguments [] d e f count = absurd (omega (arith, count))
three_arguments (x ∷ []) d e f count = absurd (omega (arith, count))
three_arguments (x ∷ (y ∷ [])) d e f count = absurd (omega (arith, count))
three_arguments (x ∷ (y ∷ (z ∷ []))) d e f count = refl
three_arguments (x ∷ (y ∷ (z ∷ (w ∷ xs)))) d e f count = absurd (omega (arith, count))

-- all faults of a function with its arguments
abbrev pub application_faults : Spec → Scope → Named → List Argument → List TypingFault
application_faults S a f xs =
    terms_faults S a (argument_forms xs) ++ function_faults S (function_named S f.text) (shapes S a (erased_arguments (argument_forms xs))) f

-- a fault of an argument
terms_fault : (S : Spec) (a : Scope) (xs : List Argument) (k : ℕ) (x : Argument) (e : OrMemory TypingFault)
    → k < length xs → x ≡ get_or xs k x → IsAmong (term_faults S false a (term_form x.term)) e
    → IsAmong (terms_faults S a (argument_forms xs)) e
terms_fault S a [] k x e below at h = absurd (omega (arith, below))
terms_fault S a (y ∷ xs) zero x e below at h =
    among_left (term_faults S false a (term_form y.term)) _ e (subst (λ (z : Argument). IsAmong (term_faults S false a (term_form z.term)) e) at h)
terms_fault S a (y ∷ xs) (suc k) x e below at h =
    among_right (term_faults S false a (term_form y.term)) _ e (terms_fault S a xs k x e (omega (arith, below)) at h)

pub argument_among : (X : Context) (f : Named) (xs : List Argument) (k : ℕ) {d : Argument} (e : OrMemory TypingFault) → k < length xs → d ≡ get_or xs k d
    → IsAmong (term_faults (text_in X) false (scope_in X) (term_form (get_or xs k d).term)) e → IsAmong (application_faults (text_in X) (scope_in X) f xs) e
argument_among X f xs k {d} e below at h =
    among_left (terms_faults (text_in X) (scope_in X) (argument_forms xs)) _ e
    (terms_fault (text_in X) (scope_in X) xs k (get_or xs k d) e below (ap (get_or xs k) at) h)

-- which function it is, and how many arguments it takes
pub record IsKnown (S : Spec) (x : Name) (n : ℕ) : Type 0 where
  pub function : Function
  pub found : function_named S x ≡ Some function
  pub count : arity function ≡ n

pub arity_of_one : (u : FunctionOfOne) → arity (view_of_one u) ≡ 1
arity_of_one of_one.Conversion = refl
arity_of_one (of_one.Operation o) = refl
arity_of_one (of_one.Recogniser e) = refl

known : (S : Spec) (x : Name) (f : declared.Function) → IsFunction S x f → IsKnown S x (arity_of f)
known S x (declared.TheVariants.OfOne u) h = record { function = view_of_one u; found = h.found; count = arity_of_one u }
known S x (declared.TheVariants.OfTwo u) h = record { function = OfTwo (extreme_operation u); found = h.found; count = refl }
known S x declared.TheVariants.Choice h = record { function = Choice; found = h.found; count = refl }

-- another number of arguments
pub count_fault : (S : Spec) (a : Scope) (f : Named) (g : declared.Function) (xs : List Argument)
    (e : OrMemory TypingFault) → IsFunction S f.text g → IsAmong (unless (length xs == arity_of g) rule.WrongCount f.place) e
    → IsAmong (application_faults S a f xs) e
count_fault S a f g xs e is h =
    let ss = shapes S a (erased_arguments (argument_forms xs)) in
    let k = known S f.text g is in
    let same : (length xs == arity_of g) ≡ (length ss == arity k.function) = ap (λ (n : ℕ). n == arity_of g) (sym (length-shapes S a xs)) ∙ ap (λ (n : ℕ). length ss == n) (sym k.count) in
    among_right (terms_faults S a (argument_forms xs)) _ e
    (subst (λ (o : Option Function). IsAmong (function_faults S o ss f) e) (sym k.found)
    (among_left (unless (length ss == arity k.function) rule.WrongCount f.place) _ e (subst (λ (b : Bool). IsAmong (unless b rule.WrongCount f.place) e) same h)))
