-- What names stand for, as the code holds it.
use Rattle.std.specs.Prelude.{ℕ, if◌then◌else◌, List, [], ◌∷◌, map, Option, Some, None}
use Rattle.std.specs.Borrow.{Bor}
use Rattle.pb_text_meaning.specs.Syntax.{Name, same_name, Term, Spec}
use Rattle.pb_protocol_folding.specs.View as tree
use Rattle.pb_protocol_unfolding.specs.PutIn.{TermScope, Forms, standing, put_in, all_put_in}
use Rattle.pb_protocol_unfolding.specs.Unfolding.{terms_of}
use Rattle.pb_text_tree.specs.declared.term.Argument as declared_argument
use Rattle.pb_protocol_unfolder_terms.specs.declared.sorts.Variable as declared_variable
use Rattle.pb_protocol_unfolder_terms.specs.declared.scope.TermScope as declared_scope
use Rattle.pb_protocol_unfolder_terms.specs.declared.scope.TermScope.TheVariants.{Empty, Values', Arguments'}
use Rattle.pb_protocol_unfolder_terms.specs.declared.scope.NameBinding as declared_binding
use Rattle.pb_protocol_unfolder_terms.specs.declared.scope.NameBinding.TheVariants as binding
use Rattle.pb_protocol_unfolder_terms.specs.View.{variable_of}
use Rattle.pb_protocol_unfolder_terms.specs.Values.{written_term}

-- the innermost first; `forms` is what names become by so many of the definitions
abbrev pub scope_of : Spec → (ℕ → Forms) → declared_scope.TermScope → TermScope
scope_of spec forms Empty = []
scope_of spec forms (Values' variables values p outer) =
    standing (map variable_of variables.now) (terms_of (map written_term values.now))
    (scope_of spec forms outer)
scope_of spec forms (Arguments' parameters arguments definitions p user) =
    standing (map variable_of parameters.now)
    (all_put_in spec (forms definitions) (scope_of spec forms user)
    (tree.terms_of arguments.now)) []

-- what a name is bound to, put in
abbrev pub binding_term : Spec → (ℕ → Forms) → declared_binding.NameBinding → Option Term
binding_term spec forms binding.Nothing = None
binding_term spec forms (binding.Value k) = Some (written_term k)
binding_term spec forms (binding.Argument term definitions user) =
    Some (put_in spec (forms definitions) (scope_of spec forms user.now) (tree.term_of term.now))

-- what stands at the place of the last variable of a name, else `otherwise`
abbrev pub looked : {A : Type 0} →
    List declared_variable.Variable → List A → Name → Option A → Option A
looked [] ks x otherwise = otherwise
looked (v ∷ vs) [] x otherwise = otherwise
looked (v ∷ vs) (k ∷ ks) x otherwise =
    looked vs ks x (if same_name v.name.now x then Some k else otherwise)

abbrev pub argument_said :
    Option (Bor declared_argument.Argument) → Option declared_argument.Argument
argument_said None = None
argument_said (Some a) = Some a.now
