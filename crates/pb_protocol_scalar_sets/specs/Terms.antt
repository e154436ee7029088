-- The kinds of terms as the code reads them.
use Rattle.std.specs.Prelude.{Bool, if◌then◌else◌, List, [], ◌∷◌, Option, None}
use Rattle.pb_text_tree.specs.declared.term.Term as declared_term
use Rattle.pb_text_tree.specs.declared.term.Argument as declared_argument
use Rattle.pb_text_tree.specs.Form.{term_form, argument_forms}
use Rattle.pb_text_meaning.specs.Syntax.{Variable, Term, Terms}
use Rattle.pb_text_meaning.specs.Erase.{erased_term, erased_arguments}
use Rattle.pb_protocol_symmetry.specs.Permutation.{Kind}
use Rattle.pb_protocol_symmetry.specs.Test.{kind_in, kinds_in, count_kind, body_kind}
use Rattle.pb_protocol_scalar_sets.specs.declared.term.Context.{Context}
use Rattle.pb_protocol_scalar_sets.specs.Sorts.{spec_of}
use Rattle.pb_protocol_scalar_sets.specs.View.{known_said}

abbrev pub term_said : declared_term.Term → Term
term_said t = erased_term (term_form t)

abbrev pub terms_said : List declared_argument.Argument → Terms
terms_said arguments = erased_arguments (argument_forms arguments)

-- the kind of a term where these variables are in scope
abbrev pub kind_at : Context → List Variable → Term → Option Kind
kind_at c scope x =
    kind_in (spec_of c.set.protocol.now) c.set.sort.now c.set.moved.now (known_said c.known) scope x

abbrev pub kinds_at : Context → List Variable → Terms → List (Option Kind)
kinds_at c scope xs =
    kinds_in (spec_of c.set.protocol.now) c.set.sort.now c.set.moved.now (known_said c.known) scope
    xs

abbrev pub count_at : Context → List Variable → Terms → Option Kind
count_at c scope xs =
    count_kind (spec_of c.set.protocol.now) c.set.sort.now c.set.moved.now (known_said c.known)
    scope xs

abbrev pub body_at : Context → List Variable → Term → Option Kind
body_at c scope x =
    body_kind (spec_of c.set.protocol.now) c.set.sort.now c.set.moved.now (known_said c.known) scope
    x

-- of a state variable or definition with these parameters, which takes arguments if it has any
abbrev pub called_kind : List Variable → Bool → Option Kind → Option Kind
called_kind [] are_for k = None
called_kind (z ∷ zs) are_for k = if are_for then k else None
