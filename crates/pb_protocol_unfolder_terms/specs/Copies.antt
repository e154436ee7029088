-- A quantifier written out, in the words of the code.
use Rattle.std.specs.Prelude.{ℕ, List, map}
use Rattle.pb_text_tree.specs.declared.operator.Quantifier.{Quantifier}
use Rattle.pb_text_meaning.specs.Syntax.{Term}
use Rattle.pb_protocol_unfolding.specs.PutIn.{joined, put_in, standing}
use Rattle.pb_protocol_unfolding.specs.Unfolding.{terms_of}
use Rattle.pb_protocol_unfolder_terms.specs.declared.connectives.Copies as declared_copies
use Rattle.pb_protocol_unfolder_terms.specs.declared.context.Context as declared_context
use Rattle.pb_protocol_unfolder_terms.specs.declared.scope.TermScope as declared_scope
use Rattle.pb_protocol_unfolder_terms.specs.Contexts.{forms_in, spec_in}
use Rattle.pb_protocol_unfolder_terms.specs.Scopes.{scope_of}
use Rattle.pb_protocol_unfolder_terms.specs.Values.{tuple_of}
use Rattle.pb_protocol_unfolder_terms.specs.View.{variable_of}

-- a term for each tuple of values
abbrev pub copies_by :
    declared_context.Context → ℕ → declared_scope.TermScope → declared_copies.Copies → Term →
    List Term
copies_by c n scope copies x =
    map (λ ks. put_in (spec_in c) (forms_in c n)
    (standing (map variable_of copies.variables.now) (terms_of ks)
    (scope_of (spec_in c) (forms_in c) scope)) x)
    (map tuple_of copies.tuples.now)

-- and all of them joined
abbrev pub copied_term :
    declared_context.Context → ℕ → declared_scope.TermScope → Quantifier → declared_copies.Copies →
    Term → Term
copied_term c n scope q copies x = joined q (copies_by c n scope copies x)
