use Rattle.std.proofs.Common.{◌∙◌, sym, ap, Option}
use Rattle.pb_text_tree.specs.Form.{variable_forms}
use Rattle.pb_text_meaning.specs.Syntax.{Name}
use Rattle.pb_text_meaning.specs.Erase.{erased_variables}
use Rattle.pb_protocol_symmetry.specs.Kinds.{sort_in}
use Rattle.pb_protocol_scalar_sets.specs.declared.scope.Around.{Around}
use Rattle.pb_protocol_scalar_sets.specs.Scopes.{last_sort}
use Rattle.pb_protocol_scalar_sets.specs.View.{scope_of}
use Rattle.pb_protocol_scalar_sets.proofs.Scopes.{innermost}
use Rattle.pb_protocol_scalar_sets.proofs.scope.+sort_in.Goals as goal

pub returns-in-Variables : goal.returns-in-Variables
returns-in-Variables t c =
    let x = c.args.name.now in
    let ys = erased_variables (variable_forms c.in-Variables.groups.now) in
    c.last_sort.ensures
    ∙ (ap (λ (o : Option Name). last_sort o ys x) c.sort_in.ensures
    ∙ (sym (innermost ys (scope_of c.in-Variables.outer.now) x) ∙ ap (λ (a : Around). sort_in (scope_of a) x) (sym c.in-Variables.is)))
