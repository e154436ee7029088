use Rattle.std.proofs.Common.{◌≡◌, List, drop}
use Rattle.std.specs.List.{list_any}
use Rattle.pb_text_tree.specs.declared.term.Argument.{Argument}
use Rattle.pb_text_tree.specs.Form.{argument_forms}
use Rattle.pb_model_typing.specs.Data.{arguments_name_fixpoint, link_names_fixpoint, operation_names_fixpoint}
use Rattle.pb_model_typing.specs.View.{bound_names}
use Rattle.pb_model_typing.proofs.data.+terms.Given as goal

-- what is looked for stands among those that are left, if it stands there
abbrev pub invariant-links_name_fixpoint-loop-link : goal.invariant-links_name_fixpoint-loop-link
invariant-links_name_fixpoint-loop-link l =
    let here = list_any (link_names_fixpoint (bound_names l.bound) l.place) in here l.links ≡ here (drop l.link-index l.links)

abbrev pub invariant-operations_name_fixpoint-loop-link : goal.invariant-operations_name_fixpoint-loop-link
invariant-operations_name_fixpoint-loop-link l =
    let here = list_any (operation_names_fixpoint (bound_names l.bound) l.place) in here l.links ≡ here (drop l.link-index l.links)

abbrev pub invariant-arguments_name_fixpoint-loop-argument : goal.invariant-arguments_name_fixpoint-loop-argument
invariant-arguments_name_fixpoint-loop-argument l =
    let here = λ (xs : List Argument). arguments_name_fixpoint (bound_names l.bound) l.place (argument_forms xs) in here l.arguments ≡ here (drop l.argument-index l.arguments)
