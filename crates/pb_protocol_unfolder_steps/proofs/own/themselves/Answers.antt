use Rattle.std.proofs.Common.{◌∙◌, ap, [], List, map}
use Rattle.std.proofs.lemmas.List.{take_all}
use Rattle.std.specs.Borrow.{Bor}
use Rattle.pb_text_tree.specs.declared.name.Name.{Name}
use Rattle.pb_text_tree.specs.Form.{variable_forms}
use Rattle.pb_text_meaning.specs.Syntax.{Term}
use Rattle.pb_text_meaning.specs.Erase.{erased_variables}
use Rattle.pb_protocol_whole_steps.specs.View.{name_in}
use Rattle.pb_protocol_unfolder_steps.proofs.InstanceLemmas.{named-terms}
use Rattle.pb_protocol_unfolder_steps.proofs.own.themselves.Goals as goal

pub returns : goal.returns
returns c =
    let said : List (Bor Name) → List Term = λ ns. map Term.Named (map name_in ns) in
    c.loop-name.invariant ∙ ap said (take_all c.loop-name.name-index c.deref-name-items.result.now c.loop-name-test.false)
    ∙ ap said c.deref-name-items.ensures.value ∙ ap (map Term.Named) c.in_ok-names.ensures ∙ named-terms (erased_variables (variable_forms c.args.groups.now)) []
