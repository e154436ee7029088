use Rattle.std.proofs.Common.{◌∙◌, List, map, ap, Option, Some}
use Rattle.std.specs.Option.{option_map}
use Rattle.pb_sorts.specs.declared.carrier.Carrier.{Carrier}
use Rattle.pb_text_tree.specs.Form.{named}
use Rattle.pb_text_meaning.specs.Syntax.{Name}
use Rattle.pb_typing_declarations.specs.Entries.{carrier_shape}
use Rattle.pb_typing_declarations.specs.Shapes.{Shape}
use Rattle.pb_protocol_tree.specs.Form.{step_value_form}
use Rattle.pb_protocol_typing.specs.Sets.{instances_fault}
use Rattle.pb_protocol_typing.specs.View.{own_shapes, scope_of, shapes_in}
use Rattle.pb_protocol_typing.proofs.step_set.instances_fault.Goals as goal

pub returns-in-Some : goal.returns-in-Some
returns-in-Some c =
    let s = scope_of c.args.scope.now in
    let x = named c.args.step.now in
    let vs = map step_value_form c.args.values.now in
    c.own_values_fault.ensures
    ∙ (ap (λ (cs : List (Option Carrier)). instances_fault s (Some (map carrier_shape cs)) x vs) c.deref.ensures.value
    ∙ (ap (λ (o : Option (List Shape)). instances_fault s o x vs) (ap (option_map own_shapes) c.in-Some.ensures.value)
    ∙ ap (λ (y : Name). instances_fault s (shapes_in c.args.steps.now y) x vs) c.as_str.ensures.value))
