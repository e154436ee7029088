-- A fault of the lists themselves is one of the protocol's lists.
use Rattle.std.proofs.Common.{List, refl, ap, ◌∙◌, subst, rules}
use Rattle.std.specs.Prelude.{flat_map}
use Rattle.pb_text_tree.specs.Form.{VariableForm}
use Rattle.pb_typing_declarations.specs.Declarations.{variables_faults}
use Rattle.pb_typing_declarations.specs.Faults.{IsAmong}
use Rattle.pb_typing_declarations.specs.View.{spec_of}
use Rattle.pb_typing_declarations.proofs.Parts.{among_first}
use Rattle.pb_protocol_tree.specs.Form.{protocol_form}
use Rattle.pb_protocol_typing.specs.Faults.{lists_faults, names_hiding}
use Rattle.pb_protocol_typing.specs.Lists.{declared_lists, protocol_lists}
use Rattle.pb_protocol_typing.specs.View.{list_forms, signatures_in}
use Rattle.pb_protocol_typing.proofs.lists.check_lists.Goals as goal

pub returns-in_err-check_each_list : goal.returns-in_err-check_each_list
returns-in_err-check_each_list c =
    let S = spec_of c.args.declarations.now in
    let known = signatures_in c.args.known.now in
    let text = protocol_form c.args.protocol.now in
    let faults = variables_faults S in
    let error = c.in_err-check_each_list.field-0.0 in
    let all = lists_faults S known text in
    let same = ap list_forms c.deref.ensures.value ∙ c.in_ok-lists.ensures in
    let h : IsAmong all error =
    among_first all (flat_map faults (protocol_lists text)) (flat_map (names_hiding known) (declared_lists text)) error refl
    (subst (λ (lists : List (List VariableForm)). IsAmong (flat_map faults lists) error) same c.in_err-check_each_list.ensures) in
    search rules
