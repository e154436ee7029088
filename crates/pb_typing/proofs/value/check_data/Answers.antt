use Rattle.pb_text_tree.specs.Form.{term_form}
use Rattle.pb_typing_nodes.specs.Contexts.{scope_in, slots_in, text_in}
use Rattle.pb_typing.proofs.ValueLemmas.{no_quantifier}
use Rattle.pb_typing.proofs.ValueNodes.{data_value}
use Rattle.pb_typing.proofs.value.check_data.Goals as goal

pub returns-clause-checked : goal.returns-clause-checked
returns-clause-checked c = λ n.
    let S = text_in c.args.context.now in
    let a = scope_in c.args.context.now in
    let h = c.in_ok-data.ensures in
    (h.0, h.1.0, data_value S a (slots_in c.args.context.now) n (term_form c.args.term.now) c.in_ok-data.data h.0 h.1.1)

pub returns-clause-plain : goal.returns-clause-plain
returns-clause-plain c =
    no_quantifier (text_in c.args.context.now) (scope_in c.args.context.now) (term_form c.args.term.now) c.in_ok-data.ensures.0
