use Rattle.std.proofs.Common.{◌∙◌, sym, refl}
use Rattle.pb_model_typing.specs.View.{bound_names}
use Rattle.pb_model_typing.proofs.DataRows.{chain-said, arithmetic-said, application-said, argument-next, found, left_out}
use Rattle.pb_model_typing.proofs.data.+terms.Goals as goal

pub term_names_fixpoint-returns-then-term_names_fixpoint : goal.term_names_fixpoint-returns-then-term_names_fixpoint
term_names_fixpoint-returns-then-term_names_fixpoint t c =
    let n = c.in-Chain in
    found _ _ _ (chain-said (bound_names c.args.bound.now) c.args.place c.args.term.now c.deref.result.now n.connective n.first n.links n.links.items n.is c.deref.ensures refl)
    (sym c.term_names_fixpoint.ensures ∙ c.if-term_names_fixpoint.true)

pub term_names_fixpoint-returns-else-term_names_fixpoint : goal.term_names_fixpoint-returns-else-term_names_fixpoint
term_names_fixpoint-returns-else-term_names_fixpoint t c =
    let n = c.in-Chain in
    left_out _ _ _ _
    (chain-said (bound_names c.args.bound.now) c.args.place c.args.term.now c.deref.result.now n.connective n.first
    n.links c.deref-in-Chain.result.now n.is c.deref.ensures c.deref-in-Chain.ensures.value)
    (sym c.term_names_fixpoint.ensures ∙ c.if-term_names_fixpoint.false) c.links_name_fixpoint.ensures

pub term_names_fixpoint-returns-then-term_names_fixpoint-3 : goal.term_names_fixpoint-returns-then-term_names_fixpoint-3
term_names_fixpoint-returns-then-term_names_fixpoint-3 t c =
    let n = c.in-Arithmetic in
    found _ _ _ (arithmetic-said (bound_names c.args.bound.now) c.args.place c.args.term.now c.deref-in-Arithmetic.result.now n.first n.links n.links.items n.is c.deref-in-Arithmetic.ensures refl)
    (sym c.term_names_fixpoint-in-Arithmetic.ensures ∙ c.if-term_names_fixpoint-3.true)

pub term_names_fixpoint-returns-else-term_names_fixpoint-3 : goal.term_names_fixpoint-returns-else-term_names_fixpoint-3
term_names_fixpoint-returns-else-term_names_fixpoint-3 t c =
    let n = c.in-Arithmetic in
    left_out _ _ _ _
    (arithmetic-said (bound_names c.args.bound.now) c.args.place c.args.term.now c.deref-in-Arithmetic.result.now
    n.first n.links c.deref-in-Arithmetic-2.result.now n.is c.deref-in-Arithmetic.ensures c.deref-in-Arithmetic-2.ensures.value)
    (sym c.term_names_fixpoint-in-Arithmetic.ensures ∙ c.if-term_names_fixpoint-3.false) c.operations_name_fixpoint.ensures

pub term_names_fixpoint-returns-else-names_fixpoint : goal.term_names_fixpoint-returns-else-names_fixpoint
term_names_fixpoint-returns-else-names_fixpoint t c =
    let n = c.in-Application in
    left_out _ _ _ _ (application-said (bound_names c.args.bound.now) c.args.place c.args.term.now n.function n.arguments c.deref-in-Application.result.now n.is c.deref-in-Application.ensures.value)
    (sym c.names_fixpoint-in-Application.ensures ∙ c.if-names_fixpoint.false) c.arguments_name_fixpoint.ensures

pub arguments_name_fixpoint-returns-then-term_names_fixpoint : goal.arguments_name_fixpoint-returns-then-term_names_fixpoint
arguments_name_fixpoint-returns-then-term_names_fixpoint t c =
    found _ _ _
    (c.loop-argument.invariant
    ∙ argument-next (bound_names c.args.bound.now) c.args.place c.args.arguments.now c.loop-argument.argument-index
    c.argument-item.result c.loop-argument-test.true c.argument-item.is)
    (sym c.term_names_fixpoint.ensures ∙ c.if-term_names_fixpoint.true)
