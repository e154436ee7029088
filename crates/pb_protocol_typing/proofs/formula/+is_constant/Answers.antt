use Rattle.std.proofs.Common.{◌∙◌, sym}
use Rattle.pb_protocol_typing.proofs.FormulaRows.{constant-alone, constant-several}
use Rattle.pb_protocol_typing.proofs.formula.+is_constant.Goals as goal

pub returns-in-Some : goal.returns-in-Some
returns-in-Some t c =
    sym (constant-several c.args.formula.now c.in-Chain.connective c.in-Chain.first c.in-Chain.links c.deref.result.now
    c.in-Some.field-0.now c.in-Chain.is c.deref.ensures.value c.in-Some.ensures.value)

pub returns-in-None : goal.returns-in-None
returns-in-None t c =
    c.is_constant.ensures
    ∙ sym (constant-alone c.args.formula.now c.deref-in-None.result.now c.in-Chain.connective c.in-Chain.first
    c.in-Chain.links c.deref.result.now c.in-Chain.is c.deref-in-None.ensures c.deref.ensures.value c.in-None.ensures.value)
