use Rattle.std.proofs.lemmas.Result.{IfOk-weaker}
use Rattle.pb_text_tree.specs.Form.{spec_form}
use Rattle.pb_model_tree.specs.Form.{formula_form}
use Rattle.pb_model_typing.proofs.Decided.{formula-decided}
use Rattle.pb_model_typing.proofs.typed.formula_text.Goals as goal

pub returns-clause-answer : goal.returns-clause-answer
returns-clause-answer c =
    IfOk-weaker c.typed_text.result _ _
    (λ t said. formula-decided c.args.typed.now.model c.args.place (formula_form c.args.formula.now) (spec_form t.spec) c.args.typed.now.typed said) c.typed_text.ensures.text
