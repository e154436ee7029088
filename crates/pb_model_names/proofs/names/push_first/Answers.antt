use Rattle.std.proofs.Common.{◌∙◌, [], Bool, OnOk, codes, not, subst, sym}
use Rattle.pb_model_translation.specs.Names.{operand_named, with_name}
use Rattle.pb_model_names.specs.Naming.{Gives}
use Rattle.pb_model_names.proofs.names.push_first.Goals as goal

pub returns : goal.returns
returns c =
    subst (λ (b : Bool). OnOk c.push_operand.result (Gives c.args.naming.now c.push_operand.new.self (with_name (not b) (operand_named (codes "X")) [])))
    (sym c.if-is_fixpoint.false ∙ c.is_fixpoint.ensures) c.push_operand.ensures
