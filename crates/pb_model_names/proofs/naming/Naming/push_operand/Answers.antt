use Rattle.std.proofs.Common.{◌++◌, refl}
use Rattle.std.proofs.lemmas.Result.{on_ok_weaker}
use Rattle.pb_model_translation.specs.Names.{operand_named}
use Rattle.pb_model_names.specs.View.{bytes_of, names_in}
use Rattle.pb_model_names.specs.declared.naming.Naming.{Naming}
use Rattle.pb_model_names.proofs.NamingLemmas.{wanted-given}
use Rattle.pb_model_names.proofs.naming.Naming.push_operand.Goals as goal

pub returns : goal.returns
returns c =
    let old = c.args.self.now in
    let middle : Naming = record { names = old.names; for_operands = c.new_name.new.self; for_fixpoints = old.for_fixpoints } in
    on_ok_weaker c.push.result
    (wanted-given old (operand_named c.args.around.now) middle c.push.new.self (bytes_of c.in_ok-name.name) refl c.in_ok-name.ensures.kept refl
    (λ variables h. c.in_ok-name.ensures.name (variables ++ names_in old.names.items) h.0))
    c.push.ensures
