use Rattle.std.proofs.Common.{refl}
use Rattle.std.proofs.lemmas.Result.{on_ok_weaker}
use Rattle.pb_model_translation.specs.Names.{fixpoint_named}
use Rattle.pb_model_names.specs.View.{bytes_of, names_in}
use Rattle.pb_model_names.specs.declared.naming.Naming.{Naming}
use Rattle.pb_model_names.proofs.NamingLemmas.{wanted-given}
use Rattle.pb_model_names.proofs.naming.Naming.push_fixpoint.Goals as goal

pub returns : goal.returns
returns c =
    let old = c.args.self.now in
    let middle : Naming = record { names = old.names; for_operands = old.for_operands; for_fixpoints = c.new_name.new.self } in
    on_ok_weaker c.push.result
    (wanted-given old (fixpoint_named c.args.variable.now) middle c.push.new.self (bytes_of c.in_ok-name.name) refl refl c.in_ok-name.ensures.kept
    (λ variables h. c.in_ok-name.ensures.name (names_in old.names.items) h.1))
    c.push.ensures
