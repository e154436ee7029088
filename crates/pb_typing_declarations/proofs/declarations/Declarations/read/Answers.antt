use Rattle.std.proofs.Common.{rules, subst}
use Rattle.pb_sorts.specs.Counting.{instance_limit}
use Rattle.pb_text_tree.specs.declared.spec.Spec.{Spec}
use Rattle.pb_text_tree.specs.Form.{spec_form}
use Rattle.pb_typing_declarations.specs.Faults.{IsAmong}
use Rattle.pb_typing_declarations.specs.Declarations.{tables_faults, checks_faults, declaration_faults}
use Rattle.pb_typing_declarations.proofs.Parts.{among_left, among_right}
use Rattle.pb_typing_declarations.proofs.declarations.Declarations.read.Goals as goal

pub returns-in_err-tables-clause-checked : goal.returns-in_err-tables-clause-checked
returns-in_err-tables-clause-checked c =
    let text = spec_form c.args.spec.now in
    let e = c.in_err-tables.field-0.0 in
    let h : IsAmong (declaration_faults (instance_limit c.args.counting) text) e = among_left (tables_faults text) _ e c.in_err-tables.ensures in
    search rules

pub returns-in_err-carriers-clause-checked : goal.returns-in_err-carriers-clause-checked
returns-in_err-carriers-clause-checked c =
    let text = spec_form c.args.spec.now in
    let e = c.in_err-carriers.field-0.0 in
    let h : IsAmong (declaration_faults (instance_limit c.args.counting) text) e =
    among_right (tables_faults text) _ e (subst (λ (s : Spec). IsAmong (checks_faults (instance_limit c.args.counting) (spec_form s)) e) c.in_ok-tables.ensures.0 c.in_err-carriers.ensures) in
    search rules
