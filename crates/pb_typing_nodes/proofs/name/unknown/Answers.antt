use Rattle.std.proofs.Common.{◌∙◌, sym, subst}
use Rattle.std.specs.Prelude.{Contains}
use Rattle.pb_text_tree.specs.Form.{named}
use Rattle.pb_typing_declarations.specs.declared.fault.TypingFault.{TypingFault}
use Rattle.pb_typing_declarations.specs.View.{spec_of}
use Rattle.pb_typing_rules.specs.Faults.{unknown_faults}
use Rattle.pb_typing_nodes.proofs.Unknown.{predicate_in_data, unknown_name}
use Rattle.pb_typing_nodes.proofs.name.unknown.Goals as goal

pub returns-in-Some : goal.returns-in-Some
returns-in-Some c =
    let S = spec_of c.args.declarations.now in
    let x = named c.args.name.now in
    subst (λ (e : TypingFault). Contains (unknown_faults S x) e) (sym c.fault.ensures)
    (predicate_in_data S x c.deref.result.now c.in-Some.field-0 c.deref.ensures (sym c.equation.ensures ∙ c.in-Some.is))

pub returns-in-None : goal.returns-in-None
returns-in-None c =
    let S = spec_of c.args.declarations.now in
    let x = named c.args.name.now in
    subst (λ (e : TypingFault). Contains (unknown_faults S x) e) (sym c.fault-in-None.ensures)
    (unknown_name S x c.deref.result.now c.deref.ensures (sym c.equation.ensures ∙ c.in-None.is))
