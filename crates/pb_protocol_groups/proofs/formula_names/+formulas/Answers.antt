use Rattle.std.proofs.Common.{◌≡◌, ◌∙◌, ◌++◌, ap, sym, append_assoc, List, flat_map, subst}
use Rattle.std.specs.Prelude.{OnOk}
use Rattle.pb_text_meaning.specs.Syntax.{Name}
use Rattle.pb_protocol_packing.specs.Groups.{formula_names}
use Rattle.pb_protocol_packer.specs.Formulas.{formula_of, operands_of}
use Rattle.pb_protocol_packer.specs.Initial.{names_by}
use Rattle.pb_protocol_packer.proofs.FormulaRows.{at-chain}
use Rattle.pb_protocol_groups.proofs.Rows.{formulas-joined}
use Rattle.pb_protocol_groups.proofs.formula_names.+formulas.Goals as goal

pub push_formula-returns-in_ok-push_formula-in-Chain : goal.push_formula-returns-in_ok-push_formula-in-Chain
push_formula-returns-in_ok-push_formula-in-Chain t c =
    let old = names_by c.args.names.now.items in
    let first = formula_names (formula_of c.deref-in-Chain.result.now) in
    let others = flat_map formula_names (operands_of c.deref-in-Chain-2.result.now) in
    subst (λ (xs : List Name). OnOk c.push_operands.result (names_by c.push_operands.new.names.items ≡ xs))
    (ap (λ (xs : List Name). xs ++ others) c.in_ok-push_formula-in-Chain.ensures ∙ append_assoc old first others
    ∙ ap (λ (xs : List Name). old ++ xs)
    (sym (ap formula_names
    (at-chain c.in-Chain.connective c.deref-in-Chain.result.now c.in-Chain.first c.in-Chain.links
    c.deref-in-Chain-2.result.now c.args.formula.now c.in-Chain.is c.deref-in-Chain.ensures c.deref-in-Chain-2.ensures.value)
    ∙ formulas-joined c.in-Chain.connective (formula_of c.deref-in-Chain.result.now) (operands_of c.deref-in-Chain-2.result.now))))
    c.push_operands.ensures
