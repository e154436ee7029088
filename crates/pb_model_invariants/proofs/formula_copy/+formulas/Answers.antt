use Rattle.std.proofs.Common.{◌∙◌, ap}
use Rattle.pb_model_invariants.specs.Links.{link_forms}
use Rattle.pb_model_invariants.proofs.CopyLemmas.{chain-copied}
use Rattle.pb_model_invariants.proofs.formula_copy.+formulas.Goals as goal

pub copy_formula-returns-in_ok-copy_links-in-Chain : goal.copy_formula-returns-in_ok-copy_links-in-Chain
copy_formula-returns-in_ok-copy_links-in-Chain t c =
    chain-copied c.in-Chain.connective c.in_ok-copy_boxed-in-Chain.field-0 c.in-Chain.first c.in_ok-copy_links-in-Chain.field-0 c.in-Chain.links c.args.formula.now c.in-Chain.is
    c.in_ok-copy_boxed-in-Chain.ensures (c.in_ok-copy_links-in-Chain.ensures ∙ ap link_forms c.deref.ensures.value)
