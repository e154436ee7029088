use Rattle.std.proofs.Common.{◌≡◌, drop}
use Rattle.pb_text_tree.specs.Form.{term_links}
use Rattle.pb_model_modalities.specs.Guard as guards
use Rattle.pb_model_modalities.proofs.guard.+guards.Given as goal

-- the chain is behind the operands from the index on
abbrev pub invariant-behind_operands-loop-index : goal.invariant-behind_operands-loop-index
invariant-behind_operands-loop-index l =
    guards.reversed_chain_form l.reading.connective l.then
    ≡ guards.behind_operands l.reading.connective l.reading.negated l.others_negated (term_links (drop l.index l.links)) (guards.reversed_chain_form l.reading.connective l.initial.then)
