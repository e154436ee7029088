use Rattle.std.proofs.Common.{◌≡◌, drop}
use Rattle.pb_text_tree.specs.Form.{formula_form, link_forms}
use Rattle.pb_model_words.specs.View.{vocabulary_of}
use Rattle.pb_evidence_words.specs.Asking.{asks_test}
use Rattle.pb_evidence_words.proofs.AskingChains.{asks_rest}
use Rattle.pb_evidence_words.proofs.asking.+asks_test.Given as goal

-- the operands that are left decide whether the chain asks
abbrev pub invariant-loop-link : goal.invariant-loop-link
invariant-loop-link l =
    asks_rest (vocabulary_of l.vocabulary) l.asks (formula_form l.operand) (link_forms (drop l.link-index l.link-items))
    ≡ asks_test (vocabulary_of l.vocabulary) (formula_form l.formula)

abbrev pub decreases-asks_test : goal.decreases-asks_test
decreases-asks_test l = goal.size-asks_test l
