use Rattle.std.proofs.Common.{◌∙◌, ap, sym}
use Rattle.pb_text_tree.specs.Form.{TermForm}
use Rattle.pb_text_meaning.specs.Erase.{erased_term}
use Rattle.pb_protocol_unfolding.specs.PutIn.{count_of_put_in}
use Rattle.pb_protocol_unfolder_terms.proofs.QuantifierLemmas.{no-quantifier}
use Rattle.pb_protocol_unfolder_terms.proofs.counting.quantifier_in.Goals as goal

pub returns-in_default : goal.returns-in_default
returns-in_default c = λ S forms ρ.
    ap (λ (x : TermForm). count_of_put_in S forms ρ (erased_term x)) (sym c.operated.ensures.form)
    ∙ no-quantifier S forms ρ c.operated.result.now c.operated.ensures.links c.in_default.not-Quantified
