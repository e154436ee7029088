use Rattle.std.proofs.Common.{◌≡◌, ◌∙◌, ap, false}
use Rattle.pb_protocol_folding.specs.Folding.{truth_value}
use Rattle.pb_protocol_folding.specs.Kept.{decided_term, kept_term, has_truth}
use Rattle.pb_protocol_folding.specs.View.{term_of}
use Rattle.pb_protocol_folding.proofs.Joined.{both-kept}
use Rattle.pb_protocol_folding.proofs.connective.choice.Goals.{then-connected, else-connected}
use Rattle.pb_protocol_folding.proofs.connective.choice.Goals as goal

pub returns-else-has_truth : goal.returns-else-has_truth
returns-else-has_truth c =
    let k = c.args.connected.connective in
    let x = term_of c.args.left.now in
    let y = term_of c.args.right.now in
    let same : kept_term k c.decided-kept.result x y ≡ decided_term k (truth_value x) (truth_value y) x y =
    c.decided-kept.ensures x y ∙ (ap (λ o. decided_term k o c.truth_value-2.result x y) c.truth_value.ensures ∙ ap (λ o. decided_term k (truth_value x) o x y) c.truth_value-2.ensures) in
    elim c.if-connected.branch [
      | then-connected w ↦ cc
      | else-connected w ↦
          let none : has_truth c.decided-kept.result x y ≡ false = cc in
          both-kept k c.args.connected.truth c.decided-kept.result x y same w.if-connected.false none
    ]
