use Rattle.std.proofs.Common.{◌≡◌, ◌∙◌, ap, map}
use Rattle.std.proofs.lemmas.Result.{IfOk-weaker}
use Rattle.pb_protocol_folding.specs.View.{set_of}
use Rattle.pb_protocol_unfolding.specs.Unfolding as definitions
use Rattle.pb_protocol_unfolder.specs.Apart.{name_bytes}
use Rattle.pb_protocol_unfolder.specs.Sets.{set_behind, united}
use Rattle.pb_protocol_unfolder.proofs.SetLemmas.{names-united}
use Rattle.pb_protocol_unfolder.proofs.named_steps.named_steps.Goals as goal

pub returns : goal.returns
returns c =
    let xs = map name_bytes c.args.names.items in
    IfOk-weaker c.union_of_links.result (λ A. set_of A ≡ united (map set_behind c.in_ok-links.links.items)) (λ A. set_of A ≡ definitions.named_steps xs)
    (λ A h. h ∙ ap united c.in_ok-links.ensures ∙ names-united xs) c.union_of_links.ensures
