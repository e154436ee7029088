use Rattle.std.proofs.Common.{◌∙◌, ℕ, List, ap}
use Rattle.std.specs.Prelude.{nat_lt, sum}
use Rattle.pb_base.specs.declared.limits.TheConstants.{MAX_PARAMETERS}
use Rattle.pb_model_properties.proofs.Counts.{protocol_counts}
use Rattle.pb_model_properties.proofs.count.is_state_large.Goals as goal

pub returns : goal.returns
returns c =
    c.are_many.ensures
    ∙ (ap (λ (ns : List ℕ). nat_lt MAX_PARAMETERS (sum ns)) c.deref.ensures.value
    ∙ (ap (λ (ns : List ℕ). nat_lt MAX_PARAMETERS (sum ns)) c.in_ok-counts.ensures ∙ ap (nat_lt MAX_PARAMETERS) (protocol_counts c.args.state.now)))
