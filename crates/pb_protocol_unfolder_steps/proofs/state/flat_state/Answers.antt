use Rattle.std.proofs.Common.{◌∙◌, sym}
use Rattle.pb_protocol_unfolder_steps.proofs.GroupLemmas.{groups-erased}
use Rattle.pb_protocol_unfolder_steps.proofs.OkLemmas.{if-ok}
use Rattle.pb_protocol_unfolder_steps.proofs.state.flat_state.Goals as goal

pub returns : goal.returns
returns c = if-ok c.flat_groups.result (λ v same. sym (groups-erased v.items) ∙ same) c.flat_groups.ensures
