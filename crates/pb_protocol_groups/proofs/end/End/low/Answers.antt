use Rattle.std.proofs.Common.{length, ap, sym, ◌∙◌}
use Rattle.pb_protocol_packing.specs.Groups.{lowest}
use Rattle.pb_protocol_groups.specs.declared.end.End as declared_end
use Rattle.pb_protocol_groups.specs.Ends.{carrier_at}
use Rattle.pb_protocol_groups.specs.Names.{enumerators_said}
use Rattle.pb_protocol_groups.proofs.Values.{lowest-places}
use Rattle.pb_protocol_groups.proofs.end.End.low.Goals as goal

pub returns-in-Struct : goal.returns-in-Struct
returns-in-Struct c = lowest-places (length (enumerators_said c.in-Struct.field-0.now)) ∙ ap (λ (e : declared_end.End). lowest (carrier_at e)) (sym c.in-Struct.is)
