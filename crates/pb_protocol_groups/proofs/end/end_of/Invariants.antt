use Rattle.std.proofs.Common.{◌≡◌, suc, ◌-◌}
use Rattle.pb_text_meaning.specs.Sorts.{carrier_of, carrier_within}
use Rattle.pb_model_meaning.specs.Erase.{model_of}
use Rattle.pb_model_meaning.specs.Steps.{data_of}
use Rattle.pb_protocol_packing.specs.Groups.{kind_of, kind_within}
use Rattle.pb_protocol_packer.specs.View.{name_bytes}
use Rattle.pb_protocol_groups.proofs.Links.{sort_count}
use Rattle.pb_protocol_groups.proofs.end.end_of.Given as goal

abbrev pub invariant-loop : goal.invariant-loop
invariant-loop l =
    let m = model_of l.model in
    let left = suc (sort_count l.model) - l.counter in
    (kind_within left m (name_bytes l.sort) ≡ kind_of m (name_bytes l.initial.sort)) × (carrier_within left (data_of m) (name_bytes l.sort) ≡ carrier_of (data_of m) (name_bytes l.initial.sort))
