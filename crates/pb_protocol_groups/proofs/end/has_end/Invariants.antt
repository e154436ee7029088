use Rattle.std.proofs.Common.{◌≡◌, suc, ◌-◌}
use Rattle.pb_model_meaning.specs.Erase.{model_of}
use Rattle.pb_protocol_packing.specs.Apart.{ends_within}
use Rattle.pb_protocol_packer.specs.View.{name_bytes}
use Rattle.pb_protocol_groups.proofs.Links.{sort_count}
use Rattle.pb_protocol_groups.proofs.end.has_end.Given as goal

abbrev pub invariant-loop : goal.invariant-loop
invariant-loop l =
    let m = model_of l.model in
    ends_within (suc (sort_count l.model) - l.counter) m (name_bytes l.sort) ≡ ends_within (suc (sort_count l.model)) m (name_bytes l.initial.sort)
