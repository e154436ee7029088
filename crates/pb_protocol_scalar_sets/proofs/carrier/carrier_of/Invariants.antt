use Rattle.std.proofs.Common.{◌≡◌, suc, ◌-◌}
use denote.Shadow.{shadow}
use denote.Text.{Utf8}
use Rattle.pb_text_meaning.specs.Sorts.{carrier_of, carrier_within}
use Rattle.pb_protocol_scalar_sets.specs.Sorts.{spec_of}
use Rattle.pb_protocol_scalar_sets.proofs.Carriers.{sort_count}
use Rattle.pb_protocol_scalar_sets.proofs.carrier.carrier_of.Given as goal

-- the sort has the values of the first, by the sorts that are left
abbrev pub invariant-loop : goal.invariant-loop
invariant-loop l = record {
  text : shadow (Utf8 l.sort);
  values : carrier_within (suc (sort_count l.protocol) - l.counter) (spec_of l.protocol) l.sort ≡ carrier_of (spec_of l.protocol) l.initial.sort;
}
