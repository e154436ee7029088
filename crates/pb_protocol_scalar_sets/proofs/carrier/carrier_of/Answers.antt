use Rattle.std.proofs.Common.{◌≡◌, ◌∙◌, ℕ, suc, ◌-◌, ◌+◌, ◌≤◌, ap, sym, arith, rules}
use Rattle.pb_text_meaning.specs.Sorts.{carrier_of, carrier_within}
use Rattle.pb_protocol_scalar_sets.specs.declared.carrier.Link.{Link}
use Rattle.pb_protocol_scalar_sets.specs.Sorts.{spec_of, carrier_behind}
use Rattle.pb_protocol_scalar_sets.proofs.Carriers.{chain-link, sort_count, sorts-many}
use Rattle.pb_protocol_scalar_sets.proofs.carrier.carrier_of.Goals.{After-chain_link}
use Rattle.pb_protocol_scalar_sets.proofs.carrier.carrier_of.Goals as goal

few : (c : After-chain_link) → c.loop.counter ≤ sort_count c.args.protocol.now
few c = let count = sorts-many c.args.protocol.now in omega (arith, count, c.len-end.ensures, c.loop-test.true, c.args.protocol.now.sorts.ok.0)

values : (c : After-chain_link) →
    let spec = spec_of c.args.protocol.now in carrier_behind c.chain_link.result (carrier_within (sort_count c.args.protocol.now - c.loop.counter) spec) ≡ carrier_of spec c.args.sort.now
values c = chain-link c.args.protocol.now c.chain_link.result c.loop.sort.now c.loop.counter (few c) c.chain_link.ensures ∙ c.loop.invariant.values

pub returns-in-Ends : goal.returns-in-Ends
returns-in-Ends c =
    ap (λ (k : Link). carrier_behind k (carrier_within (sort_count c.args.protocol.now - c.loop.counter) (spec_of c.args.protocol.now))) (sym c.in-Ends.is)
    ∙ values (goal.at.returns-in-Ends c).After-chain_link

pub loop-preserved : goal.loop-preserved
loop-preserved c =
    let m = c.args.protocol.now in
    let j = sort_count m - c.loop.counter in
    let before = (goal.at.loop-preserved c).After-chain_link in
    let low = few before in
    let same : suc (sort_count m) - (c.loop.counter + 1) ≡ j = omega (arith, low) in
    record {
      text = search rules;
      values =
          ap (λ (n : ℕ). carrier_within n (spec_of m) c.as_str-sort.result.now) same ∙ (ap (carrier_within j (spec_of m)) c.as_str-sort.ensures.value
          ∙ (ap (λ (k : Link). carrier_behind k (carrier_within j (spec_of m))) (sym c.in-GoesOn.is) ∙ values before));
    }
