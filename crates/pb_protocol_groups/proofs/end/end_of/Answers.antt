use Rattle.std.proofs.Common.{◌≡◌, ◌∙◌, ℕ, suc, ◌-◌, ◌+◌, ◌≤◌, ap, sym, refl, arith}
use Rattle.pb_text_meaning.specs.Sorts.{carrier_by, carrier_of, carrier_within}
use Rattle.pb_model_meaning.specs.Erase.{model_of}
use Rattle.pb_model_meaning.specs.Steps.{data_of}
use Rattle.pb_protocol_packing.specs.Groups.{kind_by, kind_of, kind_within}
use Rattle.pb_protocol_packer.specs.View.{name_bytes}
use Rattle.pb_protocol_groups.specs.declared.end.Link as declared_link
use Rattle.pb_protocol_groups.specs.Ends.{kind_behind, carrier_behind}
use Rattle.pb_protocol_groups.proofs.Links.{chain-link, sort_count, sorts-many}
use Rattle.pb_protocol_groups.proofs.end.end_of.Goals.{After-chain_link}
use Rattle.pb_protocol_groups.proofs.end.end_of.Goals as goal

few : (c : After-chain_link) → c.loop.counter ≤ sort_count c.args.model.now
few c = let count = sorts-many c.args.model.now in omega (arith, count, c.len-end.ensures, c.loop-test.true, c.args.model.now.sorts.ok.0)

kinds : (c : After-chain_link) → kind_behind c.chain_link.result (kind_within (sort_count c.args.model.now - c.loop.counter) (model_of c.args.model.now)) ≡ kind_of (model_of c.args.model.now)
    (name_bytes c.args.sort.now)
kinds c =
    let m = model_of c.args.model.now in
    chain-link c.args.model.now kind_behind kind_by (λ n. kind_within n m) (λ j s. refl) c.chain_link.result c.deref.result.now c.loop.counter (few c) c.chain_link.ensures.kind
    ∙ ap (kind_within (suc (sort_count c.args.model.now) - c.loop.counter) m) c.deref.ensures ∙ c.loop.invariant.0

carriers : (c : After-chain_link) →
    let spec = data_of (model_of c.args.model.now) in carrier_behind c.chain_link.result (carrier_within (sort_count c.args.model.now - c.loop.counter) spec)
    ≡ carrier_of spec (name_bytes c.args.sort.now)
carriers c =
    let spec = data_of (model_of c.args.model.now) in
    chain-link c.args.model.now carrier_behind carrier_by (λ n. carrier_within n spec) (λ j s. refl) c.chain_link.result c.deref.result.now c.loop.counter (few c) c.chain_link.ensures.carrier
    ∙ ap (carrier_within (suc (sort_count c.args.model.now) - c.loop.counter) spec) c.deref.ensures ∙ c.loop.invariant.1

pub returns-in-Ends-clause-kind : goal.returns-in-Ends-clause-kind
returns-in-Ends-clause-kind c =
    ap (λ (k : declared_link.Link). kind_behind k (kind_within (sort_count c.args.model.now - c.loop.counter) (model_of c.args.model.now))) (sym c.in-Ends.is)
    ∙ kinds (goal.at.returns-in-Ends-clause-kind c).After-chain_link

pub returns-in-Ends-clause-carrier : goal.returns-in-Ends-clause-carrier
returns-in-Ends-clause-carrier c =
    ap (λ (k : declared_link.Link). carrier_behind k (carrier_within (sort_count c.args.model.now - c.loop.counter) (data_of (model_of c.args.model.now)))) (sym c.in-Ends.is)
    ∙ carriers (goal.at.returns-in-Ends-clause-carrier c).After-chain_link

pub loop-preserved : goal.loop-preserved
loop-preserved c =
    let model = c.args.model.now in
    let j = sort_count model - c.loop.counter in
    let t = name_bytes c.in-GoesOn.target.now in
    let before = (goal.at.loop-preserved c).After-chain_link in
    let low = few before in
    let same : suc (sort_count model) - (c.loop.counter + 1) ≡ j = omega (arith, low) in (
      ap (λ (n : ℕ). kind_within n (model_of model) t) same ∙ ap (λ (k : declared_link.Link). kind_behind k (kind_within j (model_of model))) (sym c.in-GoesOn.is) ∙ kinds before,
      ap (λ (n : ℕ). carrier_within n (data_of (model_of model)) t) same
          ∙ ap (λ (k : declared_link.Link). carrier_behind k (carrier_within j (data_of (model_of model)))) (sym c.in-GoesOn.is) ∙ carriers before,
    )
