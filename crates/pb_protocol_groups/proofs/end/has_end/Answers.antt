use Rattle.std.proofs.Common.{◌≡◌, ◌∙◌, ℕ, suc, ◌-◌, ◌+◌, ◌≤◌, ap, sym, refl, arith}
use Rattle.pb_model_meaning.specs.Erase.{model_of}
use Rattle.pb_protocol_packing.specs.Apart.{ends_by, ends_within}
use Rattle.pb_protocol_packer.specs.View.{name_bytes}
use Rattle.pb_protocol_groups.specs.declared.end.Link as declared_link
use Rattle.pb_protocol_groups.specs.Ends.{ends_behind}
use Rattle.pb_protocol_groups.proofs.Links.{chain-link, sort_count, sorts-many}
use Rattle.pb_protocol_groups.proofs.end.has_end.Goals.{After-chain_link}
use Rattle.pb_protocol_groups.proofs.end.has_end.Goals as goal

-- it is one of the first sorts of the chain, and what ends behind it ends behind the first
ends : (c : After-chain_link) →
    let m = model_of c.args.model.now in
    (c.loop.counter ≤ sort_count c.args.model.now)
    × (ends_behind c.chain_link.result (ends_within (sort_count c.args.model.now - c.loop.counter) m) ≡ ends_within (suc (sort_count c.args.model.now)) m (name_bytes c.args.sort.now))
ends c =
    let m = model_of c.args.model.now in
    let count = sorts-many c.args.model.now in
    let few : c.loop.counter ≤ sort_count c.args.model.now = omega (arith, count, c.len-end.ensures, c.loop-test.true, c.args.model.now.sorts.ok.0) in (
      few,
      chain-link c.args.model.now ends_behind ends_by (λ n. ends_within n m) (λ j s. refl) c.chain_link.result c.deref.result.now c.loop.counter few c.chain_link.ensures.end
          ∙ ap (ends_within (suc (sort_count c.args.model.now) - c.loop.counter) m) c.deref.ensures ∙ c.loop.invariant,
    )

pub returns-in-Ends : goal.returns-in-Ends
returns-in-Ends c =
    ap (λ (k : declared_link.Link). ends_behind k (ends_within (sort_count c.args.model.now - c.loop.counter) (model_of c.args.model.now))) (sym c.in-Ends.is)
    ∙ (ends (goal.at.returns-in-Ends c).After-chain_link).1

pub loop-preserved : goal.loop-preserved
loop-preserved c =
    let m = model_of c.args.model.now in
    let j = sort_count c.args.model.now - c.loop.counter in
    let before = ends (goal.at.loop-preserved c).After-chain_link in
    let few = before.0 in
    let same : suc (sort_count c.args.model.now) - (c.loop.counter + 1) ≡ j = omega (arith, few) in
    ap (λ (n : ℕ). ends_within n m (name_bytes c.in-GoesOn.target.now)) same ∙ ap (λ (k : declared_link.Link). ends_behind k (ends_within j m)) (sym c.in-GoesOn.is) ∙ before.1
