use Rattle.std.proofs.Common.{refl, sym, subst, List, map}
use Rattle.pb_base.specs.OrMemory.{IfFault}
use Rattle.pb_base.specs.declared.or_memory.OrMemory.{OrMemory}
use Rattle.pb_text_meaning.specs.Syntax.{Name}
use Rattle.pb_protocol_folding.specs.Names.{AreDistinct}
use Rattle.pb_protocol_unfolding.specs.Unfolding.{instance_name}
use Rattle.pb_protocol_unfolder_steps.specs.declared.instance.Instance.{Instance}
use Rattle.pb_protocol_unfolder_steps.specs.Elements.{instance_said}
use Rattle.pb_protocol_unfolder_steps.specs.Refusals.{instance_place}
use Rattle.pb_protocol_unfolder.specs.declared.fault.UnfoldingFault.{UnfoldingFault}
use Rattle.pb_protocol_unfolder.specs.Apart.{name_bytes}
use Rattle.pb_protocol_unfolder.specs.Faults.{IsRepeated}
use Rattle.pb_protocol_unfolder.specs.Parts.{IsFaultOfInstances}
use Rattle.pb_protocol_unfolder.proofs.NameFaults.{repeated-at, within}
use Rattle.pb_protocol_unfolder.proofs.SeenNames.{distinct-where, repeats-where}
use Rattle.pb_protocol_unfolder.proofs.names.check_instances.Goals as goal

pub bounds-instances-index : goal.bounds-instances-index
bounds-instances-index c =
    let repeats = repeats-where c.deref.result.now c.in_ok-names.names.items c.in_ok-repeated.repeated c.in-Some.index c.deref.ensures.value c.in-Some.is c.in_ok-repeated.ensures in
    within instance_name instance_said c.args.instances.now (map name_bytes c.in_ok-names.names.items) c.in-Some.index c.in_ok-names.ensures repeats.0

pub returns-in-Some-clause-refused : goal.returns-in-Some-clause-refused
returns-in-Some-clause-refused c =
    let is = c.args.instances.now in
    let i = c.in-Some.index in
    let x = c.index-instances-index.result in
    let ns = map name_bytes c.in_ok-names.names.items in
    let names = map instance_name (map instance_said is) in
    let repeats = repeats-where c.deref.result.now c.in_ok-names.names.items c.in_ok-repeated.repeated i c.deref.ensures.value c.in-Some.is c.in_ok-repeated.ensures in
    let low = within instance_name instance_said is ns i c.in_ok-names.ensures repeats.0 in
    subst (λ (e : OrMemory UnfoldingFault). IfFault e (IsFaultOfInstances names (map instance_place is))) (sym c.refused.ensures) (
      refl,
      subst (λ (y : Instance). IsRepeated names (map instance_place is) (instance_place y))
          c.index-instances-index.is
          (repeated-at instance_place is i x ns names low c.index-instances-index.is c.in_ok-names.ensures repeats),
    )

pub returns-clause-distinct : goal.returns-clause-distinct
returns-clause-distinct c =
    subst (λ (v : List Name). AreDistinct v) c.in_ok-names.ensures
    (distinct-where c.deref.result.now c.in_ok-names.names.items c.in_ok-repeated.repeated c.deref.ensures.value c.in_default.is c.in_ok-repeated.ensures)
