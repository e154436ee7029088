use Rattle.std.proofs.Common.{◌<◌, ◌∙◌, ap, arith, length, refl, sym, subst, List, map}
use Rattle.std.proofs.lemmas.List.{length-map}
use Rattle.pb_base.specs.OrMemory.{IfFault}
use Rattle.pb_base.specs.declared.or_memory.OrMemory.{OrMemory}
use Rattle.pb_text_tree.specs.declared.name.Name as declared_name
use Rattle.pb_text_meaning.specs.Syntax.{Name}
use Rattle.pb_protocol_folding.specs.Names.{AreNot, enumerators_in}
use Rattle.pb_protocol_tree.specs.declared.protocol.Definition.{Definition}
use Rattle.pb_protocol_unfolder.specs.declared.fault.UnfoldingFault.{UnfoldingFault}
use Rattle.pb_protocol_unfolder.specs.Apart.{IsTakenAt, declarations_said, definition_bytes, definition_place, name_bytes}
use Rattle.pb_protocol_unfolder.specs.Faults.{IsTaken}
use Rattle.pb_protocol_unfolder.specs.Parts.{IsFaultOfDefinitions}
use Rattle.pb_protocol_unfolder.proofs.NameFaults.{taken-at}
use Rattle.pb_protocol_unfolder.proofs.names.check_definitions.Goals.{In-Some}
use Rattle.pb_protocol_unfolder.proofs.names.check_definitions.Goals as goal

taken : (c : In-Some) → IsTakenAt (enumerators_in (declarations_said c.args.declarations.now)) (map name_bytes c.in_ok-names.names.items) c.in-Some.index
taken c =
    subst (λ (v : List declared_name.Name). IsTakenAt (enumerators_in (declarations_said c.args.declarations.now)) (map name_bytes v) c.in-Some.index) c.deref.ensures.value c.in-Some.ensures

low : (c : In-Some) → c.in-Some.index < length c.args.defined.now
low c =
    let at = (taken c).0 in omega (arith, at, ap (λ (v : List Name). length v) c.in_ok-names.ensures, length-map c.args.defined.now definition_bytes)

pub bounds-defined-index : goal.bounds-defined-index
bounds-defined-index c = low (goal.at.bounds-defined-index c).In-Some

pub returns-in-Some-clause-refused : goal.returns-in-Some-clause-refused
returns-in-Some-clause-refused c =
    let ds = c.args.defined.now in
    let others = enumerators_in (declarations_said c.args.declarations.now) in
    let some = (goal.at.returns-in-Some-clause-refused c).In-Some in
    subst (λ (e : OrMemory UnfoldingFault). IfFault e (IsFaultOfDefinitions others (map definition_bytes ds) (map definition_place ds))) (sym c.refused.ensures) (
      refl,
      subst (λ (y : Definition). IsTaken others (map definition_bytes ds) (map definition_place ds) (definition_place y)) c.index-defined-index.is
          (taken-at definition_place ds c.in-Some.index c.index-defined-index.result others _ (map definition_bytes ds) (low some) c.index-defined-index.is c.in_ok-names.ensures (taken some)),
    )

pub returns-clause-untaken : goal.returns-clause-untaken
returns-clause-untaken c =
    subst (λ (v : List Name). AreNot (enumerators_in (declarations_said c.args.declarations.now)) v)
    (ap (map name_bytes) c.deref.ensures.value ∙ c.in_ok-names.ensures) c.in_default.ensures
