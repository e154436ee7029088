use Rattle.std.proofs.Common.{◌∙◌, ap, inl, inr, refl, sym, subst, List, map}
use Rattle.pb_base.specs.OrMemory.{IfFault}
use Rattle.pb_base.specs.declared.or_memory.OrMemory.{OrMemory}
use Rattle.pb_text_tree.specs.declared.name.Name as declared_name
use Rattle.pb_text_meaning.specs.Syntax.{Name}
use Rattle.pb_protocol_folding.specs.Names.{AreDistinct, AreNot, enumerators_in}
use Rattle.pb_protocol_unfolding.specs.Unfolding.{name_of}
use Rattle.pb_protocol_unfolder_steps.specs.declared.element.Element.{Element}
use Rattle.pb_protocol_unfolder_steps.specs.Elements.{flat_element}
use Rattle.pb_protocol_unfolder_steps.specs.Refusals.{element_place}
use Rattle.pb_protocol_unfolder.specs.declared.fault.UnfoldingFault.{UnfoldingFault}
use Rattle.pb_protocol_unfolder.specs.Apart.{IsTakenAt, RepeatsAt, declarations_said, name_bytes}
use Rattle.pb_protocol_unfolder.specs.Faults.{IsElementClash}
use Rattle.pb_protocol_unfolder.specs.Parts.{IsFaultOfElements}
use Rattle.pb_protocol_unfolder.proofs.NameFaults.{repeated-at, taken-at, within}
use Rattle.pb_protocol_unfolder.proofs.SeenNames.{distinct-where, repeats-where}
use Rattle.pb_protocol_unfolder.proofs.names.check_elements.Goals.{In-Some, In-Some-first_taken}
use Rattle.pb_protocol_unfolder.proofs.names.check_elements.Goals as goal

-- ---- what is said of the names is said of those of the elements

repeats : (c : In-Some) → RepeatsAt (map name_bytes c.in_ok-names.names.items) c.in-Some.index
repeats c =
    repeats-where c.deref.result.now c.in_ok-names.names.items c.in_ok-repeated.repeated c.in-Some.index c.deref.ensures.value c.in-Some.is c.in_ok-repeated.ensures

taken : (c : In-Some-first_taken) → IsTakenAt (enumerators_in (declarations_said c.args.declarations.now)) (map name_bytes c.in_ok-names.names.items) c.in-Some-first_taken.index
taken c =
    subst (λ (v : List declared_name.Name). IsTakenAt (enumerators_in (declarations_said c.args.declarations.now)) (map name_bytes v) c.in-Some-first_taken.index) c.deref-2.ensures.value
    c.in-Some-first_taken.ensures

pub bounds-elements-index : goal.bounds-elements-index
bounds-elements-index c =
    within name_of flat_element c.args.elements.now (map name_bytes c.in_ok-names.names.items) c.in-Some.index c.in_ok-names.ensures (repeats (goal.at.bounds-elements-index c).In-Some).0

pub returns-in-Some-clause-refused : goal.returns-in-Some-clause-refused
returns-in-Some-clause-refused c =
    let names = map name_of (map flat_element c.args.elements.now) in
    let again = repeats (goal.at.returns-in-Some-clause-refused c).In-Some in
    let low = within name_of flat_element c.args.elements.now _ c.in-Some.index c.in_ok-names.ensures again.0 in
    subst (λ (e : OrMemory UnfoldingFault). IfFault e (IsFaultOfElements (enumerators_in (declarations_said c.args.declarations.now)) names (map element_place c.args.elements.now)))
    (sym c.refused.ensures) (
      refl,
      subst (λ (y : Element). IsElementClash (enumerators_in (declarations_said c.args.declarations.now)) names (map element_place c.args.elements.now) (element_place y))
          c.index-elements-index.is
          (inl (repeated-at element_place c.args.elements.now c.in-Some.index c.index-elements-index.result _ names low c.index-elements-index.is c.in_ok-names.ensures again)),
    )

pub bounds-elements-index-in-Some-first_taken : goal.bounds-elements-index-in-Some-first_taken
bounds-elements-index-in-Some-first_taken c =
    within name_of flat_element c.args.elements.now (map name_bytes c.in_ok-names.names.items) c.in-Some-first_taken.index c.in_ok-names.ensures
    (taken (goal.at.bounds-elements-index-in-Some-first_taken c).In-Some-first_taken).0

pub returns-in-Some-first_taken-clause-refused : goal.returns-in-Some-first_taken-clause-refused
returns-in-Some-first_taken-clause-refused c =
    let es = c.args.elements.now in
    let names = map name_of (map flat_element es) in
    let others = enumerators_in (declarations_said c.args.declarations.now) in
    let clash = taken (goal.at.returns-in-Some-first_taken-clause-refused c).In-Some-first_taken in
    let low = within name_of flat_element es _ c.in-Some-first_taken.index c.in_ok-names.ensures clash.0 in
    subst (λ (e : OrMemory UnfoldingFault). IfFault e (IsFaultOfElements others names (map element_place es))) (sym c.refused-in-Some-first_taken.ensures) (
      refl,
      subst (λ (y : Element). IsElementClash others names (map element_place es) (element_place y))
          c.index-elements-index-in-Some-first_taken.is
          (inr (taken-at element_place es c.in-Some-first_taken.index c.index-elements-index-in-Some-first_taken.result others _ names low
          c.index-elements-index-in-Some-first_taken.is c.in_ok-names.ensures clash)),
    )

pub returns-clause-distinct : goal.returns-clause-distinct
returns-clause-distinct c =
    subst (λ (v : List Name). AreDistinct v) c.in_ok-names.ensures
    (distinct-where c.deref.result.now c.in_ok-names.names.items c.in_ok-repeated.repeated c.deref.ensures.value c.in_default.is c.in_ok-repeated.ensures)

pub returns-clause-untaken : goal.returns-clause-untaken
returns-clause-untaken c =
    subst (λ (v : List Name). AreNot (enumerators_in (declarations_said c.args.declarations.now)) v)
    (ap (map name_bytes) c.deref-2.ensures.value ∙ c.in_ok-names.ensures) c.in_default-first_taken.ensures
