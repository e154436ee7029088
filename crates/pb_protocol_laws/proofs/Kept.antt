-- Which rules a protocol without a fault keeps, part by part.
use Rattle.std.proofs.Common.{◌≡◌, Bool, true, false, [], refl, Option, Some, None}
use Rattle.pb_text_tree.specs.declared.place.Place.{Place}
use Rattle.pb_text_meaning.specs.Syntax.{Spec}
use Rattle.pb_text_meaning.specs.Erase as texts
use Rattle.pb_typing_declarations.specs.declared.fault.TypingFault.{TypingFault}
use Rattle.pb_typing_declarations.specs.declared.fault.TypingRule.{TypingRule}
use Rattle.pb_typing_declarations.proofs.Parts.{no_parts}
use Rattle.pb_protocol_tree.specs.Form.{ProtocolForm}
use Rattle.pb_protocol_typing.specs.Fault.{fault_unless, either_fault, first_fault, listed}
use Rattle.pb_protocol_typing.specs.Scopes.{Signatures}
use Rattle.pb_protocol_typing.specs.Steps.{definitions_fault, step_fault, initial_fault}
use Rattle.pb_protocol_typing.specs.Faults.{data_faults, data_form, names_faults, lists_faults, protocol_own_faults, parts_fault, protocol_faults, property_fault, outermost, signatures_of, state_of, steps_of}

pub no_either : (a b : Option TypingFault) → either_fault a b ≡ None → (a ≡ None) × (b ≡ None)
no_either None b e = (refl, e)
no_either (Some f) b e = cc

pub holds : (b : Bool) (rule : TypingRule) (place : Place) → fault_unless b rule place ≡ None → b ≡ true
holds true rule place e = refl
holds false rule place e = cc

no_listed : (o : Option TypingFault) → listed o ≡ [] → o ≡ None
no_listed None e = refl
no_listed (Some f) e = cc

-- no part of it has a fault
pub record Kept (spec : Spec) (known : Signatures) (text : ProtocolForm) : Type 0 where
  pub names : names_faults text ≡ []
  pub steps : first_fault (step_fault (outermost spec known)) text.steps ≡ None
  pub initial : initial_fault spec known text.variables text.initial ≡ None
  pub properties : first_fault (property_fault (steps_of spec text) (outermost spec known)) text.properties ≡ None

pub declared : (text : ProtocolForm) → protocol_faults text ≡ [] → data_faults text ≡ []
declared text e = (no_parts (data_faults text) (protocol_own_faults (texts.erase (data_form text)) text) e).0

pub kept : (text : ProtocolForm) → protocol_faults text ≡ [] → Kept (texts.erase (data_form text)) (signatures_of (texts.erase (data_form text)) text) text
kept text e =
    let spec = texts.erase (data_form text) in
    let known = signatures_of spec text in
    let own = no_parts (data_faults text) (protocol_own_faults spec text) e in
    let a = no_parts (names_faults text) _ own.1 in
    let b = no_parts (listed (definitions_fault spec (state_of spec text) text.definitions)) _ a.1 in
    let c = no_parts (lists_faults spec known text) (listed (parts_fault spec known text)) b.1 in
    let others = no_either (first_fault (step_fault (outermost spec known)) text.steps) _ (no_listed (parts_fault spec known text) c.1) in
    let last = no_either (initial_fault spec known text.variables text.initial) _ others.1 in
    record { names = a.0; steps = others.0; initial = last.0; properties = last.1 }
