-- A text that typing accepts has no fault in its declarations, and is well typed.
use Rattle.std.proofs.Common.{◌≡◌, true, List, [], ◌∷◌, refl, true≢false, sym, arith}
use Rattle.pb_sorts.specs.declared.counting.TheConstants.{MAX_NUMBERS}
use Rattle.pb_text_tree.specs.Form.{SpecForm}
use Rattle.pb_text_meaning.specs.Erase.{erase}
use Rattle.pb_typing_declarations.specs.declared.fault.TypingFault.{TypingFault}
use Rattle.pb_typing_declarations.specs.Declarations.{declaration_faults}
use Rattle.pb_typing_rules.specs.Faults.{faults}
use Rattle.pb_typing_rules.specs.WellTyped.{IsWellTyped}
use Rattle.pb_typing_declarations.proofs.Parts.{no_parts}
use Rattle.pb_typing_rules.proofs.WellTypedLemmas.{well_typed}
use Rattle.pb_typing.specs.Typed.{is_none, is_faultless}

none : (fs : List TypingFault) → is_none fs ≡ true → fs ≡ []
none [] e = refl
none (f ∷ fs) e = absurd (true≢false (sym e))

pub accepted-declared : (text : SpecForm) → is_faultless text ≡ true → declaration_faults MAX_NUMBERS text ≡ []
accepted-declared text e = (no_parts (declaration_faults MAX_NUMBERS text) _ (none (faults MAX_NUMBERS text) e)).0

pub accepted-well-typed : (text : SpecForm) → is_faultless text ≡ true → IsWellTyped (erase text)
accepted-well-typed text e = (well_typed text (omega arith) (none (faults MAX_NUMBERS text) e)).typed
