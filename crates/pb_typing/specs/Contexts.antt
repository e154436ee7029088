-- Typed trees in the contexts of the code.
use Rattle.std.specs.Prelude.{◌≡◌, ℕ, Bool, ◌++◌, List, Result}
use Rattle.pb_sorts.specs.declared.carrier.Carrier.{Carrier}
use Rattle.pb_text_tree.specs.declared.place.Place.{Place}
use Rattle.pb_text_tree.specs.Form.{FormulaForm, TermForm}
use Rattle.pb_text_meaning.specs.Syntax as syntax
use Rattle.pb_base.specs.declared.or_memory.OrMemory.{OrMemory}
use Rattle.pb_typing_declarations.specs.declared.fault.TypingFault.{TypingFault}
use Rattle.pb_typing_declarations.specs.Entries.{shapes_of}
use Rattle.pb_typing_tree.specs.declared.formula.Formula.{Formula}
use Rattle.pb_typing_tree.specs.Loops.{loops}
use Rattle.pb_typing_nodes.specs.declared.context.Context.{Context}
use Rattle.pb_typing.specs.declared.joined.Value.{Value}
use Rattle.pb_typing.specs.Elaborated.{ChecksFormulaIn, ChecksTruthIn, ChecksValueIn}
use Rattle.pb_typing_nodes.specs.Contexts.{scope_in, slots_in, text_in}

abbrev pub ChecksValue : Context → ℕ → TermForm → Result Value (OrMemory TypingFault) → Type 0
ChecksValue context n x result =
    ChecksValueIn (text_in context) (scope_in context) (slots_in context) n x result

abbrev pub ChecksTruth : Context → ℕ → TermForm → Place
    → Result Formula (OrMemory TypingFault) → Type 0
ChecksTruth context n x place result =
    ChecksTruthIn (text_in context) (scope_in context) (slots_in context) n x place result

abbrev pub ChecksFormula : Context → Bool → ℕ → FormulaForm
    → Result Formula (OrMemory TypingFault) → Type 0
ChecksFormula context even n f result =
    ChecksFormulaIn (text_in context) (scope_in context) (slots_in context) even n f result

-- the carriers of the slots grow by those of the quantifiers
abbrev pub AddsLoops : Context → List Carrier → List Carrier → syntax.Formula → Type 0
AddsLoops context old new f = shapes_of new ≡ shapes_of old ++ loops (text_in context) f
