-- Typed trees of terms where no quantifier may stand.
use Rattle.std.specs.Prelude.{false, Result}
use Rattle.pb_base.specs.declared.or_memory.OrMemory.{OrMemory}
use Rattle.pb_text_tree.specs.Form.{TermForm}
use Rattle.pb_text_meaning.specs.Erase.{erased_term}
use Rattle.pb_text_meaning.specs.Syntax.{Spec}
use Rattle.pb_typing_declarations.specs.declared.fault.TypingFault.{TypingFault}
use Rattle.pb_typing_rules.specs.Faults.{term_faults}
use Rattle.pb_typing_rules.specs.Scope.{Scope}
use Rattle.pb_typing_rules.specs.Term.{shape}
use Rattle.pb_typing_tree.specs.declared.formula.Argument as typed
use Rattle.pb_typing_tree.specs.Elaboration.{Slotting, slotted}
use Rattle.pb_typing_nodes.specs.declared.context.Context.{Context}
use Rattle.pb_typing_nodes.specs.Contexts.{scope_in, slots_in, text_in}
use Rattle.pb_typing_nodes.specs.Elaborated.{Elaborates}

-- a term where no quantifier may stand
abbrev pub ChecksTermIn : Spec → Scope → Slotting → TermForm
    → Result typed.Argument (OrMemory TypingFault) → Type 0
ChecksTermIn S a c x result =
    Elaborates (term_faults S false a x) (shape S a (erased_term x)) (slotted S c (erased_term x))
    result

-- in a context of the code
abbrev pub ChecksTerm : Context → TermForm → Result typed.Argument (OrMemory TypingFault) → Type 0
ChecksTerm context x result =
    ChecksTermIn (text_in context) (scope_in context) (slots_in context) x result
