-- What the code's contexts say.
use Rattle.pb_text_meaning.specs.Syntax.{Spec}
use Rattle.pb_typing_declarations.specs.View.{spec_of}
use Rattle.pb_typing_rules.specs.Scope.{Scope}
use Rattle.pb_typing_tree.specs.Elaboration.{Slotting}
use Rattle.pb_typing_nodes.specs.declared.context.Context.{Context}
use Rattle.pb_typing_nodes.specs.Scopes.{scope_view, slotting}

-- what is declared, and the shapes and the slots of the variables in scope
abbrev pub text_in : Context → Spec
text_in context = spec_of context.declarations.now

abbrev pub scope_in : Context → Scope
scope_in context = scope_view context.scope.now

abbrev pub slots_in : Context → Slotting
slots_in context = slotting context.scope.now
