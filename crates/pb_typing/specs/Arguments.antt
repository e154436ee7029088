-- Arguments against the shapes of parameters.
use Rattle.std.specs.Prelude.{false, List, [], ◌∷◌, ◌++◌}
use Rattle.pb_text_tree.specs.declared.term.Argument.{Argument}
use Rattle.pb_text_tree.specs.Form.{term_form}
use Rattle.pb_text_meaning.specs.Syntax.{Spec}
use Rattle.pb_text_meaning.specs.Erase.{erased_term}
use Rattle.pb_typing_declarations.specs.declared.fault.TypingRule.TheVariants.{WrongKind}
use Rattle.pb_typing_declarations.specs.declared.fault.TypingFault.{TypingFault}
use Rattle.pb_typing_declarations.specs.Faults.{unless}
use Rattle.pb_typing_declarations.specs.Shapes.{Shape}
use Rattle.pb_typing_rules.specs.Shapes.{may_be_alike}
use Rattle.pb_typing_rules.specs.Scope.{Scope}
use Rattle.pb_typing_rules.specs.Term.{shape}
use Rattle.pb_typing_rules.specs.Faults.{term_faults}

-- the faults of an argument of a parameter of this shape
abbrev pub argument_own_faults : Spec → Scope → Argument → Shape → List TypingFault
argument_own_faults spec scope x s =
    term_faults spec false scope (term_form x.term)
    ++ unless (may_be_alike (shape spec scope (erased_term (term_form x.term))) s) WrongKind x.place

-- of as many arguments as there are parameters
abbrev pub faults_against : Spec → Scope → List Argument → List Shape → List TypingFault
faults_against spec scope [] ss = []
faults_against spec scope (x ∷ xs) [] = []
faults_against spec scope (x ∷ xs) (s ∷ ss) =
    argument_own_faults spec scope x s ++ faults_against spec scope xs ss
