-- Operands behind the first: of one connective, where it makes no difference which; of arithmetic.
use Rattle.std.specs.Prelude.{Bool, true, false, ◌||◌, List, [], ◌∷◌, ◌++◌}
use Rattle.pb_text_tree.specs.declared.term.ArithmeticLink.{ArithmeticLink}
use Rattle.pb_text_tree.specs.declared.term.TermLink.{TermLink}
use Rattle.pb_text_tree.specs.Form.{term_form}
use Rattle.pb_text_meaning.specs.Syntax.{Spec}
use Rattle.pb_text_meaning.specs.Erase.{erased_term}
use Rattle.pb_typing_declarations.specs.declared.fault.TypingRule.TheVariants.{WrongKind}
use Rattle.pb_typing_declarations.specs.declared.fault.TypingFault.{TypingFault}
use Rattle.pb_typing_declarations.specs.Faults.{unless}
use Rattle.pb_typing_declarations.specs.Shapes.{Shape}
use Rattle.pb_typing_rules.specs.Shapes.{Computed, binary_shape, may_be_truth}
use Rattle.pb_typing_rules.specs.Scope.{Scope}
use Rattle.pb_typing_rules.specs.Term.{shape}
use Rattle.pb_typing_rules.specs.Faults.{operator_faults, term_faults}
use Rattle.pb_typing_nodes.specs.View.{operation_of}

-- ---- connectives

abbrev pub is_some_link : List TermLink → Bool
is_some_link [] = false
is_some_link (l ∷ ls) = true

abbrev pub operand_shape : Spec → Scope → TermLink → Shape
operand_shape spec scope link = shape spec scope (erased_term (term_form link.operand))

-- the faults of an operand behind one of this shape, where others follow or not
abbrev pub own_faults : Spec → Bool → Scope → Shape → TermLink → Bool → List TypingFault
own_faults spec stands scope s link more =
    unless (may_be_truth s) WrongKind link.place
    ++ (term_faults spec stands scope (term_form link.operand)
    ++ unless (more || may_be_truth (operand_shape spec scope link)) WrongKind link.place)

-- of all operands behind one of this shape
abbrev pub link_faults : Spec → Bool → Scope → Shape → List TermLink → List TypingFault
link_faults spec stands scope s [] = []
link_faults spec stands scope s (link ∷ links) =
    own_faults spec stands scope s link (is_some_link links)
    ++ link_faults spec stands scope (operand_shape spec scope link) links

-- ---- arithmetic

abbrev pub arithmetic_shape : Spec → Scope → ArithmeticLink → Shape
arithmetic_shape spec scope link = shape spec scope (erased_term (term_form link.operand))

-- the shape of what is computed so far, which has this shape, and an operand
abbrev pub shape_with : Spec → Scope → Shape → ArithmeticLink → Shape
shape_with spec scope s link =
    binary_shape (operation_of link.operator) s (arithmetic_shape spec scope link)

-- the faults behind what has this shape
abbrev pub arithmetic_faults : Spec → Scope → Shape → List ArithmeticLink → List TypingFault
arithmetic_faults spec scope s [] = []
arithmetic_faults spec scope s (link ∷ links) =
    term_faults spec false scope (term_form link.operand)
    ++ (operator_faults (Computed (operation_of link.operator)) s
    (arithmetic_shape spec scope link) link.place
    ++ arithmetic_faults spec scope (shape_with spec scope s link) links)

-- the shape of the whole
abbrev pub calculated_shape : Spec → Scope → Shape → List ArithmeticLink → Shape
calculated_shape spec scope s [] = s
calculated_shape spec scope s (link ∷ links) =
    calculated_shape spec scope (shape_with spec scope s link) links
