-- Operands of a connective behind the first, one by one: faults, typed trees, the shapes of their
-- quantifiers' variables, and the places of their calls.
use Rattle.std.specs.Prelude.{ℕ, ◌+◌, Bool, List, [], ◌∷◌, ◌++◌, length, flat_map}
use Rattle.pb_text_tree.specs.declared.operator.Connective.{Connective}
use Rattle.pb_text_tree.specs.declared.place.Place.{Place}
use Rattle.pb_text_tree.specs.declared.formula.Link.{Link}
use Rattle.pb_text_tree.specs.Form.{formula_form}
use Rattle.pb_text_meaning.specs.Syntax.{Spec}
use Rattle.pb_typing_declarations.specs.Shapes.{Shape}
use Rattle.pb_typing_declarations.specs.declared.fault.TypingFault.{TypingFault}
use Rattle.pb_typing_rules.specs.Faults.{formula_faults, operand_parity}
use Rattle.pb_typing_rules.specs.Scope.{Scope}
use Rattle.pb_typing_tree.specs.Calls.{calls_in}
use Rattle.pb_typing_tree.specs.Loops.{loops}
use Rattle.pb_typing_tree.specs.Tree.{Formula}
use Rattle.pb_typing_tree.specs.Elaboration.{Slotting, elaborated, width}
use Rattle.pb_typing.specs.Tree.{formula_of}

abbrev pub link_width : Link → ℕ
link_width link = width (formula_of link.operand)

-- the operands behind the first, the next slots being theirs
abbrev pub elaborated_links : Spec → Slotting → Scope → ℕ → List Link → List Formula
elaborated_links S c scope n [] = []
elaborated_links S c scope n (link ∷ links) =
    elaborated S c scope n (formula_of link.operand)
    ∷ elaborated_links S c scope (n + link_width link) links

abbrev pub links_loops : Spec → List Link → List Shape
links_loops S [] = []
links_loops S (link ∷ links) = loops S (formula_of link.operand) ++ links_loops S links

-- the faults of the operands behind the first, each by how many stand behind it
abbrev pub formula_link_faults : Spec → Scope → Connective → Bool → List Link → List TypingFault
formula_link_faults S a c even [] = []
formula_link_faults S a c even (link ∷ links) =
    formula_faults S (operand_parity c even (length links)) a (formula_form link.operand)
    ++ formula_link_faults S a c even links

abbrev pub links_calls : List Link → List Place
links_calls links = flat_map (λ (link : Link). calls_in (formula_form link.operand)) links
