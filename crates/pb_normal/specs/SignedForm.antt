-- The positive normal form of a typed formula: negations are driven down to data (De Morgan).
use Rattle.std.specs.Prelude.{Bool, not, List, [], ◌∷◌, length}
use Rattle.pb_text_tree.specs.declared.operator.Connective.{Connective}
use Rattle.pb_typing_rules.specs.Faults.{left_parity, operand_parity}
use Rattle.pb_typing_tree.specs.Tree as typed
use Rattle.pb_normal.specs.Chains.{joins}
use Rattle.pb_normal.specs.Normal.{Formula, Join, Each, Call}
use Rattle.pb_normal.specs.Normalisation.{signed_test, signed_quantifier}

-- the normal form of a typed tree, where `even` says whether the negations around are even in
-- number
abbrev pub signed_form : Bool → typed.Formula → Formula
signed_form even (typed.Test x) = signed_test even x
signed_form even (typed.Negation f) = signed_form (not even) f
signed_form even (typed.Connected c f g) =
    Join (joins c even) (signed_form (left_parity c even) f) (signed_form even g)
signed_form even (typed.Quantified q s shape f) =
    Each (signed_quantifier q even) s shape (signed_form even f)
signed_form even (typed.Call X es) = Call X es

-- the normal forms of the operands behind the first of a connective
abbrev pub signed_operands : Connective → Bool → List typed.Formula → List Formula
signed_operands c even [] = []
signed_operands c even (f ∷ fs) =
    signed_form (operand_parity c even (length fs)) f ∷ signed_operands c even fs
