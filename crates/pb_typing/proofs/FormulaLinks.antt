-- The faults of a chain of formulas, link by link.
use Rattle.std.proofs.Common.{◌≡◌, ℕ, ◌+◌, ◌-◌, ◌<◌, Bool, List, [], ◌∷◌, ◌++◌, length, get_or, drop, sym, ◌∙◌, ap, arith, Vec, Box, Global}
use Rattle.std.specs.Prelude.{box_value}
use Rattle.std.proofs.lemmas.List.{length-drop, append-nil}
use Rattle.pb_sorts.proofs.Places.{drop-at}
use Rattle.pb_text_tree.specs.declared.operator.Connective.{Connective}
use Rattle.pb_text_tree.specs.declared.formula.Formula as ast
use Rattle.pb_text_tree.specs.declared.formula.Link.{Link}
use Rattle.pb_text_tree.specs.Form.{FormulaForm, formula_form, chained, link_forms}
use Rattle.pb_text_tree.proofs.FormLemmas.{formula-chain}
use Rattle.pb_text_meaning.specs.Syntax.{Spec}
use Rattle.pb_typing_declarations.specs.declared.fault.TypingFault.{TypingFault}
use Rattle.pb_typing_rules.specs.Scope.{Scope}
use Rattle.pb_typing_rules.specs.Faults.{formula_faults, left_parity, operand_parity}
use Rattle.pb_typing.specs.FormulaLinks.{formula_link_faults}

pub chained-faults : (S : Spec) (a : Scope) (c : Connective) (even : Bool) (first : FormulaForm) (links : List Link)
    → formula_faults S even a (chained (FormulaForm.connected c) first (link_forms links)) ≡ formula_faults S (operand_parity c even (length links)) a first ++ formula_link_faults S a c even links
chained-faults S a c even first [] = sym (append-nil (formula_faults S even a first))
chained-faults S a c even first (link ∷ links) =
    ap (λ (xs : List TypingFault). formula_faults S (left_parity c even) a first ++ xs) (chained-faults S a c even (formula_form link.operand) links)

-- in the code's words: the first operand has the parity p, as n links stand behind it
pub chain_first : (S : Spec) (a : Scope) (even : Bool) (chain operand : ast.Formula) (c : Connective) (first : Box ast.Formula Global) (links : Vec Link Global) (n : ℕ) (p : Bool)
    → chain ≡ ast.Chain c first links → operand ≡ box_value first → n ≡ length links.items → p ≡ operand_parity c even n
    → formula_faults S even a (formula_form chain) ≡ formula_faults S p a (formula_form operand) ++ formula_link_faults S a c even links.items
chain_first S a even chain operand c first links n p is is_first are parity =
    ap (formula_faults S even a) (ap formula_form is ∙ formula-chain c first links)
    ∙ (chained-faults S a c even (formula_form (box_value first)) links.items
    ∙ (ap (λ (f : ast.Formula). formula_faults S (operand_parity c even (length links.items)) a (formula_form f) ++ formula_link_faults S a c even links.items) (sym is_first)
    ∙ ap (λ (q : Bool). formula_faults S q a (formula_form operand) ++ formula_link_faults S a c even links.items) (sym (parity ∙ ap (operand_parity c even) are))))

length-drop_next : (links : List Link) (k : ℕ) → k < length links → length (drop (k + 1) links) ≡ length links - k - 1
length-drop_next links k below = length-drop (k + 1) links ∙ omega arith

-- and the operand of the link at k has the parity p
pub chain_next : (S : Spec) (a : Scope) (c : Connective) (even : Bool) (links : List Link) (k : ℕ) (link : Link) (n : ℕ) (p : Bool)
    → k < length links → link ≡ get_or links k link → n ≡ length links → p ≡ operand_parity c even (n - k - 1)
    → formula_link_faults S a c even (drop k links) ≡ formula_faults S p a (formula_form link.operand) ++ formula_link_faults S a c even (drop (k + 1) links)
chain_next S a c even links k link n p below at are parity =
    let rest = formula_link_faults S a c even (drop (k + 1) links) in
    ap (formula_link_faults S a c even) (drop-at links k link below at)
    ∙ (ap (λ (m : ℕ). formula_faults S (operand_parity c even m) a (formula_form link.operand) ++ rest) (length-drop_next links k below ∙ ap (λ (m : ℕ). m - k - 1) (sym are))
    ∙ ap (λ (q : Bool). formula_faults S q a (formula_form link.operand) ++ rest) (sym parity))
