-- A chain is plain where its operands are.
use Rattle.std.proofs.Common.{◌≡◌, ◌∙◌, refl, sym, ap, Bool, true, false, not, ◌&&◌, List, [], ◌∷◌, map, Vec, Global, Box}
use Rattle.std.specs.Prelude.{box_value, string_bytes}
use Rattle.std.specs.List.{list_all}
use Rattle.pb_text_tree.specs.declared.operator.Connective.{Connective}
use Rattle.pb_text_tree.specs.declared.term.Term as term
use Rattle.pb_text_tree.specs.declared.term.Term.{Term}
use Rattle.pb_text_tree.specs.declared.term.TermLink.{TermLink}
use Rattle.pb_text_tree.specs.declared.term.ArithmeticLink.{ArithmeticLink}
use Rattle.pb_text_tree.specs.declared.term.Argument.{Argument}
use Rattle.pb_text_tree.specs.declared.name.Name.{Name}
use Rattle.pb_text_tree.specs.Form.{TermForm, term_form, chained, calculated, term_links, arithmetic_links, argument_forms}
use Rattle.pb_text_tree.proofs.FormLemmas.{term-chain, term-arithmetic, term-application}
use Rattle.pb_text_counting.specs.Counting.{is_counting}
use Rattle.pb_protocol_tree.specs.declared.formula.Formula as formula
use Rattle.pb_protocol_tree.specs.declared.formula.Formula.{Formula}
use Rattle.pb_protocol_tree.specs.declared.formula.Link.{Link}
use Rattle.pb_protocol_tree.specs.declared.step_set.StepSet as set
use Rattle.pb_protocol_tree.specs.declared.step_set.StepSet.{StepSet}
use Rattle.pb_protocol_tree.specs.declared.step_set.StepSetLink.{StepSetLink}
use Rattle.pb_protocol_tree.specs.Form.{FormulaForm, StepSetForm, formula_form, step_set_form}
use Rattle.pb_protocol_unfolder.specs.Plain.{is_plain_term, are_plain_arguments, is_plain_formula, is_plain_set}
use Rattle.pb_protocol_unfolder.specs.View.{operand_form, operation_form, formula_operand, set_operand, link_form, set_link_form}
use Rattle.pb_protocol_unfolder.proofs.Chains.{chain-form, union-form}

-- ---- two tests

pub at-false : (a b d : Bool) → d ≡ (a && b) → a ≡ false → false ≡ d
at-false true b d e h = cc
at-false false b d e h = sym e

pub at-true : (a b d : Bool) → d ≡ (a && b) → a ≡ true → b ≡ d
at-true true b d e h = sym e
at-true false b d e h = cc

and-true : (b : Bool) → (b && true) ≡ b
and-true true = refl
and-true false = refl

and-assoc : (a b c : Bool) → ((a && b) && c) ≡ (a && (b && c))
and-assoc true b c = refl
and-assoc false b c = refl

-- ---- terms

plain-chained : (c : Connective) (x : TermForm) (ls : List TermLink)
    → is_plain_term (chained (TermForm.connected c) x (term_links ls)) ≡ (is_plain_term x && list_all is_plain_term (map operand_form ls))
plain-chained c x [] = sym (and-true (is_plain_term x))
plain-chained c x (l ∷ ls) = ap (λ b. is_plain_term x && b) (plain-chained c (term_form l.operand) ls)

pub term-chained : (c : Connective) (x : Term) (p : Box Term Global) (v : Vec TermLink Global) (ls : List TermLink) (t : Term) → t ≡ term.Chain c p v → x ≡ box_value p → ls ≡ v.items
    → is_plain_term (term_form t) ≡ (is_plain_term (term_form x) && list_all is_plain_term (map operand_form ls))
term-chained c x p v ls t is at same =
    ap (λ (u : Term). is_plain_term (term_form u)) is ∙ ap is_plain_term (term-chain c p v) ∙ plain-chained c (term_form (box_value p)) v.items
    ∙ ap (λ (u : Term). is_plain_term (term_form u) && list_all is_plain_term (map operand_form v.items)) (sym at)
    ∙ ap (λ (ks : List TermLink). is_plain_term (term_form x) && list_all is_plain_term (map operand_form ks)) (sym same)

plain-calculated : (x : TermForm) (ls : List ArithmeticLink) → is_plain_term (calculated x (arithmetic_links ls)) ≡ (is_plain_term x && list_all is_plain_term (map operation_form ls))
plain-calculated x [] = sym (and-true (is_plain_term x))
plain-calculated x (l ∷ ls) =
    plain-calculated (TermForm.computed l.operator l.place x (term_form l.operand)) ls
    ∙ and-assoc (is_plain_term x) (is_plain_term (term_form l.operand)) (list_all is_plain_term (map operation_form ls))

pub term-calculated : (x : Term) (p : Box Term Global) (v : Vec ArithmeticLink Global) (ls : List ArithmeticLink) (t : Term) → t ≡ term.Arithmetic p v → x ≡ box_value p → ls ≡ v.items
    → is_plain_term (term_form t) ≡ (is_plain_term (term_form x) && list_all is_plain_term (map operation_form ls))
term-calculated x p v ls t is at same =
    ap (λ (u : Term). is_plain_term (term_form u)) is ∙ ap is_plain_term (term-arithmetic p v) ∙ plain-calculated (term_form (box_value p)) v.items
    ∙ ap (λ (u : Term). is_plain_term (term_form u) && list_all is_plain_term (map operation_form v.items)) (sym at)
    ∙ ap (λ (ks : List ArithmeticLink). is_plain_term (term_form x) && list_all is_plain_term (map operation_form ks)) (sym same)

pub term-applied : (f : Name) (v : Vec Argument Global) (xs : List Argument) (t : Term) → t ≡ term.Application f v
    → xs ≡ v.items → is_plain_term (term_form t) ≡ (not (is_counting (string_bytes f.text)) && are_plain_arguments (argument_forms xs))
term-applied f v xs t is same =
    ap (λ (u : Term). is_plain_term (term_form u)) is ∙ ap is_plain_term (term-application f v)
    ∙ ap (λ (ys : List Argument). not (is_counting (string_bytes f.text)) && are_plain_arguments (argument_forms ys)) (sym same)

-- ---- formulas and sets of steps

formulas-chained : (c : Connective) (f : FormulaForm) (ls : List Link)
    → is_plain_formula (chained (FormulaForm.connected c) f (map link_form ls))
    ≡ (is_plain_formula f && list_all is_plain_formula (map formula_operand ls))
formulas-chained c f [] = sym (and-true (is_plain_formula f))
formulas-chained c f (l ∷ ls) = ap (λ b. is_plain_formula f && b) (formulas-chained c (formula_form l.operand) ls)

pub formula-chained : (c : Connective) (x : Formula) (p : Box Formula Global) (v : Vec Link Global) (ls : List Link) (f : Formula) → f ≡ formula.Chain c p v → x ≡ box_value p → ls ≡ v.items
    → is_plain_formula (formula_form f) ≡ (is_plain_formula (formula_form x) && list_all is_plain_formula (map formula_operand ls))
formula-chained c x p v ls f is at same =
    ap (λ (u : Formula). is_plain_formula (formula_form u)) is ∙ ap is_plain_formula (chain-form c p v) ∙ formulas-chained c (formula_form (box_value p)) v.items
    ∙ ap (λ (u : Formula). is_plain_formula (formula_form u) && list_all is_plain_formula (map formula_operand v.items)) (sym at)
    ∙ ap (λ (ks : List Link). is_plain_formula (formula_form x) && list_all is_plain_formula (map formula_operand ks)) (sym same)

sets-united : (A : StepSetForm) (ls : List StepSetLink) → is_plain_set (chained StepSetForm.union A (map set_link_form ls)) ≡ (is_plain_set A && list_all is_plain_set (map set_operand ls))
sets-united A [] = sym (and-true (is_plain_set A))
sets-united A (l ∷ ls) = ap (λ b. is_plain_set A && b) (sets-united (step_set_form l.operand) ls)

pub set-united : (x : StepSet) (p : Box StepSet Global) (v : Vec StepSetLink Global) (ls : List StepSetLink) (A : StepSet) → A ≡ set.Union p v → x ≡ box_value p → ls ≡ v.items
    → is_plain_set (step_set_form A) ≡ (is_plain_set (step_set_form x) && list_all is_plain_set (map set_operand ls))
set-united x p v ls A is at same =
    ap (λ (u : StepSet). is_plain_set (step_set_form u)) is ∙ ap is_plain_set (union-form p v) ∙ sets-united (step_set_form (box_value p)) v.items
    ∙ ap (λ (u : StepSet). is_plain_set (step_set_form u) && list_all is_plain_set (map set_operand v.items)) (sym at)
    ∙ ap (λ (ks : List StepSetLink). is_plain_set (step_set_form x) && list_all is_plain_set (map set_operand ks)) (sym same)
