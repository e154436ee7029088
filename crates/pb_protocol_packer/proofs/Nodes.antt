-- What nodes with operands in a row say.
use Rattle.std.proofs.Common.{◌≡◌, List, [], ◌∷◌, ◌++◌, refl, sym, ap, subst, ◌∙◌, Vec, Global, Box, Result, IfOk}
use Rattle.std.specs.Prelude.{box_value}
use Rattle.pb_text_tree.specs.declared.operator.Connective.{Connective}
use Rattle.pb_text_tree.specs.declared.name.Name as declared_name
use Rattle.pb_text_tree.specs.declared.term.Term as tree
use Rattle.pb_text_tree.specs.declared.term.TermLink.{TermLink}
use Rattle.pb_text_tree.specs.declared.term.ArithmeticLink.{ArithmeticLink}
use Rattle.pb_text_tree.specs.declared.term.Argument.{Argument}
use Rattle.pb_text_tree.specs.Form.{TermForm, chained, calculated, term_form, term_links, arithmetic_links, argument_forms}
use Rattle.pb_text_tree.proofs.FormLemmas.{term-chain, term-arithmetic, term-application}
use Rattle.pb_text_meaning.specs.Syntax.{Operator, Term, Terms}
use Rattle.pb_text_meaning.specs.Erase.{erased_term, erased_arguments, of_connective}
use Rattle.pb_protocol_packer.specs.View.{term_of, operands_of, operation_of, operations_of, terms_of, joined_terms, calculated_terms, name_bytes}

erased-chained : (c : Connective) (x : TermForm) (ls : List TermLink) → erased_term (chained (TermForm.connected c) x (term_links ls)) ≡ joined_terms (of_connective c) (erased_term x) (operands_of ls)
erased-chained c x [] = refl
erased-chained c x (l ∷ ls) = ap (Term.Binary (of_connective c) (erased_term x)) (erased-chained c (term_form l.operand) ls)

pub chain-says : (c : Connective) (p : Box tree.Term Global) (v : Vec TermLink Global) → term_of (tree.Chain c p v) ≡ joined_terms (of_connective c) (term_of (box_value p)) (operands_of v.items)
chain-says c p v = ap erased_term (term-chain c p v) ∙ erased-chained c (term_form (box_value p)) v.items

erased-calculated : (x : TermForm) (ls : List ArithmeticLink) → erased_term (calculated x (arithmetic_links ls)) ≡ calculated_terms (erased_term x) (operations_of ls)
erased-calculated x [] = refl
erased-calculated x (l ∷ ls) = erased-calculated (TermForm.computed l.operator l.place x (term_form l.operand)) ls

pub arithmetic-says : (p : Box tree.Term Global) (v : Vec ArithmeticLink Global) → term_of (tree.Arithmetic p v) ≡ calculated_terms (term_of (box_value p)) (operations_of v.items)
arithmetic-says p v = ap erased_term (term-arithmetic p v) ∙ erased-calculated (term_form (box_value p)) v.items

pub erased-all : (xs : List Argument) → erased_arguments (argument_forms xs) ≡ terms_of xs
erased-all [] = refl
erased-all (a ∷ xs) = ap (Terms.Then (term_of a.term)) (erased-all xs)

pub application-says : (f : declared_name.Name) (v : Vec Argument Global) → term_of (tree.Application f v) ≡ Term.Apply (name_bytes f) (terms_of v.items)
application-says f v = ap erased_term (term-application f v) ∙ ap (Term.Apply (name_bytes f)) (erased-all v.items)

-- ---- as the code meets them

pub at-chain : (c : Connective) (x : tree.Term) (p : Box tree.Term Global) (v : Vec TermLink Global) (ls : List TermLink) (t : tree.Term) → t ≡ tree.Chain c p v → x ≡ box_value p → ls ≡ v.items
    → term_of t ≡ joined_terms (of_connective c) (term_of x) (operands_of ls)
at-chain c x p v ls t is at same =
    ap term_of is ∙ chain-says c p v ∙ ap (λ (y : tree.Term). joined_terms (of_connective c) (term_of y) (operands_of v.items)) (sym at)
    ∙ ap (λ (ms : List TermLink). joined_terms (of_connective c) (term_of x) (operands_of ms)) (sym same)

pub at-arithmetic : (x : tree.Term) (p : Box tree.Term Global) (v : Vec ArithmeticLink Global) (ls : List ArithmeticLink) (t : tree.Term) → t ≡ tree.Arithmetic p v → x ≡ box_value p → ls ≡ v.items
    → term_of t ≡ calculated_terms (term_of x) (operations_of ls)
at-arithmetic x p v ls t is at same =
    ap term_of is ∙ arithmetic-says p v ∙ ap (λ (y : tree.Term). calculated_terms (term_of y) (operations_of v.items)) (sym at)
    ∙ ap (λ (ms : List ArithmeticLink). calculated_terms (term_of x) (operations_of ms)) (sym same)

pub at-application : (f : declared_name.Name) (v : Vec Argument Global) (xs : List Argument) (t : tree.Term)
    → t ≡ tree.Application f v → xs ≡ v.items → term_of t ≡ Term.Apply (name_bytes f) (terms_of xs)
at-application f v xs t is same = ap term_of is ∙ application-says f v ∙ ap (λ (ys : List Argument). Term.Apply (name_bytes f) (terms_of ys)) (sym same)

-- one more operand of arithmetic
pub calculated-more : (x : Term) (os : List (Operator × Term)) (o : Operator) (y : Term) → calculated_terms x (os ++ (o, y) ∷ []) ≡ Term.Binary o (calculated_terms x os) y
calculated-more x [] o y = refl
calculated-more x (p ∷ os) o y = calculated-more (Term.Binary p.0 x p.1) os o y

pub more-operations : (ls : List ArithmeticLink) (l : ArithmeticLink) → operations_of (ls ++ l ∷ []) ≡ operations_of ls ++ operation_of l ∷ []
more-operations [] l = refl
more-operations (k ∷ ls) l = ap (λ (os : List (Operator × Term)). operation_of k ∷ os) (more-operations ls l)

-- what a term says, by an equation
pub says-so : {E : Type 0} (r : Result tree.Term E) (x y : Term) → x ≡ y → IfOk r (λ t. term_of t ≡ x) → IfOk r (λ t. term_of t ≡ y)
says-so r x y same says = subst (λ (z : Term). IfOk r (λ t. term_of t ≡ z)) same says
