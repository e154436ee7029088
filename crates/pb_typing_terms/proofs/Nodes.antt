-- Typed terms in the code's contexts, node by node.
use Rattle.std.proofs.Common.{◌≡◌, Bool, true, false, List, [], ◌∷◌, ◌++◌, refl, sym, ◌∙◌, ap, subst, Result, Ok, Err, Box, Vec, Global}
use Rattle.std.specs.Prelude.{box_value, ◌==◌, length}
use Rattle.pb_text_tree.specs.declared.place.Place.{Place}
use Rattle.pb_text_tree.specs.declared.operator.Comparison.{Comparison}
use Rattle.pb_text_tree.specs.declared.operator.Comparison.TheVariants as comparison
use Rattle.pb_text_tree.specs.declared.operator.Connective.{Connective}
use Rattle.pb_text_tree.specs.declared.name.Name.{Name}
use Rattle.pb_text_tree.specs.declared.term.Argument as ast_argument
use Rattle.pb_text_tree.specs.declared.term.Term as ast
use Rattle.pb_text_tree.specs.declared.term.TermLink.{TermLink}
use Rattle.pb_text_tree.specs.declared.term.ArithmeticLink.{ArithmeticLink}
use Rattle.pb_text_tree.specs.Form.{TermForm, argument_forms, arithmetic_links, calculated, chained, named, term_form, term_links}
use Rattle.pb_text_tree.proofs.FormLemmas.{term-chain, term-arithmetic, term-application}
use Rattle.pb_text_meaning.specs.Syntax.{Spec}
use Rattle.pb_text_meaning.specs.Erase.{erased_term, of_comparison}
use Rattle.pb_base_values.specs.Operation as operations
use Rattle.pb_typing_declarations.specs.declared.fault.TypingRule.TheVariants as rule
use Rattle.pb_typing_declarations.specs.declared.fault.TypingFault.{TypingFault}
use Rattle.pb_base.specs.declared.or_memory.OrMemory.{OrMemory}
use Rattle.pb_typing_declarations.specs.Faults.{unless, IsAmong}
use Rattle.pb_typing_declarations.specs.Shapes.{Shape, Truths}
use Rattle.pb_typing_rules.specs.Shapes.{may_be_truth, kind_of, outcome, unary_shape}
use Rattle.pb_typing_rules.specs.Functions.{OfOne}
use Rattle.pb_typing_rules.specs.Scope.{Scope}
use Rattle.pb_typing_rules.specs.Term.{shape}
use Rattle.pb_typing_rules.specs.Faults.{kind_faults, operator_faults, term_faults}
use Rattle.pb_typing_declarations.proofs.Parts.{among_left, among_right, first_clear}
use Rattle.pb_typing_tree.specs.declared.formula.Argument.{Argument}
use Rattle.pb_typing_tree.specs.Elaboration.{slotted}
use Rattle.pb_typing_tree.specs.Tree.{Term, Binary, Negative}
use Rattle.pb_typing_tree.specs.View.{shape_view, term_view}
use Rattle.pb_typing_nodes.specs.declared.context.Context.{Context}
use Rattle.pb_typing_nodes.specs.Contexts.{scope_in, slots_in, text_in}
use Rattle.pb_typing_nodes.specs.Elaborated.{Elaborates, IsTypedAs}
use Rattle.pb_typing_terms.specs.Terms.{ChecksTerm}
use Rattle.pb_typing_terms.proofs.Links.{no_links}

-- ---- in a context

abbrev pub faults_in : Context → TermForm → List TypingFault
faults_in X x = term_faults (text_in X) false (scope_in X) x

abbrev pub shape_in : Context → TermForm → Shape
shape_in X x = shape (text_in X) (scope_in X) (erased_term x)

abbrev pub term_in : Context → TermForm → Term
term_in X x = slotted (text_in X) (slots_in X) (erased_term x)

-- a part without faults, and its typed term
abbrev pub IsChecked : Context → TermForm → Argument → Type 0
IsChecked X x y = (faults_in X x ≡ []) × IsTypedAs (shape_in X x) (term_in X x) y

-- what is found of the faults that are left, where those before are none
pub elaborates_as : (all rest : List TypingFault) (s t : Shape) (x y : Term) (r : Result Argument (OrMemory TypingFault)) → all ≡ rest → t ≡ s → y ≡ x → Elaborates rest s x r → Elaborates all t y r
elaborates_as all rest s t x y r e f g h =
    subst (λ (zs : List TypingFault). Elaborates zs t y r) (sym e)
    (subst (λ (u : Shape). Elaborates rest u y r) (sym f)
    (subst (λ (z : Term). Elaborates rest s z r) (sym g) h))

-- a term is checked as what it is read as is
pub term_node : (X : Context) {x y : TermForm} (r : Result Argument (OrMemory TypingFault)) → x ≡ y → ChecksTerm X y r → ChecksTerm X x r
term_node X r is h = subst (λ (z : TermForm). ChecksTerm X z r) (sym is) h

-- of a part that was found after another one: its error, or its typed term
pub part_among : (X : Context) (x : TermForm) {r : Result Argument (OrMemory TypingFault)} {e : OrMemory TypingFault} → r ≡ Err e → ChecksTerm X x r → IsAmong (faults_in X x) e
part_among X x is h = subst (ChecksTerm X x) is h

pub part_checked : (X : Context) (x : TermForm) {r : Result Argument (OrMemory TypingFault)} {y : Argument} → r ≡ Ok y → ChecksTerm X x r → IsChecked X x y
part_checked X x is h = subst (ChecksTerm X x) is h

-- a part that is what was checked
pub kept_checked : (X : Context) (x : TermForm) {y z : Argument} → z ≡ y → IsChecked X x y → IsChecked X x z
kept_checked X x is h = subst (IsChecked X x) (sym is) h

at_node : (S : Spec) (st : Bool) (a : Scope) (t u : ast.Term) (e : OrMemory TypingFault) → t ≡ u → IsAmong (term_faults S st a (term_form u)) e → IsAmong (term_faults S st a (term_form t)) e
at_node S st a t u e is h = subst (λ (x : ast.Term). IsAmong (term_faults S st a (term_form x)) e) (sym is) h

at_part : (S : Spec) (st : Bool) (a : Scope) (x y : ast.Term) (e : OrMemory TypingFault) → x ≡ y → IsAmong (term_faults S st a (term_form x)) e → IsAmong (term_faults S st a (term_form y)) e
at_part S st a x y e is h = subst (λ (z : ast.Term). IsAmong (term_faults S st a (term_form z)) e) is h

-- ---- negations

pub not_operand : (S : Spec) (st : Bool) (a : Scope) {t x : ast.Term} (p : Place) (operand : Box ast.Term Global) (e : OrMemory TypingFault) → t ≡ ast.Not p operand → x ≡ box_value operand
    → IsAmong (term_faults S st a (term_form x)) e → IsAmong (term_faults S st a (term_form t)) e
not_operand S st a {t} {x} p operand e is same h =
    at_node S st a t (ast.Not p operand) e is (among_left (term_faults S st a (term_form (box_value operand))) _ e (at_part S st a x (box_value operand) e same h))

pub not_node : (X : Context) {t x : ast.Term} (p : Place) (operand : Box ast.Term Global) (y : Argument) (r : Result Argument (OrMemory TypingFault))
    → t ≡ ast.Not p operand → x ≡ box_value operand → IsChecked X (term_form x) y
    → Elaborates (unless (may_be_truth (shape_view y.shape)) rule.WrongKind p) Truths (Term.Not (term_view y.term)) r → ChecksTerm X (term_form t) r
not_node X p operand y r is same h made =
    let z = term_form (box_value operand) in
    let part : IsChecked X z y = subst (λ (u : ast.Term). IsChecked X (term_form u) y) same h in
    let others = unless (may_be_truth (shape_in X z)) rule.WrongKind p in
    subst (λ (u : ast.Term). ChecksTerm X (term_form u) r) (sym is)
    (elaborates_as (faults_in X z ++ others) (unless (may_be_truth (shape_view y.shape)) rule.WrongKind p)
    Truths Truths (Term.Not (term_view y.term)) (Term.Not (term_in X z)) r
    (first_clear _ (faults_in X z) others refl part.0 ∙ ap (λ (s : Shape). unless (may_be_truth s) rule.WrongKind p) (sym part.1.0)) refl (ap Term.Not (sym part.1.1)) made)

pub negative_operand : (X : Context) {t x : ast.Term} (p : Place) (operand : Box ast.Term Global) (e : OrMemory TypingFault) → t ≡ ast.Negative p operand → x ≡ box_value operand
    → IsAmong (faults_in X (term_form x)) e → IsAmong (faults_in X (term_form t)) e
negative_operand X {t} {x} p operand e is same h =
    at_node (text_in X) false (scope_in X) t (ast.Negative p operand) e is
    (among_left (faults_in X (term_form (box_value operand))) _ e (at_part (text_in X) false (scope_in X) x (box_value operand) e same h))

pub negative_node : (X : Context) {t x : ast.Term} (p : Place) (operand : Box ast.Term Global) (y : Argument) (r : Result Argument (OrMemory TypingFault))
    → t ≡ ast.Negative p operand → x ≡ box_value operand → IsChecked X (term_form x) y
    → Elaborates (kind_faults (OfOne operations.Negation) (shape_view y.shape ∷ []) p)
    (unary_shape operations.Negation (shape_view y.shape)) (Negative (term_view y.term)) r → ChecksTerm X (term_form t) r
negative_node X p operand y r is same h made =
    let z = term_form (box_value operand) in
    let part : IsChecked X z y = subst (λ (u : ast.Term). IsChecked X (term_form u) y) same h in
    let others = kind_faults (OfOne operations.Negation) (shape_in X z ∷ []) p in
    subst (λ (u : ast.Term). ChecksTerm X (term_form u) r) (sym is)
    (elaborates_as (faults_in X z ++ others) (kind_faults (OfOne operations.Negation) (shape_view y.shape ∷ []) p)
    (unary_shape operations.Negation (shape_view y.shape)) (unary_shape operations.Negation (shape_in X z))
    (Negative (term_view y.term)) (Negative (term_in X z)) r
    (first_clear _ (faults_in X z) others refl part.0 ∙ ap (λ (s : Shape). kind_faults (OfOne operations.Negation) (s ∷ []) p) (sym part.1.0))
    (ap (unary_shape operations.Negation) (sym part.1.0)) (ap Negative (sym part.1.1)) made)

-- ---- comparisons

pub comparison_left : (X : Context) {t x : ast.Term} (p : Place) (o : Comparison) (left right : Box ast.Term Global) (e : OrMemory TypingFault)
    → t ≡ ast.Comparison p o left right → x ≡ box_value left → IsAmong (faults_in X (term_form x)) e → IsAmong (faults_in X (term_form t)) e
comparison_left X {t} {x} p o left right e is same h =
    at_node (text_in X) false (scope_in X) t (ast.Comparison p o left right) e is
    (among_left (faults_in X (term_form (box_value left))) _ e (at_part (text_in X) false (scope_in X) x (box_value left) e same h))

pub comparison_right : (X : Context) {t x : ast.Term} (p : Place) (o : Comparison) (left right : Box ast.Term Global) (e : OrMemory TypingFault)
    → t ≡ ast.Comparison p o left right → x ≡ box_value right → IsAmong (faults_in X (term_form x)) e → IsAmong (faults_in X (term_form t)) e
comparison_right X {t} {x} p o left right e is same h =
    at_node (text_in X) false (scope_in X) t (ast.Comparison p o left right) e is
    (among_right (faults_in X (term_form (box_value left))) _ e
    (among_left (faults_in X (term_form (box_value right))) _ e (at_part (text_in X) false (scope_in X) x (box_value right) e same h)))

compared-shape : (o : Comparison) (s t : Shape) → outcome (kind_of (of_comparison o)) s t ≡ Truths
compared-shape comparison.Equal s t = refl
compared-shape comparison.NotEqual s t = refl
compared-shape comparison.Less s t = refl
compared-shape comparison.LessEqual s t = refl
compared-shape comparison.Greater s t = refl
compared-shape comparison.GreaterEqual s t = refl

pub comparison_node : (X : Context) {t x y : ast.Term} (p : Place) (o : Comparison) (left right : Box ast.Term Global) (u v : Argument) (r : Result Argument (OrMemory TypingFault))
    → t ≡ ast.Comparison p o left right → x ≡ box_value left → y ≡ box_value right → IsChecked X (term_form x) u → IsChecked X (term_form y) v
    → Elaborates (operator_faults (kind_of (of_comparison o)) (shape_view u.shape) (shape_view v.shape) p) Truths (Binary (of_comparison o) (term_view u.term) (term_view v.term)) r
    → ChecksTerm X (term_form t) r
comparison_node X p o left right u v r is same_x same_y h k made =
    let L = term_form (box_value left) in
    let R = term_form (box_value right) in
    let first : IsChecked X L u = subst (λ (w : ast.Term). IsChecked X (term_form w) u) same_x h in
    let second : IsChecked X R v = subst (λ (w : ast.Term). IsChecked X (term_form w) v) same_y k in
    let K = kind_of (of_comparison o) in
    let others = operator_faults K (shape_in X L) (shape_in X R) p in
    subst (λ (w : ast.Term). ChecksTerm X (term_form w) r) (sym is)
    (elaborates_as (faults_in X L ++ (faults_in X R ++ others)) (operator_faults K (shape_view u.shape) (shape_view v.shape) p)
    Truths (outcome K (shape_in X L) (shape_in X R))
    (Binary (of_comparison o) (term_view u.term) (term_view v.term)) (Binary (of_comparison o) (term_in X L) (term_in X R)) r
    (first_clear _ (faults_in X L) _ refl first.0
    ∙ (first_clear _ (faults_in X R) others refl second.0
    ∙ (ap (λ (s : Shape). operator_faults K s (shape_in X R) p) (sym first.1.0) ∙ ap (λ (s : Shape). operator_faults K (shape_view u.shape) s p) (sym second.1.0))))
    (compared-shape o _ _)
    (ap (λ (z : Term). Binary (of_comparison o) z (term_in X R)) (sym first.1.1) ∙ ap (Binary (of_comparison o) (term_view u.term)) (sym second.1.1)) made)

-- ---- what is read as a form of its parts

abbrev pub chain_form : Connective → ast.Term → List TermLink → TermForm
chain_form o first links = chained (TermForm.connected o) (term_form first) (term_links links)

pub chain-node : {t x : ast.Term} (o : Connective) (first : Box ast.Term Global) (v : Vec TermLink Global) {links : List TermLink}
    → t ≡ ast.Chain o first v → x ≡ box_value first → links ≡ v.items → term_form t ≡ chain_form o x links
chain-node {t} {x} o first v is same are =
    ap term_form is ∙ (term-chain o first v
    ∙ (ap (λ (y : ast.Term). chained (TermForm.connected o) (term_form y) (term_links v.items)) (sym same)
    ∙ ap (λ (ls : List TermLink). chain_form o x ls) (sym are)))

pub arithmetic-node : {t x : ast.Term} (first : Box ast.Term Global) (v : Vec ArithmeticLink Global) {links : List ArithmeticLink}
    → t ≡ ast.Arithmetic first v → x ≡ box_value first → links ≡ v.items → term_form t ≡ calculated (term_form x) (arithmetic_links links)
arithmetic-node {t} {x} first v is same are =
    ap term_form is ∙ (term-arithmetic first v
    ∙ (ap (λ (y : ast.Term). calculated (term_form y) (arithmetic_links v.items)) (sym same)
    ∙ ap (λ (ls : List ArithmeticLink). calculated (term_form x) (arithmetic_links ls)) (sym are)))

pub application-node : {t : ast.Term} (f : Name) (v : Vec ast_argument.Argument Global) {xs : List ast_argument.Argument}
    → t ≡ ast.Application f v → xs ≡ v.items → term_form t ≡ TermForm.application (named f) (argument_forms xs)
application-node f v is are =
    ap term_form is ∙ (term-application f v ∙ ap (λ (ys : List ast_argument.Argument). TermForm.application (named f) (argument_forms ys)) (sym are))

-- a chain without links
pub lone_chain : (X : Context) (o : Connective) (first : ast.Term) (links : List TermLink) (r : Result Argument (OrMemory TypingFault)) → (length links == 0) ≡ true
    → ChecksTerm X (term_form first) r → ChecksTerm X (chain_form o first links) r
lone_chain X o first links r none h = subst (λ (ls : List TermLink). ChecksTerm X (chain_form o first ls) r) (sym (no_links links none)) h
