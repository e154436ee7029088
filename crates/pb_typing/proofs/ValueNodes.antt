-- Data below val in the code's contexts, node by node: its faults, its values, and the carriers of its quantifiers.
use Rattle.std.proofs.Common.{◌≡◌, ℕ, ◌+◌, ◌<◌, ◌≤◌, Bool, true, false, cond, List, [], ◌∷◌, ◌++◌, length, get_or, drop, refl, sym, ◌∙◌, ap, subst}
use Rattle.std.proofs.Common.{Result, Ok, Err, OnOk, IfOk, Box, Vec, Global, arith, vec_len, true≢false}
use Rattle.std.specs.Prelude.{box_value, ◌==◌, nat_lt, MatchResult}
use Rattle.std.proofs.lemmas.Bool.{eqb-true}
use Rattle.std.proofs.lemmas.List.{append-nil, append_assoc, drop_all, map-append}
use Rattle.pb_sorts.specs.declared.carrier.Carrier.{Carrier}
use Rattle.pb_sorts.proofs.Places.{drop-at}
use Rattle.pb_text_tree.specs.declared.place.Place.{Place}
use Rattle.pb_text_tree.specs.declared.operator.Connective.{Connective}
use Rattle.pb_text_tree.specs.declared.operator.Quantifier.{Quantifier}
use Rattle.pb_text_tree.specs.declared.variable.Variables.{Variables}
use Rattle.pb_text_tree.specs.declared.term.Term as ast
use Rattle.pb_text_tree.specs.declared.name.Name.{Name}
use Rattle.pb_text_tree.specs.declared.term.Argument as ast_argument
use Rattle.pb_text_tree.specs.declared.term.TermLink.{TermLink}
use Rattle.pb_text_tree.specs.declared.term.ArithmeticLink.{ArithmeticLink}
use Rattle.pb_text_tree.specs.Form as form
use Rattle.pb_text_tree.specs.Form.{TermForm, arithmetic_links, term_form, variable_forms}
use Rattle.pb_text_tree.proofs.FormLemmas.{term-arithmetic, term-application}
use Rattle.pb_text_meaning.specs.Syntax as syntax
use Rattle.pb_text_meaning.specs.Syntax.{Spec}
use Rattle.pb_text_meaning.specs.Erase.{erased_term}
use Rattle.pb_typing_declarations.specs.declared.fault.TypingRule.TheVariants as rule
use Rattle.pb_typing_declarations.specs.declared.fault.TypingFault.{TypingFault}
use Rattle.pb_base.specs.declared.or_memory.OrMemory.{OrMemory}
use Rattle.pb_typing_declarations.specs.Declarations.{variables_faults}
use Rattle.pb_typing_declarations.specs.Entries.{shapes_of}
use Rattle.pb_typing_declarations.specs.Faults.{unless, IsAmong}
use Rattle.pb_typing_declarations.specs.Shapes.{Shape, Truths}
use Rattle.pb_typing_declarations.proofs.Parts.{among_left, among_right, first_clear}
use Rattle.pb_typing_rules.specs.Faults.{term_faults}
use Rattle.pb_typing_rules.specs.Scope.{Scope, bound}
use Rattle.pb_typing_rules.specs.Shapes.{may_be_truth}
use Rattle.pb_typing_tree.specs.declared.formula.Argument.{Argument}
use Rattle.pb_typing_tree.specs.declared.formula.Formula as code
use Rattle.pb_typing_tree.specs.Elaboration.{Slotting, elaborated, slotted}
use Rattle.pb_typing_tree.specs.Expansion.{has_quantifier, expanded_term}
use Rattle.pb_typing_tree.specs.Loops.{loops}
use Rattle.pb_typing_tree.specs.Tree as tree
use Rattle.pb_typing_tree.specs.View as view
use Rattle.pb_typing_tree.specs.View.{formula_view, term_view}
use Rattle.pb_typing_nodes.specs.declared.context.Context.{Context}
use Rattle.pb_typing_nodes.specs.Contexts.{scope_in, slots_in, text_in}
use Rattle.pb_typing_nodes.proofs.SlotLemmas.{variables_of}
use Rattle.pb_typing_terms.specs.Chains.{link_faults, operand_shape, own_faults}
use Rattle.pb_typing_terms.proofs.Links.{links_next, no_links, others_faults}
use Rattle.pb_typing_terms.proofs.Nodes.{chain_form, shape_in}
use Rattle.pb_typing.specs.declared.joined.Value.{Value}
use Rattle.pb_typing.specs.declared.joined.Value.TheVariants as declared
use Rattle.pb_typing.specs.Contexts.{AddsLoops, ChecksValue}
use Rattle.pb_typing.specs.Elaborated.{ElaboratesValue, truth_faults}
use Rattle.pb_typing.specs.Tree as texts
use Rattle.pb_typing.specs.Tree.{operand_terms}
use Rattle.pb_typing.specs.Value as values
use Rattle.pb_typing.specs.Value.{Data, Whole, as_formula, chosen, term_value, term_values}
use Rattle.pb_typing.specs.ValueLinks.{operand, value_loops}
use Rattle.pb_typing.specs.ValueView.{value_shape, value_view, value_views}
use Rattle.pb_typing.proofs.Bodies.{IsQuantifier}
use Rattle.pb_typing.proofs.ValueChains.{value-formula}
use Rattle.pb_typing.proofs.ValueLemmas.{form-value, form-loops, grown, negated-loops, no_quantifier, plain_grows}

-- ---- in a context

abbrev pub faults_in : Context → TermForm → List TypingFault
faults_in X x = term_faults (text_in X) true (scope_in X) x

abbrev pub value_in : Context → ℕ → TermForm → values.TermValue
value_in X n x = term_value (text_in X) (slots_in X) (scope_in X) n (erased_term x)

abbrev pub values_in : Context → ℕ → List TermLink → List values.TermValue
values_in X n links = term_values (text_in X) (slots_in X) (scope_in X) n (operand_terms links)

abbrev pub loops_in : Context → ast.Term → List Shape
loops_in X x = loops (text_in X) (texts.as_value x)

-- a part without faults, and its value
abbrev pub IsValue : Context → ℕ → TermForm → Value → Type 0
IsValue X n x v = (faults_in X x ≡ []) × (value_shape v ≡ shape_in X x) × (value_view v ≡ value_in X n x)

-- what is found of the faults that are left, where those before are none
value_as : (all rest : List TypingFault) (s t : Shape) (x y : values.TermValue)
    (r : Result Value (OrMemory TypingFault)) → all ≡ rest → t ≡ s → y ≡ x → ElaboratesValue rest s x r → ElaboratesValue all t y r
value_as all rest s t x y r e f g h =
    subst (λ (zs : List TypingFault). ElaboratesValue zs t y r) (sym e)
    (subst (λ (u : Shape). ElaboratesValue rest u y r) (sym f)
    (subst (λ (z : values.TermValue). ElaboratesValue rest s z r) (sym g) h))

-- a term is checked as what it is read as is
pub value_node : (X : Context) (n : ℕ) {x y : TermForm} (r : Result Value (OrMemory TypingFault)) → x ≡ y → ChecksValue X n y r → ChecksValue X n x r
value_node X n r is h = subst (λ (z : TermForm). ChecksValue X n z r) (sym is) h

pub loops_node : (X : Context) (old new : List Carrier) {x y : TermForm} (r : Result Value (OrMemory TypingFault))
    → x ≡ y → OnOk r (AddsLoops X old new (expanded_term (erased_term y))) → OnOk r (AddsLoops X old new (expanded_term (erased_term x)))
loops_node X old new r is h = subst (λ (z : TermForm). OnOk r (AddsLoops X old new (expanded_term (erased_term z)))) (sym is) h

-- ---- data

pub data_value : (S : Spec) (a : Scope) (c : Slotting) (n : ℕ) (x : TermForm) (y : Argument)
    → term_faults S false a x ≡ [] → term_view y.term ≡ slotted S c (erased_term x)
    → value_view (declared.Data y) ≡ term_value S c a n (erased_term x)
data_value S a c n x y none is =
    ap Data is ∙ sym (ap (λ (b : Bool). chosen b (elaborated S c a n (expanded_term (erased_term x))) (slotted S c (erased_term x))) (no_quantifier S a x none))

-- it has the same faults where a quantifier might stand
abbrev pub HasSameFaults : Context → ast.Term → Type 0
HasSameFaults X t = term_faults (text_in X) true (scope_in X) (term_form t) ≡ term_faults (text_in X) false (scope_in X) (term_form t)

-- data below which no quantifier stands
pub data_node : (X : Context) (n : ℕ) (t : ast.Term) (r : Result Value (OrMemory TypingFault)) → HasSameFaults X t
    → ((m : ℕ) → ElaboratesValue (term_faults (text_in X) false (scope_in X) (term_form t)) (shape_in X (term_form t)) (value_in X m (term_form t)) r)
    → ChecksValue X n (term_form t) r
data_node X n t r same h = subst (λ (fs : List TypingFault). ElaboratesValue fs (shape_in X (term_form t)) (value_in X n (term_form t)) r) (sym same) (h n)

-- it adds no carrier
pub data_grows : (X : Context) (t : ast.Term) (old : List Carrier) (r : Result Value (OrMemory TypingFault))
    → IfOk r (λ _. has_quantifier (erased_term (term_form t)) ≡ false) → OnOk r (AddsLoops X old old (texts.as_value t))
data_grows X t old (Ok v) h = plain_grows (text_in X) (erased_term (term_form t)) old h
data_grows X t old (Err e) h = tt

pub same-faults : (X : Context) {t u : ast.Term} → t ≡ u → HasSameFaults X u → HasSameFaults X t
same-faults X is same = subst (HasSameFaults X) (sym is) same

pub application-same : (X : Context) {t : ast.Term} (f : Name) (v : Vec ast_argument.Argument Global) → t ≡ ast.Application f v → HasSameFaults X t
application-same X f v is =
    let same = ap term_form is ∙ term-application f v in
    ap (term_faults (text_in X) true (scope_in X)) same ∙ sym (ap (term_faults (text_in X) false (scope_in X)) same)

-- ---- negations

negated-value : (S : Spec) (a : Scope) (c : Slotting) (n : ℕ) (x : syntax.Term) → term_value S c a n (syntax.Term.Not x) ≡ values.negated (term_value S c a n x)
negated-value S a c n x = by_test (has_quantifier x)
  where
    by_test : (b : Bool)
        → chosen b
        (elaborated S c a n (cond b (syntax.Formula.Not (expanded_term x)) (syntax.Formula.Val (syntax.Term.Not x))))
        (tree.Term.Not (slotted S c x)) ≡ values.negated (chosen b (elaborated S c a n (expanded_term x)) (slotted S c x))
    by_test true = refl
    by_test false = refl

pub not_value : (X : Context) (n : ℕ) {t x : ast.Term} (p : Place) (operand : Box ast.Term Global) (v : Value) (r : Result Value (OrMemory TypingFault))
    → t ≡ ast.Not p operand → x ≡ box_value operand → IsValue X n (term_form x) v
    → ElaboratesValue (unless (may_be_truth (value_shape v)) rule.WrongKind p) Truths (values.negated (value_view v)) r → ChecksValue X n (term_form t) r
not_value X n p operand v r is same h made =
    let z = term_form (box_value operand) in
    let part : IsValue X n z v = subst (λ (u : ast.Term). IsValue X n (term_form u) v) same h in
    let others = unless (may_be_truth (shape_in X z)) rule.WrongKind p in
    subst (λ (u : ast.Term). ChecksValue X n (term_form u) r) (sym is)
    (value_as (faults_in X z ++ others) (unless (may_be_truth (value_shape v)) rule.WrongKind p) Truths Truths
    (values.negated (value_view v)) (term_value (text_in X) (slots_in X) (scope_in X) n (syntax.Term.Not (erased_term z))) r
    (first_clear _ (faults_in X z) others refl part.0 ∙ ap (λ (s : Shape). unless (may_be_truth s) rule.WrongKind p) (sym part.1)) refl
    (negated-value (text_in X) (scope_in X) (slots_in X) n (erased_term z) ∙ ap values.negated (sym part.2)) made)

-- a negation adds what its operand adds
pub not_loops : (X : Context) (old : List Carrier) {t x : ast.Term} (p : Place) (operand : Box ast.Term Global) → t ≡ ast.Not p operand → x ≡ box_value operand
    → shapes_of old ++ loops_in X x ≡ shapes_of old ++ loops_in X t
not_loops X old p operand is same =
    ap (λ (u : ast.Term). shapes_of old ++ loops_in X u) same
    ∙ sym (ap (λ (u : ast.Term). shapes_of old ++ loops_in X u) is
    ∙ ap (λ (ss : List Shape). shapes_of old ++ ss) (negated-loops (text_in X) (erased_term (term_form (box_value operand)))))

-- what is added is no matter where there is no result
pub on_ok : {T E : Type 0} (r : Result T E) (P : Type 0) → P → OnOk r P
on_ok (Ok x) P p = p
on_ok (Err e) P p = tt

-- ---- a value as a formula

pub truth_formula : (X : Context) (n : ℕ) (x : TermForm) (v : Value) (f : code.Formula) → value_view v ≡ value_in X n x → formula_view f ≡ as_formula (value_view v)
    → formula_view f ≡ elaborated (text_in X) (slots_in X) (scope_in X) n (expanded_term (erased_term x))
truth_formula X n x v f is made = made ∙ (ap as_formula is ∙ value-formula (text_in X) (slots_in X) (scope_in X) (erased_term x) n)

pub truth_among : (X : Context) (x : TermForm) (p : Place) (e : OrMemory TypingFault) → IsAmong (faults_in X x) e → IsAmong (truth_faults (text_in X) (scope_in X) x p) e
truth_among X x p e h = among_left (faults_in X x) _ e h

pub truth_clear : (X : Context) (x : TermForm) (p : Place) {b : Bool} → faults_in X x ≡ [] → b ≡ may_be_truth (shape_in X x)
    → unless b rule.WrongKind p ≡ [] → truth_faults (text_in X) (scope_in X) x p ≡ []
truth_clear X x p none is clear =
    first_clear _ (faults_in X x) _ refl none ∙ (ap (λ (b : Bool). unless b rule.WrongKind p) (sym is) ∙ clear)

pub truth_kind : (X : Context) (x : TermForm) (p : Place) {b : Bool} (e : OrMemory TypingFault) → b ≡ may_be_truth (shape_in X x)
    → IsAmong (unless b rule.WrongKind p) e → IsAmong (truth_faults (text_in X) (scope_in X) x p) e
truth_kind X x p e is h = among_right (faults_in X x) _ e (subst (λ (b : Bool). IsAmong (unless b rule.WrongKind p) e) is h)

-- ---- quantifiers

abbrev pub IsTermQuantifier : Context → ast.Term → Place → Quantifier → List Variables → ast.Term → Type 0
IsTermQuantifier X t p q groups x =
    IsQuantifier (text_in X) (scope_in X) q groups (faults_in X (term_form t)) (λ (i : Scope). truth_faults (text_in X) i (term_form x) p) (texts.as_value t) (texts.as_value x)

pub quantifier-read : (X : Context) {t : ast.Term} (p : Place) (q : Quantifier) (vs : Vec Variables Global) (body : Box ast.Term Global) (x : ast.Term) {groups : List Variables}
    → t ≡ ast.Quantified p q vs body → x ≡ box_value body → groups ≡ vs.items → IsTermQuantifier X t p q groups x
quantifier-read X p q vs body x is same are =
    let S = text_in X in
    let a = scope_in X in
    record {
      faults =
          ap (λ (u : ast.Term). term_faults S true a (term_form u)) is
          ∙ sym (ap (λ (gs : List Variables). variables_faults S (variable_forms gs) ++ truth_faults S (bound S (variables_of gs) a) (term_form x) p) are
          ∙ ap (λ (u : ast.Term). variables_faults S (variable_forms vs.items) ++ truth_faults S (bound S (variables_of vs.items) a) (term_form u) p) same);
      node =
          ap texts.as_value is
          ∙ sym (ap (λ (gs : List Variables). syntax.Formula.Quantified q (variables_of gs) (texts.as_value x)) are
          ∙ ap (λ (u : ast.Term). syntax.Formula.Quantified q (variables_of vs.items) (texts.as_value u)) same);
    }

-- it is a Boolean, which is read as a formula
pub quantified-shape : (X : Context) {t u : ast.Term} → t ≡ u → Truths ≡ shape_in X (term_form u) → Truths ≡ shape_in X (term_form t)
quantified-shape X is made = made ∙ sym (ap (λ (z : ast.Term). shape_in X (term_form z)) is)

pub quantified-value : (X : Context) (n : ℕ) {t u : ast.Term} {f : tree.Formula} → t ≡ u → f ≡ elaborated (text_in X) (slots_in X) (scope_in X) n (texts.as_value t)
    → Whole (elaborated (text_in X) (slots_in X) (scope_in X) n (texts.as_value u)) ≡ value_in X n (term_form u) → Whole f ≡ value_in X n (term_form t)
quantified-value X n is shown made =
    ap Whole shown ∙ subst (λ (z : ast.Term). Whole (elaborated (text_in X) (slots_in X) (scope_in X) n (texts.as_value z)) ≡ value_in X n (term_form z)) (sym is) made

-- ---- chains

pub lone_value : (X : Context) (n : ℕ) (o : Connective) (first : ast.Term) (links : List TermLink) (r : Result Value (OrMemory TypingFault)) → (length links == 0) ≡ true
    → ChecksValue X n (term_form first) r → ChecksValue X n (chain_form o first links) r
lone_value X n o first links r none h = subst (λ (ls : List TermLink). ChecksValue X n (chain_form o first ls) r) (sym (no_links links none)) h

pub lone_loops : (X : Context) (old : List Carrier) (o : Connective) (first : ast.Term) (links : List TermLink) → (length links == 0) ≡ true
    → shapes_of old ++ loops_in X first ≡ shapes_of old ++ loops (text_in X) (expanded_term (texts.chain_of o first links))
lone_loops X old o first links none =
    sym (ap (λ (ls : List TermLink). shapes_of old ++ loops (text_in X) (expanded_term (texts.chain_of o first ls))) (no_links links none))

-- what is found of the operands behind the first, which has this shape
abbrev pub ChecksLinks : Context → ℕ → Shape → List TermLink → Result (Vec Value Global) (OrMemory TypingFault) → Type 0
ChecksLinks X n u links r =
    MatchResult r (λ vs. (link_faults (text_in X) true (scope_in X) u links ≡ []) × (value_views vs.items ≡ values_in X n links))
    (IsAmong (link_faults (text_in X) true (scope_in X) u links))

-- where the first has no fault
pub others_among : (X : Context) (n : ℕ) (o : Connective) (first : ast.Term) (links : List TermLink) {u : Shape} {r : Result (Vec Value Global) (OrMemory TypingFault)} {e : OrMemory TypingFault}
    → faults_in X (term_form first) ≡ [] → u ≡ shape_in X (term_form first) → r ≡ Err e → ChecksLinks X n u links r → IsAmong (faults_in X (chain_form o first links)) e
others_among X n o first links {u} {r} {e} none is failed h =
    subst (λ (zs : List TypingFault). IsAmong zs e) (sym (others_faults (text_in X) true (scope_in X) o (term_form first) links none is)) (subst (ChecksLinks X n u links) failed h)

pub others_clear : (X : Context) (n : ℕ) (o : Connective) (first : ast.Term) (links : List TermLink) {u : Shape} {r : Result (Vec Value Global) (OrMemory TypingFault)} {vs : Vec Value Global}
    → faults_in X (term_form first) ≡ [] → u ≡ shape_in X (term_form first) → r ≡ Ok vs → ChecksLinks X n u links r
    → (faults_in X (chain_form o first links) ≡ []) × (value_views vs.items ≡ values_in X n links)
others_clear X n o first links {u} none is made h =
    let others = subst (ChecksLinks X n u links) made h in
    (others_faults (text_in X) true (scope_in X) o (term_form first) links none is ∙ others.0, others.1)

-- the carriers of the first operand, and of those behind it
pub chain-loops : (X : Context) (o : Connective) (first : ast.Term) (links : List TermLink) (before mid now : List Carrier)
    {r : Result (Vec Value Global) (OrMemory TypingFault)} {vs : Vec Value Global} → AddsLoops X before mid (texts.as_value first)
    → r ≡ Ok vs → OnOk r (shapes_of now ≡ shapes_of mid ++ value_loops (text_in X) links) → AddsLoops X before now (expanded_term (texts.chain_of o first links))
chain-loops X o first links before mid now shapes made behind =
    let grows : shapes_of now ≡ shapes_of mid ++ value_loops (text_in X) links =
    subst (λ (r : Result (Vec Value Global) (OrMemory TypingFault)). OnOk r (shapes_of now ≡ shapes_of mid ++ value_loops (text_in X) links)) made behind in
    grows
    ∙ (ap (λ (ss : List Shape). ss ++ value_loops (text_in X) links) shapes
    ∙ (append_assoc (shapes_of before) (loops_in X first) (value_loops (text_in X) links)
    ∙ ap (λ (ss : List Shape). shapes_of before ++ ss) (sym (form-loops (text_in X) o (term_form first) links))))

-- the values of the first operand and of those behind it, joined
pub chain-value : (X : Context) (o : Connective) (first : ast.Term) (links : List TermLink) (before mid : List Carrier) (v : Value) (vs : List Value) {w : values.TermValue}
    → AddsLoops X before mid (texts.as_value first) → value_view v ≡ value_in X (length before) (term_form first) → value_views vs ≡ values_in X (length mid) links
    → w ≡ view.chained_formula (values.joined o) (value_view v) (value_views vs) → w ≡ value_in X (length before) (chain_form o first links)
chain-value X o first links before mid v vs shapes head others made =
    made
    ∙ (ap (λ (u : values.TermValue). view.chained_formula (values.joined o) u (value_views vs)) head
    ∙ (ap (view.chained_formula (values.joined o) (value_in X (length before) (term_form first)))
    (others ∙ ap (λ (m : ℕ). values_in X m links) (grown (text_in X) (texts.as_value first) before mid shapes))
    ∙ sym (form-value (text_in X) (slots_in X) (scope_in X) o (term_form first) links (length before))))

-- ---- operand by operand

-- so many operands are done: their values, and the carriers of their quantifiers
pub record AreDone (X : Context) (links : List TermLink) (first left : Shape) (before : List Carrier) (k : ℕ) (done : List Value) (now : List Carrier) : Type 0 where
  pub faults : link_faults (text_in X) true (scope_in X) first links ≡ link_faults (text_in X) true (scope_in X) left (drop k links)
  pub rest : values_in X (length before) links ≡ value_views done ++ values_in X (length now) (drop k links)
  pub carriers : shapes_of now ++ value_loops (text_in X) (drop k links) ≡ shapes_of before ++ value_loops (text_in X) links

pub done_begun : (X : Context) (links : List TermLink) (first : Shape) (before : List Carrier) {done : List Value} → done ≡ [] → AreDone X links first first before 0 done before
done_begun X links first before none = record {
  faults = refl;
  rest = ap (λ (vs : List Value). value_views vs ++ values_in X (length before) links) (sym none);
  carriers = refl;
}

-- the faults that are left are those of the next operand, then those of the ones behind it
pub next_parts : {X : Context} {links : List TermLink} {first left : Shape} {before now : List Carrier} {k : ℕ} {done : List Value} {link : TermLink}
    → AreDone X links first left before k done now → k < length links → link ≡ get_or links k link
    → link_faults (text_in X) true (scope_in X) first links
    ≡ own_faults (text_in X) true (scope_in X) left link (nat_lt (k + 1) (length links)) ++ link_faults (text_in X) true (scope_in X) (operand_shape (text_in X) (scope_in X) link) (drop (k + 1) links)
next_parts {X} {links} {first} {left} {before} {now} {k} {done} {link} h below at = h.faults ∙ links_next (text_in X) true (scope_in X) left links k link below at

pub done_next : {X : Context} {links : List TermLink} {first old_left left : Shape} {before old : List Carrier} {k : ℕ} {done more : List Value} {link : TermLink} (v : Value) (new : List Carrier)
    → AreDone X links first old_left before k done old → k < length links → link ≡ get_or links k link → more ≡ done ++ v ∷ []
    → ElaboratesValue (own_faults (text_in X) true (scope_in X) old_left link (nat_lt (k + 1) (length links))) (operand_shape (text_in X) (scope_in X) link)
    (value_in X (length old) (term_form link.operand)) (Ok v)
    → left ≡ value_shape v → AddsLoops X old new (operand link) → AreDone X links first left before (k + 1) more new
done_next {X} {links} {first} {old_left} {left} {before} {old} {k} {done} {more} {link} v new h below at pushed checked shown shapes =
    let here = drop-at links k link below at in
    let others = values_in X (length new) (drop (k + 1) links) in
    record {
      faults = first_clear _ _ _ (next_parts h below at) checked.0 ∙ ap (λ (s : Shape). link_faults (text_in X) true (scope_in X) s (drop (k + 1) links)) (sym (shown ∙ checked.1));
      rest =
          h.rest
          ∙ (ap (λ (ls : List TermLink). value_views done ++ values_in X (length old) ls) here
          ∙ (ap (λ (m : ℕ). value_views done ++ value_in X (length old) (term_form link.operand) ∷ values_in X m (drop (k + 1) links)) (sym (grown (text_in X) (operand link) old new shapes))
          ∙ (ap (λ (u : values.TermValue). value_views done ++ u ∷ others) (sym checked.2)
          ∙ (sym (append_assoc (value_views done) (value_view v ∷ []) others)
          ∙ (ap (λ (vs : List values.TermValue). vs ++ others) (sym (map-append value_view done (v ∷ []))) ∙ ap (λ (vs : List Value). value_views vs ++ others) (sym pushed))))));
      carriers =
          ap (λ (ss : List Shape). ss ++ value_loops (text_in X) (drop (k + 1) links)) shapes
          ∙ (append_assoc (shapes_of old) (loops (text_in X) (operand link)) (value_loops (text_in X) (drop (k + 1) links))
          ∙ (ap (λ (ls : List TermLink). shapes_of old ++ value_loops (text_in X) ls) (sym here) ∙ h.carriers));
    }

-- all operands are done
pub links_ended : {X : Context} {links : List TermLink} {first left : Shape} {before now : List Carrier} {k : ℕ} {done : List Value} → AreDone X links first left before k done now → length links ≤ k
    → (link_faults (text_in X) true (scope_in X) first links ≡ []) × (value_views done ≡ values_in X (length before) links)
links_ended {X} {links} {first} {left} {before} {now} {k} {done} h end =
    let none = drop_all k links end in (
      h.faults ∙ ap (link_faults (text_in X) true (scope_in X) left) none,
      sym (h.rest ∙ (ap (λ (ls : List TermLink). value_views done ++ values_in X (length now) ls) none ∙ append-nil (value_views done))),
    )

pub loops_ended : {X : Context} {links : List TermLink} {first left : Shape} {before now : List Carrier} {k : ℕ} {done : List Value} → AreDone X links first left before k done now → length links ≤ k
    → shapes_of now ≡ shapes_of before ++ value_loops (text_in X) links
loops_ended {X} {links} {first} {left} {before} {now} {k} h end =
    sym (ap (λ (ls : List TermLink). shapes_of now ++ value_loops (text_in X) ls) (drop_all k links end) ∙ append-nil (shapes_of now)) ∙ h.carriers

-- ---- arithmetic

no-arithmetic : (f : TermForm) (links : List ArithmeticLink) → length links ≡ 0 → form.calculated f (arithmetic_links links) ≡ f
no-arithmetic f [] e = refl
no-arithmetic f (l ∷ ls) e = absurd (omega (arith, e))

-- arithmetic without an operator is its operand
pub operand-node : {t x : ast.Term} (first : Box ast.Term Global) (v : Vec ArithmeticLink Global)
    → t ≡ ast.Arithmetic first v → x ≡ box_value first → (vec_len v == 0) ≡ true → term_form t ≡ term_form x
operand-node first v is same empty =
    let none : length v.items ≡ 0 = omega (arith, eqb-true (vec_len v) 0 empty, v.ok.0) in
    ap term_form is ∙ (term-arithmetic first v ∙ (no-arithmetic (term_form (box_value first)) v.items none ∙ ap term_form (sym same)))

calculated-same : (S : Spec) (a : Scope) (f : TermForm) (l : ArithmeticLink) (links : List ArithmeticLink)
    → term_faults S true a (form.calculated f (arithmetic_links (l ∷ links)))
    ≡ term_faults S false a (form.calculated f (arithmetic_links (l ∷ links)))
calculated-same S a f l [] = refl
calculated-same S a f l (m ∷ links) = calculated-same S a (TermForm.computed l.operator l.place f (term_form l.operand)) m links

some-same : (S : Spec) (a : Scope) (f : TermForm) (links : List ArithmeticLink) → (length links ≡ 0 → ⊥)
    → term_faults S true a (form.calculated f (arithmetic_links links)) ≡ term_faults S false a (form.calculated f (arithmetic_links links))
some-same S a f [] some = absurd (some refl)
some-same S a f (l ∷ links) some = calculated-same S a f l links

empty-count : {A : Type 0} (v : Vec A Global) → length v.items ≡ 0 → vec_len v ≡ 0
empty-count v e = omega (arith, v.ok.0, e)

-- below an operator no quantifier may stand
pub arithmetic-same : (X : Context) {t : ast.Term} (first : Box ast.Term Global) (v : Vec ArithmeticLink Global) → t ≡ ast.Arithmetic first v → (vec_len v == 0) ≡ false → HasSameFaults X t
arithmetic-same X first v is nonempty =
    let some : length v.items ≡ 0 → ⊥ = λ e. true≢false (sym (ap (λ (m : ℕ). m == 0) (empty-count v e)) ∙ nonempty) in
    let same = ap term_form is ∙ term-arithmetic first v in
    ap (term_faults (text_in X) true (scope_in X)) same
    ∙ (some-same (text_in X) (scope_in X) (term_form (box_value first)) v.items some ∙ sym (ap (term_faults (text_in X) false (scope_in X)) same))
