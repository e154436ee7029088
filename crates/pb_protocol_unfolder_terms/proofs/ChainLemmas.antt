-- Chains of operands, and refusals of what stands around a refused term.
use Rattle.std.proofs.Common.{◌≡◌, ℕ, suc, ◌+◌, ◌<◌, ◌≤◌, subst, List, [], ◌∷◌, drop, length, refl, sym, ◌∙◌, ap, arith, Some, None, Vec, Global, Box}
use Rattle.std.specs.Prelude.{box_value, string_bytes}
use Rattle.pb_text_tree.specs.declared.name.Name.{Name}
use Rattle.pb_text_tree.specs.declared.place.Place.{Place}
use Rattle.pb_text_tree.specs.declared.term.Argument.{Argument}
use Rattle.std.specs.List.{slice_get}
use Rattle.std.specs.Prelude.{Result, Ok, Err, IsErrAnd, MatchResult}
use Rattle.pb_text_tree.specs.declared.operator.Connective.{Connective}
use Rattle.pb_text_tree.specs.declared.term.Term as declared_term
use Rattle.pb_text_tree.specs.declared.term.Term.{items_hidden-the_row-TermLink-0, items_hidden-the_row-ArithmeticLink-1}
use Rattle.pb_text_tree.specs.declared.term.ArithmeticLink.{ArithmeticLink}
use Rattle.pb_text_tree.specs.declared.term.TermLink.{TermLink}
use Rattle.pb_text_tree.specs.Form.{TermForm, argument_forms, chained, named, term_form, term_links}
use Rattle.pb_text_tree.proofs.FormLemmas.{term-chain, term-application}
use Rattle.pb_text_meaning.specs.Syntax.{Operator, Term}
use Rattle.pb_text_meaning.specs.Erase.{erased_term, of_connective}
use Rattle.pb_protocol_folding.specs.View as tree
use Rattle.pb_base.specs.declared.or_memory.OrMemory.{OrMemory}
use Rattle.pb_base.specs.declared.or_memory.OrMemory.TheVariants.{Refused, Memory}
use Rattle.pb_protocol_unfolder_terms.specs.declared.fault.UnfoldFault.{UnfoldFault}
use Rattle.pb_protocol_unfolder_terms.specs.declared.fault.UnfoldRule.{UnfoldRule}
use Rattle.pb_protocol_unfolder_terms.specs.declared.fault.UnfoldRule.TheVariants as rule
use Rattle.pb_protocol_unfolder_terms.specs.Chains.{HasLinks, chain_term, operand_of, operands_of}
use Rattle.pb_protocol_unfolder_terms.specs.Unfolding.{operator_count, OnOperators, IsRefusal}

erased-chained : (c : Connective) (x : TermForm) (ls : List TermLink) → erased_term (chained (TermForm.connected c) x (term_links ls)) ≡ chain_term c (erased_term x) (operands_of ls)
erased-chained c x [] = refl
erased-chained c x (l ∷ ls) = ap (Term.Binary (of_connective c) (erased_term x)) (erased-chained c (term_form l.operand) ls)

-- ---- a term by the parts that the code has of it

-- a chain: its form, and what it says
pub chain-is : {t f : declared_term.Term} {o : Connective} {first : Box declared_term.Term Global} (links : Vec TermLink Global) {ls : List TermLink}
    → t ≡ declared_term.Chain o first links → f ≡ box_value first → ls ≡ links.items → term_form t ≡ chained (TermForm.connected o) (term_form f) (term_links ls)
chain-is {f = f} {o = o} {first = first} links is same rows =
    ap term_form is ∙ term-chain o first links ∙ ap (λ y. chained (TermForm.connected o) (term_form y) (term_links links.items)) (sym same)
    ∙ ap (λ ms. chained (TermForm.connected o) (term_form f) (term_links ms)) (sym rows)

pub chain-means : {t f : declared_term.Term} {o : Connective} {first : Box declared_term.Term Global} (links : Vec TermLink Global) {ls : List TermLink}
    → t ≡ declared_term.Chain o first links → f ≡ box_value first → ls ≡ links.items → chain_term o (tree.term_of f) (operands_of ls) ≡ tree.term_of t
chain-means {f = f} {o = o} links {ls = ls} is same rows = sym (ap erased_term (chain-is links is same rows) ∙ erased-chained o (term_form f) ls)

-- a name with arguments
pub application-said : (f : Name) (v : Vec Argument Global) → tree.term_of (declared_term.Application f v) ≡ Term.Apply (string_bytes f.text) (tree.terms_of v.items)
application-said f v = ap erased_term (term-application f v)

pub application-is : {t : declared_term.Term} {f : Name} (arguments : Vec Argument Global) {given : List Argument} → t ≡ declared_term.Application f arguments → given ≡ arguments.items
    → term_form t ≡ TermForm.application (named f) (argument_forms given)
application-is {f = f} arguments is same = ap term_form is ∙ term-application f arguments ∙ ap (λ bs. TermForm.application (named f) (argument_forms bs)) (sym same)

pub application-means : {t : declared_term.Term} {f : Name} (arguments : Vec Argument Global) {given : List Argument} → t ≡ declared_term.Application f arguments → given ≡ arguments.items
    → Term.Apply (string_bytes f.text) (tree.terms_of given) ≡ tree.term_of t
application-means arguments is same = sym (ap erased_term (application-is arguments is same))

pub no-operands : (ls : List TermLink) → None ≡ slice_get ls 0 → [] ≡ operands_of ls
no-operands [] e = refl
no-operands (l ∷ ls) e = absurd (no e)
  where
    no : None ≡ Some l → ⊥
    no h = cc

pub next-operands : (ls : List TermLink) (l : TermLink) → Some l ≡ slice_get ls 0 → (operand_of l ∷ operands_of (drop 1 ls)) ≡ operands_of ls
next-operands [] l e = absurd (no e)
  where
    no : Some l ≡ None → ⊥
    no h = cc
next-operands (k ∷ ls) l e = ap (λ (y : TermLink). operand_of y ∷ operands_of ls) (same e)
  where
    same : Some l ≡ Some k → l ≡ k
    same h = cc

pub refusal-weaker : (n m : ℕ) (x y : Term) (e : OrMemory UnfoldFault) → (m < operator_count x → n < operator_count y) → IsRefusal m x e → IsRefusal n y e
refusal-weaker n m x y Memory h r = tt
refusal-weaker n m x y (Refused f) h r = by f.rule r
  where
    by : (k : UnfoldRule) → OnOperators k (m < operator_count x) → OnOperators k (n < operator_count y)
    by rule.Operators p = h p
    by rule.Depth p = tt
    by rule.Values p = tt
    by rule.Index p = tt

-- what is refused on the right of an operator is too much behind the left one
pub refusal-behind : (n m k : ℕ) (o : Operator) (x y whole : Term) (e : OrMemory UnfoldFault) → n ≡ suc m → m ≤ k + operator_count x → Term.Binary o x y ≡ whole → IsRefusal k y e
    → IsRefusal n whole e
refusal-behind n m k o x y whole e one left same r =
    subst (λ (z : Term). IsRefusal n z e) same (refusal-weaker n k y (Term.Binary o x y) e (λ h. more (operator_count x) (operator_count y) left h) r)
  where
    more : (a b : ℕ) → m ≤ k + a → k < b → n < suc (a + b)
    more a b l h = omega (arith, one, l, h)

-- an error is passed on
pub err-kept : {A : Type 0} (r : Result A (OrMemory UnfoldFault)) (e : OrMemory UnfoldFault) (P : A → Type 0) (Q : OrMemory UnfoldFault → Type 0) → IsErrAnd r (λ d. d ≡ e) → Q e → MatchResult r P Q
err-kept (Ok a) e P Q h q = absurd h
err-kept (Err d) e P Q h q = subst Q (sym h) q

-- a chain by its parts
pub chain-parts : (c d : Connective) (x y : Term) (xs ys : List Term) → c ≡ d → x ≡ y → xs ≡ ys → chain_term c x xs ≡ chain_term d y ys
chain-parts c d x y xs ys e f g = ap (λ (k : Connective). chain_term k x xs) e ∙ ap (λ (z : Term). chain_term d z xs) f ∙ ap (chain_term d y) g

-- no room for an operator
pub no-room : (n : ℕ) (whole : Term) (e : OrMemory UnfoldFault) (place : Place) → e ≡ Refused record { rule = rule.Operators; place = place } → n < operator_count whole → IsRefusal n whole e
no-room n whole e place same h = subst (IsRefusal n whole) (sym same) h

-- ---- two operands and more

pub chain-links : (k : Connective) (first : Box declared_term.Term Global) (v : Vec TermLink Global) → HasLinks (declared_term.Chain k first v) → 0 < length v.items
chain-links k first v h = subst (λ ls. 0 < length ls) (items_hidden-the_row-TermLink-0 v) h

pub arithmetic-links : (first : Box declared_term.Term Global) (v : Vec ArithmeticLink Global) → HasLinks (declared_term.Arithmetic first v) → 0 < length v.items
arithmetic-links first v h = subst (λ ls. 0 < length ls) (items_hidden-the_row-ArithmeticLink-1 v) h
