-- Unfolded terms over equal sorts, of equal terms.
use Rattle.std.proofs.Common.{◌≡◌, ℕ, Bool, List, [], ◌∷◌, Option, Some, None, length, map, refl, suc, false, sym, ◌∙◌, ap, subst, arith, Box, Global}
use Rattle.std.specs.Prelude.{Result, IsErrAnd, box_value}
use Rattle.pb_base.specs.declared.or_memory.OrMemory.{OrMemory}
use Rattle.pb_text_tree.specs.declared.operator.Comparison.{Comparison}
use Rattle.pb_text_tree.specs.declared.place.Place.{Place}
use Rattle.pb_text_tree.specs.declared.term.Term as declared_term
use Rattle.pb_text_tree.specs.declared.sort.SortDeclaration.{SortDeclaration}
use Rattle.pb_text_meaning.specs.Syntax.{Name, Operator, Variable, Term, Terms, Spec}
use Rattle.pb_text_meaning.specs.Erase.{of_comparison}
use Rattle.pb_text_meaning.specs.Functions.{named_function}
use Rattle.pb_protocol_folding.specs.Folding.{is_if}
use Rattle.pb_protocol_folding.specs.View as tree
use Rattle.pb_protocol_unfolding.specs.PutIn.{TermScope, named_term, standing, read, term_of}
use Rattle.pb_protocol_unfolder_terms.specs.declared.context.Context.{Context}
use Rattle.pb_protocol_unfolder_terms.specs.declared.arguments.UnfoldedArguments.{UnfoldedArguments}
use Rattle.pb_protocol_unfolder_terms.specs.declared.fault.UnfoldFault.{UnfoldFault}
use Rattle.pb_protocol_unfolder_terms.specs.declared.level.Level.{Level}
use Rattle.pb_protocol_unfolder_terms.specs.declared.scope.TermScope as declared_scope
use Rattle.pb_protocol_unfolder_terms.specs.declared.written.Written.{Written}
use Rattle.pb_protocol_unfolder_terms.specs.declared.unfolded.Unfolded.{Unfolded}
use Rattle.pb_protocol_unfolder_terms.specs.declared.sorts.Variable as declared_variable
use Rattle.pb_protocol_unfolder_terms.specs.View.{variable_of}
use Rattle.pb_protocol_unfolder_terms.specs.Contexts.{folding_in, forms_in, spec_in}
use Rattle.pb_protocol_unfolder_terms.specs.Puts.{AreArguments, put}
use Rattle.pb_protocol_unfolder_terms.specs.Scopes.{scope_of}
use Rattle.pb_protocol_unfolder_terms.specs.Values.{written_term}
use Rattle.pb_protocol_unfolder_terms.specs.Unfolding.{IsRefusal, IsUnfolded, Unfolds}
use Rattle.pb_protocol_unfolder_terms.proofs.ChainLemmas.{err-kept, refusal-behind}

-- ---- names and functions

-- a name that stands for a value
pub value-unfolded : (k : Context) (v : Level) (s : declared_scope.TermScope) (value : Written) (r : Unfolded) {D : List SortDeclaration} {shown x : Name} → shown ≡ x
    → Some (written_term value) ≡ term_of (scope_of (spec_in k) (forms_in k) s) shown → D ≡ k.declarations.now → IsUnfolded (tree.spec_of D) v.truth v.room (written_term value) r
    → IsUnfolded (folding_in k) v.truth v.room (put k v.definitions s (Term.Named x)) r
value-unfolded k v s value r {x = x} shows found sorts h =
    subst (λ (o : Option Term). IsUnfolded (folding_in k) v.truth v.room (named_term (spec_in k) o (forms_in k v.definitions x Terms.NoTerms) x) r)
    (found ∙ ap (term_of (scope_of (spec_in k) (forms_in k) s)) shows)
    (subst (λ (ds : List SortDeclaration). IsUnfolded (tree.spec_of ds) v.truth v.room (written_term value) r) sorts h)

-- one that stands for nothing
pub name-unfolded : (k : Context) (v : Level) (r : Unfolded) {shown x : Name} {o : Option Term} → shown ≡ x → forms_in k v.definitions shown Terms.NoTerms ≡ o
    → IsUnfolded (folding_in k) v.truth v.room (named_term (spec_in k) None o x) r
    → IsUnfolded (folding_in k) v.truth v.room (named_term (spec_in k) None (forms_in k v.definitions x Terms.NoTerms) x) r
name-unfolded k v r {x = x} shows means =
    subst (λ (o : Option Term). IsUnfolded (folding_in k) v.truth v.room (named_term (spec_in k) None o x) r)
    (sym means ∙ ap (λ (y : Name). forms_in k v.definitions y Terms.NoTerms) shows)

-- a function of unfolded arguments
pub function-unfolded : (k : Context) (b : Bool) (f : Name) (xs : Terms) {D : List SortDeclaration} {n m : ℕ} {truth : Bool} {u : UnfoldedArguments} {r : Unfolded} → D ≡ k.declarations.now → m ≡ suc n
    → truth ≡ is_if (named_function f) → AreArguments (folding_in k) truth n xs u
    → ((ys : Terms) (j : ℕ) (c : Bool) → AreArguments (tree.spec_of D) (is_if (named_function f)) j ys u → IsUnfolded (tree.spec_of D) c (suc j) (Term.Apply f ys) r)
    → IsUnfolded (folding_in k) b m (Term.Apply f xs) r
function-unfolded k b f xs {n = n} {u = u} {r = r} sorts one counts h function =
    subst (λ (j : ℕ). IsUnfolded (folding_in k) b j (Term.Apply f xs) r) (sym one)
    (subst (λ (ds : List SortDeclaration). (ys : Terms) (j : ℕ) (c : Bool) → AreArguments (tree.spec_of ds) (is_if (named_function f)) j ys u
    → IsUnfolded (tree.spec_of ds) c (suc j) (Term.Apply f ys) r) sorts function xs n b
    (subst (λ (t : Bool). AreArguments (folding_in k) t n xs u) counts h))

-- ---- operators and comparisons

-- an operator of one operand
pub operator-unfolded : (k : Context) (o : Term → Term) {D : List SortDeclaration} {b truth : Bool} {n m : ℕ} {x whole : Term} {u r : Unfolded} → o x ≡ whole → D ≡ k.declarations.now → m ≡ suc n
    → IsUnfolded (folding_in k) b n x u → ((y : Term) (j : ℕ) (c : Bool) → IsUnfolded (tree.spec_of D) b j y u → IsUnfolded (tree.spec_of D) c (suc j) (o y) r)
    → IsUnfolded (folding_in k) truth m whole r
operator-unfolded k o {b = b} {truth = truth} {n = n} {m = m} {x = x} {u = u} {r = r} said sorts one h operator =
    subst (λ (z : Term). IsUnfolded (folding_in k) truth m z r) said
    (subst (λ (j : ℕ). IsUnfolded (folding_in k) truth j (o x) r) (sym one)
    (subst (λ (ds : List SortDeclaration). (y : Term) (j : ℕ) (c : Bool) → IsUnfolded (tree.spec_of ds) b j y u → IsUnfolded (tree.spec_of ds) c (suc j) (o y) r) sorts operator x n truth h))

-- what a comparison says, by the parts that the code has of it
pub comparison-means : {t f g : declared_term.Term} {place : Place} {sign : Comparison} {left right : Box declared_term.Term Global}
    → t ≡ declared_term.Comparison place sign left right → f ≡ box_value left → g ≡ box_value right → Term.Binary (of_comparison sign) (tree.term_of f) (tree.term_of g) ≡ tree.term_of t
comparison-means {g = g} {sign = sign} {left = left} is first second =
    ap (λ y. Term.Binary (of_comparison sign) (tree.term_of y) (tree.term_of g)) first
    ∙ ap (λ y. Term.Binary (of_comparison sign) (tree.term_of (box_value left)) (tree.term_of y)) second ∙ ap tree.term_of (sym is)

-- it is unfolded, the right side behind the left one
pub comparison-unfolded : (k : Context) {D : List SortDeclaration} {truth : Bool} {o : Operator} {n m : ℕ} {x y whole : Term} {left right r : Unfolded} → Term.Binary o x y ≡ whole
    → D ≡ k.declarations.now → m ≡ suc n
    → IsUnfolded (folding_in k) false n x left → IsUnfolded (folding_in k) false left.room y right
    → ((a b : Term) (j : ℕ) (c : Bool) → IsUnfolded (tree.spec_of D) false j a left → IsUnfolded (tree.spec_of D) false left.room b right
    → IsUnfolded (tree.spec_of D) c (suc j) (Term.Binary o a b) r)
    → IsUnfolded (folding_in k) truth m whole r
comparison-unfolded k {truth = truth} {o = o} {n = n} {m = m} {x = x} {y = y} {left = left} {right = right} {r = r} said sorts one l h comparison =
    subst (λ (z : Term). IsUnfolded (folding_in k) truth m z r) said
    (subst (λ (j : ℕ). IsUnfolded (folding_in k) truth j (Term.Binary o x y) r) (sym one)
    (subst (λ (ds : List SortDeclaration). (a b : Term) (j : ℕ) (c : Bool) → IsUnfolded (tree.spec_of ds) false j a left → IsUnfolded (tree.spec_of ds) false left.room b right
    → IsUnfolded (tree.spec_of ds) c (suc j) (Term.Binary o a b) r) sorts comparison x y n truth l h))

-- or there is no room for the right side
pub comparison-refused : (k : Context) (truth : Bool) {o : Operator} {n m : ℕ} {x y whole : Term} {left : Unfolded} → Term.Binary o x y ≡ whole
    → (r : Result Unfolded (OrMemory UnfoldFault)) (e : OrMemory UnfoldFault)
    → IsErrAnd r (λ d. d ≡ e) → m ≡ suc n → IsUnfolded (folding_in k) false n x left → IsRefusal left.room y e → Unfolds (folding_in k) truth m whole r
comparison-refused k truth {o = o} {n = n} {m = m} {x = x} {y = y} {whole = whole} {left = left} said r e same one l h =
    err-kept r e (IsUnfolded (folding_in k) truth m whole) (IsRefusal m whole) same (refusal-behind m n left.room o x y whole e one l.room said h)

-- variables without terms stand for nothing
pub standing-none : (xs : List Variable) (ρ : TermScope) → standing xs Terms.NoTerms ρ ≡ ρ
standing-none [] ρ = refl
standing-none (x ∷ xs) ρ = refl

pub read-bare : (sorts : Spec) (x : Name) (is : List declared_variable.Variable) → length is ≡ 0 → read sorts x (map variable_of is) Terms.NoTerms ≡ Term.Named x
read-bare sorts x [] e = refl
read-bare sorts x (i ∷ is) e = absurd (omega (arith, e))

pub read-missing : (sorts : Spec) (x : Name) (is : List declared_variable.Variable) → (length is ≡ 0 → ⊥) → read sorts x (map variable_of is) Terms.NoTerms ≡ Term.Number 0
read-missing sorts x [] e = absurd (e refl)
read-missing sorts x (i ∷ is) e = refl
