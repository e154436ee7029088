-- A choice of two terms, folded.
use Rattle.std.proofs.Common.{◌≡◌, ◌≤◌, ◌+◌, ℕ, suc, Bool, true, false, if◌then◌else◌, List, Option, Some, None, refl, sym, ◌∙◌, ap, subst, arith}
use Rattle.pb_text_meaning.specs.Syntax.{Name, Term, Terms, Spec}
use Rattle.pb_text_meaning.specs.Functions.{named_function}
use Rattle.pb_text_meaning.specs.declared.function.NamedFunction.{NamedFunction}
use Rattle.pb_text_meaning.specs.declared.function.NamedFunction.TheVariants.{If, Succ, Pred, Abs, Max, Min, Pos2Nat, Pos2Int, Nat2Int}
use Rattle.std.specs.Prelude.{codes, string_bytes}
use Rattle.pb_text_tree.specs.declared.name.Name as declared_name
use Rattle.pb_text_tree.specs.declared.sort.SortDeclaration.{SortDeclaration}
use Rattle.pb_text_tree.specs.declared.term.Term as declared_term
use Rattle.pb_protocol_folding.specs.Folding.{folded, folded_application, function_of_three, is_if, truth_value}
use Rattle.pb_protocol_folding.specs.View as tree
use Rattle.pb_protocol_unfolder_terms.specs.Puts.{choice_of}
use Rattle.pb_base.specs.declared.or_memory.OrMemory.{OrMemory}
use Rattle.pb_protocol_unfolder_terms.specs.declared.fault.UnfoldFault.{UnfoldFault}
use Rattle.pb_protocol_unfolder_terms.specs.declared.context.Context.{Context}
use Rattle.pb_protocol_unfolder_terms.specs.declared.unfolded.Unfolded.{Unfolded}
use Rattle.pb_protocol_unfolder_terms.specs.Contexts.{folding_in}
use Rattle.pb_protocol_unfolder_terms.specs.Unfolding.{IsRefusal, IsUnfolded, operator_count}
use Rattle.pb_protocol_unfolder_terms.proofs.ChainLemmas.{refusal-weaker}

chooses : (o : Option NamedFunction) (b : Bool) (x y whole : Term) → is_if o ≡ true → function_of_three o (Some b) x y whole ≡ (if b then x else y)
chooses (Some If) true x y whole e = refl
chooses (Some If) false x y whole e = refl
chooses (Some Succ) b x y whole e = absurd (no e)
  where
    no : false ≡ true → ⊥
    no h = cc
chooses (Some Pred) b x y whole e = absurd (no e)
  where
    no : false ≡ true → ⊥
    no h = cc
chooses (Some Abs) b x y whole e = absurd (no e)
  where
    no : false ≡ true → ⊥
    no h = cc
chooses (Some Max) b x y whole e = absurd (no e)
  where
    no : false ≡ true → ⊥
    no h = cc
chooses (Some Min) b x y whole e = absurd (no e)
  where
    no : false ≡ true → ⊥
    no h = cc
chooses (Some Pos2Nat) b x y whole e = absurd (no e)
  where
    no : false ≡ true → ⊥
    no h = cc
chooses (Some Pos2Int) b x y whole e = absurd (no e)
  where
    no : false ≡ true → ⊥
    no h = cc
chooses (Some Nat2Int) b x y whole e = absurd (no e)
  where
    no : false ≡ true → ⊥
    no h = cc
chooses None b x y whole e = absurd (no e)
  where
    no : false ≡ true → ⊥
    no h = cc

abbrev three : Term → Term → Term → Terms
three c x y = Terms.Then c (Terms.Then x (Terms.Then y Terms.NoTerms))

-- of a choice the truth of the condition counts
pub folded-choice : (S : Spec) (f : Name) (c x y : Term) (truth : Bool) → is_if (named_function f) ≡ true
    → folded_application S f (three (folded S true c) (folded S false x) (folded S false y)) ≡ folded S truth (choice_of f c x y)
folded-choice S f c x y truth e = ap (λ b. folded_application S f (three (folded S b c) (folded S false x) (folded S false y))) (sym e)

pub chosen-term : (S : Spec) (f : Name) (c x y : Term) (b truth : Bool) → is_if (named_function f) ≡ true
    → folded S true c ≡ Term.Truth b → folded S false (if b then x else y) ≡ folded S truth (choice_of f c x y)
chosen-term S f c x y true truth e holds =
    sym (chooses (named_function f) true (folded S false x) (folded S false y) (Term.Apply f (three (Term.Truth true) (folded S false x) (folded S false y))) e)
    ∙ ap (λ z. folded_application S f (three z (folded S false x) (folded S false y))) (sym holds) ∙ folded-choice S f c x y truth e
chosen-term S f c x y false truth e holds =
    sym (chooses (named_function f) false (folded S false x) (folded S false y) (Term.Apply f (three (Term.Truth false) (folded S false x) (folded S false y))) e)
    ∙ ap (λ z. folded_application S f (three z (folded S false x) (folded S false y))) (sym holds) ∙ folded-choice S f c x y truth e

pub chosen-room : (n m left : ℕ) (c x y : Term) (b : Bool) → n ≤ left + operator_count (if b then x else y)
    → m ≤ n + suc (operator_count c) → m ≤ left + suc (operator_count c + (operator_count x + (operator_count y + 0)))
chosen-room n m left c x y true within size = omega (arith, within, size)
chosen-room n m left c x y false within size = omega (arith, within, size)

-- ---- what is refused

pub sum-of : (f : Name) (c x y : Term) → operator_count (choice_of f c x y) ≡ suc (operator_count c + (operator_count x + operator_count y))
sum-of f c x y = omega arith

-- the condition
pub condition-refused : (n m : ℕ) (f : Name) (c x y : Term) (e : OrMemory UnfoldFault) → n ≡ suc m → IsRefusal m c e → IsRefusal n (choice_of f c x y) e
condition-refused n m f c x y e one r =
    let size = sum-of f c x y in refusal-weaker n m c (choice_of f c x y) e (λ h. omega (arith, one, size, h)) r

-- the one that is chosen
pub chosen-refused : (n m : ℕ) (f : Name) (c x y : Term) (b : Bool) (e : OrMemory UnfoldFault) → n ≤ m + suc (operator_count c) → IsRefusal m (if b then x else y) e
    → IsRefusal n (choice_of f c x y) e
chosen-refused n m f c x y true e within r =
    let size = sum-of f c x y in refusal-weaker n m x (choice_of f c x y) e (λ h. omega (arith, within, size, h)) r
chosen-refused n m f c x y false e within r =
    let size = sum-of f c x y in refusal-weaker n m y (choice_of f c x y) e (λ h. omega (arith, within, size, h)) r

-- the right one behind the left one
pub right-refused : (n m k : ℕ) (f : Name) (c x y : Term) (e : OrMemory UnfoldFault) → n ≤ m + suc (operator_count c) → m ≤ k + operator_count x → IsRefusal k y e → IsRefusal n (choice_of f c x y) e
right-refused n m k f c x y e within left r =
    let size = sum-of f c x y in refusal-weaker n k y (choice_of f c x y) e (λ h. omega (arith, within, left, size, h)) r

pub if-named : is_if (named_function (codes "if")) ≡ true
unfolding named_function
if-named = refl

not-some : (b : Bool) → Some b ≡ None → ⊥
not-some b e = cc

-- a term that is written as a truth value is that one
of-value : (x : Term) (b : Bool) → Some b ≡ truth_value x → x ≡ Term.Truth b
of-value (Term.Truth d) b e = ap Term.Truth (same e)
  where
    same : Some b ≡ Some d → d ≡ b
    same h = cc
of-value (Term.Number n) b e = absurd (not-some b e)
of-value (Term.Named x) b e = absurd (not-some b e)
of-value (Term.Not x) b e = absurd (not-some b e)
of-value (Term.Negative x) b e = absurd (not-some b e)
of-value (Term.Binary o x y) b e = absurd (not-some b e)
of-value (Term.Apply f xs) b e = absurd (not-some b e)
of-value (Term.Quantified q xs x) b e = absurd (not-some b e)

pub truth-said : (t : declared_term.Term) (b : Bool) → Some b ≡ truth_value (tree.term_of t) → tree.term_of t ≡ Term.Truth b
truth-said t b e = of-value (tree.term_of t) b e

-- ---- what the code ensures of choices

-- r is the one of two unfolded terms that is chosen
abbrev pub IsChosen : Unfolded → Unfolded → Type 0
IsChosen u r =
    (S : Spec) (f : Name) (c x y : Term) (n m : ℕ) (b truth : Bool) → is_if (named_function f) ≡ true → folded S true c ≡ Term.Truth b
    → IsUnfolded S false n (if b then x else y) u → m ≤ n + suc (operator_count c) → IsUnfolded S truth m (choice_of f c x y) r

-- r is the choice of two by a condition, the right one behind the left one
abbrev pub IsChoice : List SortDeclaration → declared_name.Name → declared_term.Term → Unfolded → Unfolded → Unfolded → Type 0
IsChoice D function condition left right r =
    (n m : ℕ) (c x y : Term) (truth : Bool) → tree.term_of condition ≡ folded (tree.spec_of D) true c → IsUnfolded (tree.spec_of D) false n x left
    → IsUnfolded (tree.spec_of D) false left.room y right → m ≤ n + suc (operator_count c) → IsUnfolded (tree.spec_of D) truth m (choice_of (string_bytes function.text) c x y) r

-- so it is by what was held of them while more was unfolded
pub choice-held : (D : List SortDeclaration) (f : declared_name.Name) {condition held last : declared_term.Term} {left next right r : Unfolded} → ◌≡◌ {A = declared_term.Term × Unfolded}
    (last, next) (held, left) → held ≡ condition
    → IsChoice D f last next right r → IsChoice D f condition left right r
choice-held D f {left = left} {right = right} {r = r} both one choice =
    subst (λ (x : declared_term.Term). IsChoice D f x left right r) one
    (subst (λ (pair : declared_term.Term × Unfolded). IsChoice D f pair.0 pair.1 right r) both choice)

-- so it is by equal sorts, a name and a whole
pub two-unfolded : (k : Context) (truth : Bool) (function : declared_name.Name) (t : declared_term.Term) {D : List SortDeclaration} {f : Name} {c x y whole : Term} {n m : ℕ} {left right r : Unfolded}
    → D ≡ k.declarations.now → string_bytes function.text ≡ f → choice_of f c x y ≡ whole → tree.term_of t ≡ folded (folding_in k) true c
    → IsUnfolded (folding_in k) false n x left → IsUnfolded (folding_in k) false left.room y right
    → m ≤ n + suc (operator_count c) → IsChoice D function t left right r → IsUnfolded (folding_in k) truth m whole r
two-unfolded k truth function t {c = c} {x = x} {y = y} {n = n} {m = m} {left = left} {right = right} {r = r} sorts named said condition l h within choice =
    subst (λ (z : Term). IsUnfolded (folding_in k) truth m z r) (ap (λ (g : Name). choice_of g c x y) named ∙ said)
    (subst (λ (ds : List SortDeclaration). IsChoice ds function t left right r) sorts choice n m c x y truth condition l h within)
