-- Arguments that are unfolded, or refused.
use Rattle.std.proofs.Common.{◌≡◌, ℕ, Bool, add-one, suc, zero, ◌+◌, ◌-◌, ◌<◌, ◌≤◌, ◌++◌, List, [], ◌∷◌, take, drop, length, get_or, refl, sym, ◌∙◌, ap, arith, Some, true≢false, ◌==◌, true, false}
use Rattle.std.proofs.Math.Dec.{eqb-suc-zero}
use Rattle.std.specs.List.{slice_get}
use Rattle.pb_text_tree.specs.declared.term.Argument.{Argument}
use Rattle.pb_text_meaning.specs.Syntax.{Term, Terms, Spec}
use Rattle.pb_base.specs.declared.or_memory.OrMemory.{OrMemory}
use Rattle.pb_base.specs.declared.or_memory.OrMemory.TheVariants.{Refused, Memory}
use Rattle.pb_protocol_folding.specs.View as tree
use Rattle.pb_protocol_unfolding.specs.PutIn.{Forms, TermScope, all_put_in, put_in}
use Rattle.pb_protocol_unfolder_terms.specs.declared.fault.UnfoldFault.{UnfoldFault}
use Rattle.pb_protocol_unfolder_terms.specs.declared.fault.UnfoldRule.{UnfoldRule}
use Rattle.pb_protocol_unfolder_terms.specs.declared.fault.UnfoldRule.TheVariants as rule
use Rattle.pb_protocol_unfolder_terms.specs.Puts.{AreArguments, IsRefusalOfAll, truth_behind, with_last}
use Rattle.pb_protocol_unfolder_terms.specs.Unfolding.{IsRefusal, IsUnfolded, OnOperators, operator_count, operator_counts}
use Rattle.pb_protocol_unfolder_terms.specs.declared.arguments.UnfoldedArguments.{UnfoldedArguments}
use Rattle.pb_protocol_unfolder_terms.specs.declared.unfolded.Unfolded.{Unfolded}
use Rattle.pb_protocol_folding.specs.Folding.{folded, folded_arguments}

-- what is refused
weaker : (n : ℕ) (xs : Terms) (e : OrMemory UnfoldFault) (m : ℕ) (x : Term) → (m < operator_count x → n < operator_counts xs) → IsRefusal m x e → IsRefusalOfAll n xs e
weaker n xs Memory m x h r = tt
weaker n xs (Refused f) m x h r = by f.rule r
  where
    by : (k : UnfoldRule) → OnOperators k (m < operator_count x) → OnOperators k (n < operator_counts xs)
    by rule.Operators p = h p
    by rule.Depth p = tt
    by rule.Values p = tt
    by rule.Index p = tt

-- up to the element at a place, and all
pub taken-more : {A : Type 0} (xs : List A) (k : ℕ) (x : A) → k < length xs → x ≡ get_or xs k x → take (suc k) xs ≡ take k xs ++ (x ∷ [])
taken-more [] k x within is = absurd (omega (arith, within))
taken-more (y ∷ xs) zero x within is = ap (λ z. z ∷ []) (sym is)
taken-more (y ∷ xs) (suc k) x within is = ap (λ zs. y ∷ zs) (taken-more xs k x (omega (arith, within)) is)

pub taken-all : {A : Type 0} (xs : List A) (k : ℕ) → (k < length xs → ⊥) → take k xs ≡ xs
taken-all [] zero end = refl
taken-all [] (suc k) end = refl
taken-all (x ∷ xs) zero end = absurd (end (omega arith))
taken-all (x ∷ xs) (suc k) end = ap (λ ys. x ∷ ys) (taken-all xs k (λ h. end (omega (arith, h))))

pub taken-none : {A : Type 0} (xs : List A) → take 0 xs ≡ []
taken-none [] = refl
taken-none (x ∷ xs) = refl

pub taken-there : {A : Type 0} (xs : List A) (k : ℕ) (x : A) → k < length xs → x ≡ get_or xs k x → slice_get xs k ≡ Some x
taken-there [] k x within is = absurd (omega (arith, within))
taken-there (y ∷ xs) zero x within is = ap Some (sym is)
taken-there (y ∷ xs) (suc k) x within is = taken-there xs k x (omega (arith, within)) is

-- all but the first
taken : {A : Type 0} (xs : List A) → take (length xs) xs ≡ xs
taken [] = refl
taken (x ∷ xs) = ap (λ ys. x ∷ ys) (taken xs)

pub behind-first : {A : Type 0} (xs : List A) → take (length xs - 1) (drop 1 xs) ≡ drop 1 xs
behind-first [] = refl
behind-first (x ∷ xs) =
    let e : suc (length xs) - 1 ≡ length xs = omega arith in
    ap (λ (m : ℕ). take m xs) e ∙ taken xs

pub none-of : {A : Type 0} (xs : List A) (n : ℕ) → n ≡ length xs → (n == 0) ≡ true → xs ≡ []
none-of [] n e test = refl
none-of (x ∷ xs) n e test = absurd (true≢false (sym test ∙ ap (λ (m : ℕ). m == 0) e ∙ eqb-suc-zero (length xs)))

pub some-of : {A : Type 0} (xs : List A) → (length xs == 0) ≡ false → length xs ≡ 0 → ⊥
some-of xs test e = true≢false (sym (ap (λ (m : ℕ). m == 0) e) ∙ test)

-- ---- one argument after another

last-taken : (S : Spec) (forms : Forms) (ρ : TermScope) (given : List Argument) (k : ℕ) (a : Argument) → k < length given → a ≡ get_or given k a
    → with_last (all_put_in S forms ρ (tree.terms_of (take k given))) (put_in S forms ρ (tree.term_of a.term)) ≡ all_put_in S forms ρ (tree.terms_of (take (suc k) given))
last-taken S forms ρ [] k a within is = absurd (omega (arith, within))
last-taken S forms ρ (b ∷ given) zero a within is =
    ap (λ (d : Argument). Terms.Then (put_in S forms ρ (tree.term_of d.term)) Terms.NoTerms) is
    ∙ ap (λ ds. Terms.Then (put_in S forms ρ (tree.term_of b.term)) (all_put_in S forms ρ (tree.terms_of ds))) (sym (taken-none given))
last-taken S forms ρ (b ∷ given) (suc k) a within is = ap (Terms.Then (put_in S forms ρ (tree.term_of b.term))) (last-taken S forms ρ given k a (omega (arith, within)) is)

-- the next argument
pub argument-next : (S : Spec) (forms : Forms) (ρ : TermScope) (given : List Argument) (k : ℕ) (a : Argument) → k < length given → a ≡ get_or given k a
    → with_last (all_put_in S forms ρ (tree.terms_of (take k given))) (put_in S forms ρ (tree.term_of a.term)) ≡ all_put_in S forms ρ (tree.terms_of (take (k + 1) given))
argument-next S forms ρ given k a within is =
    last-taken S forms ρ given k a within is ∙ ap (λ (j : ℕ). all_put_in S forms ρ (tree.terms_of (take j given))) (sym (add-one k))

counts-last : (ts : Terms) (x : Term) → operator_counts (with_last ts x) ≡ operator_counts ts + operator_count x
counts-last Terms.NoTerms x = omega arith
counts-last (Terms.Then t ts) x = omega (arith, counts-last ts x)

counts-taken : (S : Spec) (forms : Forms) (ρ : TermScope) (given : List Argument) (k : ℕ)
    → operator_counts (all_put_in S forms ρ (tree.terms_of (take k given))) ≤ operator_counts (all_put_in S forms ρ (tree.terms_of given))
counts-taken S forms ρ [] zero = omega arith
counts-taken S forms ρ [] (suc k) = omega arith
counts-taken S forms ρ (a ∷ given) zero = omega arith
counts-taken S forms ρ (a ∷ given) (suc k) = omega (arith, counts-taken S forms ρ given k)

-- the arguments before one and it take no more than all
pub argument-within : (S : Spec) (forms : Forms) (ρ : TermScope) (given : List Argument) (k : ℕ) (a : Argument) → k < length given → a ≡ get_or given k a
    → operator_counts (all_put_in S forms ρ (tree.terms_of (take k given))) + operator_count (put_in S forms ρ (tree.term_of a.term)) ≤ operator_counts (all_put_in S forms ρ (tree.terms_of given))
argument-within S forms ρ given k a within is =
    let next = ap operator_counts (argument-next S forms ρ given k a within is) in
    let last = counts-last (all_put_in S forms ρ (tree.terms_of (take k given))) (put_in S forms ρ (tree.term_of a.term)) in
    omega (arith, next, last, counts-taken S forms ρ given (k + 1))

pub next-refused : (n k : ℕ) (x : Term) (before whole : Terms) (e : OrMemory UnfoldFault)
    → n ≤ k + operator_counts before → operator_counts before + operator_count x ≤ operator_counts whole
    → IsRefusal k x e → IsRefusalOfAll n whole e
next-refused n k x before whole e left within r = weaker n whole e k x (λ h. omega (arith, h, left, within)) r

-- the truth of the argument behind one more doesn't count
pub behind-last : (b : Bool) (ts : Terms) (x : Term) → false ≡ truth_behind b (with_last ts x)
behind-last b Terms.NoTerms x = refl
behind-last b (Terms.Then t ts) x = refl

terms-last : (xs : List Argument) (a : Argument) → tree.terms_of (xs ++ (a ∷ [])) ≡ with_last (tree.terms_of xs) (tree.term_of a.term)
terms-last [] a = refl
terms-last (x ∷ xs) a = ap (Terms.Then (tree.term_of x.term)) (terms-last xs a)

never-counts : (ts : Terms) → truth_behind false ts ≡ false
never-counts Terms.NoTerms = refl
never-counts (Terms.Then t ts) = refl

folded-last : (S : Spec) (b : Bool) (ts : Terms) (x : Term) → folded_arguments S b (with_last ts x) ≡ with_last (folded_arguments S b ts) (folded S (truth_behind b ts) x)
folded-last S b Terms.NoTerms x = refl
folded-last S b (Terms.Then t ts) x =
    ap (Terms.Then (folded S b t)) (folded-last S false ts x ∙ ap (λ (z : Bool). with_last (folded_arguments S false ts) (folded S z x)) (never-counts ts))

-- arguments with one more behind them
pub with-one-more : (S : Spec) (b : Bool) (n : ℕ) (xs : Terms) (x : Term) (before after : UnfoldedArguments)
    (last : Unfolded) (a : Argument) → AreArguments S b n xs before → IsUnfolded S (truth_behind b xs) before.room x last
    → a.term ≡ last.term → after.arguments.items ≡ before.arguments.items ++ (a ∷ []) → after.room ≡ last.room → AreArguments S b n (with_last xs x) after
with-one-more S b n xs x before after last a h u same items room = record {
  terms = ap tree.terms_of items ∙ terms-last before.arguments.items a ∙ ap (λ t. with_last (tree.terms_of before.arguments.items) (tree.term_of t)) same
      ∙ ap (λ t. with_last (tree.terms_of before.arguments.items) t) u.term ∙ ap (λ ts. with_last ts (folded S (truth_behind b xs) x)) h.terms ∙ sym (folded-last S b xs x);
  room = omega (arith, h.room, u.room, room, counts-last xs x);
}
