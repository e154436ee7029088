-- The examples: of self-reference the only instance is 0, and so the least of each cycle.
use Rattle.std.proofs.Common.{◌≡◌, ℕ, Bool, true, false, List, [], ◌∷◌, inl, inr, refl, sym, ap, ◌∙◌, subst, arith}
use Rattle.std.specs.Prelude.{Contains}
use Rattle.std.proofs.lemmas.Bool.{true≢false}
use Rattle.std.proofs.lemmas.List.Elements.{Contains-append_left}
use Rattle.pb_fixpoint_trees.specs.Tree.{tree_truth}
use Rattle.pb_fixpoint_trees.specs.Equations.{Signature}
use Rattle.pb_fixpoint_trees.specs.Examples.{mu, nu}
use Rattle.pb_fixpoint_trees.proofs.Members.{among_of_contains, contains_of_among}
use Rattle.pb_evidence.specs.ProofGraphs.{RestsThrough, exactly, sign_from, least_of, dominating_sign, supporting, IsProofGraph}
use Rattle.pb_evidence.specs.Examples.{itself, loop, ProvedSelfReference, either, OneOfTwo}
use Rattle.pb_evidence.specs.Supports.{HaveSame, IsSupport}
use Rattle.pb_evidence.proofs.Signs.{in_graph, least_below}
use Rattle.pb_evidence.proofs.Proving.{proof_graphs_prove}

abbrev zeros : List ℕ
zeros = 0 ∷ []

here : Contains zeros 0
here = contains_of_among zeros 0 (inl refl)

only : (n : ℕ) → Contains zeros n → n ≡ 0
only n h = elim (among_of_contains zeros n h) [ inl e ↦ sym e | inr none ↦ absurd none ]

-- one equation with one instance
module _ (s : Signature) (size : s.size ≡ 1) (b : Bool) (sign : s.sign ≡ supporting b)
    (sufficient : tree_truth (exactly b zeros) (itself 0) ≡ b) where
  least_sign : (n : ℕ) (over : List ℕ) → RestsThrough loop n over n → dominating_sign (s ∷ []) n over ≡ s.sign
  least_sign n over h =
      let zero_is = only n (in_graph loop n over n h) in
      let low = least_below n over in
      let least : least_of n over ≡ 0 = omega arith in
      ap (sign_from 0 (s ∷ [])) least ∙ first
    where
      first : sign_from 0 (s ∷ []) 0 ≡ s.sign
      first = rw size refl

  is_graph : IsProofGraph (s ∷ []) itself b loop
  is_graph = record {
    below = λ n h. let zero_is = only n h in omega arith;
    closed = λ n m h. h.1;
    sufficient = λ n h. subst (λ k. tree_truth (exactly b zeros) (itself k) ≡ b) (sym (only n h)) sufficient;
    cycles = λ n over h. least_sign n over h ∙ sign;
  }

pub self_reference : ProvedSelfReference
self_reference = record {
  greatest = is_graph (nu 1) refl true refl refl;
  greatest_isnt_false = λ is. true≢false (proof_graphs_prove (nu 1 ∷ []) itself false loop is 0 here);
  least = is_graph (mu 1) refl false refl refl;
  least_isnt_true = λ is. true≢false (sym (proof_graphs_prove (mu 1 ∷ []) itself true loop is 0 here));
  not_without = λ is. true≢false (sym (is.sufficient 0 here));
}

-- ---- one of two

same : (xs : List ℕ) → HaveSame xs xs
same xs m = (λ h. h, λ h. h)

-- an element of a list that stands for another list
element_of : (named calls xs : List ℕ) (m : ℕ) → HaveSame named calls → named ≡ xs → Contains calls m → Contains xs m
element_of named calls xs m have is h = subst (λ (ys : List ℕ). Contains ys m) is ((have m).1 h)

no_one : Contains zeros 1 → ⊥
no_one h = elim (among_of_contains zeros 1 h) [ inl e ↦ omega arith | inr none ↦ absurd none ]

no_zero : Contains {X = ℕ} (1 ∷ []) 0 → ⊥
no_zero h = elim (among_of_contains (1 ∷ []) 0 h) [ inl e ↦ omega arith | inr none ↦ absurd none ]

abbrev zero_one : List ℕ
zero_one = 0 ∷ (1 ∷ [])

turned : HaveSame zero_one (1 ∷ (0 ∷ []))
turned m = (
  λ h. contains_of_among (1 ∷ (0 ∷ [])) m (elim (among_of_contains zero_one m h) [
    | inl e ↦ inr (inl e)
    | inr later ↦ elim later [ inl e ↦ inl e | inr none ↦ absurd none ]
  ]),
  λ h. contains_of_among zero_one m (elim (among_of_contains (1 ∷ (0 ∷ [])) m h) [
    | inl e ↦ inr (inl e)
    | inr later ↦ elim later [ inl e ↦ inl e | inr none ↦ absurd none ]
  ]),
)

not_both : ¬ IsSupport true either zero_one
not_both is =
    let zero_in : Contains zero_one 0 = contains_of_among zero_one 0 (inl refl) in
    let one_in : Contains zero_one 1 = contains_of_among zero_one 1 (inr (inl refl)) in
    elim is.1 [
      | inl first ↦ no_one (element_of is.0 zero_one zeros 1 is.2 first one_in)
      | inr later ↦ elim later [
        | inl second ↦ no_zero (element_of is.0 zero_one (1 ∷ []) 0 is.2 second zero_in)
        | inr none ↦ absurd (true≢false (sym none.0))
      ]
    ]

-- the calls of both are those of the first and more
not_one : ¬ IsSupport false either (1 ∷ [])
not_one is =
    let named = is.0 in
    let parts = is.1 in
    let zero_named : Contains named 0 =
    subst (λ (ys : List ℕ). Contains ys 0) (sym parts.4)
    (Contains-append_left parts.0 parts.1 0 (subst (λ (ys : List ℕ). Contains ys 0) (sym parts.2) (contains_of_among (0 ∷ []) 0 (inl refl)))) in
    no_zero ((is.2 0).0 zero_named)

pub one_of_two : OneOfTwo
one_of_two = record {
  one = (1 ∷ [], inr (inl refl), same (1 ∷ []));
  not_both = not_both;
  both = (zero_one, (0 ∷ [], 1 ∷ [], refl, (1 ∷ [], [], refl, (refl, refl), refl), refl), turned);
  not_one = not_one;
}
