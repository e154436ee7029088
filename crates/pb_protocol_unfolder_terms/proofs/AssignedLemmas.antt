-- Arguments that are compared with written values, and copies of assignments by the last of them.
use Rattle.std.proofs.Common.{◌≡◌, ℕ, suc, ◌<◌, ◌++◌, ◌==◌, Bool, true, false, if◌then◌else◌, List, [], ◌∷◌, map, drop, take, length, get_or, Some, None, refl, sym, ◌∙◌, ap, string_bytes, true≢false, not}
use Rattle.std.proofs.Math.Dec.{eqb-suc-zero}
use Rattle.std.specs.List.{slice_get}
use Rattle.pb_text_tree.specs.declared.term.Argument.{Argument}
use Rattle.pb_text_meaning.specs.Syntax.{same_name, Operator, Term, Spec}
use Rattle.pb_protocol_folding.specs.View as tree
use Rattle.pb_protocol_unfolding.specs.PutIn.{Forms, TermScope, all_put_in, choice, put_in}
use Rattle.pb_protocol_unfolding.specs.Unfolding.{Copy, Element, after_copies, is_index, name_of}
use Rattle.pb_protocol_unfolder_terms.specs.declared.copies.AssignmentCopy.{AssignmentCopy}
use Rattle.pb_protocol_unfolder_terms.specs.declared.written.Written.{Written}
use Rattle.pb_protocol_unfolder_terms.specs.Assigned.{copies_of}
use Rattle.pb_protocol_unfolder_terms.specs.AssignmentCopies.{copy_behind, copy_said, scope_in_copy}
use Rattle.pb_protocol_unfolder_terms.specs.Values.{written_term}
use Rattle.pb_protocol_unfolder_terms.proofs.ArgumentLemmas.{taken-more}
use Rattle.pb_protocol_unfolder_terms.proofs.ReadLemmas.{none-not, not-none, some-is}

-- ---- arguments and written values

-- x == k && rest
abbrev pub compared_term : Term → Term → Term → Term
compared_term x k rest = Term.Binary Operator.And (Term.Binary Operator.Equal x k) rest

module _ (S : Spec) (forms : Forms) (ρ : TermScope) where
  abbrev pub comparing : List Argument → List Written → Term
  comparing given vs = is_index (all_put_in S forms ρ (tree.terms_of given)) (map written_term vs)

  -- without arguments
  pub compared-none : (given : List Argument) (vs : List Written) (b : Bool) → None ≡ slice_get given 0 → b ≡ (length vs == 0) → Term.Truth b ≡ comparing given vs
  compared-none [] [] b none e = ap Term.Truth e
  compared-none [] (v ∷ vs) b none e = ap Term.Truth (e ∙ eqb-suc-zero (length vs))
  compared-none (a ∷ given) vs b none e = absurd (none-not a none)

  -- with more arguments than values
  pub compared-unequal : (given : List Argument) (vs : List Written) (a : Argument) → Some a ≡ slice_get given 0 → None ≡ slice_get vs 0 → Term.Truth false ≡ comparing given vs
  compared-unequal [] vs a there none = absurd (not-none a there)
  compared-unequal (b ∷ given) [] a there none = refl
  compared-unequal (b ∷ given) (v ∷ vs) a there none = absurd (none-not v none)

  -- the first argument in front of the others
  pub compared-first : (given : List Argument) (vs : List Written) (a : Argument) (v : Written) → Some a ≡ slice_get given 0 → Some v ≡ slice_get vs 0
      → compared_term (put_in S forms ρ (tree.term_of a.term)) (written_term v) (comparing (drop 1 given) (drop 1 vs)) ≡ comparing given vs
  compared-first [] vs a v there that = absurd (not-none a there)
  compared-first (b ∷ given) [] a v there that = absurd (not-none v that)
  compared-first (b ∷ given) (w ∷ vs) a v there that =
      ap (λ (d : Argument). compared_term (put_in S forms ρ (tree.term_of d.term)) (written_term v) (comparing given vs)) (some-is a b there)
      ∙ ap (λ (u : Written). compared_term (put_in S forms ρ (tree.term_of b.term)) (written_term u) (comparing given vs)) (some-is v w that)

-- ---- copies of assignments

pub not-holds : (b : Bool) → not b ≡ true → b ≡ false
not-holds true e = absurd (true≢false (sym e))
not-holds false e = refl

pub not-fails : (b : Bool) → not b ≡ false → b ≡ true
not-fails true e = refl
not-fails false e = absurd (true≢false e)

said-more : (ρ : TermScope) (bs : List AssignmentCopy) (a : AssignmentCopy) → copies_of (bs ++ (a ∷ [])) ρ ≡ copies_of bs ρ ++ (copy_said ρ (copy_behind a) ∷ [])
said-more ρ [] a = refl
said-more ρ (b ∷ bs) a = ap (λ xs. copy_said ρ (copy_behind b) ∷ xs) (said-more ρ bs a)

module _ (S : Spec) (forms : Forms) (ρ : TermScope) where
  -- what a copy makes of what an element is before, where it is to the element's array or not
  abbrev made_by : Copy → Element → Bool → Term → Term
  made_by c e here before = if here then choice (is_index (all_put_in S forms c.scope c.assignment.index) e.index) (put_in S forms c.scope c.assignment.term) before else before

  after-more : (xs : List Copy) (c : Copy) (e : Element) (x : Term)
      → after_copies S forms (xs ++ (c ∷ [])) e x ≡ made_by c e (same_name c.assignment.variable e.array) (after_copies S forms xs e x)
  after-more [] c e x = refl
  after-more (b ∷ xs) c e x = after-more xs c e (made_by b e (same_name b.assignment.variable e.array) x)

  -- what an element is after these copies
  abbrev pub after : List AssignmentCopy → Element → Term
  after bs e = after_copies S forms (copies_of bs ρ) e (Term.Named (name_of e))

  after-further : (bs : List AssignmentCopy) (k : ℕ) (a : AssignmentCopy) (e : Element) → k < length bs → a ≡ get_or bs k a
      → made_by (copy_said ρ (copy_behind a)) e (same_name (string_bytes a.assignment.now.variable.text) e.array) (after (take k bs) e) ≡ after (take (suc k) bs) e
  after-further bs k a e within is =
      sym (after-more (copies_of (take k bs) ρ) (copy_said ρ (copy_behind a)) e (Term.Named (name_of e)))
      ∙ ap (λ xs. after_copies S forms xs e (Term.Named (name_of e))) (sym (said-more ρ (take k bs) a) ∙ ap (λ cs. copies_of cs ρ) (sym (taken-more bs k a within is)))

  -- the copy at a place is to the element's array
  pub after-same : (bs : List AssignmentCopy) (k : ℕ) (a : AssignmentCopy) (e : Element)
      → k < length bs → a ≡ get_or bs k a → same_name (string_bytes a.assignment.now.variable.text) e.array ≡ true
      → after (take (suc k) bs) e
      ≡ choice (is_index (all_put_in S forms (scope_in_copy ρ (copy_behind a)) (tree.terms_of a.assignment.now.index.items)) e.index)
      (put_in S forms (scope_in_copy ρ (copy_behind a)) (tree.term_of a.assignment.now.value.term)) (after (take k bs) e)
  after-same bs k a e within is same =
      sym (after-further bs k a e within is) ∙ ap (λ (b : Bool). made_by (copy_said ρ (copy_behind a)) e b (after (take k bs) e)) same

  -- to another one
  pub after-other : (bs : List AssignmentCopy) (k : ℕ) (a : AssignmentCopy) (e : Element)
      → k < length bs → a ≡ get_or bs k a → same_name (string_bytes a.assignment.now.variable.text) e.array ≡ false
      → after (take (suc k) bs) e ≡ after (take k bs) e
  after-other bs k a e within is other =
      sym (after-further bs k a e within is) ∙ ap (λ (b : Bool). made_by (copy_said ρ (copy_behind a)) e b (after (take k bs) e)) other
