-- Data below val: what its quantifiers take, and that there are none where none may stand.
use Rattle.std.proofs.Common.{◌≡◌, ℕ, ◌+◌, Bool, true, false, cond, ◌||◌, List, [], ◌∷◌, ◌++◌, length, refl, sym, ◌∙◌, ap, arith}
use Rattle.std.proofs.lemmas.Bool.{or_parts}
use Rattle.std.proofs.lemmas.List.{append-nil}
use Rattle.pb_sorts.specs.declared.carrier.Carrier.{Carrier}
use Rattle.pb_text_tree.specs.declared.operator.Connective.{Connective}
use Rattle.pb_text_tree.specs.declared.operator.Connective.TheVariants.{And, Or, Implies}
use Rattle.pb_text_tree.specs.declared.term.TermLink.{TermLink}
use Rattle.pb_text_tree.specs.Form as form
use Rattle.pb_text_tree.specs.Form.{TermForm, ArgumentForms, no_arguments, argument, term_form, term_links}
use Rattle.pb_text_meaning.specs.Syntax as syntax
use Rattle.pb_text_meaning.specs.Syntax.{Spec}
use Rattle.pb_text_meaning.specs.Erase.{erased_arguments, erased_term, of_connective, joined}
use Rattle.pb_typing_declarations.specs.Entries.{shapes_of}
use Rattle.pb_typing_declarations.specs.Shapes.{Shape}
use Rattle.pb_typing_declarations.proofs.Parts.{no_parts}
use Rattle.pb_typing_rules.specs.Faults.{term_faults, terms_faults}
use Rattle.pb_typing_rules.specs.Scope.{Scope}
use Rattle.pb_typing_tree.specs.Expansion.{has_quantifier, have_quantifier, expanded_term}
use Rattle.pb_typing_tree.specs.Loops.{loops}
use Rattle.pb_typing_tree.specs.Elaboration.{Slotting, width}
use Rattle.pb_typing_tree.specs.View.{chained_formula}
use Rattle.pb_typing.specs.Tree.{operand_terms}
use Rattle.pb_typing.specs.Value.{term_value, term_values}
use Rattle.pb_typing.specs.Value as values
use Rattle.pb_typing.specs.ValueLinks.{operand, value_loops}
use Rattle.pb_typing.proofs.LoopCount.{length-loops}
use Rattle.pb_typing_nodes.proofs.SlotLemmas.{length_behind}
use Rattle.pb_typing.proofs.ValueChains.{chain, chain-value, plain-expanded, split}

-- ---- no quantifier stands where none may

neither : (a b : Bool) → a ≡ false → b ≡ false → (a || b) ≡ false
neither a b e f = ap (λ (c : Bool). c || b) e ∙ f

mutual
  pub no_quantifier : (S : Spec) (a : Scope) (x : TermForm) → term_faults S false a x ≡ [] → has_quantifier (erased_term x) ≡ false
  no_quantifier S a (TermForm.constant p b) h = refl
  no_quantifier S a (TermForm.number p n) h = refl
  no_quantifier S a (TermForm.name x) h = refl
  no_quantifier S a (TermForm.not p x) h = no_quantifier S a x (no_parts (term_faults S false a x) _ h).0
  no_quantifier S a (TermForm.negative p x) h = no_quantifier S a x (no_parts (term_faults S false a x) _ h).0
  no_quantifier S a (TermForm.connected c p x y) h =
      let q = no_parts (term_faults S false a x) _ h in
      let r = no_parts _ _ q.1 in
      neither _ _ (no_quantifier S a x q.0) (no_quantifier S a y (no_parts (term_faults S false a y) _ r.1).0)
  no_quantifier S a (TermForm.compared c p x y) h =
      let q = no_parts (term_faults S false a x) _ h in
      neither _ _ (no_quantifier S a x q.0) (no_quantifier S a y (no_parts (term_faults S false a y) _ q.1).0)
  no_quantifier S a (TermForm.computed o p x y) h =
      let q = no_parts (term_faults S false a x) _ h in
      neither _ _ (no_quantifier S a x q.0) (no_quantifier S a y (no_parts (term_faults S false a y) _ q.1).0)
  no_quantifier S a (TermForm.application f xs) h = none_quantified S a xs (no_parts (terms_faults S a xs) _ h).0
  no_quantifier S a (TermForm.quantified q p xs x) h = absurd (cc)

  none_quantified : (S : Spec) (a : Scope) (xs : ArgumentForms) → terms_faults S a xs ≡ [] → have_quantifier (erased_arguments xs) ≡ false
  none_quantified S a no_arguments h = refl
  none_quantified S a (argument p x xs) h =
      let q = no_parts (term_faults S false a x) _ h in
      neither _ _ (no_quantifier S a x q.0) (none_quantified S a xs q.1)

-- ---- what quantifiers take

pub joined-loops : (S : Spec) (o : Connective) (f g : syntax.Formula) → loops S (joined o f g) ≡ loops S f ++ loops S g
joined-loops S And f g = refl
joined-loops S Or f g = refl
joined-loops S Implies f g = refl

-- as many slots as the width says
pub grown : (S : Spec) (f : syntax.Formula) (old new : List Carrier) → shapes_of new ≡ shapes_of old ++ loops S f → length new ≡ length old + width f
grown S f old new e = omega (arith, length_behind old new (loops S f) e, length-loops S f)

-- what has no quantifier takes no slot
pub plain-loops : (S : Spec) (x : syntax.Term) → has_quantifier x ≡ false → loops S (expanded_term x) ≡ []
plain-loops S x h = ap (loops S) (plain-expanded x h)

pub plain_grows : (S : Spec) (x : syntax.Term) (old : List Carrier) → has_quantifier x ≡ false → shapes_of old ≡ shapes_of old ++ loops S (expanded_term x)
plain_grows S x old h = sym (ap (λ (ss : List Shape). shapes_of old ++ ss) (plain-loops S x h) ∙ append-nil (shapes_of old))

-- a negation takes what its operand takes
pub negated-loops : (S : Spec) (x : syntax.Term) → loops S (expanded_term (syntax.Term.Not x)) ≡ loops S (expanded_term x)
negated-loops S x = by_test (has_quantifier x) refl
  where
    by_test : (b : Bool) → has_quantifier x ≡ b → loops S (cond b (syntax.Formula.Not (expanded_term x)) (syntax.Formula.Val (syntax.Term.Not x))) ≡ loops S (expanded_term x)
    by_test true e = refl
    by_test false e = sym (plain-loops S x e)

-- ---- chains

abbrev chain_form : Connective → TermForm → List TermLink → syntax.Term
chain_form o first links = erased_term (form.chained (TermForm.connected o) first (term_links links))

pub form-loops : (S : Spec) (o : Connective) (first : TermForm) (links : List TermLink)
    → loops S (expanded_term (chain_form o first links)) ≡ loops S (expanded_term (erased_term first)) ++ value_loops S links
form-loops S o first [] = sym (append-nil (loops S (expanded_term (erased_term first))))
form-loops S o first (l ∷ ls) =
    by_test (has_quantifier (erased_term first) || has_quantifier (chain_form o (term_form l.operand) ls)) refl (form-loops S o (term_form l.operand) ls)
  where
    by_test : (b : Bool) → (has_quantifier (erased_term first) || has_quantifier (chain_form o (term_form l.operand) ls)) ≡ b
        → loops S (expanded_term (chain_form o (term_form l.operand) ls)) ≡ loops S (operand l) ++ value_loops S ls
        → loops S (expanded_term (chain_form o first (l ∷ ls))) ≡ loops S (expanded_term (erased_term first)) ++ value_loops S (l ∷ ls)
    by_test true e rest =
        ap (loops S) (split o (erased_term first) (chain_form o (term_form l.operand) ls) e)
        ∙ (joined-loops S o (expanded_term (erased_term first)) (expanded_term (chain_form o (term_form l.operand) ls))
        ∙ ap (λ (ss : List Shape). loops S (expanded_term (erased_term first)) ++ ss) rest)
    by_test false e rest =
        let none = or_parts (has_quantifier (erased_term first)) (has_quantifier (chain_form o (term_form l.operand) ls)) e in
        let whole : loops S (expanded_term (chain_form o first (l ∷ ls))) ≡ [] =
        ap (loops S)
        (plain-expanded (syntax.Term.Binary (of_connective o) (erased_term first) (chain_form o (term_form l.operand) ls)) e) in
        let others : value_loops S (l ∷ ls) ≡ [] = sym rest ∙ plain-loops S (chain_form o (term_form l.operand) ls) none.1 in
        whole ∙ sym (ap (λ (ss : List Shape). ss ++ value_loops S (l ∷ ls)) (plain-loops S (erased_term first) none.0) ∙ others)

form-chain : (o : Connective) (first : TermForm) (links : List TermLink) → chain_form o first links ≡ chain o (erased_term first) (operand_terms links)
form-chain o first [] = refl
form-chain o first (l ∷ ls) = ap (syntax.Term.Binary (of_connective o) (erased_term first)) (form-chain o (term_form l.operand) ls)

-- the value of a chain is its operands' values joined
pub form-value : (S : Spec) (c : Slotting) (a : Scope) (o : Connective) (first : TermForm) (links : List TermLink) (n : ℕ)
    → term_value S c a n (chain_form o first links)
    ≡ chained_formula (values.joined o) (term_value S c a n (erased_term first))
    (term_values S c a (n + width (expanded_term (erased_term first))) (operand_terms links))
form-value S c a o first links n = ap (term_value S c a n) (form-chain o first links) ∙ chain-value S c a o (erased_term first) (operand_terms links) n
