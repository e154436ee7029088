-- Unfolding keeps words: elements have them, and terms that are put in for names.
use Rattle.std.proofs.Common.{◌≡◌, ℕ, Bool, true, false, true≢false, if◌then◌else◌, ◌⊎◌, inl, inr, List, [], ◌∷◌, ◌++◌, map, flat_map, refl, sym, ap, subst, arith}
use Rattle.std.specs.Prelude.{Option, Some, None, codes, ◌&&◌, decimal, nat_eq}
use Rattle.std.specs.List.{list_all}
use Rattle.std.proofs.lemmas.Bool.{or_cases}
use Rattle.std.proofs.lemmas.Bool.Decides.{nat_tests}
use Rattle.pb_text_lexer.specs.Bytes.{word_kind, is_name_byte}
use Rattle.pb_text_tree.specs.declared.operator.Quantifier.{Quantifier}
use Rattle.pb_text_tree.specs.declared.operator.Quantifier.TheVariants.{Forall, Exists}
use Rattle.pb_text_counting.specs.Counting.{is_counting}
use Rattle.pb_text_meaning.specs.Syntax.{Name, same_name, Variable, Term, Terms, Operator, Spec}
use Rattle.pb_text_meaning.specs.Sorts.{place_in}
use Rattle.pb_text_printer.specs.Sayable.{Each}
use Rattle.pb_model_meaning.specs.Syntax as flat
use Rattle.pb_protocol_meaning.specs.Syntax.{StateVariable, Definition, Step, Formula, Protocol}
use Rattle.pb_protocol_meaning.specs.Syntax as protocol
use Rattle.pb_protocol_meaning.specs.Steps.{data_of}
use Rattle.pb_model_spelling.specs.Writable.{IsWord, VariableWritable, TermWritable, AllWritable, SomeWritable, ModalWritable, ModelWritable}
use Rattle.pb_model_spelling.specs.Writable as model
use Rattle.pb_model_spelling.specs.Protocols.{DataWritable, AllDataWritable, SomeDataWritable, FormulaWritable, StateVariableWritable, DefinitionWritable, AssignmentWritable, StepWritable, ProtocolWritable}
use Rattle.pb_protocol_unfolding.specs.Written.{written_values, written_tuples, same_negative, same_written, is_written, spelled, element}
use Rattle.pb_protocol_folding.proofs.FoldedModels.{same-names}
use Rattle.pb_protocol_unfolding.specs.PutIn.{TermScope, term_of, standing, Forms, no_forms, joined, copies, enumerator_term, named_term, given_arguments, applied_term, put_in, all_put_in, count_put_in, count_of_put_in, one_if, added, counted, choice, choices, chosen, are_as_many, read, reads, with_definition, with_definitions}
use Rattle.pb_protocol_unfolding.specs.Unfolding.{Element, name_of, variable_of, elements_of, all_elements, forms_of, unfolded_term, terms_of, written, is_index, Copy, copies_of, all_copies, after_copies, forms_at_start, unfolded_assignment, Instance, instances_of, instances, is_whole, own_left, own_scope, own_terms, whole_step, with_own, unfolded_step, joined_formulas, unfolded_formula, unfolded_initial, unfolded}
use Rattle.pb_protocol_laws.proofs.Words.{spelled_word}
use Rattle.pb_protocol_laws.proofs.Spelled.{IsSpelled, SortsWritable, values-spelled, element-word, element_of-word}

pub if-word : IsWord (codes "if")
unfolding word_kind
if-word = spelled_word (codes "if") refl refl

-- ---- lists

pub both : {A : Type 0} (P : A → Type 0) (xs ys : List A) → Each P xs → Each P ys → Each P (xs ++ ys)
both P [] ys h k = k
both P (x ∷ xs) ys h k = (h.0, both P xs ys h.1 k)

mapped : {A B : Type 0} (P : A → Type 0) (Q : B → Type 0) (f : A → B) (xs : List A) → ((x : A) → P x → Q (f x)) → Each P xs → Each Q (map f xs)
mapped P Q f [] g h = tt
mapped P Q f (x ∷ xs) g h = (g x h.0, mapped P Q f xs g h.1)

flat-mapped : {A B : Type 0} (P : A → Type 0) (Q : B → Type 0) (f : A → List B) (xs : List A) → ((x : A) → P x → Each Q (f x)) → Each P xs → Each Q (flat_map f xs)
flat-mapped P Q f [] g h = tt
flat-mapped P Q f (x ∷ xs) g h = both Q (f x) (flat_map f xs) (g x h.0) (flat-mapped P Q f xs g h.1)

-- ---- what stands for names

abbrev pub FoundTerm : Option Term → Type 0
FoundTerm None = Unit {0}
FoundTerm (Some t) = TermWritable t

abbrev BoundWritable : (Name × Term) → Type 0
BoundWritable b = TermWritable b.1

abbrev ScopeWritable : TermScope → Type 0
ScopeWritable ρ = Each BoundWritable ρ

abbrev FormsWritable : Forms → Type 0
FormsWritable forms = (x : Name) (ts : Terms) → IsWord x → AllWritable ts → FoundTerm (forms x ts)

term-found : (ρ : TermScope) (x : Name) → ScopeWritable ρ → FoundTerm (term_of ρ x)
term-found [] x h = tt
term-found ((y, t) ∷ ρ) x h = by (same_name y x) (term-found ρ x h.1)
  where
    by : (b : Bool) → FoundTerm (term_of ρ x) → FoundTerm (if b then Some t else term_of ρ x)
    by true later = h.0
    by false later = later

standing-writable : (xs : List Variable) (ts : Terms) (ρ : TermScope) → AllWritable ts → ScopeWritable ρ → ScopeWritable (standing xs ts ρ)
standing-writable [] ts ρ h k = k
standing-writable (x ∷ xs) Terms.NoTerms ρ h k = k
standing-writable (x ∷ xs) (Terms.Then t ts) ρ h k = standing-writable xs ts ((x.name, t) ∷ ρ) h.1 (h.0, k)

terms-writable : (ks : List Term) → Each TermWritable ks → AllWritable (terms_of ks)
terms-writable [] h = tt
terms-writable (k ∷ ks) h = (h.0, terms-writable ks h.1)

spelled-writable : (ks : List Term) → Each IsSpelled ks → Each TermWritable ks
spelled-writable [] h = tt
spelled-writable (k ∷ ks) h = (h.0.0, spelled-writable ks h.1)

written-writable : (xs : List Variable) (ks : List Term) → Each IsSpelled ks → ScopeWritable (written xs ks)
written-writable xs ks h = standing-writable xs (terms_of ks) [] (terms-writable ks (spelled-writable ks h)) tt

-- the own variables of a step are words
themselves-writable : (xs : List Variable) → Each VariableWritable xs → Each TermWritable (own_terms true xs [])
themselves-writable [] h = tt
themselves-writable (x ∷ xs) h = (h.0.0, themselves-writable xs h.1)

-- and so is what they stand for
own-writable : (b : Bool) (xs : List Variable) (ks : List Term) → Each VariableWritable xs → Each IsSpelled ks → ScopeWritable (written xs (own_terms b xs ks))
own-writable true xs ks h s = standing-writable xs (terms_of (own_terms true xs [])) [] (terms-writable (own_terms true xs []) (themselves-writable xs h)) tt
own-writable false xs ks h s = written-writable xs ks s

left-writable : (b : Bool) (xs : List Variable) → Each VariableWritable xs → Each VariableWritable (own_left b xs)
left-writable true xs h = h
left-writable false xs h = tt

-- ---- terms

joined-writable : (q : Quantifier) (ts : List Term) → Each TermWritable ts → TermWritable (joined q ts)
joined-writable Forall [] h = tt
joined-writable Exists [] h = tt
joined-writable Forall (t ∷ ts) h = (h.0, joined-writable Forall ts h.1)
joined-writable Exists (t ∷ ts) h = (h.0, joined-writable Exists ts h.1)

-- 1 for each of these that is true
one-writable : (t : Term) → TermWritable t → TermWritable (one_if t)
one-writable t h = (if-word, (h, (omega arith, (omega arith, tt))))

added-writable : (x : Term) (ts : List Term) → TermWritable x → Each TermWritable ts → TermWritable (added x ts)
added-writable x [] h k = h
added-writable x (t ∷ ts) h k = added-writable (Term.Binary Operator.Plus x (one_if t)) ts (h, one-writable t k.0) k.1

counted-writable : (ts : List Term) → Each TermWritable ts → TermWritable (counted ts)
counted-writable [] h = omega arith
counted-writable (t ∷ ts) h = added-writable (one_if t) ts (one-writable t h.0) h.1

-- what counts, or else what is applied by a word
either-writable : (b : Bool) (t u : Term) (W : Type 0) → W ⊎ (b ≡ true) → TermWritable t → (W → TermWritable u) → TermWritable (if b then t else u)
either-writable true t u W h counts applies = counts
either-writable false t u W (inl w) counts applies = applies w
either-writable false t u W (inr e) counts applies = absurd (true≢false (sym e))

enumerator-writable : (o : Option ℕ) (x : Name) → IsWord x → TermWritable (enumerator_term o x)
enumerator-writable (Some n) x h = h
enumerator-writable None x h = omega arith

named-writable : (spec : Spec) (t form : Option Term) (x : Name) → FoundTerm t → FoundTerm form → IsWord x → TermWritable (named_term spec t form x)
named-writable spec (Some t) form x h k w = h
named-writable spec None (Some t) x h k w = k
named-writable spec None None x h k w = enumerator-writable (place_in (λ e. same_name e.name x) spec.sorts) x w

given-writable : (forms : Forms) (f : Name) (t : Term) (ts : Terms) → FormsWritable forms → IsWord f → AllWritable (Terms.Then t ts) → FoundTerm (given_arguments forms f (Terms.Then t ts))
given-writable forms f t ts h w k = h f (Terms.Then t ts) w k

applied-writable : (o : Option Term) (f : Name) (ts : Terms) → FoundTerm o → IsWord f → SomeWritable ts → TermWritable (applied_term o f ts)
applied-writable (Some t) f ts h w k = h
applied-writable None f ts h w k = (w, k)

-- ---- what is written

same-number : (m n : ℕ) → nat_eq m n ≡ true → m ≡ n
same-number m n e = grind (arith, nat_tests)

negative-same : (x y : Term) → same_negative x y ≡ true → spelled (Term.Negative x) ≡ spelled (Term.Negative y)
negative-same (Term.Number m) (Term.Number n) e = ap (λ n. codes "m" ++ decimal n) (same-number m n e)
negative-same x y e = absurd (true≢false (sym e))

spelled-same : (t k : Term) → same_written t k ≡ true → spelled t ≡ spelled k
spelled-same (Term.Truth true) (Term.Truth true) e = refl
spelled-same (Term.Truth true) (Term.Truth false) e = absurd (true≢false (sym e))
spelled-same (Term.Truth false) (Term.Truth true) e = absurd (true≢false (sym e))
spelled-same (Term.Truth false) (Term.Truth false) e = refl
spelled-same (Term.Number m) (Term.Number n) e = ap decimal (same-number m n e)
spelled-same (Term.Negative x) (Term.Negative y) e = negative-same x y e
spelled-same (Term.Named x) (Term.Named y) e = same-names x y e
spelled-same x y e = absurd (true≢false (sym e))

-- a term that is a written value is spelled as that one is
found-spelled : (t : Term) (ks : List Term) → Each IsSpelled ks → is_written t ks ≡ true → list_all is_name_byte (spelled t) ≡ true
found-spelled t [] s e = absurd (true≢false (sym e))
found-spelled t (k ∷ ks) s e =
    elim (or_cases (same_written t k) (is_written t ks) e) [
      | inl here ↦ subst (λ u. list_all is_name_byte u ≡ true) (sym (spelled-same t k here)) s.0.1
      | inr later ↦ found-spelled t ks s.1 later
    ]

module _ (spec : Spec) (sorts : SortsWritable spec) where
  copies-each : {A : Type 0} (P : A → Type 0) (xs : List Variable) (f : TermScope → A) → ((σ : TermScope) → ScopeWritable σ → P (f σ)) → (ρ : TermScope) → ScopeWritable ρ →
      Each P (copies spec xs f ρ)
  copies-each P [] f h ρ k = (h ρ k, tt)
  copies-each P (x ∷ xs) f h ρ k =
      flat-mapped IsSpelled P (λ t. copies spec xs f ((x.name, t) ∷ ρ)) (written_values spec x.sort)
      (λ t s. copies-each P xs f h ((x.name, t) ∷ ρ) (s.0, k)) (values-spelled spec x.sort sorts)

  pub tuples-spelled : (xs : List Variable) → Each (Each IsSpelled) (written_tuples spec xs)
  tuples-spelled [] = (tt, tt)
  tuples-spelled (x ∷ xs) =
      flat-mapped IsSpelled (Each IsSpelled) (λ k. map (λ (ks : List Term). k ∷ ks) (written_tuples spec xs)) (written_values spec x.sort)
      (λ k s. mapped (Each IsSpelled) (Each IsSpelled) (λ (ks : List Term). k ∷ ks) (written_tuples spec xs) (λ ks each. (s, each)) (tuples-spelled xs))
      (values-spelled spec x.sort sorts)

  module _ (forms : Forms) (known : FormsWritable forms) where
    mutual
      pub put-in-writable : (x : Term) (ρ : TermScope) → ScopeWritable ρ → DataWritable x → TermWritable (put_in spec forms ρ x)
      put-in-writable (Term.Truth b) ρ k h = tt
      put-in-writable (Term.Number n) ρ k h = h
      put-in-writable (Term.Named x) ρ k h = named-writable spec (term_of ρ x) (forms x Terms.NoTerms) x (term-found ρ x k) (known x Terms.NoTerms h tt) h
      put-in-writable (Term.Not x) ρ k h = put-in-writable x ρ k h
      put-in-writable (Term.Negative x) ρ k h = put-in-writable x ρ k h
      put-in-writable (Term.Binary o x y) ρ k h = (put-in-writable x ρ k h.0, put-in-writable y ρ k h.1)
      put-in-writable (Term.Apply f xs) ρ k h =
          either-writable (is_counting f) (count_put_in spec forms ρ xs) (applied_term (given_arguments forms f (all_put_in spec forms ρ xs)) f (all_put_in spec forms ρ xs)) (IsWord f) h.0
          (count-writable xs ρ k h.1) (λ w. apply-writable f xs ρ k w h.1)
      put-in-writable (Term.Quantified q xs x) ρ k h =
          joined-writable q (copies spec xs (λ σ. put_in spec forms σ x) ρ)
          (copies-each TermWritable xs (λ σ. put_in spec forms σ x) (λ σ s. put-in-writable x σ s h.1) ρ k)

      pub all-put-in-writable : (xs : Terms) (ρ : TermScope) → ScopeWritable ρ → AllDataWritable xs → AllWritable (all_put_in spec forms ρ xs)
      all-put-in-writable Terms.NoTerms ρ k h = tt
      all-put-in-writable (Terms.Then x xs) ρ k h = (put-in-writable x ρ k h.0, all-put-in-writable xs ρ k h.1)

      apply-writable : (f : Name) (xs : Terms) (ρ : TermScope) → ScopeWritable ρ → IsWord f → SomeDataWritable xs
          → TermWritable (applied_term (given_arguments forms f (all_put_in spec forms ρ xs)) f (all_put_in spec forms ρ xs))
      apply-writable f Terms.NoTerms ρ k w h = absurd h
      apply-writable f (Terms.Then x xs) ρ k w h =
          let all : AllWritable (all_put_in spec forms ρ (Terms.Then x xs)) = (put-in-writable x ρ k h.0, all-put-in-writable xs ρ k h.1) in
          applied-writable (given_arguments forms f (all_put_in spec forms ρ (Terms.Then x xs))) f (all_put_in spec forms ρ (Terms.Then x xs))
          (known f (all_put_in spec forms ρ (Terms.Then x xs)) w all) w all

      count-writable : (xs : Terms) (ρ : TermScope) → ScopeWritable ρ → SomeDataWritable xs → TermWritable (count_put_in spec forms ρ xs)
      count-writable Terms.NoTerms ρ k h = absurd h
      count-writable (Terms.Then x xs) ρ k h = count-of-writable x ρ k h.0

      count-of-writable : (x : Term) (ρ : TermScope) → ScopeWritable ρ → DataWritable x → TermWritable (count_of_put_in spec forms ρ x)
      count-of-writable (Term.Quantified q xs x) ρ k h =
          counted-writable (copies spec xs (λ σ. put_in spec forms σ x) ρ)
          (copies-each TermWritable xs (λ σ. put_in spec forms σ x) (λ σ s. put-in-writable x σ s h.1) ρ k)
      count-of-writable _ ρ k h = omega arith

  -- ---- state variables

  choices-writable : (f : Term → Term) (t : Term) (ks : List Term) → ((k : Term) → IsSpelled k → TermWritable (f k)) → TermWritable t → Each IsSpelled ks → TermWritable (choices f t ks)
  choices-writable f t [] g h s = omega arith
  choices-writable f t (k ∷ []) g h s = (if-word, (((h, s.0.0), tt), (g k s.0, (omega arith, tt))))
  choices-writable f t (k ∷ l ∷ ks) g h s = (if-word, ((h, s.0.0), (g k s.0, (choices-writable f t (l ∷ ks) g h s.1, tt))))

  chosen-writable : (f : Term → Term) (t : Term) (ks : List Term) → ((k : Term) → TermWritable k → (list_all is_name_byte (spelled k) ≡ true) → TermWritable (f k)) →
      TermWritable t → Each IsSpelled ks → TermWritable (chosen f t ks)
  chosen-writable f t ks g h s = by ks s (is_written t ks) refl
    where
      by : (ls : List Term) → Each IsSpelled ls → (b : Bool) → is_written t ls ≡ b → TermWritable (if b then f t else choices f t ls)
      by ls s true e = g t h (found-spelled t ls s e)
      by ls s false e = choices-writable f t ls (λ k s. g k s.0 s.1) h s

  read-writable : (is : List Variable) (x : Name) (ts : Terms) → IsWord x → AllWritable ts → TermWritable (read spec x is ts)
  read-writable [] x ts w h = w
  read-writable (i ∷ is) x Terms.NoTerms w h = omega arith
  read-writable (i ∷ is) x (Terms.Then t ts) w h =
      chosen-writable (λ k. read spec (element x k) is ts) t (written_values spec i.sort)
      (λ k s e. read-writable is (element x k) ts (element-word x k w (s, e)) h.1) h.0 (values-spelled spec i.sort sorts)

  reads-writable : (ys : List StateVariable) → Each StateVariableWritable ys → FormsWritable (reads spec ys)
  reads-writable [] h x ts w k = tt
  reads-writable (y ∷ ys) h x ts w k = by (same_name y.name x && are_as_many y.indices ts) (reads-writable ys h.1 x ts w k)
    where
      by : (b : Bool) → FoundTerm (reads spec ys x ts) → FoundTerm (if b then Some (read spec y.name y.indices ts) else reads spec ys x ts)
      by true later = read-writable y.indices y.name ts h.0.0 k
      by false later = later

  -- ---- definitions

  definition-writable : (forms : Forms) (d : Definition) → FormsWritable forms → DefinitionWritable d → FormsWritable (with_definition spec forms d)
  definition-writable forms d known h x ts w k = by (same_name d.name x && are_as_many d.parameters ts)
    where
      by : (b : Bool) → FoundTerm (if b then Some (put_in spec forms (standing d.parameters ts []) d.term) else forms x ts)
      by true = put-in-writable forms known d.term (standing d.parameters ts []) (standing-writable d.parameters ts [] k tt) h.2
      by false = known x ts w k

  definitions-writable : (ds : List Definition) (forms : Forms) → FormsWritable forms → Each DefinitionWritable ds → FormsWritable (with_definitions spec forms ds)
  definitions-writable [] forms known h = known
  definitions-writable (d ∷ ds) forms known h = definitions-writable ds (with_definition spec forms d) (definition-writable forms d known h.0) h.1

-- ---- the model

module _ (m : Protocol) (h : ProtocolWritable m) where
  sorts : SortsWritable (data_of m)
  sorts = record { sorts = h.sorts; ranges = h.ranges }

  known : FormsWritable (forms_of m)
  known =
      definitions-writable (data_of m) sorts m.definitions (reads (data_of m) m.variables)
      (reads-writable (data_of m) sorts m.variables h.variables) h.definitions

  term-writable : (x : Term) (ρ : TermScope) → ScopeWritable ρ → DataWritable x → TermWritable (unfolded_term m ρ x)
  term-writable x ρ k w = put-in-writable (data_of m) sorts (forms_of m) known x ρ k w

  -- an element's name and sort are words, and its index is spelled
  abbrev ElementWritable : Element → Type 0
  ElementWritable e = IsWord e.array × Each IsSpelled e.index × IsWord e.sort

  elements-writable : Each ElementWritable (all_elements m)
  elements-writable =
      flat-mapped StateVariableWritable ElementWritable (elements_of (data_of m)) m.variables
      (λ y w. mapped (Each IsSpelled) ElementWritable (λ (ks : List Term). record { array = y.name; index = ks; sort = y.sort }) (written_tuples (data_of m) y.indices)
      (λ ks s. (w.0, s, w.2)) (tuples-spelled (data_of m) sorts y.indices))
      h.variables

  element-named : (e : Element) → ElementWritable e → IsWord (name_of e)
  element-named e w = element_of-word e.array e.index w.0 w.1

  is-index-writable : (ts : Terms) (ks : List Term) → AllWritable ts → Each TermWritable ks → TermWritable (is_index ts ks)
  is-index-writable Terms.NoTerms [] w s = tt
  is-index-writable (Terms.Then t ts) (k ∷ ks) w s = ((w.0, s.0), is-index-writable ts ks w.1 s.1)
  is-index-writable Terms.NoTerms (k ∷ ks) w s = tt
  is-index-writable (Terms.Then t ts) [] w s = tt

  abbrev CopyWritable : Copy → Type 0
  CopyWritable c = ScopeWritable c.scope × AllDataWritable c.assignment.index × DataWritable c.assignment.term

  copies-writable : (ρ : TermScope) → ScopeWritable ρ → (assigned : List protocol.Assignment) → Each AssignmentWritable assigned → Each CopyWritable (all_copies (data_of m) ρ assigned)
  copies-writable ρ k assigned w =
      flat-mapped AssignmentWritable CopyWritable (copies_of (data_of m) ρ) assigned
      (λ a v. copies-each (data_of m) sorts CopyWritable a.variables (λ (σ : TermScope). let c : Copy = record { scope = σ; assignment = a } in c) (λ σ s. (s, v.2, v.3)) ρ k) w

  after-writable : (cs : List Copy) → Each CopyWritable cs → (e : Element) → ElementWritable e →
      (before : Term) → TermWritable before → TermWritable (after_copies (data_of m) (forms_of m) cs e before)
  after-writable [] w e v before b = b
  after-writable (c ∷ others) w e v before b = after-writable others w.1 e v _ (by (same_name c.assignment.variable e.array))
    where
      by : (here : Bool) → TermWritable
          (if here then choice (is_index (all_put_in (data_of m) (forms_of m) c.scope c.assignment.index) e.index) (put_in (data_of m) (forms_of m) c.scope c.assignment.term) before else before)
      by true = (
        if-word,
        (
          is-index-writable _ e.index (all-put-in-writable (data_of m) sorts (forms_of m) known c.assignment.index c.scope w.0.0 w.0.1) (spelled-writable e.index v.1),
          (term-writable c.assignment.term c.scope w.0.0 w.0.2, (b, tt)),
        ),
      )
      by false = b

  abbrev InstanceWritable : Instance → Type 0
  InstanceWritable i = StepWritable i.step × Each IsSpelled i.own

  step-writable : (i : Instance) → InstanceWritable i → model.StepWritable (unfolded_step m i)
  step-writable i w =
      let ρ = own_scope i in
      let k = own-writable i.whole i.step.variables i.own w.0.1 w.1 in (
        left-writable i.whole i.step.variables w.0.1,
        term-writable i.step.guard ρ k w.0.2,
        mapped ElementWritable model.AssignmentWritable (unfolded_assignment m ρ i.step.assignments) (all_elements m)
            (λ e v. after-writable (all_copies (data_of m) ρ i.step.assignments) (copies-writable ρ k i.step.assignments w.0.3) e v (Term.Named (name_of e)) (element-named e v)) elements-writable,
      )

  instances-writable : (a : Step) → StepWritable a → Each InstanceWritable (instances_of m a)
  instances-writable a w = by (is_whole m a)
    where
      by : (b : Bool) → Each InstanceWritable (if b then whole_step a ∷ [] else map (with_own a) (written_tuples (data_of m) a.variables))
      by true = ((w, tt), tt)
      by false = mapped (Each IsSpelled) InstanceWritable (with_own a) (written_tuples (data_of m) a.variables) (λ ks s. (w, s)) (tuples-spelled (data_of m) sorts a.variables)

  pub steps-unfolded : Each model.StepWritable (unfolded m).steps
  steps-unfolded =
      mapped InstanceWritable model.StepWritable (unfolded_step m) (instances m) step-writable
      (flat-mapped StepWritable InstanceWritable (instances_of m) m.steps instances-writable h.steps)

  nothing-known : FormsWritable no_forms
  nothing-known x ts w k = tt

  start-known : FormsWritable (forms_at_start m)
  start-known = definitions-writable (data_of m) sorts m.definitions no_forms nothing-known h.definitions

  initial-writable : (ys : List StateVariable) (xs : Terms) → AllDataWritable xs → Each TermWritable (unfolded_initial (data_of m) (forms_at_start m) ys xs)
  initial-writable (y ∷ ys) (Terms.Then x xs) w =
      let f : List Term → Term = λ ks. put_in (data_of m) (forms_at_start m) (written y.indices ks) x in
      both TermWritable (map f (written_tuples (data_of m) y.indices)) (unfolded_initial (data_of m) (forms_at_start m) ys xs)
      (mapped (Each IsSpelled) TermWritable f (written_tuples (data_of m) y.indices)
      (λ ks s. put-in-writable (data_of m) sorts (forms_at_start m) start-known x (written y.indices ks) (written-writable y.indices ks s) w.0)
      (tuples-spelled (data_of m) sorts y.indices))
      (initial-writable ys xs w.1)
  initial-writable [] xs w = tt
  initial-writable (y ∷ ys) Terms.NoTerms w = tt

  pub unfolded-writable : ModelWritable (unfolded m)
  unfolded-writable = record {
    sorts = h.sorts;
    ranges = h.ranges;
    variables = mapped ElementWritable VariableWritable variable_of (all_elements m) (λ e w. (element-named e w, w.2)) elements-writable;
    steps = steps-unfolded;
    initial = terms-writable (unfolded_initial (data_of m) (forms_at_start m) m.variables m.initial) (initial-writable m.variables m.initial h.initial);
  }

  -- ---- formulas

  joined-formulas-writable : (q : Quantifier) (fs : List flat.Formula) → Each ModalWritable fs → ModalWritable (joined_formulas q fs)
  joined-formulas-writable Forall [] w = tt
  joined-formulas-writable Exists [] w = tt
  joined-formulas-writable Forall (f ∷ fs) w = (w.0, joined-formulas-writable Forall fs w.1)
  joined-formulas-writable Exists (f ∷ fs) w = (w.0, joined-formulas-writable Exists fs w.1)

  pub formula-unfolded : (f : Formula) (ρ : TermScope) → ScopeWritable ρ → FormulaWritable f → ModalWritable (unfolded_formula m ρ f)
  formula-unfolded (Formula.Truth b) ρ k w = tt
  formula-unfolded (Formula.Data x) ρ k w = term-writable x ρ k w
  formula-unfolded (Formula.Named X) ρ k w = tt
  formula-unfolded (Formula.Not f) ρ k w = formula-unfolded f ρ k w
  formula-unfolded (Formula.And f g) ρ k w = (formula-unfolded f ρ k w.0, formula-unfolded g ρ k w.1)
  formula-unfolded (Formula.Or f g) ρ k w = (formula-unfolded f ρ k w.0, formula-unfolded g ρ k w.1)
  formula-unfolded (Formula.Implies f g) ρ k w = (formula-unfolded f ρ k w.0, formula-unfolded g ρ k w.1)
  formula-unfolded (Formula.Box A f) ρ k w = formula-unfolded f ρ k w
  formula-unfolded (Formula.Diamond A f) ρ k w = formula-unfolded f ρ k w
  formula-unfolded (Formula.Fixpoint sign X f) ρ k w = (w.0, formula-unfolded f ρ k w.1)
  formula-unfolded (Formula.Quantified q xs f) ρ k w =
      joined-formulas-writable q (copies (data_of m) xs (λ σ. unfolded_formula m σ f) ρ)
      (copies-each (data_of m) sorts ModalWritable xs (λ σ. unfolded_formula m σ f) (λ σ s. formula-unfolded f σ s w.1) ρ k)
