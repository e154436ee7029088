-- Reads of arrays by their first index, and choices by their first value.
use Rattle.std.proofs.Common.{◌≡◌, Bool, true, false, if◌then◌else◌, Option, List, [], ◌∷◌, map, drop, length, ℕ, Some, None, refl, sym, ◌∙◌, ap, subst, arith}
use Rattle.std.specs.List.{slice_get}
use Rattle.std.specs.Prelude.{string_bytes}
use Rattle.pb_text_tree.specs.declared.term.Argument.{Argument}
use Rattle.pb_text_meaning.specs.Syntax.{Name, Operator, Term, Terms, Spec}
use Rattle.pb_protocol_folding.specs.Folding.{folded, or_of, truth_value}
use Rattle.pb_protocol_folding.specs.View as tree
use Rattle.pb_protocol_unfolding.specs.Written.{element, written_values}
use Rattle.pb_protocol_unfolding.specs.PutIn.{Forms, TermScope, all_put_in, choice, choices, last_choice, chosen, put_in, read}
use Rattle.pb_protocol_unfolder_terms.specs.declared.array.Array.{Array}
use Rattle.pb_protocol_unfolder_terms.specs.declared.context.Context.{Context}
use Rattle.pb_protocol_unfolder_terms.specs.declared.scope.TermScope as declared_scope
use Rattle.pb_protocol_unfolder_terms.specs.declared.sorts.Variable.{Variable}
use Rattle.pb_protocol_unfolder_terms.specs.declared.written.Written.{Written}
use Rattle.pb_protocol_unfolder_terms.specs.Contexts.{forms_in, spec_in}
use Rattle.pb_protocol_unfolder_terms.specs.Puts.{IsWrittenAs, element_by, put, read_by}
use Rattle.pb_protocol_unfolder_terms.specs.Scopes.{scope_of}
use Rattle.pb_protocol_unfolder_terms.specs.Values.{written_term}
use Rattle.pb_protocol_unfolder_terms.specs.View.{variable_of}

pub some-is : {A : Type 0} (x y : A) → Some x ≡ Some y → x ≡ y
some-is x y e = cc

pub not-none : {A : Type 0} (x : A) → Some x ≡ None → ⊥
not-none x e = cc

pub none-not : {A : Type 0} (x : A) → None ≡ Some x → ⊥
none-not x e = cc

module _ (S : Spec) (forms : Forms) (ρ : TermScope) where
  -- the array at one value of its first index, with the indices and arguments behind it
  abbrev pub at-value : Name → List Variable → List Argument → Term → Term
  at-value x is given k = read S (element x k) (map variable_of is) (all_put_in S forms ρ (tree.terms_of given))

  pub read-first : (x : Name) (is : List Variable) (given : List Argument) (i : Variable) (a : Argument) → Some i ≡ slice_get is 0 → Some a ≡ slice_get given 0
      → read S x (map variable_of is) (all_put_in S forms ρ (tree.terms_of given))
      ≡ chosen (at-value x (drop 1 is) (drop 1 given)) (put_in S forms ρ (tree.term_of a.term)) (written_values S i.sort.now)
  read-first x [] given i a is there = absurd (not-none i is)
  read-first x (j ∷ js) [] i a is there = absurd (not-none a there)
  read-first x (j ∷ js) (b ∷ given) i a is there =
      ap (λ (y : Variable). chosen (at-value x js given) (put_in S forms ρ (tree.term_of b.term)) (written_values S y.sort.now)) (sym (some-is i j is))
      ∙ ap (λ (d : Argument). chosen (at-value x js given) (put_in S forms ρ (tree.term_of d.term)) (written_values S i.sort.now)) (sym (some-is a b there))

  -- without indices the array is itself
  pub read-itself : (x : Name) (is : List Variable) (ts : Terms) → None ≡ slice_get is 0 → read S x (map variable_of is) ts ≡ Term.Named x
  read-itself x [] ts none = refl
  read-itself x (i ∷ is) ts none = absurd (none-not i none)

  -- with too few arguments it is nothing
  pub read-nothing : (x : Name) (is : List Variable) (given : List Argument) (i : Variable) → Some i ≡ slice_get is 0
      → None ≡ slice_get given 0 → read S x (map variable_of is) (all_put_in S forms ρ (tree.terms_of given)) ≡ Term.Number 0
  read-nothing x [] given i is none = absurd (not-none i is)
  read-nothing x (j ∷ js) [] i is none = refl
  read-nothing x (j ∷ js) (a ∷ given) i is none = absurd (none-not a none)

  -- by the parts of what stands behind the first index
  pub same-parts : (x y : Name) (is js : List Variable) (given others : List Argument) (k : Term) → x ≡ y → is ≡ js → given ≡ others → at-value x is given k ≡ at-value y js others k
  same-parts x y is js given others k e f g =
      ap (λ (z : Name). at-value z is given k) e ∙ ap (λ (vs : List Variable). at-value y vs given k) f ∙ ap (λ (bs : List Argument). at-value y js bs k) g

-- written as one of the values
pub chosen-written : (f : Term → Term) (t : Term) (ks : List Term) (v : Written) → IsWrittenAs (Some v) t ks → f (written_term v) ≡ chosen f t ks
chosen-written f t ks v w = ap f (sym w.1) ∙ sym (ap (λ (b : Bool). if b then f t else choices f t ks) w.0)

-- written as none of them
pub chosen-otherwise : (f : Term → Term) (t : Term) (ks : List Term) → IsWrittenAs None t ks → choices f t ks ≡ chosen f t ks
chosen-otherwise f t ks w = sym (ap (λ (b : Bool). if b then f t else choices f t ks) w)

pub choices-none : (f : Term → Term) (t : Term) (vs : List Written) → None ≡ slice_get vs 0 → Term.Number 0 ≡ choices f t (map written_term vs)
choices-none f t [] none = refl
choices-none f t (v ∷ vs) none = absurd (none-not v none)

-- of one value left the index is compared all the same
pub choices-one : (f : Term → Term) (t : Term) (vs : List Written) (v : Written) → Some v ≡ slice_get vs 0 → length (drop 1 vs) ≡ 0
    → last_choice t (written_term v) (f (written_term v)) ≡ choices f t (map written_term vs)
choices-one f t [] v there end = absurd (not-none v there)
choices-one f t (w ∷ []) v there end = ap (λ u. last_choice t (written_term u) (f (written_term u))) (some-is v w there)
choices-one f t (w ∷ u ∷ vs) v there end = absurd (omega (arith, end))

-- which is true whatever it has
pub last-holds : (S : Spec) (t k : Term) → folded S true (Term.Binary Operator.Or (Term.Binary Operator.Equal t k) (Term.Truth true)) ≡ Term.Truth true
last-holds S t k = any-or (truth_value (folded S true (Term.Binary Operator.Equal t k)))
  where
    any-or : (b : Option Bool) → or_of b (Some true) (folded S true (Term.Binary Operator.Equal t k)) (Term.Truth true) ≡ Term.Truth true
    any-or (Some true) = refl
    any-or (Some false) = refl
    any-or None = refl

pub choices-more : (f : Term → Term) (t : Term) (vs : List Written) (v : Written) → Some v ≡ slice_get vs 0 → (length (drop 1 vs) ≡ 0 → ⊥)
    → choice (Term.Binary Operator.Equal t (written_term v)) (f (written_term v)) (choices f t (map written_term (drop 1 vs))) ≡ choices f t (map written_term vs)
choices-more f t [] v there more = absurd (not-none v there)
choices-more f t (w ∷ []) v there more = absurd (more refl)
choices-more f t (w ∷ u ∷ vs) v there more =
    ap (λ z. choice (Term.Binary Operator.Equal t (written_term z)) (f (written_term z)) (choices f t (map written_term (u ∷ vs)))) (some-is v w there)

-- of what is made alike of each value
pub choices-same : (f g : Term → Term) → ((k : Term) → f k ≡ g k) → (t : Term) (ks : List Term) → choices f t ks ≡ choices g t ks
choices-same f g same t [] = refl
choices-same f g same t (k ∷ []) = ap (last_choice t k) (same k)
choices-same f g same t (k ∷ l ∷ ks) =
    ap (λ z. choice (Term.Binary Operator.Equal t k) z (choices f t (l ∷ ks))) (same k)
    ∙ ap (choice (Term.Binary Operator.Equal t k) (g k)) (choices-same f g same t (l ∷ ks))

-- ---- as the code holds them

-- the others are an array behind its first index and its first argument
pub record AreOthers (array others : Array) (i : Variable) (a : Argument) : Type 0 where
  pub first : Some i ≡ slice_get array.indices.now 0
  pub there : Some a ≡ slice_get array.arguments.now 0
  pub name : others.name.now ≡ array.name.now
  pub indices : others.indices.now ≡ drop 1 array.indices.now
  pub arguments : others.arguments.now ≡ drop 1 array.arguments.now

pub are-others : {array others : Array} {i : Variable} {a : Argument} → Some i ≡ slice_get array.indices.now 0 → Some a ≡ slice_get array.arguments.now 0
    → others.name.now ≡ array.name.now → others.indices.now ≡ drop 1 array.indices.now → others.arguments.now ≡ drop 1 array.arguments.now → AreOthers array others i a
are-others first there name indices arguments = record { first = first; there = there; name = name; indices = indices; arguments = arguments }

-- of equal values, none is the one that is written
pub unwritten-by : (t : Term) {values all : List Term} → values ≡ all → IsWrittenAs None t values → IsWrittenAs None t all
unwritten-by t same w = subst (λ (zs : List Term). IsWrittenAs None t zs) same w

module _ (k : Context) (n : ℕ) (s : declared_scope.TermScope) {array others : Array} {i : Variable} {a : Argument} (is : AreOthers array others i a) where
  element-behind : Term → Term
  element-behind = at-value (spec_in k) (forms_in k n) (scope_of (spec_in k) (forms_in k) s) (string_bytes array.name.now.text) (drop 1 array.indices.now) (drop 1 array.arguments.now)

  by-others : (z : Term) → element_by k n s others z ≡ element-behind z
  unfolding element-behind
  by-others z =
      same-parts (spec_in k) (forms_in k n) (scope_of (spec_in k) (forms_in k) s) (string_bytes others.name.now.text)
      (string_bytes array.name.now.text) others.indices.now (drop 1 array.indices.now) others.arguments.now (drop 1 array.arguments.now) z
      (ap (λ y. string_bytes y.text) is.name) is.indices is.arguments

  by-first : read_by k n s array ≡ chosen element-behind (put k n s (tree.term_of a.term)) (written_values (spec_in k) i.sort.now)
  unfolding element-behind
  by-first = read-first (spec_in k) (forms_in k n) (scope_of (spec_in k) (forms_in k) s) (string_bytes array.name.now.text) array.indices.now array.arguments.now i a is.first is.there

  -- where the index is written, the element at that value
  pub written-read : {values : List Term} (v : Written) → values ≡ written_values (spec_in k) i.sort.now → IsWrittenAs (Some v) (put k n s (tree.term_of a.term)) values
      → element_by k n s others (written_term v) ≡ read_by k n s array
  written-read v all w =
      by-others (written_term v)
      ∙ chosen-written element-behind (put k n s (tree.term_of a.term)) (written_values (spec_in k) i.sort.now) v
      (subst (λ (zs : List Term). IsWrittenAs (Some v) (put k n s (tree.term_of a.term)) zs) all w) ∙ sym by-first

  -- else a choice among all values
  pub chosen-read : {values : List Term} → values ≡ written_values (spec_in k) i.sort.now → IsWrittenAs None (put k n s (tree.term_of a.term)) values
      → choices (element_by k n s others) (put k n s (tree.term_of a.term)) values ≡ read_by k n s array
  chosen-read all w =
      ap (choices (element_by k n s others) (put k n s (tree.term_of a.term))) all
      ∙ choices-same (element_by k n s others) element-behind by-others (put k n s (tree.term_of a.term)) (written_values (spec_in k) i.sort.now)
      ∙ chosen-otherwise element-behind (put k n s (tree.term_of a.term)) (written_values (spec_in k) i.sort.now)
      (subst (λ (zs : List Term). IsWrittenAs None (put k n s (tree.term_of a.term)) zs) all w) ∙ sym by-first
