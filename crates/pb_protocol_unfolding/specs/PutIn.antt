-- Terms put in for names: values of quantified variables, elements of arrays, definitions. Counting
-- is written out as a sum.
use Rattle.std.specs.Prelude.{ℕ, Bool, true, false, ◌&&◌, if◌then◌else◌, List, [], ◌∷◌}
use Rattle.std.specs.Prelude.{flat_map, Option, Some, None, codes}
use Rattle.pb_text_tree.specs.declared.operator.Quantifier.{Quantifier}
use Rattle.pb_text_tree.specs.declared.operator.Quantifier.TheVariants.{Forall, Exists}
use Rattle.pb_text_meaning.specs.Syntax.{Name, same_name, Variable, Operator, Term, Terms, Spec}
use Rattle.pb_text_meaning.specs.Sorts.{place_in}
use Rattle.pb_text_counting.specs.Counting.{is_counting}
use Rattle.pb_protocol_meaning.specs.Syntax.{StateVariable, Definition}
use Rattle.pb_protocol_unfolding.specs.Written.{written_values, is_written, element}

-- ---- what stands for names

-- the term that each name in scope stands for, the innermost first
abbrev pub TermScope : Type 0
TermScope = List (Name × Term)

abbrev pub term_of : TermScope → Name → Option Term
term_of [] x = None
term_of ((y, t) ∷ ρ) x = if same_name y x then Some t else term_of ρ x

-- variables stand for these terms, in order
abbrev pub standing : List Variable → Terms → TermScope → TermScope
standing [] ts ρ = ρ
standing (x ∷ xs) Terms.NoTerms ρ = ρ
standing (x ∷ xs) (Terms.Then t ts) ρ = standing xs ts ((x.name, t) ∷ ρ)

-- what a name becomes with its arguments, where it is that of a state variable or definition of so
-- many arguments
abbrev pub Forms : Type 0
Forms = Name → Terms → Option Term

-- where no state variable and no definition may stand
abbrev pub no_forms : Forms
no_forms = λ x ts. None

-- ---- quantifiers written out

-- t1 && t2 && .. && true and t1 || t2 || .. || false
abbrev pub joined : Quantifier → List Term → Term
joined Forall [] = Term.Truth true
joined Exists [] = Term.Truth false
joined Forall (t ∷ ts) = Term.Binary Operator.And t (joined Forall ts)
joined Exists (t ∷ ts) = Term.Binary Operator.Or t (joined Exists ts)

-- what f makes of each tuple of values of the variables
abbrev pub copies : {A : Type 0} → Spec → List Variable → (TermScope → A) → TermScope → List A
copies spec [] f ρ = f ρ ∷ []
copies spec (x ∷ xs) f ρ =
    flat_map (λ k. copies spec xs f ((x.name, k) ∷ ρ)) (written_values spec x.sort)

-- if(b, x, y)
abbrev pub choice : Term → Term → Term → Term
choice b x y =
    Term.Apply (codes "if") (Terms.Then b (Terms.Then x (Terms.Then y Terms.NoTerms)))

-- ---- counting written out

-- if(t, 1, 0)
abbrev pub one_if : Term → Term
one_if t = choice t (Term.Number 1) (Term.Number 0)

-- x + if(t1, 1, 0) + if(t2, 1, 0) ..
abbrev pub added : Term → List Term → Term
added x [] = x
added x (t ∷ ts) = added (Term.Binary Operator.Plus x (one_if t)) ts

-- if(t1, 1, 0) + if(t2, 1, 0) .., and 0 where there is none
abbrev pub counted : List Term → Term
counted [] = Term.Number 0
counted (t ∷ ts) = added (one_if t) ts

-- ---- terms

-- an enumerator stays; the name of nothing is 0, the value that it has in a text
abbrev pub enumerator_term : Option ℕ → Name → Term
enumerator_term (Some n) x = Term.Named x
enumerator_term None x = Term.Number 0

-- a name: what it stands for, else a state variable or definition without arguments, else an
-- enumerator
abbrev pub named_term : Spec → Option Term → Option Term → Name → Term
named_term spec (Some t) form x = t
named_term spec None (Some t) x = t
named_term spec None None x = enumerator_term (place_in (λ e. same_name e.name x) spec.sorts) x

-- a name without arguments stands bare: in front of brackets it is a function of data
abbrev pub given_arguments : Forms → Name → Terms → Option Term
given_arguments forms f Terms.NoTerms = None
given_arguments forms f (Terms.Then t ts) = forms f (Terms.Then t ts)

-- a state variable or definition, else a function of data
abbrev pub applied_term : Option Term → Name → Terms → Term
applied_term (Some t) f ts = t
applied_term None f ts = Term.Apply f ts

abbrev mutual
  pub put_in : Spec → Forms → TermScope → Term → Term
  put_in spec forms ρ (Term.Truth b) = Term.Truth b
  put_in spec forms ρ (Term.Number n) = Term.Number n
  put_in spec forms ρ (Term.Named x) = named_term spec (term_of ρ x) (forms x Terms.NoTerms) x
  put_in spec forms ρ (Term.Not x) = Term.Not (put_in spec forms ρ x)
  put_in spec forms ρ (Term.Negative x) = Term.Negative (put_in spec forms ρ x)
  put_in spec forms ρ (Term.Binary o x y) =
      Term.Binary o (put_in spec forms ρ x) (put_in spec forms ρ y)
  put_in spec forms ρ (Term.Apply f xs) =
      if is_counting f then count_put_in spec forms ρ xs else
      applied_term (given_arguments forms f (all_put_in spec forms ρ xs)) f
      (all_put_in spec forms ρ xs)
  put_in spec forms ρ (Term.Quantified q xs x) =
      joined q (copies spec xs (λ σ. put_in spec forms σ x) ρ)

  pub all_put_in : Spec → Forms → TermScope → Terms → Terms
  all_put_in spec forms ρ Terms.NoTerms = Terms.NoTerms
  all_put_in spec forms ρ (Terms.Then x xs) =
      Terms.Then (put_in spec forms ρ x) (all_put_in spec forms ρ xs)

  -- for how many tuples of values of the variables the body of a quantifier is true
  pub count_put_in : Spec → Forms → TermScope → Terms → Term
  count_put_in spec forms ρ Terms.NoTerms = Term.Number 0
  count_put_in spec forms ρ (Terms.Then x xs) = count_of_put_in spec forms ρ x

  pub count_of_put_in : Spec → Forms → TermScope → Term → Term
  count_of_put_in spec forms ρ (Term.Quantified q xs x) =
      counted (copies spec xs (λ σ. put_in spec forms σ x) ρ)
  count_of_put_in spec forms ρ _ = Term.Number 0

-- ---- state variables

-- if(t == k || true, x, 0), which is x: of one value left t is compared too, so that it is written
abbrev pub last_choice : Term → Term → Term → Term
last_choice t k x =
    choice (Term.Binary Operator.Or (Term.Binary Operator.Equal t k) (Term.Truth true)) x
    (Term.Number 0)

-- if(t == k1, f k1, if(t == k2, f k2, .. if(t == kn || true, f kn, 0)))
abbrev pub choices : (Term → Term) → Term → List Term → Term
choices f t [] = Term.Number 0
choices f t (k ∷ []) = last_choice t k (f k)
choices f t (k ∷ l ∷ ks) =
    choice (Term.Binary Operator.Equal t k) (f k) (choices f t (l ∷ ks))

-- what f makes of the one of these values that t has, at once where t is written as that one
abbrev pub chosen : (Term → Term) → Term → List Term → Term
chosen f t ks = if is_written t ks then f t else choices f t ks

-- a term for each variable
abbrev pub are_as_many : List Variable → Terms → Bool
are_as_many [] Terms.NoTerms = true
are_as_many (x ∷ xs) (Terms.Then t ts) = are_as_many xs ts
are_as_many [] (Terms.Then t ts) = false
are_as_many (x ∷ xs) Terms.NoTerms = false

-- x(t, ..), with a term for each index
abbrev pub read : Spec → Name → List Variable → Terms → Term
read spec x [] ts = Term.Named x
read spec x (i ∷ is) Terms.NoTerms = Term.Number 0
read spec x (i ∷ is) (Terms.Then t ts) =
    chosen (λ k. read spec (element x k) is ts) t (written_values spec i.sort)

abbrev pub reads : Spec → List StateVariable → Forms
reads spec [] x ts = None
reads spec (y ∷ ys) x ts =
    if same_name y.name x && are_as_many y.indices ts then Some (read spec y.name y.indices ts)
    else reads spec ys x ts

-- ---- definitions

-- a definition is its term with the arguments put in; it names the state and the definitions before
abbrev pub with_definition : Spec → Forms → Definition → Forms
with_definition spec forms d x ts =
    if same_name d.name x && are_as_many d.parameters ts then
    Some (put_in spec forms (standing d.parameters ts []) d.term) else forms x ts

abbrev pub with_definitions : Spec → Forms → List Definition → Forms
with_definitions spec forms [] = forms
with_definitions spec forms (d ∷ ds) =
    with_definitions spec (with_definition spec forms d) ds
