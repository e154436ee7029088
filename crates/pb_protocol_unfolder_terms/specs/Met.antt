-- Which terms are met when a term is unfolded, each with what its names stand for, and which of
-- their indices aren't seen to stay among the values of their sorts.
use Rattle.std.specs.Prelude.{◌≡◌, ◌<◌, ◌≤◌, ◌+◌, ◌⊎◌, ℕ, suc, false, if◌then◌else◌, List, [], ◌∷◌}
use Rattle.std.specs.Prelude.{take, length, Contains, Option, Some, None}
use Rattle.std.specs.List.{slice_get}
use Rattle.pb_text_tree.specs.declared.place.Place.{Place}
use Rattle.pb_text_tree.specs.declared.operator.Quantifier.{Quantifier}
use Rattle.pb_text_tree.specs.Form.{Named, VariableForm, TermForm, ArgumentForms, no_arguments}
use Rattle.pb_text_tree.specs.Form.{argument}
use Rattle.pb_text_meaning.specs.Syntax.{Name, Variable, Term, Terms, Spec}
use Rattle.pb_text_meaning.specs.Erase.{erased_term, erased_arguments, erased_variables}
use Rattle.pb_protocol_meaning.specs.Syntax.{StateVariable, Definition}
use Rattle.pb_protocol_folding.specs.Folding.{folded}
use Rattle.pb_protocol_unfolding.specs.Written.{is_written, written_tuples, written_values}
use Rattle.pb_protocol_unfolding.specs.PutIn.{TermScope, Forms, standing, put_in, all_put_in, reads}
use Rattle.pb_protocol_unfolding.specs.PutIn.{term_of}
use Rattle.pb_protocol_unfolding.specs.PutIn.{with_definitions}
use Rattle.pb_protocol_unfolding.specs.Unfolding.{terms_of}
use Rattle.pb_protocol_unfolder_terms.specs.Bounds.{IsSeenWithin, interval, sort_interval}

-- what terms are unfolded by: sorts and ranges, state variables, and definitions, the terms of
-- these also with their places
pub record Surroundings : Type 0 where
  pub spec : Spec
  pub variables : List StateVariable
  pub definitions : List Definition
  pub terms : List TermForm

-- what names become by the first n definitions
abbrev pub forms : Surroundings → ℕ → Forms
forms m n = with_definitions m.spec (reads m.spec m.variables) (take n m.definitions)

-- a term as it is unfolded: with so many levels left, by so many of the definitions, and with what
-- names stand for
pub record Occurrence : Type 0 where
  pub levels : ℕ
  pub definitions : ℕ
  pub scope : TermScope
  pub term : TermForm

abbrev pub at : ℕ → ℕ → TermScope → TermForm → Occurrence
at l n ρ x = record { levels = l; definitions = n; scope = ρ; term = x }

-- ---- parts of terms

abbrev pub IsArgument : ArgumentForms → TermForm → Type 0
IsArgument no_arguments y = ⊥
IsArgument (argument p x xs) y = (y ≡ x) ⊎ IsArgument xs y

abbrev pub IsPart : TermForm → TermForm → Type 0
IsPart (TermForm.not p x) y = y ≡ x
IsPart (TermForm.negative p x) y = y ≡ x
IsPart (TermForm.compared c p x z) y = (y ≡ x) ⊎ (y ≡ z)
IsPart (TermForm.application f xs) y = IsArgument xs y
IsPart x y = ⊥

-- the operands of connectives in a row, x c (y c (z ..)), and of arithmetic, ((x o y) o z) ..
abbrev pub IsChained : TermForm → TermForm → Type 0
IsChained (TermForm.connected c p x z) y = (y ≡ x) ⊎ ((y ≡ z) ⊎ IsChained z y)
IsChained x y = ⊥

abbrev pub IsCalculated : TermForm → TermForm → Type 0
IsCalculated (TermForm.computed o p x z) y = (y ≡ z) ⊎ ((y ≡ x) ⊎ IsCalculated x y)
IsCalculated x y = ⊥

abbrev pub IsOperand : TermForm → TermForm → Type 0
IsOperand x y = IsPart x y ⊎ (IsChained x y ⊎ IsCalculated x y)

-- the name that a term uses, which may be a definition's
abbrev pub name_used : TermForm → Option Name
name_used (TermForm.name x) = Some x.text
name_used (TermForm.application f xs) = Some f.text
name_used x = None

-- and its arguments, put in
abbrev pub arguments_put_in : Surroundings → ℕ → TermScope → TermForm → Terms
arguments_put_in m n ρ (TermForm.application f xs) =
    all_put_in m.spec (forms m n) ρ (erased_arguments xs)
arguments_put_in m n ρ x = Terms.NoTerms

-- ---- indices of arrays

-- how many levels an index takes at most: one, and where it isn't written one more for each value
abbrev pub index_levels : Surroundings → ℕ → TermScope → TermForm → Variable → ℕ
index_levels m n ρ x i =
    let ks = written_values m.spec i.sort in
    if is_written (put_in m.spec (forms m n) ρ (erased_term x)) ks then 1 else suc (length ks)

-- and all of them
abbrev pub all_index_levels : Surroundings → ℕ → TermScope → ArgumentForms → List Variable → ℕ
all_index_levels m n ρ no_arguments is = 0
all_index_levels m n ρ (argument q x xs) [] = 0
all_index_levels m n ρ (argument q x xs) (i ∷ is) =
    index_levels m n ρ x i + all_index_levels m n ρ xs is

-- y is one of them, those before it take d levels, at least one each
abbrev pub IsIndex :
    Surroundings → ℕ → TermScope → ArgumentForms → List Variable → ℕ → TermForm → Type 0
IsIndex m n ρ no_arguments is d y = ⊥
IsIndex m n ρ (argument q x xs) [] d y = ⊥
IsIndex m n ρ (argument q x xs) (i ∷ is) d y =
    ((d ≡ 0) × (y ≡ x))
    ⊎ ((a : ℕ) × (b : ℕ) × (d ≡ a + b) × (0 < a) × (a ≤ index_levels m n ρ x i)
    × IsIndex m n ρ xs is b y)

-- ---- what is met

-- the term itself; with a level less the operands of what is met; of a quantifier the body, with
-- values for its variables; of a use of a definition its term, with the arguments, by the
-- definitions before it; what a name stands for, which is met where it is given; and an index of an
-- array, with those levels less that the indices before it take
pub data IsMet (m : Surroundings) (whole : Occurrence) : Occurrence → Type 0 where
  Itself : IsMet m whole whole
  Operand : (l n : ℕ) (ρ : TermScope) (x y : TermForm) → IsMet m whole (at (suc l) n ρ x)
      → IsOperand x y → IsMet m whole (at l n ρ y)
  Body : (l n : ℕ) (ρ : TermScope) (q : Quantifier) (p : Place) (xs : List VariableForm)
      (x : TermForm) (ks : List Term)
      → IsMet m whole (at (suc l) n ρ (TermForm.quantified q p xs x))
      → Contains (written_tuples m.spec (erased_variables xs)) ks
      → IsMet m whole (at l n (standing (erased_variables xs) (terms_of ks) ρ) x)
  Defined : (l n : ℕ) (ρ : TermScope) (x : TermForm) (k : ℕ) (d : Definition) (y : TermForm)
      → IsMet m whole (at (suc l) n ρ x) → name_used x ≡ Some d.name → k < n
      → slice_get m.definitions k ≡ Some d → slice_get m.terms k ≡ Some y
      → IsMet m whole (at l k (standing d.parameters (arguments_put_in m n ρ x) []) y)
  Given : (l n : ℕ) (ρ : TermScope) (x : Named) (j k : ℕ) (σ : TermScope) (y : TermForm)
      → IsMet m whole (at (suc l) n ρ (TermForm.name x)) → IsMet m whole (at j k σ y)
      → term_of ρ x.text ≡ Some (put_in m.spec (forms m k) σ (erased_term y))
      → IsMet m whole (at l k σ y)
  Index : (l d n : ℕ) (ρ : TermScope) (f : Named) (xs : ArgumentForms) (v : StateVariable)
      (y : TermForm) → IsMet m whole (at (suc (l + d)) n ρ (TermForm.application f xs))
      → Contains m.variables v → v.name ≡ f.text → IsIndex m n ρ xs v.indices d y
      → IsMet m whole (at l n ρ y)

-- ---- indices

-- a term, unfolded, isn't seen to stay among the values of the sort
abbrev pub IsOutside : Surroundings → ℕ → TermScope → TermForm → Name → Type 0
IsOutside m n ρ x s =
    IsSeenWithin (interval m.spec m.variables
    (folded m.spec false (put_in m.spec (forms m n) ρ (erased_term x)))) (sort_interval m.spec s)
    → ⊥

-- of the arguments of an array the one whose first token stands at p isn't seen to stay among the
-- values of its index
abbrev pub HaveOutside :
    Surroundings → ℕ → TermScope → ArgumentForms → List Variable → Place → Type 0
HaveOutside m n ρ no_arguments is p = ⊥
HaveOutside m n ρ (argument q x xs) [] p = ⊥
HaveOutside m n ρ (argument q x xs) (i ∷ is) p =
    ((p ≡ q) × IsOutside m n ρ x i.sort) ⊎ HaveOutside m n ρ xs is p

-- an array is read at such an index
abbrev pub ReadsOutside : Surroundings → ℕ → TermScope → TermForm → Place → Type 0
ReadsOutside m n ρ (TermForm.application f xs) p =
    (y : StateVariable) × Contains m.variables y × (y.name ≡ f.text)
    × HaveOutside m n ρ xs y.indices p
ReadsOutside m n ρ x p = ⊥

-- so is one that is met
abbrev pub IsIndexFault : Surroundings → Occurrence → Place → Type 0
IsIndexFault m whole p =
    (o : Occurrence) × IsMet m whole o × ReadsOutside m o.definitions o.scope o.term p
