-- What can be said has words: of what is kept of a term that was read.
use Rattle.std.proofs.Common.{ℕ, zero, suc, ◌||◌, Bool, true, false, List, [], ◌∷◌, map}
use Rattle.pb_text_tree.specs.Form.{VariableForm, TermForm, ArgumentForms, no_arguments, argument, RangeForm}
use Rattle.pb_text_meaning.specs.Erase.{erased_variables, erased_term, erased_arguments, erased_range}
use Rattle.pb_text_printer.specs.declared.level.Level.TheVariants as level
use Rattle.pb_text_printer.specs.Words.{needs_no_brackets, goes_on, connective_level, term_side, comparison_side, arithmetic_side}
use Rattle.pb_text_printer.specs.Sayable.{Opens, IsPut, AreNames, AreVariables, IsSayable, MoreSayable, Each, EachOf, RangeSayable}
use Rattle.pb_model_spelling.specs.Writable.{VariableWritable, TermWritable, AllWritable, SomeWritable, RangeWritable}

abbrev HasData : TermForm → Type 0
HasData x = TermWritable (erased_term x)

from_opened : (P : ℕ → Type 0) (Q : Type 0) → ((d : ℕ) → P d → Q) → (d : ℕ) → Opens d P → Q
from_opened P Q within zero h = absurd h
from_opened P Q within (suc d) h = within d h

from_put : (b : Bool) (P : Bool → ℕ → Type 0) (Q : Type 0) → ((ends : Bool) (d : ℕ) → P ends d → Q) → (ends : Bool) (d : ℕ) → IsPut b P ends d → Q
from_put true P Q within ends d h = within ends d h
from_put false P Q within ends d h = from_opened (P true) Q (within true) d h

names_writable : (vs : List VariableForm) → AreNames vs → Each VariableWritable (erased_variables vs)
names_writable [] h = tt
names_writable (v ∷ vs) h = ((h.0, h.1), names_writable vs h.2)

pub variables_writable : (vs : List VariableForm) → AreVariables vs → EachOf VariableWritable (erased_variables vs)
variables_writable [] h = absurd h
variables_writable (v ∷ vs) h = ((h.0, h.1), names_writable vs h.2)

mutual
  pub term_writable : (x : TermForm) (ends : Bool) (d : ℕ) → IsSayable x ends d → TermWritable (erased_term x)
  term_writable (TermForm.constant p value) ends d h = tt
  term_writable (TermForm.number p n) ends d h = h
  term_writable (TermForm.name n) ends d h = h
  term_writable (TermForm.not p x) ends d h =
      from_opened _ (HasData x) (λ e. from_put (needs_no_brackets x level.Unary false) (IsSayable x) (HasData x) (term_writable x) false e) d h
  term_writable (TermForm.negative p x) ends d h =
      from_opened _ (HasData x) (λ e. from_put (needs_no_brackets x level.Unary false) (IsSayable x) (HasData x) (term_writable x) false e) d h
  term_writable (TermForm.connected c p x y) ends d h = (
    from_put (needs_no_brackets x (term_side c) false) (IsSayable x) (HasData x) (term_writable x) false d h.0,
    from_put (needs_no_brackets y (connective_level c) ends) (IsSayable y) (HasData y) (term_writable y) ends d h.1,
  )
  term_writable (TermForm.compared c p x y) ends d h = (
    from_put (needs_no_brackets x (comparison_side c) false) (IsSayable x) (HasData x) (term_writable x) false d h.0,
    from_put (needs_no_brackets y (comparison_side c) false) (IsSayable y) (HasData y) (term_writable y) false d h.1,
  )
  term_writable (TermForm.computed o p x y) ends d h = (
    from_put (goes_on o x || needs_no_brackets x (arithmetic_side o) false) (IsSayable x) (HasData x) (term_writable x) false d h.0,
    from_put (needs_no_brackets y (arithmetic_side o) false) (IsSayable y) (HasData y) (term_writable y) false d h.1,
  )
  term_writable (TermForm.application f no_arguments) ends d h = absurd h.1
  term_writable (TermForm.application f (argument p x xs)) ends d h =
      (h.0, from_opened _ (SomeWritable (erased_arguments (argument p x xs))) (λ e i. (term_writable x true e i.0, more_writable xs e i.1)) d h.1)
  term_writable (TermForm.quantified q p vars x) ends d h = (variables_writable vars h.0, from_opened _ (HasData x) (term_writable x true) d h.1)

  more_writable : (xs : ArgumentForms) (d : ℕ) → MoreSayable xs d → AllWritable (erased_arguments xs)
  more_writable no_arguments d h = tt
  more_writable (argument p x xs) d h = (term_writable x true d h.0, more_writable xs d h.1)

pub ranges_writable : (rs : List RangeForm) → Each RangeSayable rs → Each RangeWritable (map erased_range rs)
ranges_writable [] h = tt
ranges_writable (r ∷ rs) h = (record { name = h.0.name; low = h.0.low; high = h.0.high; order = h.0.order }, ranges_writable rs h.1)
