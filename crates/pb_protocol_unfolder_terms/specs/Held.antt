-- The interval of a flat term has the term's value.
use Rattle.std.specs.Prelude.{◌≡◌, ◌<◌, Bool, true, false, ⊤, List, length, Contains, Option, Some}
use Rattle.std.specs.Prelude.{None}
use Rattle.pb_base_values.specs.Carrier.{Value, contains}
use Rattle.pb_base_values.specs.Interval.{IntegerInterval, Includes}
use Rattle.pb_text_meaning.specs.Syntax.{Name, same_name, Term, Terms, Spec}
use Rattle.pb_text_meaning.specs.Sorts.{carrier_of, place_in}
use Rattle.pb_text_meaning.specs.Functions.{named_function}
use Rattle.pb_text_meaning.specs.declared.function.NamedFunction.{NamedFunction}
use Rattle.pb_text_meaning.specs.declared.function.NamedFunction.TheVariants as function
use Rattle.pb_text_meaning.specs.Value.{Assignment, looked_up, value}
use Rattle.pb_protocol_meaning.specs.Syntax.{StateVariable}
use Rattle.pb_protocol_unfolding.specs.Written.{element_of}
use Rattle.pb_protocol_unfolder_terms.specs.Bounds.{interval, is_plain_name, may_be_of}

-- it is among the numbers between which something stays, as far as that is known
abbrev pub Holds : Option IntegerInterval → Value → Type 0
Holds None v = ⊤
Holds (Some i) v = Includes i v

-- whether a function takes so many arguments (T03); a recogniser of any other number than one gives
-- a truth value all the same
abbrev pub takes : Option NamedFunction → Terms → Bool
takes (Some function.If) (Terms.Then x (Terms.Then y (Terms.Then z Terms.NoTerms))) = true
takes (Some function.If) xs = false
takes (Some function.Max) (Terms.Then x (Terms.Then y Terms.NoTerms)) = true
takes (Some function.Max) xs = false
takes (Some function.Min) (Terms.Then x (Terms.Then y Terms.NoTerms)) = true
takes (Some function.Min) xs = false
takes (Some f) (Terms.Then x Terms.NoTerms) = true
takes (Some f) xs = false
takes None xs = true

-- the values of a term's names are among those of their intervals, and its functions have as many
-- arguments as they take; of what is a truth value nothing is asked
abbrev mutual
  pub HasHeldNames : Spec → List StateVariable → Assignment → Term → Type 0
  HasHeldNames spec ys a (Term.Named x) =
      Holds (interval spec ys (Term.Named x)) (value spec a (Term.Named x))
  HasHeldNames spec ys a (Term.Negative x) = HasHeldNames spec ys a x
  HasHeldNames spec ys a (Term.Binary o x y) = HasHeldNames spec ys a x × HasHeldNames spec ys a y
  HasHeldNames spec ys a (Term.Apply f xs) =
      (takes (named_function f) xs ≡ true) × HaveHeldNames spec ys a xs
  HasHeldNames spec ys a x = ⊤

  pub HaveHeldNames : Spec → List StateVariable → Assignment → Terms → Type 0
  HaveHeldNames spec ys a Terms.NoTerms = ⊤
  HaveHeldNames spec ys a (Terms.Then x xs) =
      HasHeldNames spec ys a x × HaveHeldNames spec ys a xs

-- then its value is among those of its own
abbrev pub IntervalsHold : Type 0
IntervalsHold =
    (spec : Spec) (ys : List StateVariable) (a : Assignment) (x : Term) → HasHeldNames spec ys a x →
    Holds (interval spec ys x) (value spec a x)

-- ---- names

-- so is that of a name of no enumerator that stands for a value of a state variable which it may be
-- of
abbrev pub VariablesHold : Type 0
VariablesHold =
    (spec : Spec) (ys : List StateVariable) (a : Assignment) (x : Name) (y : StateVariable)
    (v : Value) → looked_up a x ≡ Some v → place_in (λ e. same_name e.name x) spec.sorts ≡ None →
    Contains ys y → may_be_of (is_plain_name ys x) y x ≡ true →
    contains (carrier_of spec y.sort) v ≡ true →
    Holds (interval spec ys (Term.Named x)) (value spec a (Term.Named x))

-- an element of an array is one of those names, where no state variable without indices has it
abbrev pub ElementsMayBeOfTheirArray : Type 0
ElementsMayBeOfTheirArray =
    (ys : List StateVariable) (y : StateVariable) (ks : List Term) → length ks ≡ length y.indices →
    (0 < length y.indices → is_plain_name ys (element_of y.name ks) ≡ false) →
    may_be_of (is_plain_name ys (element_of y.name ks)) y (element_of y.name ks) ≡ true
