-- What positive formulas are folded to is positive.
use Rattle.std.proofs.Common.{◌≡◌, Bool, true, false, true≢false, not, if◌then◌else◌, refl}
use Rattle.std.specs.Prelude.{Option, Some, None}
use Rattle.pb_text_meaning.specs.Syntax.{Name, Spec}
use Rattle.pb_model_meaning.specs.Syntax.{Formula}
use Rattle.pb_model_meaning.specs.Steps.{data_of}
use Rattle.pb_model_translation.specs.Positive.{is_constant, HasPositiveCalls}
use Rattle.pb_protocol_folding.specs.FoldedModels.{is_left, decided, unless_constant, and_formula, or_formula, implies_formula, not_formula, folded_formula}
use Rattle.pb_protocol_folding.specs.Laws.{FoldingKeepsPositiveCalls}

unless-positive : (even : Bool) (f whole : Formula) → HasPositiveCalls even f → HasPositiveCalls even whole → HasPositiveCalls even (unless_constant f whole)
unless-positive even f whole h k = by (is_constant f)
  where
    by : (b : Bool) → HasPositiveCalls even (if b then whole else f)
    by true = k
    by false = h

and-positive : (even : Bool) (f g : Formula) (o p : Option Bool) → HasPositiveCalls even f → HasPositiveCalls even g → HasPositiveCalls even (and_formula o p f g)
and-positive even f g (Some true) p h k = unless-positive even g (Formula.And f g) k (h, k)
and-positive even f g (Some false) p h k = h
and-positive even f g None (Some true) h k = unless-positive even f (Formula.And f g) h (h, k)
and-positive even f g None (Some false) h k = k
and-positive even f g None None h k = (h, k)

or-positive : (even : Bool) (f g : Formula) (o p : Option Bool) → HasPositiveCalls even f → HasPositiveCalls even g → HasPositiveCalls even (or_formula o p f g)
or-positive even f g (Some true) p h k = h
or-positive even f g (Some false) p h k = unless-positive even g (Formula.Or f g) k (h, k)
or-positive even f g None (Some true) h k = k
or-positive even f g None (Some false) h k = unless-positive even f (Formula.Or f g) h (h, k)
or-positive even f g None None h k = (h, k)

implies-positive : (even : Bool) (f g : Formula) (o p : Option Bool) → HasPositiveCalls (not even) f → HasPositiveCalls even g → HasPositiveCalls even (implies_formula o p f g)
implies-positive even f g (Some true) p h k = unless-positive even g (Formula.Implies f g) k (h, k)
implies-positive even f g (Some false) p h k = tt
implies-positive even f g None (Some true) h k = k
implies-positive even f g None (Some false) h k = h
implies-positive even f g None None h k = (h, k)

not-positive : (even : Bool) (f : Formula) (o : Option Bool) → HasPositiveCalls (not even) f → HasPositiveCalls even (not_formula o f)
not-positive even f (Some b) h = tt
not-positive even f None h = h

module _ (spec : Spec) (left : Name → Bool) where
  constant-folded : (f : Formula) → is_constant (folded_formula spec left f) ≡ false → is_constant f ≡ false
  constant-folded (Formula.Truth b) h = absurd (true≢false h)
  constant-folded f h = refl

  folded-positive : (f : Formula) (even : Bool) → HasPositiveCalls even f → HasPositiveCalls even (folded_formula spec left f)
  folded-positive (Formula.Truth b) even h = tt
  folded-positive (Formula.Data x) even h = tt
  folded-positive (Formula.Named X) even h = h
  folded-positive (Formula.Not f) even h =
      let g = folded_formula spec left f in not-positive even g (decided g) (folded-positive f (not even) h)
  folded-positive (Formula.And f g) even h =
      let u = folded_formula spec left f in
      let v = folded_formula spec left g in
      and-positive even u v (decided u) (decided v) (folded-positive f even h.0) (folded-positive g even h.1)
  folded-positive (Formula.Or f g) even h =
      let u = folded_formula spec left f in
      let v = folded_formula spec left g in
      or-positive even u v (decided u) (decided v) (folded-positive f even h.0) (folded-positive g even h.1)
  folded-positive (Formula.Implies f g) even h =
      let u = folded_formula spec left f in
      let v = folded_formula spec left g in
      implies-positive even u v (decided u) (decided v) (folded-positive f (not even) h.0) (folded-positive g even h.1)
  folded-positive (Formula.Box A f) even h = ((λ c. h.0 (constant-folded f c)), folded-positive f true h.1)
  folded-positive (Formula.Diamond A f) even h = ((λ c. h.0 (constant-folded f c)), folded-positive f true h.1)
  folded-positive (Formula.Fixpoint sign X f) even h = (h.0, folded-positive f true h.1)

pub folding_keeps_positive_calls : FoldingKeepsPositiveCalls
folding_keeps_positive_calls m even f h = folded-positive (data_of m) (is_left m) f even h
