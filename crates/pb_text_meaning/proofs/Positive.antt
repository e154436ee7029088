-- The truth of a positive formula is monotone in the environment.
use Rattle.std.proofs.Common.{◌≡◌, Bool, true, false, not, ◌&&◌, ◌||◌, List, [], ◌∷◌, refl, sym, true≢false}
use Rattle.pb_fixpoint.specs.Solution.{Environment}
use Rattle.pb_text_tree.specs.declared.operator.Quantifier.{Quantifier}
use Rattle.pb_text_tree.specs.declared.operator.Quantifier.TheVariants.{Forall, Exists}
use Rattle.pb_text_meaning.specs.Syntax.{Variable, Formula, Equation, Spec}
use Rattle.pb_base_values.specs.Carrier.{Value, Carrier}
use Rattle.pb_text_meaning.specs.Sorts.{carrier_of}
use Rattle.pb_text_meaning.specs.Value.{Assignment, of_values, quantified, values}
use Rattle.pb_text_meaning.specs.Formula.{Instance, is_instance, truth}
use Rattle.pb_text_meaning.specs.Meaning.{assigned, equation_of}
use Rattle.pb_text_meaning.specs.Positive.{IsPositive}
use Rattle.pb_fixpoint.specs.Fixpoint.{Within, IsMonotone}

-- x is at most y
abbrev Below : Bool → Bool → Type 0
Below x y = x ≡ true → y ≡ true

-- x is at most y at an even number of negations, and y at most x at an odd one
abbrev Ordered : Bool → Bool → Bool → Type 0
Ordered true x y = Below x y
Ordered false x y = Below y x

not-below : (x y : Bool) → Below x y → Below (not y) (not x)
not-below true true h e = e
not-below true false h e = absurd (true≢false (sym (h refl)))
not-below false y h e = refl

and-below : (x y x' y' : Bool) → Below x x' → Below y y' → Below (x && y) (x' && y')
and-below true y true y' h k e = k e
and-below true y false y' h k e = absurd (true≢false (sym (h refl)))
and-below false y x' y' h k e = absurd (true≢false (sym e))

or-below : (x y x' y' : Bool) → Below x x' → Below y y' → Below (x || y) (x' || y')
or-below true y true y' h k e = refl
or-below true y false y' h k e = absurd (true≢false (sym (h refl)))
or-below false y true y' h k e = refl
or-below false y false y' h k e = k e

ordered_self : (even x : Bool) → Ordered even x x
ordered_self true x = λ e. e
ordered_self false x = λ e. e

ordered_not : (even x y : Bool) → Ordered (not even) x y → Ordered even (not x) (not y)
ordered_not true x y h = not-below y x h
ordered_not false x y h = not-below x y h

ordered_and : (even x y x' y' : Bool) → Ordered even x x' → Ordered even y y' → Ordered even (x && y) (x' && y')
ordered_and true x y x' y' h k = and-below x y x' y' h k
ordered_and false x y x' y' h k = and-below x' y' x y h k

ordered_or : (even x y x' y' : Bool) → Ordered even x x' → Ordered even y y' → Ordered even (x || y) (x' || y')
ordered_or true x y x' y' h k = or-below x y x' y' h k
ordered_or false x y x' y' h k = or-below x' y' x y h k

ordered_all : (even : Bool) (q : Quantifier) (p p' : Value → Bool) → ((v : Value) → Ordered even (p v) (p' v)) → (vs : Carrier) → Ordered even (of_values q p vs) (of_values q p' vs)
ordered_all even Forall p p' h [] = ordered_self even true
ordered_all even Forall p p' h (v ∷ vs) = ordered_and even _ _ _ _ (h v) (ordered_all even Forall p p' h vs)
ordered_all even Exists p p' h [] = ordered_self even false
ordered_all even Exists p p' h (v ∷ vs) = ordered_or even _ _ _ _ (h v) (ordered_all even Exists p p' h vs)

ordered_quantified : (even : Bool) (spec : Spec) (q : Quantifier) (xs : List Variable) (p p' : Assignment → Bool)
    → ((a : Assignment) → Ordered even (p a) (p' a)) → (a : Assignment)
    → Ordered even (quantified spec q xs p a) (quantified spec q xs p' a)
ordered_quantified even spec q [] p p' h a = h a
ordered_quantified even spec q (x ∷ xs) p p' h a =
    ordered_all even q _ _ (λ v. ordered_quantified even spec q xs p p' h ((x.name, v) ∷ a)) (carrier_of spec x.sort)

call_below : (fits x y even : Bool) → even ≡ true → Below x y → Ordered even (fits && x) (fits && y)
call_below fits x y true e h = and-below fits x fits y (λ k. k) h
call_below fits x y false e h = absurd (true≢false (sym e))

pub truth-ordered : (spec : Spec) (s t : Environment Instance) → Within s t → (even : Bool) (f : Formula) → IsPositive even f → (a : Assignment) → Ordered even (truth spec a s f) (truth spec a t f)
truth-ordered spec s t st even (Formula.Truth b) p a = ordered_self even b
truth-ordered spec s t st even (Formula.Val x) p a = ordered_self even _
truth-ordered spec s t st even (Formula.Not f) p a = ordered_not even _ _ (truth-ordered spec s t st (not even) f p a)
truth-ordered spec s t st even (Formula.And f g) p a = ordered_and even _ _ _ _ (truth-ordered spec s t st even f p.0 a) (truth-ordered spec s t st even g p.1 a)
truth-ordered spec s t st even (Formula.Or f g) p a = ordered_or even _ _ _ _ (truth-ordered spec s t st even f p.0 a) (truth-ordered spec s t st even g p.1 a)
truth-ordered spec s t st even (Formula.Implies f g) p a =
    ordered_or even _ _ _ _ (ordered_not even _ _ (truth-ordered spec s t st (not even) f p.0 a)) (truth-ordered spec s t st even g p.1 a)
truth-ordered spec s t st even (Formula.Quantified q xs f) p a =
    ordered_quantified even spec q xs _ _ (truth-ordered spec s t st even f p) a
truth-ordered spec s t st even (Formula.Call X es) p a =
    let i : Instance = record { name = X; values = values spec a es } in call_below (is_instance spec i) (s i) (t i) even p (st i)

-- an equation whose right side is positive is monotone
pub positive_is_monotone : (spec : Spec) (X : Equation) → IsPositive true X.right → IsMonotone (equation_of spec X)
positive_is_monotone spec X p = record { keeps = λ s t st i. truth-ordered spec s t st true X.right p (assigned X.parameters i.values []) }
