-- Folding keeps words: what it computes are numbers that a text may write.
use Rattle.std.proofs.Common.{◌≡◌, ℕ, zero, suc, ◌<◌, Bool, true, false, if◌then◌else◌, List, [], ◌∷◌, map, filter, refl, arith}
use Rattle.std.specs.Prelude.{ℤ, pos, negsuc, neg_ℤ, ◌*ℤ◌, ◌≤ℤ◌, int_le, Option, Some, None, cond}
use Rattle.std.proofs.lemmas.Bool.{and_parts}
use Rattle.std.proofs.lemmas.Int.{ints, clamps}
use Rattle.std.proofs.lemmas.Nat.{mul-le}
use Rattle.std.proofs.Math.Nat.{mod-lt, div-le_self}
use Rattle.pb_base_values.specs.Carrier.{Value, of_bool}
use Rattle.pb_base_values.specs.Division.{quotient, remainder}
use Rattle.pb_text_meaning.specs.Syntax.{Name, same_name, Operator, Term, Terms, Spec}
use Rattle.pb_text_meaning.specs.declared.function.NamedFunction.{NamedFunction}
use Rattle.pb_text_meaning.specs.declared.function.NamedFunction.TheVariants.{If, Succ, Pred, Abs, Max, Min, Pos2Nat, Pos2Int, Nat2Int}
use Rattle.pb_text_meaning.specs.Functions.{named_function}
use Rattle.pb_text_meaning.specs.Sorts.{is_recogniser, place_in}
use Rattle.pb_text_meaning.specs.Value.{is_true, binary, named_of_one, named_of_two}
use Rattle.pb_text_printer.specs.Sayable.{Each}
use Rattle.pb_model_meaning.specs.Syntax as flat
use Rattle.pb_model_spelling.specs.Writable.{IsWord, TermWritable, AllWritable, SomeWritable, ModalWritable, AssignmentWritable, StepWritable}
use Rattle.pb_model_translation.specs.Positive.{is_constant}
use Rattle.pb_protocol_folding.specs.Folding.{number, is_small, small_value, place_value, written_value, truth_value, is_comparison, is_test, settled, and_of, or_of, implies_of, not_of, negative_of, computed, may_compute, operation_of, folded_operation, recogniser_of, function_of_one, function_of_two, function_of_three, folded_application, is_if, folded, folded_arguments}
use Rattle.pb_protocol_folding.specs.FoldedModels.{folded_assignment, is_change, folded_step, folded_steps, is_possible, decided, unless_constant, and_formula, or_formula, implies_formula, not_formula, folded_formula}
use Rattle.pb_protocol_laws.proofs.Spelled.{IsWritableNumber, number-writable}

-- ---- small values

-- a number of 32 bits
abbrev IsSmall : ℤ → Type 0
IsSmall v = (negsuc 2147483647 ≤ℤ v) × (v ≤ℤ pos 2147483647)

abbrev FoundSmall : Option Value → Type 0
FoundSmall None = Unit {0}
FoundSmall (Some v) = IsSmall v

small-found : (v : Value) → FoundSmall (small_value v)
small-found v = by (is_small v) refl
  where
    by : (b : Bool) → is_small v ≡ b → FoundSmall (if b then Some v else None)
    by true e =
        let both = and_parts (int_le (negsuc 2147483647) v) (int_le v (pos 2147483647)) e in
        let low = both.0 in let high = both.1 in
        (omega (arith, ints), omega (arith, ints))
    by false e = tt

bool-small : (b : Bool) → IsSmall (of_bool b)
bool-small true = (omega (arith, ints), omega (arith, ints))
bool-small false = (omega (arith, ints), omega (arith, ints))

place-small : (o : Option ℕ) → FoundSmall (place_value o)
place-small (Some n) = small-found (pos n)
place-small None = tt

value-small : (spec : Spec) (x : Term) → FoundSmall (written_value spec x)
value-small spec (Term.Truth b) = bool-small b
value-small spec (Term.Number n) = small-found (pos n)
value-small spec (Term.Named x) = place-small (place_in (λ e. same_name e.name x) spec.sorts)
value-small spec (Term.Negative (Term.Number n)) = small-found (neg_ℤ (pos n))
value-small spec x = tt

-- ---- what is computed

bool-number : (b : Bool) → IsWritableNumber (of_bool b)
bool-number true = (omega (arith, ints), omega (arith, ints))
bool-number false = (omega (arith, ints), omega (arith, ints))

quotient-number : (v w : Value) → IsSmall v → IsWritableNumber (quotient v w)
quotient-number (pos a) (pos (suc b)) h = let high = h.1 in let less = div-le_self a (suc b) in (omega (arith, ints), omega (arith, ints, less))
quotient-number (negsuc a) (pos (suc b)) h = let low = h.0 in let less = div-le_self a (suc b) in (omega (arith, ints, less), omega (arith, ints))
quotient-number (pos a) (pos zero) h = (omega (arith, ints), omega (arith, ints))
quotient-number (negsuc a) (pos zero) h = (omega (arith, ints), omega (arith, ints))
quotient-number (pos a) (negsuc b) h = (omega (arith, ints), omega (arith, ints))
quotient-number (negsuc a) (negsuc b) h = (omega (arith, ints), omega (arith, ints))

remainder-number : (v w : Value) → IsSmall w → IsWritableNumber (remainder v w)
remainder-number (pos a) (pos (suc b)) h =
    let high = h.1 in let positive : zero < suc b = omega arith in let less = mod-lt a positive in (omega (arith, ints), omega (arith, ints, less))
remainder-number (negsuc a) (pos (suc b)) h = let high = h.1 in (omega (arith, ints), omega (arith, ints))
remainder-number (pos a) (pos zero) h = (omega (arith, ints), omega (arith, ints))
remainder-number (negsuc a) (pos zero) h = (omega (arith, ints), omega (arith, ints))
remainder-number (pos a) (negsuc b) h = (omega (arith, ints), omega (arith, ints))
remainder-number (negsuc a) (negsuc b) h = (omega (arith, ints), omega (arith, ints))

product-number : (v w : Value) → IsSmall v → IsSmall w → IsWritableNumber (v *ℤ w)
product-number (pos a) (pos b) h k =
    let x = h.1 in let y = k.1 in
    let most = mul-le a b 2147483647 2147483647 (omega (arith, ints)) (omega (arith, ints)) in (omega (arith, ints, most), omega (arith, ints, most))
product-number (pos a) (negsuc b) h k =
    let x = h.1 in let y = k.0 in
    let most = mul-le a (suc b) 2147483647 2147483648 (omega (arith, ints)) (omega (arith, ints)) in (omega (arith, ints, most), omega (arith, ints, most))
product-number (negsuc a) (pos b) h k =
    let x = h.0 in let y = k.1 in
    let most = mul-le (suc a) b 2147483648 2147483647 (omega (arith, ints)) (omega (arith, ints)) in (omega (arith, ints, most), omega (arith, ints, most))
product-number (negsuc a) (negsuc b) h k =
    let x = h.0 in let y = k.0 in
    let most = mul-le (suc a) (suc b) 2147483648 2147483648 (omega (arith, ints)) (omega (arith, ints)) in (omega (arith, ints, most), omega (arith, ints, most))

binary-number : (o : Operator) (v w : Value) → IsSmall v → IsSmall w → IsWritableNumber (binary o v w)
binary-number Operator.Plus v w h k = let a = h.0 in let b = h.1 in let c = k.0 in let d = k.1 in (omega (arith, ints), omega (arith, ints))
binary-number Operator.Minus v w h k = let a = h.0 in let b = h.1 in let c = k.0 in let d = k.1 in (omega (arith, ints), omega (arith, ints))
binary-number Operator.Times v w h k = product-number v w h k
binary-number Operator.Div v w h k = quotient-number v w h
binary-number Operator.Mod v w h k = remainder-number v w k
binary-number o v w h k = bool-number _

one-number : (g : NamedFunction) (v : Value) → IsSmall v → IsWritableNumber (named_of_one g v)
one-number Succ v h = let a = h.0 in let b = h.1 in (omega (arith, ints), omega (arith, ints))
one-number Pred v h = let a = h.0 in let b = h.1 in (omega (arith, ints), omega (arith, ints))
one-number Abs (pos n) h = let b = h.1 in (omega (arith, ints), omega (arith, ints))
one-number Abs (negsuc n) h = let a = h.0 in (omega (arith, ints), omega (arith, ints))
one-number Pos2Nat v h = let a = h.0 in let b = h.1 in (omega (arith, ints), omega (arith, ints))
one-number Pos2Int v h = let a = h.0 in let b = h.1 in (omega (arith, ints), omega (arith, ints))
one-number Nat2Int v h = let a = h.0 in let b = h.1 in (omega (arith, ints), omega (arith, ints))
one-number g v h = (omega (arith, ints), omega (arith, ints))

two-number : (g : NamedFunction) (v w : Value) → IsSmall v → IsSmall w → IsWritableNumber (named_of_two g v w)
two-number Max v w h k = let a = h.0 in let b = h.1 in let c = k.0 in let d = k.1 in (omega (arith, ints, clamps), omega (arith, ints, clamps))
two-number Min v w h k = let a = h.0 in let b = h.1 in let c = k.0 in let d = k.1 in (omega (arith, ints, clamps), omega (arith, ints, clamps))
two-number g v w h k = (omega (arith, ints), omega (arith, ints))

-- ---- connectives

settled-writable : (truth : Bool) (d w : Term) → TermWritable d → TermWritable w → TermWritable (settled truth d w)
settled-writable true d w h k = h
settled-writable false d w h k = by (is_test d)
  where
    by : (b : Bool) → TermWritable (if b then d else w)
    by true = h
    by false = k

and-writable : (b c : Option Bool) (x y : Term) → TermWritable x → TermWritable y → TermWritable (and_of b c x y)
and-writable (Some true) c x y h k = k
and-writable (Some false) c x y h k = tt
and-writable None (Some true) x y h k = h
and-writable None (Some false) x y h k = tt
and-writable None None x y h k = (h, k)

or-writable : (b c : Option Bool) (x y : Term) → TermWritable x → TermWritable y → TermWritable (or_of b c x y)
or-writable (Some true) c x y h k = tt
or-writable (Some false) c x y h k = k
or-writable None (Some true) x y h k = tt
or-writable None (Some false) x y h k = h
or-writable None None x y h k = (h, k)

implies-writable : (b c : Option Bool) (x y : Term) → TermWritable x → TermWritable y → TermWritable (implies_of b c x y)
implies-writable (Some true) c x y h k = k
implies-writable (Some false) c x y h k = tt
implies-writable None (Some true) x y h k = tt
implies-writable None (Some false) x y h k = h
implies-writable None None x y h k = (h, k)

not-writable : (b : Option Bool) (x : Term) → TermWritable x → TermWritable (not_of b x)
not-writable (Some b) x h = tt
not-writable None x h = h

-- ---- numbers and functions

negative-writable : (o : Option Value) (x : Term) → FoundSmall o → TermWritable x → TermWritable (negative_of o x)
negative-writable (Some v) x s h = let a = s.0 in let b = s.1 in number-writable (neg_ℤ v) (omega (arith, ints), omega (arith, ints))
negative-writable None x s h = h

computed-writable : (o : Operator) (v w : Value) → IsSmall v → IsSmall w → TermWritable (computed o v w)
computed-writable o v w h k = by (is_comparison o)
  where
    by : (b : Bool) → TermWritable (if b then Term.Truth (is_true (binary o v w)) else number (binary o v w))
    by true = tt
    by false = number-writable (binary o v w) (binary-number o v w h k)

operation-writable : (o : Operator) (v w : Option Value) (x y : Term) → FoundSmall v → FoundSmall w → TermWritable x → TermWritable y → TermWritable (operation_of o v w x y)
operation-writable o (Some v) (Some w) x y s t h k = by (may_compute o w)
  where
    by : (b : Bool) → TermWritable (if b then computed o v w else Term.Binary o x y)
    by true = computed-writable o v w s t
    by false = (h, k)
operation-writable o (Some v) None x y s t h k = (h, k)
operation-writable o None w x y s t h k = (h, k)

operation-folded : (spec : Spec) (o : Operator) (x y : Term) → TermWritable x → TermWritable y → TermWritable (folded_operation spec o x y)
operation-folded spec o x y h k = operation-writable o (written_value spec x) (written_value spec y) x y (value-small spec x) (value-small spec y) h k

recogniser-writable : (o : Option ℕ) (v : Value) (x : Term) → TermWritable x → TermWritable (recogniser_of o v x)
recogniser-writable (Some n) v x h = tt
recogniser-writable None v x h = h

one-writable : (spec : Spec) (f : Name) (g : Option NamedFunction) (v : Option Value) (whole : Term) → FoundSmall v → TermWritable whole →
    TermWritable (function_of_one spec f g v whole)
one-writable spec f (Some g) (Some v) whole s h = number-writable (named_of_one g v) (one-number g v s)
one-writable spec f None (Some v) whole s h = recogniser-writable (place_in (λ e. is_recogniser f e.recogniser) spec.sorts) v whole h
one-writable spec f (Some g) None whole s h = h
one-writable spec f None None whole s h = h

two-writable : (g : Option NamedFunction) (v w : Option Value) (whole : Term) → FoundSmall v → FoundSmall w → TermWritable whole → TermWritable (function_of_two g v w whole)
two-writable (Some g) (Some v) (Some w) whole s t h = number-writable (named_of_two g v w) (two-number g v w s t)
two-writable (Some g) (Some v) None whole s t h = h
two-writable (Some g) None w whole s t h = h
two-writable None v w whole s t h = h

three-writable : (g : Option NamedFunction) (b : Option Bool) (x y whole : Term) → TermWritable x → TermWritable y → TermWritable whole → TermWritable (function_of_three g b x y whole)
three-writable (Some If) (Some true) x y whole h k w = h
three-writable (Some If) (Some false) x y whole h k w = k
three-writable g b x y whole h k w = w

application-writable : (spec : Spec) (f : Name) (xs : Terms) → IsWord f → SomeWritable xs → TermWritable (folded_application spec f xs)
application-writable spec f Terms.NoTerms w h = absurd h
application-writable spec f (Terms.Then x Terms.NoTerms) w h = one-writable spec f (named_function f) (written_value spec x) _ (value-small spec x) (w, h)
application-writable spec f (Terms.Then x (Terms.Then y Terms.NoTerms)) w h =
    two-writable (named_function f) (written_value spec x) (written_value spec y) _ (value-small spec x) (value-small spec y) (w, h)
application-writable spec f (Terms.Then x (Terms.Then y (Terms.Then z Terms.NoTerms))) w h =
    three-writable (named_function f) (truth_value x) y z _ h.1.0 h.1.1.0 (w, h)
application-writable spec f (Terms.Then x (Terms.Then y (Terms.Then z (Terms.Then t ts)))) w h = (w, h)

-- ---- terms

mutual
  pub folded-writable : (spec : Spec) (truth : Bool) (x : Term) → TermWritable x → TermWritable (folded spec truth x)
  folded-writable spec truth (Term.Truth b) h = tt
  folded-writable spec truth (Term.Number n) h = h
  folded-writable spec truth (Term.Named x) h = h
  folded-writable spec truth (Term.Not x) h = not-writable (truth_value (folded spec true x)) (folded spec true x) (folded-writable spec true x h)
  folded-writable spec truth (Term.Negative x) h =
      negative-writable (written_value spec (folded spec false x)) (folded spec false x) (value-small spec (folded spec false x)) (folded-writable spec false x h)
  folded-writable spec truth (Term.Binary Operator.And x y) h =
      let a = folded-writable spec true x h.0 in let b = folded-writable spec true y h.1 in
      settled-writable truth _ _ (and-writable (truth_value (folded spec true x)) (truth_value (folded spec true y)) _ _ a b) (a, b)
  folded-writable spec truth (Term.Binary Operator.Or x y) h =
      let a = folded-writable spec true x h.0 in let b = folded-writable spec true y h.1 in
      settled-writable truth _ _ (or-writable (truth_value (folded spec true x)) (truth_value (folded spec true y)) _ _ a b) (a, b)
  folded-writable spec truth (Term.Binary Operator.Implies x y) h =
      let a = folded-writable spec true x h.0 in let b = folded-writable spec true y h.1 in
      settled-writable truth _ _ (implies-writable (truth_value (folded spec true x)) (truth_value (folded spec true y)) _ _ a b) (a, b)
  folded-writable spec truth (Term.Binary o x y) h =
      operation-folded spec _ (folded spec false x) (folded spec false y) (folded-writable spec false x h.0) (folded-writable spec false y h.1)
  folded-writable spec truth (Term.Apply f Terms.NoTerms) h = absurd h.1
  folded-writable spec truth (Term.Apply f (Terms.Then x xs)) h =
      application-writable spec f (folded_arguments spec (is_if (named_function f)) (Terms.Then x xs)) h.0
      (folded-writable spec (is_if (named_function f)) x h.1.0, arguments-writable spec false xs h.1.1)
  folded-writable spec truth (Term.Quantified q xs x) h = h

  pub arguments-writable : (spec : Spec) (truth : Bool) (xs : Terms) → AllWritable xs → AllWritable (folded_arguments spec truth xs)
  arguments-writable spec truth Terms.NoTerms h = tt
  arguments-writable spec truth (Terms.Then x xs) h = (folded-writable spec truth x h.0, arguments-writable spec false xs h.1)

-- ---- steps

pub filtered : {A : Type 0} (P : A → Type 0) (p : A → Bool) (xs : List A) → Each P xs → Each P (filter p xs)
filtered P p [] h = tt
filtered P p (x ∷ xs) h = by (p x) (filtered P p xs h.1)
  where
    by : (b : Bool) → Each P (filter p xs) → Each P (cond b (x ∷ filter p xs) (filter p xs))
    by true later = (h.0, later)
    by false later = later

assignments-writable : (spec : Spec) (assigned : List flat.Assignment) → Each AssignmentWritable assigned → Each AssignmentWritable (map (folded_assignment spec) assigned)
assignments-writable spec [] h = tt
assignments-writable spec (a ∷ assigned) h = (folded-writable spec false a.term h.0, assignments-writable spec assigned h.1)

all-folded : (spec : Spec) (steps : List flat.Step) → Each StepWritable steps → Each StepWritable (map (folded_step spec) steps)
all-folded spec [] h = tt
all-folded spec (a ∷ steps) h = (
  (h.0.0, folded-writable spec true a.guard h.0.1, filtered AssignmentWritable is_change _ (assignments-writable spec a.assignments h.0.2)),
  all-folded spec steps h.1,
)

pub steps-writable : (spec : Spec) (steps : List flat.Step) → Each StepWritable steps → Each StepWritable (folded_steps spec steps)
steps-writable spec steps h = filtered StepWritable is_possible _ (all-folded spec steps h)

-- ---- formulas

unless-writable : (f whole : flat.Formula) → ModalWritable f → ModalWritable whole → ModalWritable (unless_constant f whole)
unless-writable f whole h k = by (is_constant f)
  where
    by : (b : Bool) → ModalWritable (if b then whole else f)
    by true = k
    by false = h

and-formula : (o p : Option Bool) (f g : flat.Formula) → ModalWritable f → ModalWritable g → ModalWritable (and_formula o p f g)
and-formula (Some true) p f g h k = unless-writable g (flat.Formula.And f g) k (h, k)
and-formula (Some false) p f g h k = h
and-formula None (Some true) f g h k = unless-writable f (flat.Formula.And f g) h (h, k)
and-formula None (Some false) f g h k = k
and-formula None None f g h k = (h, k)

or-formula : (o p : Option Bool) (f g : flat.Formula) → ModalWritable f → ModalWritable g → ModalWritable (or_formula o p f g)
or-formula (Some true) p f g h k = h
or-formula (Some false) p f g h k = unless-writable g (flat.Formula.Or f g) k (h, k)
or-formula None (Some true) f g h k = k
or-formula None (Some false) f g h k = unless-writable f (flat.Formula.Or f g) h (h, k)
or-formula None None f g h k = (h, k)

implies-formula : (o p : Option Bool) (f g : flat.Formula) → ModalWritable f → ModalWritable g → ModalWritable (implies_formula o p f g)
implies-formula (Some true) p f g h k = unless-writable g (flat.Formula.Implies f g) k (h, k)
implies-formula (Some false) p f g h k = tt
implies-formula None (Some true) f g h k = k
implies-formula None (Some false) f g h k = h
implies-formula None None f g h k = (h, k)

not-formula : (o : Option Bool) (f : flat.Formula) → ModalWritable f → ModalWritable (not_formula o f)
not-formula (Some b) f h = tt
not-formula None f h = h

pub formula-writable : (spec : Spec) (left : Name → Bool) (f : flat.Formula) → ModalWritable f → ModalWritable (folded_formula spec left f)
formula-writable spec left (flat.Formula.Truth b) h = tt
formula-writable spec left (flat.Formula.Data x) h = folded-writable spec true x h
formula-writable spec left (flat.Formula.Named X) h = tt
formula-writable spec left (flat.Formula.Not f) h = not-formula (decided (folded_formula spec left f)) _ (formula-writable spec left f h)
formula-writable spec left (flat.Formula.And f g) h =
    and-formula (decided (folded_formula spec left f)) (decided (folded_formula spec left g)) _ _ (formula-writable spec left f h.0) (formula-writable spec left g h.1)
formula-writable spec left (flat.Formula.Or f g) h =
    or-formula (decided (folded_formula spec left f)) (decided (folded_formula spec left g)) _ _ (formula-writable spec left f h.0) (formula-writable spec left g h.1)
formula-writable spec left (flat.Formula.Implies f g) h =
    implies-formula (decided (folded_formula spec left f)) (decided (folded_formula spec left g)) _ _ (formula-writable spec left f h.0) (formula-writable spec left g h.1)
formula-writable spec left (flat.Formula.Box A f) h = formula-writable spec left f h
formula-writable spec left (flat.Formula.Diamond A f) h = formula-writable spec left f h
formula-writable spec left (flat.Formula.Fixpoint sign X f) h = (h.0, formula-writable spec left f h.1)
