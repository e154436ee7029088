-- Quantifiers in normal form take the slots behind the parameters in order, and each slot that is read has a value.
use Rattle.std.proofs.Common.{◌≡◌, ℕ, zero, suc, ◌+◌, ◌≤◌, ◌==◌, Bool, true, false, not, ◌&&◌, ◌||◌, if◌then◌else◌, List, [], ◌∷◌, ◌++◌, length, Option, Some, None, refl, sym, ◌∙◌, ap, subst, arith, tests}
use Rattle.std.specs.List.{All, range_with_len}
use Rattle.std.specs.Prelude.{nat_lt, unwrap_or}
use Rattle.std.proofs.lemmas.Bool.{or_from, and_from, lt-ltb, eq-eqb, le-ltb}
use Rattle.pb_text_tree.specs.declared.operator.Quantifier.{Quantifier}
use Rattle.pb_text_meaning.specs.Syntax as syntax
use Rattle.pb_text_meaning.specs.Syntax.{Name, same_name, Variable, Terms, Equation, Spec}
use Rattle.pb_text_meaning.specs.declared.function.NamedFunction.{NamedFunction}
use Rattle.pb_text_meaning.specs.declared.function.NamedFunction.TheVariants.{If, Succ, Pred, Abs, Max, Min, Pos2Nat, Pos2Int, Nat2Int}
use Rattle.pb_text_meaning.specs.Functions.{named_function}
use Rattle.pb_typing_declarations.specs.Enumerators.{Position, enumerator_of, recogniser_of}
use Rattle.pb_typing_rules.specs.Scope.{Scope, bound}
use Rattle.pb_typing_rules.specs.WellTyped.{parameter_scope}
use Rattle.pb_normal.specs.Expansion.{expanded}
use Rattle.pb_normal.specs.Normal.{Term, Argument, Formula}
use Rattle.pb_normal.specs.Normalisation as made
use Rattle.pb_normal.specs.Normalisation.{Slotting, unslotted, with_slot, with_slots, applied_to_one, applied_to_two, applied_to_three, applied, slotted, slotted_all, width, signed_test, signed_quantifier, each, arguments, place_of, call, normal}
use Rattle.pb_normal.specs.Equations.{normal_equation}
use Rattle.pb_normal.specs.SlotOrder.{quantified_slots, reads_only, IsClosed}
use Rattle.pb_typing_tree.proofs.Parameters.{free-parameters}

-- ---- the slots of quantifiers

range-append : (n j k : ℕ) → range_with_len n (j + k) ≡ range_with_len n j ++ range_with_len (n + j) k
range-append n zero k =
    let none : zero + k ≡ k = omega arith in
    let here : n + zero ≡ n = omega arith in
    ap (range_with_len n) none ∙ ap (λ (a : ℕ). range_with_len a k) (sym here)
range-append n (suc j) k =
    let more : suc j + k ≡ suc (j + k) = omega arith in
    let next : (n + 1) + j ≡ n + suc j = omega arith in
    ap (range_with_len n) more
    ∙ ap (λ (ss : List ℕ). n ∷ ss) (range-append (n + 1) j k ∙ ap (λ (a : ℕ). range_with_len (n + 1) j ++ range_with_len a k) next)

join-slots : (n j k : ℕ) (xs ys : List ℕ) → xs ≡ range_with_len n j → ys ≡ range_with_len (n + j) k → xs ++ ys ≡ range_with_len n (j + k)
join-slots n j k xs ys h i = ap (λ (ss : List ℕ). ss ++ ys) h ∙ ap (λ (ss : List ℕ). range_with_len n j ++ ss) i ∙ sym (range-append n j k)

test-slots : (even : Bool) (x : Term) → quantified_slots (signed_test even x) ≡ []
test-slots true x = refl
test-slots false x = refl

call-slots : (o : Option ℕ) (es : List Argument) → quantified_slots (call o es) ≡ []
call-slots None es = refl
call-slots (Some X) es = refl

each-slots : (spec : Spec) (m : Quantifier) (xs : List Variable) (body : Slotting → ℕ → Formula) (k : ℕ) → ((c : Slotting) (n : ℕ) → quantified_slots (body c n) ≡ range_with_len n k)
    → (c : Slotting) (n : ℕ) → quantified_slots (each spec m xs c n body) ≡ range_with_len n (length xs + k)
each-slots spec m [] body k says c n = let none : k ≡ 0 + k = omega arith in says c n ∙ ap (range_with_len n) none
each-slots spec m (x ∷ xs) body k says c n =
    let more : suc (length xs + k) ≡ suc (length xs) + k = omega arith in
    let next : suc n ≡ n + 1 = omega arith in
    ap (λ (ss : List ℕ). n ∷ ss) (each-slots spec m xs body k says (with_slot x.name n c) (suc n) ∙ ap (λ (a : ℕ). range_with_len a (length xs + k)) next)
    ∙ ap (range_with_len n) more

normal-slots : (spec : Spec) (f : syntax.Formula) (even : Bool) (scope : Scope) (c : Slotting) (n : ℕ) → quantified_slots (normal spec even c scope n f) ≡ range_with_len n (width f)
normal-slots spec (syntax.Formula.Truth b) even scope c n = test-slots even (Term.Truth b)
normal-slots spec (syntax.Formula.Val x) even scope c n = test-slots even (slotted spec c x)
normal-slots spec (syntax.Formula.Not f) even scope c n = normal-slots spec f (not even) scope c n
normal-slots spec (syntax.Formula.And f g) even scope c n =
    join-slots n (width f) (width g) _ _ (normal-slots spec f even scope c n) (normal-slots spec g even scope c (n + width f))
normal-slots spec (syntax.Formula.Or f g) even scope c n =
    join-slots n (width f) (width g) _ _ (normal-slots spec f even scope c n) (normal-slots spec g even scope c (n + width f))
normal-slots spec (syntax.Formula.Implies f g) even scope c n =
    join-slots n (width f) (width g) _ _ (normal-slots spec f (not even) scope c n) (normal-slots spec g even scope c (n + width f))
normal-slots spec (syntax.Formula.Quantified q xs f) even scope c n =
    each-slots spec (signed_quantifier q even) xs (λ d m. normal spec even d (bound spec xs scope) m f) (width f) (normal-slots spec f even (bound spec xs scope)) c n
normal-slots spec (syntax.Formula.Call X es) even scope c n = call-slots (place_of 0 spec.equations X) (arguments spec c scope es)

pub equation-slots : (spec : Spec) (X : Equation) → quantified_slots (normal_equation spec X) ≡ range_with_len (length X.parameters) (width (expanded X.right))
equation-slots spec X = normal-slots spec (expanded X.right) true (parameter_scope spec X) (with_slots X.parameters 0 unslotted) (length X.parameters)

-- ---- the slots that are read

-- the slots of the variables in scope have values, and those from n on have none
abbrev InScope : Slotting → (ℕ → Bool) → Type 0
InScope c has_value = (x : Name) (s : ℕ) → c x ≡ Some s → has_value s ≡ true

abbrev NoneFrom : ℕ → (ℕ → Bool) → Type 0
NoneFrom n has_value = (s : ℕ) → n ≤ s → has_value s ≡ false

either-right : (b c : Bool) → c ≡ true → b || c ≡ true
either-right true c h = refl
either-right false c h = h

enumerator-reads : (known : ℕ → Bool) (o : Option Position) → reads_only known (made.term_of_enumerator o) ≡ true
enumerator-reads known None = refl
enumerator-reads known (Some p) = refl

named-reads : (spec : Spec) (known : ℕ → Bool) (o : Option ℕ) (x : Name) → ((s : ℕ) → o ≡ Some s → known s ≡ true) → reads_only known (made.term_of_name spec o x) ≡ true
named-reads spec known None x h = enumerator-reads known (enumerator_of spec x)
named-reads spec known (Some s) x h = h s refl

recognised-reads : (known : ℕ → Bool) (o : Option Position) (x : Term) → reads_only known x ≡ true → reads_only known (made.recognised o x) ≡ true
recognised-reads known None x h = refl
recognised-reads known (Some p) x h = h

one-reads : (spec : Spec) (known : ℕ → Bool) (f : Name) (g : Option NamedFunction) (x : Term) → reads_only known x ≡ true → reads_only known (applied_to_one spec f g x) ≡ true
one-reads spec known f (Some If) x h = refl
one-reads spec known f (Some Succ) x h = h
one-reads spec known f (Some Pred) x h = h
one-reads spec known f (Some Abs) x h = h
one-reads spec known f (Some Max) x h = refl
one-reads spec known f (Some Min) x h = refl
one-reads spec known f (Some Pos2Nat) x h = h
one-reads spec known f (Some Pos2Int) x h = h
one-reads spec known f (Some Nat2Int) x h = h
one-reads spec known f None x h = recognised-reads known (recogniser_of spec f) x h

two-reads : (known : ℕ → Bool) (g : Option NamedFunction) (x y : Term) → reads_only known x ≡ true → reads_only known y ≡ true → reads_only known (applied_to_two g x y) ≡ true
two-reads known (Some If) x y h k = refl
two-reads known (Some Succ) x y h k = refl
two-reads known (Some Pred) x y h k = refl
two-reads known (Some Abs) x y h k = refl
two-reads known (Some Max) x y h k = and_from (reads_only known x) (reads_only known y) h k
two-reads known (Some Min) x y h k = and_from (reads_only known x) (reads_only known y) h k
two-reads known (Some Pos2Nat) x y h k = refl
two-reads known (Some Pos2Int) x y h k = refl
two-reads known (Some Nat2Int) x y h k = refl
two-reads known None x y h k = refl

three-reads : (known : ℕ → Bool) (g : Option NamedFunction) (x y z : Term) → reads_only known x ≡ true
    → reads_only known y ≡ true → reads_only known z ≡ true → reads_only known (applied_to_three g x y z) ≡ true
three-reads known (Some If) x y z h k l = and_from (reads_only known x && reads_only known y) (reads_only known z) (and_from (reads_only known x) (reads_only known y) h k) l
three-reads known (Some Succ) x y z h k l = refl
three-reads known (Some Pred) x y z h k l = refl
three-reads known (Some Abs) x y z h k l = refl
three-reads known (Some Max) x y z h k l = refl
three-reads known (Some Min) x y z h k l = refl
three-reads known (Some Pos2Nat) x y z h k l = refl
three-reads known (Some Pos2Int) x y z h k l = refl
three-reads known (Some Nat2Int) x y z h k l = refl
three-reads known None x y z h k l = refl

abbrev AllRead : (ℕ → Bool) → List Term → Type 0
AllRead known [] = Unit {0}
AllRead known (x ∷ xs) = (reads_only known x ≡ true) × AllRead known xs

applied-reads : (spec : Spec) (known : ℕ → Bool) (f : Name) (xs : List Term) → AllRead known xs → reads_only known (applied spec f xs) ≡ true
applied-reads spec known f [] h = refl
applied-reads spec known f (x ∷ []) h = one-reads spec known f (named_function f) x h.0
applied-reads spec known f (x ∷ y ∷ []) h = two-reads known (named_function f) x y h.0 h.1.0
applied-reads spec known f (x ∷ y ∷ z ∷ []) h = three-reads known (named_function f) x y z h.0 h.1.0 h.1.1.0
applied-reads spec known f (x ∷ y ∷ z ∷ w ∷ ws) h = refl

mutual
  slotted-reads : (spec : Spec) (c : Slotting) (known : ℕ → Bool) → InScope c known → (x : syntax.Term) → reads_only known (slotted spec c x) ≡ true
  slotted-reads spec c known inside (syntax.Term.Truth b) = refl
  slotted-reads spec c known inside (syntax.Term.Number n) = refl
  slotted-reads spec c known inside (syntax.Term.Named x) = named-reads spec known (c x) x (inside x)
  slotted-reads spec c known inside (syntax.Term.Not x) = slotted-reads spec c known inside x
  slotted-reads spec c known inside (syntax.Term.Negative x) = slotted-reads spec c known inside x
  slotted-reads spec c known inside (syntax.Term.Binary o x y) =
      and_from (reads_only known (slotted spec c x)) (reads_only known (slotted spec c y)) (slotted-reads spec c known inside x) (slotted-reads spec c known inside y)
  slotted-reads spec c known inside (syntax.Term.Apply f xs) = applied-reads spec known f (slotted_all spec c xs) (slotted-all-read spec c known inside xs)
  slotted-reads spec c known inside (syntax.Term.Quantified q xs x) = refl

  slotted-all-read : (spec : Spec) (c : Slotting) (known : ℕ → Bool) → InScope c known → (xs : Terms) → AllRead known (slotted_all spec c xs)
  slotted-all-read spec c known inside Terms.NoTerms = tt
  slotted-all-read spec c known inside (Terms.Then x xs) = (slotted-reads spec c known inside x, slotted-all-read spec c known inside xs)

-- ---- formulas that are closed

test-closed : (known : ℕ → Bool) (even : Bool) (x : Term) → reads_only known x ≡ true → IsClosed known (signed_test even x)
test-closed known true x h = h
test-closed known false x h = h

arguments-closed : (spec : Spec) (c : Slotting) (scope : Scope) (known : ℕ → Bool) → InScope c known → (es : Terms) → All (λ (e : Argument). reads_only known e.term ≡ true) (arguments spec c scope es)
arguments-closed spec c scope known inside Terms.NoTerms k d below = absurd (omega arith)
arguments-closed spec c scope known inside (Terms.Then x xs) zero d below = slotted-reads spec c known inside x
arguments-closed spec c scope known inside (Terms.Then x xs) (suc k) d below = arguments-closed spec c scope known inside xs k d (omega arith)

call-closed : (known : ℕ → Bool) (o : Option ℕ) (es : List Argument) → All (λ (e : Argument). reads_only known e.term ≡ true) es → IsClosed known (call o es)
call-closed known None es all = refl
call-closed known (Some X) es all = all

above : (s n : ℕ) → suc n ≤ s → (s == n) ≡ false
above s n le = grind (arith, tests)

-- a quantifier's slot has a value in its body
in-scope-next : (c : Slotting) (known : ℕ → Bool) (y : Name) (n : ℕ) → InScope c known → InScope (with_slot y n c) (λ k. k == n || known k)
in-scope-next c known y n inside x s e = by-name (same_name y x) e
  where
    by-name : (same : Bool) → (if same then Some n else c x) ≡ Some s → (s == n || known s) ≡ true
    by-name true e =
        let f : n ≡ s = ap (λ o. unwrap_or o 0) e in
        subst (λ (m : ℕ). (s == m || known s) ≡ true) (sym f) (ap (λ b. b || known s) (eq-eqb s s refl))
    by-name false e = either-right (s == n) (known s) (inside x s e)

none-next : (known : ℕ → Bool) (n : ℕ) → NoneFrom n known → NoneFrom (suc n) (λ k. k == n || known k)
none-next known n none s le = or_from (s == n) (known s) (above s n le) (none s (omega arith))

-- what a body promises wherever the slots of the variables in scope have values
abbrev Closes : (Slotting → ℕ → Formula) → Type 0
Closes body = (c : Slotting) (n : ℕ) (known : ℕ → Bool) → InScope c known → NoneFrom n known → IsClosed known (body c n)

each-closed : (spec : Spec) (m : Quantifier) (xs : List Variable) (body : Slotting → ℕ → Formula) → Closes body → Closes (λ c n. each spec m xs c n body)
each-closed spec m [] body closes c n known inside none = closes c n known inside none
each-closed spec m (x ∷ xs) body closes c n known inside none = (
  none n (omega arith),
  each-closed spec m xs body closes (with_slot x.name n c) (suc n) (λ k. k == n || known k) (in-scope-next c known x.name n inside) (none-next known n none),
)

none-later : (known : ℕ → Bool) (n m : ℕ) → n ≤ m → NoneFrom n known → NoneFrom m known
none-later known n m le none s h = none s (omega (arith, le, h))

normal-closed : (spec : Spec) (f : syntax.Formula) (even : Bool) (scope : Scope) → Closes (λ c n. normal spec even c scope n f)
normal-closed spec (syntax.Formula.Truth b) even scope c n known inside none = test-closed known even (Term.Truth b) refl
normal-closed spec (syntax.Formula.Val x) even scope c n known inside none = test-closed known even (slotted spec c x) (slotted-reads spec c known inside x)
normal-closed spec (syntax.Formula.Not f) even scope c n known inside none = normal-closed spec f (not even) scope c n known inside none
normal-closed spec (syntax.Formula.And f g) even scope c n known inside none =
    (normal-closed spec f even scope c n known inside none, normal-closed spec g even scope c (n + width f) known inside (none-later known n (n + width f) (omega arith) none))
normal-closed spec (syntax.Formula.Or f g) even scope c n known inside none =
    (normal-closed spec f even scope c n known inside none, normal-closed spec g even scope c (n + width f) known inside (none-later known n (n + width f) (omega arith) none))
normal-closed spec (syntax.Formula.Implies f g) even scope c n known inside none =
    (normal-closed spec f (not even) scope c n known inside none, normal-closed spec g even scope c (n + width f) known inside (none-later known n (n + width f) (omega arith) none))
normal-closed spec (syntax.Formula.Quantified q xs f) even scope c n known inside none =
    each-closed spec (signed_quantifier q even) xs (λ d m. normal spec even d (bound spec xs scope) m f) (normal-closed spec f even (bound spec xs scope)) c n known inside none
normal-closed spec (syntax.Formula.Call X es) even scope c n known inside none =
    call-closed known (place_of 0 spec.equations X) (arguments spec c scope es) (arguments-closed spec c scope known inside es)

pub equation-closed : (spec : Spec) (X : Equation) → IsClosed (λ s. nat_lt s (length X.parameters)) (normal_equation spec X)
equation-closed spec X =
    let count = length X.parameters in
    normal-closed spec (expanded X.right) true (parameter_scope spec X) (with_slots X.parameters 0 unslotted) count (λ s. nat_lt s count)
    (λ x s e. lt-ltb s count (free-parameters X.parameters x s e)) (λ s le. le-ltb s count le)
