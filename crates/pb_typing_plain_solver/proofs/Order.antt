-- The order of sets towards a fixpoint, and that operators and solutions keep it.
use Rattle.std.proofs.Common.{◌≡◌, Bool, true, false, not, if◌then◌else◌, List, refl, sym, ◌∙◌, true≢false}
use Rattle.std.specs.Cmp.{both_ways}
use Rattle.std.proofs.Math.Path.{fun_ext}
use Rattle.pb_fixpoint.specs.declared.Sign.{Sign}
use Rattle.pb_fixpoint.specs.declared.Sign.TheVariants.{Mu, Nu}
use Rattle.pb_fixpoint.specs.Solution.{Environment, Equation, assign, start, solution, operator, value_of}
use Rattle.pb_fixpoint.specs.Fixpoint.{Within, IsMonotone, AreMonotone}
use Rattle.pb_fixpoint.proofs.Solved.{solution-within, iterate-within, assign-within, cond_same}
use Rattle.pb_typing_plain_solver.specs.Side.{side_of, Before, BeforeAt, later_truth}

-- s comes before t
abbrev pub All-before : {I : Type 0} → Bool → Environment I → Environment I → Type 0
All-before {I} side s t = (i : I) → Before side (s i) (t i)

pub before_self : (side x : Bool) → Before side x x
before_self true x = λ e. e
before_self false x = λ e. e

pub before_same : (side x y : Bool) → x ≡ y → Before side x y
before_same true x y e = λ h. sym e ∙ h
before_same false x y e = λ h. e ∙ h

pub before_trans : (side x y z : Bool) → Before side x y → Before side y z → Before side x z
before_trans true x y z p q = λ e. q (p e)
before_trans false x y z p q = λ e. p (q e)

-- both ways
pub before_both : (side x y : Bool) → Before side x y → Before side y x → x ≡ y
before_both true x y p q = both_ways x y p q
before_both false x y p q = both_ways x y q p

pub before_not : (side x y : Bool) → Before side x y → Before (not side) y x
before_not true x y p = p
before_not false x y p = p

pub joined_left : (side x y : Bool) → Before side x (later_truth side x y)
joined_left true true y = λ e. refl
joined_left true false y = λ e. absurd (true≢false (sym e))
joined_left false true y = λ e. refl
joined_left false false y = λ e. e

pub joined_right : (side x y : Bool) → Before side y (later_truth side x y)
joined_right true true y = λ e. refl
joined_right true false y = λ e. e
joined_right false true y = λ e. e
joined_right false false y = λ e. absurd (true≢false (sym e))

pub joined_least : (side x y z : Bool) → Before side x z → Before side y z → Before side (later_truth side x y) z
joined_least true true y z p q = p
joined_least true false y z p q = q
joined_least false true y z p q = q
joined_least false false y z p q = p

-- ---- assignments

if_before : (side b x y x' y' : Bool) → (b ≡ true → Before side x x') → Before side y y' → Before side (if b then x else y) (if b then x' else y')
if_before side true x y x' y' p q = p refl
if_before side false x y x' y' p q = q

pub assign-before : {I : Type 0} (side : Bool) (X : Equation I) (s t F G : Environment I) → All-before side s t → BeforeAt side X F G → All-before side (assign s X F) (assign t X G)
assign-before side X s t F G st FG i = if_before side (X.owns i) (F i) (s i) (G i) (t i) (FG i) (st i)

-- an assignment reads X's instances alone
pub assign-same : {I : Type 0} (X : Equation I) (t F G : Environment I) → ((i : I) → X.owns i ≡ true → F i ≡ G i) → assign t X F ≡ assign t X G
assign-same X t F G h = fun_ext (λ i. cond_same (X.owns i) (F i) (G i) (t i) (h i))

-- ---- solutions and operators

pub solution-before : {I : Type 0} (side : Bool) (E : List (Equation I)) → AreMonotone E → (s t : Environment I) → All-before side s t → All-before side (solution E s) (solution E t)
solution-before true E me s t st = solution-within E me s t st
solution-before false E me s t st = solution-within E me t s st

holds-before : {I : Type 0} (side : Bool) (X : Equation I) → IsMonotone X → (s t : Environment I) → All-before side s t → (i : I) → Before side (X.holds i s) (X.holds i t)
holds-before true X m s t st i = m.keeps s t st i
holds-before false X m s t st i = m.keeps t s st i

pub operator-before : {I : Type 0} (side : Bool) (X : Equation I) (E : List (Equation I)) → IsMonotone X → AreMonotone E
    → (t F G : Environment I) → BeforeAt side X F G → All-before side (operator X E t F) (operator X E t G)
operator-before side X E m me t F G FG =
    holds-before side X m _ _ (solution-before side E me _ _ (assign-before side X t t F G (λ i. before_self side (t i)) FG))

value-within : {I : Type 0} (X : Equation I) (E : List (Equation I)) → IsMonotone X → AreMonotone E → (s t : Environment I) → Within s t → Within (value_of X E s) (value_of X E t)
value-within X E m me s t st =
    iterate-within (operator X E s) (operator X E t)
    (λ F G FG i h. m.keeps (solution E (assign s X F)) (solution E (assign t X G)) (solution-within E me (assign s X F) (assign t X G) (assign-within X s t F G st FG)) i h)
    X.size (start X.sign)

pub value-before : {I : Type 0} (side : Bool) (X : Equation I) (E : List (Equation I)) → IsMonotone X → AreMonotone E
    → (s t : Environment I) → All-before side s t → All-before side (value_of X E s) (value_of X E t)
value-before true X E m me s t st = value-within X E m me s t st
value-before false X E m me s t st = value-within X E m me t s st

-- every set comes after the one at which the steps begin
pub start-before : {I : Type 0} (sign : Sign) (F : Environment I) (i : I) → Before (side_of sign) (start sign i) (F i)
start-before Mu F i = λ e. absurd (true≢false (sym e))
start-before Nu F i = λ e. refl
