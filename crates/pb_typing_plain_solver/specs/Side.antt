-- Sets of instances, ordered towards the fixpoint that a sign asks for: upwards for mu, downwards
-- for nu.
use Rattle.std.specs.Prelude.{◌≡◌, Bool, true, false, ◌&&◌, ◌||◌}
use Rattle.pb_fixpoint.specs.declared.Sign.{Sign}
use Rattle.pb_fixpoint.specs.declared.Sign.TheVariants.{Mu, Nu}
use Rattle.pb_fixpoint.specs.Solution.{Environment, Equation}

-- whether sets grow on the way to the fixpoint
abbrev pub side_of : Sign → Bool
side_of Mu = true
side_of Nu = false

-- x comes before y: false before true upwards, true before false downwards
abbrev pub Before : Bool → Bool → Bool → Type 0
Before true x y = x ≡ true → y ≡ true
Before false x y = y ≡ true → x ≡ true

-- at X's instances, s comes before t
abbrev pub BeforeAt : {I : Type 0} → Bool → Equation I → Environment I → Environment I → Type 0
BeforeAt {I} side X s t = (i : I) → X.owns i ≡ true → Before side (s i) (t i)

-- the first truth that comes after both
abbrev pub later_truth : Bool → Bool → Bool → Bool
later_truth true x y = x || y
later_truth false x y = x && y
