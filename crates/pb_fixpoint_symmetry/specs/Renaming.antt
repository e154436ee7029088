-- Symmetries of a system are those of the same system over other instances, as of a text's
-- instances and their numbers.
use Rattle.std.specs.Prelude.{◌≡◌, Bool, true, List}
use Rattle.pb_fixpoint.specs.Solution.{Equation}
use Rattle.pb_fixpoint.specs.Transfer.{AreSame}
use Rattle.pb_fixpoint_symmetry.specs.Symmetry.{IsSymmetry, AreClosed}

-- known instances of two kinds, one for one: `named` goes from J to I, and `back` undoes it
pub record AreRenamed {I J : Type 0} (known : J → Bool) (named : J → I) (numbered : I → Bool)
    (back : I → J) : Type 0 where
  pub there : (j : J) → known j ≡ true → numbered (named j) ≡ true
  pub here : (i : I) → numbered i ≡ true → known (back i) ≡ true
  pub again : (j : J) → known j ≡ true → back (named j) ≡ j
  pub undone : (i : I) → numbered i ≡ true → named (back i) ≡ i

-- a symmetry goes along with the names
abbrev pub SymmetriesAreRenamed : Type 0 → Type 0 → Type 0
SymmetriesAreRenamed I J =
    (known : J → Bool) (named : J → I) (numbered : I → Bool) (back : I → J) →
    AreRenamed known named numbered back →
    (E : List (Equation I)) (D : List (Equation J)) → AreSame known named E D →
    (f : J → J) → ((j : J) → known j ≡ true → known (f j) ≡ true) → IsSymmetry known D f →
    IsSymmetry numbered E (λ i. named (f (back i)))

-- a system that is another one under other names reads known instances alone
abbrev pub RenamedSystemsAreClosed : Type 0 → Type 0 → Type 0
RenamedSystemsAreClosed I J =
    (known : J → Bool) (named : J → I) (numbered : I → Bool) (back : I → J) →
    AreRenamed known named numbered back →
    (E : List (Equation I)) (D : List (Equation J)) → AreSame known named E D → AreClosed numbered E
