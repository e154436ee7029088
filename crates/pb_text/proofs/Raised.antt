-- What is known of an answer whose error is raised to the layer above, by what is known below.
use Rattle.std.proofs.Common.{◌≡◌, subst, Result, Ok, Err}
use Rattle.std.specs.Prelude.{MatchResult, IsErrAnd}
use Rattle.pb_base.specs.OrMemory.{IfFault, raised}
use Rattle.pb_base.specs.declared.or_memory.OrMemory.{OrMemory}
use Rattle.pb_base.proofs.Faults.{if_raised}

-- P holds of what is answered, or Q of the fault
abbrev pub Answers : {A F : Type 0} → (A → Type 0) → (F → Type 0) → Result A (OrMemory F) → Type 0
Answers P Q result = MatchResult result P (λ error. IfFault error Q)

-- the answer above is the answer below, or its error the one below, raised
abbrev pub Raised : {A F G : Type 0} → (F → G → Type 0) → Result A (OrMemory F) → Result A (OrMemory G) → Type 0
Raised gives below above = MatchResult below (λ x. above ≡ Ok x) (λ error. IsErrAnd above (raised gives error))

module _ {A F G : Type 0} (gives : F → G → Type 0) (P : A → Type 0) (Q : F → Type 0) where
  pub ok-raised : (below : Result A (OrMemory F)) (x : A) → Raised gives below (Ok x) → Answers P Q below → P x
  ok-raised (Ok y) x same h = let e : y ≡ x = cc in subst P e h
  ok-raised (Err error) x none h = absurd none

  pub err-raised : (R : G → Type 0) (below : Result A (OrMemory F)) (error : OrMemory G) → Raised gives below (Err error)
      → ((fault : F) (above : G) → gives fault above → Q fault → R above) → Answers P Q below → IfFault error R
  err-raised R (Ok x) error none f h = let no : ⊥ = cc in absurd no
  err-raised R (Err low) error made f h = if_raised low error made f h
