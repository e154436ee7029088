-- Symmetries of a model, as far as a formula reads it: maps of states that keep the steps of each
-- set that it names, and what it reads of states (Emerson and Sistla 1996; Clarke, Enders, Filkorn
-- and Jha 1996).
use Rattle.std.specs.Prelude.{◌≡◌, Bool, true, if◌then◌else◌, List, map}
use Rattle.std.specs.List.{list_any, list_all}
use Rattle.pb_fixpoint.specs.declared.Sign.{Sign}
use Rattle.pb_text_meaning.specs.Syntax.{Name}
use Rattle.pb_text_meaning.specs.Formula.{Instance}
use Rattle.pb_model_meaning.specs.Syntax.{StepSet, Formula, Model}
use Rattle.pb_model_meaning.specs.Steps.{State, is_state, successors}
use Rattle.pb_model_meaning.specs.Satisfaction.{States, Valuation, satisfying}
use Rattle.pb_model_translation.specs.Translation.{equation_count}

-- a set of states, where all that lies outside the ranges counts as one
abbrev pub seen : Model → States → Bool → States
seen m S b s = if is_state m s then S s else b

-- two lists have the same states, in any order and number
abbrev pub HaveSameStates : Model → List State → List State → Type 0
HaveSameStates m ss ts =
    (S : States) (b : Bool) → (list_all (seen m S b) ss ≡ list_all (seen m S b) ts)
    × (list_any (seen m S b) ss ≡ list_any (seen m S b) ts)

-- the steps of a set lead from a state's image where they lead from the state, and then on to the
-- images
abbrev pub KeepsSteps : Model → (State → State) → StepSet → Type 0
KeepsSteps m f A =
    (s : State) → is_state m s ≡ true →
    HaveSameStates m (successors m A (f s)) (map f (successors m A s))

-- sets of images, for sets of states
abbrev pub Follow : Model → (State → State) → Valuation → Valuation → Type 0
Follow m f ρ τ = (X : Name) (s : State) → is_state m s ≡ true → τ X (f s) ≡ ρ X s

-- a formula that has no equation of its own, and holds of a state where it holds of its image
pub record IsKeptWhole (m : Model) (f : State → State) (g : Formula) : Type 0 where
  pub alone : equation_count g ≡ 0
  pub same : (ρ τ : Valuation) → Follow m f ρ τ → (s : State) → is_state m s ≡ true
      → satisfying m τ g (f s) ≡ satisfying m ρ g s

-- a formula is put together of such, by steps that are kept
pub data KeepsFormula (m : Model) (f : State → State) : Formula → Type 0 where
  OfWhole : (g : Formula) → IsKeptWhole m f g → KeepsFormula m f g
  OfNot : (g : Formula) → KeepsFormula m f g → KeepsFormula m f (Formula.Not g)
  OfAnd : (g h : Formula) → KeepsFormula m f g → KeepsFormula m f h
      → KeepsFormula m f (Formula.And g h)
  OfOr : (g h : Formula) → KeepsFormula m f g → KeepsFormula m f h
      → KeepsFormula m f (Formula.Or g h)
  OfImplies : (g h : Formula) → KeepsFormula m f g → KeepsFormula m f h
      → KeepsFormula m f (Formula.Implies g h)
  OfBox : (A : StepSet) (g : Formula) → KeepsSteps m f A → KeepsFormula m f g
      → KeepsFormula m f (Formula.Box A g)
  OfDiamond : (A : StepSet) (g : Formula) → KeepsSteps m f A → KeepsFormula m f g
      → KeepsFormula m f (Formula.Diamond A g)
  OfFixpoint : (sign : Sign) (X : Name) (g : Formula) → KeepsFormula m f g
      → KeepsFormula m f (Formula.Fixpoint sign X g)

-- a symmetry of a model and a formula: an image is a state exactly where its original is one
pub record IsModelSymmetry (m : Model) (g : Formula) (f : State → State) : Type 0 where
  pub states : (s : State) → is_state m (f s) ≡ is_state m s
  pub formula : KeepsFormula m f g

-- ---- instances

-- an instance whose values are a state
abbrev pub is_at_state : Model → Instance → Bool
is_at_state m i = is_state m i.values

-- the same equation at the image
abbrev pub carried : (State → State) → Instance → Instance
carried f i = record { name = i.name; values = f i.values }
