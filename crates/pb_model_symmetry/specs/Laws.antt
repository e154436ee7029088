-- What symmetries of a model obey: satisfaction is invariant under them, and the equations of the
-- translation have them (Emerson and Sistla 1996; Clarke, Enders, Filkorn and Jha 1996).
use Rattle.std.specs.Prelude.{◌≡◌, ℕ, true}
use Rattle.pb_text_meaning.specs.Syntax.{Name}
use Rattle.pb_text_meaning.specs.Meaning.{equations_of}
use Rattle.pb_model_meaning.specs.Syntax.{Formula, Model}
use Rattle.pb_model_meaning.specs.Steps.{State, is_state}
use Rattle.pb_model_meaning.specs.Satisfaction.{Valuation, satisfying}
use Rattle.pb_model_translation.specs.Translation.{translation_by}
use Rattle.pb_model_translation.specs.Apart.{HasNamesApart}
use Rattle.pb_fixpoint_symmetry.specs.Symmetry.{IsSymmetry}
use Rattle.pb_model_symmetry.specs.Symmetry.{IsModelSymmetry, Follow, is_at_state, carried}

-- a state satisfies a formula where its image does, if the sets of variables follow
abbrev pub SatisfactionIsInvariant : Type 0
SatisfactionIsInvariant =
    (m : Model) (g : Formula) (f : State → State) → IsModelSymmetry m g f → (ρ τ : Valuation) →
    Follow m f ρ τ →
    (s : State) → is_state m s ≡ true → satisfying m τ g (f s) ≡ satisfying m ρ g s

-- the equations of the translation have the symmetry
abbrev pub TranslationsAreSymmetric : Type 0
TranslationsAreSymmetric =
    (m : Model) (names : ℕ → Name) (g : Formula) (f : State → State) → HasNamesApart m →
    IsModelSymmetry m g f →
    IsSymmetry (is_at_state m) (equations_of (translation_by m names g)) (carried f)
