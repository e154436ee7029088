use Rattle.pb_model_translation.specs.Translation.{translation_by}
use Rattle.pb_model_symmetry.specs.Symmetry.{carried}
use Rattle.pb_module_symmetry.proofs.Translated.{keeps-equations, of-instances}
use Rattle.pb_module_symmetry.proofs.modules_of_models_are_symmetric.Goals as goal

pub returns : goal.returns
returns c = λ m names g typed contents compiled trees ends f states s.
    c.modules_have_the_symmetries_of_texts.ensures (translation_by m names g) typed contents compiled trees ends (carried f) (keeps-equations m names g f states)
    (of-instances m names g f states s)
