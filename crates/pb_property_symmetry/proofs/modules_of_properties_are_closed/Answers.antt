use Rattle.pb_text_meaning.specs.Erase.{erase}
use Rattle.pb_property_symmetry.proofs.Instances.{closed}
use Rattle.pb_property_symmetry.proofs.modules_of_properties_are_closed.Goals as goal

pub returns : goal.returns
returns c = λ protocol p m trees is.
    closed (erase is.text) is.is_text.typed m is.compiled (c.made_programs_are_the_schemes.ensures (erase is.text)) (c.compiled_equations_decide.ensures (erase is.text) is.is_text.typed)
    trees is.ends c.compiled_modules_are_closed.ensures
