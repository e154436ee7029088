-- What a `Declarations` shows: the text whose declarations it has read, and what that says.
use Rattle.std.specs.Prelude.{ℕ}
use Rattle.pb_sorts.specs.Counting.{instance_limit}
use Rattle.pb_text_tree.specs.Form.{SpecForm, spec_form}
use Rattle.pb_text_meaning.specs.Syntax.{Spec}
use Rattle.pb_text_meaning.specs.Erase.{erase}
use Rattle.pb_typing_declarations.specs.declared.declarations.Declarations.{Declarations}

abbrev pub text_of : Declarations → SpecForm
text_of d = spec_form d.tables.spec.now

abbrev pub spec_of : Declarations → Spec
spec_of d = erase (text_of d)

-- how many instances it may declare
abbrev pub limit_of : Declarations → ℕ
limit_of d = instance_limit d.counting
