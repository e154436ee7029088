-- Unions of sets of steps.
use Rattle.std.specs.Prelude.{Bool, true, false, List, [], ◌∷◌}
use Rattle.pb_text_meaning.specs.Syntax.{Name}
use Rattle.pb_model_tree.specs.declared.step_set.StepSetLink as declared_link
use Rattle.pb_model_meaning.specs.Syntax.{StepSet}
use Rattle.pb_protocol_tree.specs.Form.{StepSetForm}
use Rattle.pb_protocol_folding.specs.View.{set_of}

-- the union of sets, read to the right; that of none is the set of no step
abbrev pub united : List StepSet → StepSet
united [] = StepSet.Complement StepSet.All
united (A ∷ []) = A
united (A ∷ B ∷ As) = StepSet.Union A (united (B ∷ As))

-- the sets behind the links of a union
abbrev pub set_behind : declared_link.StepSetLink → StepSet
set_behind link = set_of link.operand

-- the step of a name
abbrev pub only : Name → StepSet
only x = StepSet.Only x

-- whether a set as it is written is that of all steps
abbrev pub is_each : StepSetForm → Bool
is_each (StepSetForm.all p) = true
is_each A = false
