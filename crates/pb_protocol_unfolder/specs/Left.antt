-- The steps with their values that are left, and what sets of steps and formulas become with them.
use Rattle.std.specs.Prelude.{◌≡◌, ℕ, if◌then◌else◌, List, [], ◌∷◌, map, filter, flat_map}
use Rattle.pb_text_meaning.specs.Syntax.{Name}
use Rattle.pb_model_meaning.specs.Syntax as flat
use Rattle.pb_protocol_tree.specs.Form.{FormulaForm, StepSetForm}
use Rattle.pb_protocol_meaning.specs.Erase.{erased_formula, erased_steps}
use Rattle.pb_protocol_folding.specs.FoldedModels.{folded_property_formula, folded_set, is_left}
use Rattle.pb_protocol_folding.specs.Names.{AreDistinct}
use Rattle.pb_protocol_unfolding.specs.Unfolding.{Instance, instance_name, instances, unfolded}
use Rattle.pb_protocol_unfolding.specs.Unfolding.{unfolded_formula, unfolded_set}
use Rattle.pb_protocol_unfolder_terms.specs.declared.scope.TermScope.{TermScope}
use Rattle.pb_protocol_unfolder_steps.specs.declared.instance.Instance as declared_instance
use Rattle.pb_protocol_unfolder_steps.specs.declared.unfolder.Unfolder.{Unfolder}
use Rattle.pb_protocol_unfolder_steps.specs.Elements.{instance_said}
use Rattle.pb_protocol_unfolder_steps.specs.Steps.{is_kept}
use Rattle.pb_protocol_unfolder_steps.specs.Unfolder.{protocol_in, scope_within}
use Rattle.pb_protocol_unfolder.specs.Operators.{written_operators}
use Rattle.pb_protocol_unfolder.specs.Values.{is_member}

-- these are the steps with their values that may be taken, and no two of a protocol's have one name
pub record AreLeft (u : Unfolder) (left : List declared_instance.Instance) : Type 0 where
  pub steps : map instance_said left ≡ filter (is_kept (protocol_in u)) (instances (protocol_in u))
  pub apart : AreDistinct (map instance_name (instances (protocol_in u)))

-- the name of a step with its values, if it is in a set
abbrev pub member_name : Unfolder → TermScope → StepSetForm → Instance → List Name
member_name u scope A i = if is_member u scope i A then instance_name i ∷ [] else []

abbrev pub member_names : Unfolder → TermScope → StepSetForm → List Instance → List Name
member_names u scope A is = flat_map (member_name u scope A) is

-- a set of steps, unfolded and folded
abbrev pub left_set : Unfolder → TermScope → StepSetForm → flat.StepSet
left_set u scope A =
    folded_set (is_left (unfolded (protocol_in u)))
    (unfolded_set (protocol_in u) (scope_within u scope) (erased_steps A))

-- a formula, unfolded and folded
abbrev pub left_formula : Unfolder → TermScope → FormulaForm → flat.Formula
left_formula u scope f =
    folded_property_formula (unfolded (protocol_in u))
    (unfolded_formula (protocol_in u) (scope_within u scope) (erased_formula f))

-- how many operators a formula has as it is written out
abbrev pub left_operators : Unfolder → TermScope → FormulaForm → ℕ
left_operators u scope f =
    written_operators (protocol_in u) (scope_within u scope) (erased_formula f)
