-- Names by which users are told of elements and of steps with their values.
use Rattle.std.specs.Prelude.{Bool, true, false, not, List, [], ◌∷◌, ◌++◌, map, filter, codes}
use Rattle.std.specs.Prelude.{decimal}
use Rattle.std.specs.List.{list_any}
use Rattle.pb_text_meaning.specs.Syntax.{Name, Term}
use Rattle.pb_protocol_meaning.specs.Syntax.{Protocol, Step}
use Rattle.pb_protocol_folding.specs.FoldedModels.{folded_step, is_possible}
use Rattle.pb_protocol_meaning.specs.Steps.{data_of}
use Rattle.pb_protocol_unfolding.specs.Unfolding.{Element, Instance, all_elements, instances, instances_of}
use Rattle.pb_protocol_unfolding.specs.Unfolding.{unfolded_step}

-- how a written value is told
abbrev pub told_value : Term → Name
told_value (Term.Truth true) = codes "true"
told_value (Term.Truth false) = codes "false"
told_value (Term.Number n) = decimal n
told_value (Term.Negative (Term.Number n)) = codes "-" ++ decimal n
told_value (Term.Named e) = e
told_value x = []

-- each value behind a comma
abbrev pub with_others : Name → List Term → Name
with_others text [] = text
with_others text (k ∷ ks) = with_others (text ++ (44 ∷ told_value k)) ks

-- values in brackets
abbrev pub with_values : Name → Term → List Term → Name
with_values text k ks = with_others (text ++ (40 ∷ told_value k)) ks ++ codes ")"

-- x, or x(k,l, ..)
abbrev pub told_name : Name → List Term → Name
told_name x [] = x
told_name x (k ∷ ks) = with_values x k ks

-- ---- of a protocol

abbrev pub told_element : Element → Name
told_element e = told_name e.array e.index

abbrev pub told_instance : Instance → Name
told_instance i = told_name i.step.name i.own

abbrev pub told_variables : Protocol → List Name
told_variables m = map told_element (all_elements m)

-- whether a step with its values may be taken: its guard isn't `false`
abbrev pub may_be_taken : Protocol → Instance → Bool
may_be_taken m i = is_possible (folded_step (data_of m) (unfolded_step m i))

-- of the steps that are left
abbrev pub told_steps : Protocol → List Name
told_steps m = map told_instance (filter (may_be_taken m) (instances m))

-- and of one, if it is left
abbrev pub told_step : Protocol → Instance → List Name
told_step m i = map told_instance (filter (may_be_taken m) (i ∷ []))

-- a step that with none of its values may be taken
abbrev pub is_impossible : Protocol → Step → Bool
is_impossible m a = not (list_any (may_be_taken m) (instances_of m a))

-- the names of those steps, in order
abbrev pub impossible_steps : Protocol → List Name
impossible_steps m = map (λ (a : Step). a.name) (filter (is_impossible m) m.steps)
