-- The faults of the sorts of state variables, group by group, and those of a protocol with them.
use Rattle.std.proofs.Common.{◌≡◌, ◌∙◌, List, [], ◌∷◌, length, map, refl, subst, Result, Ok, Err}
use Rattle.std.specs.Prelude.{Contains, MatchResult}
use Rattle.pb_base.specs.OrMemory.{IfFault}
use Rattle.pb_base.specs.declared.or_memory.OrMemory.{OrMemory}
use Rattle.pb_sorts.specs.Counting.{instance_limit}
use Rattle.pb_sorts.specs.declared.counting.Counting.TheVariants.{Reached}
use Rattle.pb_text_tree.specs.declared.name.Name as declared_name
use Rattle.pb_text_tree.specs.Form.{SpecForm, named}
use Rattle.pb_text_meaning.specs.Syntax.{Spec}
use Rattle.pb_text_meaning.specs.Erase as texts
use Rattle.pb_typing_declarations.specs.Declarations.{declaration_faults, use_faults}
use Rattle.pb_typing_declarations.specs.Faults.{IsAmong}
use Rattle.pb_typing_declarations.specs.declared.fault.TypingFault.{TypingFault}
use Rattle.pb_typing_declarations.proofs.Parts.{among_left, among_right, no_whole}
use Rattle.pb_protocol_tree.specs.declared.protocol.StateVariable.{StateVariable}
use Rattle.pb_protocol_tree.specs.declared.protocol.StateVariables.{StateVariables}
use Rattle.pb_protocol_tree.specs.Form.{ProtocolForm, StateVariableForm, state_variable_form, state_variables_form}
use Rattle.pb_protocol_typing.specs.Faults.{data_faults, data_form, protocol_faults, protocol_own_faults}
use Rattle.pb_model_sizes.specs.Sorts.{size_faults, state_faults}

-- ---- groups, each of one sort

module _ (spec : Spec) where
  of_clear : (sort : declared_name.Name) (xs : List StateVariable) → use_faults spec (named sort) ≡ [] → state_faults spec (map (state_variable_form sort) xs) ≡ []
  of_clear sort [] clear = refl
  of_clear sort (x ∷ xs) clear = no_whole (use_faults spec (named sort)) (state_faults spec (map (state_variable_form sort) xs)) clear (of_clear sort xs clear)

  of_faulty : (sort : declared_name.Name) (xs : List StateVariable) (e : OrMemory TypingFault) → (length xs ≡ 0 → ⊥) → IsAmong (use_faults spec (named sort)) e
      → IsAmong (state_faults spec (map (state_variable_form sort) xs)) e
  of_faulty sort [] e some h = absurd (some refl)
  of_faulty sort (x ∷ xs) e some h = among_left (use_faults spec (named sort)) (state_faults spec (map (state_variable_form sort) xs)) e h

  pub group-checked : {T : Type 0} (g : StateVariables) (r : Result T (OrMemory TypingFault)) → (length g.variables.items ≡ 0 → ⊥)
      → MatchResult r (λ x. use_faults spec (named g.sort) ≡ []) (IsAmong (use_faults spec (named g.sort)))
      → MatchResult r (λ x. state_faults spec (state_variables_form g) ≡ []) (IsAmong (state_faults spec (state_variables_form g)))
  group-checked g (Ok x) some clear = of_clear g.sort g.variables.items clear
  group-checked g (Err e) some h = of_faulty g.sort g.variables.items e some h

-- ---- protocols

module _ (text : ProtocolForm) where
  abbrev own : List TypingFault
  own = protocol_own_faults (texts.erase (data_form text)) text

  abbrev of_state : List TypingFault
  of_state = state_faults (texts.erase (data_form text)) text.variables

  pub rule-broken : (e : OrMemory TypingFault) → IfFault e (Contains (protocol_faults text)) → IfFault e (Contains (size_faults text))
  rule-broken e h = among_left (protocol_faults text) of_state e h

  -- those of sorts and ranges are among them
  pub declared-broken : (form : SpecForm) (e : OrMemory TypingFault) → form ≡ data_form text → IfFault e (Contains (declaration_faults (instance_limit Reached) form))
      → IfFault e (Contains (size_faults text))
  declared-broken form e is h =
      rule-broken e
      (among_left (data_faults text) own e (subst (λ (f : SpecForm). IfFault e (Contains (declaration_faults (instance_limit Reached) f))) is h))

  pub state-broken : (read form : SpecForm) (ys : List StateVariableForm) (e : OrMemory TypingFault) → read ≡ form → form ≡ data_form text → ys ≡ text.variables
      → IfFault e (Contains (state_faults (texts.erase read) ys)) → IfFault e (Contains (size_faults text))
  state-broken read form ys e same is variables h =
      among_right (protocol_faults text) of_state e
      (subst (λ (zs : List StateVariableForm). IfFault e (Contains (state_faults (texts.erase (data_form text)) zs))) variables
      (subst (λ (f : SpecForm). IfFault e (Contains (state_faults (texts.erase f) ys))) (same ∙ is) h))
