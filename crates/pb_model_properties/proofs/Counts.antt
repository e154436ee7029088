-- How many variables groups have together.
use Rattle.std.proofs.Common.{◌≡◌, ◌∙◌, Bool, ℕ, List, [], ◌∷◌, length, map, flat_map, refl, sym, ap, ap₂, arith}
use Rattle.std.specs.Prelude.{nat_lt, sum, vec_len}
use Rattle.std.proofs.lemmas.List.{length-map}
use Rattle.std.proofs.lemmas.List.Concat.{length-flat_map}
use Rattle.std.proofs.lemmas.List.Sums.{sum-map}
use Rattle.pb_base.specs.declared.limits.TheConstants.{MAX_PARAMETERS}
use Rattle.pb_text_tree.specs.declared.variable.Variables.{Variables}
use Rattle.pb_text_tree.specs.Form.{variables_form, variable_forms}
use Rattle.pb_model_tree.specs.declared.model.Model.{Model}
use Rattle.pb_model_tree.specs.Form.{model_form}
use Rattle.pb_protocol_tree.specs.declared.protocol.Protocol.{Protocol}
use Rattle.pb_protocol_tree.specs.declared.protocol.StateVariables.{StateVariables}
use Rattle.pb_protocol_tree.specs.Form.{protocol_form, state_variables_form}
use Rattle.pb_model_properties.specs.Made.{has_many_variables}

-- ---- those of flat models

flat_sizes : (groups : List Variables) → map (λ (g : Variables). vec_len g.names) groups ≡ map (λ (g : Variables). length (variables_form g)) groups
flat_sizes [] = refl
flat_sizes (g ∷ groups) =
    let held : length g.names.items ≡ vec_len g.names = omega (arith, g.names.ok.0) in
    let said : length (variables_form g) ≡ length g.names.items = length-map g.names.items _ in
    ap₂ (λ (n : ℕ) (ns : List ℕ). n ∷ ns) (sym (said ∙ held)) (flat_sizes groups)

pub flat_counts : (groups : List Variables) → sum (map (λ (g : Variables). vec_len g.names) groups) ≡ length (variable_forms groups)
flat_counts groups = ap sum (flat_sizes groups) ∙ (sum-map (λ (g : Variables). length (variables_form g)) groups ∙ sym (length-flat_map variables_form groups))

-- what was found of the model's own
pub is_counted : (m : Model) (state : List Variables) (large b : Bool) → large ≡ nat_lt MAX_PARAMETERS (length (variable_forms state)) → state ≡ m.state.items → large ≡ b
    → has_many_variables (model_form m) ≡ b
is_counted m state large b counts own is = sym (counts ∙ ap (λ (groups : List Variables). nat_lt MAX_PARAMETERS (length (variable_forms groups))) own) ∙ is

-- ---- those of protocols

protocol_sizes : (groups : List StateVariables) → map (λ (g : StateVariables). vec_len g.variables) groups ≡ map (λ (g : StateVariables). length (state_variables_form g)) groups
protocol_sizes [] = refl
protocol_sizes (g ∷ groups) =
    let held : length g.variables.items ≡ vec_len g.variables = omega (arith, g.variables.ok.0) in
    let said : length (state_variables_form g) ≡ length g.variables.items = length-map g.variables.items _ in
    ap₂ (λ (n : ℕ) (ns : List ℕ). n ∷ ns) (sym (said ∙ held)) (protocol_sizes groups)

pub protocol_counts : (groups : List StateVariables) → sum (map (λ (g : StateVariables). vec_len g.variables) groups) ≡ length (flat_map state_variables_form groups)
protocol_counts groups =
    ap sum (protocol_sizes groups) ∙ (sum-map (λ (g : StateVariables). length (state_variables_form g)) groups ∙ sym (length-flat_map state_variables_form groups))

pub is_protocol_counted : (protocol : Protocol) (state : List StateVariables) (large b : Bool) → large ≡ nat_lt MAX_PARAMETERS (length (flat_map state_variables_form state))
    → state ≡ protocol.state.items → large ≡ b → nat_lt MAX_PARAMETERS (length (protocol_form protocol).variables) ≡ b
is_protocol_counted protocol state large b counts own is =
    sym (counts ∙ ap (λ (groups : List StateVariables). nat_lt MAX_PARAMETERS (length (flat_map state_variables_form groups))) own) ∙ is
