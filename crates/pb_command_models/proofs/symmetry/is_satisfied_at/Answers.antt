-- The truth by representatives is that of the property.
use Rattle.std.proofs.Common.{◌≡◌, ◌∙◌, ℕ, true, false, Option, Some, Bool, refl, sym, subst}
use Rattle.std.specs.Prelude.{IfSome}
use Rattle.pb_base_values.specs.Carrier.{Carrier}
use Rattle.pb_text_meaning.specs.Syntax.{Name}
use Rattle.pb_protocol_tree.specs.Form.{protocol_form}
use Rattle.pb_protocol_tree.specs.declared.protocol.Protocol.{Protocol}
use Rattle.pb_protocol_meaning.specs.Erase.{protocol_of}
use Rattle.pb_protocol_symmetry.specs.ProtocolTest.{is_symmetric}
use Rattle.pb_model_tree.specs.Form.{model_form}
use Rattle.pb_property_symmetry.specs.Truth.{IsTruthByExchanges}
use Rattle.pb_command_models.specs.declared.property_module.AskedModule.{AskedModule}
use Rattle.pb_command_models.specs.Outcomes.{IsModuleAt}
use Rattle.pb_command_models.proofs.Symmetries.{of_set, satisfied_there, some_true, symmetric_there}
use Rattle.pb_command_models.proofs.symmetry.is_satisfied_at.Given.{Over}
use Rattle.pb_command_models.proofs.symmetry.is_satisfied_at.Goals.{After-set-set}
use Rattle.pb_command_models.proofs.symmetry.is_satisfied_at.Goals as goal

at_place : (g : Over) (c : After-set-set g) → c.in-Some.made.place ≡ c.args.place
at_place g c = subst (λ (o : Option AskedModule). IfSome o (λ made. made.place ≡ c.args.place)) c.in-Some.is c.in_ok-made.ensures.place

there : (g : Over) (c : After-set-set g) → IsModuleAt (model_form c.args.modelled.solved.now.typed.model) c.in-Some.made
there g c = subst (λ (o : Option AskedModule). IfSome o (IsModuleAt (model_form c.args.modelled.solved.now.typed.model))) c.in-Some.is c.in_ok-made.ensures.made

pub truth_by_exchanges-requires-after_bounds : goal.truth_by_exchanges-requires-after_bounds
truth_by_exchanges-requires-after_bounds g c κs within =
    let d = (goal.at.truth_by_exchanges-requires-after_bounds g c).After-set-set in
    let m = c.args.modelled.protocol.now in
    let x = c.args.found.now in
    let set = c.set-set.result in
    of_set (λ (p : Protocol) (s : Name) (M : Carrier). is_symmetric (protocol_of p) s M ≡ true) m set.protocol.now x.sort.now set.sort.now x.elements.items set.moved.now
    (sym c.set-set.ensures.protocol) (sym c.set-set.ensures.sort) (sym c.set-set.ensures.moved)
    (symmetric_there (protocol_form m) (model_form c.args.modelled.solved.now.typed.model) c.requires.model c.args.place x c.requires.permutable
    c.in-Some.made (at_place g d) (there g d))

pub returns : goal.returns
returns g c holds =
    let d = (goal.at.returns g c).After-set-set in
    let m = c.args.modelled.protocol.now in
    let x = c.args.found.now in
    let set = c.set-set.result in
    let truth : IsTruthByExchanges (protocol_of set.protocol.now) set.sort.now set.moved.now c.in-Verified.verified true =
    some_true (IsTruthByExchanges (protocol_of set.protocol.now) set.sort.now set.moved.now c.in-Verified.verified) c.in_ok-truth.truth c.in_ok-truth.ensures (sym c.unwrap_or.ensures ∙ holds) in
    let own = of_set (λ (p : Protocol) (s : Name) (M : Carrier). IsTruthByExchanges (protocol_of p) s M c.in-Verified.verified true) set.protocol.now m set.sort.now x.sort.now
    set.moved.now x.elements.items c.set-set.ensures.protocol c.set-set.ensures.sort c.set-set.ensures.moved truth in
    satisfied_there (protocol_form m) (model_form c.args.modelled.solved.now.typed.model) c.requires.model c.args.place x c.requires.permutable
    c.in-Some.made (at_place g d) (there g d) c.in-Verified.verified c.in-Verified.is c.truths_by_exchanges_are_answers.ensures true own refl
