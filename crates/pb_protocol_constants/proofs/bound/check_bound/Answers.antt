use Rattle.std.proofs.Common.{◌≡◌, ◌∙◌, ◌++◌, ◌∷◌, [], List, map, ap, subst}
use Rattle.std.specs.Prelude.{MatchResult}
use Rattle.std.proofs.lemmas.List.{map_push}
use Rattle.pb_base.specs.OrMemory.{IfFault}
use Rattle.pb_text_tree.specs.Form.{term_form}
use Rattle.pb_protocol_tree.specs.declared.protocol.Definition.{Definition}
use Rattle.pb_protocol_tree.specs.Form.{DefinitionForm, ProtocolForm, definition_form, protocol_form}
use Rattle.pb_protocol_typing.specs.Faults.{protocol_faults}
use Rattle.pb_protocol_constants.specs.Faults.{IsTypingFaultIn}
use Rattle.pb_protocol_constants.specs.Rules.{bound_definition}
use Rattle.pb_protocol_constants.proofs.Lists.{popped}
use Rattle.pb_protocol_constants.proofs.Refusals.{on-ok}
use Rattle.pb_protocol_constants.proofs.bound.check_bound.Goals as goal

abbrev with : ProtocolForm → List DefinitionForm → ProtocolForm
with m ds = record m { definitions = ds }

pub returns-clause-rules : goal.returns-clause-rules
returns-clause-rules c =
    let m = protocol_form c.args.constants.now in
    let items = c.args.constants.now.definitions.items in
    let d = c.in_ok-definition.definition in
    let all : map definition_form c.push.new.self.items ≡ m.definitions ++ bound_definition c.args.bound.now.place (term_form c.args.bound.now.term) ∷ [] =
    ap (map definition_form) c.in_ok-push.ensures.items ∙ (map_push definition_form items d ∙ ap (λ (e : DefinitionForm). m.definitions ++ e ∷ []) c.in_ok-definition.ensures) in
    subst (λ (ds : List DefinitionForm). MatchResult c.check_alone-checked.result (λ _. protocol_faults (with m ds) ≡ []) (λ e. IfFault e (IsTypingFaultIn (protocol_faults (with m ds))))) all
    c.check_alone-checked.ensures

pub returns-clause-kept : goal.returns-clause-kept
returns-clause-kept c =
    let m = protocol_form c.args.constants.now in
    let old = c.args.constants.now.definitions in
    let same : c.pop.new.self.items ≡ old.items =
    popped old.items c.push.new.self.items c.pop.new.self.items c.in_ok-definition.definition _ c.in_ok-push.ensures.items c.pop.ensures.rest c.push.new.self.ok.0 in
    on-ok _ c.check_alone-checked.result (ap (λ (ds : List Definition). with m (map definition_form ds)) same)
