use Rattle.std.proofs.Common.{◌≡◌, ◌++◌, ◌+◌, ◌∙◌, Bool, not, List, drop, sym, ap, subst, rules}
use Rattle.std.specs.Prelude.{flat_map, Contains}
use Rattle.std.proofs.lemmas.List.{drop_all}
use Rattle.std.proofs.lemmas.List.Elements.{Contains-append_left}
use denote.Ref.{Bor}
use Rattle.pb_sorts.proofs.Places.{drop-at}
use Rattle.pb_text_tree.specs.declared.name.Name as declared_name
use Rattle.pb_text_tree.specs.Form.{named}
use Rattle.pb_text_meaning.specs.Syntax.{Name}
use Rattle.pb_typing_declarations.specs.declared.fault.TypingFault.{TypingFault}
use Rattle.pb_typing_declarations.specs.declared.fault.TypingRule.TheVariants.{NameTwice}
use Rattle.pb_typing_declarations.specs.Faults.{unless}
use Rattle.pb_typing_declarations.proofs.Parts.{first_clear}
use Rattle.pb_protocol_tree.specs.Form.{DefinitionForm}
use Rattle.pb_protocol_typing.specs.View.{names_in}
use Rattle.pb_protocol_typing.proofs.Seen.{in_set}
use Rattle.pb_protocol_constants.specs.Hidden.{AreNamesOf, hiding_faults}
use Rattle.pb_protocol_constants.proofs.hidden.check_each.Goals as goal
use Rattle.pb_protocol_constants.proofs.hidden.check_each.Goals.{After-require}

-- the fault of a name, and those of the names behind it
next : (c : After-require) (all : List DefinitionForm) → AreNamesOf all c.args.constants.now
    → flat_map (hiding_faults all) (names_in c.args.names.now)
    ≡ unless (not c.contains-is_constant.result) NameTwice (named c.name-item.result.now).place ++ flat_map (hiding_faults all) (names_in (drop (c.loop-name.name-index + 1) c.args.names.now))
next c all are =
    let names = c.args.names.now in
    let k = c.loop-name.name-index in
    let x = named c.name-item.result.now in
    let rest = flat_map (hiding_faults all) (names_in (drop (k + 1) names)) in
    let test : c.contains-is_constant.result ≡ in_set c.args.constants.now x.text = c.contains-is_constant.ensures ∙ ap (λ (y : Name). in_set c.args.constants.now y) c.as_str.ensures.value in
    c.loop-name.invariant all are
    ∙ (ap (λ (ns : List (Bor declared_name.Name)). flat_map (hiding_faults all) (names_in ns)) (drop-at names k c.name-item.result c.loop-name-test.true c.name-item.is)
    ∙ ap (λ (b : Bool). unless (not b) NameTwice x.place ++ rest) (sym (test ∙ are x.text)))

pub loop-name-preserved : goal.loop-name-preserved
loop-name-preserved c = λ all are. first_clear _ _ _ (next (goal.at.loop-name-preserved c).After-require all are) c.in_ok-require.ensures

pub returns-in_err-require : goal.returns-in_err-require
returns-in_err-require c = λ all are.
    let fault = c.in_err-require.field-0.0 in
    let h : Contains (flat_map (hiding_faults all) (names_in c.args.names.now)) fault =
    subst (λ (fs : List TypingFault). Contains fs fault) (sym (next (goal.at.returns-in_err-require c).After-require all are)) (Contains-append_left _ _ fault c.in_err-require.ensures) in
    search rules

pub returns : goal.returns
returns c = λ all are.
    c.loop-name.invariant all are
    ∙ ap (λ (ns : List (Bor declared_name.Name)). flat_map (hiding_faults all) (names_in ns)) (drop_all c.loop-name.name-index c.args.names.now c.loop-name-test.false)
