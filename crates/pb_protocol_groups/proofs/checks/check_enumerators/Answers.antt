-- The names of enumerators and of variables as they were gathered.
use Rattle.std.proofs.Common.{◌≡◌, ◌∙◌, List, [], flat_map, map, ap, sym, subst, rules}
use Rattle.std.specs.Prelude.{MatchResult}
use Rattle.pb_text_tree.specs.declared.sort.SortDeclaration as tree_declaration
use Rattle.pb_text_tree.specs.Form.{Named, sort_declaration_form}
use Rattle.pb_text_meaning.specs.Syntax.{Name}
use Rattle.pb_typing_declarations.specs.Faults.{IsAmong, repeated}
use Rattle.pb_typing_declarations.specs.declared.fault.TypingFault.{TypingFault}
use Rattle.pb_typing_declarations.proofs.Parts.{among_left}
use Rattle.pb_model_tree.specs.Form.{model_form}
use Rattle.pb_protocol_typing.specs.View.{names_in}
use Rattle.pb_protocol_packer.specs.Initial.{names_by}
use Rattle.pb_protocol_groups.specs.Bound.{model_bound_names}
use Rattle.pb_protocol_groups.specs.Checks.{listed_faults, sort_enumerators, taken_faults, texts}
use Rattle.pb_protocol_groups.proofs.Packable.{last-part, texts-by}
use Rattle.pb_protocol_groups.proofs.checks.check_enumerators.Goals.{After-check_apart}
use Rattle.pb_protocol_groups.proofs.checks.check_enumerators.Goals as goal

gathered : (c : After-check_apart) → names_in c.in_ok-enumerators.enumerators.items ≡ flat_map sort_enumerators (map sort_declaration_form c.args.model.now.sorts.items)
gathered c = c.in_ok-enumerators.ensures ∙ ap (λ (ds : List tree_declaration.SortDeclaration). flat_map sort_enumerators (map sort_declaration_form ds)) c.deref.ensures.value

apart-at : (c : After-check_apart) → names_in c.deref-2.result.now ≡ flat_map sort_enumerators (map sort_declaration_form c.args.model.now.sorts.items)
apart-at c = ap names_in c.deref-2.ensures.value ∙ gathered c

pub returns-in_err-check_apart : goal.returns-in_err-check_apart
returns-in_err-check_apart c =
    let m = model_form c.args.model.now in
    let e = c.in_err-check_apart.field-0.0 in
    let h : IsAmong (listed_faults m) e =
    among_left (repeated (flat_map sort_enumerators m.sorts)) _ e
    (subst (λ (xs : List Named). IsAmong (repeated xs) e) (apart-at (goal.at.returns-in_err-check_apart c).After-check_apart) c.in_err-check_apart.ensures) in
    search rules

pub returns : goal.returns
returns c =
    let m = model_form c.args.model.now in
    let at = (goal.at.returns c).After-check_apart in
    let all = flat_map sort_enumerators m.sorts in
    let faults = λ (ns : List Name) (xs : List Named). flat_map (taken_faults ns) xs in
    let names : names_by c.deref-3.result.now ≡ texts all = ap names_by c.deref-3.ensures.value ∙ texts-by c.in_ok-enumerators.enumerators.items ∙ ap texts (gathered at) in
    let are : faults (names_by c.deref-3.result.now) (names_in c.deref-4.result.now) ≡ faults (texts all) (model_bound_names m) =
    ap (λ (ns : List Name). faults ns (names_in c.deref-4.result.now)) names
    ∙ ap (faults (texts all)) (ap names_in c.deref-4.ensures.value ∙ c.in_ok-variables.ensures) in
    last-part (repeated all) _ c.check_none_among.result (sym (ap repeated (apart-at at)) ∙ c.in_ok-check_apart.ensures)
    (subst (λ (fs : List TypingFault). MatchResult c.check_none_among.result (λ _. fs ≡ []) (IsAmong fs)) are c.check_none_among.ensures)
