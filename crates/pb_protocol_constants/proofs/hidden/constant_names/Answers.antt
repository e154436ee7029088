use Rattle.std.proofs.Common.{◌≡◌, ◌+◌, ◌∙◌, ◌||◌, List, drop, map, sym, ap}
use Rattle.std.specs.Prelude.{string_bytes}
use Rattle.std.proofs.lemmas.List.{drop_all}
use Rattle.pb_sorts.proofs.Places.{drop-at}
use Rattle.pb_text_meaning.specs.Syntax.{Name, same_name}
use Rattle.pb_typing_declarations.proofs.Filling.{Seen, seen_too}
use Rattle.pb_protocol_tree.specs.declared.protocol.Definition.{Definition}
use Rattle.pb_protocol_tree.specs.Form.{definition_form}
use Rattle.pb_protocol_typing.proofs.Seen.{in_set, none-in_set, put-in_set}
use Rattle.pb_protocol_constants.specs.Hidden.{is_constant}
use Rattle.pb_protocol_constants.proofs.Names.{moved, nothing-left}
use Rattle.pb_protocol_constants.proofs.hidden.constant_names.Goals as goal

pub loop-constant-init : goal.loop-constant-init
loop-constant-init c = λ x.
    ap (λ (seen : Seen). seen x || is_constant (map definition_form c.args.constants.now) x) (none-in_set c.new-names.result c.new-names.ensures.empty)

pub loop-constant-preserved : goal.loop-constant-preserved
loop-constant-preserved c = λ x.
    let old = in_set c.loop-constant.names in
    let k = c.loop-constant.constant-index in
    let ds = c.args.constants.now in
    let d = c.constant-item.result in
    let rest = is_constant (map definition_form (drop (k + 1) ds)) x in
    let put : in_set c.insert.new.self ≡ seen_too (string_bytes d.name.text) old =
    put-in_set c.loop-constant.names c.insert.new.self c.as_str.result c.in_ok-insert.ensures.updates ∙ ap (λ (y : Name). seen_too y old) c.as_str.ensures.value in
    ap (λ (seen : Seen). seen x || rest) put
    ∙ (moved (same_name (string_bytes d.name.text) x) (old x) rest
    ∙ (ap (λ (xs : List Definition). old x || is_constant (map definition_form xs) x) (sym (drop-at ds k d c.loop-constant-test.true c.constant-item.is)) ∙ c.loop-constant.invariant x))

pub returns : goal.returns
returns c = λ x.
    let k = c.loop-constant.constant-index in
    let ds = c.args.constants.now in
    nothing-left (in_set c.loop-constant.names x)
    ∙ (ap (λ (xs : List Definition). in_set c.loop-constant.names x || is_constant (map definition_form xs) x) (sym (drop_all k ds c.loop-constant-test.false)) ∙ c.loop-constant.invariant x)
