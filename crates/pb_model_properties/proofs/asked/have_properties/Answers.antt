use Rattle.std.proofs.Common.{◌≡◌, ◌∙◌, ◌+◌, true, false, drop, sym, ap}
use Rattle.std.specs.Prelude.{string_bytes}
use Rattle.std.specs.List.{list_all}
use Rattle.pb_typing_declarations.specs.Faults.{is_among}
use Rattle.pb_model_properties.proofs.AskedNames.{known_next, names_of, text-at, texts-past, texts_of, unknown_here}
use Rattle.pb_model_properties.proofs.asked.have_properties.Goals as goal

pub returns-then-not-contains : goal.returns-then-not-contains
returns-then-not-contains c =
    let xs = c.args.names.now in
    let known = is_among (names_of c.args.properties.now) in
    let k = c.loop-name.name-index in
    let x = c.name-item.result in
    let not : known (string_bytes x) ≡ false =
    ap known (sym c.as_str.ensures.value) ∙ (sym (c.in_ok-known.ensures c.as_str.result.now) ∙ (sym c.contains.ensures ∙ c.if-not-contains.true)) in
    sym (c.loop-name.invariant ∙ unknown_here known (texts_of (drop k xs)) (texts_of (drop (k + 1) xs)) (string_bytes x) (text-at xs k x c.loop-name-test.true c.name-item.is) not)

pub loop-name-preserved : goal.loop-name-preserved
loop-name-preserved c =
    let known = is_among (names_of c.args.properties.now) in
    let name = string_bytes c.name-item.result in
    let is : known name ≡ true =
    ap known (sym c.as_str.ensures.value) ∙ (sym (c.in_ok-known.ensures c.as_str.result.now) ∙ (sym c.contains.ensures ∙ c.if-not-contains.false)) in
    c.loop-name.invariant
    ∙ known_next known (texts_of (drop c.loop-name.name-index c.args.names.now)) (texts_of (drop (c.loop-name.name-index + 1) c.args.names.now)) name
    (text-at c.args.names.now c.loop-name.name-index c.name-item.result c.loop-name-test.true c.name-item.is) is

pub returns : goal.returns
returns c =
    sym (c.loop-name.invariant ∙ ap (list_all (is_among (names_of c.args.properties.now))) (texts-past c.args.names.now c.loop-name.name-index c.loop-name-test.false))
