use Rattle.std.proofs.Common.{◌≡◌, List, Option, length, map, sym, ap, ◌∙◌, arith}
use Rattle.std.proofs.lemmas.Bool.{le-ltb}
use Rattle.std.proofs.lemmas.List.{length-map}
use Rattle.std.proofs.lemmas.Option.{slice_get_past}
use Rattle.pb_base_values.specs.Carrier as carriers
use Rattle.pb_bytecode.specs.Meaning.{parameters}
use Rattle.pb_sorts.specs.declared.carrier.Carrier.{Carrier}
use Rattle.pb_sorts.specs.Carrier.{values_of}
use Rattle.pb_sorts.specs.Instance.{is_tuple_of}
use Rattle.pb_sorts.specs.Layout.{carriers_of}
use Rattle.pb_evidence_words.proofs.telling.Telling.is_inside.Goals as goal

pub returns-else-call-equation_count : goal.returns-else-call-equation_count
returns-else-call-equation_count c =
    let ps = parameters c.args.self.now.shown.now.verified.now in
    let k = c.args.call.now.equation in
    let count : c.equation_count.result ≡ length ps = c.equation_count.ensures.count ∙ ap (λ (l : List (List Carrier)). length l) c.layout-layout.ensures in
    let long : length (carriers_of ps) ≡ length ps = length-map ps (λ (parameters : List Carrier). map values_of parameters) in
    le-ltb k c.equation_count.result c.if-call-equation_count.false
    ∙ sym (ap (λ (o : Option (List carriers.Carrier)). is_tuple_of o c.args.call.now.values.items)
    (slice_get_past (carriers_of ps) k (omega (arith, count, long, c.if-call-equation_count.false))))
