use Rattle.pb_report.proofs.Searching.{search_has_value}
use Rattle.pb_report.proofs.tree_truth.Named.truth.Goals as goal

pub returns : goal.returns
returns c =
    let named = c.args.self.now in
    search_has_value named.numbers.items c.deref.result.now c.args.number c.binary_search.result c.is_ok.result named.value named.rising
    c.deref.ensures.value c.binary_search.ensures.position c.is_ok.ensures.value
