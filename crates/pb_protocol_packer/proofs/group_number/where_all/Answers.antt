use Rattle.std.proofs.Common.{◌∙◌, List, ap, sym}
use Rattle.std.proofs.lemmas.List.{map_push}
use Rattle.pb_text_tree.specs.declared.term.Term as tree
use Rattle.pb_text_meaning.specs.Syntax.{Term}
use Rattle.pb_protocol_packing.specs.Numbers.{either}
use Rattle.pb_protocol_packing.specs.Packing.{where_all}
use Rattle.pb_protocol_packer.specs.View.{term_of}
use Rattle.pb_protocol_packer.specs.Given.{terms_in}
use Rattle.pb_protocol_packer.proofs.GroupNumbers.{where-last}
use Rattle.pb_protocol_packer.proofs.group_number.where_all.Goals as goal

pub loop-test-preserved : goal.loop-test-preserved
loop-test-preserved c =
    let y = Term.Number c.args.outside in
    let left = c.pop.new.self.items in
    let test = c.in-Some.test in
    ap (λ (x : Term). where_all (terms_in left) x y) c.in_ok-term.ensures
    ∙ ap (λ (z : Term). where_all (terms_in left) (either (term_of test) (term_of c.loop-test.term) z) y) c.number.ensures
    ∙ sym (where-last (terms_in left) (term_of test) (term_of c.loop-test.term) y)
    ∙ sym (ap (λ (ts : List tree.Term). where_all (terms_in ts) (term_of c.loop-test.term) y) c.in-Some.ensures.items
    ∙ ap (λ (ts : List Term). where_all ts (term_of c.loop-test.term) y) (map_push term_of left test))
    ∙ c.loop-test.invariant
