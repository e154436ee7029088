use Rattle.std.proofs.Common.{◌≡◌, vec_len}
use Rattle.pb_text_meaning.specs.Syntax as syntax
use Rattle.pb_protocol_packing.specs.Packing.{where_all}
use Rattle.pb_protocol_packer.specs.View.{term_of}
use Rattle.pb_protocol_packer.specs.Given.{terms_in}
use Rattle.pb_protocol_packer.proofs.group_number.where_all.Given as goal

abbrev pub decreases-loop-test : goal.decreases-loop-test
decreases-loop-test l = vec_len l.tests

-- the tests that are left
abbrev pub invariant-loop-test : goal.invariant-loop-test
invariant-loop-test l =
    where_all (terms_in l.tests.items) (term_of l.term) (syntax.Term.Number l.outside)
    ≡ where_all (terms_in l.initial.tests.items) (term_of l.initial.term) (syntax.Term.Number l.outside)
