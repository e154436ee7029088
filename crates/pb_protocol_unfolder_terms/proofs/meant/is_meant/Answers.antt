use Rattle.std.proofs.Common.{◌∙◌, sym, ap, map, Bool}
use Rattle.std.specs.Prelude.{◌&&◌}
use Rattle.pb_protocol_unfolding.specs.PutIn.{are_as_many}
use Rattle.pb_protocol_unfolder_terms.specs.View.{variable_of}
use Rattle.pb_protocol_unfolder_terms.proofs.ContextLemmas.{as-many}
use Rattle.pb_protocol_unfolder_terms.proofs.meant.is_meant.Goals as goal

pub returns-then-eq-clause-meant : goal.returns-then-eq-clause-meant
returns-then-eq-clause-meant c = λ ts e.
    let vs = c.args.variables.now in
    sym (as-many vs ts c.args.count e) ∙ ap (λ (b : Bool). b && are_as_many (map variable_of vs) ts) (sym c.if-eq.true ∙ c.eq.ensures)
