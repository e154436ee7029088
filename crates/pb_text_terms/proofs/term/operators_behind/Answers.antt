use Rattle.pb_text_terms.proofs.term.operators_behind.Goals as goal

pub returns : goal.returns
returns c = record {
  reads = λ s h. c.operated.ensures.reads s (record { reads = h; fewer = λ may. absurd (let no : ⊥ = cc in no) });
  fewer = c.operated.ensures.fewer;
}
