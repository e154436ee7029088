use Rattle.pb_assembler.proofs.laws.accepted_texts_can_be_compiled.Goals as goal

pub returns : goal.returns
returns c = λ text faultless. record {
  bounded = c.normal_forms_keep_bounds.ensures.accepted text faultless;
  small = c.normal_forms_are_small.ensures.accepted text faultless;
  structs = c.structs_are_few.ensures.accepted text faultless;
  shapes = c.shapes_are_declared.ensures.accepted text faultless;
  initial = c.initial_instances_are_there.ensures.accepted text faultless;
}
