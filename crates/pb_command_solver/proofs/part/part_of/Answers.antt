use Rattle.pb_command_solver.proofs.part.part_of.Goals as goal

pub returns : goal.returns
returns c = λ m is. record {
  assumed = c.in_ok-rows.ensures.assumed m is;
  whole = λ all. c.in_ok-rows.ensures.whole m is (c.is_whole-is_whole.ensures.0 all);
}
