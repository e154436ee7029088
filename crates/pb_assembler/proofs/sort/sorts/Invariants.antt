use Rattle.std.proofs.Common.{drop}
use Rattle.pb_assembler.proofs.Sorts.{AreMade}
use Rattle.pb_assembler.proofs.sort.sorts.Given as goal

abbrev pub invariant-loop-declaration : goal.invariant-loop-declaration
invariant-loop-declaration l = AreMade l.declarations (drop l.declaration-index l.declarations) l.sorts.items
