use Rattle.pb_typing_declarations.proofs.DeclaredEnds.{defined_have_ends}
use Rattle.pb_typing_declarations.proofs.laws.declared_sorts_have_ends.Goals as goal

pub returns : goal.returns
returns c = λ S declared. defined_have_ends S declared.defined
