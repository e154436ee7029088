use Rattle.std.proofs.Common.{refl}
use Rattle.pb_fixpoint_trees.specs.declared.junction.Junction.TheVariants.{Conjunction, Disjunction}
use Rattle.pb_fixpoint_trees.specs.Tree.{Yes, No, Cut, Call}
use Rattle.pb_game_of_trees.proofs.Reading.{read_close, read_leaf, read_bracket}
use Rattle.pb_game_of_trees.specs.Numbering.{numbered_vertex}
use Rattle.pb_game_of_trees.proofs.builder.Builder.read.Goals as goal

pub returns-in-And : goal.returns-in-And
returns-in-And c = read_bracket (numbered_vertex c.args.vertices.now) c.args.self.now c.open.new.self c.args.token c.open.result Conjunction c.open.ensures c.in-And.is

pub returns-in-Or : goal.returns-in-Or
returns-in-Or c = read_bracket (numbered_vertex c.args.vertices.now) c.args.self.now c.open-in-Or.new.self c.args.token c.open-in-Or.result Disjunction c.open-in-Or.ensures c.in-Or.is

pub returns-in-Close : goal.returns-in-Close
returns-in-Close c = read_close (numbered_vertex c.args.vertices.now) c.args.self.now c.close.new.self c.args.token c.close.result c.close.ensures c.in-Close.is

pub returns-in-Yes : goal.returns-in-Yes
returns-in-Yes c = read_leaf (numbered_vertex c.args.vertices.now) c.args.self.now c.leaf.new.self c.args.token c.leaf.result 1 Yes c.leaf.ensures refl c.in-Yes.is

pub returns-in-No : goal.returns-in-No
returns-in-No c = read_leaf (numbered_vertex c.args.vertices.now) c.args.self.now c.leaf-in-No.new.self c.args.token c.leaf-in-No.result 0 No c.leaf-in-No.ensures refl c.in-No.is

pub returns-in-Cut : goal.returns-in-Cut
returns-in-Cut c = read_leaf (numbered_vertex c.args.vertices.now) c.args.self.now c.leaf-in-Cut.new.self c.args.token c.leaf-in-Cut.result 0 Cut c.leaf-in-Cut.ensures refl c.in-Cut.is

pub returns-in-Call : goal.returns-in-Call
returns-in-Call c =
    read_leaf (numbered_vertex c.args.vertices.now) c.args.self.now c.leaf-in-Call.new.self c.args.token
    c.leaf-in-Call.result c.vertex.result (Call c.in-Call.number) c.leaf-in-Call.ensures c.vertex.ensures c.in-Call.is
