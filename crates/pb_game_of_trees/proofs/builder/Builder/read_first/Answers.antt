use Rattle.std.proofs.Common.{refl}
use Rattle.pb_fixpoint_trees.specs.declared.junction.Junction.TheVariants.{Conjunction, Disjunction}
use Rattle.pb_fixpoint_trees.specs.Tree.{Yes, No, Cut, Call}
use Rattle.pb_game_of_trees.proofs.Reading.{read_root, read_single}
use Rattle.pb_game_of_trees.specs.Numbering.{numbered_vertex}
use Rattle.pb_game_of_trees.proofs.builder.Builder.read_first.Goals as goal

pub returns-in-And : goal.returns-in-And
returns-in-And c =
    read_root (numbered_vertex c.args.vertices.now) c.args.self.now c.open_root.new.self c.args.token
    c.open_root.result c.args.priority Conjunction c.open_root.ensures c.in-And.is

pub returns-in-Or : goal.returns-in-Or
returns-in-Or c =
    read_root (numbered_vertex c.args.vertices.now) c.args.self.now c.open_root-in-Or.new.self c.args.token
    c.open_root-in-Or.result c.args.priority Disjunction c.open_root-in-Or.ensures c.in-Or.is

pub returns-in-Yes : goal.returns-in-Yes
returns-in-Yes c = read_single (numbered_vertex c.args.vertices.now) c.args.self.now c.one_edge.new.self c.args.token c.one_edge.result c.args.priority 1 Yes c.one_edge.ensures refl c.in-Yes.is

pub returns-in-No : goal.returns-in-No
returns-in-No c =
    read_single (numbered_vertex c.args.vertices.now) c.args.self.now c.one_edge-in-No.new.self c.args.token
    c.one_edge-in-No.result c.args.priority 0 No c.one_edge-in-No.ensures refl c.in-No.is

pub returns-in-Cut : goal.returns-in-Cut
returns-in-Cut c =
    read_single (numbered_vertex c.args.vertices.now) c.args.self.now c.one_edge-in-Cut.new.self c.args.token
    c.one_edge-in-Cut.result c.args.priority 0 Cut c.one_edge-in-Cut.ensures refl c.in-Cut.is

pub returns-in-Call : goal.returns-in-Call
returns-in-Call c =
    read_single (numbered_vertex c.args.vertices.now) c.args.self.now c.one_edge-in-Call.new.self c.args.token
    c.one_edge-in-Call.result c.args.priority c.vertex.result (Call c.in-Call.number) c.one_edge-in-Call.ensures c.vertex.ensures c.in-Call.is
