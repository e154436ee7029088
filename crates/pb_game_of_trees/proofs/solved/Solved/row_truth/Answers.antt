use Rattle.std.proofs.Common.{get_or, sym, ◌∙◌, arith}
use Rattle.std.proofs.lemmas.List.{get_or_read}
use Rattle.std.proofs.lemmas.Option.{slice_get-get_or}
use Rattle.pb_fixpoint_trees.specs.Rows.{Row}
use Rattle.pb_fixpoint_trees.specs.Tree.{No, Single}
use Rattle.pb_game_of_trees.proofs.Placed.{row_within, row_vertex, count_rows, within_rows, contained}
use Rattle.pb_game_of_trees.proofs.solved.Solved.row_truth.Goals as goal

abbrev none : Row
none = record { number = 0; tree = Single No }

pub truth_at-requires : goal.truth_at-requires
truth_at-requires c =
    let r = c.requires in
    let row = get_or r.2 c.args.k none in
    let e = slice_get-get_or r.2 c.args.k none r.5 in
    let vertex = row_vertex r.0 r.1 r.2 r.3 c.args.self.now.built r.4 c.args.k row e r.5 in
    let within = row_within r.0 r.1 r.2 r.3 c.args.self.now.built r.4 row (contained r.2 c.args.k row e) in
    let count = count_rows r.0 r.1 r.2 r.3 c.args.self.now.built r.4 in
    let read = get_or_read c.args.self.now.built.vertices.items c.args.k c.index.result.now (omega (arith, count, r.5)) c.index.ensures 0 in
    omega (arith, read, vertex, within)

pub returns : goal.returns
returns c = λ signatures trees reached initial row is e.
    let l = within_rows reached c.args.k row e in
    let built = c.args.self.now.built in
    let vertex = row_vertex signatures trees reached initial built is c.args.k row e l in
    let count = count_rows signatures trees reached initial built is in
    let read = get_or_read built.vertices.items c.args.k c.index.result.now (omega (arith, count, l)) c.index.ensures 0 in
    c.truth_at.ensures.meaning signatures trees reached is.game row (contained reached c.args.k row e) (sym (read ∙ vertex))
