use Rattle.std.proofs.Common.{◌≡◌, ℕ, ◌<◌, List, Option, length, map, sym, ap, ◌∙◌, subst}
use Rattle.std.specs.Prelude.{IfSome}
use Rattle.pb_bytecode.specs.Meaning.{parameters, signature_of, initial_of}
use Rattle.pb_sorts.specs.Layout.{count_of}
use Rattle.pb_fixpoint_trees.specs.Reached.{rows_of}
use Rattle.pb_game_of_trees.proofs.Reached.{reached_of}
use Rattle.pb_report.specs.Delivery.{was_not_written}
use Rattle.pb_report.specs.ModuleTexts.{module_game_text, IsTextOfTrees}
use Rattle.pb_report.specs.VertexNames.{memory_text, number_in, AreRising}
use Rattle.pb_report.proofs.Delivery.{less_delivered}
use Rattle.pb_report.proofs.Placing.{vertices_rising}
use Rattle.pb_report.proofs.ReachedGames.{text_is, some_vertex, same_length, are_numbers, are_edges}
use Rattle.pb_report.proofs.game_text.game_text.Goals as goal

pub invariant_of-placed : goal.invariant_of-placed
invariant_of-placed g c =
    let m = c.args.verified.now in
    let rows = c.args.rows.now in
    let built = c.args.built.now in
    let trees = c.requires.trees.0 in
    let have = c.requires.trees.1 in
    let reached = rows_of trees rows in
    let are = reached_of trees (map signature_of m.equations) rows (c.requires.rows trees have).are in
    let is = c.requires.game trees have in
    let same = c.deref.ensures.value in
    record {
      placed = record {
        some = some_vertex m rows built trees reached (initial_of m) are is;
        lengths = ap length same ∙ same_length m rows built trees reached (initial_of m) are is;
        rising = subst AreRising (sym same) (vertices_rising (c.requires.rows trees have) is);
        edges = are_edges built.game;
        numbers = λ v n number.
            subst (λ (o : Option ℕ). IfSome o (λ k. k < count_of (parameters m))) (ap (λ (vs : List ℕ). number_in vs rows v) (sym same) ∙ number)
            (are_numbers m rows built trees reached (initial_of m) are is v);
      };
    }

pub returns : goal.returns
returns g c =
    let m = c.args.verified.now in
    let rows = c.args.rows.now in
    let built = c.args.built.now in
    let same = ap (λ (vs : List ℕ). memory_text m built.game vs rows) c.deref.ensures.value in
    less_delivered was_not_written g.S.Sink (λ (text : List ℕ). text ≡ memory_text m built.game c.deref.result.now rows) (IsTextOfTrees m (λ trees. module_game_text m trees rows))
    (λ text is trees have.
    let are = reached_of trees (map signature_of m.equations) rows (c.requires.rows trees have).are in
    is ∙ (same ∙ text_is m rows built trees (rows_of trees rows) (initial_of m) are (c.requires.game trees have)))
    c.args.sink.now c.write_text.new.sink c.write_text.result c.write_text.ensures
