use Rattle.std.proofs.Common.{◌≡◌}
use Rattle.std.specs.List.{range_with_len}
use Rattle.pb_game.specs.Games.{vertex_count}
use Rattle.pb_zielonka.proofs.all_vertices.Given as goal

abbrev pub invariant-loop-v : goal.invariant-loop-v
invariant-loop-v l = record {
  end : l.v-end ≡ vertex_count l.game;
  so_far : l.list.items ≡ range_with_len 0 l.v;
}
