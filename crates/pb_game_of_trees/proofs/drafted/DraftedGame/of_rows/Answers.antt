use Rattle.std.proofs.Common.{ℕ, List, length, slice_index, ◌≡◌, refl, ap, ◌∙◌, subst, arith}
use Rattle.std.proofs.lemmas.Result.{err_from_is_err_and}
use Rattle.std.proofs.lemmas.List.{length-map}
use Rattle.pb_fixpoint_trees.specs.Tree.{Tree}
use Rattle.pb_fixpoint_trees.specs.Rows.{Row}
use Rattle.pb_fixpoint_trees.specs.Game.{game_vertices, vertex_of}
use Rattle.pb_fixpoint_trees.specs.Reached.{rows_of}
use Rattle.pb_game_of_trees.specs.Draft.{IsDraft}
use Rattle.pb_game_of_trees.specs.Numbering.{numbered_vertex}
use Rattle.pb_game_of_trees.specs.Equations.{equations_of, plain}
use Rattle.pb_game_of_trees.specs.TreeGame.{AreRowsFrom}
use Rattle.pb_fixpoint_trees.proofs.Total.{game_is_total}
use Rattle.pb_game_of_trees.proofs.Reached.{found_row}
use Rattle.pb_game_of_trees.proofs.Vertices.{IsTable, table_at, vertices_are}
use Rattle.pb_game_of_trees.proofs.RowRanges.{behind_all}
use Rattle.pb_game_of_trees.proofs.Refused.{refused_alike, not_for_memory, not_refused}
use Rattle.pb_game_of_trees.proofs.DraftLengths.{has_length}
use Rattle.pb_game_of_trees.proofs.Built.{are, hold, count_vertices, rows_numbered, built, makes_game, few_vertices, few_places, places_below, start_below}
use Rattle.pb_game_of_trees.proofs.drafted.DraftedGame.of_rows.Given.{Over}
use Rattle.pb_game_of_trees.proofs.drafted.DraftedGame.of_rows.Goals.{After-vertex-start}
use Rattle.pb_game_of_trees.proofs.drafted.DraftedGame.of_rows.Goals as goal

pub number_vertices-requires-clause-lengths : goal.number_vertices-requires-clause-lengths
number_vertices-requires-clause-lengths g c = count_vertices c.requires.1.are c.deref.ensures.value c.in_ok-size.ensures.vertices

pub number_vertices-requires-clause-within : goal.number_vertices-requires-clause-within
number_vertices-requires-clause-within g c = rows_numbered c.requires.1.are c.count_instances-numbers.ensures

pub draft_of-requires-clause-held : goal.draft_of-requires-clause-held
draft_of-requires-clause-held g c = λ κs within. (_, hold c.requires.1.are)

pub invariant_of-all : goal.invariant_of-all
invariant_of-all g c =
    let from = c.requires.1 in
    let laid = c.in_ok-size.ensures in
    let same = c.deref-2.ensures.value in
    record {
      rising = omega arith;
      inside = omega (arith, c.len.ensures);
      sized = count_vertices from.are same laid.vertices;
      placed = λ plain hold. same ∙ laid.vertices plain hold;
      behind = behind_all laid.size c.len.ensures refl;
    }

module _ (g : Over) (c : After-vertex-start g) {trees : ℕ → Tree} (from : AreRowsFrom (equations_of c.args.signatures.now.items.items) trees c.args.rows.now c.args.initial) where
  abbrev reached : List Row
  reached = rows_of trees c.args.rows.now

  -- the table gives each row its vertex
  table : IsTable (numbered_vertex c.in_ok-numbering.numbering) (rows_of trees c.args.rows.now)
  table = record {
    at = λ k l. c.in_ok-numbering.ensures reached (hold from.are) k l
        ∙ ap (λ (ts : List ℕ). slice_index ts k) (c.deref.ensures.value ∙ c.in_ok-size.ensures.vertices reached (hold from.are));
  }

  -- the draft holds the game's vertices
  drafted : IsDraft c.in_ok-draft.draft (game_vertices (equations_of c.args.signatures.now.items.items) (rows_of trees c.args.rows.now))
  drafted = subst (IsDraft c.in_ok-draft.draft) (built from.are table c.in_ok-levels.ensures) (c.in_ok-draft.ensures reached (hold from.are))

  starts : c.vertex-start.result ≡ vertex_of (rows_of trees c.args.rows.now) c.args.initial
  starts = c.vertex-start.ensures ∙ table_at _ reached table (are from.are).rising c.args.initial (found_row trees c.args.rows.now c.args.initial from.found)

-- the draft has as many vertices as the game
drafted_length : (g : Over) (c : After-vertex-start g) {trees : ℕ → Tree} (from : AreRowsFrom (equations_of c.args.signatures.now.items.items) trees c.args.rows.now c.args.initial)
    → length c.in_ok-draft.draft.owners.items ≡ length (game_vertices (equations_of c.args.signatures.now.items.items) (rows_of trees c.args.rows.now))
drafted_length g c from = has_length (drafted g c from)

pub invariant_of-result : goal.invariant_of-result
invariant_of-result g c =
    let from = c.requires.1 in
    let called = (goal.at.invariant_of-result g c).After-vertex-start in
    let has = drafted_length g called from in
    let places = c.in_ok-size.ensures.vertices in
    record {
      few = omega (arith, c.in_ok-size.field-0.vertices.ok.0, few_places from.are c.in_ok-size.ensures.size c.in_ok-size.ensures.small places, c.vertex_limit.ensures.small);
      inside = omega (arith, starts g called from, start_below from.are c.args.initial from.found, has);
      rows_inside = λ k d l. omega (arith, places_below from.are places k d l, has);
    }

pub returns-clause-draft : goal.returns-clause-draft
returns-clause-draft g c = λ trees from.
    let called = (goal.at.returns-clause-draft g c).After-vertex-start in
    record {
      system = from.are.system;
      draft = drafted g called from;
      game = makes_game from.are game_is_total (omega (arith, length-map c.args.signatures.now.items.items plain, c.args.signatures.now.few))
          c.in_ok-size.ensures.size (omega (arith, c.in_ok-size.ensures.small, c.vertex_limit.ensures.small));
      vertices = c.in_ok-size.ensures.vertices _ (hold from.are) ∙ vertices_are _ (are from.are).rising;
      start = starts g called from;
    }

pub returns-clause-few : goal.returns-clause-few
returns-clause-few g c =
    let from = c.requires.1 in
    let has = drafted_length g (goal.at.returns-clause-few g c).After-vertex-start from in
    omega (arith, few_vertices from.are c.in_ok-size.ensures.size c.in_ok-size.ensures.small, c.vertex_limit.ensures.limit, has)

-- ---- the error

pub returns-in_err-size-clause-too_many : goal.returns-in_err-size-clause-too_many
returns-in_err-size-clause-too_many g c =
    let h = err_from_is_err_and c.from_residual.result c.from_residual.ensures.1 in
    refused_alike c.args.counting c.vertex_limit.ensures.limit c.in_err-size.was h.1 (let same = h.2 in cc) c.laid_rows.ensures.too_many

pub returns-in_err-numbering-clause-too_many : goal.returns-in_err-numbering-clause-too_many
returns-in_err-numbering-clause-too_many g c =
    not_for_memory c.args.counting c.vertex_limit.ensures.limit c.from_residual-in_err-numbering.result c.from_residual-in_err-numbering.ensures.1 c.in_ok-size.ensures.size c.in_ok-size.ensures.small

pub returns-in_err-levels-clause-too_many : goal.returns-in_err-levels-clause-too_many
returns-in_err-levels-clause-too_many g c =
    not_for_memory c.args.counting c.vertex_limit.ensures.limit c.from_residual-in_err-levels.result c.from_residual-in_err-levels.ensures.1 c.in_ok-size.ensures.size c.in_ok-size.ensures.small

pub returns-in_err-draft-clause-too_many : goal.returns-in_err-draft-clause-too_many
returns-in_err-draft-clause-too_many g c =
    not_for_memory c.args.counting c.vertex_limit.ensures.limit c.from_residual-in_err-draft.result c.from_residual-in_err-draft.ensures.1 c.in_ok-size.ensures.size c.in_ok-size.ensures.small

pub returns-clause-too_many : goal.returns-clause-too_many
returns-clause-too_many g c = not_refused c.args.counting c.vertex_limit.ensures.limit (λ e. cc) c.in_ok-size.ensures.size c.in_ok-size.ensures.small
