-- Accepted code is safe.
use Rattle.std.proofs.Common.{◌≡◌, ◌+◌, ◌-◌, ◌≤◌, ◌∙◌, ap, subst, refl, arith}
use Rattle.std.specs.Prelude.{length}
use Rattle.pb_base_values.specs.Carrier.{Tuple}
use Rattle.pb_fixpoint_trees.specs.Tree.{Tree}
use Rattle.pb_bytecode_program.specs.Machine.{Program, Ends, run, start}
use Rattle.pb_bytecode_program.specs.Counts.{static_steps, static_tokens}
use Rattle.pb_bytecode_program.specs.Accepted.{Accepted, Table}
use Rattle.pb_bytecode_program.specs.Safety.{AreArguments, arguments, EndsWith, IsSafe}
use Rattle.pb_bytecode_program.proofs.Runs.{never, ends, starts}
use Rattle.pb_bytecode_program.proofs.Trees.{Writes, run_writes, longer}

module _ (p : Program) (table : Table) (ok : Accepted p table) where
  ends_with_tree : (tuple : Tuple) → AreArguments p.parameters tuple → (tree : Tree) × EndsWith p tuple tree
  ends_with_tree tuple a =
      let st = start (arguments p.parameters tuple) in
      let r = ends p table ok (static_steps p) st (starts p table ok tuple a) (omega arith) in
      let written : Writes p (Ends r.0) = subst (Writes p) r.1 (run_writes p (static_steps p) st refl) in (
        written.tree,
        record {
          ends = λ n h.
              let z : static_steps p + (n - static_steps p) ≡ n = omega arith in
              subst (λ m. run p m st ≡ Ends r.0) z (longer p (static_steps p) (n - static_steps p) st r.0 r.1) ∙ ap Ends written.tokens;
          short = let bound = r.2 in subst (λ ts. length ts ≤ static_tokens p) written.tokens (omega arith);
          calls = written.calls;
        },
      )

  pub is_safe : IsSafe p
  is_safe = record {
    never_faults = λ tuple a n f e. never p table ok n _ (starts p table ok tuple a) f e;
    ends = ends_with_tree;
  }
