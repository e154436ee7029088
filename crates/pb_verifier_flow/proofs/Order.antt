-- Covering is transitive, and what is covered at all covers itself.
use Rattle.std.proofs.Common.{ℕ, List, [], ◌∷◌, refl, ◌∙◌, arith}
use lib.Signed.{≤ℤ_refl}
use Rattle.pb_bytecode_program.proofs.Covering.{covers_through}
use Rattle.pb_bytecode_program.specs.Abstract.{Covers}
use Rattle.pb_bytecode_program.specs.Transfer.{AbstractState}
use Rattle.pb_bytecode_program.specs.Accepted.{CoversEach, CoversLoops, IsCovered}
use Rattle.pb_bytecode_program.specs.declared.domain.AbstractValue.{AbstractValue}
use Rattle.pb_bytecode_program.specs.declared.domain.AbstractValue.TheVariants as abstract

each_through : (s t u : List AbstractValue) → CoversEach s t → CoversEach t u → CoversEach s u
each_through [] [] u c d = d
each_through [] (y ∷ t) u c d = absurd c
each_through (x ∷ s) [] u c d = absurd c
each_through (x ∷ s) (y ∷ t) [] c d = absurd d
each_through (x ∷ s) (y ∷ t) (z ∷ u) c d = (covers_through x y z c.0 d.0, each_through s t u c.1 d.1)

loops_through : (s t u : List (ℕ × AbstractValue)) → CoversLoops s t → CoversLoops t u → CoversLoops s u
loops_through [] [] u c d = d
loops_through [] (y ∷ t) u c d = absurd c
loops_through (x ∷ s) [] u c d = absurd c
loops_through (x ∷ s) (y ∷ t) [] c d = absurd d
loops_through (x ∷ s) (y ∷ t) (z ∷ u) c d = (c.0 ∙ d.0, covers_through x.1 y.1 z.1 c.1 d.1, loops_through s t u c.2 d.2)

pub through : (k m n : AbstractState) → IsCovered k m → IsCovered m n → IsCovered k n
through k m n c d = record {
  operands = each_through k.operands m.operands n.operands c.operands d.operands;
  operands_below = c.operands_below ∙ d.operands_below;
  parameters = each_through k.parameters m.parameters n.parameters c.parameters d.parameters;
  loops = loops_through k.loops m.loops n.loops c.loops d.loops;
  brackets = c.brackets ∙ d.brackets;
  brackets_below = c.brackets_below ∙ d.brackets_below;
  roots = c.roots ∙ d.roots;
}

solid_one : (s t : AbstractValue) → Covers s t → Covers s s
solid_one abstract.Bool t c = tt
solid_one (abstract.Enum a n) t c = (refl, omega arith)
solid_one (abstract.Int l h) abstract.Bool c = absurd c
solid_one (abstract.Int l h) (abstract.Enum a n) c = absurd c
solid_one (abstract.Int l h) (abstract.Int m k) c = (≤ℤ_refl l, c.1, ≤ℤ_refl h)

solid_each : (s t : List AbstractValue) → CoversEach s t → CoversEach s s
solid_each [] t c = tt
solid_each (x ∷ s) [] c = absurd c
solid_each (x ∷ s) (y ∷ t) c = (solid_one x y c.0, solid_each s t c.1)

solid_loops : (s t : List (ℕ × AbstractValue)) → CoversLoops s t → CoversLoops s s
solid_loops [] t c = tt
solid_loops (x ∷ s) [] c = absurd c
solid_loops (x ∷ s) (y ∷ t) c = (refl, solid_one x.1 y.1 c.1, solid_loops s t c.2)

pub solid_left : (k m : AbstractState) → IsCovered k m → IsCovered k k
solid_left k m c =
    record {
      operands = solid_each k.operands m.operands c.operands;
      operands_below = refl;
      parameters =
          solid_each k.parameters m.parameters c.parameters;
      loops = solid_loops k.loops m.loops c.loops;
      brackets =
          refl;
      brackets_below = refl;
      roots = refl;
    }
