-- What a table covers of a state's flow it covers of the flow of a state that is covered.
use Rattle.std.proofs.Common.{◌≡◌, ℕ, List, [], ◌∷◌, Option, Some, None}
use Rattle.pb_bytecode_program.specs.Machine.{Program}
use Rattle.pb_bytecode_program.specs.Transfer.{AbstractState, Edge, Flow, transfer}
use Rattle.pb_bytecode_program.specs.Accepted.{Table, IsCovered, Leads, AllLead, FlowIsCovered}
use Rattle.pb_bytecode_program.specs.declared.instruction.Op.{Op}
use Rattle.pb_bytecode_program.specs.Monotone.{IsCoveredAtLoop, HasOrderedRange}
use Rattle.pb_bytecode_program.proofs.Monotone.{AllEdges, Holds, transfer-covers}
use Rattle.pb_verifier_flow.proofs.Order.{through, solid_left}

to_edges : (T : Table) (F : Flow) → FlowIsCovered T F → Holds (λ to k. Leads T (record { to = to; state = k })) F
to_edges T None f = f
to_edges T (Some es) f = all es f
  where
    all : (es : List Edge) → AllLead T es → AllEdges (λ to k. Leads T (record { to = to; state = k })) es
    all [] l = tt
    all (e ∷ es) l = (l.0, all es l.1)

from_edges : (T : Table) (F : Flow) → Holds (λ to k. Leads T (record { to = to; state = k })) F → FlowIsCovered T F
from_edges T None f = f
from_edges T (Some es) f = all es f
  where
    all : (es : List Edge) → AllEdges (λ to k. Leads T (record { to = to; state = k })) es → AllLead T es
    all [] l = tt
    all (e ∷ es) l = (l.0, all es l.1)

pub flow_covered : (p : Program) (T : Table) (g h : Option AbstractState) (q : ℕ) (i : Op) (k m : AbstractState)
    → HasOrderedRange i → IsCoveredAtLoop g h → IsCovered k m → FlowIsCovered T (transfer p h q i m) → FlowIsCovered T (transfer p g q i k)
flow_covered p T g h q i k m b e c f =
    let P : ℕ → AbstractState → Type 0 = λ to n. Leads T (record { to = to; state = n }) in
    let down : (to : ℕ) (x y : AbstractState) → IsCovered x y → P to y → P to x = λ to x y d l. record { known = l.known; there = l.there; covered = through x y l.known d l.covered } in
    from_edges T _ (transfer-covers P P down k m c p g h q i b e (to_edges T _ f))

-- what flows from a state that covers itself does so
pub solid_flow : (p : Program) (g : Option AbstractState) (q : ℕ) (i : Op) (k : AbstractState) (es : List Edge)
    → HasOrderedRange i → IsCoveredAtLoop g g → IsCovered k k → transfer p g q i k ≡ Some es → AllEdges (λ to m. IsCovered m m) es
solid_flow p g q i k es b e c f =
    let P : ℕ → AbstractState → Type 0 = λ to m. Unit {0} in
    let Q : ℕ → AbstractState → Type 0 = λ to m. IsCovered m m in
    let h : Holds P (transfer p g q i k) = rw f (free es) in
    rw f at (transfer-covers P Q (λ to x y d t. solid_left x y d) k k c p g g q i b e h)
  where
    free : (fs : List Edge) → AllEdges (λ to m. Unit {0}) fs
    free [] = tt
    free (f ∷ fs) = (tt, free fs)
