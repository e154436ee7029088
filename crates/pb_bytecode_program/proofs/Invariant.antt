-- A tagged state that a table covers.
use Rattle.std.specs.Prelude.{◌≡◌, ℕ, List, [], ◌∷◌, length, Some, slice_get}
use Rattle.pb_bytecode_program.specs.Values.{TaggedValue}
use Rattle.pb_bytecode_program.specs.Abstract.{IsAbstractedBy, abstraction_of}
use Rattle.pb_bytecode_program.specs.declared.domain.AbstractValue.{AbstractValue}
use Rattle.pb_bytecode_program.specs.Machine.{Program, Frame, State, carrier_of}
use Rattle.pb_bytecode_program.specs.Counts.{loops_around}
use Rattle.pb_bytecode_program.specs.Transfer.{AbstractState}
use Rattle.pb_bytecode_program.specs.Accepted.{Table, state_at}
use Rattle.pb_sorts.specs.declared.carrier.Carrier.{Carrier}
use Rattle.pb_bytecode_program.specs.declared.instruction.Op.TheVariants as op

-- the operands have these shapes, down to the rest
abbrev pub Fits : List TaggedValue → List AbstractValue → List TaggedValue → Type 0
Fits vs [] rest = vs ≡ rest
Fits [] (s ∷ ss) rest = ⊥
Fits (v ∷ vs) (s ∷ ss) rest = IsAbstractedBy v s × Fits vs ss rest

abbrev pub FitParameters : List TaggedValue → List AbstractValue → Type 0
FitParameters [] [] = Unit {0}
FitParameters (v ∷ vs) (s ∷ ss) = IsAbstractedBy v s × FitParameters vs ss
FitParameters [] (s ∷ ss) = ⊥
FitParameters (v ∷ vs) [] = ⊥

abbrev pub FitLoops : List Frame → List (ℕ × AbstractValue) → Type 0
FitLoops [] [] = Unit {0}
FitLoops (f ∷ fs) (l ∷ ls) = (f.slot ≡ l.0) × IsAbstractedBy f.value l.1 × FitLoops fs ls
FitLoops [] (l ∷ ls) = ⊥
FitLoops (f ∷ fs) [] = ⊥

abbrev pub AllWithin : List TaggedValue → AbstractValue → Type 0
AllWithin [] s = Unit {0}
AllWithin (v ∷ vs) s = IsAbstractedBy v s × AllWithin vs s

abbrev pub places : List Frame → List ℕ
places [] = []
places (f ∷ fs) = f.loop_place ∷ places fs

-- a loop under way, with the operands below its floor: they are what they were at its LOOP
pub record AtLoop (p : Program) (table : Table) (parameters : List TaggedValue) (f : Frame) (fs : List Frame) (rest : List TaggedValue) (Outer : List TaggedValue → Type 0) : Type 0 where
  pub loop : slice_get p.code f.loop_place ≡ Some (op.Loop f.slot)
  pub carrier : Carrier
  pub of_slot : carrier_of p f.slot ≡ Some carrier
  pub remaining : AllWithin f.remaining (abstraction_of carrier)
  pub around_it : loops_around p.code f.loop_place ≡ places fs
  pub home : AbstractState
  pub there : state_at table f.loop_place ≡ Some home
  pub operands_below : List TaggedValue
  pub operands : Fits rest home.operands operands_below
  pub deep : length operands_below ≡ home.operands_below
  pub fit_parameters : FitParameters parameters home.parameters
  pub fit_loops : FitLoops fs home.loops
  pub outer : Outer operands_below

abbrev pub Under : Program → Table → List TaggedValue → List Frame → List TaggedValue → Type 0
Under p table parameters [] rest = rest ≡ []
Under p table parameters (f ∷ fs) rest = AtLoop p table parameters f fs rest (Under p table parameters fs)

-- what is known holds of the state
pub record Covered (p : Program) (table : Table) (st : State) (k : AbstractState) : Type 0 where
  pub rest : List TaggedValue
  pub operands : Fits st.operands k.operands rest
  pub deep : length rest ≡ k.operands_below
  pub fit_parameters : FitParameters st.parameters k.parameters
  pub fit_loops : FitLoops st.loops k.loops
  pub brackets : st.brackets ≡ k.brackets
  pub roots : st.roots ≡ k.roots
  pub under : Under p table st.parameters st.loops rest

pub record IsCoveredState (p : Program) (table : Table) (st : State) : Type 0 where
  pub known : AbstractState
  pub there : state_at table st.place ≡ Some known
  pub covered : Covered p table st known
  pub around_it : loops_around p.code st.place ≡ places st.loops
