-- What is known may be less, and slots have the values that are known of them.
use Rattle.std.proofs.Common.{◌≡◌, ℕ, zero, suc, Bool, true, false, cond, List, [], ◌∷◌, length, Option, Some, None, refl, ap, ◌∙◌, arith}
use Rattle.std.specs.Prelude.{slice_get, ◌==◌}
use Rattle.std.proofs.lemmas.Int.{ints}
use Rattle.std.proofs.lemmas.Bool.{cond-true, cond-false, cond_both, or_parts}
use Rattle.pb_bytecode_program.specs.Values.{TaggedValue, BoolValue, IntValue, EnumValue}
use Rattle.pb_bytecode_program.specs.Abstract.{IsAbstractedBy, Covers}
use Rattle.pb_bytecode_program.specs.declared.domain.AbstractValue.{AbstractValue}
use Rattle.pb_bytecode_program.specs.declared.domain.AbstractValue.TheVariants as abstract
use Rattle.pb_bytecode_program.specs.Machine
use Rattle.pb_bytecode_program.specs.Machine.{Program, Frame, State, Outcome, Continues, Ends, Faults}
use Rattle.pb_bytecode_program.specs.Transfer
use Rattle.pb_bytecode_program.specs.Transfer.{AbstractState, Edge, Flow}
use Rattle.pb_bytecode_program.specs.Accepted.{Table, CoversEach, CoversLoops, IsCovered}
use Rattle.pb_bytecode_program.proofs.Invariant.{Fits, FitParameters, FitLoops, Covered}

-- ---- what is known may be less

pub covers_through : (s t u : AbstractValue) → Covers s t → Covers t u → Covers s u
covers_through abstract.Bool abstract.Bool u c d = d
covers_through abstract.Bool (abstract.Int l h) u c d = absurd c
covers_through abstract.Bool (abstract.Enum a n) u c d = absurd c
covers_through (abstract.Int l h) abstract.Bool u c d = absurd c
covers_through (abstract.Int l h) (abstract.Enum a n) u c d = absurd c
covers_through (abstract.Enum a n) abstract.Bool u c d = absurd c
covers_through (abstract.Enum a n) (abstract.Int l h) u c d = absurd c
covers_through (abstract.Int l h) (abstract.Int m k) abstract.Bool c d = absurd d
covers_through (abstract.Int l h) (abstract.Int m k) (abstract.Enum a n) c d = absurd d
covers_through (abstract.Int l h) (abstract.Int m k) (abstract.Int x y) c d = (let a = c.0 in let b = d.0 in omega (arith, ints), c.1, let a = c.2 in let b = d.2 in omega (arith, ints))
covers_through (abstract.Enum a n) (abstract.Enum b m) abstract.Bool c d = absurd d
covers_through (abstract.Enum a n) (abstract.Enum b m) (abstract.Int x y) c d = absurd d
covers_through (abstract.Enum a n) (abstract.Enum b m) (abstract.Enum e k) c d = (c.0 ∙ d.0, let x = c.1 in let y = d.1 in omega arith)

pub within_more : (v : TaggedValue) (s t : AbstractValue) → Covers s t → IsAbstractedBy v s → IsAbstractedBy v t
within_more (BoolValue b) abstract.Bool abstract.Bool c w = tt
within_more (IntValue z) (abstract.Int l h) (abstract.Int m k) c w = (let a = c.0 in let b = w.0 in omega (arith, ints), let a = c.2 in let b = w.1 in omega (arith, ints))
within_more (EnumValue s i) (abstract.Enum t n) (abstract.Enum u m) c w = (w.0 ∙ c.0, let a = c.1 in let b = w.1 in omega arith)
within_more (BoolValue b) abstract.Bool (abstract.Int m k) c w = absurd c
within_more (BoolValue b) abstract.Bool (abstract.Enum u m) c w = absurd c
within_more (BoolValue b) (abstract.Int l h) t c w = absurd w
within_more (BoolValue b) (abstract.Enum s n) t c w = absurd w
within_more (IntValue z) abstract.Bool t c w = absurd w
within_more (IntValue z) (abstract.Enum s n) t c w = absurd w
within_more (IntValue z) (abstract.Int l h) abstract.Bool c w = absurd c
within_more (IntValue z) (abstract.Int l h) (abstract.Enum u m) c w = absurd c
within_more (EnumValue s i) abstract.Bool t c w = absurd w
within_more (EnumValue s i) (abstract.Int l h) t c w = absurd w
within_more (EnumValue s i) (abstract.Enum t n) abstract.Bool c w = absurd c
within_more (EnumValue s i) (abstract.Enum t n) (abstract.Int l h) c w = absurd c

pub fits_more : (vs : List TaggedValue) (ss ts : List AbstractValue) (rest : List TaggedValue) → CoversEach ss ts → Fits vs ss rest → Fits vs ts rest
fits_more vs [] [] rest c f = f
fits_more vs [] (t ∷ ts) rest c f = absurd c
fits_more vs (s ∷ ss) [] rest c f = absurd c
fits_more [] (s ∷ ss) (t ∷ ts) rest c f = absurd f
fits_more (v ∷ vs) (s ∷ ss) (t ∷ ts) rest c f = (within_more v s t c.0 f.0, fits_more vs ss ts rest c.1 f.1)

pub parameters_more : (vs : List TaggedValue) (ss ts : List AbstractValue) → CoversEach ss ts → FitParameters vs ss → FitParameters vs ts
parameters_more [] [] [] c f = tt
parameters_more [] [] (t ∷ ts) c f = absurd c
parameters_more vs (s ∷ ss) [] c f = absurd c
parameters_more [] (s ∷ ss) (t ∷ ts) c f = absurd f
parameters_more (v ∷ vs) [] ts c f = absurd f
parameters_more (v ∷ vs) (s ∷ ss) (t ∷ ts) c f = (within_more v s t c.0 f.0, parameters_more vs ss ts c.1 f.1)

pub loops_more : (fs : List Frame) (ss ts : List (ℕ × AbstractValue)) → CoversLoops ss ts → FitLoops fs ss → FitLoops fs ts
loops_more [] [] [] c f = tt
loops_more [] [] (t ∷ ts) c f = absurd c
loops_more fs (s ∷ ss) [] c f = absurd c
loops_more [] (s ∷ ss) (t ∷ ts) c f = absurd f
loops_more (v ∷ vs) [] ts c f = absurd f
loops_more (v ∷ vs) (s ∷ ss) (t ∷ ts) c f = (f.0 ∙ c.0, within_more v.value s.1 t.1 c.1 f.1, loops_more vs ss ts c.2 f.2)

pub covered_more : (p : Program) (table : Table) (st : State) (k m : AbstractState) → IsCovered k m → Covered p table st k → Covered p table st m
covered_more p table st k m c v = record {
  rest = v.rest;
  operands = fits_more st.operands k.operands m.operands v.rest c.operands v.operands;
  deep = v.deep ∙ c.operands_below;
  fit_parameters = parameters_more st.parameters k.parameters m.parameters c.parameters v.fit_parameters;
  fit_loops = loops_more st.loops k.loops m.loops c.loops v.fit_loops;
  brackets = v.brackets ∙ c.brackets;
  roots = v.roots ∙ c.roots;
  under = v.under;
}

-- ---- slots

abbrev pub SlotFits : Option TaggedValue → Option AbstractValue → Type 0
SlotFits (Some v) (Some s) = IsAbstractedBy v s
SlotFits None None = Unit {0}
SlotFits (Some v) None = ⊥
SlotFits None (Some s) = ⊥

pub param_fits : (vs : List TaggedValue) (ss : List AbstractValue) (i : ℕ) → FitParameters vs ss → SlotFits (slice_get vs i) (slice_get ss i)
param_fits [] [] i f = tt
param_fits [] (s ∷ ss) i f = absurd f
param_fits (v ∷ vs) [] i f = absurd f
param_fits (v ∷ vs) (s ∷ ss) zero f = f.0
param_fits (v ∷ vs) (s ∷ ss) (suc i) f = param_fits vs ss i f.1

pub slot_fits : (fs : List Frame) (ls : List (ℕ × AbstractValue)) (vs : List TaggedValue) (ss : List AbstractValue)
    (i : ℕ) → FitLoops fs ls → FitParameters vs ss → SlotFits (Machine.value_at fs vs i) (Transfer.abstract_slot ls ss i)
slot_fits [] [] vs ss i f g = param_fits vs ss i g
slot_fits [] (l ∷ ls) vs ss i f g = absurd f
slot_fits (x ∷ fs) [] vs ss i f g = absurd f
slot_fits (x ∷ fs) (l ∷ ls) vs ss i f g = rw (f.0) (pick (i == l.0) (slot_fits fs ls vs ss i f.2 g))
  where
    pick : (b : Bool) → SlotFits (Machine.value_at fs vs i) (Transfer.abstract_slot ls ss i)
        → SlotFits (cond b (Some x.value) (Machine.value_at fs vs i)) (cond b (Some l.1) (Transfer.abstract_slot ls ss i))
    pick true h = f.1
    pick false h = h

pub runs_among : (fs : List Frame) (ls : List (ℕ × AbstractValue)) (i : ℕ) → FitLoops fs ls → Machine.is_running fs i ≡ Transfer.among ls i
runs_among [] [] i f = refl
runs_among [] (l ∷ ls) i f = absurd f
runs_among (x ∷ fs) [] i f = absurd f
runs_among (x ∷ fs) (l ∷ ls) i f = rw (f.0, runs_among fs ls i f.2)

pub loops_length : (fs : List Frame) (ls : List (ℕ × AbstractValue)) → FitLoops fs ls → length fs ≡ length ls
loops_length [] [] f = refl
loops_length [] (l ∷ ls) f = absurd f
loops_length (x ∷ fs) [] f = absurd f
loops_length (x ∷ fs) (l ∷ ls) f = ap suc (loops_length fs ls f.2)

-- a slot's shape, cut to what its value meets
pub set_parameters : (vs : List TaggedValue) (ss : List AbstractValue) (i : ℕ) (s : AbstractValue) → FitParameters vs ss
    → ((v : TaggedValue) → slice_get vs i ≡ Some v → IsAbstractedBy v s) → FitParameters vs (Transfer.set_param ss i s)
set_parameters [] [] i s f h = tt
set_parameters [] (t ∷ ss) i s f h = absurd f
set_parameters (v ∷ vs) [] i s f h = absurd f
set_parameters (v ∷ vs) (t ∷ ss) zero s f h = (h v refl, f.1)
set_parameters (v ∷ vs) (t ∷ ss) (suc i) s f h = (f.0, set_parameters vs ss i s f.1 h)

pub set_loops : (fs : List Frame) (ls : List (ℕ × AbstractValue)) (vs : List TaggedValue) (i : ℕ) (s : AbstractValue)
    → FitLoops fs ls → ((v : TaggedValue) → Machine.value_at fs vs i ≡ Some v → IsAbstractedBy v s) → FitLoops fs (Transfer.set_loop ls i s)
set_loops [] [] vs i s f h = tt
set_loops [] (l ∷ ls) vs i s f h = absurd f
set_loops (x ∷ fs) [] vs i s f h = absurd f
set_loops (x ∷ fs) (l ∷ ls) vs i s f h =
    cond_both (i == l.0) _ _ (FitLoops (x ∷ fs))
    (λ e. (f.0, h x.value (cond-true _ _ _ (ap (λ m. i == m) f.0 ∙ e)), f.2))
    (λ e. (f.0, f.1, set_loops fs ls vs i s f.2 (λ v g. h v (cond-false _ _ _ (ap (λ m. i == m) f.0 ∙ e) ∙ g))))

pub no_loop : (fs : List Frame) (vs : List TaggedValue) (i : ℕ) → Machine.is_running fs i ≡ false → Machine.value_at fs vs i ≡ slice_get vs i
no_loop [] vs i e = refl
no_loop (f ∷ fs) vs i e = let two = or_parts (i == f.slot) (Machine.is_running fs i) e in cond-false _ _ _ two.0 ∙ no_loop fs vs i two.1
