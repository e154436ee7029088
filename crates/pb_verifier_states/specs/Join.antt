-- The join of two abstract states: the least one that covers both, where there is one. Intervals
-- become their hull (interval analysis, Cousot and Cousot 1977).
use Rattle.std.specs.Prelude.{ℕ, max, List, [], ◌∷◌, Option, Some, None, Bool, true, ◌&&◌, ◌==◌, if◌then◌else◌}
use Rattle.std.specs.Int.{int_min, int_max}
use Rattle.pb_bytecode_program.specs.Transfer.{AbstractState}
use Rattle.pb_bytecode_program.specs.declared.domain.AbstractValue.{AbstractValue}
use Rattle.pb_bytecode_program.specs.declared.domain.AbstractValue.TheVariants as abstract

-- the least value that covers two of one kind
abbrev pub hull_of : AbstractValue → AbstractValue → Option AbstractValue
hull_of abstract.Bool abstract.Bool = Some abstract.Bool
hull_of (abstract.Int l h) (abstract.Int m k) = Some (abstract.Int (int_min l m) (int_max h k))
hull_of (abstract.Enum s n) (abstract.Enum t m) =
    if s == t then Some (abstract.Enum s (max n m)) else None
hull_of _ _ = None

abbrev pub with_first : Option AbstractValue → Option (List AbstractValue)
    → Option (List AbstractValue)
with_first (Some s) (Some ss) = Some (s ∷ ss)
with_first None _ = None
with_first (Some s) None = None

-- those of two lists of one length, one after another
abbrev pub hulls : List AbstractValue → List AbstractValue → Option (List AbstractValue)
hulls [] [] = Some []
hulls (s ∷ ss) (t ∷ ts) = with_first (hull_of s t) (hulls ss ts)
hulls [] (t ∷ ts) = None
hulls (s ∷ ss) [] = None

abbrev pub with_loop : Bool → ℕ → Option AbstractValue → Option (List (ℕ × AbstractValue))
    → Option (List (ℕ × AbstractValue))
with_loop true i (Some s) (Some ls) = Some ((i, s) ∷ ls)
with_loop _ _ _ _ = None

-- those of the slots of the same loops
abbrev pub loop_hulls : List (ℕ × AbstractValue) → List (ℕ × AbstractValue)
    → Option (List (ℕ × AbstractValue))
loop_hulls [] [] = Some []
loop_hulls (s ∷ ss) (t ∷ ts) = with_loop (s.0 == t.0) s.0 (hull_of s.1 t.1) (loop_hulls ss ts)
loop_hulls [] (t ∷ ts) = None
loop_hulls (s ∷ ss) [] = None

abbrev pub joined_state : Bool → AbstractState → Option (List AbstractValue)
    → Option (List AbstractValue)
    → Option (List (ℕ × AbstractValue)) → Option AbstractState
joined_state true k (Some ss) (Some ps) (Some ls) =
    Some (record k { operands = ss; parameters = ps; loops = ls })
joined_state _ _ _ _ _ = None

-- all but operands and slots is the same
abbrev pub agree : AbstractState → AbstractState → Bool
agree k m =
    (k.operands_below == m.operands_below) && (k.brackets == m.brackets)
    && (k.brackets_below == m.brackets_below) && (k.roots == m.roots)

-- the least state that covers both
abbrev pub join_states : AbstractState → AbstractState → Option AbstractState
join_states k m =
    joined_state (agree k m) k (hulls k.operands m.operands) (hulls k.parameters m.parameters)
    (loop_hulls k.loops m.loops)
