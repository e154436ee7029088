-- Abstract values that stand for some value: no interval is empty.
use Rattle.std.specs.Prelude.{ℕ, List, [], ◌∷◌, ◌≤ℤ◌}
use Rattle.pb_bytecode_program.specs.declared.domain.AbstractValue.{AbstractValue}
use Rattle.pb_bytecode_program.specs.declared.domain.AbstractValue.TheVariants as abstract

abbrev pub HasOrderedEnds : AbstractValue → Type 0
HasOrderedEnds abstract.Bool = Unit {0}
HasOrderedEnds (abstract.Int l h) = l ≤ℤ h
HasOrderedEnds (abstract.Enum s n) = Unit {0}

abbrev pub HaveOrderedEnds : List AbstractValue → Type 0
HaveOrderedEnds [] = Unit {0}
HaveOrderedEnds (v ∷ vs) = HasOrderedEnds v × HaveOrderedEnds vs

abbrev pub LoopsHaveOrderedEnds : List (ℕ × AbstractValue) → Type 0
LoopsHaveOrderedEnds [] = Unit {0}
LoopsHaveOrderedEnds (l ∷ ls) = HasOrderedEnds l.1 × LoopsHaveOrderedEnds ls
