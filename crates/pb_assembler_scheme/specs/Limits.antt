-- The limits of the machine, of an equation's program and the right side that it is made of. How
-- many operands, brackets and loops are open at once is counted on the right side, as if every test
-- of a truth value or of a range could go both ways.
use Rattle.std.specs.Prelude.{◌≡◌, ℕ, suc, nat_lt, max, Bool, false, ◌||◌, List, [], ◌∷◌, length, Option, Some, None}
use Rattle.pb_base.specs.declared.limits.TheConstants.{MAX_LOOP_SLOTS, MAX_INSTRUCTIONS}
use Rattle.pb_text_meaning.specs.Syntax.{Operator}
use Rattle.pb_base.specs.declared.limits.TheConstants.{MAX_OPERANDS, MAX_BRACKETS, MAX_LOOPS, MAX_STEPS, MAX_TOKENS}
use Rattle.pb_bytecode_program.specs.Machine.{Program}
use Rattle.pb_bytecode_program.specs.Counts.{static_steps, static_tokens}
use Rattle.pb_bytecode.specs.declared.limit.Limit.{Limit}
use Rattle.pb_bytecode.specs.declared.limit.Limit.TheVariants as limit
use Rattle.pb_fixpoint_trees.specs.declared.junction.Junction.{Junction}
use Rattle.pb_fixpoint_trees.specs.declared.junction.Junction.TheVariants.{Conjunction, Disjunction}
use Rattle.pb_normal.specs.Normal.{Term, Number, Slot, Negative, Absolute, Successor, Predecessor, Binary, Maximum, Minimum, Choice, Recognised, Argument, Formula, Test, Join, Each, Call}
use Rattle.pb_assembler_scheme.specs.Scheme.{test_of, junction_of, head}

-- ---- operands

-- two terms' code one after the other, the first value being kept
abbrev pub one_kept : ℕ → ℕ → ℕ
one_kept m n = max m (suc n)

-- the operators on truth values take their second operand first
abbrev pub binary_operands : Operator → ℕ → ℕ → ℕ
binary_operands Operator.And m n = one_kept n m
binary_operands Operator.Or m n = one_kept n m
binary_operands Operator.Implies m n = one_kept n m
binary_operands _ m n = one_kept m n

-- C02: how many operands a term's code holds at most
abbrev pub term_operands : Term → ℕ
term_operands (Term.Truth b) = 1
term_operands (Number n) = 1
term_operands (Term.Enumerator s i) = 1
term_operands (Slot s) = 1
term_operands (Term.Not x) = term_operands x
term_operands (Negative x) = term_operands x
term_operands (Absolute x) = term_operands x
term_operands (Successor x) = one_kept (term_operands x) 1
term_operands (Predecessor x) = one_kept (term_operands x) 1
term_operands (Binary o x y) = binary_operands o (term_operands x) (term_operands y)
term_operands (Maximum x y) = one_kept (term_operands x) (term_operands y)
term_operands (Minimum x y) = one_kept (term_operands x) (term_operands y)
term_operands (Choice c x y) = max (term_operands c) (max (term_operands x) (term_operands y))
term_operands (Recognised s i x) = one_kept (term_operands x) 1

-- all arguments are kept
abbrev pub argument_operands : List Argument → ℕ
argument_operands [] = 0
argument_operands (x ∷ xs) = one_kept (term_operands x.term) (argument_operands xs)

abbrev pub formula_operands : Formula → ℕ
formula_operands (Test t) = term_operands t
formula_operands (Join m f g) = max (formula_operands f) (formula_operands g)
formula_operands (Each q s shape f) = formula_operands f
formula_operands (Call equation xs) = argument_operands xs

-- ---- brackets

-- with a bracket of kind m, unless one of its kind is open already
abbrev pub brackets_under : (m around : Junction) → ℕ → ℕ
brackets_under Conjunction Conjunction n = n
brackets_under Disjunction Disjunction n = n
brackets_under Conjunction Disjunction n = suc n
brackets_under Disjunction Conjunction n = suc n

-- those of two operands joined by m, given each one's under the bracket that is open and under one
-- of kind m
abbrev pub join_brackets :
    (m around : Junction) → (f g : Option Term) → (f_around g_around f_own g_own : ℕ) → ℕ
join_brackets m around (Some t) g f_around g_around f_own g_own = g_around
join_brackets m around None (Some t) f_around g_around f_own g_own = f_around
join_brackets m around None None f_around g_around f_own g_own =
    brackets_under m around (max f_own g_own)

-- C03: how many brackets a formula's code opens within the one that is open
abbrev pub formula_brackets : (around : Junction) → Formula → ℕ
formula_brackets around (Test t) = 0
formula_brackets around (Join m f g) =
    join_brackets m around (test_of f) (test_of g)
    (formula_brackets around f) (formula_brackets around g)
    (formula_brackets m f) (formula_brackets m g)
formula_brackets around (Each q s shape f) =
    brackets_under (junction_of q) around (formula_brackets (junction_of q) f)
formula_brackets around (Call equation xs) = 0

-- ---- loops

-- C04: how deep the loops of a formula's code are nested
abbrev pub formula_loops : Formula → ℕ
formula_loops (Test t) = 0
formula_loops (Join m f g) = max (formula_loops f) (formula_loops g)
formula_loops (Each q s shape f) = suc (formula_loops f)
formula_loops (Call equation xs) = 0

-- ---- all limits

-- whether the program of this right side exceeds a limit: of instructions (C01), operands (C02),
-- brackets (C03), loops (C04), steps (C05) or tokens (C06)
abbrev pub exceeds : Program → Formula → Limit → Bool
exceeds p f limit.Instructions = nat_lt MAX_INSTRUCTIONS (length p.code)
exceeds p f limit.Operands = nat_lt MAX_OPERANDS (formula_operands f)
exceeds p f limit.Brackets = nat_lt MAX_BRACKETS (suc (formula_brackets (head f) f))
exceeds p f limit.Loops =
    nat_lt MAX_LOOPS (formula_loops f) || nat_lt MAX_LOOP_SLOTS (length p.loops)
exceeds p f limit.Steps = nat_lt MAX_STEPS (static_steps p)
exceeds p f limit.Tokens = nat_lt MAX_TOKENS (static_tokens p)

-- it exceeds none
pub record KeepsLimits (p : Program) (f : Formula) : Type 0 where
  pub none : (l : Limit) → exceeds p f l ≡ false
