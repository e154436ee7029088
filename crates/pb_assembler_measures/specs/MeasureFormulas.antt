-- How much the code of a formula takes.
use Rattle.std.specs.Prelude.{ℕ, suc, ◌+◌, ◌*◌, max, Bool, true, false, List, [], ◌∷◌, length, Option, Some, None, is_some, nat_le, if◌then◌else◌}
use Rattle.std.specs.List.{slice_get}
use Rattle.std.specs.Option.{option_map}
use Rattle.pb_sorts.specs.Carrier.{values_of}
use Rattle.pb_sorts.specs.declared.carrier.Carrier.{Carrier}
use Rattle.pb_typing_declarations.specs.Shapes.{Shape, shape_carrier}
use Rattle.pb_fixpoint_trees.specs.declared.junction.Junction.{Junction}
use Rattle.pb_fixpoint_trees.specs.declared.junction.Junction.TheVariants.{Conjunction, Disjunction}
use Rattle.pb_normal.specs.Normal.{Term, Argument, Formula, Test, Join, Each, Call}
use Rattle.pb_normal.specs.declared.formula.Formula as formula
use Rattle.pb_normal.specs.View.{chained_formula, formula_view, formula_views}
use Rattle.pb_assembler_scheme.specs.Scheme.{junction_of, test_of, tested_range, any_tested, parameters}
use Rattle.pb_assembler_scheme.specs.Limits.{one_kept}
use Rattle.pb_assembler_measures.specs.declared.measure_load.Load.{Load}
use Rattle.pb_assembler_measures.specs.declared.measure_tally.Tally.{Tally}
use Rattle.pb_assembler_measures.specs.MeasureTerms.{capped, capped_load, term_load}

abbrev pub capped_tally : Tally → Tally
capped_tally t = record {
  instructions = capped t.instructions;
  operands = capped t.operands;
  brackets = capped t.brackets;
  nesting = capped t.nesting;
  steps = capped t.steps;
  tokens = capped t.tokens;
}

-- a test alone
abbrev pub test_tally : Load → Tally
test_tally l = record {
  instructions = 2 + l.instructions;
  operands = l.operands;
  brackets = 0;
  nesting = 0;
  steps = 2 + l.instructions;
  tokens = 1;
}

-- a test that passes over what follows
abbrev pub passing : Load → Tally → Tally
passing l x = record x {
  instructions = 1 + (l.instructions + x.instructions);
  operands = max l.operands x.operands;
  steps = 1 + (l.instructions + x.steps);
}

-- a test with the leaf that it writes where it decides, in place of what follows
abbrev pub deciding_tally : Load → Tally → Tally
deciding_tally l x = record x {
  instructions = 3 + (l.instructions + x.instructions);
  operands = max l.operands x.operands;
  steps = 3 + (l.instructions + x.steps);
  tokens = 1 + x.tokens;
}

-- a test joined by m with what follows under the bracket that is open
abbrev pub tested_tally : (m around : Junction) → Load → Tally → Tally
tested_tally Conjunction Conjunction l x = deciding_tally l x
tested_tally Disjunction Disjunction l x = deciding_tally l x
tested_tally Conjunction Disjunction l x = passing l x
tested_tally Disjunction Conjunction l x = passing l x

abbrev pub bracketed_tally : Tally → Tally
bracketed_tally x = record x {
  instructions = 2 + x.instructions;
  brackets = 1 + x.brackets;
  steps = 2 + x.steps;
  tokens = 2 + x.tokens;
}

abbrev pub under_tally : (m around : Junction) → Tally → Tally
under_tally Conjunction Conjunction x = x
under_tally Disjunction Disjunction x = x
under_tally Conjunction Disjunction x = bracketed_tally x
under_tally Disjunction Conjunction x = bracketed_tally x

-- one behind the other
abbrev pub after : Tally → Tally → Tally
after x y = record {
  instructions = x.instructions + y.instructions;
  operands = max x.operands y.operands;
  brackets = max x.brackets y.brackets;
  nesting = max x.nesting y.nesting;
  steps = x.steps + y.steps;
  tokens = x.tokens + y.tokens;
}

-- in a loop over so many values
abbrev pub looped : ℕ → Tally → Tally
looped n x = record x {
  instructions = 2 + x.instructions;
  nesting = 1 + x.nesting;
  steps = 1 + n * (1 + x.steps);
  tokens = n * x.tokens;
}

abbrev pub join_tally :
    (m around : Junction) → (f g : Option Term) → (f_around g_around f_own g_own : Tally) → Tally
join_tally m around (Some t) g f_around g_around f_own g_own =
    tested_tally m around (term_load t) g_around
join_tally m around None (Some t) f_around g_around f_own g_own =
    tested_tally m around (term_load t) f_around
join_tally m around None None f_around g_around f_own g_own =
    under_tally m around (after f_own g_own)

-- ---- calls

abbrev pub is_tested : Option Carrier → Shape → Bool
is_tested None s = false
is_tested (Some c) s = is_some (tested_range c s)

-- what a test of an argument's range adds, and what taking off an argument does
abbrev pub guard_length : (tested later : Bool) → ℕ
guard_length true later = 2
guard_length false true = 1
guard_length false false = 0

-- an argument in front of those that follow it
abbrev pub argument_load : (tested later : Bool) → Load → Load → Load
argument_load tested later l m = record {
  instructions = guard_length tested later + (l.instructions + m.instructions);
  operands = one_kept l.operands m.operands;
}

abbrev pub nothing : Load
nothing = record { instructions = 0; operands = 0 }

abbrev pub arguments_load : List Carrier → List Argument → Load
arguments_load (c ∷ cs) (x ∷ xs) =
    argument_load (is_some (tested_range c x.shape)) (any_tested cs xs) (term_load x.term)
    (arguments_load cs xs)
arguments_load [] (x ∷ xs) = argument_load false false (term_load x.term) (arguments_load [] xs)
arguments_load cs [] = nothing

-- the call, and where there is a test the cut and the jump over it
abbrev pub ended_call : (any : Bool) → Load → Tally
ended_call true l = record {
  instructions = 3 + l.instructions;
  operands = l.operands;
  brackets = 0;
  nesting = 0;
  steps = 3 + l.instructions;
  tokens = 2;
}
ended_call false l = record {
  instructions = 1 + l.instructions;
  operands = l.operands;
  brackets = 0;
  nesting = 0;
  steps = 1 + l.instructions;
  tokens = 1;
}

abbrev pub call_tally : List Carrier → List Argument → Tally
call_tally cs xs = ended_call (any_tested cs xs) (arguments_load cs xs)

-- ---- formulas

abbrev pub shape_size : Shape → ℕ
shape_size s = length (shape_carrier s)

abbrev pub formula_tally : List (List Carrier) → (around : Junction) → Formula → Tally
formula_tally callees around (Test t) = test_tally (term_load t)
formula_tally callees around (Join m f g) =
    join_tally m around (test_of f) (test_of g)
    (formula_tally callees around f) (formula_tally callees around g)
    (formula_tally callees m f) (formula_tally callees m g)
formula_tally callees around (Each q s shape f) =
    under_tally (junction_of q) around
    (looped (shape_size shape) (formula_tally callees (junction_of q) f))
formula_tally callees around (Call equation xs) =
    call_tally (parameters (slice_get callees equation)) xs

-- ---- chains of one connective

-- the operands from one of them on
abbrev pub form_chain : Junction → List formula.Formula → Formula
form_chain m [] = Test (Term.Truth true)
form_chain m (f ∷ fs) = chained_formula (Join m) (formula_view f) (formula_views fs)

-- the kind of the bracket that is open behind an operand of a chain
abbrev pub kind_by : Option Term → (m around : Junction) → Junction
kind_by (Some t) m around = around
kind_by None m around = m

abbrev pub kind_behind : (m around : Junction) → Formula → Junction
kind_behind m around f = kind_by (test_of f) m around

-- how many operands are tests, up to the first that is none
abbrev pub more_tests : Option Term → ℕ → ℕ
more_tests (Some t) n = suc n
more_tests None n = 0

abbrev pub leading_tests : List formula.Formula → ℕ
leading_tests [] = 0
leading_tests (f ∷ fs) = more_tests (test_of (formula_view f)) (leading_tests fs)

abbrev pub load_by : Option Term → Option Load
load_by o = option_map (λ t. capped_load (term_load t)) o

-- the kind of the bracket that is open in front of an operand behind the first, given the kind
-- behind the first one and how many tests lead
abbrev pub kind_at : (m kind : Junction) → (leading place : ℕ) → Junction
kind_at m kind leading place = if nat_le place leading then kind else m

-- loops in one another, the first one outermost
abbrev pub loops_tally : List Carrier → Tally → Tally
loops_tally [] x = x
loops_tally (c ∷ cs) x = looped (length (values_of c)) (loops_tally cs x)
