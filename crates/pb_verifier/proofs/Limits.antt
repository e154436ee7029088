-- What the limits of modules say of the equations' code and of the layout.
use Rattle.std.proofs.Common.{◌≡◌, ℕ, zero, suc, ◌<◌, ◌≤◌, Bool, true, ◌&&◌, List, [], ◌∷◌, length, map, Some, subst, arith, ◌+◌}
use Rattle.std.specs.Prelude.{All, nat_le, nat_lt, slice_get, int_le}
use Rattle.std.specs.List.{list_all}
use Rattle.std.proofs.lemmas.Bool.{and_parts, leb-true, ltb-true}
use Rattle.std.proofs.lemmas.List.{length-map}
use Rattle.pb_base.specs.declared.limits.TheConstants.{MAX_STRUCTS, MAX_EQUATIONS, MAX_PARAMETERS, MAX_LOOP_SLOTS, MAX_INSTRUCTIONS}
use Rattle.pb_sorts.specs.declared.counting.TheConstants.{MAX_NUMBERS}
use Rattle.pb_sorts.specs.Layout.{count_of}
use Rattle.pb_sorts.specs.declared.carrier.Carrier.{Carrier}
use Rattle.pb_bytecode_program.proofs.Ints.{le_true}
use Rattle.pb_bytecode_program.specs.Monotone.{HasOrderedRange}
use Rattle.pb_bytecode_program.specs.declared.instruction.Op.{Op}
use Rattle.pb_bytecode_program.specs.declared.instruction.Op.TheVariants as op
use Rattle.pb_bytecode_program.specs.declared.version.Version.{Version}
use Rattle.pb_bytecode.specs.Contents.{EquationContents, Contents, counts}
use Rattle.pb_bytecode.specs.Meaning.{parameters, program_of}
use Rattle.pb_bytecode.specs.Names.{is_module_name}
use Rattle.pb_bytecode.specs.Limits.{is_between, is_byte, is_i32, is_u16, is_u32, is_second, are_bounds, fits_sort, fits_carrier, fits_op, fits_equation, fits_initial, instance_count, fits}
use Rattle.pb_bytecode.proofs.InstanceCounts.{instances_counted}
use Rattle.pb_verifier_structure.specs.Structure.{IsProgramWithinLimits}

-- ---- parts of the limits

all_at : {A : Type 0} → (test : A → Bool) (xs : List A) (k : ℕ) (x : A) → list_all test xs ≡ true → slice_get xs k ≡ Some x → test x ≡ true
all_at test [] k x h e = cc
all_at test (y ∷ ys) zero x h e = let same : y ≡ x = cc in subst (λ z. test z ≡ true) same (and_parts (test y) (list_all test ys) h).0
all_at test (y ∷ ys) (suc k) x h e = all_at test ys k x (and_parts (test y) (list_all test ys) h).1 e

below : (low end n : ℕ) → is_between low end n ≡ true → n < end
below low end n h = ltb-true n end (and_parts (nat_le low n) (nat_lt n end) h).1

above : (low end n : ℕ) → is_between low end n ≡ true → low ≤ n
above low end n h = leb-true low n (and_parts (nat_le low n) (nat_lt n end) h).0

pub record EquationsFit (m : Contents) : Type 0 where
  pub few : is_between 1 (MAX_EQUATIONS + 1) (length m.equations) ≡ true
  pub each : list_all (fits_equation m.version (counts m.sorts)) m.equations ≡ true
  pub instances : nat_le (instance_count m.equations) MAX_NUMBERS ≡ true

equations_fit : (m : Contents) → fits m ≡ true → EquationsFit m
equations_fit m h =
    let a = and_parts (is_between 0 (MAX_STRUCTS + 1) (length m.sorts) && list_all fits_sort m.sorts)
    ((is_between 1 (MAX_EQUATIONS + 1) (length m.equations) && list_all (fits_equation m.version (counts m.sorts))
    m.equations) && (nat_le (instance_count m.equations) MAX_NUMBERS && fits_initial m.equations m.initial)) h in
    let b = and_parts
    (is_between 1 (MAX_EQUATIONS + 1) (length m.equations) && list_all (fits_equation m.version (counts m.sorts))
    m.equations) (nat_le (instance_count m.equations) MAX_NUMBERS && fits_initial m.equations m.initial) a.1 in
    let c = and_parts (is_between 1 (MAX_EQUATIONS + 1) (length m.equations)) (list_all (fits_equation m.version (counts m.sorts)) m.equations) b.0 in
    record { few = c.0; each = c.1; instances = (and_parts (nat_le (instance_count m.equations) MAX_NUMBERS) (fits_initial m.equations m.initial) b.1).0 }

pub record CodeFits (v : Version) (sizes : List ℕ) (e : EquationContents) : Type 0 where
  pub parameters : is_between 0 (MAX_PARAMETERS + 1) (length e.parameters) ≡ true
  pub code : is_between 1 (MAX_INSTRUCTIONS + 1) (length e.code) ≡ true
  pub ops : list_all (fits_op v sizes) e.code ≡ true

code_fits : (v : Version) (sizes : List ℕ) (e : EquationContents) → fits_equation v sizes e ≡ true → CodeFits v sizes e
code_fits v sizes e h =
    let code = is_between 1 (MAX_INSTRUCTIONS + 1) (length e.code) && list_all (fits_op v sizes) e.code in
    let tokens = is_u32 e.tokens && code in
    let steps = is_u32 e.steps && tokens in
    let loops = is_between 0 (MAX_LOOP_SLOTS + 1) (length e.loops) && list_all (fits_carrier sizes) e.loops in
    let parameters = is_between 0 (MAX_PARAMETERS + 1) (length e.parameters) && list_all (fits_carrier sizes) e.parameters in
    let a = and_parts (is_module_name e.name) (parameters && (loops && steps)) h in
    let b = and_parts parameters (loops && steps) a.1 in
    let c = and_parts loops steps b.1 in
    let d = and_parts (is_u32 e.steps) tokens c.1 in
    let f = and_parts (is_u32 e.tokens) code d.1 in
    let g = and_parts (is_between 1 (MAX_INSTRUCTIONS + 1) (length e.code)) (list_all (fits_op v sizes) e.code) f.1 in
    record { parameters = (and_parts (is_between 0 (MAX_PARAMETERS + 1) (length e.parameters)) (list_all (fits_carrier sizes) e.parameters) b.0).0; code = g.0; ops = g.1 }

-- ---- code

ordered : (v : Version) (sizes : List ℕ) (i : Op) → fits_op v sizes i ≡ true → HasOrderedRange i
ordered v sizes (op.InRange low high to) h = le_true low high (and_parts (is_i32 low && is_i32 high) (int_le low high) (and_parts (are_bounds low high) (is_u16 to) h).0).1
ordered v sizes (op.SlotInRange slot low high to) h =
    let a = and_parts (is_second v) (is_byte slot && (are_bounds low high && is_u16 to)) h in
    let b = and_parts (is_byte slot) (are_bounds low high && is_u16 to) a.1 in
    le_true low high (and_parts (is_i32 low && is_i32 high) (int_le low high) (and_parts (are_bounds low high) (is_u16 to) b.1).0).1
ordered v sizes op.End h = tt
ordered v sizes (op.PushInt z) h = tt
ordered v sizes (op.PushBool z) h = tt
ordered v sizes (op.PushEnum s z) h = tt
ordered v sizes (op.Get z) h = tt
ordered v sizes op.Pop h = tt
ordered v sizes (op.Arithmetic z) h = tt
ordered v sizes op.Negate h = tt
ordered v sizes op.Absolute h = tt
ordered v sizes (op.Compare z) h = tt
ordered v sizes (op.Equality z) h = tt
ordered v sizes op.Not h = tt
ordered v sizes (op.Logic z) h = tt
ordered v sizes (op.Jump to) h = tt
ordered v sizes (op.JumpIf on to) h = tt
ordered v sizes (op.Loop z) h = tt
ordered v sizes op.Next h = tt
ordered v sizes (op.Open z) h = tt
ordered v sizes op.Close h = tt
ordered v sizes (op.Emit z) h = tt
ordered v sizes (op.Call z) h = tt

pub code_within_limits : (m : Contents) (k : ℕ) (e : EquationContents) → fits m ≡ true → slice_get m.equations k ≡ Some e → IsProgramWithinLimits (program_of m e)
code_within_limits m k e h at =
    let parts = equations_fit m h in
    let fit = code_fits m.version (counts m.sorts) e (all_at (fits_equation m.version (counts m.sorts)) m.equations k e parts.each at) in
    record {
      some = let a = above 1 (MAX_INSTRUCTIONS + 1) (length e.code) fit.code in omega arith;
      short = let a = below 1 (MAX_INSTRUCTIONS + 1) (length e.code) fit.code in omega arith;
      bounds = λ q i here. ordered m.version (counts m.sorts) i (all_at (fits_op m.version (counts m.sorts)) e.code q i fit.ops here);
    }

-- ---- the layout

few_parameters : (v : Version) (sizes : List ℕ) (es : List EquationContents)
    → list_all (fits_equation v sizes) es ≡ true
    → All (λ (ps : List Carrier). length ps ≤ MAX_PARAMETERS) (map (λ (e : EquationContents). e.parameters) es)
few_parameters v sizes [] h k d lt = absurd (omega arith)
few_parameters v sizes (e ∷ es) h zero d lt =
    let b = below 0 (MAX_PARAMETERS + 1) (length e.parameters) (code_fits v sizes e (and_parts (fits_equation v sizes e) (list_all (fits_equation v sizes) es) h).0).parameters in
    omega arith
few_parameters v sizes (e ∷ es) h (suc k) d lt = few_parameters v sizes es (and_parts (fits_equation v sizes e) (list_all (fits_equation v sizes) es) h).1 k d (omega arith)

-- there are no more equations, parameters and instances than a layout may have
pub record HasLayout (callees : List (List Carrier)) : Type 0 where
  pub equations : length callees ≤ MAX_EQUATIONS
  pub parameters : All (λ (ps : List Carrier). length ps ≤ MAX_PARAMETERS) callees
  pub instances : count_of callees ≤ MAX_NUMBERS

pub has_layout : (m : Contents) → fits m ≡ true → HasLayout (parameters m)
has_layout m h =
    let parts = equations_fit m h in
    record {
      equations = let a = below 1 (MAX_EQUATIONS + 1) (length m.equations) parts.few in rw length-map (omega arith);
      parameters = few_parameters m.version (counts m.sorts) m.equations parts.each;
      instances = let a = leb-true (instance_count m.equations) MAX_NUMBERS parts.instances in omega (arith, instances_counted 0 m.equations);
    }
