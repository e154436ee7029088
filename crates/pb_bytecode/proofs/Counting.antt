-- Counting instances, and reading the values of the initial one, from left to right.
use Rattle.std.proofs.Common.{◌≡◌, ℕ, zero, suc, ◌+◌, ◌<◌, ◌≤◌, true, false, List, [], ◌∷◌, ◌++◌, length, drop, map, get_or, refl, sym, ap, ◌∙◌, arith}
use Rattle.std.specs.Prelude.{ℤ, nat_lt}
use Rattle.pb_sorts.specs.declared.carrier.Carrier.{Carrier}
use Rattle.std.proofs.lemmas.Bool.{lt-ltb, le-ltb}
use Rattle.std.proofs.lemmas.List.{length-map}
use Rattle.std.proofs.Common.{Ok, Err}
use Rattle.std.proofs.lemmas.List.{append-nil}
use Rattle.std.proofs.Math.ListN.{drop_of_length-le}
use Rattle.pb_bytecode.specs.declared.fault.ModuleRule.TheVariants as rule
use Rattle.pb_bytecode.specs.declared.fault.FieldFault.{FieldFault}
use Rattle.pb_base.specs.OrMemory.{IfFault}
use Rattle.pb_base.specs.declared.or_memory.OrMemory.{OrMemory}
use Rattle.pb_base.specs.declared.or_memory.OrMemory.TheVariants as errors
use Rattle.pb_bytecode.specs.Reading.{◌>>=◌, Field, parameters_at, byte_at, value_in_carrier, values_at, initial_at}
use Rattle.pb_bytecode.proofs.Loop.{with_front, regroup}
use Rattle.pb_bytecode.specs.declared.equation.Equation.{Equation}
use Rattle.pb_bytecode.specs.Limits.{instance_count}
use Rattle.pb_bytecode.specs.Views.{equation_contents}

abbrev pub instances : List Equation → ℕ
instances es = instance_count (map equation_contents es)

-- the initial instance's equation
pub parameters_here : (es : List Equation) (i : ℕ) (d : Equation) → i < length es → parameters_at (map equation_contents es) i ≡ (get_or es i d).parameters.items
parameters_here [] i d h = absurd (omega arith)
parameters_here (e ∷ es) zero d h = refl
parameters_here (e ∷ es) (suc i) d h = parameters_here es i d (omega arith)

values_fold : (cs : List Carrier) (d : Carrier) (i : ℕ) (bytes : List ℕ) → i < length cs
    → values_at (drop i cs) bytes
    ≡ (value_in_carrier (get_or cs i d) bytes >>= λ z. values_at (drop (i + 1) cs) z.1 >>= λ zs. Ok (z.0 ∷ zs.0, zs.1))
values_fold [] d i bytes h = absurd (omega arith)
values_fold (c ∷ cs) d zero bytes h = refl
values_fold (c ∷ cs) d (suc i) bytes h =
    let z : suc i + 1 ≡ suc (i + 1) = omega arith in
    values_fold cs d i bytes (omega arith) ∙ ap (λ m. value_in_carrier (get_or cs i d) bytes >>= λ z. values_at (drop m (c ∷ cs)) z.1 >>= λ zs. Ok (z.0 ∷ zs.0, zs.1)) (sym z)

pub value_read : (front : List ℤ) (cs : List Carrier) (c : Carrier) (i : ℕ) (bytes rest : List ℕ) (z : ℤ)
    (total : Field (List ℤ)) → i < length cs → c ≡ get_or cs i c → value_in_carrier c bytes ≡ Ok (z, rest)
    → with_front front (values_at (drop i cs) bytes) ≡ total → with_front (front ++ z ∷ []) (values_at (drop (i + 1) cs) rest) ≡ total
value_read front cs c i bytes rest z total h same r so_far =
    let r' : value_in_carrier (get_or cs i c) bytes ≡ Ok (z, rest) = ap (λ x. value_in_carrier x bytes) (sym same) ∙ r in
    let one : with_front front (values_at (drop i cs) bytes) ≡ with_front (front ++ z ∷ []) (values_at (drop (i + 1) cs) rest) =
    ap (with_front front) (values_fold cs c i bytes h) ∙ rw r' (regroup front z (values_at (drop (i + 1) cs) rest)) in
    sym one ∙ so_far

pub value_fails : (e : FieldFault) (front : List ℤ) (cs : List Carrier) (c : Carrier) (i : ℕ) (bytes : List ℕ)
    (total : Field (List ℤ)) → i < length cs → c ≡ get_or cs i c → value_in_carrier c bytes ≡ Err e
    → with_front front (values_at (drop i cs) bytes) ≡ total → total ≡ Err e
value_fails e front cs c i bytes total h same f so_far =
    let f' : value_in_carrier (get_or cs i c) bytes ≡ Err e = ap (λ x. value_in_carrier x bytes) (sym same) ∙ f in
    sym so_far ∙ ap (with_front front) (values_fold cs c i bytes h) ∙ rw f' refl

pub values_done : (front : List ℤ) (cs : List Carrier) (i : ℕ) (bytes : List ℕ) (total : Field (List ℤ)) → length cs ≤ i
    → with_front front (values_at (drop i cs) bytes) ≡ total → total ≡ Ok (front, bytes)
values_done front cs i bytes total h so_far =
    let none : drop i cs ≡ [] = drop_of_length-le cs h in
    let one : with_front front (values_at (drop i cs) bytes) ≡ Ok (front, bytes) = rw none (ap (λ (ns : List ℤ). Ok (ns, bytes)) (append-nil front)) in
    sym so_far ∙ one

pub initial_read : (es : List Equation) (d : Equation) (bytes rest after : List ℕ) (e : ℕ) (parameters : List Carrier)
    (values : List ℤ) → byte_at bytes ≡ Ok (e, rest) → e < length es → parameters ≡ (get_or es e d).parameters.items
    → values_at parameters rest ≡ Ok (values, after)
    → initial_at (map equation_contents es) bytes ≡ Ok (record { equation = e; values = values }, after)
unfolding initial_at
initial_read es d bytes rest after e parameters values p lt same q =
    let there : nat_lt e (length (map equation_contents es)) ≡ true = lt-ltb _ _ (rw length-map lt) in
    let q' : values_at (parameters_at (map equation_contents es) e) rest ≡ Ok (values, after) = rw (parameters_here es e d lt, sym same) q in
    rw (p, there, q') refl

pub initial_fails : (error : OrMemory FieldFault) (es : List Equation) (d : Equation) (bytes rest : List ℕ) (e : ℕ)
    (parameters : List Carrier) → byte_at bytes ≡ Ok (e, rest) → e < length es
    → parameters ≡ (get_or es e d).parameters.items → IfFault error (λ f. values_at parameters rest ≡ Err f)
    → IfFault error (λ f. initial_at (map equation_contents es) bytes ≡ Err f)
unfolding initial_at
initial_fails errors.Memory es d bytes rest e parameters p lt same q = tt
initial_fails (errors.Refused f) es d bytes rest e parameters p lt same q =
    let there : nat_lt e (length (map equation_contents es)) ≡ true = lt-ltb _ _ (rw length-map lt) in
    let q' : values_at (parameters_at (map equation_contents es) e) rest ≡ Err f = rw (parameters_here es e d lt, sym same) q in
    rw (p, there, q') refl

pub initial_none : (es : List Equation) (bytes rest : List ℕ) (e : ℕ) → byte_at bytes ≡ Ok (e, rest) → length es ≤ e
    → initial_at (map equation_contents es) bytes ≡ Err (record { rule = rule.Initial; left = length bytes })
unfolding initial_at
initial_none es bytes rest e p le =
    let none : nat_lt e (length (map equation_contents es)) ≡ false = le-ltb _ _ (rw length-map le) in
    rw (p, none) refl
