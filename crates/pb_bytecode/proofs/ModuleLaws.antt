-- Laws of equations and of whole modules.
use Rattle.std.proofs.Common.{◌≡◌, ℕ, zero, suc, ◌^◌, ◌≤◌, Bool, true, false, cond, ◌&&◌, List, [], ◌∷◌, ◌++◌, length, Some, Result, Ok, Err, refl, sym, ap, subst, ◌∙◌, append_assoc, length-append, arith, ◌+◌}
use Rattle.std.specs.Prelude.{ℤ, nat_le, nat_lt, ◌==◌}
use Rattle.std.specs.Int.{w32, w64}
use Rattle.std.specs.List.{flat_map, list_all}
use Rattle.std.proofs.lemmas.Bool.{and_parts, and_from, le-leb, leb-true, le-ltb, ltb-true, lt-ltb, eqb-true}
use Rattle.pb_base.specs.declared.limits.TheConstants.{MAX_STRUCTS, MAX_EQUATIONS, MAX_PARAMETERS, MAX_LOOP_SLOTS, MAX_INSTRUCTIONS}
use Rattle.pb_sorts.specs.Counting.{instance_limit}
use Rattle.pb_sorts.specs.declared.counting.TheConstants.{MAX_NUMBERS}
use Rattle.pb_sorts.specs.declared.counting.Counting.{Counting}
use Rattle.pb_sorts.specs.declared.counting.Counting.TheVariants.{Declared, Reached}
use Rattle.pb_sorts.specs.declared.carrier.Carrier.{Carrier}
use Rattle.pb_bytecode.specs.declared.fault.FieldFault.{FieldFault}
use Rattle.pb_bytecode.specs.declared.fault.ModuleRule.TheVariants as rule
use Rattle.pb_bytecode.specs.Contents.{SortContents}
use Rattle.pb_bytecode.specs.Names.{is_module_name}
use Rattle.pb_bytecode.specs.Limits.{is_byte, is_u32, is_i64, is_between, fits_sort, fits_carrier}
use Rattle.pb_bytecode.specs.Spelling
use Rattle.pb_bytecode.specs.Reading.{◌>>=◌, truncated, checked, kept, byte_at, number_at, signed_at, counted_at, name_at, sort_at, carrier_at}
use Rattle.pb_bytecode.proofs.Readers.{IsBytes, IsBytes-append, bind_ok, bind_err, ok_is, Took, shorter, Reads, then, last, close, same_test, reshaped, check, keep, after}
use Rattle.pb_bytecode.proofs.FieldLaws.{byte_reads, truncated_within, number_reads, wide32, i64_reads}
use Rattle.std.specs.Prelude.{slice_get}
use Rattle.pb_bytecode_program.specs.declared.version.Version.{Version}
use Rattle.pb_bytecode_program.specs.declared.version.Version.TheVariants as version
use Rattle.pb_bytecode.specs.Limits.{fits_op}
use Rattle.pb_bytecode.specs.Reading.{code_at}
use Rattle.std.specs.Prelude.{map}
use Rattle.std.proofs.lemmas.List.{append-nil, nil_from_length}
use Rattle.std.proofs.lemmas.List.Concat.{flat_map-cons}
use Rattle.pb_bytecode.proofs.NameLaws.{counted_reads, name_reads, sort_reads, carrier_reads}
use Rattle.pb_bytecode.proofs.OpLaws.{code_reads}
use Rattle.pb_base_values.specs.Carrier as carriers
use Rattle.pb_sorts.specs.Carrier.{values_of}
use Rattle.pb_fixpoint.specs.declared.Sign.{Sign}
use Rattle.pb_fixpoint.specs.declared.Sign.TheVariants.{Mu, Nu}
use Rattle.pb_bytecode.specs.Contents.{Text, EquationContents, Contents, counts}
use Rattle.pb_bytecode.specs.Limits.{fits_equation, instance_count, parameters_if_any, is_tuple, fits_initial, fits_values, fits}
use Rattle.pb_bytecode.specs.Reading.{sign_of, sign_at, equation_at, equations_at, expect, mark_at, version_of, version_at, value_in_carrier, values_at, parameters_at, initial_at, contents_at, all_of}

-- ---- signs and versions

abbrev sign_number : Sign → ℕ
sign_number Mu = 0
sign_number Nu = 1

sign_known : (n : ℕ) (s : Sign) → sign_of n ≡ Some s → (sign_number s ≡ n) × (true ≡ true)
sign_known zero s h = let same : Mu ≡ s = cc in (ap sign_number (sym same), refl)
sign_known (suc zero) s h = let same : Nu ≡ s = cc in (ap sign_number (sym same), refl)
sign_known (suc (suc n)) s h = absurd cc

sign_found : (s : Sign) → true ≡ true → sign_of (sign_number s) ≡ Some s
sign_found Mu h = refl
sign_found Nu h = refl

sign_byte : (s : Sign) → Spelling.byte (sign_number s) ≡ Spelling.sign_bytes s
sign_byte Mu = refl
sign_byte Nu = refl

sign_small : (s : Sign) → (is_byte (sign_number s) && true) ≡ true
sign_small Mu = refl
sign_small Nu = refl

sign_reads : Reads sign_at Spelling.sign_bytes (λ s. true)
unfolding sign_at
sign_reads = reshaped sign_at (λ s. Spelling.byte (sign_number s)) Spelling.sign_bytes (λ s. is_byte (sign_number s) && true) (λ s. true) sign_byte (λ s h. refl) (λ s h. sign_small s)
    (check byte_at Spelling.byte is_byte sign_of rule.Limit sign_number (λ s. true) sign_known sign_found byte_reads)

abbrev version_number : Version → ℕ
version_number version.One = 1
version_number version.Two = 2

version_known : (n : ℕ) (v : Version) → version_of n ≡ Some v → (version_number v ≡ n) × (true ≡ true)
version_known zero v h = absurd cc
version_known (suc zero) v h = let same : version.One ≡ v = cc in (ap version_number (sym same), refl)
version_known (suc (suc zero)) v h = let same : version.Two ≡ v = cc in (ap version_number (sym same), refl)
version_known (suc (suc (suc n))) v h = absurd cc

version_found : (v : Version) → true ≡ true → version_of (version_number v) ≡ Some v
version_found version.One h = refl
version_found version.Two h = refl

version_byte : (v : Version) → Spelling.byte (version_number v) ≡ Spelling.version_bytes v
version_byte version.One = refl
version_byte version.Two = refl

version_small : (v : Version) → (is_byte (version_number v) && true) ≡ true
version_small version.One = refl
version_small version.Two = refl

version_reads : Reads version_at Spelling.version_bytes (λ v. true)
unfolding version_at
version_reads =
    reshaped version_at (λ v. Spelling.byte (version_number v)) Spelling.version_bytes
    (λ v. is_byte (version_number v) && true) (λ v. true) version_byte (λ v h. refl) (λ v h. version_small v)
    (check byte_at Spelling.byte is_byte version_of rule.Version version_number (λ v. true) version_known version_found byte_reads)

-- ---- equations

u32_reads : Reads (number_at w32) Spelling.u32 is_u32
u32_reads = number_reads w32 (2 ^ 32) wide32

abbrev carrier_list_fits : ℕ → List ℕ → List Carrier → Bool
carrier_list_fits end sizes cs = is_between 0 end (length cs) && list_all (fits_carrier sizes) cs

pub equation_reads : (v : Version) (sizes : List ℕ) → Reads (equation_at v sizes) Spelling.equation_bytes (λ e. fits_equation v sizes e)
unfolding equation_at
equation_reads v sizes =
    same_test (equation_at v sizes) Spelling.equation_bytes (λ e. true && fits_equation v sizes e) (λ e. fits_equation v sizes e) (λ e h. h) (λ e h. h)
    (close _ _ _ (then (λ c. sign_at) (λ c. Spelling.sign_bytes) (λ c s. true) _ (λ e. tt) (λ e. e.sign) _ _ (λ c. sign_reads)
    (then (λ (c : Unit {0} × Sign). name_at) (λ c. Spelling.name_bytes) (λ c. is_module_name) _ (λ e. (tt, e.sign)) (λ e. e.name) _ _ (λ c. name_reads)
    (then (λ (c : (Unit {0} × Sign) × Text). counted_at 0 (MAX_PARAMETERS + 1) (carrier_at sizes))
    (λ c. Spelling.counted Spelling.carrier_bytes) (λ c. carrier_list_fits (MAX_PARAMETERS + 1) sizes) _
    (λ e. ((tt, e.sign), e.name)) (λ e. e.parameters) _ _
    (λ c. counted_reads 0 (MAX_PARAMETERS + 1) (carrier_at sizes) Spelling.carrier_bytes (fits_carrier sizes)
    (omega arith) (carrier_reads sizes))
    (then (λ (c : ((Unit {0} × Sign) × Text) × List Carrier). counted_at 0 (MAX_LOOP_SLOTS + 1) (carrier_at sizes))
    (λ c. Spelling.counted Spelling.carrier_bytes) (λ c. carrier_list_fits (MAX_LOOP_SLOTS + 1) sizes) _
    (λ e. (((tt, e.sign), e.name), e.parameters)) (λ e. e.loops) _ _
    (λ c. counted_reads 0 (MAX_LOOP_SLOTS + 1) (carrier_at sizes) Spelling.carrier_bytes (fits_carrier sizes)
    (omega arith) (carrier_reads sizes))
    (then (λ (c : (((Unit {0} × Sign) × Text) × List Carrier) × List Carrier). number_at w32) (λ c. Spelling.u32)
    (λ c. is_u32) _ (λ e. ((((tt, e.sign), e.name), e.parameters), e.loops)) (λ e. e.steps) _ _ (λ c. u32_reads)
    (then (λ (c : ((((Unit {0} × Sign) × Text) × List Carrier) × List Carrier) × ℕ). number_at w32) (λ c. Spelling.u32)
    (λ c. is_u32) _ (λ e. (((((tt, e.sign), e.name), e.parameters), e.loops), e.steps)) (λ e. e.tokens) _ _ (λ c. u32_reads)
    (last (λ (c : (((((Unit {0} × Sign) × Text) × List Carrier) × List Carrier) × ℕ) × ℕ). code_at v sizes)
    (λ c code. Spelling.u16 (length code) ++ flat_map Spelling.op_bytes code)
    (λ c code. is_between 1 (MAX_INSTRUCTIONS + 1) (length code) && list_all (fits_op v sizes) code)
    (λ c. record { sign = c.0.0.0.0.0.0.1; name = c.0.0.0.0.0.1; parameters = c.0.0.0.0.1; loops = c.0.0.0.1; steps = c.0.0.1; tokens = c.0.1; code = c.1 })
    (λ e. ((((((tt, e.sign), e.name), e.parameters), e.loops), e.steps), e.tokens)) (λ e. e.code) (λ e. refl) (λ c. refl) (λ c. code_reads v sizes)))))))))

equations_reads : (limit : ℕ) (v : Version) (sizes : List ℕ)
    → Reads (equations_at limit v sizes) (Spelling.counted Spelling.equation_bytes)
    (λ es. (is_between 1 (MAX_EQUATIONS + 1) (length es) && list_all (fits_equation v sizes) es) && nat_le
    (instance_count es) limit)
unfolding equations_at
equations_reads limit v sizes =
    after (counted_at 1 (MAX_EQUATIONS + 1) (equation_at v sizes)) (Spelling.counted Spelling.equation_bytes)
    (λ es. is_between 1 (MAX_EQUATIONS + 1) (length es) && list_all (fits_equation v sizes) es)
    (λ es. nat_le (instance_count es) limit) rule.Limit
    (counted_reads 1 (MAX_EQUATIONS + 1) (equation_at v sizes) Spelling.equation_bytes (fits_equation v sizes) (omega arith) (equation_reads v sizes))

-- ---- the mark

expect_takes : (ms bytes : List ℕ) (x : Unit {0} × List ℕ) → expect ms bytes ≡ Ok x → bytes ≡ ms ++ x.1
expect_takes [] bytes x h = ap (λ (y : Unit {0} × List ℕ). y.1) (ok_is (tt, bytes) x h)
expect_takes (m ∷ ms) [] x h = absurd cc
expect_takes (m ∷ ms) (b ∷ bytes) x h = by (b == m) refl h (λ g. expect_takes ms bytes x g)
  where
    by : (t : Bool) → (b == m) ≡ t
        → cond t (expect ms bytes) (Err (record { rule = rule.Mark; left = length (b ∷ bytes) })) ≡ Ok x
        → (expect ms bytes ≡ Ok x → bytes ≡ ms ++ x.1) → b ∷ bytes ≡ m ∷ (ms ++ x.1)
    by true e g k = ap (λ (n : ℕ). n ∷ bytes) (eqb-true _ _ e) ∙ ap (λ (r : List ℕ). m ∷ r) (k g)
    by false e g k = absurd cc

expect_within : (ms bytes : List ℕ) (e : FieldFault) → expect ms bytes ≡ Err e → e.left ≤ length bytes
expect_within [] bytes e h = absurd cc
expect_within (m ∷ ms) [] e h = truncated_within e [] (cc)
expect_within (m ∷ ms) (b ∷ bytes) e h = by (b == m) h (λ g. expect_within ms bytes e g)
  where
    by : (t : Bool) → cond t (expect ms bytes) (Err (record { rule = rule.Mark; left = length (b ∷ bytes) })) ≡ Err e → (expect ms bytes ≡ Err e → e.left ≤ length bytes) → e.left ≤ length (b ∷ bytes)
    by true g k = let w = k g in omega arith
    by false g k = let same : record { rule = rule.Mark; left = length (b ∷ bytes) } ≡ e = cc in let z = ap (λ (f : FieldFault). f.left) same in omega arith

long_ok : (bytes : List ℕ) (x : Unit {0} × List ℕ) → mark_at bytes ≡ Ok x → expect Spelling.mark bytes ≡ Ok x
unfolding mark_at
long_ok bytes x h = by (nat_lt (length bytes) 4) h
  where
    by : (t : Bool) → cond t (Err truncated) (expect Spelling.mark bytes) ≡ Ok x → expect Spelling.mark bytes ≡ Ok x
    by true g = absurd cc
    by false g = g

long_err : (bytes : List ℕ) (e : FieldFault) → mark_at bytes ≡ Err e → e.left ≤ length bytes
unfolding mark_at
long_err bytes e h = by (nat_lt (length bytes) 4) h
  where
    by : (t : Bool) → cond t (Err truncated) (expect Spelling.mark bytes) ≡ Err e → e.left ≤ length bytes
    by true g = truncated_within e bytes (cc)
    by false g = expect_within Spelling.mark bytes e g

mark_again : (u : Unit {0}) (rest : List ℕ) → true ≡ true → mark_at (Spelling.mark ++ rest) ≡ Ok (u, rest)
unfolding mark_at
mark_again u rest h = let long : nat_lt (length (Spelling.mark ++ rest)) 4 ≡ false = le-ltb _ _ (omega (arith, length-append Spelling.mark rest)) in rw long refl

mark_reads : Reads mark_at (λ u. Spelling.mark) (λ u. true)
mark_reads = record {
  takes = λ bytes x fits h. let e = expect_takes Spelling.mark bytes x (long_ok bytes x h) in record { parts = e; left = IsBytes-append Spelling.mark x.1 (subst IsBytes e fits); fits = refl };
  again = mark_again;
  within = λ bytes e fits h. long_err bytes e h;
}

-- ---- the initial instance

value_reads : (c : Carrier) → Reads (value_in_carrier c) Spelling.i64 (λ z. is_i64 z && carriers.contains (values_of c) z)
unfolding value_in_carrier
value_reads c = keep (signed_at w64) Spelling.i64 is_i64 (carriers.contains (values_of c)) rule.Initial i64_reads

-- the test of a value and of those behind it, and the test of all
values_both : (c : Carrier) (cs : List Carrier) (z : ℤ) (zs : List ℤ) → (is_i64 z && carriers.contains (values_of c) z) ≡ true → fits_values cs zs ≡ true → fits_values (c ∷ cs) (z ∷ zs) ≡ true
values_both c cs z zs p q =
    let a = and_parts (is_i64 z) (carriers.contains (values_of c) z) p in
    let b = and_parts (list_all is_i64 zs) (carriers.is_within (map values_of cs) zs) q in
    and_from _ _ (and_from _ _ a.0 b.0) (and_from _ _ a.1 b.1)

values_parts : (c : Carrier) (cs : List Carrier) (z : ℤ) (zs : List ℤ) → fits_values (c ∷ cs) (z ∷ zs) ≡ true → ((is_i64 z && carriers.contains (values_of c) z) ≡ true) × (fits_values cs zs ≡ true)
values_parts c cs z zs h =
    let a = and_parts (list_all is_i64 (z ∷ zs)) (carriers.is_within (map values_of (c ∷ cs)) (z ∷ zs)) h in
    let b = and_parts (is_i64 z) (list_all is_i64 zs) a.0 in
    let d = and_parts (carriers.contains (values_of c) z) (carriers.is_within (map values_of cs) zs) a.1 in
    (and_from _ _ b.0 d.0, and_from _ _ b.1 d.1)

values_take : (cs : List Carrier) (bytes : List ℕ) (x : List ℤ × List ℕ) → IsBytes bytes → values_at cs bytes ≡ Ok x → Took (flat_map Spelling.i64 x.0) (fits_values cs x.0) bytes x.1
values_take [] bytes x fits h =
    subst (λ (y : List ℤ × List ℕ). Took (flat_map Spelling.i64 y.0) (fits_values [] y.0) bytes y.1)
    (ok_is ([], bytes) x h) (record { parts = refl; left = fits; fits = refl })
values_take (c ∷ cs) bytes x fits h =
    let a = bind_ok (value_in_carrier c bytes) (λ z. values_at cs z.1 >>= λ zs. Ok (z.0 ∷ zs.0, zs.1)) x h in
    let b = bind_ok (values_at cs a.0.1) (λ zs. Ok (a.0.0 ∷ zs.0, zs.1)) x a.2 in
    let t = (value_reads c).takes bytes a.0 fits a.1 in
    let u = values_take cs a.0.1 b.0 t.left b.1 in
    let whole : bytes ≡ (Spelling.i64 a.0.0 ++ flat_map Spelling.i64 b.0.0) ++ b.0.1 =
    t.parts ∙ ap (λ (r : List ℕ). Spelling.i64 a.0.0 ++ r) u.parts
    ∙ sym (append_assoc (Spelling.i64 a.0.0) (flat_map Spelling.i64 b.0.0) b.0.1) in
    subst (λ (y : List ℤ × List ℕ). Took (flat_map Spelling.i64 y.0) (fits_values (c ∷ cs) y.0) bytes y.1) (ok_is (a.0.0 ∷ b.0.0, b.0.1) x b.2)
    (record { parts = whole ∙ ap (λ (r : List ℕ). r ++ b.0.1) (sym (flat_map-cons Spelling.i64 a.0.0 b.0.0)); left = u.left; fits = values_both c cs a.0.0 b.0.0 t.fits u.fits })

values_again : (cs : List Carrier) (zs : List ℤ) (rest : List ℕ) → fits_values cs zs ≡ true → values_at cs (flat_map Spelling.i64 zs ++ rest) ≡ Ok (zs, rest)
values_again [] [] rest h = refl
values_again [] (z ∷ zs) rest h = let a = and_parts (list_all is_i64 (z ∷ zs)) false h in absurd (let f = a.1 in cc)
values_again (c ∷ cs) [] rest h = let a = and_parts (list_all is_i64 []) false h in absurd (let f = a.1 in cc)
values_again (c ∷ cs) (z ∷ zs) rest h =
    let two = values_parts c cs z zs h in
    let regrouped : flat_map Spelling.i64 (z ∷ zs) ++ rest ≡ Spelling.i64 z ++ (flat_map Spelling.i64 zs ++ rest) =
    ap (λ (r : List ℕ). r ++ rest) (flat_map-cons Spelling.i64 z zs) ∙ append_assoc (Spelling.i64 z) (flat_map Spelling.i64 zs) rest in
    ap (values_at (c ∷ cs)) regrouped ∙ rw ((value_reads c).again z (flat_map Spelling.i64 zs ++ rest) two.0, values_again cs zs rest two.1) refl

values_within : (cs : List Carrier) (bytes : List ℕ) (e : FieldFault) → IsBytes bytes → values_at cs bytes ≡ Err e → e.left ≤ length bytes
values_within [] bytes e fits h = absurd cc
values_within (c ∷ cs) bytes e fits h =
    bind_err (value_in_carrier c bytes) (λ z. values_at cs z.1 >>= λ zs. Ok (z.0 ∷ zs.0, zs.1)) e _ h
    (λ f. (value_reads c).within bytes e fits f)
    (λ x ok f.
    let t = (value_reads c).takes bytes x fits ok in
    let s = shorter _ _ bytes x.1 t in
    bind_err (values_at cs x.1) (λ zs. Ok (x.0 ∷ zs.0, zs.1)) e _ f (λ g. let w = values_within cs x.1 e t.left g in omega arith) (λ y ok' g. absurd cc))

values_reads : (cs : List Carrier) → Reads (values_at cs) (flat_map Spelling.i64) (fits_values cs)
values_reads cs = record { takes = values_take cs; again = values_again cs; within = values_within cs }

tuple_to : (es : List EquationContents) (e : ℕ) (zs : List ℤ) → nat_lt e (length es) ≡ true → fits_values (parameters_at es e) zs ≡ true → is_tuple (parameters_if_any (slice_get es e)) zs ≡ true
tuple_to [] e zs lt h = absurd (let l = ltb-true e 0 lt in omega arith)
tuple_to (x ∷ es) zero zs lt h = h
tuple_to (x ∷ es) (suc e) zs lt h = tuple_to es e zs (lt-ltb e (length es) (let l = ltb-true (suc e) (length (x ∷ es)) lt in omega arith)) h

tuple_from : (es : List EquationContents) (e : ℕ) (zs : List ℤ) → is_tuple (parameters_if_any (slice_get es e)) zs ≡ true → (nat_lt e (length es) ≡ true) × (fits_values (parameters_at es e) zs ≡ true)
tuple_from [] e zs h = absurd (let f : false ≡ true = h in cc)
tuple_from (x ∷ es) zero zs h = (lt-ltb 0 (length (x ∷ es)) (omega arith), h)
tuple_from (x ∷ es) (suc e) zs h = let w = tuple_from es e zs h in (lt-ltb (suc e) (length (x ∷ es)) (let l = ltb-true e (length es) w.0 in omega arith), w.1)

initial_reads : (es : List EquationContents) → Reads (initial_at es) Spelling.initial_bytes (fits_initial es)
unfolding initial_at
initial_reads es =
    same_test (initial_at es) Spelling.initial_bytes (λ i. (is_byte i.equation && nat_lt i.equation (length es)) && fits_values (parameters_at es i.equation) i.values) (fits_initial es)
    (λ i h.
    let a = and_parts (is_byte i.equation && nat_lt i.equation (length es)) (fits_values (parameters_at es i.equation) i.values) h in
    let b = and_parts (is_byte i.equation) (nat_lt i.equation (length es)) a.0 in
    and_from _ _ b.0 (tuple_to es i.equation i.values b.1 a.1))
    (λ i h.
    let a = and_parts (is_byte i.equation) (is_tuple (parameters_if_any (slice_get es i.equation)) i.values) h in
    let w = tuple_from es i.equation i.values a.1 in
    and_from _ _ (and_from _ _ a.0 w.0) w.1)
    (close _ _ _
    (then (λ c. checked byte_at (kept (λ e. nat_lt e (length es))) rule.Initial) (λ c. Spelling.byte)
    (λ c e. is_byte e && nat_lt e (length es)) _ (λ i. tt) (λ i. i.equation) _ _
    (λ c. keep byte_at Spelling.byte is_byte (λ e. nat_lt e (length es)) rule.Initial byte_reads)
    (last (λ (c : Unit {0} × ℕ). values_at (parameters_at es c.1)) (λ c. flat_map Spelling.i64)
    (λ c. fits_values (parameters_at es c.1)) (λ c. record { equation = c.0.1; values = c.1 })
    (λ i. (tt, i.equation)) (λ i. i.values) (λ i. refl) (λ c. refl) (λ c. values_reads (parameters_at es c.1)))))

-- ---- whole modules

abbrev sorts_fit : List SortContents → Bool
sorts_fit sorts = is_between 0 (MAX_STRUCTS + 1) (length sorts) && list_all fits_sort sorts

abbrev equations_fit : ℕ → Version → List ℕ → List EquationContents → Bool
equations_fit limit v sizes es = (is_between 1 (MAX_EQUATIONS + 1) (length es) && list_all (fits_equation v sizes) es) && nat_le (instance_count es) limit

-- as many equations of these forms as there may be
abbrev forms_fit : Contents → Bool
forms_fit m = is_between 1 (MAX_EQUATIONS + 1) (length m.equations) && list_all (fits_equation m.version (counts m.sorts)) m.equations

-- the limits of the format, with this one of instances
abbrev pub fits_within : ℕ → Contents → Bool
fits_within limit m = sorts_fit m.sorts && (forms_fit m && (nat_le (instance_count m.equations) limit && fits_initial m.equations m.initial))

record FitParts (limit : ℕ) (m : Contents) : Type 0 where
  pub sorts : sorts_fit m.sorts ≡ true
  pub forms : forms_fit m ≡ true
  pub few : nat_le (instance_count m.equations) limit ≡ true
  pub initial : fits_initial m.equations m.initial ≡ true

fit_parts : (limit : ℕ) (m : Contents) → fits_within limit m ≡ true → FitParts limit m
fit_parts limit m h =
    let few = nat_le (instance_count m.equations) limit in
    let a = and_parts (sorts_fit m.sorts) (forms_fit m && (few && fits_initial m.equations m.initial)) h in
    let b = and_parts (forms_fit m) (few && fits_initial m.equations m.initial) a.1 in
    let d = and_parts few (fits_initial m.equations m.initial) b.1 in
    record { sorts = a.0; forms = b.0; few = d.0; initial = d.1 }

pub few_instances : (limit : ℕ) (m : Contents) → fits_within limit m ≡ true → instance_count m.equations ≤ limit
few_instances limit m h = leb-true (instance_count m.equations) limit (fit_parts limit m h).few

-- within another limit of instances
pub fits_other : (limit other : ℕ) (m : Contents) → fits_within limit m ≡ true → instance_count m.equations ≤ other → fits_within other m ≡ true
fits_other limit other m h few =
    let parts = fit_parts limit m h in
    and_from _ _ parts.sorts (and_from _ _ parts.forms (and_from _ _ (le-leb (instance_count m.equations) other few) parts.initial))

-- the limits of the format, by which instances count
pub fits_all : (counting : Counting) (m : Contents) → fits_within (instance_limit counting) m ≡ true → fits m ≡ true
fits_all Declared m h = fits_other (instance_limit Declared) MAX_NUMBERS m h (let few = few_instances (instance_limit Declared) m h in omega (arith, few))
fits_all Reached m h = h

pub contents_reads : (limit : ℕ) → Reads (contents_at limit) Spelling.spelling (fits_within limit)
unfolding contents_at
contents_reads limit =
    same_test (contents_at limit) Spelling.spelling
    (λ m. true && (true && (sorts_fit m.sorts && (equations_fit limit m.version (counts m.sorts) m.equations && fits_initial m.equations m.initial)))) (fits_within limit)
    (λ m h.
    let a = and_parts (sorts_fit m.sorts) (equations_fit limit m.version (counts m.sorts) m.equations && fits_initial m.equations m.initial) h in
    let b = and_parts (equations_fit limit m.version (counts m.sorts) m.equations) (fits_initial m.equations m.initial) a.1 in
    let d = and_parts (forms_fit m) (nat_le (instance_count m.equations) limit) b.0 in
    and_from _ _ a.0 (and_from _ _ d.0 (and_from _ _ d.1 b.1)))
    (λ m h.
    let parts = fit_parts limit m h in
    and_from _ _ parts.sorts (and_from _ _ (and_from _ _ parts.forms parts.few) parts.initial))
    (close _ _ _ (then (λ c. mark_at) (λ c u. Spelling.mark) (λ c u. true) _ (λ m. tt) (λ m. tt) _ _ (λ c. mark_reads)
    (then (λ (c : Unit {0} × Unit {0}). version_at) (λ c. Spelling.version_bytes) (λ c v. true) _ (λ m. (tt, tt)) (λ m. m.version) _ _ (λ c. version_reads)
    (then (λ (c : (Unit {0} × Unit {0}) × Version). counted_at 0 (MAX_STRUCTS + 1) sort_at)
    (λ c. Spelling.counted Spelling.sort_bytes) (λ c. sorts_fit) _ (λ m. ((tt, tt), m.version)) (λ m. m.sorts) _ _
    (λ c. counted_reads 0 (MAX_STRUCTS + 1) sort_at Spelling.sort_bytes fits_sort (omega arith) sort_reads)
    (then (λ (c : ((Unit {0} × Unit {0}) × Version) × List SortContents). equations_at limit c.0.1 (counts c.1))
    (λ c. Spelling.counted Spelling.equation_bytes) (λ c. equations_fit limit c.0.1 (counts c.1)) _
    (λ m. (((tt, tt), m.version), m.sorts)) (λ m. m.equations) _ _ (λ c. equations_reads limit c.0.1 (counts c.1))
    (last (λ (c : (((Unit {0} × Unit {0}) × Version) × List SortContents) × List EquationContents). initial_at c.1) (λ c. Spelling.initial_bytes) (λ c. fits_initial c.1)
    (λ c. record { version = c.0.0.0.1; sorts = c.0.0.1; equations = c.0.1; initial = c.1 })
    (λ m. ((((tt, tt), m.version), m.sorts), m.equations)) (λ m. m.initial) (λ m. refl) (λ c. refl) (λ c. initial_reads c.1)))))))

-- all of the bytes
abbrev ended : Bool → Contents × List ℕ → Result Contents FieldFault
ended t m = cond t (Ok m.0) (Err (record { rule = rule.Trailing; left = length m.1 }))

all_ended : (m : Contents × List ℕ) (n : Contents) → ended (length m.1 == 0) m ≡ Ok n → (length m.1 ≡ 0) × (m.0 ≡ n)
all_ended m n h = by (length m.1 == 0) refl h
  where
    by : (t : Bool) → (length m.1 == 0) ≡ t → ended t m ≡ Ok n → (length m.1 ≡ 0) × (m.0 ≡ n)
    by true e g = (eqb-true _ _ e, ok_is m.0 n g)
    by false e g = absurd cc

pub all_takes : (limit : ℕ) (bytes : List ℕ) (n : Contents) → IsBytes bytes → all_of limit bytes ≡ Ok n → (bytes ≡ Spelling.spelling n) × (fits_within limit n ≡ true)
unfolding all_of
all_takes limit bytes n ok h =
    let a = bind_ok (contents_at limit bytes) (λ m. ended (length m.1 == 0) m) n h in
    let e = all_ended a.0 n a.2 in
    let t = (contents_reads limit).takes bytes a.0 ok a.1 in
    let none : a.0.1 ≡ [] = nil_from_length a.0.1 e.0 in
    let whole : bytes ≡ Spelling.spelling a.0.0 = t.parts ∙ ap (λ (r : List ℕ). Spelling.spelling a.0.0 ++ r) none ∙ append-nil (Spelling.spelling a.0.0) in
    subst (λ (m : Contents). (bytes ≡ Spelling.spelling m) × (fits_within limit m ≡ true)) e.1 (whole, t.fits)

pub all_again : (limit : ℕ) (n : Contents) → fits_within limit n ≡ true → all_of limit (Spelling.spelling n) ≡ Ok n
unfolding all_of
all_again limit n h =
    let read : contents_at limit (Spelling.spelling n) ≡ Ok (n, []) = ap (contents_at limit) (sym (append-nil (Spelling.spelling n))) ∙ (contents_reads limit).again n [] h in
    rw read refl

all_left : (m : Contents × List ℕ) (e : FieldFault) → ended (length m.1 == 0) m ≡ Err e → e.left ≤ length m.1
all_left m e h = by (length m.1 == 0) h
  where
    by : (t : Bool) → ended t m ≡ Err e → e.left ≤ length m.1
    by true g = absurd cc
    by false g = let same : record { rule = rule.Trailing; left = length m.1 } ≡ e = cc in let z = ap (λ (f : FieldFault). f.left) same in omega arith

pub all_within : (limit : ℕ) (bytes : List ℕ) (e : FieldFault) → IsBytes bytes → all_of limit bytes ≡ Err e → e.left ≤ length bytes
unfolding all_of
all_within limit bytes e ok h =
    bind_err (contents_at limit bytes) (λ m. ended (length m.1 == 0) m) e _ h
    (λ f. (contents_reads limit).within bytes e ok f)
    (λ x good f. let s = shorter _ _ bytes x.1 ((contents_reads limit).takes bytes x ok good) in let w = all_left x e f in omega arith)

pub one_spelling : (m n : Contents) (x y : List ℕ) → fits m ≡ true → fits n ≡ true → Spelling.spelling m ++ x ≡ Spelling.spelling n ++ y → (m ≡ n) × (x ≡ y)
one_spelling m n x y p q h =
    let same = ok_is (m, x) (n, y) (sym ((contents_reads MAX_NUMBERS).again m x p) ∙ ap (contents_at MAX_NUMBERS) h ∙ (contents_reads MAX_NUMBERS).again n y q) in
    (ap (λ (z : Contents × List ℕ). z.0) same, ap (λ (z : Contents × List ℕ). z.1) same)

-- of one spelling no other module is read, and no fault met
pub read_one : (limit : ℕ) (bytes : List ℕ) (n m : Contents) → fits m ≡ true → instance_count m.equations ≤ limit → bytes ≡ Spelling.spelling m → all_of limit bytes ≡ Ok n → n ≡ m
read_one limit bytes n m h few e read = ok_is n m (sym read ∙ ap (all_of limit) e ∙ all_again limit m (fits_other MAX_NUMBERS limit m h few))

pub read_none : (limit : ℕ) (bytes : List ℕ) (f : FieldFault) (m : Contents) → fits m ≡ true → instance_count m.equations ≤ limit → bytes ≡ Spelling.spelling m → all_of limit bytes ≡ Err f → ⊥
read_none limit bytes f m h few e read = let again : all_of limit bytes ≡ Ok m = ap (all_of limit) e ∙ all_again limit m (fits_other MAX_NUMBERS limit m h few) in cc
