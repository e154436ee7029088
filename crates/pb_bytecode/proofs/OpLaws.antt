-- Laws of instructions.
use Rattle.std.proofs.Common.{◌≡◌, ℕ, zero, suc, ◌+◌, ◌^◌, ◌≤◌, Bool, true, false, cond, ◌&&◌, List, [], ◌∷◌, ◌++◌, length, Some, Ok, Err, refl, sym, ap, subst, ◌∙◌, arith}
use Rattle.std.specs.Prelude.{ℤ, nat_le, nat_lt, ◌==◌}
use Rattle.std.specs.Int.{w16, w64}
use Rattle.std.specs.List.{flat_map, list_all}
use Rattle.std.proofs.lemmas.Bool.{and_parts, and_from, ltb-true, le-leb, eqb-true}
use Rattle.pb_bytecode.specs.declared.fault.FieldFault.{FieldFault}
use Rattle.pb_bytecode.specs.declared.fault.ModuleRule.TheVariants as rule
use Rattle.pb_bytecode.specs.Limits.{is_byte, is_u16, is_i64, is_between, are_bounds, enumerator_count}
use Rattle.pb_bytecode.specs.Spelling
use Rattle.pb_bytecode.specs.Reading.{◌>>=◌, Field, known, checked, kept, byte_at, number_at, signed_at, between_at, bounds_at}
use Rattle.pb_bytecode.proofs.Readers.{IsBytes, bind_ok, bind_err, ok_is, Took, shorter, Reads, then, last, close, same_test, keep, known_ok, known_err}
use Rattle.pb_bytecode.proofs.FieldLaws.{byte_reads, number_reads, wide16, i64_reads}
use Rattle.pb_bytecode.proofs.NameLaws.{between_reads, bounds_reads, behind}
use Rattle.std.specs.Prelude.{slice_get}
use Rattle.pb_base.specs.declared.limits.TheConstants.{MAX_INSTRUCTIONS}
use Rattle.pb_bytecode_program.specs.declared.instruction.Op.{Op}
use Rattle.pb_bytecode_program.specs.declared.instruction.Op.TheVariants as op
use Rattle.pb_bytecode_program.specs.declared.instruction.Arithmetic.TheVariants as arithmetic
use Rattle.pb_bytecode_program.specs.declared.instruction.Comparison.TheVariants as comparison
use Rattle.pb_fixpoint_trees.specs.declared.junction.Junction.TheVariants as junction
use Rattle.pb_bytecode_program.specs.declared.instruction.Equality.TheVariants as equality
use Rattle.pb_bytecode_program.specs.declared.instruction.Leaf.TheVariants as leaf
use Rattle.pb_bytecode_program.specs.declared.version.Version.{Version}
use Rattle.pb_bytecode_program.specs.declared.version.Version.TheVariants as version
use Rattle.pb_bytecode.specs.declared.format.Format.{Format}
use Rattle.pb_bytecode.specs.declared.format.Format.TheVariants as format
use Rattle.pb_bytecode.specs.Formats.{first_formats, second_format, format_of}
use Rattle.pb_bytecode.specs.Limits.{is_sort, is_second, fits_op}
use Rattle.pb_bytecode.specs.Reading.{made, enumerator_at, test_at, slot_test_at, operands_at, op_at, code_at}

-- ---- formats

abbrev format_code : Format → ℕ
format_code (format.Plain i) = Spelling.op_code i
format_code format.Int = 1
format_code format.Bool = 2
format_code format.Enumerator = 3
format_code format.Get = 4
format_code format.Jump = 24
format_code (format.JumpIf on) = Spelling.jump_code on
format_code format.InRange = 27
format_code format.Loop = 28
format_code format.Call = 36
format_code format.SlotInRange = 37

-- an instruction without operands
abbrev is_plain : Op → Bool
is_plain (op.PushInt k) = false
is_plain (op.PushBool b) = false
is_plain (op.PushEnum s i) = false
is_plain (op.Get slot) = false
is_plain (op.Jump to) = false
is_plain (op.JumpIf on to) = false
is_plain (op.InRange low high to) = false
is_plain (op.Loop slot) = false
is_plain (op.Call equation) = false
is_plain (op.SlotInRange slot low high to) = false
is_plain _ = true

abbrev is_format : Version → Format → Bool
is_format v (format.Plain i) = is_plain i
is_format v format.SlotInRange = is_second v
is_format v _ = true

abbrev format_for : Op → Format
format_for (op.PushInt k) = format.Int
format_for (op.PushBool b) = format.Bool
format_for (op.PushEnum s i) = format.Enumerator
format_for (op.Get slot) = format.Get
format_for (op.Jump to) = format.Jump
format_for (op.JumpIf on to) = format.JumpIf on
format_for (op.InRange low high to) = format.InRange
format_for (op.Loop slot) = format.Loop
format_for (op.Call equation) = format.Call
format_for (op.SlotInRange slot low high to) = format.SlotInRange
format_for i = format.Plain i

-- each code stands at its place in the table
abbrev codes_match : ℕ → List Format → Bool
codes_match k [] = true
codes_match k (f ∷ fs) = (format_code f == k) && (is_format version.One f && codes_match (k + 1) fs)

table_matches : codes_match 0 first_formats ≡ true
table_matches = refl

found_code : (k : ℕ) (fs : List Format) (n : ℕ) (f : Format) → codes_match k fs ≡ true → slice_get fs n ≡ Some f → (format_code f ≡ k + n) × (is_format version.One f ≡ true)
found_code k [] n f m h = absurd cc
found_code k (g ∷ fs) zero f m h =
    let a = and_parts (format_code g == k) (is_format version.One g && codes_match (k + 1) fs) m in
    let b = and_parts (is_format version.One g) (codes_match (k + 1) fs) a.1 in
    let same : g ≡ f = cc in
    (ap format_code (sym same) ∙ eqb-true _ _ a.0 ∙ (let z : k ≡ k + 0 = omega arith in z), ap (is_format version.One) (sym same) ∙ b.0)
found_code k (g ∷ fs) (suc n) f m h =
    let a = and_parts (format_code g == k) (is_format version.One g && codes_match (k + 1) fs) m in
    let b = and_parts (is_format version.One g) (codes_match (k + 1) fs) a.1 in
    let w = found_code (k + 1) fs n f b.1 h in
    (w.0 ∙ (let z : k + 1 + n ≡ k + suc n = omega arith in z), w.1)

first_is_format : (v : Version) (f : Format) → is_format version.One f ≡ true → is_format v f ≡ true
first_is_format version.One f h = h
first_is_format version.Two (format.Plain i) h = h
first_is_format version.Two format.Int h = refl
first_is_format version.Two format.Bool h = refl
first_is_format version.Two format.Enumerator h = refl
first_is_format version.Two format.Get h = refl
first_is_format version.Two format.Jump h = refl
first_is_format version.Two (format.JumpIf on) h = refl
first_is_format version.Two format.InRange h = refl
first_is_format version.Two format.Loop h = refl
first_is_format version.Two format.Call h = refl
first_is_format version.Two format.SlotInRange h = refl

second_sound : (v : Version) (f : Format) → second_format v ≡ Some f → (format_code f ≡ 37) × (is_format v f ≡ true)
second_sound version.One f h = absurd cc
second_sound version.Two f h = let same : format.SlotInRange ≡ f = cc in (ap format_code (sym same), ap (is_format version.Two) (sym same))

format_sound : (v : Version) (code : ℕ) (f : Format) → format_of v code ≡ Some f → (format_code f ≡ code) × (is_format v f ≡ true)
format_sound v code f h = by (code == 37) refl h
  where
    by : (b : Bool) → (code == 37) ≡ b → cond b (second_format v) (slice_get first_formats code) ≡ Some f → (format_code f ≡ code) × (is_format v f ≡ true)
    by true e g = let w = second_sound v f g in (w.0 ∙ sym (eqb-true _ _ e), w.1)
    by false e g = let w = found_code 0 first_formats code f table_matches g in (w.0 ∙ (let z : 0 + code ≡ code = omega arith in z), first_is_format v f w.1)

plain_found : (v : Version) (i : Op) → is_plain i ≡ true → format_of v (Spelling.op_code i) ≡ Some (format.Plain i)
plain_found v op.End h = refl
plain_found v (op.PushInt k) h = absurd cc
plain_found v (op.PushBool b) h = absurd cc
plain_found v (op.PushEnum s i) h = absurd cc
plain_found v (op.Get slot) h = absurd cc
plain_found v op.Pop h = refl
plain_found v (op.Arithmetic arithmetic.Add) h = refl
plain_found v (op.Arithmetic arithmetic.Sub) h = refl
plain_found v (op.Arithmetic arithmetic.Mul) h = refl
plain_found v (op.Arithmetic arithmetic.Div) h = refl
plain_found v (op.Arithmetic arithmetic.Mod) h = refl
plain_found v (op.Arithmetic arithmetic.Min) h = refl
plain_found v (op.Arithmetic arithmetic.Max) h = refl
plain_found v op.Negate h = refl
plain_found v op.Absolute h = refl
plain_found v (op.Compare comparison.Less) h = refl
plain_found v (op.Compare comparison.LessOrEqual) h = refl
plain_found v (op.Compare comparison.Greater) h = refl
plain_found v (op.Compare comparison.GreaterOrEqual) h = refl
plain_found v (op.Equality equality.Equal) h = refl
plain_found v (op.Equality equality.NotEqual) h = refl
plain_found v op.Not h = refl
plain_found v (op.Logic junction.Conjunction) h = refl
plain_found v (op.Logic junction.Disjunction) h = refl
plain_found v (op.Jump to) h = absurd cc
plain_found v (op.JumpIf on to) h = absurd cc
plain_found v (op.InRange low high to) h = absurd cc
plain_found v (op.SlotInRange slot low high to) h = absurd cc
plain_found v (op.Loop slot) h = absurd cc
plain_found v op.Next h = refl
plain_found v (op.Open junction.Conjunction) h = refl
plain_found v (op.Open junction.Disjunction) h = refl
plain_found v op.Close h = refl
plain_found v (op.Emit leaf.Yes) h = refl
plain_found v (op.Emit leaf.No) h = refl
plain_found v (op.Emit leaf.Cut) h = refl
plain_found v (op.Call equation) h = absurd cc

format_found : (v : Version) (f : Format) → is_format v f ≡ true → format_of v (format_code f) ≡ Some f
format_found v (format.Plain i) h = plain_found v i h
format_found v format.Int h = refl
format_found v format.Bool h = refl
format_found v format.Enumerator h = refl
format_found v format.Get h = refl
format_found v format.Jump h = refl
format_found v (format.JumpIf true) h = refl
format_found v (format.JumpIf false) h = refl
format_found v format.InRange h = refl
format_found v format.Loop h = refl
format_found v format.Call h = refl
format_found version.One format.SlotInRange h = absurd cc
format_found version.Two format.SlotInRange h = refl

-- ---- operands

enumerator_reads : (sizes : List ℕ)
    → Reads (enumerator_at sizes) (λ e. Spelling.byte e.0 ++ Spelling.byte e.1)
    (λ e. (is_byte e.0 && is_between 0 (length sizes) e.0) && (is_byte e.1 && is_between 0 (enumerator_count sizes e.0) e.1))
unfolding enumerator_at
enumerator_reads sizes =
    close _ _ _ (then (λ c. between_at 0 (length sizes)) (λ c. Spelling.byte) (λ c s. is_byte s && is_between 0 (length sizes) s) _ (λ e. tt) (λ e. e.0) _ _ (λ c. between_reads 0 (length sizes))
    (last (λ (c : Unit {0} × ℕ). between_at 0 (enumerator_count sizes c.1)) (λ c. Spelling.byte)
    (λ c i. is_byte i && is_between 0 (enumerator_count sizes c.1) i) (λ c. (c.0.1, c.1)) (λ e. (tt, e.0))
    (λ e. e.1) (λ e. refl) (λ c. refl) (λ c. between_reads 0 (enumerator_count sizes c.1))))

u16_reads : Reads (number_at w16) Spelling.u16 is_u16
u16_reads = number_reads w16 (2 ^ 16) wide16

test_reads : Reads test_at (λ t. Spelling.bounds t.0.0 t.0.1 ++ Spelling.u16 t.1) (λ t. are_bounds t.0.0 t.0.1 && is_u16 t.1)
unfolding test_at
test_reads =
    close _ _ _ (then (λ c. bounds_at) (λ c b. Spelling.bounds b.0 b.1) (λ c b. are_bounds b.0 b.1) _ (λ t. tt) (λ t. t.0) _ _ (λ c. bounds_reads)
    (last (λ (c : Unit {0} × (ℤ × ℤ)). number_at w16) (λ c. Spelling.u16) (λ c. is_u16) (λ c. (c.0.1, c.1)) (λ t. (tt, t.0)) (λ t. t.1) (λ t. refl) (λ c. refl) (λ c. u16_reads)))

slot_test_reads : Reads slot_test_at (λ t. Spelling.byte t.0 ++ (Spelling.bounds t.1.0.0 t.1.0.1 ++ Spelling.u16 t.1.1)) (λ t. is_byte t.0 && (are_bounds t.1.0.0 t.1.0.1 && is_u16 t.1.1))
unfolding slot_test_at
slot_test_reads =
    close _ _ _ (then (λ c. byte_at) (λ c. Spelling.byte) (λ c. is_byte) _ (λ t. tt) (λ t. t.0) _ _ (λ c. byte_reads)
    (last (λ (c : Unit {0} × ℕ). test_at) (λ c t. Spelling.bounds t.0.0 t.0.1 ++ Spelling.u16 t.1)
    (λ c t. are_bounds t.0.0 t.0.1 && is_u16 t.1) (λ c. (c.0.1, c.1)) (λ t. (tt, t.0)) (λ t. t.1) (λ t. refl)
    (λ c. refl) (λ c. test_reads)))

-- what an instruction's operands are
record Operands (v : Version) (sizes : List ℕ) (f : Format) (bytes : List ℕ) (x : Op × List ℕ) : Type 0 where
  format : format_for x.0 ≡ f
  took : Took (Spelling.op_operands x.0) (fits_op v sizes x.0) bytes x.1

made_takes : {A : Type 0} (v : Version) (sizes : List ℕ) (f : Format) (mk : A → Op) (read : List ℕ → Field A) (spell : A → List ℕ) (test : A → Bool) → Reads read spell test
    → ((a : A) → format_for (mk a) ≡ f) → ((a : A) → test a ≡ true → (spell a ≡ Spelling.op_operands (mk a)) × (fits_op v sizes (mk a) ≡ true))
    → (bytes : List ℕ) (x : Op × List ℕ) → IsBytes bytes → made mk (read bytes) ≡ Ok x → Operands v sizes f bytes x
made_takes {A} v sizes f mk read spell test reads for_mk spelled bytes x fits h =
    let a = bind_ok (read bytes) (λ y. Ok (mk y.0, y.1)) x h in
    let t = reads.takes bytes a.0 fits a.1 in
    let s = spelled a.0.0 t.fits in
    subst (λ (y : Op × List ℕ). Operands v sizes f bytes y) (ok_is (mk a.0.0, a.0.1) x a.2)
    (record { format = for_mk a.0.0; took = record { parts = t.parts ∙ ap (λ (z : List ℕ). z ++ a.0.1) s.0; left = t.left; fits = s.1 } })

made_within : {A : Type 0} (mk : A → Op) (read : List ℕ → Field A) (spell : A → List ℕ) (test : A → Bool)
    → Reads read spell test → (bytes : List ℕ) (e : FieldFault) → IsBytes bytes → made mk (read bytes) ≡ Err e → e.left ≤ length bytes
made_within mk read spell test reads bytes e fits h = bind_err (read bytes) (λ y. Ok (mk y.0, y.1)) e _ h (λ f. reads.within bytes e fits f) (λ x ok f. absurd cc)

truth_spelled : (b : ℕ) → (is_byte b && is_between 0 2 b) ≡ true → Spelling.byte b ≡ Spelling.truth_byte (b == 1)
truth_spelled zero h = refl
truth_spelled (suc zero) h = refl
truth_spelled (suc (suc b)) h = let lt =
    ltb-true (suc (suc b)) 2
    (and_parts (nat_le 0 (suc (suc b))) (nat_lt (suc (suc b)) 2)
    (and_parts (is_byte (suc (suc b))) (is_between 0 2 (suc (suc b))) h).1).1 in absurd (omega arith)

enumerator_fits : (sizes : List ℕ) (s i : ℕ)
    → ((is_byte s && is_between 0 (length sizes) s) && (is_byte i && is_between 0 (enumerator_count sizes s) i)) ≡ true
    → (is_sort sizes s && (is_byte i && nat_lt i (enumerator_count sizes s))) ≡ true
enumerator_fits sizes s i h =
    let a = and_parts (is_byte s && is_between 0 (length sizes) s) (is_byte i && is_between 0 (enumerator_count sizes s) i) h in
    let b = and_parts (is_byte s) (is_between 0 (length sizes) s) a.0 in
    let c = and_parts (is_byte i) (is_between 0 (enumerator_count sizes s) i) a.1 in
    and_from _ _ (and_from _ _ b.0 (and_parts (nat_le 0 s) (nat_lt s (length sizes)) b.1).1) (and_from _ _ c.0 (and_parts (nat_le 0 i) (nat_lt i (enumerator_count sizes s)) c.1).1)

enumerator_back : (sizes : List ℕ) (s i : ℕ)
    → (is_sort sizes s && (is_byte i && nat_lt i (enumerator_count sizes s))) ≡ true
    → ((is_byte s && is_between 0 (length sizes) s) && (is_byte i && is_between 0 (enumerator_count sizes s) i)) ≡ true
enumerator_back sizes s i h =
    let a = and_parts (is_sort sizes s) (is_byte i && nat_lt i (enumerator_count sizes s)) h in
    let b = and_parts (is_byte s) (nat_lt s (length sizes)) a.0 in
    let c = and_parts (is_byte i) (nat_lt i (enumerator_count sizes s)) a.1 in
    and_from _ _ (and_from _ _ b.0 (and_from (nat_le 0 s) _ (le-leb 0 s (omega arith)) b.1)) (and_from _ _ c.0 (and_from (nat_le 0 i) _ (le-leb 0 i (omega arith)) c.1))

plain_is : (v : Version) (sizes : List ℕ) (i : Op) → is_plain i ≡ true → (format_for i ≡ format.Plain i) × (Spelling.op_operands i ≡ []) × (fits_op v sizes i ≡ true)
plain_is v sizes op.End h = (refl, refl, refl)
plain_is v sizes (op.PushInt k) h = absurd cc
plain_is v sizes (op.PushBool b) h = absurd cc
plain_is v sizes (op.PushEnum s i) h = absurd cc
plain_is v sizes (op.Get slot) h = absurd cc
plain_is v sizes op.Pop h = (refl, refl, refl)
plain_is v sizes (op.Arithmetic a) h = (refl, refl, refl)
plain_is v sizes op.Negate h = (refl, refl, refl)
plain_is v sizes op.Absolute h = (refl, refl, refl)
plain_is v sizes (op.Compare c) h = (refl, refl, refl)
plain_is v sizes (op.Equality e) h = (refl, refl, refl)
plain_is v sizes op.Not h = (refl, refl, refl)
plain_is v sizes (op.Logic c) h = (refl, refl, refl)
plain_is v sizes (op.Jump to) h = absurd cc
plain_is v sizes (op.JumpIf on to) h = absurd cc
plain_is v sizes (op.InRange low high to) h = absurd cc
plain_is v sizes (op.SlotInRange slot low high to) h = absurd cc
plain_is v sizes (op.Loop slot) h = absurd cc
plain_is v sizes op.Next h = (refl, refl, refl)
plain_is v sizes (op.Open c) h = (refl, refl, refl)
plain_is v sizes op.Close h = (refl, refl, refl)
plain_is v sizes (op.Emit l) h = (refl, refl, refl)
plain_is v sizes (op.Call equation) h = absurd cc

operands_take : (v : Version) (sizes : List ℕ) (f : Format) (bytes : List ℕ) (x : Op × List ℕ) → is_format v f ≡ true → IsBytes bytes → operands_at sizes f bytes ≡ Ok x → Operands v sizes f bytes x
operands_take v sizes (format.Plain i) bytes x g fits h =
    let p = plain_is v sizes i g in
    subst (λ (y : Op × List ℕ). Operands v sizes (format.Plain i) bytes y) (ok_is (i, bytes) x h)
    (record { format = p.0; took = record { parts = ap (λ (z : List ℕ). z ++ bytes) (sym p.1); left = fits; fits = p.2 } })
operands_take v sizes format.Int bytes x g fits h = made_takes v sizes format.Int (λ k. op.PushInt k) (signed_at w64) Spelling.i64 is_i64 i64_reads (λ a. refl) (λ a t. (refl, t)) bytes x fits h
operands_take v sizes format.Bool bytes x g fits h =
    made_takes v sizes format.Bool (λ b. op.PushBool (b == 1)) (between_at 0 2) Spelling.byte _ (between_reads 0 2)
    (λ a. refl) (λ a t. (truth_spelled a t, refl)) bytes x fits h
operands_take v sizes format.Enumerator bytes x g fits h =
    made_takes v sizes format.Enumerator (λ e. op.PushEnum e.0 e.1) (enumerator_at sizes) _ _ (enumerator_reads sizes)
    (λ a. refl) (λ a t. (refl, enumerator_fits sizes a.0 a.1 t)) bytes x fits h
operands_take v sizes format.Get bytes x g fits h = made_takes v sizes format.Get (λ slot. op.Get slot) byte_at Spelling.byte is_byte byte_reads (λ a. refl) (λ a t. (refl, t)) bytes x fits h
operands_take v sizes format.Jump bytes x g fits h = made_takes v sizes format.Jump (λ to. op.Jump to) (number_at w16) Spelling.u16 is_u16 u16_reads (λ a. refl) (λ a t. (refl, t)) bytes x fits h
operands_take v sizes (format.JumpIf on) bytes x g fits h =
    made_takes v sizes (format.JumpIf on) (λ to. op.JumpIf on to) (number_at w16) Spelling.u16 is_u16 u16_reads
    (λ a. refl) (λ a t. (refl, t)) bytes x fits h
operands_take v sizes format.InRange bytes x g fits h = made_takes v sizes format.InRange (λ t. op.InRange t.0.0 t.0.1 t.1) test_at _ _ test_reads (λ a. refl) (λ a t. (refl, t)) bytes x fits h
operands_take v sizes format.Loop bytes x g fits h = made_takes v sizes format.Loop (λ slot. op.Loop slot) byte_at Spelling.byte is_byte byte_reads (λ a. refl) (λ a t. (refl, t)) bytes x fits h
operands_take v sizes format.Call bytes x g fits h = made_takes v sizes format.Call (λ e. op.Call e) byte_at Spelling.byte is_byte byte_reads (λ a. refl) (λ a t. (refl, t)) bytes x fits h
operands_take v sizes format.SlotInRange bytes x g fits h =
    made_takes v sizes format.SlotInRange (λ t. op.SlotInRange t.0 t.1.0.0 t.1.0.1 t.1.1) slot_test_at _ _
    slot_test_reads (λ a. refl) (λ a t. (refl, and_from _ _ g t)) bytes x fits h

operands_within : (sizes : List ℕ) (f : Format) (bytes : List ℕ) (e : FieldFault) → IsBytes bytes → operands_at sizes f bytes ≡ Err e → e.left ≤ length bytes
operands_within sizes (format.Plain i) bytes e fits h = absurd cc
operands_within sizes format.Int bytes e fits h = made_within (λ k. op.PushInt k) (signed_at w64) Spelling.i64 is_i64 i64_reads bytes e fits h
operands_within sizes format.Bool bytes e fits h = made_within (λ b. op.PushBool (b == 1)) (between_at 0 2) Spelling.byte _ (between_reads 0 2) bytes e fits h
operands_within sizes format.Enumerator bytes e fits h = made_within (λ e. op.PushEnum e.0 e.1) (enumerator_at sizes) _ _ (enumerator_reads sizes) bytes e fits h
operands_within sizes format.Get bytes e fits h = made_within (λ slot. op.Get slot) byte_at Spelling.byte is_byte byte_reads bytes e fits h
operands_within sizes format.Jump bytes e fits h = made_within (λ to. op.Jump to) (number_at w16) Spelling.u16 is_u16 u16_reads bytes e fits h
operands_within sizes (format.JumpIf on) bytes e fits h = made_within (λ to. op.JumpIf on to) (number_at w16) Spelling.u16 is_u16 u16_reads bytes e fits h
operands_within sizes format.InRange bytes e fits h = made_within (λ t. op.InRange t.0.0 t.0.1 t.1) test_at _ _ test_reads bytes e fits h
operands_within sizes format.Loop bytes e fits h = made_within (λ slot. op.Loop slot) byte_at Spelling.byte is_byte byte_reads bytes e fits h
operands_within sizes format.Call bytes e fits h = made_within (λ c. op.Call c) byte_at Spelling.byte is_byte byte_reads bytes e fits h
operands_within sizes format.SlotInRange bytes e fits h = made_within (λ t. op.SlotInRange t.0 t.1.0.0 t.1.0.1 t.1.1) slot_test_at _ _ slot_test_reads bytes e fits h

operands_again : (v : Version) (sizes : List ℕ) (i : Op) (rest : List ℕ) → fits_op v sizes i ≡ true → operands_at sizes (format_for i) (Spelling.op_operands i ++ rest) ≡ Ok (i, rest)
operands_again v sizes op.End rest h = refl
operands_again v sizes (op.PushInt k) rest h = rw (i64_reads.again k rest h) refl
operands_again v sizes (op.PushBool true) rest h = let t : between_at 0 2 (1 ∷ rest) ≡ Ok (1, rest) = (between_reads 0 2).again 1 rest refl in rw t refl
operands_again v sizes (op.PushBool false) rest h = let t : between_at 0 2 (0 ∷ rest) ≡ Ok (0, rest) = (between_reads 0 2).again 0 rest refl in rw t refl
operands_again v sizes (op.PushEnum s i) rest h = let t : enumerator_at sizes (s ∷ (i ∷ rest)) ≡ Ok ((s, i), rest) =
    (enumerator_reads sizes).again (s, i) rest (enumerator_back sizes s i h) in rw t refl
operands_again v sizes (op.Get slot) rest h = refl
operands_again v sizes op.Pop rest h = refl
operands_again v sizes (op.Arithmetic a) rest h = refl
operands_again v sizes op.Negate rest h = refl
operands_again v sizes op.Absolute rest h = refl
operands_again v sizes (op.Compare c) rest h = refl
operands_again v sizes (op.Equality e) rest h = refl
operands_again v sizes op.Not rest h = refl
operands_again v sizes (op.Logic c) rest h = refl
operands_again v sizes (op.Jump to) rest h = rw (u16_reads.again to rest h) refl
operands_again v sizes (op.JumpIf on to) rest h = rw (u16_reads.again to rest h) refl
operands_again v sizes (op.InRange low high to) rest h = rw (test_reads.again ((low, high), to) rest h) refl
operands_again v sizes (op.SlotInRange slot low high to) rest h =
    let two = and_parts (is_second v) (is_byte slot && (are_bounds low high && is_u16 to)) h in
    let t : slot_test_at (Spelling.op_operands (op.SlotInRange slot low high to) ++ rest)
    ≡ Ok ((slot, ((low, high), to)), rest) = slot_test_reads.again (slot, ((low, high), to)) rest two.1 in rw t refl
operands_again v sizes (op.Loop slot) rest h = refl
operands_again v sizes op.Next rest h = refl
operands_again v sizes (op.Open c) rest h = refl
operands_again v sizes op.Close rest h = refl
operands_again v sizes (op.Emit l) rest h = refl
operands_again v sizes (op.Call equation) rest h = refl

-- ---- instructions

code_of : (i : Op) → format_code (format_for i) ≡ Spelling.op_code i
code_of op.End = refl
code_of (op.PushInt k) = refl
code_of (op.PushBool b) = refl
code_of (op.PushEnum s i) = refl
code_of (op.Get slot) = refl
code_of op.Pop = refl
code_of (op.Arithmetic a) = refl
code_of op.Negate = refl
code_of op.Absolute = refl
code_of (op.Compare c) = refl
code_of (op.Equality e) = refl
code_of op.Not = refl
code_of (op.Logic c) = refl
code_of (op.Jump to) = refl
code_of (op.JumpIf on to) = refl
code_of (op.InRange low high to) = refl
code_of (op.SlotInRange slot low high to) = refl
code_of (op.Loop slot) = refl
code_of op.Next = refl
code_of (op.Open c) = refl
code_of op.Close = refl
code_of (op.Emit l) = refl
code_of (op.Call equation) = refl

op_has_format : (v : Version) (sizes : List ℕ) (i : Op) → fits_op v sizes i ≡ true → is_format v (format_for i) ≡ true
op_has_format v sizes op.End h = refl
op_has_format v sizes (op.PushInt k) h = refl
op_has_format v sizes (op.PushBool b) h = refl
op_has_format v sizes (op.PushEnum s i) h = refl
op_has_format v sizes (op.Get slot) h = refl
op_has_format v sizes op.Pop h = refl
op_has_format v sizes (op.Arithmetic a) h = refl
op_has_format v sizes op.Negate h = refl
op_has_format v sizes op.Absolute h = refl
op_has_format v sizes (op.Compare c) h = refl
op_has_format v sizes (op.Equality e) h = refl
op_has_format v sizes op.Not h = refl
op_has_format v sizes (op.Logic c) h = refl
op_has_format v sizes (op.Jump to) h = refl
op_has_format v sizes (op.JumpIf on to) h = refl
op_has_format v sizes (op.InRange low high to) h = refl
op_has_format v sizes (op.SlotInRange slot low high to) h = (and_parts (is_second v) (is_byte slot && (are_bounds low high && is_u16 to)) h).0
op_has_format v sizes (op.Loop slot) h = refl
op_has_format v sizes op.Next h = refl
op_has_format v sizes (op.Open c) h = refl
op_has_format v sizes op.Close h = refl
op_has_format v sizes (op.Emit l) h = refl
op_has_format v sizes (op.Call equation) h = refl

pub op_reads : (v : Version) (sizes : List ℕ) → Reads (op_at v sizes) Spelling.op_bytes (fits_op v sizes)
unfolding op_at
op_reads v sizes = record {
  takes = λ bytes x fits h.
      let a = bind_ok (byte_at bytes >>= λ code. known (format_of v code.0) rule.UnknownOp bytes code.1) (λ f. operands_at sizes f.0 f.1) x h in
      let b = bind_ok (byte_at bytes) (λ code. known (format_of v code.0) rule.UnknownOp bytes code.1) a.0 a.1 in
      let k = known_ok _ rule.UnknownOp bytes b.0.1 a.0 b.2 in
      let s = format_sound v b.0.0 a.0.0 k.0 in
      let t = byte_reads.takes bytes b.0 fits b.1 in
      let rest : IsBytes a.0.1 = subst IsBytes (sym k.1) t.left in
      let o = operands_take v sizes a.0.0 a.0.1 x s.1 rest a.2 in
      let code : Spelling.op_code x.0 ≡ b.0.0 = sym (code_of x.0) ∙ ap format_code o.format ∙ s.0 in
      record {
        parts = t.parts ∙ ap (λ (n : ℕ). n ∷ b.0.1) (sym code) ∙ ap (λ (r : List ℕ). Spelling.op_code x.0 ∷ r) (sym k.1 ∙ o.took.parts);
        left = o.took.left;
        fits = o.took.fits;
      };
  again = λ i rest h.
      let g : format_of v (Spelling.op_code i) ≡ Some (format_for i) = ap (format_of v) (sym (code_of i)) ∙ format_found v (format_for i) (op_has_format v sizes i h) in
      rw g (operands_again v sizes i rest h);
  within = λ bytes e fits h.
      bind_err (byte_at bytes >>= λ code. known (format_of v code.0) rule.UnknownOp bytes code.1) (λ f. operands_at sizes f.0 f.1) e _ h
      (λ f. bind_err (byte_at bytes) (λ code. known (format_of v code.0) rule.UnknownOp bytes code.1) e _ f
      (λ g. byte_reads.within bytes e fits g) (λ x ok g. let z = known_err _ rule.UnknownOp bytes x.1 e g in omega arith))
      (λ x ok f.
      let b = bind_ok (byte_at bytes) (λ code. known (format_of v code.0) rule.UnknownOp bytes code.1) x ok in
      let k = known_ok _ rule.UnknownOp bytes b.0.1 x b.2 in
      let t = byte_reads.takes bytes b.0 fits b.1 in
      let s = shorter _ _ bytes b.0.1 t in
      let w = operands_within sizes x.0 x.1 e (subst IsBytes (sym k.1) t.left) f in
      omega (arith, ap length k.1));
}

pub code_reads : (v : Version) (sizes : List ℕ)
    → Reads (code_at v sizes) (λ code. Spelling.u16 (length code) ++ flat_map Spelling.op_bytes code)
    (λ code. is_between 1 (MAX_INSTRUCTIONS + 1) (length code) && list_all (fits_op v sizes) code)
unfolding code_at
code_reads v sizes =
    same_test (code_at v sizes) (λ code. Spelling.u16 (length code) ++ flat_map Spelling.op_bytes code) (λ code. (is_u16 (length code) && nat_le 1 (length code)) && list_all (fits_op v sizes) code) _
    (λ code h.
    let a = and_parts (is_u16 (length code) && nat_le 1 (length code)) (list_all (fits_op v sizes) code) h in
    let b = and_parts (is_u16 (length code)) (nat_le 1 (length code)) a.0 in
    and_from _ _ (and_from _ _ b.1 b.0) a.1)
    (λ code h.
    let a = and_parts (is_between 1 (MAX_INSTRUCTIONS + 1) (length code)) (list_all (fits_op v sizes) code) h in
    let b = and_parts (nat_le 1 (length code)) (nat_lt (length code) (MAX_INSTRUCTIONS + 1)) a.0 in
    and_from _ _ (and_from _ _ b.1 b.0) a.1)
    (behind (checked (number_at w16) (kept (λ n. nat_le 1 n)) rule.Limit) Spelling.u16 (λ n. is_u16 n && nat_le 1 n) (op_at v sizes) Spelling.op_bytes (fits_op v sizes)
    (keep (number_at w16) Spelling.u16 is_u16 (λ n. nat_le 1 n) rule.Limit u16_reads) (op_reads v sizes))
