-- Laws of numbers, names, sorts and carriers.
use Rattle.std.proofs.Common.{◌≡◌, ℕ, suc, ◌+◌, ◌^◌, ◌<◌, ◌≤◌, Bool, true, false, cond, ltb, List, [], ◌∷◌, ◌++◌, length, take, drop, Ok, Err, refl, sym, ap, subst, length-append, arith, inl, inr}
use Rattle.std.specs.Prelude.{ℤ, pos, negsuc, nat_lt, FitsSigned}
use Rattle.std.specs.Int.{Width, w16, w32, w64, byte_len, from_le_bytes, to_le_bytes, cast_signed, cast_unsigned}
use Rattle.std.proofs.lemmas.Bool.{and_parts, and_from, cases_lt, ltb-false, le-ltb, ltb-true, lt-ltb}
use Rattle.std.proofs.lemmas.Int.{ints, to_z-of_z, of_z-to_z}
use Rattle.std.proofs.Math.Facts.{sfits_to_z, Fits-of_lt}
use Rattle.std.proofs.lemmas.List.{take_at, drop_at, take-append-drop, length-take, get_or-drop, get_or-take, get_or_past}
use Rattle.std.proofs.lemmas.Nat.{le_bytes_2, le_bytes_4, le_bytes_8, from_le_bytes-to_le_bytes_2, from_le_bytes-to_le_bytes_4, from_le_bytes-to_le_bytes_8}
use Rattle.pb_bytecode_program.proofs.Ints.{from_le, le_true}
use Rattle.pb_bytecode.specs.declared.fault.FieldFault.{FieldFault}
use Rattle.pb_bytecode.specs.Limits.{is_byte, is_i32, is_i64}
use Rattle.pb_bytecode.specs.Spelling
use Rattle.pb_bytecode.specs.Reading.{truncated, byte_at, number_at, signed_at}
use Rattle.pb_bytecode.proofs.Readers.{IsBytes, bind_ok, bind_err, ok_is, Took, Reads}

pub IsBytes-drop : (n : ℕ) (bytes : List ℕ) → IsBytes bytes → IsBytes (drop n bytes)
IsBytes-drop n bytes h i = rw get_or-drop (h (n + i))

IsBytes-take : (n : ℕ) (bytes : List ℕ) → IsBytes bytes → IsBytes (take n bytes)
IsBytes-take n bytes h i =
    elim (cases_lt i n) [
      | inl lt ↦ rw (get_or-take n bytes i 0 lt) (h i)
      | inr le ↦ rw (get_or_past (take n bytes) i 0 (omega (arith, length-take n bytes))) (omega arith)
    ]

pub truncated_within : (e : FieldFault) (bytes : List ℕ) → truncated ≡ e → e.left ≤ length bytes
truncated_within e bytes h = let z = ap (λ (f : FieldFault). f.left) h in omega arith

-- ---- bytes

pub byte_reads : Reads byte_at Spelling.byte is_byte
byte_reads = record {
  takes = byte_takes;
  again = λ b rest h. refl;
  within = byte_within;
}
  where
    byte_takes : (bytes : List ℕ) (x : ℕ × List ℕ) → IsBytes bytes → byte_at bytes ≡ Ok x → Took (Spelling.byte x.0) (is_byte x.0) bytes x.1
    byte_takes [] x fits e = absurd cc
    byte_takes (b ∷ bytes) x fits e =
        subst (λ (y : ℕ × List ℕ). Took (Spelling.byte y.0) (is_byte y.0) (b ∷ bytes) y.1) (ok_is (b, bytes) x e)
        (record { parts = refl; left = λ i. fits (suc i); fits = lt-ltb b 256 (fits 0) })

    byte_within : (bytes : List ℕ) (e : FieldFault) → IsBytes bytes → byte_at bytes ≡ Err e → e.left ≤ length bytes
    byte_within [] e fits h = truncated_within e [] (cc)
    byte_within (b ∷ bytes) e fits h = absurd cc

-- ---- numbers

pub record IsWide (w : Width) (limit : ℕ) : Type 0 where
  pub len : (n : ℕ) → length (to_le_bytes w n) ≡ byte_len w
  pub back : (bytes : List ℕ) → length bytes ≡ byte_len w → IsBytes bytes → to_le_bytes w (from_le_bytes w bytes) ≡ bytes
  pub again : (n : ℕ) → n < limit → from_le_bytes w (to_le_bytes w n) ≡ n
  pub below : (bytes : List ℕ) → IsBytes bytes → from_le_bytes w bytes < limit

pub wide16 : IsWide w16 (2 ^ 16)
wide16 = record {
  len = λ n. refl;
  back = λ bytes len fits. le_bytes_2 bytes _ len fits refl;
  again = λ n lt. from_le_bytes-to_le_bytes_2 n lt;
  below = λ bytes fits. omega (arith, fits 0, fits 1);
}

pub wide32 : IsWide w32 (2 ^ 32)
wide32 = record {
  len = λ n. refl;
  back = λ bytes len fits. le_bytes_4 bytes _ len fits refl;
  again = λ n lt. from_le_bytes-to_le_bytes_4 n lt;
  below = λ bytes fits. omega (arith, fits 0, fits 1, fits 2, fits 3);
}

pub wide64 : IsWide w64 (2 ^ 64)
wide64 = record {
  len = λ n. refl;
  back = λ bytes len fits. le_bytes_8 bytes _ len fits refl;
  again = λ n lt. from_le_bytes-to_le_bytes_8 n lt;
  below = λ bytes fits. omega (arith, fits 0, fits 1, fits 2, fits 3, fits 4, fits 5, fits 6, fits 7);
}

guard_ok : {A : Type 0} (b : Bool) (d : FieldFault) (x y : A) → cond b (Err d) (Ok x) ≡ Ok y → (b ≡ false) × (x ≡ y)
guard_ok true d x y e = absurd cc
guard_ok false d x y e = (refl, cc)

guard_err : {A : Type 0} (b : Bool) (d : FieldFault) (x : A) (e : FieldFault) → cond b (Err d) (Ok x) ≡ Err e → d ≡ e
guard_err true d x e h = cc
guard_err false d x e h = absurd cc

pub number_reads : (w : Width) (limit : ℕ) → IsWide w limit → Reads (number_at w) (to_le_bytes w) (λ n. nat_lt n limit)
number_reads w limit wide = record {
  takes = λ bytes x fits e.
      let g = guard_ok (ltb (length bytes) (byte_len w)) truncated (from_le_bytes w (take (byte_len w) bytes), drop (byte_len w) bytes) x e in
      let long : byte_len w ≤ length bytes = ltb-false _ _ g.0 in
      let front : to_le_bytes w (from_le_bytes w (take (byte_len w) bytes)) ≡ take (byte_len w) bytes =
      wide.back (take (byte_len w) bytes) (omega (arith, length-take (byte_len w) bytes)) (IsBytes-take (byte_len w) bytes fits) in
      subst (λ (y : ℕ × List ℕ). Took (to_le_bytes w y.0) (nat_lt y.0 limit) bytes y.1) g.1
      (record {
        parts = rw front (sym (take-append-drop (byte_len w) bytes));
        left =
            IsBytes-drop (byte_len w) bytes fits;
        fits =
            lt-ltb _ _ (wide.below (take (byte_len w) bytes) (IsBytes-take (byte_len w) bytes fits));
      });
  again = λ n rest h.
      let len = wide.len n in
      let long : ltb (length (to_le_bytes w n ++ rest)) (byte_len w) ≡ false = le-ltb _ _ (omega (arith, length-append (to_le_bytes w n) rest)) in
      rw (long, take_at (to_le_bytes w n) rest (byte_len w) len, drop_at (to_le_bytes w n) rest (byte_len w) len, wide.again n (ltb-true n limit h)) refl;
  within = λ bytes e fits h. truncated_within e bytes (guard_err _ truncated _ e h);
}

-- ---- signed numbers

signed_reads : (w : Width) (limit : ℕ) (test : ℤ → Bool) → IsWide w limit → ((n : ℕ) → n < limit → cast_unsigned w (cast_signed w n) ≡ n) → ((n : ℕ) → n < limit → test (cast_signed w n) ≡ true)
    → ((z : ℤ) → test z ≡ true → cast_signed w (cast_unsigned w z) ≡ z) → ((z : ℤ) → test z ≡ true → cast_unsigned w z < limit)
    → Reads (signed_at w) (λ z. to_le_bytes w (cast_unsigned w z)) test
unfolding signed_at
signed_reads w limit test wide back inside again below =
    let reads = number_reads w limit wide in
    record {
      takes = λ bytes x fits e.
          let a = bind_ok (number_at w bytes) (λ n. Ok (cast_signed w n.0, n.1)) x e in
          let t = reads.takes bytes a.0 fits a.1 in
          let lt = ltb-true a.0.0 limit t.fits in
          subst (λ (y : ℤ × List ℕ). Took (to_le_bytes w (cast_unsigned w y.0)) (test y.0) bytes y.1) (ok_is (cast_signed w a.0.0, a.0.1) x a.2)
          (record { parts = rw (back a.0.0 lt) (t.parts); left = t.left; fits = inside a.0.0 lt });
      again = λ z rest h. rw (reads.again (cast_unsigned w z) rest (lt-ltb _ _ (below z h)), again z h) refl;
      within = λ bytes e fits h. bind_err (number_at w bytes) (λ n. Ok (cast_signed w n.0, n.1)) e _ h (λ f. reads.within bytes e fits f) (λ x ok f. absurd cc);
    }

i32_parts : (z : ℤ) → is_i32 z ≡ true → FitsSigned w32 z
i32_parts z h = let two = and_parts _ _ h in let a = le_true (negsuc 2147483647) z two.0 in let b = le_true z (pos 2147483647) two.1 in omega (arith, ints)

i64_parts : (z : ℤ) → is_i64 z ≡ true → FitsSigned w64 z
i64_parts z h = let two = and_parts _ _ h in let a = le_true (negsuc 9223372036854775807) z two.0 in let b = le_true z (pos 9223372036854775807) two.1 in omega (arith, ints)

pub i32_reads : Reads (signed_at w32) Spelling.i32 is_i32
i32_reads = signed_reads w32 (2 ^ 32) is_i32 wide32
    (λ n lt. of_z-to_z w32 n lt)
    (λ n lt. let f : FitsSigned w32 (cast_signed w32 n) =
    sfits_to_z {w = w32} {n = n} (Fits-of_lt {w = w32} {n = n} lt) in
    and_from _ _ (from_le (negsuc 2147483647) (cast_signed w32 n) (omega (arith, ints)))
    (from_le (cast_signed w32 n) (pos 2147483647) (omega (arith, ints))))
    (λ z h. to_z-of_z w32 z (i32_parts z h))
    (λ z h. let f = i32_parts z h in omega (arith, ints))

pub i64_reads : Reads (signed_at w64) Spelling.i64 is_i64
i64_reads = signed_reads w64 (2 ^ 64) is_i64 wide64
    (λ n lt. of_z-to_z w64 n lt)
    (λ n lt. let f : FitsSigned w64 (cast_signed w64 n) =
    sfits_to_z {w = w64} {n = n} (Fits-of_lt {w = w64} {n = n} lt) in
    and_from _ _ (from_le (negsuc 9223372036854775807) (cast_signed w64 n) (omega (arith, ints)))
    (from_le (cast_signed w64 n) (pos 9223372036854775807) (omega (arith, ints))))
    (λ z h. to_z-of_z w64 z (i64_parts z h))
    (λ z h. let f = i64_parts z h in omega (arith, ints))
