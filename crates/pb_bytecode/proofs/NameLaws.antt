-- Laws of names, sorts and carriers.
use Rattle.std.proofs.Common.{◌≡◌, ℕ, zero, suc, ◌+◌, ◌<◌, ◌≤◌, Bool, true, false, cond, ◌&&◌, ltb, List, ◌∷◌, ◌++◌, length, take, drop, Some, None, Ok, Err, refl, sym, ap, subst, ◌∙◌, append_assoc, length-append, arith}
use Rattle.std.specs.Prelude.{ℤ, int_le, nat_le, nat_lt, ◌==◌}
use Rattle.std.specs.Int.{w32}
use Rattle.std.specs.List.{flat_map, list_all}
use Rattle.std.proofs.lemmas.Bool.{and_parts, and_from, ltb-false, le-ltb, ltb-true, lt-ltb, eqb-true, eq-eqb}
use Rattle.std.proofs.lemmas.List.{take_at, drop_at, take-append-drop, length-take}
use Rattle.std.proofs.lemmas.Option.{same_Some}
use Rattle.pb_base.specs.declared.limits.TheConstants.{MAX_ENUMERATORS}
use Rattle.pb_sorts.specs.declared.carrier.Carrier.{Carrier}
use Rattle.pb_sorts.specs.declared.carrier.Enumeration.{Enumeration}
use Rattle.pb_sorts.specs.declared.carrier.Range.{Range}
use Rattle.pb_sorts.specs.declared.carrier.Carrier.TheVariants as carrier
use Rattle.pb_bytecode_program.proofs.Ints.{from_le}
use Rattle.pb_bytecode.specs.declared.fault.FieldFault.{FieldFault}
use Rattle.pb_bytecode.specs.declared.fault.ModuleRule.TheVariants as rule
use Rattle.pb_bytecode.specs.Names.{is_module_name}
use Rattle.pb_bytecode.specs.Limits.{is_byte, is_i32, is_between, are_bounds, fits_sort, enumerator_count, fits_carrier}
use Rattle.pb_bytecode.specs.Spelling
use Rattle.pb_bytecode.specs.Reading.{◌>>=◌, Field, truncated, known, checked, kept, byte_at, signed_at, between_at, bounds_at, counted_at, items_at, name_at, sort_at, enum_from, range_from, enum_at, range_at, tagged_at, carrier_at}
use Rattle.pb_bytecode.proofs.Readers.{IsBytes, bind_ok, bind_err, ok_is, Took, shorter, Reads, ReadsIn, then, last, close, same_test, keep, known_ok, known_err, items}
use Rattle.pb_bytecode.proofs.Carriers.{ranges, enum_read}
use Rattle.pb_bytecode.proofs.FieldLaws.{byte_reads, IsBytes-drop, truncated_within, i32_reads}

-- ---- bytes within limits

pub between_reads : (low end : ℕ) → Reads (between_at low end) Spelling.byte (λ b. is_byte b && is_between low end b)
unfolding between_at
between_reads low end = keep byte_at Spelling.byte is_byte (is_between low end) rule.Limit byte_reads

-- items behind the number that counts them
in_pair : {A : Type 0} (item : List ℕ → Field A) (spell : A → List ℕ) (test : A → Bool)
    → ReadsIn (items_at item) (λ xs. length xs) (flat_map spell) (list_all test)
    → ReadsIn (λ (c : Unit {0} × ℕ) bytes. items_at item c.1 bytes) (λ xs. (tt, length xs)) (flat_map spell) (list_all test)
in_pair item spell test r = record {
  takes = λ c bytes x fits e. let t = r.takes c.1 bytes x fits e in (ap (λ (n : ℕ). (tt, n)) t.0, t.1);
  again = r.again;
  within = λ c bytes e fits h. r.within c.1 bytes e fits h;
}

pub behind : {A : Type 0} (count : List ℕ → Field ℕ) (spell_count : ℕ → List ℕ) (test_count : ℕ → Bool)
    (item : List ℕ → Field A) (spell : A → List ℕ) (test : A → Bool) → Reads count spell_count test_count → Reads item spell test
    → Reads (λ bytes. count bytes >>= λ n. items_at item n.0 n.1) (λ xs. spell_count (length xs) ++ flat_map spell xs) (λ xs. test_count (length xs) && list_all test xs)
behind count spell_count test_count item spell test counts reads =
    close _ _ _
    (then (λ c. count) (λ c. spell_count) (λ c. test_count) (λ c bytes. items_at item c.1 bytes) (λ xs. tt)
    (λ xs. length xs) (flat_map spell) (list_all test) (λ c. counts) (in_pair item spell test (items item spell test reads)))

pub counted_reads : {A : Type 0} (low end : ℕ) (item : List ℕ → Field A) (spell : A → List ℕ) (test : A → Bool)
    → end ≤ 256 → Reads item spell test
    → Reads (counted_at low end item) (Spelling.counted spell) (λ xs. is_between low end (length xs) && list_all test xs)
unfolding counted_at
counted_reads low end item spell test small reads =
    same_test (counted_at low end item) (Spelling.counted spell) (λ xs. (is_byte (length xs) && is_between low end (length xs)) && list_all test xs) _
    (λ xs h. let a = and_parts (is_byte (length xs) && is_between low end (length xs)) (list_all test xs) h in
    and_from _ _ (and_parts (is_byte (length xs)) (is_between low end (length xs)) a.0).1 a.1)
    (λ xs h.
    let a = and_parts (is_between low end (length xs)) (list_all test xs) h in
    let b = ltb-true _ _ (and_parts (nat_le low (length xs)) (nat_lt (length xs) end) a.0).1 in
    and_from _ _ (and_from _ _ (lt-ltb _ _ (omega arith)) a.0) a.1)
    (behind (between_at low end) Spelling.byte (λ b. is_byte b && is_between low end b) item spell test (between_reads low end) reads)

-- ---- names and sorts

-- the bytes of a name, its length being read
abbrev text_at : List ℕ → ℕ → List ℕ → Field (List ℕ)
text_at field n bytes = cond (ltb (length bytes) n) (Err truncated) (known (kept is_module_name (take n bytes)) rule.Limit field (drop n bytes))

text_ok : (field bytes : List ℕ) (n : ℕ) (x : List ℕ × List ℕ) → text_at field n bytes ≡ Ok x → (n ≤ length bytes) × (x ≡ (take n bytes, drop n bytes)) × (is_module_name (take n bytes) ≡ true)
text_ok field bytes n x e = by (ltb (length bytes) n) (is_module_name (take n bytes)) refl refl e
  where
    by : (a b : Bool) → ltb (length bytes) n ≡ a → is_module_name (take n bytes) ≡ b
        → cond a (Err truncated) (known (cond b (Some (take n bytes)) None) rule.Limit field (drop n bytes)) ≡ Ok x
        → (n ≤ length bytes) × (x ≡ (take n bytes, drop n bytes)) × (is_module_name (take n bytes) ≡ true)
    by true b p q h = absurd cc
    by false false p q h = absurd cc
    by false true p q h = (ltb-false _ _ p, sym (ok_is (take n bytes, drop n bytes) x h), q)

text_err : (field bytes : List ℕ) (n : ℕ) (e : FieldFault) → text_at field n bytes ≡ Err e → length bytes ≤ length field → e.left ≤ length field
text_err field bytes n e h le = by (ltb (length bytes) n) (is_module_name (take n bytes)) h
  where
    by : (a b : Bool) → cond a (Err truncated) (known (cond b (Some (take n bytes)) None) rule.Limit field (drop n bytes)) ≡ Err e → e.left ≤ length field
    by true b h = truncated_within e field (cc)
    by false true h = absurd cc
    by false false h = let same : record { rule = rule.Limit; left = length field } ≡ e = cc in let z = ap (λ (f : FieldFault). f.left) same in omega arith

pub name_reads : Reads name_at Spelling.name_bytes is_module_name
unfolding name_at
name_reads = record {
  takes = λ bytes x fits e.
      let a = bind_ok (byte_at bytes) (λ n. text_at bytes n.0 n.1) x e in
      let t = byte_reads.takes bytes a.0 fits a.1 in
      let g = text_ok bytes a.0.1 a.0.0 x a.2 in
      let len : length (take a.0.0 a.0.1) ≡ a.0.0 = let h = g.0 in omega (arith, length-take a.0.0 a.0.1) in
      let whole : bytes ≡ Spelling.name_bytes (take a.0.0 a.0.1) ++ drop a.0.0 a.0.1 =
      t.parts ∙ ap (λ (r : List ℕ). a.0.0 ∷ r) (sym (take-append-drop a.0.0 a.0.1)) ∙ ap (λ (n : ℕ). n ∷ (take a.0.0 a.0.1 ++ drop a.0.0 a.0.1)) (sym len) in
      subst (λ (y : List ℕ × List ℕ). Took (Spelling.name_bytes y.0) (is_module_name y.0) bytes y.1) (sym g.1)
      (record { parts = whole; left = IsBytes-drop a.0.0 a.0.1 t.left; fits = g.2 });
  again = λ text rest h.
      let long : ltb (length (text ++ rest)) (length text) ≡ false = le-ltb _ _ (omega (arith, length-append text rest)) in
      rw (long, take_at text rest (length text) refl, drop_at text rest (length text) refl, h) refl;
  within = λ bytes e fits h.
      bind_err (byte_at bytes) (λ n. text_at bytes n.0 n.1) e _ h
      (λ f. byte_reads.within bytes e fits f)
      (λ x ok f. text_err bytes x.1 x.0 e f (shorter _ _ bytes x.1 (byte_reads.takes bytes x fits ok)));
}

pub sort_reads : Reads sort_at Spelling.sort_bytes fits_sort
unfolding sort_at
sort_reads = counted_reads 1 (MAX_ENUMERATORS + 1) name_at Spelling.name_bytes is_module_name (omega arith) name_reads

-- ---- bounds and carriers

pub bounds_reads : Reads bounds_at (λ b. Spelling.bounds b.0 b.1) (λ b. are_bounds b.0 b.1)
unfolding bounds_at
bounds_reads =
    same_test bounds_at (λ b. Spelling.bounds b.0 b.1) (λ b. is_i32 b.0 && (is_i32 b.1 && int_le b.0 b.1)) (λ b. are_bounds b.0 b.1)
    (λ b h. let p = and_parts (is_i32 b.0) (is_i32 b.1 && int_le b.0 b.1) h in let q = and_parts (is_i32 b.1) (int_le b.0 b.1) p.1 in and_from _ _ (and_from _ _ p.0 q.0) q.1)
    (λ b h. let p = and_parts (is_i32 b.0 && is_i32 b.1) (int_le b.0 b.1) h in let q = and_parts (is_i32 b.0) (is_i32 b.1) p.0 in and_from _ _ q.0 (and_from _ _ q.1 p.1))
    (close _ _ _ (then (λ c. signed_at w32) (λ c. Spelling.i32) (λ c. is_i32) _ (λ b. tt) (λ b. b.0) _ _ (λ c. i32_reads)
    (last (λ (c : Unit {0} × ℤ). checked (signed_at w32) (kept (λ high. int_le c.1 high)) rule.Limit)
    (λ c. Spelling.i32) (λ c high. is_i32 high && int_le c.1 high) (λ c. (c.0.1, c.1)) (λ b. (tt, b.0)) (λ b. b.1)
    (λ b. refl) (λ c. refl)
    (λ c. keep (signed_at w32) Spelling.i32 is_i32 (λ high. int_le c.1 high) rule.Limit i32_reads))))

-- ---- carriers

enum_parts : (s n : ℕ) (b : Bool) (h : nat_lt 0 n ≡ b) (c : Carrier) → enum_from s n b h ≡ Some c → (e : Enumeration) × (c ≡ carrier.Enum e) × (e.sort ≡ s) × (e.count ≡ n)
enum_parts s n true h c e = (_, sym (same_Some _ c e), refl, refl)
enum_parts s n false h c e = absurd cc

range_parts : (low high : ℤ) (b : Bool) (h : int_le low high ≡ b) (c : Carrier) → range_from low high b h ≡ Some c → (r : Range) × (c ≡ carrier.Range r) × (r.low ≡ low) × (r.high ≡ high)
range_parts low high true h c e = (_, sym (same_Some _ c e), refl, refl)
range_parts low high false h c e = absurd cc

-- the sort of an enumeration, and the bounds of a range
enum_reads : (sizes : List ℕ) (bytes : List ℕ) (x : Carrier × List ℕ) → IsBytes bytes → enum_at sizes bytes ≡ Ok x
    → (e : Enumeration) × (x.0 ≡ carrier.Enum e) × Took (Spelling.byte e.sort) (fits_carrier sizes (carrier.Enum e)) bytes x.1
unfolding enum_at
enum_reads sizes bytes x fits h =
    let a = bind_ok (byte_at bytes) (λ s. known (enum_from s.0 (enumerator_count sizes s.0) (nat_lt 0 (enumerator_count sizes s.0)) refl) rule.Limit bytes s.1) x h in
    let k = known_ok _ rule.Limit bytes a.0.1 x a.2 in
    let p = enum_parts a.0.0 (enumerator_count sizes a.0.0) _ refl x.0 k.0 in
    let t = byte_reads.takes bytes a.0 fits a.1 in (
      p.0,
      p.1,
      record {
        parts = t.parts ∙ ap (λ (s : ℕ). s ∷ a.0.1) (sym p.2) ∙ ap (λ (r : List ℕ). p.0.sort ∷ r) (sym k.1);
        left =
            subst IsBytes (sym k.1) t.left;
        fits =
            and_from _ _ (ap is_byte p.2 ∙ t.fits) (eq-eqb _ _ (p.3 ∙ ap (enumerator_count sizes) (sym p.2)));
      },
    )

range_reads : (bytes : List ℕ) (x : Carrier × List ℕ) → IsBytes bytes → range_at bytes ≡ Ok x
    → (r : Range) × (x.0 ≡ carrier.Range r) × Took (Spelling.bounds r.low r.high) (are_bounds r.low r.high) bytes x.1
unfolding range_at
range_reads bytes x fits h =
    let a = bind_ok (signed_at w32 bytes) (λ low. checked (signed_at w32) (λ high. range_from low.0 high (int_le low.0 high) refl) rule.Limit low.1) x h in
    let b = bind_ok (signed_at w32 a.0.1) (λ high. known (range_from a.0.0 high.0 (int_le a.0.0 high.0) refl) rule.Limit a.0.1 high.1) x a.2 in
    let k = known_ok _ rule.Limit a.0.1 b.0.1 x b.2 in
    let p = range_parts a.0.0 b.0.0 _ refl x.0 k.0 in
    let t = i32_reads.takes bytes a.0 fits a.1 in
    let u = i32_reads.takes a.0.1 b.0 t.left b.1 in
    let order : int_le p.0.low p.0.high ≡ true = from_le p.0.low p.0.high p.0.not_empty in
    let whole : bytes ≡ Spelling.bounds a.0.0 b.0.0 ++ b.0.1 = t.parts ∙ ap (λ (r : List ℕ). Spelling.i32 a.0.0 ++ r) u.parts ∙ sym (append_assoc (Spelling.i32 a.0.0) (Spelling.i32 b.0.0) b.0.1) in
    let whole' : bytes ≡ Spelling.bounds p.0.low p.0.high ++ x.1 =
    whole ∙ ap (λ (z : ℤ). Spelling.bounds z b.0.0 ++ b.0.1) (sym p.2)
    ∙ ap (λ (z : ℤ). Spelling.bounds p.0.low z ++ b.0.1) (sym p.3)
    ∙ ap (λ (r : List ℕ). Spelling.bounds p.0.low p.0.high ++ r) (sym k.1) in
    (p.0, p.1, record { parts = whole'; left = subst IsBytes (sym k.1) u.left; fits = and_from _ _ (and_from _ _ (ap is_i32 p.2 ∙ t.fits) (ap is_i32 p.3 ∙ u.fits)) order })

enum_within : (sizes bytes : List ℕ) (e : FieldFault) → IsBytes bytes → enum_at sizes bytes ≡ Err e → e.left ≤ length bytes
unfolding enum_at
enum_within sizes bytes e fits h = bind_err (byte_at bytes) _ e _ h (λ f. byte_reads.within bytes e fits f) (λ x ok f. let z = known_err _ rule.Limit bytes x.1 e f in omega arith)

range_within : (bytes : List ℕ) (e : FieldFault) → IsBytes bytes → range_at bytes ≡ Err e → e.left ≤ length bytes
unfolding range_at
range_within bytes e fits h =
    bind_err (signed_at w32 bytes) _ e _ h (λ f. i32_reads.within bytes e fits f) (λ x ok f.
    let t = i32_reads.takes bytes x fits ok in
    let s = shorter _ _ bytes x.1 t in
    bind_err (signed_at w32 x.1) _ e _ f (λ g. let z = i32_reads.within x.1 e t.left g in omega arith) (λ y ok' g. let z = known_err _ rule.Limit x.1 y.1 e g in omega arith))

carrier_takes : (sizes : List ℕ) (tag : ℕ) (bytes : List ℕ) (x : Carrier × List ℕ) → tag < 3 → IsBytes bytes
    → tagged_at sizes tag bytes ≡ Ok x → Took (Spelling.carrier_bytes x.0) (fits_carrier sizes x.0) (tag ∷ bytes) x.1
carrier_takes sizes zero bytes x lt fits h =
    subst (λ (y : Carrier × List ℕ). Took (Spelling.carrier_bytes y.0) (fits_carrier sizes y.0) (0 ∷ bytes) y.1) (ok_is (carrier.Bool, bytes) x h) (record { parts = refl; left = fits; fits = refl })
carrier_takes sizes (suc zero) bytes x lt fits h =
    let t = enum_reads sizes bytes x fits h in
    subst (λ (c : Carrier). Took (Spelling.carrier_bytes c) (fits_carrier sizes c) (1 ∷ bytes) x.1) (sym t.1)
    (record { parts = ap (λ (r : List ℕ). 1 ∷ r) t.2.parts; left = t.2.left; fits = t.2.fits })
carrier_takes sizes (suc (suc zero)) bytes x lt fits h =
    let t = range_reads bytes x fits h in
    subst (λ (c : Carrier). Took (Spelling.carrier_bytes c) (fits_carrier sizes c) (2 ∷ bytes) x.1) (sym t.1)
    (record { parts = ap (λ (r : List ℕ). 2 ∷ r) t.2.parts; left = t.2.left; fits = t.2.fits })
carrier_takes sizes (suc (suc (suc n))) bytes x lt fits h = absurd (omega arith)

enum_at_again : (sizes : List ℕ) (e : Enumeration) (rest : List ℕ) → fits_carrier sizes (carrier.Enum e) ≡ true → enum_at sizes (e.sort ∷ rest) ≡ Ok (carrier.Enum e, rest)
enum_at_again sizes e rest h = let two = and_parts (is_byte e.sort) (e.count == enumerator_count sizes e.sort) h in enum_read e sizes (e.sort ∷ rest) rest refl (sym (eqb-true _ _ two.1))

range_at_again : (r : Range) (rest : List ℕ) → are_bounds r.low r.high ≡ true → range_at (Spelling.bounds r.low r.high ++ rest) ≡ Ok (carrier.Range r, rest)
range_at_again r rest h =
    let p = and_parts (is_i32 r.low && is_i32 r.high) (int_le r.low r.high) h in
    let q = and_parts (is_i32 r.low) (is_i32 r.high) p.0 in
    ranges (carrier.Range r) r.low r.high (Spelling.bounds r.low r.high ++ rest) (Spelling.i32 r.high ++ rest) rest (refl, refl)
    (ap (signed_at w32) (append_assoc (Spelling.i32 r.low) (Spelling.i32 r.high) rest) ∙ i32_reads.again r.low (Spelling.i32 r.high ++ rest) q.0) (i32_reads.again r.high rest q.1)

carrier_again : (sizes : List ℕ) (c : Carrier) (rest : List ℕ) → fits_carrier sizes c ≡ true → carrier_at sizes (Spelling.carrier_bytes c ++ rest) ≡ Ok (c, rest)
unfolding carrier_at
carrier_again sizes carrier.Bool rest h = let e : between_at 0 3 (0 ∷ rest) ≡ Ok (0, rest) = (between_reads 0 3).again 0 rest refl in rw e refl
carrier_again sizes (carrier.Enum e) rest h =
    let t : between_at 0 3 (1 ∷ (e.sort ∷ rest)) ≡ Ok (1, e.sort ∷ rest) = (between_reads 0 3).again 1 (e.sort ∷ rest) refl in rw t (enum_at_again sizes e rest h)
carrier_again sizes (carrier.Range r) rest h =
    let t : between_at 0 3 (2 ∷ (Spelling.bounds r.low r.high ++ rest)) ≡ Ok (2, Spelling.bounds r.low r.high ++ rest) =
    (between_reads 0 3).again 2 (Spelling.bounds r.low r.high ++ rest) refl in rw t (range_at_again r rest h)

tagged_within : (sizes : List ℕ) (tag : ℕ) (bytes : List ℕ) (e : FieldFault) → IsBytes bytes → tagged_at sizes tag bytes ≡ Err e → e.left ≤ length bytes
tagged_within sizes zero bytes e fits h = absurd cc
tagged_within sizes (suc zero) bytes e fits h = enum_within sizes bytes e fits h
tagged_within sizes (suc (suc n)) bytes e fits h = range_within bytes e fits h

pub carrier_reads : (sizes : List ℕ) → Reads (carrier_at sizes) Spelling.carrier_bytes (fits_carrier sizes)
unfolding carrier_at
carrier_reads sizes = record {
  takes = λ bytes x fits h.
      let a = bind_ok (between_at 0 3 bytes) (λ tag. tagged_at sizes tag.0 tag.1) x h in
      let t = (between_reads 0 3).takes bytes a.0 fits a.1 in
      let lt = ltb-true _ _ (and_parts (nat_le 0 a.0.0) (nat_lt a.0.0 3) (and_parts (is_byte a.0.0) (is_between 0 3 a.0.0) t.fits).1).1 in
      subst (λ (bs : List ℕ). Took (Spelling.carrier_bytes x.0) (fits_carrier sizes x.0) bs x.1) (sym t.parts) (carrier_takes sizes a.0.0 a.0.1 x lt t.left a.2);
  again = carrier_again sizes;
  within = λ bytes e fits h.
      bind_err (between_at 0 3 bytes) (λ tag. tagged_at sizes tag.0 tag.1) e _ h
      (λ f. (between_reads 0 3).within bytes e fits f)
      (λ x ok f. let t = (between_reads 0 3).takes bytes x fits ok in let s = shorter _ _ bytes x.1 t in let w = tagged_within sizes x.0 x.1 e t.left f in omega arith);
}
