-- Laws of reading fields: what is read is spelled so, what is spelled so is read, and a fault stands within the input.
use Rattle.std.proofs.Common.{◌≡◌, ℕ, zero, suc, ◌<◌, ◌≤◌, Bool, true, false, cond, ◌&&◌, List, [], ◌∷◌, ◌++◌, length, get_or, Option, Some, None, Result, Ok, Err, refl, sym, ap, subst, ◌∙◌, append_assoc, length-append, append-nil, arith}
use Rattle.std.specs.List.{flat_map, list_all}
use Rattle.std.proofs.lemmas.Bool.{and_parts, and_from}
use Rattle.std.proofs.lemmas.List.Concat.{flat_map-cons}
use Rattle.std.proofs.Math.Bool.{and-true}
use Rattle.pb_bytecode.specs.declared.fault.FieldFault.{FieldFault}
use Rattle.pb_bytecode.specs.declared.fault.ModuleRule.{ModuleRule}
use Rattle.pb_bytecode.specs.Reading.{◌>>=◌, Field, known, checked, kept, items_at}

abbrev pub IsBytes : List ℕ → Type 0
IsBytes bytes = (i : ℕ) → get_or bytes i 0 < 256

pub IsBytes-append : (xs ys : List ℕ) → IsBytes (xs ++ ys) → IsBytes ys
IsBytes-append [] ys h = h
IsBytes-append (x ∷ xs) ys h = IsBytes-append xs ys (λ i. h (suc i))

-- the value of a step that did not fail, and the fault of one that did or of the next
pub bind_ok : {A B : Type 0} (r : Result A FieldFault) (f : A → Result B FieldFault) (y : B) → (r >>= f) ≡ Ok y → (x : A) × (r ≡ Ok x) × (f x ≡ Ok y)
bind_ok (Ok x) f y e = (x, refl, e)
bind_ok (Err d) f y e = absurd cc

pub bind_err : {A B : Type 0} (r : Result A FieldFault) (f : A → Result B FieldFault) (e : FieldFault) (P : Type 0) → (r >>= f) ≡ Err e → (r ≡ Err e → P) → ((x : A) → r ≡ Ok x → f x ≡ Err e → P) → P
bind_err (Ok x) f e P h p q = q x refl h
bind_err (Err d) f e P h p q = p (let same : d ≡ e = cc in ap (λ k. Err k) same)

abbrev done : {A : Type 0} → A → Result A FieldFault
done x = Ok x

pub ok_is : {A : Type 0} (x y : A) → done x ≡ done y → x ≡ y
ok_is x y e = cc

-- what was taken from the front of the bytes, with a test that it passes
pub record Took (text : List ℕ) (test : Bool) (bytes rest : List ℕ) : Type 0 where
  pub parts : bytes ≡ text ++ rest
  pub left : IsBytes rest
  pub fits : test ≡ true

pub shorter : (text : List ℕ) (test : Bool) (bytes rest : List ℕ) → Took text test bytes rest → length rest ≤ length bytes
shorter text test bytes rest t = omega (arith, ap length t.parts, length-append text rest)

-- a reader of values that pass the test, each with one spelling
pub record Reads {A : Type 0} (read : List ℕ → Field A) (spell : A → List ℕ) (test : A → Bool) : Type 0 where
  pub takes : (bytes : List ℕ) (x : A × List ℕ) → IsBytes bytes → read bytes ≡ Ok x → Took (spell x.0) (test x.0) bytes x.1
  pub again : (a : A) (rest : List ℕ) → test a ≡ true → read (spell a ++ rest) ≡ Ok (a, rest)
  pub within : (bytes : List ℕ) (e : FieldFault) → IsBytes bytes → read bytes ≡ Err e → e.left ≤ length bytes

-- the same for the rest of a value, a part of which is known
pub record ReadsIn {B C : Type 0} (read : C → List ℕ → Field B) (part : B → C) (spell : B → List ℕ) (test : B → Bool) : Type 0 where
  pub takes : (c : C) (bytes : List ℕ) (x : B × List ℕ) → IsBytes bytes → read c bytes ≡ Ok x → (part x.0 ≡ c) × Took (spell x.0) (test x.0) bytes x.1
  pub again : (b : B) (rest : List ℕ) → test b ≡ true → read (part b) (spell b ++ rest) ≡ Ok (b, rest)
  pub within : (c : C) (bytes : List ℕ) (e : FieldFault) → IsBytes bytes → read c bytes ≡ Err e → e.left ≤ length bytes

-- nothing is left to read
pub finish : {B C : Type 0} (make : C → B) (part : B → C) → ((b : B) → make (part b) ≡ b) → ((c : C) → part (make c) ≡ c) → ReadsIn (λ c bytes. Ok (make c, bytes)) part (λ b. []) (λ b. true)
finish {B} {C} make part back forth = record {
  takes = λ c bytes x fits e.
      subst (λ (y : B × List ℕ). (part y.0 ≡ c) × Took [] true bytes y.1) (ok_is (make c, bytes) x e) (forth c, record { parts = refl; left = fits; fits = refl });
  again = λ b rest t. ap (λ (y : B). Ok (y, rest)) (back b);
  within = λ c bytes e fits h. absurd cc;
}

-- one field, and then the rest
pub then : {A B C : Type 0} (read : C → List ℕ → Field A) (spell : C → A → List ℕ) (test : C → A → Bool)
    (next : C × A → List ℕ → Field B) (part : B → C) (field : B → A) (spell' : B → List ℕ) (test' : B → Bool)
    → ((c : C) → Reads (read c) (spell c) (test c)) → ReadsIn next (λ b. (part b, field b)) spell' test'
    → ReadsIn (λ c bytes. read c bytes >>= λ x. next (c, x.0) x.1) part (λ b. spell (part b) (field b) ++ spell' b) (λ b. test (part b) (field b) && test' b)
then {A} {B} {C} read spell test next part field spell' test' first second = record {
  takes = λ c bytes y fits e.
      let a = bind_ok (read c bytes) (λ x. next (c, x.0) x.1) y e in
      let t = (first c).takes bytes a.0 fits a.1 in
      let u = second.takes (c, a.0.0) a.0.1 y t.left a.2 in
      let p : part y.0 ≡ c = ap (λ (k : C × A). k.0) u.0 in
      let f : field y.0 ≡ a.0.0 = ap (λ (k : C × A). k.1) u.0 in
      let t' : Took (spell (part y.0) (field y.0)) (test (part y.0) (field y.0)) bytes a.0.1 = rw (p, f) t in (
        p,
        record {
          parts = t'.parts ∙ ap (λ (r : List ℕ). spell (part y.0) (field y.0) ++ r) (u.1.parts) ∙ sym (append_assoc (spell (part y.0) (field y.0)) (spell' y.0) y.1);
          left = u.1.left;
          fits = and_from _ _ t'.fits u.1.fits;
        },
      );
  again = λ b rest h.
      let two = and_parts (test (part b) (field b)) (test' b) h in
      let one : read (part b) (spell (part b) (field b) ++ (spell' b ++ rest)) ≡ Ok (field b, spell' b ++ rest) = (first (part b)).again (field b) (spell' b ++ rest) two.0 in
      ap (λ (bs : List ℕ). read (part b) bs >>= λ x. next (part b, x.0) x.1) (append_assoc (spell (part b) (field b)) (spell' b) rest) ∙ rw one (second.again b rest two.1);
  within = λ c bytes e fits h.
      bind_err (read c bytes) (λ x. next (c, x.0) x.1) e _ h
      (λ f. (first c).within bytes e fits f)
      (λ x ok f. let t = (first c).takes bytes x fits ok in let s = shorter _ _ bytes x.1 t in let w = second.within (c, x.0) x.1 e t.left f in omega arith);
}

-- from no part at all
pub close : {B : Type 0} (read : Unit {0} → List ℕ → Field B) (spell : B → List ℕ) (test : B → Bool) → ReadsIn read (λ b. tt) spell test → Reads (read tt) spell test
close read spell test r = record {
  takes = λ bytes x fits e. (r.takes tt bytes x fits e).1;
  again = r.again;
  within = r.within tt;
}

-- the same, where two tests agree
pub same_test : {A : Type 0} (read : List ℕ → Field A) (spell : A → List ℕ) (test test' : A → Bool)
    → ((a : A) → test a ≡ true → test' a ≡ true) → ((a : A) → test' a ≡ true → test a ≡ true) → Reads read spell test
    → Reads read spell test'
same_test read spell test test' to from r = record {
  takes = λ bytes x fits e. let t = r.takes bytes x fits e in record { parts = t.parts; left = t.left; fits = to x.0 t.fits };
  again = λ a rest h. r.again a rest (from a h);
  within = r.within;
}

-- a field whose value has to be one that f knows
pub known_ok : {A : Type 0} (o : Option A) (r : ModuleRule) (field rest : List ℕ) (x : A × List ℕ) → known o r field rest ≡ Ok x → (o ≡ Some x.0) × (x.1 ≡ rest)
known_ok None r field rest x e = absurd cc
known_ok {A} (Some a) r field rest x e =
    let s = ok_is (a, rest) x e in (ap (λ (y : A × List ℕ). Some y.0) s, sym (ap (λ (y : A × List ℕ). y.1) s))

pub known_err : {A : Type 0} (o : Option A) (r : ModuleRule) (field rest : List ℕ) (e : FieldFault) → known o r field rest ≡ Err e → e.left ≡ length field
known_err None r field rest e h =
    let s : record { rule = r; left = length field } ≡ e = cc in sym (ap (λ (f : FieldFault). f.left) s)
known_err (Some a) r field rest e h = absurd cc

pub check : {A B : Type 0} (read : List ℕ → Field A) (spell : A → List ℕ) (test : A → Bool) (f : A → Option B) (r : ModuleRule) (back : B → A) (test' : B → Bool)
    → ((a : A) (b : B) → f a ≡ Some b → (back b ≡ a) × (test' b ≡ true)) → ((b : B) → test' b ≡ true → f (back b) ≡ Some b)
    → Reads read spell test → Reads (checked read f r) (λ b. spell (back b)) (λ b. test (back b) && test' b)
check {A} {B} read spell test f r back test' sound complete reads = record {
  takes = λ bytes y fits e.
      let a = bind_ok (read bytes) (λ x. known (f x.0) r bytes x.1) y e in
      let k = known_ok (f a.0.0) r bytes a.0.1 y a.2 in
      let s = sound a.0.0 y.0 k.0 in
      let t = reads.takes bytes a.0 fits a.1 in
      let t1 : Took (spell (back y.0)) (test (back y.0)) bytes a.0.1 = subst (λ (v : A). Took (spell v) (test v) bytes a.0.1) (sym s.0) t in
      let t' : Took (spell (back y.0)) (test (back y.0)) bytes y.1 = subst (λ (v : List ℕ). Took (spell (back y.0)) (test (back y.0)) bytes v) (sym k.1) t1 in
      record { parts = t'.parts; left = t'.left; fits = and_from _ _ t'.fits s.1 };
  again = λ b rest h.
      let two = and_parts (test (back b)) (test' b) h in
      rw (reads.again (back b) rest two.0, complete b two.1) refl;
  within = λ bytes e fits h.
      bind_err (read bytes) (λ x. known (f x.0) r bytes x.1) e _ h
      (λ g. reads.within bytes e fits g)
      (λ x ok g. let w = known_err (f x.0) r bytes x.1 e g in omega arith);
}

kept_ok : {A : Type 0} (test : A → Bool) (a b : A) → kept test a ≡ Some b → (b ≡ a) × (test b ≡ true)
kept_ok {A} test a b e = by (test a) refl e
  where
    by : (t : Bool) → test a ≡ t → cond t (Some a) None ≡ Some b → (b ≡ a) × (test b ≡ true)
    by true t h = let same : b ≡ a = cc in (same, ap test same ∙ t)
    by false t h = absurd cc

-- a field whose value has to pass a test
pub keep : {A : Type 0} (read : List ℕ → Field A) (spell : A → List ℕ) (test : A → Bool) (f : A → Bool) (r : ModuleRule)
    → Reads read spell test → Reads (checked read (kept f) r) spell (λ a. test a && f a)
keep read spell test f r reads = check read spell test (kept f) r (λ a. a) f (kept_ok f) (λ a h. rw h refl) reads

-- as many items as are known
pub items : {A : Type 0} (item : List ℕ → Field A) (spell : A → List ℕ) (test : A → Bool) → Reads item spell test → ReadsIn (items_at item) (λ xs. length xs) (flat_map spell) (list_all test)
items {A} item spell test reads = record { takes = item_takes; again = item_again; within = item_within }
  where
    item_takes : (n : ℕ) (bytes : List ℕ) (x : List A × List ℕ) → IsBytes bytes → items_at item n bytes ≡ Ok x → (length x.0 ≡ n) × Took (flat_map spell x.0) (list_all test x.0) bytes x.1
    item_takes zero bytes x fits e =
        subst (λ (y : List A × List ℕ). (length y.0 ≡ 0) × Took (flat_map spell y.0) (list_all test y.0) bytes y.1) (ok_is ([], bytes) x e) (refl, record { parts = refl; left = fits; fits = refl })
    item_takes (suc n) bytes x fits e =
        let a = bind_ok (item bytes) (λ first. items_at item n first.1 >>= λ others. Ok (first.0 ∷ others.0, others.1)) x e in
        let b = bind_ok (items_at item n a.0.1) (λ others. Ok (a.0.0 ∷ others.0, others.1)) x a.2 in
        let t = reads.takes bytes a.0 fits a.1 in
        let u = item_takes n a.0.1 b.0 t.left b.1 in
        let whole : bytes ≡ (spell a.0.0 ++ flat_map spell b.0.0) ++ b.0.1 =
        t.parts ∙ ap (λ (r : List ℕ). spell a.0.0 ++ r) u.1.parts ∙ sym (append_assoc (spell a.0.0) (flat_map spell b.0.0) b.0.1) in
        subst (λ (y : List A × List ℕ). (length y.0 ≡ suc n) × Took (flat_map spell y.0) (list_all test y.0) bytes y.1) (ok_is (a.0.0 ∷ b.0.0, b.0.1) x b.2)
        (ap suc u.0, record { parts = rw flat_map-cons whole; left = u.1.left; fits = and_from _ _ t.fits u.1.fits })

    item_again : (xs : List A) (rest : List ℕ) → list_all test xs ≡ true → items_at item (length xs) (flat_map spell xs ++ rest) ≡ Ok (xs, rest)
    item_again [] rest h = refl
    item_again (x ∷ xs) rest h =
        let two = and_parts (test x) (list_all test xs) h in
        let regrouped : flat_map spell (x ∷ xs) ++ rest ≡ spell x ++ (flat_map spell xs ++ rest) =
        ap (λ (r : List ℕ). r ++ rest) (flat_map-cons spell x xs) ∙ append_assoc (spell x) (flat_map spell xs) rest in
        ap (items_at item (suc (length xs))) regrouped ∙ rw (reads.again x (flat_map spell xs ++ rest) two.0, item_again xs rest two.1) refl

    item_within : (n : ℕ) (bytes : List ℕ) (e : FieldFault) → IsBytes bytes → items_at item n bytes ≡ Err e → e.left ≤ length bytes
    item_within zero bytes e fits h = absurd cc
    item_within (suc n) bytes e fits h =
        bind_err (item bytes) (λ first. items_at item n first.1 >>= λ others. Ok (first.0 ∷ others.0, others.1)) e _ h
        (λ f. reads.within bytes e fits f)
        (λ x ok f.
        let t = reads.takes bytes x fits ok in
        let s = shorter _ _ bytes x.1 t in
        bind_err (items_at item n x.1) (λ others. Ok (x.0 ∷ others.0, others.1)) e _ f
        (λ g. let w = item_within n x.1 e t.left g in omega arith)
        (λ y ok' g. absurd cc))

-- the last field
pub last : {A B C : Type 0} (read : C → List ℕ → Field A) (spell : C → A → List ℕ) (test : C → A → Bool) (make : C × A → B) (part : B → C) (field : B → A)
    → ((b : B) → make (part b, field b) ≡ b) → ((c : C × A) → (part (make c), field (make c)) ≡ c)
    → ((c : C) → Reads (read c) (spell c) (test c))
    → ReadsIn (λ c bytes. read c bytes >>= λ x. Ok (make (c, x.0), x.1)) part (λ b. spell (part b) (field b)) (λ b. test (part b) (field b))
last {A} {B} {C} read spell test make part field back forth first =
    let r = then read spell test (λ c bytes. Ok (make c, bytes)) part field (λ b. []) (λ b. true) first (finish make (λ b. (part b, field b)) back forth) in
    record {
      takes = λ c bytes x fits e.
          let t = r.takes c bytes x fits e in
          (t.0, record { parts = t.1.parts ∙ ap (λ (z : List ℕ). z ++ x.1) (append-nil (spell (part x.0) (field x.0))); left = t.1.left; fits = sym (and-true _) ∙ t.1.fits });
      again = λ b rest h. ap (λ (z : List ℕ). read (part b) (z ++ rest) >>= λ x. Ok (make (part b, x.0), x.1)) (sym (append-nil (spell (part b) (field b)))) ∙ r.again b rest (and-true _ ∙ h);
      within = r.within;
    }

-- the same reader, where spellings and tests agree
pub reshaped : {A : Type 0} (read : List ℕ → Field A) (spell spell' : A → List ℕ) (test test' : A → Bool)
    → ((a : A) → spell a ≡ spell' a) → ((a : A) → test a ≡ true → test' a ≡ true)
    → ((a : A) → test' a ≡ true → test a ≡ true) → Reads read spell test → Reads read spell' test'
reshaped read spell spell' test test' same to from r = record {
  takes = λ bytes x fits e. let t = r.takes bytes x fits e in record { parts = t.parts ∙ ap (λ (z : List ℕ). z ++ x.1) (same x.0); left = t.left; fits = to x.0 t.fits };
  again = λ a rest h. ap (λ (z : List ℕ). read (z ++ rest)) (sym (same a)) ∙ r.again a rest (from a h);
  within = r.within;
}

-- a test of what was read, whose fault stands behind it
pub after : {A : Type 0} (read : List ℕ → Field A) (spell : A → List ℕ) (test : A → Bool) (f : A → Bool)
    (r : ModuleRule) → Reads read spell test → Reads (λ bytes. read bytes >>= λ x. known (kept f x.0) r x.1 x.1) spell (λ a. test a && f a)
after {A} read spell test f r reads = record {
  takes = λ bytes y fits e.
      let a = bind_ok (read bytes) (λ x. known (kept f x.0) r x.1 x.1) y e in
      let k = known_ok (kept f a.0.0) r a.0.1 a.0.1 y a.2 in
      let s = kept_ok f a.0.0 y.0 k.0 in
      let t = reads.takes bytes a.0 fits a.1 in
      let t1 : Took (spell y.0) (test y.0) bytes a.0.1 = subst (λ (v : A). Took (spell v) (test v) bytes a.0.1) (sym s.0) t in
      let t' : Took (spell y.0) (test y.0) bytes y.1 = subst (λ (v : List ℕ). Took (spell y.0) (test y.0) bytes v) (sym k.1) t1 in
      record { parts = t'.parts; left = t'.left; fits = and_from _ _ t'.fits s.1 };
  again = λ b rest h.
      let two = and_parts (test b) (f b) h in
      rw (reads.again b rest two.0, two.1) refl;
  within = λ bytes e fits h.
      bind_err (read bytes) (λ x. known (kept f x.0) r x.1 x.1) e _ h
      (λ g. reads.within bytes e fits g)
      (λ x ok g. let w = known_err (kept f x.0) r x.1 x.1 e g in let t = reads.takes bytes x fits ok in let s = shorter _ _ bytes x.1 t in omega arith);
}
