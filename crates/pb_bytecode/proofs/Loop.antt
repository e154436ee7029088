-- Reading items one after the other, as a loop does.
use Rattle.std.proofs.Common.{◌≡◌, ℕ, suc, ◌-◌, ◌+◌, ◌≤◌, ◌<◌, List, [], ◌∷◌, ◌++◌, Ok, Err, refl, sym, ap, ◌∙◌, append_assoc, arith}
use Rattle.std.proofs.lemmas.List.{append-nil}
use Rattle.pb_bytecode.specs.declared.fault.FieldFault.{FieldFault}
use Rattle.pb_base.specs.OrMemory.{IfFault}
use Rattle.pb_base.specs.declared.or_memory.OrMemory.{OrMemory}
use Rattle.pb_base.specs.declared.or_memory.OrMemory.TheVariants as errors
use Rattle.pb_bytecode.specs.Reading.{◌>>=◌, Field, items_at}

-- what was read before, and what is still read
abbrev pub with_front : {A : Type 0} → List A → Field (List A) → Field (List A)
with_front front read = read >>= λ x. Ok (front ++ x.0, x.1)

pub regroup : {A : Type 0} (front : List A) (a : A) (read : Field (List A)) → with_front front (read >>= λ x. Ok (a ∷ x.0, x.1)) ≡ with_front (front ++ a ∷ []) read
regroup {A} front a (Ok x) = ap (λ (ns : List A). Ok (ns, x.1)) (sym (append_assoc front (a ∷ []) x.0))
regroup front a (Err f) = refl

module _ {A : Type 0} (item : List ℕ → Field A) where
  pub goes_on : (front : List A) (count i : ℕ) (bytes : List ℕ) (a : A) (after : List ℕ) (total : Field (List A)) → i < count → item bytes ≡ Ok (a, after)
      → with_front front (items_at item (count - i) bytes) ≡ total → with_front (front ++ a ∷ []) (items_at item (count - (i + 1)) after) ≡ total
  goes_on front count i bytes a after total lt h so_far =
      let k : count - i ≡ suc (count - (i + 1)) = omega arith in
      let one : with_front front (items_at item (count - i) bytes)
      ≡ with_front (front ++ a ∷ []) (items_at item (count - (i + 1)) after) =
      rw (k, h) (regroup front a (items_at item (count - (i + 1)) after)) in
      sym one ∙ so_far

  pub stops : (f : FieldFault) (front : List A) (count i : ℕ) (bytes : List ℕ) (total : Field (List A)) → i < count → item bytes ≡ Err f
      → with_front front (items_at item (count - i) bytes) ≡ total → total ≡ Err f
  stops f front count i bytes total lt h so_far =
      let k : count - i ≡ suc (count - (i + 1)) = omega arith in
      let one : with_front front (items_at item (count - i) bytes) ≡ Err f = rw (k, h) refl in
      sym so_far ∙ one

  pub ends : (e : OrMemory FieldFault) (front : List A) (count i : ℕ) (bytes : List ℕ) (total : Field (List A)) → i < count → IfFault e (λ f. item bytes ≡ Err f)
      → with_front front (items_at item (count - i) bytes) ≡ total → IfFault e (λ f. total ≡ Err f)
  ends errors.Memory front count i bytes total lt h so_far = tt
  ends (errors.Refused f) front count i bytes total lt h so_far = stops f front count i bytes total lt h so_far

  pub is_done : (front : List A) (count i : ℕ) (bytes : List ℕ) (total : Field (List A)) → count ≤ i → with_front front (items_at item (count - i) bytes) ≡ total → total ≡ Ok (front, bytes)
  is_done front count i bytes total le so_far =
      let k : count - i ≡ 0 = omega arith in
      let one : with_front front (items_at item (count - i) bytes) ≡ Ok (front, bytes) = rw k (ap (λ (ns : List A). Ok (ns, bytes)) (append-nil front)) in
      sym so_far ∙ one

  pub begins : (count : ℕ) (bytes : List ℕ) → with_front [] (items_at item (count - 0) bytes) ≡ items_at item count bytes
  begins count bytes = let z : count - 0 ≡ count = omega arith in rw z (same (items_at item count bytes))
    where
      same : (read : Field (List A)) → with_front [] read ≡ read
      same (Ok x) = refl
      same (Err f) = refl
