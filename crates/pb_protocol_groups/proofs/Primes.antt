-- Names with primes behind them.
use Rattle.std.proofs.Common.{◌≡◌, ℕ, zero, suc, ◌+◌, true, List, [], ◌∷◌, ◌++◌, length, refl, ap, ◌∙◌, append_assoc, arith}
use Rattle.std.specs.Prelude.{max}
use Rattle.std.specs.List.{list_all}
use Rattle.std.proofs.lemmas.List.{append-nil}
use Rattle.pb_base.specs.Names.{is_spelled, is_name_byte}
use Rattle.pb_text_meaning.specs.Syntax.{Name}
use Rattle.pb_model_translation.specs.Names.{primes, longest}
use Rattle.pb_model_translation.proofs.NumberedNames.{primed-spelled}

primes-push : (k : ℕ) → primes k ++ (39 ∷ []) ≡ primes (suc k)
primes-push zero = refl
primes-push (suc k) = ap (λ (bs : Name). 39 ∷ bs) (primes-push k)

pub primes_more : (x : Name) (k : ℕ) → (x ++ primes (suc k)) ++ (39 ∷ []) ≡ x ++ primes (suc (k + 1))
primes_more x k =
    append_assoc x (primes (suc k)) (39 ∷ []) ∙ ap (λ (bs : Name). x ++ bs) (primes-push (suc k) ∙ ap (λ (n : ℕ). primes (suc n)) (let e : suc k ≡ k + 1 = omega arith in e))

pub longest_append : (xs ys : List Name) → longest (xs ++ ys) ≡ max (longest xs) (longest ys)
longest_append [] ys = omega arith
longest_append (x ∷ xs) ys = ap (max (length x)) (longest_append xs ys) ∙ omega arith

primes-bytes : (k : ℕ) → list_all is_name_byte (primes k) ≡ true
primes-bytes zero = refl
primes-bytes (suc k) = primes-bytes k

pub primes-spelled : (x : Name) (k : ℕ) → is_spelled x ≡ true → is_spelled (x ++ primes k) ≡ true
primes-spelled x zero h = ap is_spelled (append-nil x) ∙ h
primes-spelled x (suc k) h = primed-spelled x (primes k) h (primes-bytes k)
