-- Where a limit isn't passed, and nothing before it did so.
use Rattle.std.proofs.Common.{◌≡◌, ℕ, suc, ◌≤◌, Bool, ◌||◌, sym, ◌∙◌, ap, inl, inr, arith}
use Rattle.std.specs.Prelude.{nat_le, nat_lt}
use Rattle.std.proofs.lemmas.Bool.{cases_lt, le-ltb, lt-ltb, le-leb, lt-leb}
use Rattle.pb_typing_declarations.specs.Declarations.{stays_within}

pub stays : (limit before counted : ℕ) → before ≤ limit → stays_within limit before counted ≡ nat_le counted limit
stays limit before counted low = ap (λ (b : Bool). b || nat_le counted limit) (le-ltb limit before low)

pub one_more_stays : (limit n : ℕ) → n ≤ limit → stays_within limit n (suc n) ≡ nat_lt n limit
one_more_stays limit n low = stays limit n (suc n) low ∙ elim (cases_lt n limit) [
  | inl less ↦ le-leb (suc n) limit (omega arith) ∙ sym (lt-ltb n limit less)
  | inr more ↦ lt-leb (suc n) limit (omega arith) ∙ sym (le-ltb n limit more)
]
