-- Numbers with commas between them.
use Rattle.std.proofs.Common.{◌≡◌, ℕ, ◌+◌, ◌-◌, ◌<◌, List, [], ◌∷◌, ◌++◌, length, get_or, take, drop, decimal, ap, arith}
use Rattle.std.proofs.lemmas.List.{drop_more, take_all}
use Rattle.pb_report.specs.GameText.{item, more_numbers, numbers_text}

pub first_number : (ns : List ℕ) → 0 < length ns → decimal (get_or ns 0 0) ++ more_numbers (take (length ns - 1) (drop 1 ns)) ≡ numbers_text ns
first_number [] l = absurd (omega arith)
first_number (n ∷ ns) l = ap (λ (xs : List ℕ). decimal n ++ more_numbers xs) (take_all (length (n ∷ ns) - 1) ns (omega arith))

-- of the numbers from k on, the first one and the others
pub next_number : (ns : List ℕ) (k : ℕ) → k < length ns → more_numbers (drop k ns) ≡ item (get_or ns k 0) ++ more_numbers (drop (k + 1) ns)
next_number ns k l = ap more_numbers (drop_more ns k 0 l)
