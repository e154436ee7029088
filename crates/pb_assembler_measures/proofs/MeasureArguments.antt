-- Arguments, measured one in front of the others.
use Rattle.std.proofs.Common.{◌≡◌, ℕ, zero, suc, ◌<◌, false, ◌||◌, List, [], ◌∷◌, length, map, get_or, drop, refl, sym, ap, arith}
use Rattle.std.specs.Prelude.{is_some}
use Rattle.std.specs.List.{slice_get}
use Rattle.pb_sorts.specs.declared.carrier.Carrier.{Carrier}
use Rattle.pb_typing_tree.specs.declared.formula.Argument.{Argument}
use Rattle.pb_normal.specs.View.{argument_view, term_view}
use Rattle.pb_assembler_scheme.specs.Scheme.{any_tested, tested_range}
use Rattle.pb_assembler_measures.specs.MeasureTerms.{term_load}
use Rattle.pb_assembler_measures.specs.MeasureFormulas.{arguments_load, argument_load, is_tested, nothing}

untested_step : (xs : List Argument) (k : ℕ) (x : Argument) → k < length xs → x ≡ get_or xs k x
    → arguments_load [] (map argument_view (drop k xs)) ≡ argument_load false false (term_load (term_view x.term)) (arguments_load [] (map argument_view (drop (suc k) xs)))
untested_step [] k x l e = absurd (omega arith)
untested_step (y ∷ ys) zero x l e = ap (λ (z : Argument). argument_load false false (term_load (term_view z.term)) (arguments_load [] (map argument_view ys))) (sym e)
untested_step (y ∷ ys) (suc k) x l e = untested_step ys k x (omega arith) e

pub argument_step : (cs : List Carrier) (xs : List Argument) (k : ℕ) (x : Argument) → k < length xs → x ≡ get_or xs k x
    → arguments_load (drop k cs) (map argument_view (drop k xs))
    ≡ argument_load (is_tested (slice_get cs k) (argument_view x).shape)
    (any_tested (drop (suc k) cs) (map argument_view (drop (suc k) xs))) (term_load (term_view x.term))
    (arguments_load (drop (suc k) cs) (map argument_view (drop (suc k) xs)))
argument_step cs [] k x l e = absurd (omega arith)
argument_step [] (y ∷ ys) zero x l e = ap (λ (z : Argument). argument_load false false (term_load (term_view z.term)) (arguments_load [] (map argument_view ys))) (sym e)
argument_step (c ∷ cs) (y ∷ ys) zero x l e =
    ap (λ (z : Argument). argument_load (is_some (tested_range c (argument_view z).shape))
    (any_tested cs (map argument_view ys)) (term_load (term_view z.term)) (arguments_load cs (map argument_view ys))) (sym e)
argument_step [] (y ∷ ys) (suc k) x l e = untested_step ys k x (omega arith) e
argument_step (c ∷ cs) (y ∷ ys) (suc k) x l e = argument_step cs ys k x (omega arith) e

pub tested_step : (cs : List Carrier) (xs : List Argument) (k : ℕ) (x : Argument) → k < length xs → x ≡ get_or xs k x
    → any_tested (drop k cs) (map argument_view (drop k xs)) ≡ (is_tested (slice_get cs k) (argument_view x).shape || any_tested (drop (suc k) cs) (map argument_view (drop (suc k) xs)))
tested_step cs [] k x l e = absurd (omega arith)
tested_step [] (y ∷ ys) zero x l e = refl
tested_step (c ∷ cs) (y ∷ ys) zero x l e = ap (λ (z : Argument). is_some (tested_range c (argument_view z).shape) || any_tested cs (map argument_view ys)) (sym e)
tested_step [] (y ∷ ys) (suc k) x l e = refl
tested_step (c ∷ cs) (y ∷ ys) (suc k) x l e = tested_step cs ys k x (omega arith) e

pub no_arguments : (cs : List Carrier) (xs : List Argument) (k : ℕ) → k ≡ length xs → map argument_view (drop k xs) ≡ []
no_arguments cs [] k e = none k
  where
    none : (k : ℕ) → map argument_view (drop k []) ≡ []
    none zero = refl
    none (suc k) = refl
no_arguments cs (x ∷ xs) zero e = absurd (omega arith)
no_arguments cs (x ∷ xs) (suc k) e = no_arguments cs xs k (omega arith)

pub none_tested : (cs : List Carrier) → any_tested cs [] ≡ false
none_tested [] = refl
none_tested (c ∷ cs) = refl

pub none_loaded : (cs : List Carrier) → arguments_load cs [] ≡ nothing
none_loaded [] = refl
none_loaded (c ∷ cs) = refl
