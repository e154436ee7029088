-- What is measured depends on the shapes of parameters alone.
use Rattle.std.proofs.Common.{◌≡◌, ℕ, zero, suc, Bool, cond, ◌||◌, List, [], ◌∷◌, map, Some, None, refl, ap, ◌∙◌}
use Rattle.std.specs.Prelude.{is_some, slice_get, ℤ}
use Rattle.pb_base_values.specs.Interval.{is_included}
use Rattle.pb_sorts.specs.declared.carrier.Carrier.{Carrier}
use Rattle.pb_sorts.specs.declared.carrier.Carrier.TheVariants as carriers
use Rattle.pb_typing_declarations.specs.Shapes.{Shape, Unknown, Truths, Places, Wholes}
use Rattle.pb_typing_declarations.specs.Entries.{carrier_shape}
use Rattle.pb_typing_rules.specs.Shapes.{between}
use Rattle.pb_fixpoint_trees.specs.declared.junction.Junction.{Junction}
use Rattle.pb_normal.specs.Normal.{Argument, Formula, Test, Join, Each, Call}
use Rattle.pb_normal.specs.View.{shapes_of}
use Rattle.pb_assembler_scheme.specs.Scheme.{junction_of, tested_range, any_tested, parameters, test_of}
use Rattle.pb_assembler_measures.specs.declared.measure_load.Load.{Load}
use Rattle.pb_assembler_measures.specs.declared.measure_tally.Tally.{Tally}
use Rattle.pb_assembler_measures.specs.MeasureTerms.{term_load}
use Rattle.pb_assembler_measures.specs.MeasureFormulas.{argument_load, arguments_load, ended_call, formula_tally, join_tally, looped, shape_size, under_tally}

tested_same : (c d : Carrier) (s : Shape) → carrier_shape (Some c) ≡ carrier_shape (Some d) → is_some (tested_range c s) ≡ is_some (tested_range d s)
tested_same carriers.Bool carriers.Bool s e = refl
tested_same carriers.Bool (carriers.Enum b) s e = refl
tested_same carriers.Bool (carriers.Range r) s e = cc
tested_same (carriers.Enum a) carriers.Bool s e = refl
tested_same (carriers.Enum a) (carriers.Enum b) s e = refl
tested_same (carriers.Enum a) (carriers.Range r) s e = cc
tested_same (carriers.Range q) carriers.Bool s e = cc
tested_same (carriers.Range q) (carriers.Enum b) s e = cc
tested_same (carriers.Range q) (carriers.Range r) Unknown e = refl
tested_same (carriers.Range q) (carriers.Range r) Truths e = refl
tested_same (carriers.Range q) (carriers.Range r) (Places n k) e = refl
tested_same (carriers.Range q) (carriers.Range r) (Wholes l h) e =
    let low : q.low ≡ r.low = cc in
    let high : q.high ≡ r.high = cc in
    ap (λ (z : ℤ). is_some {T = ℤ × ℤ} (cond (is_included (between l h) (between z q.high)) None (Some (z, q.high)))) low
    ∙ ap (λ (z : ℤ). is_some {T = ℤ × ℤ} (cond (is_included (between l h) (between r.low z)) None (Some (r.low, z)))) high

any_same : (cs ds : List Carrier) (xs : List Argument) → shapes_of cs ≡ shapes_of ds → any_tested cs xs ≡ any_tested ds xs
any_same [] [] xs e = refl
any_same [] (d ∷ ds) xs e = cc
any_same (c ∷ cs) [] xs e = cc
any_same (c ∷ cs) (d ∷ ds) [] e = refl
any_same (c ∷ cs) (d ∷ ds) (x ∷ xs) e =
    let here : carrier_shape (Some c) ≡ carrier_shape (Some d) = cc in
    let rest : shapes_of cs ≡ shapes_of ds = cc in
    ap (λ b. b || any_tested cs xs) (tested_same c d x.shape here) ∙ ap (λ b. is_some (tested_range d x.shape) || b) (any_same cs ds xs rest)

load_same : (cs ds : List Carrier) (xs : List Argument) → shapes_of cs ≡ shapes_of ds → arguments_load cs xs ≡ arguments_load ds xs
load_same [] [] xs e = refl
load_same [] (d ∷ ds) xs e = cc
load_same (c ∷ cs) [] xs e = cc
load_same (c ∷ cs) (d ∷ ds) [] e = refl
load_same (c ∷ cs) (d ∷ ds) (x ∷ xs) e =
    let here : carrier_shape (Some c) ≡ carrier_shape (Some d) = cc in
    let rest : shapes_of cs ≡ shapes_of ds = cc in
    ap (λ b. argument_load b (any_tested cs xs) (term_load x.term) (arguments_load cs xs)) (tested_same c d x.shape here)
    ∙ ap (λ b. argument_load (is_some (tested_range d x.shape)) b (term_load x.term) (arguments_load cs xs)) (any_same cs ds xs rest)
    ∙ ap (λ (l : Load). argument_load (is_some (tested_range d x.shape)) (any_tested ds xs) (term_load x.term) l) (load_same cs ds xs rest)

pub parameters_same : (cs ds : List (List Carrier)) (k : ℕ) → map shapes_of cs ≡ map shapes_of ds → shapes_of (parameters (slice_get cs k)) ≡ shapes_of (parameters (slice_get ds k))
parameters_same [] [] k e = refl
parameters_same [] (d ∷ ds) k e = cc
parameters_same (c ∷ cs) [] k e = cc
parameters_same (c ∷ cs) (d ∷ ds) zero e = cc
parameters_same (c ∷ cs) (d ∷ ds) (suc k) e = let rest : map shapes_of cs ≡ map shapes_of ds = cc in parameters_same cs ds k rest

join_same : (m around : Junction) (f g : Formula) (a b c d p q r s : Tally) → a ≡ p → b ≡ q → c ≡ r → d ≡ s
    → join_tally m around (test_of f) (test_of g) a b c d ≡ join_tally m around (test_of f) (test_of g) p q r s
join_same m around f g a b c d p q r s e h i j =
    ap (λ (x : Tally). join_tally m around (test_of f) (test_of g) x b c d) e
    ∙ ap (λ (x : Tally). join_tally m around (test_of f) (test_of g) p x c d) h
    ∙ ap (λ (x : Tally). join_tally m around (test_of f) (test_of g) p q x d) i
    ∙ ap (λ (x : Tally). join_tally m around (test_of f) (test_of g) p q r x) j

pub tally_same : (cs ds : List (List Carrier)) → map shapes_of cs ≡ map shapes_of ds → (f : Formula) (around : Junction) → formula_tally cs around f ≡ formula_tally ds around f
tally_same cs ds e (Test t) around = refl
tally_same cs ds e (Join m f g) around =
    join_same m around f g _ _ _ _ _ _ _ _ (tally_same cs ds e f around) (tally_same cs ds e g around) (tally_same cs ds e f m) (tally_same cs ds e g m)
tally_same cs ds e (Each q s shape f) around = ap (λ (x : Tally). under_tally (junction_of q) around (looped (shape_size shape) x)) (tally_same cs ds e f (junction_of q))
tally_same cs ds e (Call equation xs) around =
    let a = parameters (slice_get cs equation) in
    let b = parameters (slice_get ds equation) in
    let h = parameters_same cs ds equation e in
    ap (λ t. ended_call t (arguments_load a xs)) (any_same a b xs h) ∙ ap (ended_call (any_tested b xs)) (load_same a b xs h)
