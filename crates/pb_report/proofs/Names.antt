-- The parts of an instance's name.
use Rattle.std.proofs.Common.{◌≡◌, ℕ, zero, suc, ◌+◌, ◌<◌, ℤ, true, List, [], ◌∷◌, ◌++◌, length, get_or, drop, map, Option, Some, refl, sym, ap, ◌∙◌, append_assoc, arith}
use Rattle.std.specs.Prelude.{codes}
use Rattle.std.specs.List.{slice_get}
use Rattle.std.proofs.lemmas.List.{length-map}
use Rattle.std.proofs.lemmas.Option.{same_Some, slice_get_within}
use Rattle.std.proofs.lemmas.Bool.{and_parts}
use Rattle.pb_base_values.specs.Carrier.{Tuple, is_within}
use Rattle.pb_sorts.specs.declared.carrier.Carrier.{Carrier}
use Rattle.pb_sorts.specs.Carrier.{values_of}
use Rattle.pb_sorts.specs.Instance.{Instance, instances, is_tuple_of}
use Rattle.pb_sorts.specs.Layout.{carriers_of}
use Rattle.pb_sorts.proofs.Numbers.{is_instance-slice_get}
use Rattle.pb_bytecode.specs.Contents.{SortContents, EquationContents, Contents}
use Rattle.pb_bytecode.specs.Meaning.{parameters}
use Rattle.pb_bytecode.specs.Decoded.{module_contents}
use Rattle.pb_bytecode.specs.Views.{text_of, sort_contents, equation_contents}
use Rattle.pb_bytecode.specs.declared.equation.Equation.{Equation}
use Rattle.pb_bytecode.specs.declared.module.Module.{Module}
use Rattle.pb_bytecode.specs.declared.sort.Sort.{Sort}
use Rattle.pb_game_of_trees.proofs.Sizes.{contents_at}
use Rattle.pb_report.specs.InstanceName.{value_name, next_value, more_values, values_text, arguments, equation_name, name_of, instance_name}

next_from : (sorts : List SortContents) (cs : List Carrier) (vs : Tuple) (k : ℕ) (c : Carrier) (d : ℤ) → k < length cs → length vs ≡ length cs → c ≡ get_or cs k c →
    more_values sorts (drop k cs) (drop k vs) ≡ next_value sorts c (get_or vs k d) ++ more_values sorts (drop (suc k) cs) (drop (suc k) vs)
next_from sorts [] vs k c d l m e = absurd (omega arith)
next_from sorts (x ∷ cs) [] k c d l m e = absurd (omega (arith, m))
next_from sorts (x ∷ cs) (v ∷ vs) zero c d l m e = ap (λ (y : Carrier). next_value sorts y v ++ more_values sorts cs vs) (sym e)
next_from sorts (x ∷ cs) (v ∷ vs) (suc k) c d l m e = next_from sorts cs vs k c d (omega arith) (omega (arith, m)) e

-- of the values from k on, the first one and the others
next_at : (sorts : List SortContents) (cs : List Carrier) (vs : Tuple) (k : ℕ) (c : Carrier) (d : ℤ) → k < length cs → length vs ≡ length cs → c ≡ get_or cs k c →
    more_values sorts (drop k cs) (drop k vs) ≡ next_value sorts c (get_or vs k d) ++ more_values sorts (drop (k + 1) cs) (drop (k + 1) vs)
next_at sorts cs vs k c d l m e =
    let next : suc k ≡ k + 1 = omega arith in
    next_from sorts cs vs k c d l m e ∙ ap (λ (n : ℕ). next_value sorts c (get_or vs k d) ++ more_values sorts (drop n cs) (drop n vs)) next

first_value : (sorts : List SortContents) (cs : List Carrier) (vs : Tuple) (c : Carrier) (d : ℤ) → 0 < length cs → length vs ≡ length cs → c ≡ get_or cs 0 c →
    value_name sorts c (get_or vs 0 d) ++ more_values sorts (drop 1 cs) (drop 1 vs) ≡ values_text sorts cs vs
first_value sorts [] vs c d l m e = absurd (omega arith)
first_value sorts (x ∷ cs) [] c d l m e = absurd (omega (arith, m))
first_value sorts (x ∷ cs) (v ∷ vs) c d l m e = ap (λ (y : Carrier). value_name sorts y v ++ more_values sorts cs vs) e

in_parentheses : (sorts : List SortContents) (cs : List Carrier) (vs : Tuple) → 0 < length cs →
    codes "(" ++ (values_text sorts cs vs ++ codes ")") ≡ arguments sorts cs vs
in_parentheses sorts [] vs l = absurd (omega arith)
in_parentheses sorts (x ∷ cs) vs l = refl

-- the whole, from the first value on
pub opened : (sorts : List SortContents) (cs : List Carrier) (vs : Tuple) (c : Carrier) (d : ℤ) → 0 < length cs → length vs ≡ length cs → c ≡ get_or cs 0 c →
    codes "(" ++ (value_name sorts c (get_or vs 0 d) ++ (more_values sorts (drop 1 cs) (drop 1 vs) ++ codes ")")) ≡ arguments sorts cs vs
opened sorts cs vs c d l m e =
    ap (λ (xs : List ℕ). codes "(" ++ xs)
    (sym (append_assoc (value_name sorts c (get_or vs 0 d)) (more_values sorts (drop 1 cs) (drop 1 vs)) (codes ")"))
    ∙ ap (λ (xs : List ℕ). xs ++ codes ")") (first_value sorts cs vs c d l m e))
    ∙ in_parentheses sorts cs vs l

-- of what stands from the value at k on, the first one and the rest
pub next_closed : (sorts : List SortContents) (cs : List Carrier) (vs : Tuple) (k : ℕ) (c : Carrier) (d : ℤ) → k < length cs → length vs ≡ length cs → c ≡ get_or cs k c →
    more_values sorts (drop k cs) (drop k vs) ++ codes ")" ≡ next_value sorts c (get_or vs k d) ++ (more_values sorts (drop (k + 1) cs) (drop (k + 1) vs) ++ codes ")")
next_closed sorts cs vs k c d l m e =
    ap (λ (xs : List ℕ). xs ++ codes ")") (next_at sorts cs vs k c d l m e)
    ∙ append_assoc (next_value sorts c (get_or vs k d)) (more_values sorts (drop (k + 1) cs) (drop (k + 1) vs)) (codes ")")

same_length : (cs : List Carrier) (vs : Tuple) → is_within (map values_of cs) vs ≡ true → length vs ≡ length cs
same_length [] [] h = refl
same_length [] (v ∷ vs) h = cc
same_length (c ∷ cs) [] h = cc
same_length (c ∷ cs) (v ∷ vs) h = ap suc (same_length cs vs (and_parts _ _ h).1)

-- an instance's equation, of whose parameters it has values
pub record HasEquation (equations : List EquationContents) (k : ℕ) (values : Tuple) : Type 0 where
  pub equation : EquationContents
  pub declared : slice_get equations k ≡ Some equation
  pub lengths : length values ≡ length equation.parameters

found_in : (es : List EquationContents) (k : ℕ) (values : Tuple) → is_tuple_of (slice_get (carriers_of (map (λ (e : EquationContents). e.parameters) es)) k) values ≡ true → HasEquation es k values
found_in [] k values h = cc
found_in (e ∷ es) zero values h = record { equation = e; declared = refl; lengths = same_length e.parameters values h }
found_in (e ∷ es) (suc k) values h = let f = found_in es k values h in record { equation = f.equation; declared = f.declared; lengths = f.lengths }

module _ {m : Contents} (held : Module) (same : module_contents held ≡ m) (n : ℕ) {i : Instance} (at : slice_get (instances (carriers_of (parameters m))) n ≡ Some i) where
  equations_same : map equation_contents held.equations.items ≡ m.equations
  equations_same = ap (λ (x : Contents). x.equations) same

  found : HasEquation m.equations i.equation i.values
  found = found_in m.equations i.equation i.values (is_instance-slice_get (carriers_of (parameters m)) n i at)

  pub there : i.equation < length held.equations.items
  there = omega (arith, slice_get_within m.equations i.equation found.equation found.declared, ap length equations_same, length-map held.equations.items equation_contents)

  pub read : (e : Equation) → e ≡ get_or held.equations.items i.equation e → slice_get m.equations i.equation ≡ Some (equation_contents e)
  read e is = sym (ap (λ (xs : List EquationContents). slice_get xs i.equation) equations_same) ∙ contents_at held.equations.items i.equation e there is

  pub lengths : (e : Equation) → e ≡ get_or held.equations.items i.equation e → length i.values ≡ length e.parameters.items
  lengths e is = found.lengths ∙ ap (λ (x : EquationContents). length x.parameters) (same_Some _ _ (sym found.declared ∙ read e is))

  spelled : (e : Equation) → e ≡ get_or held.equations.items i.equation e →
      text_of e.name ++ arguments (map sort_contents held.sorts.items) e.parameters.items i.values ≡ instance_name m n
  spelled e is =
      ap (λ (sorts : List SortContents). text_of e.name ++ arguments sorts e.parameters.items i.values) (ap (λ (x : Contents). x.sorts) same)
      ∙ (sym (ap (λ (o : Option EquationContents). equation_name m o i.values) (read e is)) ∙ sym (ap (name_of m) at))

  -- the name, from parts that are read
  pub name_is : (e : Equation) → e ≡ get_or held.equations.items i.equation e → (name : List ℕ) (sorts : List Sort) (cs : List Carrier) (vs : Tuple)
      → name ≡ text_of e.name → sorts ≡ held.sorts.items → cs ≡ e.parameters.items → vs ≡ i.values → name ++ arguments (map sort_contents sorts) cs vs ≡ instance_name m n
  name_is e is name sorts cs vs names declared parameters values =
      ap (λ (xs : List ℕ). xs ++ arguments (map sort_contents sorts) cs vs) names
      ∙ (ap (λ (xs : List Sort). text_of e.name ++ arguments (map sort_contents xs) cs vs) declared
      ∙ (ap (λ (xs : List Carrier). text_of e.name ++ arguments (map sort_contents held.sorts.items) xs vs) parameters
      ∙ (ap (λ (xs : Tuple). text_of e.name ++ arguments (map sort_contents held.sorts.items) e.parameters.items xs) values ∙ spelled e is)))
