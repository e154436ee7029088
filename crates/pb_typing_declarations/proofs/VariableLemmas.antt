-- Variables by their entries.
use Rattle.std.proofs.Common.{◌≡◌, ℕ, zero, suc, ◌<◌, ◌≤◌, true, false, rules, tests, List, get_or, [], ◌∷◌, length, map, refl, sym, ap, subst, arith}
use Rattle.std.specs.Prelude.{nat_lt, flat_map}
use Rattle.std.proofs.lemmas.List.{length-map}
use denote.Ref.{Bor}
use Rattle.pb_text_tree.specs.declared.name.Name.{Name}
use Rattle.pb_text_tree.specs.Form.{Named, VariableForm}
use Rattle.pb_sorts.specs.declared.carrier.Carrier.{Carrier}
use Rattle.pb_sorts.specs.Carrier.{values_of}
use Rattle.pb_text_meaning.specs.Syntax.{Variable, Spec}
use Rattle.pb_text_meaning.specs.Sorts.{carrier_of}
use Rattle.pb_text_meaning.specs.Formula.{carriers_of}
use Rattle.pb_text_meaning.specs.Erase.{erased_variable, erased_variables}
use Rattle.pb_typing_declarations.specs.declared.entry.Entry.{Entry}
use Rattle.pb_typing_declarations.specs.declared.fault.TypingRule.TheVariants.{Limit}
use Rattle.pb_base.specs.declared.or_memory.OrMemory.{OrMemory}
use Rattle.pb_typing_declarations.specs.declared.fault.TypingFault.{TypingFault}
use Rattle.pb_typing_declarations.specs.Faults.{unless, repeated, IsAmong}
use Rattle.pb_typing_declarations.specs.Tables.{entry_names}
use Rattle.pb_typing_declarations.specs.Variables.{variables_of}
use Rattle.pb_typing_declarations.specs.Declarations.{variable_names, variable_faults, variables_faults, limit_faults}
use Rattle.pb_typing_declarations.proofs.Parts.{among_left, among_right}

-- the names of variables are those of their entries
pub names-variables_of : (es : List (Entry (Bor Name))) → entry_names es ≡ variable_names (variables_of es)
names-variables_of [] = refl
names-variables_of (e ∷ es) = ap (λ xs. record { place = e.place; text = e.name.now } ∷ xs) (names-variables_of es)

-- a fault of their names, or of their sorts
pub in_names : (S : Spec) (es : List (Entry (Bor Name))) (e : OrMemory TypingFault) → IsAmong (repeated (entry_names es)) e → IsAmong (variables_faults S (variables_of es)) e
in_names S es e h =
    among_left (repeated (variable_names (variables_of es))) _ e (subst (λ (xs : List Named). IsAmong (repeated xs) e) (names-variables_of es) h)

pub in_sorts : (S : Spec) (es : List (Entry (Bor Name))) (e : OrMemory TypingFault) → IsAmong (flat_map (variable_faults S) (variables_of es)) e → IsAmong (variables_faults S (variables_of es)) e
in_sorts S es e h = among_right (repeated (variable_names (variables_of es))) _ e h

-- at most so many where none passes the limit
pub few_names : (limit : ℕ) (xs : List Named) → limit_faults limit xs ≡ [] → length xs ≤ limit
few_names limit [] h = omega arith
few_names zero (x ∷ xs) h = cc
few_names (suc limit) (x ∷ xs) h = let rest = few_names limit xs h in omega (arith, rest)

-- and the other way round
pub limit_clear : (limit : ℕ) (xs : List Named) → length xs ≤ limit → limit_faults limit xs ≡ []
limit_clear limit [] h = refl
limit_clear zero (x ∷ xs) h = absurd (omega (arith, h))
limit_clear (suc limit) (x ∷ xs) h = limit_clear limit xs (omega (arith, h))

-- the fault of the one that passes the limit
pub limit_at : {V : Type 0} (es : List (Entry V)) (limit : ℕ) (e : Entry V) → limit < length es → e ≡ get_or es limit e → limit_faults limit (entry_names es) ≡ unless false Limit e.place
limit_at [] limit e below at = absurd (omega (arith, below))
limit_at (f ∷ es) zero e below at = ap (λ (g : Entry _). unless false Limit g.place) (sym at)
limit_at (f ∷ es) (suc limit) e below at = limit_at es limit e (omega (arith, below)) at

-- ---- an equation's parameters

-- as many carriers as names
pub carriers_few : (S : Spec) (xs : List VariableForm) (carriers : List Carrier) (limit : ℕ)
    → map values_of carriers ≡ carriers_of S (erased_variables xs) → limit_faults limit (variable_names xs) ≡ [] → length carriers ≤ limit
carriers_few S xs carriers limit are clear =
    let few = few_names limit (variable_names xs) clear in
    let names = length-map xs (λ (x : VariableForm). x.name) in
    let variables = length-map xs erased_variable in
    let sorts = length-map (erased_variables xs) (λ (x : Variable). carrier_of S x.sort) in
    let values = length-map carriers values_of in
    let same : length (map values_of carriers) ≡ length (carriers_of S (erased_variables xs)) = ap length are in
    omega (arith, few, names, variables, sorts, values, same)

pub below_length : (k n : ℕ) → true ≡ nat_lt k n → k < n
below_length k n e = search (rules, tests)

pub not_below_length : (k n : ℕ) → false ≡ nat_lt k n → n ≤ k
not_below_length k n e = search (rules, tests)
