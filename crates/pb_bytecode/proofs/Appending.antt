-- Appending one part after the other.
use Rattle.std.proofs.Common.{◌≡◌, ℕ, true, ◌&&◌, List, [], ◌∷◌, ◌++◌, length, map, sym, ap, ◌∙◌, append_assoc, arith, ◌+◌}
use Rattle.std.specs.Prelude.{nat_le}
use Rattle.std.specs.List.{AllByRecursion, list_all}
use Rattle.std.proofs.lemmas.Bool.{and_parts, ltb-true}
use Rattle.pb_base.specs.declared.limits.TheConstants.{MAX_STRUCTS, MAX_EQUATIONS, MAX_PARAMETERS, MAX_LOOP_SLOTS, MAX_INSTRUCTIONS}
use Rattle.pb_bytecode_program.specs.declared.version.Version.{Version}
use Rattle.pb_bytecode.specs.declared.equation.Equation.{Equation}
use Rattle.pb_bytecode.specs.Contents.{Contents, counts}
use Rattle.pb_bytecode.specs.Countable.{HasCountableParts}
use Rattle.pb_bytecode.specs.Names.{is_module_name}
use Rattle.pb_bytecode.specs.Limits.{is_between, is_u32, fits_carrier, fits_equation, fits_sort, fits}
use Rattle.pb_bytecode.specs.Views.{equation_contents}

-- a part, and what is behind it
pub append_both : (x y z a b : List ℕ) → y ≡ x ++ a → z ≡ y ++ b → z ≡ x ++ (a ++ b)
append_both x y z a b p q = q ∙ ap (λ (w : List ℕ). w ++ b) p ∙ append_assoc x a b

-- an equation within the limits has few enough parts
pub is_countable : (v : Version) (sizes : List ℕ) (e : Equation) → fits_equation v sizes (equation_contents e) ≡ true → HasCountableParts e
is_countable v sizes e h =
    let d = equation_contents e in
    let a = and_parts (is_module_name d.name) _ h in
    let b = and_parts (is_between 0 (MAX_PARAMETERS + 1) (length d.parameters) && list_all (fits_carrier sizes) d.parameters) _ a.1 in
    let c = and_parts (is_between 0 (MAX_LOOP_SLOTS + 1) (length d.loops) && list_all (fits_carrier sizes) d.loops) _ b.1 in
    let s = and_parts (is_u32 d.steps) _ c.1 in
    let t = and_parts (is_u32 d.tokens) _ s.1 in
    let p = ltb-true _ _ (and_parts (nat_le 0 (length d.parameters)) _ (and_parts (is_between 0 (MAX_PARAMETERS + 1) (length d.parameters)) _ b.0).0).1 in
    let l = ltb-true _ _ (and_parts (nat_le 0 (length d.loops)) _ (and_parts (is_between 0 (MAX_LOOP_SLOTS + 1) (length d.loops)) _ c.0).0).1 in
    let k = ltb-true _ _ (and_parts (nat_le 1 (length d.code)) _ (and_parts (is_between 1 (MAX_INSTRUCTIONS + 1) (length d.code)) _ t.1).0).1 in
    record { parameters = omega (arith, e.parameters.ok.0); loops = omega (arith, e.loops.ok.0); code = omega (arith, e.code.ok.0) }

pub are_countable : (v : Version) (sizes : List ℕ) (es : List Equation) → list_all (fits_equation v sizes) (map equation_contents es) ≡ true → AllByRecursion HasCountableParts es
are_countable v sizes [] h = tt
are_countable v sizes (e ∷ es) h =
    let two = and_parts (fits_equation v sizes (equation_contents e)) (list_all (fits_equation v sizes) (map equation_contents es)) h in
    (is_countable v sizes e two.0, are_countable v sizes es two.1)

pub module_countable : (m : Contents) (es : List Equation) → m.equations ≡ map equation_contents es → fits m ≡ true → AllByRecursion HasCountableParts es
module_countable m es same h =
    let a = and_parts (is_between 0 (MAX_STRUCTS + 1) (length m.sorts) && list_all fits_sort m.sorts) _ h in
    let b = and_parts (is_between 1 (MAX_EQUATIONS + 1) (length m.equations) && list_all (fits_equation m.version (counts m.sorts)) m.equations) _ a.1 in
    let c = and_parts (is_between 1 (MAX_EQUATIONS + 1) (length m.equations)) _ b.0 in
    are_countable m.version (counts m.sorts) es (ap (list_all (fits_equation m.version (counts m.sorts))) (sym same) ∙ c.1)
