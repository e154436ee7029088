-- The variables around, group by group, and state variables and definitions, one by one.
use Rattle.std.proofs.Common.{◌≡◌, ℕ, ◌+◌, ◌<◌, Bool, true, false, ◌||◌, if◌then◌else◌, List, [], ◌∷◌, ◌++◌, map, length, get_or, drop, refl, ap, ◌∙◌, Option, Some, None, string_bytes}
use Rattle.std.specs.List.{list_any}
use Rattle.pb_sorts.proofs.Places.{drop-at}
use Rattle.pb_text_tree.specs.declared.name.Name as declared_name
use Rattle.pb_text_tree.specs.declared.variable.Variables.{Variables}
use Rattle.pb_text_tree.specs.Form.{Named, VariableForm, named, variable_forms}
use Rattle.pb_text_meaning.specs.Syntax.{Name, same_name, Variable}
use Rattle.pb_text_meaning.specs.Erase.{erased_variables}
use Rattle.pb_protocol_symmetry.specs.Kinds.{Signature, extended, sort_in}
use Rattle.pb_protocol_symmetry.specs.Test.{signature_in}
use Rattle.pb_protocol_scalar_sets.specs.Scopes.{is_called, last_sort}

-- of variables that come into scope the last of a name is the innermost
pub innermost : (ys scope : List Variable) (x : Name) → sort_in (extended ys scope) x ≡ last_sort (sort_in scope x) ys x
innermost [] scope x = refl
innermost (y ∷ ys) scope x = innermost ys (y ∷ scope) x

either : (a b : Bool) (s : Name) (o : Option Name) → (if b then Some s else (if a then Some s else o)) ≡ (if a || b then Some s else o)
either true true s o = refl
either true false s o = refl
either false true s o = refl
either false false s o = refl

group-sort : (o : Option Name) (sort : Named) (ns : List declared_name.Name) (ys : List VariableForm) (x : Name)
    → last_sort o (erased_variables (map (λ n. record { name = named n; sort = sort }) ns ++ ys)) x
    ≡ last_sort (if list_any (is_called x) ns then Some sort.text else o) (erased_variables ys) x
group-sort o sort [] ys x = refl
group-sort o sort (n ∷ ns) ys x =
    group-sort (if is_called x n then Some sort.text else o) sort ns ys x
    ∙ ap (λ (p : Option Name). last_sort p (erased_variables ys) x) (either (is_called x n) (list_any (is_called x) ns) sort.text o)

-- the groups from the one at k on
pub group-next : (o : Option Name) (gs : List Variables) (k : ℕ) (g : Variables) (x : Name) → k < length gs → g ≡ get_or gs k g
    → last_sort o (erased_variables (variable_forms (drop k gs))) x
    ≡ last_sort (if list_any (is_called x) g.names.items then Some (string_bytes g.sort.text) else o) (erased_variables (variable_forms (drop (k + 1) gs))) x
group-next o gs k g x below at =
    ap (λ (hs : List Variables). last_sort o (erased_variables (variable_forms hs)) x) (drop-at gs k g below at)
    ∙ group-sort o (named g.sort) g.names.items (variable_forms (drop (k + 1) gs)) x

-- ---- what has a name: among the first, or behind them

abbrev choose : Bool → Signature → Option Signature → Option Signature
choose b t o = if b then Some t else o

pub called-first : (xs ys : List Signature) (x : Name) (s : Signature) → Some s ≡ signature_in xs x → Some s ≡ signature_in (xs ++ ys) x
called-first [] ys x s h = cc
called-first (t ∷ xs) ys x s h = by (same_name t.name x) (called-first xs ys x s) h
  where
    by : (b : Bool) → (Some s ≡ signature_in xs x → Some s ≡ signature_in (xs ++ ys) x) → Some s ≡ choose b t (signature_in xs x) → Some s ≡ choose b t (signature_in (xs ++ ys) x)
    by true rest e = e
    by false rest e = rest e

pub called-behind : (xs ys : List Signature) (x : Name) → None ≡ signature_in xs x → signature_in ys x ≡ signature_in (xs ++ ys) x
called-behind [] ys x h = refl
called-behind (t ∷ xs) ys x h = by (same_name t.name x) (called-behind xs ys x) h
  where
    by : (b : Bool) → (None ≡ signature_in xs x → signature_in ys x ≡ signature_in (xs ++ ys) x) → None ≡ choose b t (signature_in xs x) → signature_in ys x ≡ choose b t (signature_in (xs ++ ys) x)
    by true rest e = cc
    by false rest e = rest e
