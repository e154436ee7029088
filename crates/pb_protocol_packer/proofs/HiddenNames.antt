-- Names that variables around hide.
use Rattle.std.proofs.Common.{◌≡◌, ℕ, ◌+◌, ◌<◌, length, drop, get_or, Bool, true, false, ◌||◌, if◌then◌else◌, List, [], ◌∷◌, map, refl, sym, ap, ◌∙◌}
use Rattle.std.specs.Prelude.{Option, None}
use Rattle.std.specs.List.{list_any}
use Rattle.std.proofs.lemmas.List.Folds.{list_any-append}
use Rattle.std.proofs.lemmas.List.{at_drop_more, map-append}
use Rattle.pb_text_tree.specs.declared.name.Name as declared_name
use Rattle.pb_text_tree.specs.declared.variable.Variables.{Variables}
use Rattle.pb_text_tree.specs.Form.{named, variables_form, variable_forms}
use Rattle.pb_text_meaning.specs.Syntax.{Name, same_name, Variable}
use Rattle.pb_text_meaning.specs.Erase.{erased_variable, erased_variables}
use Rattle.pb_protocol_packing.specs.Apart.{is_among}
use Rattle.pb_protocol_packing.specs.Said.{Digit, Scope, digit_for, hidden}
use Rattle.pb_protocol_packer.specs.View.{name_bytes, texts_of, variables_in}
use Rattle.pb_protocol_packer.specs.Scopes.{is_named, is_hidden, scope_of}
use Rattle.pb_protocol_packer.specs.declared.scope.Hiding as declared_hiding
use Rattle.pb_protocol_packer.specs.declared.scope.Hiding.TheVariants.{Outermost, Inner'}

abbrev pub unless_hidden : Bool → Option Digit → Option Digit
unless_hidden b d = if b then None else d

digit-hidden : (σ : Scope) (xs : List Variable) (x : Name) → digit_for (hidden xs σ) x ≡ unless_hidden (list_any (is_named x) xs) (digit_for σ x)
digit-hidden σ [] x = refl
digit-hidden σ (y ∷ ys) x = digit-hidden ((y.name, None) ∷ σ) ys x ∙ by (list_any (is_named x) ys) (same_name y.name x)
  where
    by : (b c : Bool) → unless_hidden b (if c then None else digit_for σ x) ≡ unless_hidden (c || b) (digit_for σ x)
    by true true = refl
    by true false = refl
    by false true = refl
    by false false = refl

pub digit-within : (h : declared_hiding.Hiding) (σ : Scope) (x : Name) → digit_for (scope_of h σ) x ≡ unless_hidden (is_hidden h x) (digit_for σ x)
digit-within Outermost σ x = refl
digit-within (Inner' groups p outer) σ x =
    digit-hidden (scope_of outer σ) (variables_in groups.now) x
    ∙ ap (unless_hidden (list_any (is_named x) (variables_in groups.now))) (digit-within outer σ x)
    ∙ by (list_any (is_named x) (variables_in groups.now)) (is_hidden outer x)
  where
    by : (b c : Bool) → unless_hidden b (unless_hidden c (digit_for σ x)) ≡ unless_hidden (b || c) (digit_for σ x)
    by true c = refl
    by false c = refl

-- ---- groups of variables, one after another

of-group : (ns : List declared_name.Name) (s : declared_name.Name) (x : Name)
    → list_any (is_named x) (erased_variables (map (λ (n : declared_name.Name). record { name = named n; sort = named s }) ns)) ≡ is_among (texts_of ns) x
of-group [] s x = refl
of-group (n ∷ ns) s x = ap (λ b. same_name (name_bytes n) x || b) (of-group ns s x)

pub declares-more : (g : Variables) (gs : List Variables) (x : Name)
    → list_any (is_named x) (variables_in (g ∷ gs)) ≡ (is_among (texts_of g.names.items) x || list_any (is_named x) (variables_in gs))
declares-more g gs x =
    ap (list_any (is_named x)) (map-append erased_variable (variables_form g) (variable_forms gs))
    ∙ list_any-append (is_named x) (erased_variables (variables_form g)) (variables_in gs)
    ∙ ap (λ b. b || list_any (is_named x) (variables_in gs)) (of-group g.names.items g.sort x)

-- a group more
pub declares-next : (groups : List Variables) (k : ℕ) (g : Variables) (x : Name) → k < length groups → g ≡ get_or groups k g
    → list_any (is_named x) (variables_in (drop k groups)) ≡ (is_among (texts_of g.names.items) x || list_any (is_named x) (variables_in (drop (k + 1) groups)))
declares-next groups k g x within is =
    at_drop_more (λ (gs : List Variables). list_any (is_named x) (variables_in gs)) groups k g within
    ∙ ap (λ (h : Variables). list_any (is_named x) (variables_in (h ∷ drop (k + 1) groups))) (sym is) ∙ declares-more g (drop (k + 1) groups) x
