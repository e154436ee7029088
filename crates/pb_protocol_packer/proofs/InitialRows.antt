-- What variables begin with, one after another.
use Rattle.std.proofs.Common.{◌≡◌, List, [], ◌∷◌, ◌++◌, map, refl, ap, ◌∙◌}
use Rattle.std.proofs.lemmas.List.{map-append}
use Rattle.pb_text_tree.specs.declared.name.Name as declared_name
use Rattle.pb_text_tree.specs.declared.term.Argument.{Argument}
use Rattle.pb_text_tree.specs.declared.place.Place.{Place}
use Rattle.pb_text_tree.specs.declared.variable.Variables.{Variables}
use Rattle.pb_text_tree.specs.Form.{named, variables_form, variable_forms, argument_forms, no_arguments}
use Rattle.pb_text_meaning.specs.Syntax.{Name, Variable, Terms}
use Rattle.pb_text_meaning.specs.Erase.{erased_variable, erased_variables}
use Rattle.pb_model_meaning.specs.Syntax.{Assignment}
use Rattle.pb_protocol_packing.specs.Packing.{initial_assignments}
use Rattle.pb_protocol_packer.specs.View.{name_bytes, texts_of, variables_in}
use Rattle.pb_protocol_packer.specs.Initial.{variable_name, assigned_names}
use Rattle.pb_protocol_packer.specs.InitialPlaces.{begun_with, argument_place, value_places}

pub group-names : (ns : List declared_name.Name) (s : declared_name.Name)
    → map variable_name (erased_variables (map (λ (n : declared_name.Name). record { name = named n; sort = named s }) ns)) ≡ texts_of ns
group-names [] s = refl
group-names (n ∷ ns) s = ap (λ (xs : List Name). name_bytes n ∷ xs) (group-names ns s)

pub names-more : (g : Variables) (gs : List Variables)
    → map variable_name (variables_in (g ∷ gs)) ≡ map variable_name (erased_variables (variables_form g)) ++ map variable_name (variables_in gs)
names-more g gs =
    ap (map variable_name) (map-append erased_variable (variables_form g) (variable_forms gs))
    ∙ map-append variable_name (erased_variables (variables_form g)) (variables_in gs)

pub assigned-none : (xs : List Name) → assigned_names xs Terms.NoTerms ≡ []
assigned-none [] = refl
assigned-none (x ∷ xs) = refl

pub initial-names : (xs : List Variable) (ts : Terms) → initial_assignments xs ts ≡ assigned_names (map variable_name xs) ts
initial-names [] ts = refl
initial-names (x ∷ xs) Terms.NoTerms = refl
initial-names (x ∷ xs) (Terms.Then t ts) = ap (λ (bs : List Assignment). record { variable = x.name; term = t } ∷ bs) (initial-names xs ts)

-- ---- places

pub begun-none : (xs : List Name) → begun_with xs no_arguments ≡ []
begun-none [] = refl
begun-none (x ∷ xs) = refl

pub argument-places : (xs : List Argument) → value_places (argument_forms xs) ≡ map argument_place xs
argument-places [] = refl
argument-places (a ∷ xs) = ap (λ (ps : List Place). a.place ∷ ps) (argument-places xs)
