-- Where sorts have no fault, the names of their enumerators are apart.
use Rattle.std.proofs.Common.{◌≡◌, List, [], ◌∷◌, ◌++◌, map, flat_map, refl, ◌∙◌, ap, subst, Option, Some, None}
use Rattle.std.proofs.lemmas.List.{map-append}
use Rattle.pb_text_tree.specs.Form.{Named, EnumeratorForm, SortForm, struct, alias, SortDeclarationForm}
use Rattle.pb_text_meaning.specs.Syntax.{Name, Enumerator}
use Rattle.pb_text_meaning.specs.Erase.{erased_declaration, erased_enumerator, erased_sort}
use Rattle.pb_typing_declarations.specs.Declarations.{tables_faults, all_enumerator_forms, enumerators_of_sort, names_of_enumerator, recogniser_name}
use Rattle.pb_typing_declarations.proofs.Parts.{no_parts}
use Rattle.pb_typing_declarations.proofs.ReadParts as part
use Rattle.pb_protocol_tree.specs.Form.{ProtocolForm}
use Rattle.pb_protocol_meaning.specs.Erase.{erase}
use Rattle.pb_protocol_folding.specs.Names.{IsNot, AreDistinct, names_in, enumerators_in}
use Rattle.pb_protocol_typing.specs.Faults.{data_form, protocol_faults}
use Rattle.pb_protocol_laws.proofs.Kept.{declared}
use Rattle.pb_protocol_laws.proofs.Distinct.{texts, distinct}

-- ---- those of enumerators alone

abbrev own : List EnumeratorForm → List Name
own es = map (λ (e : EnumeratorForm). e.name.text) es

skip : (x : Name) (r : Option Named) (ys : List Named) → IsNot x (texts (recogniser_name r ++ ys)) → IsNot x (texts ys)
skip x None ys h = h
skip x (Some y) ys h = h.1

skip-distinct : (r : Option Named) (ys : List Named) → AreDistinct (texts (recogniser_name r ++ ys)) → AreDistinct (texts ys)
skip-distinct None ys h = h
skip-distinct (Some y) ys h = h.1

not-own : (x : Name) (es : List EnumeratorForm) → IsNot x (texts (flat_map names_of_enumerator es)) → IsNot x (own es)
not-own x [] h = tt
not-own x (e ∷ es) h = (h.0, not-own x es (skip x e.recogniser (flat_map names_of_enumerator es) h.1))

distinct-own : (es : List EnumeratorForm) → AreDistinct (texts (flat_map names_of_enumerator es)) → AreDistinct (own es)
distinct-own [] h = tt
distinct-own (e ∷ es) h =
    let rest = flat_map names_of_enumerator es in
    (not-own e.name.text es (skip e.name.text e.recogniser rest h.0), distinct-own es (skip-distinct e.recogniser rest h.1))

-- ---- as they stand in the sorts

own-struct : (es : List EnumeratorForm) → own es ≡ map (λ (e : Enumerator). e.name) (map erased_enumerator es)
own-struct [] = refl
own-struct (e ∷ es) = ap (λ xs. e.name.text ∷ xs) (own-struct es)

own-sort : (s : SortForm) → own (enumerators_of_sort s) ≡ names_in (erased_sort s)
own-sort (struct es) = own-struct es
own-sort (alias target) = refl

own-sorts : (ds : List SortDeclarationForm) → own (all_enumerator_forms ds) ≡ enumerators_in (map erased_declaration ds)
own-sorts [] = refl
own-sorts (d ∷ ds) =
    map-append (λ (e : EnumeratorForm). e.name.text) (enumerators_of_sort d.sort) (all_enumerator_forms ds)
    ∙ (ap (λ (xs : List Name). xs ++ own (all_enumerator_forms ds)) (own-sort d.sort)
    ∙ ap (λ (xs : List Name). names_in (erased_sort d.sort) ++ xs) (own-sorts ds))

pub enumerators_are_apart : (text : ProtocolForm) → protocol_faults text ≡ [] → AreDistinct (enumerators_in (erase text).sorts)
enumerators_are_apart text e =
    let t = data_form text in
    let all = no_parts (tables_faults t) _ (declared text e) in
    let a = no_parts (part.structs t) _ all.0 in
    let b = no_parts (part.empty t) _ a.1 in
    let c = no_parts (part.data_twice t) _ b.1 in
    subst AreDistinct (own-sorts text.sorts)
    (distinct-own (all_enumerator_forms text.sorts) (distinct (flat_map names_of_enumerator (all_enumerator_forms text.sorts)) c.0))
