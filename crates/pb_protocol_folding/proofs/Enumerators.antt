-- The place of an enumerator among the sorts from one on.
use Rattle.std.proofs.Common.{◌≡◌, ◌+◌, ◌<◌, ℕ, List, [], ◌∷◌, map, length, drop, get_or, refl, sym, ap, ◌∙◌, Vec, Global}
use Rattle.std.specs.Prelude.{Option, None}
use Rattle.std.proofs.lemmas.List.{at_drop_more}
use Rattle.pb_text_tree.specs.declared.name.Name as declared_name
use Rattle.pb_text_tree.specs.declared.sort.Enumerator as declared_enumerator
use Rattle.pb_text_tree.specs.declared.sort.Sort.TheVariants as sort
use Rattle.pb_text_tree.specs.declared.sort.SortDeclaration as declared_declaration
use Rattle.pb_text_tree.specs.Form.{enumerator_form, sort_form}
use Rattle.pb_text_meaning.specs.Erase.{erased_enumerator, erased_sort}
use Rattle.pb_text_meaning.specs.Sorts.{place_from, place_within, place_in, or_else}
use Rattle.pb_protocol_folding.specs.Enumerators.{enumerators_of, passes}
use Rattle.pb_protocol_folding.specs.View.{declaration_of}
use Rattle.pb_protocol_folding.specs.declared.enumerator.Sought.{Sought}

fused : (es : List declared_enumerator.Enumerator) → map erased_enumerator (map enumerator_form es) ≡ enumerators_of es
fused [] = refl
fused (e ∷ es) = ap (λ xs. erased_enumerator (enumerator_form e) ∷ xs) (fused es)

pub within-struct : (s : Sought) (x : declared_declaration.SortDeclaration) (v : Vec declared_enumerator.Enumerator Global) → x.sort ≡ sort.Struct v →
    place_within (passes s) (declaration_of x).sort ≡ place_from 0 (passes s) (enumerators_of v.items)
within-struct s x v is = ap (λ y. place_within (passes s) (erased_sort (sort_form y))) is ∙ ap (place_from 0 (passes s)) (fused v.items)

pub within-alias : (s : Sought) (x : declared_declaration.SortDeclaration) (n : declared_name.Name) → x.sort ≡ sort.Alias n → place_within (passes s) (declaration_of x).sort ≡ None
within-alias s x n is = ap (λ y. place_within (passes s) (erased_sort (sort_form y))) is

pub place-here : (s : Sought) (ds : List declared_declaration.SortDeclaration) (k : ℕ) (x : declared_declaration.SortDeclaration) (o : Option ℕ) → k < length ds → x ≡ get_or ds k x →
    place_within (passes s) (declaration_of x).sort ≡ o →
    place_in (passes s) (map declaration_of (drop k ds)) ≡ or_else o (place_in (passes s) (map declaration_of (drop (k + 1) ds)))
place-here s ds k x o below at is =
    at_drop_more (λ (l : List declared_declaration.SortDeclaration). place_in (passes s) (map declaration_of l)) ds k x below
    ∙ ap (λ (y : declared_declaration.SortDeclaration). place_in (passes s) (map declaration_of (y ∷ drop (k + 1) ds))) (sym at)
    ∙ ap (λ p. or_else p (place_in (passes s) (map declaration_of (drop (k + 1) ds)))) is
