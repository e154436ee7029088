-- The sorts of a module, declaration by declaration, and their enumerators' names.
use Rattle.std.proofs.Common.{◌≡◌, ℕ, ◌+◌, ◌<◌, ◌≤◌, true, List, [], ◌∷◌, ◌++◌, map, length, get_or, drop, refl, sym, ap, ◌∙◌, subst, arith, string_bytes}
use Rattle.std.specs.List.{list_all}
use Rattle.std.proofs.lemmas.List.{append_assoc, length-map, map_push}
use Rattle.pb_base.specs.declared.limits.TheConstants.{MAX_ENUMERATORS}
use Rattle.pb_sorts.proofs.Places.{drop-at}
use Rattle.pb_text_tree.specs.declared.sort.Enumerator as tree
use Rattle.pb_text_tree.specs.declared.sort.SortDeclaration.{SortDeclaration}
use Rattle.pb_text_tree.specs.Form.{enumerator_form, sort_declaration_form, sort_form}
use Rattle.pb_text_meaning.specs.Erase.{erased_declaration, erased_enumerator, erased_sort}
use Rattle.pb_text_meaning.specs.Syntax as syntax
use Rattle.pb_bytecode.specs.Contents.{SortContents}
use Rattle.pb_bytecode.specs.Names.{is_module_name}
use Rattle.pb_bytecode.specs.Views.{sort_contents}
use Rattle.pb_bytecode.specs.declared.sort.Sort as bytecode
use Rattle.pb_assembler_modules.specs.Module.{with_names, struct_names}
use Rattle.pb_assembler.specs.Compiled.{IsSort, AreSorts}
use Rattle.pb_assembler.proofs.Names.{enumerators_named}

-- ---- declarations

abbrev pub erased_all : List SortDeclaration → List syntax.SortDeclaration
erased_all ds = map erased_declaration (map sort_declaration_form ds)

pub record AreMade (all left : List SortDeclaration) (done : List bytecode.Sort) : Type 0 where
  pub fit : AreSorts (erased_all left)
  pub names : map sort_contents done ++ struct_names (erased_all left) ≡ struct_names (erased_all all)

names_erased : (es : List tree.Enumerator) → map (λ (e : syntax.Enumerator). e.name) (map erased_enumerator (map enumerator_form es)) ≡ map (λ (e : tree.Enumerator). string_bytes e.name.text) es
names_erased [] = refl
names_erased (e ∷ es) = ap (λ (ns : SortContents). string_bytes e.name.text ∷ ns) (names_erased es)

-- a struct's enumerators have names, and are few
pub struct_fits : (es : List tree.Enumerator)
    → IsSort (syntax.Sort.Struct (map erased_enumerator (map enumerator_form es)))
    → (length es ≤ MAX_ENUMERATORS) × (list_all (λ (e : tree.Enumerator). is_module_name (string_bytes e.name.text)) es ≡ true)
struct_fits es h =
    let few = h.0 in
    (omega (arith, few, length-map (map enumerator_form es) erased_enumerator, length-map es enumerator_form), sym (enumerators_named es) ∙ h.1)

module _ {all : List SortDeclaration} {k : ℕ} {d : SortDeclaration} {done : List bytecode.Sort} (below : k < length all) (at : d ≡ get_or all k d) (h : AreMade all (drop k all) done) where
  split : drop k all ≡ d ∷ drop (k + 1) all
  split = drop-at all k d below at

  pub fits_next : IsSort (erased_sort (sort_form d.sort))
  fits_next = (subst (λ (ds : List SortDeclaration). AreSorts (erased_all ds)) split h.fit).0

  pub struct_next : (es : List tree.Enumerator) (s : bytecode.Sort) {more : List bytecode.Sort}
      → erased_sort (sort_form d.sort) ≡ syntax.Sort.Struct (map erased_enumerator (map enumerator_form es))
      → sort_contents s ≡ map (λ (e : tree.Enumerator). string_bytes e.name.text) es → more ≡ done ++ s ∷ [] → AreMade all (drop (k + 1) all) more
  struct_next es s is names pushed =
      let rest = struct_names (erased_all (drop (k + 1) all)) in record {
        fit = (subst (λ (ds : List SortDeclaration). AreSorts (erased_all ds)) split h.fit).1;
        names =
            ap (λ (ss : List bytecode.Sort). map sort_contents ss ++ rest) pushed
            ∙ ap (λ (ss : List SortContents). ss ++ rest) (map_push sort_contents done s)
            ∙ append_assoc (map sort_contents done) (sort_contents s ∷ []) rest
            ∙ ap (λ (ns : SortContents). map sort_contents done ++ ns ∷ rest) (names ∙ sym (names_erased es))
            ∙ ap (λ (t : syntax.Sort). map sort_contents done ++ with_names t rest) (sym is)
            ∙ ap (λ (ds : List SortDeclaration). map sort_contents done ++ struct_names (erased_all ds)) (sym split)
            ∙ h.names;
      }

  pub alias_next : {target : List ℕ} → erased_sort (sort_form d.sort) ≡ syntax.Sort.Alias target → AreMade all (drop (k + 1) all) done
  alias_next is =
      let rest = struct_names (erased_all (drop (k + 1) all)) in record {
        fit = (subst (λ (ds : List SortDeclaration). AreSorts (erased_all ds)) split h.fit).1;
        names =
            ap (λ (t : syntax.Sort). map sort_contents done ++ with_names t rest) (sym is)
            ∙ ap (λ (ds : List SortDeclaration). map sort_contents done ++ struct_names (erased_all ds)) (sym split)
            ∙ h.names;
      }
