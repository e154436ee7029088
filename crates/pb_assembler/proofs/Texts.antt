-- What is known of an accepted text.
use Rattle.std.proofs.Common.{◌≡◌, zero, suc, true, List, [], ◌∷◌, arith}
use Rattle.std.specs.List.{All}
use Rattle.pb_text_tree.specs.Form.{SpecForm}
use Rattle.pb_text_meaning.specs.Erase.{erase}
use Rattle.pb_text_meaning.specs.Syntax.{SortDeclaration, Spec, Sort, Struct, Alias}
use Rattle.pb_typing_declarations.specs.WellDeclared.{IsWellDefined}
use Rattle.pb_typing.specs.Typed.{is_faultless}
use Rattle.pb_assembler.specs.Compiled.{IsSort, AreSorts}
use Rattle.pb_assembler.proofs.Names.{has_enumerator_names}
use Rattle.std.specs.List.{list_all}
use Rattle.std.proofs.lemmas.Bool.{and_parts}
use Rattle.pb_typing.proofs.Accepted.{accepted-well-typed}

-- its structs are few, where their names are such as a module may have
sorts_ready : (spec : Spec) (ds : List SortDeclaration) → All (λ (d : SortDeclaration). IsWellDefined spec d.name d.sort) ds → list_all has_enumerator_names ds ≡ true → AreSorts ds
sorts_ready spec [] all named = tt
sorts_ready spec (d ∷ ds) all named =
    let two = and_parts (has_enumerator_names d) (list_all has_enumerator_names ds) named in
    (by d.sort (all zero d (omega arith)) two.0, sorts_ready spec ds (λ k x b. all (suc k) x (omega arith)) two.1)
  where
    by : (s : Sort) → IsWellDefined spec d.name s
        → list_all (λ e. Rattle.pb_bytecode.specs.Names.is_module_name e.name) (Rattle.pb_typing_declarations.specs.WellDeclared.enumerators s) ≡ true → IsSort s
    by (Struct es) h n = (h.1, n)
    by (Alias t) h n = tt

pub accepted_sorts : (text : SpecForm) → is_faultless text ≡ true → list_all has_enumerator_names (erase text).sorts ≡ true → AreSorts (erase text).sorts
accepted_sorts text e named = sorts_ready (erase text) (erase text).sorts (accepted-well-typed text e).declarations.defined named
