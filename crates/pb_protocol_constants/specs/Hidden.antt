-- The names that come after constants, of which none may be theirs (T02).
use Rattle.std.specs.Prelude.{Bool, not, List, [], ◌++◌, flat_map}
use Rattle.std.specs.Prelude.{◌≡◌, ℕ}
use denote.Ref.{Bor}
use Rattle.std.specs.HashSet.{HashSet, contains_by}
use Rattle.std.specs.List.{list_any}
use Rattle.std.specs.declared.hash.FoldHasher.{FoldHasher}
use Rattle.std.specs.declared.hash.BuildHasherDefault.{BuildHasherDefault}
use Rattle.pb_text_tree.specs.Form.{Named, SortForm, struct, alias}
use Rattle.pb_text_tree.specs.Form.{SortDeclarationForm}
use Rattle.pb_text_meaning.specs.Syntax.{Name, same_name}
use Rattle.pb_typing_declarations.specs.Declarations.{names_of_enumerator, variable_names}
use Rattle.pb_typing_declarations.specs.Faults.{unless}
use Rattle.pb_typing_declarations.specs.declared.fault.TypingFault.{TypingFault}
use Rattle.pb_typing_declarations.specs.declared.fault.TypingRule.TheVariants.{NameTwice}
use Rattle.pb_protocol_tree.specs.Form.{DefinitionForm, ProtocolForm}
use Rattle.pb_protocol_typing.specs.Faults.{declared_names}
use Rattle.pb_protocol_typing.specs.Lists.{protocol_lists}

-- the enumerators and recognisers of a sort
abbrev pub names_of_sort : SortForm → List Named
names_of_sort (struct es) = flat_map names_of_enumerator es
names_of_sort (alias target) = []

abbrev pub names_of_sorts : List SortDeclarationForm → List Named
names_of_sorts ds = flat_map (λ (d : SortDeclarationForm). names_of_sort d.sort) ds

-- and with them state variables, definitions and all variables
abbrev pub later_names : ProtocolForm → List Named
later_names m =
    names_of_sorts m.sorts
    ++ (declared_names m ++ flat_map variable_names (protocol_lists m))

-- whether one of these has a name
abbrev pub is_constant : List DefinitionForm → Name → Bool
is_constant constants x = list_any (λ (d : DefinitionForm). same_name d.name.text x) constants

abbrev pub NameSet : Type 0
NameSet = HashSet (Bor (List ℕ)) (BuildHasherDefault FoldHasher)

-- the names in a set are theirs
abbrev pub AreNamesOf : List DefinitionForm → NameSet → Type 0
AreNamesOf constants names =
    (x : Name) → contains_by (λ (k : Bor (List ℕ)). same_name x k.now) names
    ≡ is_constant constants x

abbrev pub hiding_faults : List DefinitionForm → Named → List TypingFault
hiding_faults constants x = unless (not (is_constant constants x.text)) NameTwice x.place

abbrev pub hidden_faults : List DefinitionForm → ProtocolForm → List TypingFault
hidden_faults constants m = flat_map (hiding_faults constants) (later_names m)
