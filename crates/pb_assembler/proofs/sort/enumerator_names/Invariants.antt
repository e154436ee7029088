use Rattle.std.proofs.Common.{◌≡◌, true, ◌++◌, drop, map, string_bytes}
use Rattle.std.specs.List.{list_all}
use Rattle.pb_text_tree.specs.declared.sort.Enumerator.{Enumerator}
use Rattle.pb_bytecode.specs.Names.{is_module_name}
use Rattle.pb_bytecode.specs.Views.{text_of}
use Rattle.pb_assembler.proofs.sort.enumerator_names.Given as goal

-- the names of the enumerators that are left come behind those so far
abbrev pub invariant-loop-enumerator : goal.invariant-loop-enumerator
invariant-loop-enumerator l = record {
  named : list_all (λ (e : Enumerator). is_module_name (string_bytes e.name.text)) (drop l.enumerator-index l.enumerators) ≡ true;
  made : map text_of l.names.items ++ map (λ (e : Enumerator). string_bytes e.name.text) (drop l.enumerator-index l.enumerators) ≡ map (λ (e : Enumerator). string_bytes e.name.text) l.enumerators;
}
