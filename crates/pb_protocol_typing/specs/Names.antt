-- Names, by their texts.
use Rattle.std.specs.Prelude.{List, map, string_bytes}
use Rattle.pb_text_tree.specs.declared.name.Name as declared_name
use Rattle.pb_text_meaning.specs.Syntax.{Name}

abbrev pub name_texts : List declared_name.Name → List Name
name_texts = map (λ (n : declared_name.Name). string_bytes n.text)
