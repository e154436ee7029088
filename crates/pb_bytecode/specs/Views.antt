-- What the parts of a module say, without where they lie in memory.
use Rattle.std.specs.Prelude.{List, map, string_bytes}
use Rattle.pb_bytecode_program.specs.declared.version.Version.{Version}
use Rattle.pb_bytecode.specs.declared.name.Name.{Name}
use Rattle.pb_bytecode.specs.declared.sort.Sort.{Sort}
use Rattle.pb_bytecode.specs.declared.equation.Equation.{Equation}
use Rattle.pb_bytecode.specs.declared.initial.Initial.{Initial}
use Rattle.pb_bytecode.specs.Contents.{Text, SortContents, EquationContents, InitialContents, Contents}

abbrev pub text_of : Name → Text
text_of n = string_bytes n.text

abbrev pub sort_contents : Sort → SortContents
sort_contents s = map text_of s.enumerators.items

abbrev pub equation_contents : Equation → EquationContents
equation_contents e = record {
  sign = e.sign;
  name = text_of e.name;
  parameters = e.parameters.items;
  loops = e.loops.items;
  steps = e.steps;
  tokens = e.tokens;
  code = e.code.items;
}

abbrev pub initial_contents : Initial → InitialContents
initial_contents i = record { equation = i.equation; values = i.values.items }

abbrev pub contents_of : Version → List Sort → List Equation → Initial → Contents
contents_of version sorts equations initial = record {
  version = version;
  sorts = map sort_contents sorts;
  equations = map equation_contents equations;
  initial = initial_contents initial;
}
