-- The values of `init` with their variables, as the program holds them.
use denote.Ref.{Bor}
use Rattle.std.specs.Prelude.{List, map}
use Rattle.pb_protocol_packer.specs.View.{term_of, name_bytes}
use Rattle.pb_protocol_packer.specs.InitialPlaces.{Begun}
use Rattle.pb_protocol_packer.specs.declared.beginning.Beginning as declared_beginning

abbrev pub begun_of : declared_beginning.Beginning → Begun
begun_of b = record {
  name = name_bytes b.name.now;
  place = b.value.now.place;
  term = term_of b.value.now.term;
}

-- one behind a reference
abbrev pub begun_by : Bor declared_beginning.Beginning → Begun
begun_by b = begun_of b.now

abbrev pub begun_in : List declared_beginning.Beginning → List Begun
begun_in = map begun_of
