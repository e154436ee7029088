-- Names that hide nothing: those of enumerators, of elements, of definitions and of written-out
-- steps.
use Rattle.std.specs.Prelude.{List, map}
use Rattle.pb_text_meaning.specs.Syntax.{Name}
use Rattle.pb_protocol_folding.specs.Names.{AreDistinct, AreNot, enumerators_in}
use Rattle.pb_protocol_meaning.specs.Syntax.{Definition, Protocol}
use Rattle.pb_protocol_unfolding.specs.Unfolding.{name_of, all_elements, instances, instance_name}

abbrev pub definition_names : Protocol → List Name
definition_names m = map (λ (d : Definition). d.name) m.definitions

-- the names of a protocol's elements are apart, and none is an enumerator's; no definition has an
-- enumerator's name, so that an enumerator in a set of steps is what it is; the names of its
-- enumerators are apart, and those of its steps with their values
pub record HidesNothing (m : Protocol) : Type 0 where
  pub elements : AreDistinct (map name_of (all_elements m))
  pub enumerators : AreDistinct (enumerators_in m.sorts)
  pub values : AreNot (enumerators_in m.sorts) (map name_of (all_elements m))
  pub definitions : AreNot (enumerators_in m.sorts) (definition_names m)
  pub steps : AreDistinct (map instance_name (instances m))
