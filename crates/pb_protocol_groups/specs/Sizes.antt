-- Groups that are too large, and those without values.
use Rattle.std.specs.Prelude.{List}
use Rattle.std.specs.List.{list_all}
use Rattle.pb_typing_declarations.specs.declared.fault.TypingRule.TheVariants.{Limit}
use Rattle.pb_typing_declarations.specs.declared.fault.TypingFault.{TypingFault}
use Rattle.pb_typing_declarations.specs.Faults.{unless}
use Rattle.pb_model_tree.specs.Form.{ModelForm}
use Rattle.pb_model_meaning.specs.Erase.{erase}
use Rattle.pb_protocol_packing.specs.Sizes.{has_few}
use Rattle.pb_protocol_packing.specs.Groups.{groups_of}

-- T12 at `init`: a group of several variables has no values together, or too many
abbrev pub size_faults : ModelForm → List TypingFault
size_faults m = unless (list_all has_few (groups_of (erase m))) Limit m.initial.place
