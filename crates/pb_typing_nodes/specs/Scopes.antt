-- The program's scopes as the definitions name them: the shapes and the slots of variables.
use Rattle.std.specs.Prelude.{ℕ, suc, List, [], ◌∷◌, Option, Some, if◌then◌else◌, string_bytes}
use Rattle.std.specs.Option.{option_map}
use Rattle.pb_text_tree.specs.declared.name.Name.{Name}
use Rattle.pb_text_meaning.specs.Sorts as slots
use Rattle.pb_text_meaning.specs.Syntax as syntax
use Rattle.pb_text_meaning.specs.Syntax.{same_name}
use Rattle.pb_typing_declarations.specs.Shapes.{Shape}
use Rattle.pb_typing_declarations.specs.Tables.{Table, entry_of}
use Rattle.pb_typing_rules.specs.Scope.{Scope, declare, outermost, shape_or}
use Rattle.pb_typing_tree.specs.Elaboration.{Slotting, unslotted, with_slot}
use Rattle.pb_typing_tree.specs.View.{shape_view}
use Rattle.pb_typing_nodes.specs.declared.scope.Variable.{Variable}
use Rattle.pb_typing_nodes.specs.declared.scope.Scope as program
use Rattle.pb_typing_nodes.specs.declared.scope.Scope.TheVariants.{Outermost, Inner'}

-- an entry that hides others of its name
abbrev pub with_entry : {V : Type 0} → syntax.Name → V → (syntax.Name → Option V) → syntax.Name
    → Option V
with_entry y v look = λ x. if same_name y x then Some v else look x

-- ---- one list of variables

abbrev pub table_view : Table Variable → Scope
table_view table = λ x. option_map (λ (v : Variable). shape_view v.shape) (entry_of table x)

abbrev pub table_slots : Table Variable → Slotting
table_slots table = λ x. option_map (λ (v : Variable). v.slot) (entry_of table x)

-- ---- its variables, and outer ones

abbrev pub inner_view : Table Variable → Scope → Scope
inner_view table outer = λ x. shape_or (table_view table x) (outer x)

abbrev pub inner_slots : Table Variable → Slotting → Slotting
inner_slots table outer = λ x. slots.or_else (table_slots table x) (outer x)

abbrev pub scope_view : program.Scope → Scope
scope_view Outermost = outermost
scope_view (Inner' table p outer) = inner_view table.now (scope_view outer)

abbrev pub slotting : program.Scope → Slotting
slotting Outermost = unslotted
slotting (Inner' table p outer) = inner_slots table.now (slotting outer)

-- ---- some more names, the first first

-- each with the next shape
abbrev pub named_shapes : List Name → List Shape → Scope → Scope
named_shapes [] shapes scope = scope
named_shapes (x ∷ names) [] scope = scope
named_shapes (x ∷ names) (s ∷ shapes) scope =
    named_shapes names shapes (declare (string_bytes x.text) s scope)

-- the next slots being theirs
abbrev pub named_slots : List Name → ℕ → Slotting → Slotting
named_slots [] n c = c
named_slots (x ∷ names) n c = named_slots names (suc n) (with_slot (string_bytes x.text) n c)
