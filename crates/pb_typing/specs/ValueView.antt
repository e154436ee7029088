-- The program's values, as the definitions name them.
use Rattle.std.specs.Prelude.{List, ◌∷◌, ◌++◌, map}
use Rattle.pb_typing_declarations.specs.Shapes.{Shape, Truths}
use Rattle.pb_typing_tree.specs.View.{term_view, term_views, formula_view, formula_views}
use Rattle.pb_typing_tree.specs.View.{shape_view}
use Rattle.pb_typing.specs.Value as values
use Rattle.pb_typing.specs.Value.{Data, Whole}
use Rattle.pb_typing.specs.declared.joined.Value.{Value}
use Rattle.pb_typing.specs.declared.joined.Value.TheVariants as value
use Rattle.pb_typing.specs.declared.joined.Joined.{Joined}
use Rattle.pb_typing.specs.declared.joined.Joined.TheVariants as state

abbrev pub value_view : Value → values.TermValue
value_view (value.Data x) = Data (term_view x.term)
value_view (value.Formula f) = Whole (formula_view f)

abbrev pub value_views : List Value → List values.TermValue
value_views = map value_view

abbrev pub value_shape : Value → Shape
value_shape (value.Data x) = shape_view x.shape
value_shape (value.Formula f) = Truths

-- the operands so far
abbrev pub pieces : Joined → List values.TermValue
pieces (state.Terms first links) = Data (term_view first) ∷ map Data (term_views links.items)
pieces (state.Formulas first links behind) =
    Whole (formula_view first)
    ∷ (map Whole (formula_views links.items) ++ map Data (term_views behind.items))
