-- What a text has that typing accepts, as compiling wants it.
use Rattle.pb_text_meaning.specs.Syntax.{Spec}
use Rattle.pb_typing_tree.specs.InitialPlace.{HasInitial}
use Rattle.pb_normal.specs.Bounds.{AreBounded, AreSmall}
use Rattle.pb_normal.specs.Structs.{struct_counts, AreFew, HaveDeclaredShapes}

-- The numbers, slots, callees and enumerators of its normal forms fit into code, its structs are
-- few, its parameters and quantified variables are of declared sorts, and its initial instance is
-- one of an equation's.
pub record CanBeCompiled (spec : Spec) : Type 0 where
  pub bounded : AreBounded spec
  pub small : AreSmall spec
  pub structs : AreFew (struct_counts spec.sorts)
  pub shapes : HaveDeclaredShapes spec
  pub initial : HasInitial spec
