-- The initial instance by the place of its equation.
pub use Rattle.pb_typing_tree.specs.InitialPlace.{initial_place, initial_values, HasInitial}
