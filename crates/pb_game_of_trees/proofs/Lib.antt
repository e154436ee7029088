pub mod Rising
pub mod Opened
pub mod First
pub mod Reading
pub mod LaidOut
pub mod AroundLeaf
pub mod Rows
mod RowRanges
pub mod Reached
pub mod Closing
pub mod EquationLevels
pub mod LowPriorities
pub mod Sums
mod Appending
pub mod PartsOf
pub mod Vertices
pub mod Built
pub mod Searched
pub mod Sizes
pub mod Placed
pub mod Refused
pub mod Dense
pub mod DraftLengths
