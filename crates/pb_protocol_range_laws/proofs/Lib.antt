mod Unfolded
mod Folded
mod Packed
mod Plain
mod Verdicts
