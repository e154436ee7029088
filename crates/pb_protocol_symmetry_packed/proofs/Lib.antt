mod Packed
mod Isomorphic
