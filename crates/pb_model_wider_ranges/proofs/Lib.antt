mod Choices
mod StaysTrue
mod WithoutCuts
mod Values
mod Ranges
