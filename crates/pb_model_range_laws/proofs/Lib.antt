mod Tests
mod Called
mod Contrary
mod Whole
