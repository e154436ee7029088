mod Satisfied
mod Declared
mod Translated
