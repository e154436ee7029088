mod Refusals
mod Texts
mod Evidence
