mod Carriers
mod Exchanged
mod Instances
mod Moved
mod Packed
mod Properties
mod Uniform
