mod CommandLine
mod NamedFiles
mod OneWord
