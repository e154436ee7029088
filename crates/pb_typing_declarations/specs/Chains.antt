-- Chains of aliases whose ends are known.
use Rattle.std.specs.Prelude.{◌≡◌, ℕ, suc, ◌+◌, Option}
use Rattle.std.specs.Option.{ForSome}
use Rattle.pb_text_meaning.specs.Syntax.{Name}
use Rattle.pb_typing_declarations.specs.declared.ends.Chain.{Chain}
use Rattle.pb_typing_declarations.specs.Shapes.{Definition, Bounds, Endless, end_within}
use Rattle.pb_typing_declarations.specs.Entries.{end_shown}
use Rattle.pb_typing_declarations.specs.Tables.{Table, entry_of}

-- the chain from a sort has this end behind so many aliases, and none through fewer sorts
pub record IsChain (bounds : Name → Option Bounds) (definition : Name → Option Definition)
    (s : Name) (chain : Chain) : Type 0 where
  pub ends : (n : ℕ)
      → end_within (suc (chain.aliases + n)) bounds definition s ≡ end_shown chain.end
  pub goes_on : end_within chain.aliases bounds definition s ≡ Endless

-- each chain of a table is one
abbrev pub AreChains : (Name → Option Bounds) → (Name → Option Definition) → Table Chain → Type 0
AreChains bounds definition chains =
    (s : Name) → ForSome (entry_of chains s) (IsChain bounds definition s)
