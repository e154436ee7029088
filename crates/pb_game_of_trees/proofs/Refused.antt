-- What a refused game says of its rows.
use Rattle.std.proofs.Common.{◌≡◌, ℕ, ◌<◌, ◌≤◌, ◌↔◌, List, Result, Ok, Err, refl, arith}
use Rattle.std.specs.Prelude.{IsErrAnd}
use Rattle.pb_fixpoint_trees.specs.Tree.{Tree}
use Rattle.pb_fixpoint_trees.specs.Equations.{Signature}
use Rattle.pb_fixpoint_trees.specs.Rows.{Row}
use Rattle.pb_fixpoint_trees.specs.Row.{TokenRow}
use Rattle.pb_fixpoint_trees.specs.Reached.{rows_of, AreRowsOf}
use Rattle.pb_sorts.specs.declared.counting.Counting.{Counting}
use Rattle.pb_game_of_trees.specs.VertexLimit.{vertex_limit}
use Rattle.pb_base.specs.OrMemory.{OnRefused}
use Rattle.pb_base.specs.declared.or_memory.OrMemory.{OrMemory}
use Rattle.pb_base.specs.declared.or_memory.OrMemory.TheVariants.{Refused, Memory}
use Rattle.pb_game_of_trees.specs.declared.tree_game.TooManyVertices.{TooManyVertices}
use Rattle.pb_game_of_trees.specs.declared.places.Laid.{Laid}
use Rattle.pb_game_of_trees.specs.Held.{Hold}
use Rattle.pb_game_of_trees.specs.Places.{vertex_behind, IsSizeOf}
use Rattle.pb_game_of_trees.specs.TreeGame.{HasTooManyVertices, IsRefusedExactly}
use Rattle.pb_game_of_trees.proofs.Built.{hold, size_is}

-- the vertices of the rows would be more than the limit
abbrev pub Exceeds : ℕ → List TokenRow → Type 0
Exceeds limit rows = (plain : List Row) → Hold rows plain → limit < vertex_behind plain 2

-- they are no more than that
abbrev pub Fits : ℕ → List TokenRow → Type 0
Fits limit rows = (plain : List Row) → Hold rows plain → vertex_behind plain 2 ≤ limit

-- what is not laid out is refused exactly where it is too large
abbrev pub IsLaidExactly : ℕ → Result Laid (OrMemory TooManyVertices) → List TokenRow → Type 0
IsLaidExactly limit result rows = (plain : List Row) → Hold rows plain → (result ≡ Err (Refused (record {}))) ↔ (limit < vertex_behind plain 2)

pub rightly_refused : {limit : ℕ} {rows : List TokenRow} → Exceeds limit rows → IsLaidExactly limit (Err (Refused (record {}))) rows
rightly_refused exceeds = λ plain hold. (λ _. exceeds plain hold, λ _. refl)

pub not_laid : {limit : ℕ} {result : Result Laid (OrMemory TooManyVertices)} {rows : List TokenRow} → (result ≡ Err (Refused (record {})) → ⊥) → Fits limit rows → IsLaidExactly limit result rows
not_laid other fits = λ plain hold. (λ e. absurd (other e), λ more. absurd (omega (arith, more, fits plain hold)))

-- the game is refused where its rows are
pub refused_alike : {X : Type 0} (counting : Counting) {limit : ℕ} → limit ≡ vertex_limit counting → {signatures : List Signature} {rows : List TokenRow}
    {laid : Result Laid (OrMemory TooManyVertices)} {result : Result X (OrMemory TooManyVertices)}
    {fault error : OrMemory TooManyVertices} → laid ≡ Err fault → result ≡ Err error → error ≡ fault → IsLaidExactly limit laid rows →
    IsRefusedExactly counting result signatures rows
refused_alike counting at {signatures} {rows} e r same exactly = λ trees of. (
  λ refused. omega (arith, at, (exactly (rows_of trees rows) (hold of)).0 cc, size_is of),
  λ more. let refused = (exactly (rows_of trees rows) (hold of)).1 (omega (arith, at, more, size_is of)) in cc,
)

pub not_refused : {X : Type 0} (counting : Counting) {limit : ℕ} → limit ≡ vertex_limit counting →
    {result : Result X (OrMemory TooManyVertices)} {signatures : List Signature} {rows : List TokenRow} →
    (result ≡ Err (Refused (record {})) → ⊥) → {size : ℕ} → IsSizeOf rows size → size ≤ limit → IsRefusedExactly counting result signatures rows
not_refused counting at {result} {signatures} {rows} other {size} is small = λ trees of. (
  λ e. absurd (other e),
  λ more. absurd (omega (arith, at, more, small, is (rows_of trees rows) (hold of), size_is of)),
)

-- nor is it where memory is wanted for what comes behind the rows
pub not_for_memory : {X : Type 0} (counting : Counting) {limit : ℕ} → limit ≡ vertex_limit counting → (result : Result X (OrMemory TooManyVertices)) {signatures : List Signature}
    {rows : List TokenRow} → IsErrAnd result (λ error. error ≡ Memory) →
    {size : ℕ} → IsSizeOf rows size → size ≤ limit → IsRefusedExactly counting result signatures rows
not_for_memory counting at (Ok built) is = absurd is
not_for_memory counting at (Err error) is = not_refused counting at (λ e. cc)

-- what is made of a draft is refused where the draft is
pub refused_as_drafted : {X Y : Type 0} (counting : Counting) {signatures : List Signature} {rows : List TokenRow}
    {drafted : Result X (OrMemory TooManyVertices)} {result : Result Y (OrMemory TooManyVertices)}
    {fault error : OrMemory TooManyVertices} → drafted ≡ Err fault → result ≡ Err error → error ≡ fault →
    IsRefusedExactly counting drafted signatures rows → IsRefusedExactly counting result signatures rows
refused_as_drafted counting d r same exactly = λ trees of. (
  λ refused. (exactly trees of).0 cc,
  λ more. let was = (exactly trees of).1 more in cc,
)

-- and where there is a draft, it isn't
pub not_refused_after : {X Y : Type 0} (counting : Counting) {signatures : List Signature} {rows : List TokenRow}
    {drafted : Result X (OrMemory TooManyVertices)} {x : X} {result : Result Y (OrMemory TooManyVertices)} → drafted ≡ Ok x →
    (result ≡ Err (Refused (record {})) → ⊥) → IsRefusedExactly counting drafted signatures rows → IsRefusedExactly counting result signatures rows
not_refused_after counting d other exactly = λ trees of. (
  λ e. absurd (other e),
  λ more. absurd (let was = (exactly trees of).1 more in cc),
)

pub not_for_memory_after : {X Y : Type 0} (counting : Counting) {signatures : List Signature} {rows : List TokenRow}
    {drafted : Result X (OrMemory TooManyVertices)} {x : X} (result : Result Y (OrMemory TooManyVertices)) → drafted ≡ Ok x →
    IsErrAnd result (λ error. error ≡ Memory) → IsRefusedExactly counting drafted signatures rows → IsRefusedExactly counting result signatures rows
not_for_memory_after counting (Ok built) d is exactly = absurd is
not_for_memory_after counting (Err error) d is exactly = not_refused_after counting d (λ e. cc) exactly

pub too_large : {X : Type 0} (counting : Counting) (signatures : List Signature) (rows : List TokenRow)
    (result : Result X (OrMemory TooManyVertices)) → IsRefusedExactly counting result signatures rows
    → OnRefused result ((trees : ℕ → Tree) → AreRowsOf signatures trees rows
    → HasTooManyVertices counting signatures trees rows)
too_large counting signatures rows (Ok built) exactly = tt
too_large counting signatures rows (Err Memory) exactly = tt
too_large counting signatures rows (Err (Refused fault)) exactly = λ trees are. (exactly trees are).0 refl
