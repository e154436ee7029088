use Rattle.std.proofs.Common.{◌≡◌, cond, ◌∙◌, ap, Option, Some}
use Rattle.pb_text_meaning.specs.Syntax.{Name, same_name}
use Rattle.pb_typing_declarations.specs.Tables.{entry_of}
use Rattle.pb_typing_declarations.proofs.Filling.{put_in}
use Rattle.pb_typing_nodes.specs.Scopes.{with_entry}
use Rattle.pb_typing_nodes.proofs.variables.with_name.Goals as goal

-- what is looked up, for a key that is the name
at_name : {V : Type 0} (look old : Name → Option V) (v : V) (key name : Name) → look ≡ (λ x. cond (same_name key x) (Some v) (old x)) → key ≡ name → (x : Name) → look x ≡ with_entry name v old x
at_name {V} look old v key name put is x = ap (λ (f : Name → Option V). f x) put ∙ ap (λ (y : Name). with_entry y v old x) is

pub returns : goal.returns
returns g c =
    at_name (entry_of c.insert.new.self) (entry_of c.args.table) c.args.value c.as_str.result.now _
    (put_in c.args.table c.insert.new.self c.as_str.result c.args.value c.in_ok-insert.ensures.updates) c.as_str.ensures.value
