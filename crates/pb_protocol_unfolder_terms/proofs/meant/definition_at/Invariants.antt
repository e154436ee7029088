use Rattle.std.proofs.Common.{◌≡◌, map, take}
use Rattle.pb_text_meaning.specs.Syntax as syntax
use Rattle.pb_protocol_unfolding.specs.PutIn as spec
use Rattle.pb_protocol_unfolder_terms.specs.Contexts.{definition_of, terms_count}
use Rattle.pb_protocol_unfolder_terms.proofs.meant.definition_at.Given as goal

abbrev pub invariant-loop-place : goal.invariant-loop-place
invariant-loop-place l =
    (sorts : syntax.Spec) (base : spec.Forms) (ts : syntax.Terms) → terms_count ts ≡ l.count
    → spec.with_definitions sorts base (take l.limit (map definition_of l.definitions)) l.name ts
    ≡ spec.with_definitions sorts base (take l.place (map definition_of l.definitions)) l.name ts
