use Rattle.std.proofs.Common.{◌≡◌, ◌+◌, ◌*◌, ◌-◌, ◌≤◌, length, vec_len}
use Rattle.pb_protocol_tree.specs.Form.{StepSetForm}
use Rattle.pb_text_lexer.specs.Grammar.{State}
use Rattle.pb_text_terms.specs.Readers.{HasRead}
use Rattle.pb_text_lexer.specs.declared.kind.Kind.TheVariants.{Or}
use Rattle.pb_text_lexer.proofs.LoopLemmas.{resumed}
use Rattle.pb_protocol_tree.specs.Links.{step_set_links}
use Rattle.pb_model_text.specs.Reading.{set, step_set}
use Rattle.pb_model_text.proofs.step_set.+step_sets.Given as goal

abbrev pub decreases-bracketed : goal.decreases-bracketed
decreases-bracketed l = l.depth * 4

abbrev pub decreases-set : goal.decreases-set
decreases-set l = l.depth * 4 + 1

abbrev pub decreases-links_behind : goal.decreases-links_behind
decreases-links_behind l = l.depth * 4 + 2

abbrev pub decreases-step_set : goal.decreases-step_set
decreases-step_set l = l.depth * 4 + 3

abbrev pub invariant-links_behind-links : goal.invariant-links_behind-links
invariant-links_behind-links l = record {
  reads : (s : State) (x : StepSetForm) → HasRead (set l.depth) x l.fn.input s
      → step_set l.depth s ≡ resumed Or StepSetForm.union (set l.depth) (length s.tokens - vec_len l.links) x (step_set_links l.links.items) l.input;
  room : vec_len l.links + length l.input.tokens ≤ length l.fn.input.tokens;
}

abbrev pub decreases-links_behind-links : goal.decreases-links_behind-links
decreases-links_behind-links l = length l.input.tokens
