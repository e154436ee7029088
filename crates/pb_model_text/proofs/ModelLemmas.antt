-- The initial state, as it is read.
use Rattle.std.proofs.Common.{◌≡◌, ℕ, List, ap, map, Ok}
use Rattle.pb_text_tree.specs.declared.term.Argument.{Argument}
use Rattle.pb_text_tree.specs.Form.{ArgumentForms, argument_forms}
use Rattle.pb_text_lexer.specs.declared.kind.Kind.TheVariants as k
use Rattle.pb_text_lexer.specs.Grammar.{State}
use Rattle.pb_text_lexer.specs.Steps.{expect}
use Rattle.pb_text_lexer.specs.Tokens.{Tok}
use Rattle.pb_text_terms.specs.Reading.{argument_pair, argument_list, term}
use Rattle.pb_text_terms.proofs.ReadLemmas.{arguments-is}
use Rattle.pb_model_text.specs.ModelReading.{initial_parts}

pub initial-read : (depth : ℕ) (s s1 s2 s3 : State) (t u : Tok) (values : List Argument) → expect k.Init s ≡ Ok (t, s1) → argument_list (term depth) s1 ≡ Ok (map argument_pair values, s2)
    → expect k.Semicolon s2 ≡ Ok (u, s3) → initial_parts depth s ≡ Ok (record { place = t.place; values = argument_forms values }, s3)
unfolding initial_parts
initial-read depth s s1 s2 s3 t u values begins reads ends =
    rw begins (rw reads (rw ends (ap (λ (v : ArgumentForms). Ok (record { place = t.place; values = v }, s3)) (arguments-is values))))
