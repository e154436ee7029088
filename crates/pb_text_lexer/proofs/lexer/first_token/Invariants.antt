use Rattle.std.proofs.Common.{◌≡◌, length}
use Rattle.pb_text_lexer.specs.Remaining.{tokens_from, IsWithin}
use Rattle.pb_text_lexer.proofs.lexer.first_token.Given as goal

abbrev pub invariant-pieces : goal.invariant-pieces
invariant-pieces l = record {
  tokens : tokens_from l.language l.rest 0 l.place ≡ tokens_from l.language l.initial.rest 0 l.initial.place;
  within : IsWithin l.place l.rest;
}

abbrev pub decreases-pieces : goal.decreases-pieces
decreases-pieces l = length l.rest
