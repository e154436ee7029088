-- What is read right is so where it is asked to begin with a token of a kind.
use Rattle.std.proofs.Common.{◌≡◌, ℕ, suc, Bool, true, false, List, [], ◌∷◌, sym, subst}
use Rattle.pb_text_lexer.specs.declared.kind.Kind.{Kind}
use Rattle.pb_text_lexer.specs.declared.kind.Kind.TheVariants as k
use Rattle.pb_text_lexer.specs.Kinds.{is_last}
use Rattle.pb_text_lexer.specs.Tokens.{Tok}
use Rattle.pb_text_lexer.specs.Grammar.{State}
use Rattle.pb_text_lexer.specs.Steps.{head_kind, Step}
use Rattle.pb_text_lexer.proofs.Correct.{Family, Readable, Answering, HeadIs}
use Rattle.pb_text_lexer.proofs.CorrectSeries.{Passes}
use Rattle.pb_text_lexer.proofs.CorrectPlain.{Always}
use Rattle.pb_model_text.specs.Grammar.{Beginning}
use Rattle.pb_model_text.proofs.CorrectFirst.{asked-answers}

-- a list with a first token of a kind begins with one of it, unless that is the end's
pub begins : (kind : Kind) (ts : List Tok) → is_last kind ≡ false → head_kind ts ≡ kind → HeadIs kind ts
begins kind [] other e = let no : is_last k.End ≡ false = subst (λ (v : Kind). is_last v ≡ false) (sym e) other in cc
begins kind (t ∷ ts) other e = e

pub beginning-answers : {X : Type 0} (fam : Family X) (g : Kind → Bool) (depth : ℕ) (kind : Kind) → ((d : ℕ) (s : State) (y : X) (z : State) → fam d s y z → Passes (λ kind. true) s.tokens)
    → Readable (λ d. Beginning kind (fam d)) (suc depth) → (p : Step X) → Answering Always p fam g depth → Answering (HeadIs kind) p (λ d. Beginning kind (fam d)) g depth
beginning-answers fam g depth kind = asked-answers (HeadIs kind) (λ ts. head_kind ts ≡ kind) (λ f a b h. h) fam g depth
