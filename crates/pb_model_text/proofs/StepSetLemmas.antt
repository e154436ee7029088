-- Sets with `||` between them are a chain, and what begins no set.
use Rattle.std.proofs.Common.{◌≡◌, ◌≢◌, ℕ, zero, suc, length, List, [], ◌∷◌, ◌++◌, refl, ap, Err}
use Rattle.std.proofs.lemmas.List.{map-append}
use Rattle.pb_protocol_tree.specs.declared.step_set.StepSetLink.{StepSetLink}
use Rattle.pb_protocol_tree.specs.Form.{StepSetForm}
use Rattle.pb_text_lexer.specs.declared.fault.ReadingRule.TheVariants.{Unexpected, Limit}
use Rattle.pb_text_lexer.specs.declared.kind.Kind.{Kind}
use Rattle.pb_text_lexer.specs.declared.kind.Kind.TheVariants as k
use Rattle.pb_text_lexer.specs.Grammar.{State}
use Rattle.pb_text_lexer.specs.Steps.{Step, refuse, refusal, kind, take_token, chain}
use Rattle.pb_text_lexer.specs.Tokens.{Tok}
use Rattle.pb_text_lexer.proofs.LoopLemmas.{placed}
use Rattle.pb_protocol_tree.specs.Links.{step_set_link, step_set_links}
use Rattle.pb_text_tree.specs.Form.{InstanceForm}
use Rattle.pb_text_terms.specs.Reading.{instance}
use Rattle.pb_model_text.specs.Reading.{set_begun, instances, set, step_set}

pub sets-chain : (depth : ℕ) (s : State) → step_set depth s ≡ chain k.Or (placed k.Or StepSetForm.union (set depth)) (set depth) (suc (length s.tokens)) s
unfolding set step_set
sets-chain zero s = refl
sets-chain (suc depth) s = refl

pub set-links-last : (links : List StepSetLink) (link : StepSetLink) → step_set_links (links ++ link ∷ []) ≡ step_set_links links ++ step_set_link link ∷ []
set-links-last links link = map-append _ links (link ∷ [])

begun-other : (enter : Step Tok) (one several : Step StepSetForm) (named : Step InstanceForm) (kind : Kind) → kind ≢ k.True → kind ≢ k.Name → kind ≢ k.Not → kind ≢ k.Open
    → set_begun enter one several named kind ≡ refuse Unexpected
begun-other enter one several named k.True a b c d = absurd (a refl)
begun-other enter one several named k.Name a b c d = absurd (b refl)
begun-other enter one several named k.Not a b c d = absurd (c refl)
begun-other enter one several named k.Open a b c d = absurd (d refl)
begun-other enter one several named _ a b c d = refl

pub set-other : (depth : ℕ) (s : State) → kind s ≢ k.True → kind s ≢ k.Name → kind s ≢ k.Not → kind s ≢ k.Open → set depth s ≡ Err (refusal Unexpected s.tokens)
unfolding set
set-other zero s a b c d = ap (λ p. p s) (begun-other (refuse Limit) (refuse Limit) (refuse Limit) (instance 0) (kind s) a b c d)
set-other (suc depth) s a b c d = ap (λ p. p s) (begun-other take_token (set depth) (step_set depth) (instance (suc depth)) (kind s) a b c d)

-- the set of a name
pub set-named : (depth : ℕ) (s : State) → kind s ≡ k.Name → set depth s ≡ instances depth s
unfolding set instances
set-named zero s is = ap (λ v. set_begun (refuse Limit) (refuse Limit) (refuse Limit) (instance 0) v s) is
set-named (suc depth) s is = ap (λ v. set_begun take_token (set depth) (step_set depth) (instance (suc depth)) v s) is
