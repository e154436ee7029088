-- A level of formulas is a chain, and what begins no formula.
use Rattle.std.proofs.Common.{◌≡◌, ◌≢◌, ℕ, zero, suc, length, List, [], ◌∷◌, ◌++◌, refl, sym, subst, ap, ◌∙◌, false, Result, Err}
use Rattle.std.proofs.lemmas.List.{map-append}
use Rattle.pb_text_tree.specs.declared.operator.Connective.{Connective}
use Rattle.pb_text_tree.specs.declared.operator.Connective.TheVariants.{And, Or, Implies}
use Rattle.pb_text_tree.specs.declared.formula.Link.{Link}
use Rattle.pb_text_tree.specs.declared.formula.Formula.{Formula}
use Rattle.pb_text_tree.specs.Form.{FormulaForm, TermForm, InstanceForm, formula_form, link_form, link_forms}
use Rattle.pb_text_lexer.specs.declared.fault.Refusal.{Refusal}
use Rattle.pb_base.specs.declared.or_memory.OrMemory.{OrMemory}
use Rattle.pb_text_lexer.specs.declared.fault.ReadingRule.TheVariants.{Unexpected, Limit}
use Rattle.pb_text_lexer.specs.declared.kind.Kind.{Kind}
use Rattle.pb_text_lexer.specs.declared.kind.Kind.TheVariants as k
use Rattle.pb_text_lexer.specs.Grammar.{State}
use Rattle.pb_text_lexer.specs.Kinds.{same_kind}
use Rattle.pb_text_lexer.specs.Steps.{Step, Outcome, Gives, refuse, refusal, kind, take_token, chain}
use Rattle.pb_text_lexer.specs.Tokens.{Tok}
use Rattle.pb_text_lexer.proofs.LoopLemmas.{placed, resumed-first-fails}
use Rattle.pb_text_terms.specs.Operators.{symbol_kind, is_connective}
use Rattle.pb_text_terms.proofs.ReadLemmas.{resumed-alone-or-fails, no-connective}
use Rattle.pb_text_terms.specs.Reading as expressions
use Rattle.pb_text_formulas.specs.Reading.{begun, data_term, node, formula, quantification, primary, operand, level}

-- a level is a chain of its operands
pub level-chain : (c : Connective) (depth : ℕ) (s : State)
    → level c depth s ≡ chain (symbol_kind c) (placed (symbol_kind c) (FormulaForm.connected c) (operand c depth)) (operand c depth) (suc (length s.tokens)) s
unfolding node formula quantification
level-chain And depth s = refl
level-chain Or depth s = refl
level-chain Implies zero s = refl
level-chain Implies (suc depth) s = refl

pub links-last : (links : List Link) (link : Link) → link_forms (links ++ link ∷ []) ≡ link_forms links ++ link_form link ∷ []
links-last links link = map-append _ links (link ∷ [])

begun-other : (enter : Step Tok) (below inner : Step FormulaForm) (term : Step TermForm) (instance : Step InstanceForm) (kind : Kind)
    → kind ≢ k.Not → kind ≢ k.Open → kind ≢ k.True → kind ≢ k.False → kind ≢ k.Val → kind ≢ k.Name → begun enter below inner term instance kind ≡ refuse Unexpected
begun-other enter below inner term instance k.Not a b c d e f = absurd (a refl)
begun-other enter below inner term instance k.Open a b c d e f = absurd (b refl)
begun-other enter below inner term instance k.True a b c d e f = absurd (c refl)
begun-other enter below inner term instance k.False a b c d e f = absurd (d refl)
begun-other enter below inner term instance k.Val a b c d e f = absurd (e refl)
begun-other enter below inner term instance k.Name a b c d e f = absurd (f refl)
begun-other enter below inner term instance _ a b c d e f = refl

pub node-other : (depth : ℕ) (s : State) → kind s ≢ k.Not → kind s ≢ k.Open → kind s ≢ k.True → kind s ≢ k.False → kind s ≢ k.Val → kind s ≢ k.Name
    → node depth s ≡ Err (refusal Unexpected s.tokens)
unfolding node
node-other zero s a b c d e f = ap (λ p. p s) (begun-other (refuse Limit) (refuse Limit) (refuse Limit) (refuse Limit) (expressions.instance 0) (kind s) a b c d e f)
node-other (suc depth) s a b c d e f =
    ap (λ p. p s) (begun-other take_token (node depth) (formula depth) (data_term depth) (expressions.instance (suc depth)) (kind s) a b c d e f)

-- ---- chains over chains

-- where an operand fails, its chain does
pub level-fails : (c : Connective) (depth : ℕ) (s : State) (bad : Refusal) → operand c depth s ≡ Err bad → level c depth s ≡ Err bad
level-fails c depth s bad fails = level-chain c depth s ∙ resumed-first-fails (symbol_kind c) (FormulaForm.connected c) (operand c depth) (length s.tokens) s bad fails

pub conjunction-fails : (depth : ℕ) (s : State) (bad : Refusal) → level And depth s ≡ Err bad → formula depth s ≡ Err bad
conjunction-fails depth s bad fails = level-fails Implies depth s bad (level-fails Or depth s bad fails)

pub disjunction-fails : (depth : ℕ) (s : State) (bad : Refusal) → level Or depth s ≡ Err bad → formula depth s ≡ Err bad
disjunction-fails depth s bad fails = level-fails Implies depth s bad fails

pub primary-fails : (depth : ℕ) (s : State) (bad : Refusal) → primary depth s ≡ Err bad → formula depth s ≡ Err bad
primary-fails depth s bad fails = conjunction-fails depth s bad (level-fails And depth s bad fails)

-- an operand behind which the connective doesn't stand
pub level-alone-or-fails : (c : Connective) (depth : ℕ) (s z : State) (r : Result Formula (OrMemory Refusal)) → Gives formula_form (operand c depth s) r z → same_kind (kind z) (symbol_kind c) ≡ false
    → Gives formula_form (level c depth s) r z
level-alone-or-fails c depth s z r reads other =
    subst (λ (o : Outcome FormulaForm). Gives formula_form o r z) (sym (level-chain c depth s))
    (resumed-alone-or-fails (symbol_kind c) (FormulaForm.connected c) (operand c depth) formula_form (length s.tokens) s z r reads other)

-- a first part behind which no connective stands
pub primary-alone-or-fails : (depth : ℕ) (s z : State) (r : Result Formula (OrMemory Refusal)) → Gives formula_form (primary depth s) r z → is_connective (kind z) ≡ false
    → Gives formula_form (formula depth s) r z
primary-alone-or-fails depth s z r reads other =
    level-alone-or-fails Implies depth s z r
    (level-alone-or-fails Or depth s z r (level-alone-or-fails And depth s z r reads (no-connective k.And (kind z) refl other)) (no-connective k.Or (kind z) refl other))
    (no-connective k.Implies (kind z) refl other)
