-- What is read as an operand is free of words.
use Rattle.std.specs.Prelude.{codes, flat_map, if◌then◌else◌}
use Rattle.std.proofs.Common.{◌≡◌, ℕ, zero, suc, Bool, true, false, not, ◌&&◌, List, [], ◌∷◌, ◌++◌, refl, sym, ap, ◌∙◌, subst, inl, inr}
use Rattle.std.proofs.lemmas.Bool.{or_from}
use Rattle.std.proofs.lemmas.Slice.Eq.{bytes_eq-Decides}
use Rattle.pb_fixpoint.specs.declared.Sign.{Sign}
use Rattle.pb_fixpoint.specs.declared.Sign.TheVariants as sign
use Rattle.pb_text_tree.specs.declared.place.Place.{Place}
use Rattle.pb_text_tree.specs.declared.operator.Connective.{Connective}
use Rattle.pb_text_tree.specs.declared.operator.Connective.TheVariants as connective
use Rattle.pb_text_tree.specs.declared.operator.Quantifier.{Quantifier}
use Rattle.pb_text_tree.specs.declared.operator.Quantifier.TheVariants.{Forall, Exists}
use Rattle.pb_text_tree.specs.Form.{Named, TermForm, InstanceForm, ArgumentForms, no_arguments, argument, VariableForm, chained}
use Rattle.pb_text_lexer.specs.declared.kind.Kind.{Kind}
use Rattle.pb_text_lexer.specs.declared.kind.Kind.TheVariants as k
use Rattle.pb_text_lexer.specs.Kinds.{same_kind}
use Rattle.pb_text_lexer.specs.Grammar.{State, Reads, ◌>>=◌, Is, Nothing, First, by_first}
use Rattle.pb_text_lexer.specs.LeftGrammar.{Extended, Linked, grouped}
use Rattle.pb_text_lexer.specs.OpenGrammar as open_grammar
use Rattle.pb_text_lexer.specs.OpenGrammar.{Chained, Either, Conjunction, Disjunction}
use Rattle.pb_text_lexer.specs.Steps.{head_kind, head_text}
use Rattle.pb_text_lexer.specs.Tokens.{Tok}
use Rattle.pb_text_lexer.proofs.TokenLemmas.{same-kind}
use Rattle.pb_text_meaning.specs.Syntax.{Name, Variable, same_name, Spec}
use Rattle.pb_text_meaning.specs.Erase.{erased_variables}
use Rattle.pb_text_terms.specs.Operators.{connected_by, computed_by, is_times, is_division, is_additive}
use Rattle.pb_text_terms.specs.Grammar.{applied, Equated, Placed, QuantifiedBy, Quantified, IsUnary, Instance}
use Rattle.pb_text_terms.specs.Grammar as terms
use Rattle.pb_text_terms.proofs.TermStarts as starts
use Rattle.pb_model_tree.specs.declared.formula.Modality.{Modality}
use Rattle.pb_model_tree.specs.declared.formula.Modality.TheVariants as modality
use Rattle.pb_model_meaning.specs.Syntax as flat
use Rattle.pb_protocol_tree.specs.Form.{StepSetForm, FormulaForm}
use Rattle.pb_protocol_meaning.specs.Erase.{erased_formula}
use Rattle.pb_protocol_meaning.specs.Syntax.{Protocol}
use Rattle.pb_protocol_meaning.specs.Steps.{data_of}
use Rattle.pb_protocol_unfolding.specs.PutIn.{TermScope, copies}
use Rattle.pb_protocol_unfolding.specs.Unfolding.{unfolded_formula, joined_formulas, conjunction, disjunction}
use Rattle.pb_protocol_unfolding.specs.Written.{written_values}
use Rattle.pb_model_text.specs.declared.word.Prefix.{Prefix}
use Rattle.pb_model_text.specs.declared.word.Prefix.TheVariants as prefix
use Rattle.pb_model_text.specs.declared.word.Leading.{Leading}
use Rattle.pb_model_text.specs.declared.word.Leading.TheVariants as leading
use Rattle.pb_model_text.specs.declared.word.Infix.{Infix}
use Rattle.pb_model_text.specs.declared.word.Infix.TheVariants as between
use Rattle.pb_model_text.specs.Words.{is_word, no_deadlock, fair, unfair_to, unfair_to_others, prefixed, infixed}
use Rattle.pb_model_text.specs.Grammar.{FixpointNames, is_bound, atom_of, Atom, Modal, Begun, begins_word, Wordless, LedBy, Led, Worded, Joined, Fair, Binding, FixpointBy, Fixpoint, Binder, Connections, within, within_fair, IsStepSet, IsProcesses, IsPlain, IsFair, IsFormula}
use Rattle.pb_model_run_laws.specs.Free.{is_free}
use Rattle.pb_model_run_laws.specs.Patterns.{written_out}
use Rattle.pb_model_run_laws.specs.FreeOperands.{OperandsAreFreeOfWords}

abbrev HasNoWord : FormulaForm → Type 0
HasNoWord f = (m : Protocol) (ρ : TermScope) (x : Name) → is_word x ≡ true → is_free x (written_out m ρ f) ≡ false

-- ---- nodes

connected_words : (c : Connective) (p : Place) (f g : FormulaForm) → HasNoWord f → HasNoWord g → HasNoWord (FormulaForm.connected c p f g)
connected_words connective.And p f g h i m ρ x w = or_from _ _ (h m ρ x w) (i m ρ x w)
connected_words connective.Or p f g h i m ρ x w = or_from _ _ (h m ρ x w) (i m ρ x w)
connected_words connective.Implies p f g h i m ρ x w = or_from _ _ (h m ρ x w) (i m ρ x w)

modal_words : (kind : Modality) (p : Place) (A : StepSetForm) (f : FormulaForm) → HasNoWord f → HasNoWord (FormulaForm.modal kind p A f)
modal_words modality.Box p A f h m ρ x w = h m ρ x w
modal_words modality.Diamond p A f h m ρ x w = h m ρ x w

-- in a fixpoint its own variable isn't free
bound : (X x : Name) (c : Bool) → (same_name X x ≡ false → c ≡ false) → (not (same_name X x) && c) ≡ false
bound X x c h = by (same_name X x) h
  where
    by : (b : Bool) → (b ≡ false → c ≡ false) → (not b && c) ≡ false
    by true h = refl
    by false h = h refl

fixpoint_words : (sign : Sign) (p : Place) (X : Named) (f : FormulaForm) → HasNoWord f → HasNoWord (FormulaForm.fixpoint sign p X f)
fixpoint_words sign p X f h m ρ x w = bound X.text x _ (λ e. h m ρ x w)

abbrev EachIs : {A : Type 0} → (A → Type 0) → List A → Type 0
EachIs P [] = Unit {0}
EachIs P (x ∷ xs) = P x × EachIs P xs

each_append : {A : Type 0} (P : A → Type 0) (xs ys : List A) → EachIs P xs → EachIs P ys → EachIs P (xs ++ ys)
each_append P [] ys h i = i
each_append P (x ∷ xs) ys h i = (h.0, each_append P xs ys h.1 i)

each_flat : {A B : Type 0} (P : A → Type 0) (f : B → List A) (xs : List B) → ((b : B) → EachIs P (f b)) → EachIs P (flat_map f xs)
each_flat P f [] h = tt
each_flat P f (x ∷ xs) h = each_append P (f x) (flat_map f xs) (h x) (each_flat P f xs h)

each_copy : {A : Type 0} (P : A → Type 0) (spec : Spec) (xs : List Variable) (f : TermScope → A) (ρ : TermScope) → ((σ : TermScope) → P (f σ)) → EachIs P (copies spec xs f ρ)
each_copy P spec [] f ρ h = (h ρ, tt)
each_copy P spec (x ∷ xs) f ρ h = each_flat P (λ k. copies spec xs f ((x.name, k) ∷ ρ)) (written_values spec x.sort) (λ k. each_copy P spec xs f ((x.name, k) ∷ ρ) h)

abbrev IsFree : Name → flat.Formula → Type 0
IsFree x f = is_free x f ≡ false

conjunction_words : (x : Name) (fs : List flat.Formula) → EachIs (IsFree x) fs → is_free x (conjunction fs) ≡ false
conjunction_words x [] h = refl
conjunction_words x (f ∷ fs) h = or_from _ _ h.0 (conjunction_words x fs h.1)

disjunction_words : (x : Name) (fs : List flat.Formula) → EachIs (IsFree x) fs → is_free x (disjunction fs) ≡ false
disjunction_words x [] h = refl
disjunction_words x (f ∷ fs) h = or_from _ _ h.0 (disjunction_words x fs h.1)

joined_words : (q : Quantifier) (x : Name) (fs : List flat.Formula) → EachIs (IsFree x) fs → is_free x (joined_formulas q fs) ≡ false
joined_words Forall x fs h = conjunction_words x fs h
joined_words Exists x fs h = disjunction_words x fs h

quantified_words : (q : Quantifier) (p : Place) (vs : List VariableForm) (f : FormulaForm) → HasNoWord f → HasNoWord (FormulaForm.quantified q p vs f)
quantified_words q p vs f h m ρ x w =
    joined_words q x _ (each_copy (IsFree x) (data_of m) (erased_variables vs) (λ σ. unfolded_formula m σ (erased_formula f)) ρ (λ σ. h m σ x w))

-- ---- what words stand for

prefixed_words : (word : Prefix) (p : Place) (f : FormulaForm) → HasNoWord f → HasNoWord (prefixed word p f)
prefixed_words prefix.Always p f h m ρ x w = bound (codes "always") x _ (λ e. or_from _ _ (h m ρ x w) e)
prefixed_words prefix.Possibly p f h m ρ x w = bound (codes "possibly") x _ (λ e. or_from _ _ (h m ρ x w) e)
prefixed_words prefix.Inevitably p f h m ρ x w = bound (codes "inevitably") x _ (λ e. or_from _ _ (h m ρ x w) e)

no_deadlock_words : (p : Place) → HasNoWord (no_deadlock p)
no_deadlock_words p m ρ x w = bound (codes "no_deadlock") x _ (λ e. e)

infixed_words : (word : Infix) (p : Place) (f g : FormulaForm) → HasNoWord f → HasNoWord g → HasNoWord (infixed word p f g)
infixed_words between.Until p f g h i m ρ x w = bound (codes "until") x _ (λ e. or_from _ _ (i m ρ x w) (or_from _ _ (h m ρ x w) e))
infixed_words between.LeadsTo p f g h i m ρ x w = bound (codes "leads_to") x _ (λ e. or_from _ _ e (or_from _ _ (h m ρ x w) (prefixed_words prefix.Inevitably p g i m ρ x w)))

fair_words : (p : Place) (A : StepSetForm) (others : List StepSetForm) (f : FormulaForm) → HasNoWord f → HasNoWord (fair p A others f)
fair_words p A others f h m ρ x w = bound (codes "fair") x _ (λ e. all A others e)
  where
    one : (A : StepSetForm) → same_name (codes "fair") x ≡ false → is_free x (written_out m ρ (unfair_to p f A)) ≡ false
    one A e = bound (codes "inevitably") x _ (λ i. or_from _ _ (h m ρ x w) (or_from _ _ e (or_from _ _ e i)))

    all : (A : StepSetForm) (others : List StepSetForm) → same_name (codes "fair") x ≡ false
        → is_free x (written_out m ρ (chained (FormulaForm.connected connective.Or) (unfair_to p f A) (unfair_to_others p f others))) ≡ false
    all A [] e = one A e
    all A (B ∷ others) e = or_from _ _ (one A e) (all B others e)

-- ---- data: a name alone is the first token

abbrev NameIs : List ℕ → TermForm → Type 0
NameIs text (TermForm.name n) = n.text ≡ text
NameIs text _ = Unit {0}

applied_name : (text : List ℕ) (n : Named) (xs : ArgumentForms) → n.text ≡ text → NameIs text (applied n xs)
applied_name text n no_arguments e = e
applied_name text n (argument p x xs) e = tt

head-text-at : (ts us : List Tok) (t : Tok) → ts ≡ t ∷ us → t.text ≡ head_text ts
head-text-at ts us t e = sym (ap head_text e)

instance_name : (Term : Reads TermForm) (s m : State) (i : InstanceForm) → Instance Term s i m → i.name.text ≡ head_text s.tokens
instance_name Term s m i (inl a) = ap (λ v. v.name.text) a.3.0 ∙ ap (λ v. v.text) a.2.3.0 ∙ head-text-at s.tokens a.2.1.tokens a.2.0 a.2.2.0
instance_name Term s m i (inr a) = ap (λ v. v.name.text) a.3.3.0 ∙ ap (λ v. v.name.text) a.2.3.0 ∙ ap (λ v. v.text) a.2.2.3.0 ∙ head-text-at s.tokens a.2.2.1.tokens a.2.2.0 a.2.2.2.0

begun_name : (d : ℕ) (s z : State) (x : TermForm) → starts.kinds d k.Name s x z → NameIs (head_text s.tokens) x
begun_name d s z x a = subst (NameIs (head_text s.tokens)) (sym a.3.0) (applied_name _ a.0.name a.0.arguments (instance_name _ s a.1 a.0 a.2))

unary_name : (d : ℕ) (s z : State) (x : TermForm) → head_kind s.tokens ≡ k.Name → IsUnary d s x z → NameIs (head_text s.tokens) x
unary_name d s z x is r = at s.tokens s.operators is (starts.from-unary d s x z r)
  where
    at : (ts : List Tok) (n : ℕ) → head_kind ts ≡ k.Name → First (starts.kinds d) (record { tokens = ts; operators = n }) x z → NameIs (head_text ts) x
    at [] n is q = absurd q
    at (t ∷ ts) n is q = begun_name d (record { tokens = t ∷ ts; operators = n }) z x (subst (λ v. starts.kinds d v (record { tokens = t ∷ ts; operators = n }) x z) is q)

grouped_name : (text : List ℕ) (x : TermForm) (links : List (Tok × TermForm)) → NameIs text x → NameIs text (grouped computed_by x links)
grouped_name text x [] h = h
grouped_name text x (link ∷ links) h = grouped_name text (computed_by x link.0 link.1) links tt

linked_name : (text : List ℕ) (test : Kind → Bool) (Item : Reads TermForm) (x : TermForm) (s z : State) (y : TermForm) → NameIs text x → Linked test computed_by Item x s y z → NameIs text y
linked_name text test Item x s z y h r = subst (NameIs text) (sym r.3.0) (grouped_name text x r.0 h)

equated_name : (d : ℕ) (s z : State) (x : TermForm) → head_kind s.tokens ≡ k.Name → Equated (IsUnary d) s x z → NameIs (head_text s.tokens) x
equated_name d s z x is r = equality z x r
  where
    text : List ℕ
    text = head_text s.tokens

    product : (z : State) (x : TermForm) → terms.Product (IsUnary d) s x z → NameIs text x
    product z x (inl q) = unary_name d s z x is q
    product z x (inr q) = either q.3
      where
        either : Either (Linked is_times computed_by (IsUnary d) q.0) (Linked is_division computed_by (IsUnary d) q.0) q.1 x z → NameIs text x
        either (inl a) = linked_name text is_times (IsUnary d) q.0 q.1 z x (unary_name d s q.1 q.0 is q.2) a
        either (inr a) = linked_name text is_division (IsUnary d) q.0 q.1 z x (unary_name d s q.1 q.0 is q.2) a

    sum : (z : State) (x : TermForm) → terms.Sum (IsUnary d) s x z → NameIs text x
    sum z x (inl q) = product z x q
    sum z x (inr q) = linked_name text is_additive (terms.Product (IsUnary d)) q.0 q.1 z x (product q.1 q.0 q.2) q.3

    ordered : (z : State) (x : TermForm) → terms.Ordered (IsUnary d) s x z → NameIs text x
    ordered z x (inl q) = sum z x q
    ordered z x (inr q) = subst (NameIs text) (sym q.3.3.3.0) tt

    equality : (z : State) (x : TermForm) → Equated (IsUnary d) s x z → NameIs text x
    equality z x (inl q) = ordered z x q
    equality z x (inr q) = subst (NameIs text) (sym q.3.3.3.0) tt

-- ---- a name that is no word is no variable of a word's fixpoint

other-name : (a x : Name) → is_word a ≡ false → is_word x ≡ true → same_name a x ≡ false
other-name a x without with_word = by (same_name a x) refl
  where
    by : (b : Bool) → same_name a x ≡ b → b ≡ false
    by false e = refl
    by true e = let same : a ≡ x = (bytes_eq-Decides a x).0 e in let q : true ≡ false = sym with_word ∙ ap is_word (sym same) ∙ without in cc

atom_words : (scope : FixpointNames) (p : Place) (x : TermForm) (text : List ℕ) → NameIs text x → is_word text ≡ false → HasNoWord (atom_of scope p x)
atom_words scope p (TermForm.name n) text named without m ρ x w = by (is_bound scope n.text)
  where
    by : (b : Bool) → is_free x (written_out m ρ (if b then FormulaForm.variable n else FormulaForm.«data» p (TermForm.name n))) ≡ false
    by true = other-name n.text x (ap is_word named ∙ without) w
    by false = refl
atom_words scope p _ text named without m ρ x w = refl

no-word : (ts : List Tok) → head_kind ts ≡ k.Name → begins_word ts ≡ false → is_word (head_text ts) ≡ false
no-word [] is without = cc
no-word (t ∷ ts) is without = sym (ap (λ b. b && is_word t.text) (ap (λ v. same_kind v k.Name) is ∙ same-kind k.Name)) ∙ without

-- ---- the grammar

abbrev Says : {X : Type 0} → (X → Type 0) → Reads X → Type 0
Says {X} P R = (s : State) (x : X) (z : State) → R s x z → P x

-- where what is read begins with no word
abbrev SaysWordless : {X : Type 0} → (X → Type 0) → Reads X → Type 0
SaysWordless {X} P R = (s : State) (x : X) (z : State) → begins_word s.tokens ≡ false → R s x z → P x

says_any : {X : Type 0} (P : X → Type 0) (R : Reads X) → Says P R → SaysWordless P R
says_any P R says s x z without r = says s x z r

says_is : {X : Type 0} (P : X → Type 0) (x : X) → P x → Says P (Is x)
says_is P x h s y z r = subst P (sym r.0) h

says_nothing : {X : Type 0} (P : X → Type 0) → Says P (Nothing {X = X})
says_nothing P s y z r = absurd r

says_then : {X Y : Type 0} (P : X → Type 0) (Q : Y → Type 0) (R : Reads X) (S : X → Reads Y) → Says P R → ((x : X) → P x → Says Q (S x)) → Says Q (R >>= S)
says_then P Q R S first next s y z r = next r.0 (first s r.0 r.1 r.2) r.1 y z r.3

says_behind : {X Y : Type 0} (Q : Y → Type 0) (R : Reads X) (S : X → Reads Y) → ((x : X) → Says Q (S x)) → Says Q (R >>= S)
says_behind Q R S next s y z r = next r.0 r.1 y z r.3

says_first : {X : Type 0} (P : X → Type 0) (R : Kind → Reads X) → ((kind : Kind) → Says P (R kind)) → Says P (First R)
says_first {X} P R each s x z r = by s.tokens r
  where
    by : (ts : List Tok) → by_first R ts s x z → P x
    by [] q = absurd q
    by (t ∷ ts) q = each t.kind s x z q

says_either : {X : Type 0} (P : X → Type 0) (A B : Reads X) → Says P A → Says P B → Says P (Either A B)
says_either P A B a b s x z (inl r) = a s x z r
says_either P A B a b s x z (inr r) = b s x z r

says_extended : {X : Type 0} (P : X → Type 0) (Item : Reads X) (More : X → Reads X) → Says P Item → ((x : X) → P x → Says P (More x)) → Says P (Extended Item More)
says_extended P Item More item next s x z (inl r) = item s x z r
says_extended P Item More item next s x z (inr r) = says_then P P Item More item next s x z r

says_chained : {X : Type 0} (P : X → Type 0) (kind : Kind) (join : X → Tok → X → X) (Closed Open : Reads X) → ((x : X) (t : Tok) (y : X) → P x → P y → P (join x t y))
    → Says P Closed → Says P Open → Says P (Chained kind join Closed Open)
says_chained P kind join Closed Open joins closed opened s x z (open_grammar.last r) = opened s _ z r
says_chained P kind join Closed Open joins closed opened s x z (open_grammar.more {m = m} {o = o} {x = a} {y = b} {t = t} r p rs) =
    joins a t b (closed s a m r) (says_chained P kind join Closed Open joins closed opened o b z rs)

says_modal : (kind : Modality) (closing : Kind) (Node : Reads FormulaForm) (Sets : Reads StepSetForm) (t : Tok) → Says HasNoWord Node → Says HasNoWord (Modal kind closing Node Sets t)
says_modal kind closing Node Sets t node =
    says_behind HasNoWord _ _ (λ A. says_behind HasNoWord _ _ (λ c. says_then HasNoWord HasNoWord Node _ node (λ f h. says_is HasNoWord _ (modal_words kind t.place A f h))))

data_given : (Unary : Reads TermForm) → Says HasNoWord (Atom FormulaForm.«data» Unary)
data_given Unary = says_behind HasNoWord _ _ (λ found. says_is HasNoWord _ (λ m ρ x w. refl))

module _ (scope : FixpointNames) (Node Formula : Reads FormulaForm) (d : ℕ) (Sets : Reads StepSetForm) (node : Says HasNoWord Node) (formula : Says HasNoWord Formula) where
  name_given : SaysWordless HasNoWord (Begun scope Node Formula (IsUnary d) Sets k.Name)
  name_given s y z without r =
      let found = r.1.0 in
      subst HasNoWord (sym r.1.3.0) (atom_words scope found.0 found.1 (head_text s.tokens) (equated_name d s r.1.1 found.1 r.0 r.1.2.0) (no-word s.tokens r.0 without))

  begun_given : (kind : Kind) → SaysWordless HasNoWord (Begun scope Node Formula (IsUnary d) Sets kind)
  begun_given k.Not = says_any HasNoWord _ (says_behind HasNoWord _ _ (λ t. says_then HasNoWord HasNoWord Node _ node (λ f h. says_is HasNoWord _ h)))
  begun_given k.Open = says_any HasNoWord _ (says_behind HasNoWord _ _ (λ t. says_then HasNoWord HasNoWord Formula _ formula (λ f h. says_behind HasNoWord _ _ (λ c. says_is HasNoWord f h))))
  begun_given k.OpenSquare = says_any HasNoWord _ (says_behind HasNoWord _ _ (λ t. says_modal modality.Box k.CloseSquare Node Sets t node))
  begun_given k.Less = says_any HasNoWord _ (says_behind HasNoWord _ _ (λ t. says_modal modality.Diamond k.Greater Node Sets t node))
  begun_given k.True = says_any HasNoWord _ (says_behind HasNoWord _ _ (λ t. says_is HasNoWord _ (λ m ρ x w. refl)))
  begun_given k.False = says_any HasNoWord _ (says_behind HasNoWord _ _ (λ t. says_is HasNoWord _ (λ m ρ x w. refl)))
  begun_given k.Val = says_any HasNoWord _ (says_behind HasNoWord _ _ (λ t. says_behind HasNoWord _ _ (λ x. says_is HasNoWord _ (λ m ρ x w. refl))))
  begun_given k.Name = name_given
  begun_given k.Number = λ s y z without r. data_given (IsUnary d) s y z r.1
  begun_given k.Minus = λ s y z without r. data_given (IsUnary d) s y z r.1
  begun_given _ = λ s y z without r. absurd r

  first_given : SaysWordless HasNoWord (First (Begun scope Node Formula (IsUnary d) Sets))
  first_given s y z without r = by s.tokens r
    where
      by : (ts : List Tok) → by_first (Begun scope Node Formula (IsUnary d) Sets) ts s y z → HasNoWord y
      by [] q = absurd q
      by (t ∷ ts) q = begun_given t.kind s y z without q

wordless_given : (Plain : Reads FormulaForm) → SaysWordless HasNoWord Plain → Says HasNoWord (Wordless Plain)
wordless_given Plain plain s y z r = plain s y z r.0 r.1

fair_given : (Sets : Reads (StepSetForm × List StepSetForm)) (Operand : Reads FormulaForm) → Says HasNoWord Operand → (p : Place) → Says HasNoWord (Fair Sets Operand p)
fair_given Sets Operand operand p =
    says_behind HasNoWord _ _ (λ sets. says_then HasNoWord HasNoWord Operand _ operand (λ f h. says_is HasNoWord _ (fair_words p sets.0 sets.1 f h)))

module _ (scope : FixpointNames) (Behind : Place → Reads FormulaForm) (behind : (p : Place) → Says HasNoWord (Behind p)) where
  led_by_given : (Operand : Reads FormulaForm) → Says HasNoWord Operand → (word : Leading) (p : Place) → Says HasNoWord (LedBy Behind Operand word p)
  led_by_given Operand operand leading.NoDeadlock p = says_is HasNoWord _ (no_deadlock_words p)
  led_by_given Operand operand leading.Fair p = behind p
  led_by_given Operand operand (leading.Before word) p = says_then HasNoWord HasNoWord Operand _ operand (λ f h. says_is HasNoWord _ (prefixed_words word p f h))

  worded_given : (Plain : Reads FormulaForm) → SaysWordless HasNoWord Plain → Says HasNoWord (Worded scope Behind Plain)
  worded_given Plain plain =
      says_either HasNoWord (Wordless Plain) (Led scope Behind (Wordless Plain)) (wordless_given Plain plain)
      (says_behind HasNoWord _ _ (λ word. led_by_given (Wordless Plain) (wordless_given Plain plain) word.0 word.1))

joined_given : (Node : Reads FormulaForm) → Says HasNoWord Node → Says HasNoWord (Joined Node)
joined_given Node node =
    says_extended HasNoWord Node _ node (λ f h. says_behind HasNoWord _ _ (λ word.
    says_then HasNoWord HasNoWord Node _ node (λ g i. says_is HasNoWord _ (infixed_words word.0 word.1 f g h i))))

binding_given : (sign : Sign) (p : Place) (Body : List ℕ → Reads FormulaForm) → ((name : List ℕ) → Says HasNoWord (Body name)) → Says HasNoWord (Binding sign p Body)
binding_given sign p Body body =
    says_behind HasNoWord _ _ (λ n. says_behind HasNoWord _ _ (λ t. says_then HasNoWord HasNoWord _ _ (body n.text) (λ f h. says_is HasNoWord _ (fixpoint_words sign p n f h))))

fixpoint_given : (Body : List ℕ → Reads FormulaForm) → ((name : List ℕ) → Says HasNoWord (Body name)) → (kind : Kind) → Says HasNoWord (FixpointBy Body kind)
fixpoint_given Body body k.Mu = says_behind HasNoWord _ _ (λ t. binding_given sign.Mu t.place Body body)
fixpoint_given Body body k.Nu = says_behind HasNoWord _ _ (λ t. binding_given sign.Nu t.place Body body)
fixpoint_given Body body _ = says_nothing HasNoWord

quantifier_given : (q : Quantifier) (p : Place) (Formula : Reads FormulaForm) → Says HasNoWord Formula → Says HasNoWord (terms.Binding (FormulaForm.quantified q p) Formula)
quantifier_given q p Formula formula =
    says_behind HasNoWord _ _ (λ vs. says_behind HasNoWord _ _ (λ t. says_then HasNoWord HasNoWord Formula _ formula (λ f h. says_is HasNoWord _ (quantified_words q p vs f h))))

quantified_given : (Formula : Reads FormulaForm) → Says HasNoWord Formula → (kind : Kind) → Says HasNoWord (QuantifiedBy FormulaForm.quantified Formula kind)
quantified_given Formula formula k.Forall = says_behind HasNoWord _ _ (λ t. quantifier_given Forall t.place Formula formula)
quantified_given Formula formula k.Exists = says_behind HasNoWord _ _ (λ t. quantifier_given Exists t.place Formula formula)
quantified_given Formula formula _ = says_nothing HasNoWord

binder_given : (Body : List ℕ → Reads FormulaForm) (Formula : Reads FormulaForm) → ((name : List ℕ) → Says HasNoWord (Body name)) → Says HasNoWord Formula → Says HasNoWord (Binder Body Formula)
binder_given Body Formula body formula =
    says_either HasNoWord (Fixpoint Body) (Quantified FormulaForm.quantified Formula) (says_first HasNoWord (FixpointBy Body) (fixpoint_given Body body))
    (says_first HasNoWord (QuantifiedBy FormulaForm.quantified Formula) (quantified_given Formula formula))

connections_given : (Node Bound : Reads FormulaForm) → Says HasNoWord Node → Says HasNoWord Bound → Says HasNoWord (Connections Node Bound)
connections_given Node Bound node bound =
    let join = connected_by FormulaForm.connected in
    let Open = Either Node Bound in
    let open_end = says_either HasNoWord Node Bound node bound in
    let conjunction = says_chained HasNoWord k.And (join k.And) Node Node (λ x t y h i. connected_words connective.And t.place x y h i) node node in
    let conjunction_end = says_chained HasNoWord k.And (join k.And) Node Open (λ x t y h i. connected_words connective.And t.place x y h i) node open_end in
    let disjunction =
    says_chained HasNoWord k.Or (join k.Or) (Conjunction join Node Node) (Conjunction join Node Node)
    (λ x t y h i. connected_words connective.Or t.place x y h i) conjunction conjunction in
    let disjunction_end =
    says_chained HasNoWord k.Or (join k.Or) (Conjunction join Node Node) (Conjunction join Node Open)
    (λ x t y h i. connected_words connective.Or t.place x y h i) conjunction conjunction_end in
    says_chained HasNoWord k.Implies (join k.Implies) (Disjunction join Node Node) (Disjunction join Node Open)
    (λ x t y h i. connected_words connective.Implies t.place x y h i) disjunction disjunction_end

mutual
  plain_given : (scope : FixpointNames) (depth : ℕ) → SaysWordless HasNoWord (IsPlain scope depth)
  plain_given scope zero = first_given scope Nothing Nothing zero Nothing (says_nothing HasNoWord) (says_nothing HasNoWord)
  plain_given scope (suc depth) =
      first_given scope (Worded scope (IsFair scope depth) (IsPlain scope depth)) (IsFormula scope depth) (suc depth) (IsStepSet depth)
      (worded_given scope (IsFair scope depth) (behind_fair_given scope depth) (IsPlain scope depth) (plain_given scope depth)) (formula_given scope depth)

  behind_fair_given : (scope : FixpointNames) (depth : ℕ) (p : Place) → Says HasNoWord (IsFair scope depth p)
  behind_fair_given scope zero p = says_nothing HasNoWord
  behind_fair_given scope (suc depth) p =
      fair_given (IsProcesses (suc depth)) (Wordless (IsPlain (within_fair scope) depth)) (wordless_given (IsPlain (within_fair scope) depth) (plain_given (within_fair scope) depth)) p

  formula_given : (scope : FixpointNames) (depth : ℕ) → Says HasNoWord (IsFormula scope depth)
  formula_given scope zero =
      connections_given _ (Binder (λ name. Nothing) Nothing)
      (joined_given _ (worded_given scope (λ p. Nothing) (λ p. says_nothing HasNoWord) _ (first_given scope Nothing Nothing zero Nothing (says_nothing HasNoWord) (says_nothing HasNoWord))))
      (binder_given (λ name. Nothing) Nothing (λ name. says_nothing HasNoWord) (says_nothing HasNoWord))
  formula_given scope (suc depth) =
      connections_given _ (Binder (λ name. IsFormula (within scope name) depth) (IsFormula scope depth))
      (joined_given _ (worded_given scope (Fair (IsProcesses (suc depth)) (Wordless (IsPlain (within_fair scope) depth)))
      (fair_given (IsProcesses (suc depth)) (Wordless (IsPlain (within_fair scope) depth)) (wordless_given (IsPlain (within_fair scope) depth) (plain_given (within_fair scope) depth))) _
      (first_given scope (Worded scope (IsFair scope depth) (IsPlain scope depth)) (IsFormula scope depth) (suc depth) (IsStepSet depth)
      (worded_given scope (IsFair scope depth) (behind_fair_given scope depth) (IsPlain scope depth) (plain_given scope depth)) (formula_given scope depth))))
      (binder_given (λ name. IsFormula (within scope name) depth) (IsFormula scope depth) (λ name. formula_given (within scope name) depth) (formula_given scope depth))

pub operands_have_no_word : OperandsAreFreeOfWords
operands_have_no_word scope depth s z p r m ρ x w =
    worded_given scope (IsFair scope depth) (behind_fair_given scope depth) (IsPlain scope depth) (plain_given scope depth) s p z r m ρ x w
