-- Normal forms of the operands of a connective, one by one; quantifiers.
use Rattle.std.proofs.Common.{◌≡◌, ℕ, suc, ◌+◌, ◌-◌, ◌<◌, ◌≤◌, Bool, List, [], ◌∷◌, ◌++◌, length, get_or, drop, refl, sym, ◌∙◌, ap, arith, Vec, Global, Box}
use Rattle.std.specs.Prelude.{box_value}
use Rattle.std.proofs.lemmas.List.{append-nil, append_assoc, length-drop, length-map, drop_all, map-append}
use Rattle.pb_sorts.specs.declared.carrier.Carrier.{Carrier}
use Rattle.pb_sorts.proofs.Places.{drop-at}
use Rattle.pb_text_tree.specs.declared.operator.Connective.{Connective}
use Rattle.pb_text_tree.specs.declared.operator.Quantifier.{Quantifier}
use Rattle.pb_typing_declarations.specs.Entries.{shape_of}
use Rattle.pb_typing_rules.specs.Faults.{left_parity, operand_parity}
use Rattle.pb_typing_tree.specs.Tree as tree
use Rattle.pb_typing_tree.specs.Tree.{Connected}
use Rattle.pb_typing_tree.specs.View as typed
use Rattle.pb_typing_tree.specs.declared.formula.Formula as declared
use Rattle.pb_normal.specs.declared.formula.Formula as code
use Rattle.pb_fixpoint_trees.specs.declared.junction.Junction.{Junction}
use Rattle.pb_normal.specs.Chains.{joins}
use Rattle.pb_normal.specs.Normal.{Formula, Join, Each}
use Rattle.pb_normal.specs.Normalisation.{signed_quantifier}
use Rattle.pb_normal.specs.SignedForm.{signed_form, signed_operands}
use Rattle.pb_normal.specs.View.{chained_formula, nested, formula_view, formula_views}

-- a chain of one connective is one node
pub chained-signed : (o : Connective) (even : Bool) (first : tree.Formula) (fs : List tree.Formula)
    → signed_form even (chained_formula (Connected o) first fs) ≡ chained_formula (Join (joins o even)) (signed_form (operand_parity o even (length fs)) first) (signed_operands o even fs)
chained-signed o even first [] = refl
chained-signed o even first (f ∷ fs) = ap (Join (joins o even) (signed_form (left_parity o even) first)) (chained-signed o even f fs)

-- one quantifier for each carrier
pub nested-signed : (q : Quantifier) (even : Bool) (s : ℕ) (cs : List Carrier) (f : tree.Formula)
    → signed_form even (typed.nested q s cs f) ≡ nested (signed_quantifier q even) s cs (signed_form even f)
nested-signed q even s [] f = refl
nested-signed q even s (c ∷ cs) f = ap (Each (signed_quantifier q even) s (shape_of c)) (nested-signed q even (suc s) cs f)

pub quantified-signed : (even : Bool) (m : Quantifier) (t x : declared.Formula) (q : Quantifier) (slot : ℕ)
    (v : Vec Carrier Global) (body : Box declared.Formula Global) (cs : List Carrier) (f : Formula)
    → t ≡ declared.Quantified q slot v body → x ≡ box_value body → cs ≡ v.items → m ≡ signed_quantifier q even
    → f ≡ signed_form even (typed.formula_view x) → nested m slot cs f ≡ signed_form even (typed.formula_view t)
quantified-signed even m t x q slot v body cs f is same are sign form =
    ap (λ (r : Quantifier). nested r slot cs f) sign
    ∙ (ap (nested (signed_quantifier q even) slot cs) form
    ∙ (sym (nested-signed q even slot cs (typed.formula_view x))
    ∙ ap (signed_form even)
    (ap (λ (ds : List Carrier). typed.nested q slot ds (typed.formula_view x)) are
    ∙ (ap (λ (y : declared.Formula). typed.nested q slot v.items (typed.formula_view y)) same
    ∙ sym (ap typed.formula_view is)))))

-- the normal forms of operands of the code
abbrev pub signed_links : Connective → Bool → List declared.Formula → List Formula
signed_links o even links = signed_operands o even (typed.formula_views links)

-- so many operands are in normal form
abbrev pub AreSigned : Connective → Bool → List declared.Formula → ℕ → List code.Formula → Type 0
AreSigned o even links k done = signed_links o even links ≡ formula_views done ++ signed_links o even (drop k links)

pub signed_next : (o : Connective) (even p : Bool) (links : List declared.Formula) (k : ℕ) (link : declared.Formula) (f : code.Formula) (done more : List code.Formula)
    → k < length links → link ≡ get_or links k link → p ≡ operand_parity o even (length links - k - 1) → more ≡ done ++ f ∷ [] → formula_view f ≡ signed_form p (typed.formula_view link)
    → AreSigned o even links k done → AreSigned o even links (k + 1) more
signed_next o even p links k link f done more below at parity pushed form h =
    let left = drop (k + 1) links in
    let rest = signed_links o even left in
    let count : length (typed.formula_views left) ≡ length links - k - 1 = length-map left typed.formula_view ∙ omega (arith, length-drop (k + 1) links) in
    h
    ∙ (ap (λ (ls : List declared.Formula). formula_views done ++ signed_links o even ls) (drop-at links k link below at)
    ∙ (ap (λ (n : ℕ). formula_views done ++ signed_form (operand_parity o even n) (typed.formula_view link) ∷ rest) count
    ∙ (ap (λ (q : Bool). formula_views done ++ signed_form q (typed.formula_view link) ∷ rest) (sym parity)
    ∙ (ap (λ (g : Formula). formula_views done ++ g ∷ rest) (sym form)
    ∙ (sym (append_assoc (formula_views done) (formula_view f ∷ []) rest)
    ∙ (ap (λ (fs : List Formula). fs ++ rest) (sym (map-append formula_view done (f ∷ []))) ∙ ap (λ (fs : List code.Formula). formula_views fs ++ rest) (sym pushed)))))))

pub signed_ended : (o : Connective) (even : Bool) (links : List declared.Formula) (k : ℕ) (done : List code.Formula)
    → length links ≤ k → AreSigned o even links k done → formula_views done ≡ signed_links o even links
signed_ended o even links k done end h =
    sym (h ∙ (ap (λ (ls : List declared.Formula). formula_views done ++ signed_links o even ls) (drop_all k links end) ∙ append-nil (formula_views done)))

-- the first operand, and those behind it
pub chain-signed : (o : Connective) (even : Bool) (m : Junction) (first : tree.Formula) (links : List declared.Formula) (f : Formula) (fs : List Formula)
    → m ≡ joins o even → f ≡ signed_form (operand_parity o even (length links)) first → fs ≡ signed_links o even links
    → chained_formula (Join m) f fs ≡ signed_form even (chained_formula (Connected o) first (typed.formula_views links))
chain-signed o even m first links f fs joined head behind =
    let others = typed.formula_views links in
    ap (λ (n : Junction). chained_formula (Join n) f fs) joined
    ∙ (ap (λ (g : Formula). chained_formula (Join (joins o even)) g fs) (head ∙ ap (λ (n : ℕ). signed_form (operand_parity o even n) first) (sym (length-map links typed.formula_view)))
    ∙ (ap (chained_formula (Join (joins o even)) (signed_form (operand_parity o even (length others)) first)) behind
    ∙ sym (chained-signed o even first others)))
