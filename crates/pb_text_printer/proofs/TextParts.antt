-- A text that is written in its parts.
use Rattle.std.proofs.Common.{◌≡◌, ℕ, true, false, List, [], ◌∷◌, ◌++◌, length, refl, sym, ◌∙◌, ap, arith, append_assoc}
use Rattle.std.specs.Prelude.{flat_map, codes, ◌==◌}
use Rattle.std.proofs.lemmas.List.{append-nil}
use Rattle.std.proofs.lemmas.Bool.{eqb-true}
use Rattle.pb_text_tree.specs.declared.name.Name.{Name}
use Rattle.pb_text_tree.specs.declared.variable.Variables.{Variables}
use Rattle.pb_text_tree.specs.Form.{VariableForm, RangeForm, SpecForm, variable_forms}
use Rattle.pb_text_lexer.specs.declared.kind.Kind.TheVariants as k
use Rattle.pb_text_printer.specs.Words.{Word, word, list_word, close_word, semicolon_word, last_of_line, variable_words, parameter_words, range_bytes, sorts_words, equation_words, instance_words, text_words, text_bytes, written}
use Rattle.pb_text_printer.specs.Page.{Page, after, typed, broken}
use Rattle.pb_text_printer.specs.Parts.{are_none, behind_ranges}
use Rattle.pb_text_printer.proofs.PageLemmas.{left, after-written}
use Rattle.pb_text_printer.proofs.VariableParts.{sorted}

-- ---- parameters

names-none : (sort : Name) (ns : List Name) (rest : List VariableForm) → true ≡ (length ns == 0) → are_none (sorted sort ns ++ rest) ≡ are_none rest
names-none sort [] rest none = refl
names-none sort (n ∷ ns) rest none = let zero' : length (n ∷ ns) ≡ 0 = eqb-true (length (n ∷ ns)) 0 (sym none) in absurd (omega (arith, zero'))

names-some : (sort : Name) (ns : List Name) (rest : List VariableForm) → false ≡ (length ns == 0) → are_none (sorted sort ns ++ rest) ≡ false
names-some sort [] rest some = cc
names-some sort (n ∷ ns) rest some = refl

pub group-none : (g : Variables) (gs : List Variables) (ns : List Name) → ns ≡ g.names.items → true ≡ (length ns == 0) → are_none (variable_forms gs) ≡ are_none (variable_forms (g ∷ gs))
group-none g gs ns are none = sym (names-none g.sort ns (variable_forms gs) none) ∙ ap (λ (ms : List Name). are_none (sorted g.sort ms ++ variable_forms gs)) are

pub group-some : (g : Variables) (gs : List Variables) (ns : List Name) → ns ≡ g.names.items → false ≡ (length ns == 0) → are_none (variable_forms (g ∷ gs)) ≡ false
group-some g gs ns are some = ap (λ (ms : List Name). are_none (sorted g.sort ms ++ variable_forms gs)) (sym are) ∙ names-some g.sort ns (variable_forms gs) some

pub parameters : (vs : List VariableForm) → are_none vs ≡ false → list_word ∷ variable_words vs ++ close_word ∷ [] ≡ parameter_words vs
parameters [] some = cc
parameters (v ∷ vs) some = refl

-- ---- bytes

abbrev at_line : List ℕ → Page
at_line b = record { bytes = b; gap = false }

abbrev range_lines : List RangeForm → List ℕ
range_lines rs = flat_map (λ r. range_bytes r ++ 10 ∷ []) rs

pub behind-bytes : (rs : List RangeForm) (b : List ℕ) → behind_ranges rs (record { bytes = b; gap = false }) ≡ record { bytes = b ++ flat_map (λ r. range_bytes r ++ 10 ∷ []) rs; gap = false }
behind-bytes [] b = ap at_line (sym (append-nil b))
behind-bytes (r ∷ rs) b =
    behind-bytes rs ((b ++ range_bytes r) ++ 10 ∷ [])
    ∙ ap at_line (ap (λ (v : List ℕ). v ++ range_lines rs) (append_assoc b (range_bytes r) (10 ∷ [])) ∙ append_assoc b (range_bytes r ++ 10 ∷ []) (range_lines rs))

pub text-written : (s : SpecForm) (p q r t u v w x y : Page) → p ≡ record { bytes = []; gap = false } → q ≡ behind_ranges s.ranges p → r ≡ after (sorts_words s.sorts) q
    → t ≡ typed true true (codes "pbes") r → u ≡ broken t → v ≡ after (flat_map equation_words s.equations) u → w ≡ typed true true (codes "init") v
    → x ≡ after (instance_words s.initial) w → y ≡ after (semicolon_word ∷ []) x → y.bytes ≡ text_bytes s
text-written s p q r t u v w x y empty ranges sorts pbes line equations init instance end =
    let tail : List Word = instance_words s.initial ++ semicolon_word ∷ [] in
    let body : List Word = flat_map equation_words s.equations ++ (word k.Init (codes "init") ∷ tail) in
    let all : y ≡ after (text_words s) q =
    end ∙ left (instance_words s.initial) (semicolon_word ∷ []) w x instance ∙ ap (after tail) init
    ∙ left (flat_map equation_words s.equations) (word k.Init (codes "init") ∷ tail) u v equations ∙ ap (after body) (line ∙ ap broken pbes)
    ∙ left (sorts_words s.sorts) (last_of_line (word k.Pbes (codes "pbes")) ∷ body) q r sorts in
    let start : q ≡ record { bytes = flat_map (λ a. range_bytes a ++ 10 ∷ []) s.ranges; gap = false } = ranges ∙ ap (behind_ranges s.ranges) empty ∙ behind-bytes s.ranges [] in
    ap (λ (a : Page). a.bytes) all ∙ after-written (text_words s) q ∙ ap (λ (a : Page). a.bytes ++ written a.gap (text_words s)) start
