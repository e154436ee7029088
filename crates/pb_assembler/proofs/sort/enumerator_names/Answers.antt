use Rattle.std.proofs.Common.{◌≡◌, ◌∙◌, ◌+◌, ◌++◌, ◌∷◌, [], ap, sym, subst, true, ℕ, List, drop, map, string_bytes}
use Rattle.std.proofs.lemmas.Bool.{and_parts}
use Rattle.std.proofs.lemmas.List.{append-nil, append_assoc, drop_all, map_push}
use Rattle.std.specs.List.{list_all}
use Rattle.pb_text_tree.specs.declared.sort.Enumerator.{Enumerator}
use Rattle.pb_sorts.proofs.Places.{drop-at}
use Rattle.pb_bytecode.specs.Names.{is_module_name}
use Rattle.pb_bytecode.specs.Views.{text_of}
use Rattle.pb_bytecode.specs.declared.name.Name.{Name}
use Rattle.pb_assembler.proofs.sort.enumerator_names.Goals as goal

abbrev text : Enumerator → List ℕ
text e = string_bytes e.name.text

pub loop-enumerator-preserved : goal.loop-enumerator-preserved
loop-enumerator-preserved c =
    let all = c.args.enumerators.now in
    let k = c.loop-enumerator.enumerator-index in
    let e = c.enumerator-item.result in
    let done = c.loop-enumerator.names.items in
    let n = c.in_ok-name.name in
    let split : drop k all ≡ e ∷ drop (k + 1) all = drop-at all k e c.loop-enumerator-test.true c.enumerator-item.is in
    let rest = map text (drop (k + 1) all) in
    record {
      named =
          (and_parts (is_module_name (text e)) (list_all (λ (x : Enumerator). is_module_name (text x)) (drop (k + 1) all))
          (subst (λ (es : List Enumerator). list_all (λ (x : Enumerator). is_module_name (text x)) es ≡ true) split c.loop-enumerator.invariant.named)).1;
      made =
          ap (λ (ns : List Name). map text_of ns ++ rest) c.in_ok-push.ensures.items
          ∙ ap (λ (ts : List (List ℕ)). ts ++ rest) (map_push text_of done n)
          ∙ append_assoc (map text_of done) (text_of n ∷ []) rest
          ∙ ap (λ (t : List ℕ). map text_of done ++ t ∷ rest) (c.in_ok-name.ensures ∙ c.deref.ensures)
          ∙ ap (λ (es : List Enumerator). map text_of done ++ map text es) (sym split)
          ∙ c.loop-enumerator.invariant.made;
    }

pub returns : goal.returns
returns c =
    let all = c.args.enumerators.now in
    let done = c.loop-enumerator.names.items in
    sym (append-nil (map text_of done))
    ∙ ap (λ (es : List Enumerator). map text_of done ++ map text es) (sym (drop_all c.loop-enumerator.enumerator-index all c.loop-enumerator-test.false))
    ∙ c.loop-enumerator.invariant.made
