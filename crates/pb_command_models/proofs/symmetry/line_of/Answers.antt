-- The line of a set that may be permuted, or that there is none.
use Rattle.std.proofs.Common.{◌≡◌, ◌∙◌, ◌++◌, Option, List, ℕ, ap, sym, subst, inl, inr, string_bytes, codes}
use Rattle.std.specs.Prelude.{IfSome}
use Rattle.pb_protocol_tree.specs.Form.{protocol_form}
use Rattle.pb_protocol_tree.specs.declared.protocol.Protocol.{Protocol}
use Rattle.pb_base_values.specs.Carrier.{Carrier}
use Rattle.pb_text_meaning.specs.Syntax.{Name}
use Rattle.pb_protocol_scalar_sets.specs.Lines.{symmetry_line}
use Rattle.pb_protocol_scalar_sets.specs.Sorts.{spec_of}
use Rattle.pb_property_symmetry.specs.declared.permutable.Permutable.{Permutable}
use Rattle.pb_command_models.specs.Symmetries.{IsPermutableAt}
use Rattle.pb_command_models.proofs.symmetry.line_of.Goals as goal
use Rattle.pb_command_models.proofs.symmetry.line_of.Goals.{in-Some+in_ok-push_symmetry-in-Some, in-None+in_ok-push_str-in-None}

same_line : (a b : Protocol) (x y : Name) (M N : Carrier) → a ≡ b → x ≡ y → M ≡ N → symmetry_line (spec_of a) x M ≡ symmetry_line (spec_of b) y N
same_line a b x y M N same is are = ap (λ (m : Protocol). symmetry_line (spec_of m) x M) same ∙ (ap (λ (s : Name). symmetry_line (spec_of b) s M) is ∙ ap (symmetry_line (spec_of b) y) are)

pub returns : goal.returns
returns c place permutable p at =
    elim c.match-found.branch [
      | in-Some+in_ok-push_symmetry-in-Some w ↦
          let x = w.in-Some.found in
          let m = c.args.protocol.now in
          let there : IsPermutableAt (protocol_form m) place x = subst (λ (o : Option Permutable). IfSome o (IsPermutableAt (protocol_form m) place)) w.in-Some.is permutable in
          let set = w.set.result in
          let line = ap string_bytes w.line-is ∙ (w.in_ok-push_symmetry-in-Some.ensures
          ∙ (ap (λ (b : List ℕ). b ++ symmetry_line (spec_of set.protocol.now) set.sort.now set.moved.now) c.new-line.ensures.bytes
          ∙ same_line set.protocol.now m set.sort.now x.sort.now set.moved.now x.elements.items w.set.ensures.protocol w.set.ensures.sort w.set.ensures.moved)) in
          inr (x.sort.now, x.elements.items, there p at, line)
      | in-None+in_ok-push_str-in-None w ↦
          inl (ap string_bytes w.line-is ∙ (w.in_ok-push_str-in-None.ensures.bytes ∙ ap (λ (b : List ℕ). b ++ codes "no symmetry\n") c.new-line.ensures.bytes))
    ]
