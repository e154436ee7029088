use Rattle.std.proofs.Common.{◌≡◌, ◌+◌, ◌∷◌, [], ◌++◌, List, ℕ, map, take, slice_index_or, arith, sym, ap, ◌∙◌, append_assoc}
use Rattle.std.proofs.lemmas.List.{append-nil}
use Rattle.pb_fixpoint_trees.specs.declared.Token.TheVariants as token
use Rattle.pb_fixpoint_trees.specs.Kinds.{calls_in, kind_of}
use Rattle.pb_fixpoint_trees.proofs.Split.{calls_more, kinds_more, no_call}
use Rattle.pb_fixpoint_trees.proofs.token_lists.push_each.Goals as goal
use Rattle.pb_fixpoint_trees.proofs.token_lists.push_each.Goals.{Joined-token, in-Call, in_default}

kinds : (c : Joined-token) → c.push_reserved.new.self.items ≡ c.args.kinds.now.items ++ map kind_of (take (c.loop-token.token-index + 1) c.args.more.now)
kinds c =
    let i = c.loop-token.token-index in let more = c.args.more.now in let old = c.args.kinds.now.items in
    c.push_reserved.ensures.items
    ∙ (ap (λ k. c.loop-token.kinds.items ++ k ∷ []) c.of.ensures
    ∙ (ap (λ l. l ++ kind_of (slice_index_or more i token.And) ∷ []) c.loop-token.invariant.kinds
    ∙ (append_assoc old (map kind_of (take i more)) _
    ∙ ap (λ l. old ++ l) (sym (kinds_more more i token.And (omega arith))))))

-- the numbers with those of one token more
calls : (c : Joined-token) (new : List ℕ) → new ≡ c.loop-token.calls.items ++ calls_in (slice_index_or c.args.more.now c.loop-token.token-index token.And ∷ [])
    → new ≡ c.args.calls.now.items ++ calls_in (take (c.loop-token.token-index + 1) c.args.more.now)
calls c new is =
    let i = c.loop-token.token-index in let more = c.args.more.now in let old = c.args.calls.now.items in
    is
    ∙ (ap (λ l. l ++ calls_in (slice_index_or more i token.And ∷ [])) c.loop-token.invariant.calls
    ∙ (append_assoc old (calls_in (take i more)) _
    ∙ ap (λ l. old ++ l) (sym (calls_more more i token.And (omega arith)))))

pub loop-token-preserved : goal.loop-token-preserved
loop-token-preserved c =
    let at = (goal.at.loop-token-preserved c).Joined-token in
    elim c.match-token.branch [
      | in-Call w ↦ record {
        kinds = kinds at;
        calls = calls at _ (ap (λ v. v.items) w.calls-is ∙ (w.push_reserved-in-Call.ensures.items ∙ ap (λ t. c.loop-token.calls.items ++ calls_in (t ∷ [])) (sym w.in-Call.is)));
        room_for_kinds = omega arith;
        room_for_calls = let n = w.push_reserved-in-Call.ensures in rw w.calls-is (omega arith);
      }
      | in_default w ↦ record {
        kinds = kinds at;
        calls = calls at _ (ap (λ v. v.items) w.calls-is ∙ (sym (append-nil c.loop-token.calls.items) ∙ ap (λ l. c.loop-token.calls.items ++ l) (sym (no_call _ w.in_default.not-Call))));
        room_for_kinds = omega arith;
        room_for_calls = rw w.calls-is (omega arith);
      }
    ]
