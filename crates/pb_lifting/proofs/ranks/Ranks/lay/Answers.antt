use Rattle.std.proofs.Common.{◌≡◌, ◌-◌, refl, sym, ap, ◌∙◌, subst, arith}
use Rattle.pb_exploration_words.specs.Views.{dealt, MayDeal}
use Rattle.pb_lifting.specs.declared.view.Key.{Key}
use Rattle.pb_lifting.specs.declared.view.RankView.{RankView}
use Rattle.pb_lifting.specs.Rule.{first_view, rest_view, kept_view, given_view}
use Rattle.pb_lifting.specs.Seats.{lift_view}
use Rattle.pb_lifting.proofs.Seating.{rule, marks, may_deal, first_rest, fresh_at}
use Rattle.pb_lifting.proofs.ranks.Ranks.lay.Goals as goal

pub deal-requires-clause-parts : goal.deal-requires-clause-parts
deal-requires-clause-parts c =
    let key = c.in_ok-words.words.inner.shared.key in
    let workers : key.workers ≡ c.args.workers.number = ap (λ (k : Key). k.workers) c.in_ok-words.ensures.key in
    let first : lift_view c.in_ok-words.first ≡ rest_view key 0 = c.in_ok-words.ensures.view ∙ (ap first_view (sym c.in_ok-words.ensures.key) ∙ first_rest key) in
    let some = c.args.workers.some in
    subst (MayDeal (rule key) marks kept_view given_view (c.args.workers.number - 1)) (sym first) (may_deal key (c.args.workers.number - 1) 0 (omega arith))

pub returns : goal.returns
returns c =
    let key = c.in_ok-words.words.inner.shared.key in
    let workers : key.workers ≡ c.args.workers.number = ap (λ (k : Key). k.workers) c.in_ok-words.ensures.key in
    let first : lift_view c.in_ok-words.first ≡ rest_view key 0 = c.in_ok-words.ensures.view ∙ (ap first_view (sym c.in_ok-words.ensures.key) ∙ first_rest key) in
    let some = c.args.workers.some in
    let zeros = fresh_at key c.in_ok-seats.seats.items (omega arith)
    (c.in_ok-seats.ensures.views ∙ (λ i. dealt kept_view given_view (sym workers i - 1) (first i))) in
    record {
      table = (ap (λ (k : Key). k.game.value) c.in_ok-words.ensures.key ∙ c.of.ensures, refl);
      workers = (workers, let n = c.in_ok-seats.ensures.count in let ok = c.in_ok-seats.seats.ok in omega arith);
      of_table = λ k s e i. (c.in_ok-seats.ensures.seats k s e i, ap (λ (v : RankView). v.key) (zeros k s e) i);
      numbered = c.in_ok-seats.ensures.workers;
      zeros = zeros;
    }
