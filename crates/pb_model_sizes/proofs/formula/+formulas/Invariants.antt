use Rattle.std.proofs.Common.{◌≡◌, ◌+◌, ◌≤◌, drop}
use Rattle.pb_typing_declarations.specs.View.{spec_of}
use Rattle.pb_model_sizes.specs.declared.count.TheConstants.{MAX_COUNT}
use Rattle.pb_model_sizes.specs.Counts.{capped}
use Rattle.pb_model_sizes.specs.Links.{links_count}
use Rattle.pb_model_sizes.proofs.formula.+formulas.Given as goal

-- the sum so far, with the links that are left
abbrev pub invariant-links_count-loop-link : goal.invariant-links_count-loop-link
invariant-links_count-loop-link l =
    let spec = spec_of l.declarations in
    record {
      left : capped (links_count spec l.links) ≡ capped (l.sum + links_count spec (drop l.link-index l.links));
      fits : l.sum ≤ MAX_COUNT;
    }
