-- The pairs are few, and say which rows, or are refused.
use Rattle.std.proofs.Common.{rules, ◌≡◌, map}
use Rattle.ts_form.specs.Pairs.{AreFew, pair_in}
use Rattle.ts_api.specs.Asking.{pairs_in}
use Rattle.ts_site.proofs.Wanting.{are_wanted}
use Rattle.ts_site.proofs.listing.rows_wanted.Goals as goal

pub returns-in-Ok : goal.returns-in-Ok
returns-in-Ok c =
    let told : map pair_in c.deref.result.now ≡ pairs_in c.args.target.now = search rules in
    let few : AreFew (pairs_in c.args.target.now) = search rules in
    are_wanted c.of.result (pairs_in c.args.target.now) few (rw told at c.of.ensures.found) (rw told at c.of.ensures.refused)
