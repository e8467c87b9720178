use Rattle.std.proofs.Common.{sym, subst}
use Rattle.ts_answer.specs.inside.Cache.{AreCached}
use Rattle.ts_answer.proofs.Cached.{none_cached}
use Rattle.ts_answer.proofs.Entries.{no_entries}
use Rattle.ts_answer.proofs.Pages.{none_taken}
use Rattle.ts_answer.proofs.answers.Answers.new.Goals as goal

pub invariant_of-result : goal.invariant_of-result
invariant_of-result g c =
    let good = g.S.SignatureCheck.accepts c.args.check in (
      subst (AreCached good c.new.result) (sym c.new-3.ensures) (none_cached good c.new.result),
      no_entries c.new.result
          c.new-2.result.items c.new.ensures c.new-2.ensures.items,
      none_taken c.new.result
          c.new.ensures,
    )
