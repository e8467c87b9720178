-- The record was written behind the others.
use Rattle.std.proofs.Common.{◌∙◌, ◌++◌, ℕ, List, ap, refl, arith}
use Rattle.std.proofs.lemmas.Grind.{common_steps}
use Rattle.ts_guard.specs.Sealed.{record_of, sealed_record}
use Rattle.ts_guard.proofs.sealer.Sealer.seal.Goals as goal

pub returns : goal.returns
unfolding sealed_record
returns c = record {
  seals = λ key context for. record {
    below = omega arith;
    fits = (grind (arith, common_steps), omega arith);
    written = c.in_ok-push_record.ensures.pushed
        ∙ ap (λ (t : List ℕ). c.args.out.now.items ++ record_of 3 t c.args.content.now)
        (c.tag_of-tag.ensures key context for);
    number = refl;
    start = refl;
  };
}
