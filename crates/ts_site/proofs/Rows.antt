-- There may be more anchors behind the rows.
use Rattle.std.proofs.Common.{ℕ, List, Option, Some, inr, subst}
use Rattle.ts_sent.specs.Sent.{IsNearest, issuers_of, sent_in}
use Rattle.ts_sent.specs.declared.above.AnchorAbove.{AnchorAbove}
use Rattle.ts_site.specs.Explaining.{AsksForRows, IsPassed, TakesRows}
use Rattle.ts_site.specs.declared.explaining.Explaining.{Explaining}
use Rattle.ts_site.specs.declared.next.Next.{Next}

pub takes_more : (e : Explaining) (total : ℕ) (rows : List (List ℕ)) (found : Option AnchorAbove)
    (from : ℕ) (next : Next)
    → IsNearest (issuers_of (sent_in e.asked.question.target)) e.found rows found
    → IsPassed e total rows (Some from) → AsksForRows (record e { from = from; found = found }) next
    → TakesRows e total rows next
takes_more e total rows found from next nearest passed asks = record {
  found = found;
  is_nearest = nearest;
  comes = inr (passed.1, subst (λ (n : ℕ). AsksForRows (record e { from = n; found = found }) next) passed.0 asks);
}
