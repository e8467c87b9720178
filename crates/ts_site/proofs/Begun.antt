-- What the question of a request comes to.
use Rattle.std.proofs.Common.{ℤ, ℕ, List, Result, Ok, Err, IfOk, OnOk}
use Rattle.ts_api.specs.Asking.{IsAskedBy}
use Rattle.ts_api.specs.declared.asking.AskedQuestion.{AskedQuestion}
use Rattle.ts_api.specs.declared.asking.NoQuestion.{NoQuestion}
use Rattle.ts_api.specs.declared.route.Route.{Route}
use Rattle.ts_site.specs.Verdicts.{AsksQuestion, BeginsVerdict}
use Rattle.ts_site.specs.declared.next.Next.{Next}

pub begun : {E : Type 0} (result : Result Next E) (route : Route) (target body : List ℕ) (now : ℤ)
    (found : Result AskedQuestion NoQuestion) → IsAskedBy target body now found
    → IfOk result (AsksQuestion route found) → IfOk result (BeginsVerdict route target body now)
begun (Ok next) route target body now found by asks = (found, by, asks)
begun (Err e) route target body now found by asks = tt

-- what follows from what holds of an answer
pub on_ok : {T E : Type 0} (result : Result T E) (P Q : Type 0) → (P → Q) → OnOk result P → OnOk result Q
on_ok (Ok x) P Q then holds = then holds
on_ok (Err e) P Q then holds = tt

-- the same of two facts
pub on_both : {T E : Type 0} (result : Result T E) (P Q R : Type 0) → (P → Q → R) → OnOk result P
    → OnOk result Q → OnOk result R
on_both (Ok x) P Q R then first second = then first second
on_both (Err e) P Q R then first second = tt
