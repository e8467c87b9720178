-- The conditions on revocation.
use Rattle.std.proofs.Common.{◌≡◌, ℕ, sym, ◌∙◌}
use Rattle.std.proofs.lemmas.Bool.{false≢true}
use Rattle.ts_revoke.specs.declared.verdict.Status.{Status}
use Rattle.ts_revoke.specs.declared.verdict.Status.TheVariants.{Good, Revoked, Undetermined}
use Rattle.ts_path.specs.Conditions.{Meets}
use Rattle.ts_reason.specs.Conditions.{revoked, undetermined}
use Rattle.ts_path.proofs.Steps.{next}
use Rattle.ts_path.proofs.state.State.first_of_status.Goals as goal

good_not_revoked : (s : Status) (code : ℕ) → Good ≡ s → s ≡ Revoked code → ⊥
good_not_revoked s code a b = cc (a ∙ b)

good_not_undetermined : (s : Status) → Good ≡ s → s ≡ Undetermined → ⊥
good_not_undetermined s a b = cc (a ∙ b)

undetermined_not_revoked : (s : Status) (code : ℕ) → Undetermined ≡ s → s ≡ Revoked code → ⊥
undetermined_not_revoked s code a b = cc (a ∙ b)

pub returns-in-Good : goal.returns-in-Good
unfolding Meets
returns-in-Good g c = λ above before.
    let e = c.in-Good.ensures above in
    next _ undetermined (next _ revoked before (λ code is. good_not_revoked _ code e is)) (λ hard is. good_not_undetermined _ e is)

pub returns-in-Revoked : goal.returns-in-Revoked
unfolding Meets
returns-in-Revoked g c = λ above before.
    let e = sym (c.in-Revoked.ensures above) in record { fails = λ is. is c.in-Revoked.code e; first = before; details = e }

pub returns-then-context : goal.returns-then-context
unfolding Meets
returns-then-context g c = λ above before.
    let e = c.in-Undetermined.ensures above in
    record { fails = λ is. is c.if-context.true (sym e); first = next _ revoked before (λ code is. undetermined_not_revoked _ code e is); details = tt }

pub returns-else-context : goal.returns-else-context
unfolding Meets
returns-else-context g c = λ above before.
    let e = c.in-Undetermined.ensures above in
    next _ undetermined (next _ revoked before (λ code is. undetermined_not_revoked _ code e is)) (λ hard. absurd (false≢true (sym c.if-context.false ∙ hard)))
