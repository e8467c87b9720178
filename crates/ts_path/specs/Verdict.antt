-- The verdict on a chain: valid where no condition fails, with the policies that are accepted, else
-- the least position at which one does, and the least there (RFC 5280 6.1).
use Rattle.std.specs.Prelude.{◌≡◌, ℕ, ◌<◌, ◌≤◌, ◌⊎◌, ◌↔◌, List, map, length, Some}
use Rattle.ts_policy.specs.Labels.{Label, In}
use Rattle.ts_policy.specs.Accepted.{AreAscending}
use Rattle.ts_der.specs.declared.oid.OidRef.{OidRef}
use Rattle.ts_reason.specs.declared.reason.Reason.{Reason}
use Rattle.ts_reason.specs.declared.reason.Reason.TheVariants.{Revoked, CriticalExtension}
use Rattle.ts_reason.specs.Conditions.{Condition, number_of}
use Rattle.ts_reason.specs.View.{condition_of, reason_in}
use Rattle.ts_path.specs.declared.verdict.Verdict.{Verdict}
use Rattle.ts_path.specs.declared.verdict.Verdict.TheVariants.{Valid, Invalid}
use Rattle.ts_path.specs.Chain.{ChainQuestion, Link, Stands, is_last}
use Rattle.ts_path.specs.State.{state_at, policies_above}
use Rattle.ts_path.specs.Extensions.{first_refused}
use Rattle.ts_revoke.specs.declared.verdict.Status.TheVariants as status
use Rattle.ts_path.specs.Conditions.{Site, status_at, Accepts, Meets}

-- what the conditions look at, at a certificate of the chain
abbrev pub site_of : ChainQuestion → Link → Site
site_of q l = record {
  asked = q.asked;
  state = state_at q.asked (length q.chain) l.above;
  policies_above = policies_above q.asked (length q.chain) l.above;
  certificate = l.certificate;
  last = is_last l;
}

-- the certificate at a position, if there is one, meets a condition
unfoldable pub HoldsAt : Condition → ChainQuestion → ℕ → Type 0
HoldsAt k q i = (l : Link) → Stands q.chain i l → Meets k (site_of q l)

-- a condition at a position comes before another: it is at a lesser position, or has a lesser
-- number at the same
abbrev pub Precedes : ℕ → Condition → ℕ → Condition → Type 0
Precedes i k j m = (i < j) ⊎ ((i ≡ j) × (number_of k < number_of m))

-- the condition fails at the position, and none that comes before it does
pub record IsLeast (q : ChainQuestion) (i : ℕ) (k : Condition) : Type 0 where
  pub stands : (1 ≤ i) × (i ≤ length q.chain)
  pub fails : ¬ (HoldsAt k q i)
  pub first : (j : ℕ) (m : Condition) → Precedes j m i k → HoldsAt m q j

-- what a reason says beside the condition: the number is that of the reason for which the
-- certificate is revoked; the object identifier is that of the first critical extension that is not
-- processed
abbrev pub Details : Reason OidRef → Site → Type 0
Details (Revoked code) x = status_at x ≡ status.Revoked code
Details (CriticalExtension oid) x =
    first_refused x.certificate.tbsCertificate ≡ Some oid.content.now
Details other x = Unit {0}

abbrev pub HasDetails : ChainQuestion → ℕ → Reason OidRef → Type 0
HasDetails q i reason = (l : Link) → Stands q.chain i l → Details reason (site_of q l)

-- the policies are those that are accepted at the last certificate, in the order of their octets,
-- each once (6.1.5 (g), 6.1.6)
pub record AreAccepted (q : ChainQuestion) (policies : List Label) : Type 0 where
  pub accepted : (l : Link) → Stands q.chain (length q.chain) l → (p : Label)
      → In p policies ↔ Accepts (site_of q l) p
  pub ascending : AreAscending policies

abbrev pub IsVerdict : ChainQuestion → Verdict → Type 0
IsVerdict q (Valid policies) = ((i : ℕ) (k : Condition) → HoldsAt k q i)
    × AreAccepted q (map (λ p. p.content.now) policies.items)
IsVerdict q (Invalid position reason) =
    IsLeast q position (condition_of reason) × HasDetails q position reason

-- two verdicts say the same
abbrev pub IsSame : Verdict → Verdict → Type 0
IsSame (Valid policies) (Valid others) =
    map (λ p. p.content.now) policies.items ≡ map (λ p. p.content.now) others.items
IsSame (Valid policies) (Invalid position reason) = ⊥
IsSame (Invalid position reason) (Valid policies) = ⊥
IsSame (Invalid position reason) (Invalid other another) =
    (position ≡ other) × (reason_in reason ≡ reason_in another)
