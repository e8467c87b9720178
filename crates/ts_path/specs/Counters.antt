-- The counters explicit_policy, policy_mapping, inhibit_anyPolicy and max_path_length (RFC 5280
-- 6.1.2 (d), (e), (f), (k)) at a certificate: each is the least of what the start and the bounds
-- above leave.
use Rattle.std.specs.Prelude.{ℕ, ◌+◌, ◌-◌, min, List, [], ◌∷◌, Option, Some}
use Rattle.std.specs.Prelude.{None, if◌then◌else◌}
use Rattle.ts_cert.specs.Certificate.{Certificate}
use Rattle.ts_path.specs.Names.{is_self_issued}

-- a certificate counts, as one, unless it is self-issued (6.1.4 (h), (l))
abbrev pub counted : Certificate → ℕ
counted c = if is_self_issued c then 0 else 1

abbrev pub all_counted : List Certificate → ℕ
all_counted [] = 0
all_counted (c ∷ cs) = counted c + all_counted cs

-- a number before others, if there is one: what a bound leaves after some certificates
abbrev pub with_bound : Option ℕ → ℕ → List ℕ → List ℕ
with_bound None passed others = others
with_bound (Some bound) passed others = (bound - passed) ∷ others

-- what each bound that a certificate above states leaves of a counter, less those that count
-- between it and the certificate at which the counter is. `passed` is how many count between that
-- and those that are left to be looked at, the nearest of which comes first.
abbrev pub bounds : (Certificate → Option ℕ) → ℕ → List Certificate → List ℕ
bounds bound passed [] = []
bounds bound passed (c ∷ above) =
    with_bound (bound c) passed (bounds bound (passed + counted c) above)

-- the least of a number and some others
abbrev pub least_of : ℕ → List ℕ → ℕ
least_of first [] = first
least_of first (n ∷ ns) = min n (least_of first ns)

-- the counter at the certificate below these, the nearest of which comes first: the least of what
-- the start leaves, less all that count above, and what each bound leaves. None falls below zero.
unfoldable pub counter : (Certificate → Option ℕ) → ℕ → List Certificate → ℕ
counter bound start above = least_of (start - all_counted above) (bounds bound 0 above)
