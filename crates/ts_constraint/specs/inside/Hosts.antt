-- Hosts that are looked up among the domains of constraints, each by its octets from the end on.
use Rattle.std.specs.Prelude.{◌≡◌, ℕ, ◌==◌, ◌||◌, Bool, true, false, cond, List, [], ◌∷◌, map}
use Rattle.std.specs.Prelude.{Option, Some, None}
use Rattle.std.specs.List.{flat_map}
use Rattle.std.specs.Ordering.{nat_cmp}
use Rattle.ts_name.specs.General.{GeneralName, otherName, rfc822Name, dNSName, x400Address}
use Rattle.ts_name.specs.General.{directoryName, ediPartyName, uniformResourceIdentifier, iPAddress}
use Rattle.ts_name.specs.General.{registeredID}
use Rattle.ts_name.specs.Holds.{dot}
use Rattle.ts_constraint.specs.declared.hosts.Hosts.{Hosts}
use Rattle.ts_constraint.specs.inside.Ending.{backwards, octets}
use Rattle.ts_constraint.specs.inside.Fronts.{has_front}

-- the domain of a host and of those below it, which does not begin with a dot: with a dot before
-- it, so that it ends at a label. The empty domain is that of every host
abbrev pub domain_ending : GeneralName → List (List ℕ)
domain_ending (dNSName []) = [] ∷ []
domain_ending (dNSName (octet ∷ rest)) = cond (octet == dot) [] (backwards (octet ∷ rest) true ∷ [])
domain_ending base = []

-- the domain of the hosts below it alone, which begins with a dot
abbrev pub dotted_ending : GeneralName → List (List ℕ)
dotted_ending (dNSName (octet ∷ rest)) =
    cond (octet == dot) (backwards (octet ∷ rest) false ∷ []) []
dotted_ending base = []

abbrev pub domain_endings : List GeneralName → List (List ℕ)
domain_endings bases = flat_map domain_ending bases

abbrev pub dotted_endings : List GeneralName → List (List ℕ)
dotted_endings bases = flat_map dotted_ending bases

-- whether a host is a domain or below it, and whether it is below a domain that begins with a dot,
-- which leaves an octet before it
abbrev pub is_at_domain : {X : Type 0} → (X → List ℕ) → List X → List ℕ → Bool
is_at_domain key entries host = has_front nat_cmp key entries (backwards host true)

abbrev pub is_below_dot : {X : Type 0} → (X → List ℕ) → List X → List ℕ → Bool
is_below_dot key entries [] = false
is_below_dot key entries (octet ∷ rest) = has_front nat_cmp key entries (backwards rest false)

-- whether a host lies in one of the domains
abbrev pub has_host : Hosts → List ℕ → Bool
has_host hosts host = is_at_domain octets hosts.domains.items.items host
    || is_below_dot octets hosts.dotted.items.items host
