-- When a name lies in a subtree of names (RFC 5280 4.2.1.10).
use Rattle.std.specs.Prelude.{◌≡◌, ℕ, ◌+◌, ◌*◌, ◌<◌, ◌==◌, List, [], ◌∷◌, ◌++◌, ◌⊎◌, map, length}
use Rattle.std.specs.Prelude.{bit_and, slice_index, MatchBool}
use Rattle.std.specs.Char.{to_ascii_lowercase}
use Rattle.ts_name.specs.General.{GeneralName, otherName, rfc822Name, dNSName, x400Address}
use Rattle.ts_name.specs.General.{directoryName, ediPartyName, uniformResourceIdentifier, iPAddress}
use Rattle.ts_name.specs.General.{registeredID}
use Rattle.ts_name.specs.Sameness.{IsWithin}

-- a text with the letters A to Z as a to z
abbrev pub lower : List ℕ → List ℕ
lower text = map to_ascii_lowercase text

-- a text ends in another, whatever the case of their letters
abbrev pub EndsIn : List ℕ → List ℕ → Type 0
EndsIn text end = (front : List ℕ) × (lower text ≡ front ++ lower end)

-- the octet of a dot
abbrev pub dot : ℕ
dot = 46

-- a host is the domain of a constraint, or is made from it by labels to its left
abbrev pub IsBelow : List ℕ → List ℕ → Type 0
IsBelow host domain = (lower host ≡ lower domain) ⊎ EndsIn host (dot ∷ domain)

-- a domain that begins with a dot is that of the hosts below it alone, which this profile adds; the
-- empty domain is that of every host
abbrev pub IsWithinDomain : List ℕ → List ℕ → Type 0
IsWithinDomain host [] = Unit {0}
IsWithinDomain host (octet ∷ rest) =
    MatchBool (octet == dot) (EndsIn host (octet ∷ rest) × (length (octet ∷ rest) < length host))
    (IsBelow host (octet ∷ rest))

-- a range is an address and a mask of its length; an address lies in it if the two are equal in
-- each bit that the mask has
pub record IsWithinRange (address range : List ℕ) : Type 0 where
  pub lengths : length range ≡ 2 * length address
  pub masked : (k : ℕ) → k < length address
      → bit_and (slice_index address k) (slice_index range (length address + k))
      ≡ bit_and (slice_index range k) (slice_index range (length address + k))

-- the name lies in the subtree that begins at a base. Of the other forms, which this profile does
-- not process, none does
abbrev pub Holds : GeneralName → GeneralName → Type 0
Holds (directoryName subtree) (directoryName name) = IsWithin name subtree
Holds (dNSName domain) (dNSName host) = IsWithinDomain host domain
Holds (iPAddress range) (iPAddress address) = IsWithinRange address range
Holds base name = ⊥
