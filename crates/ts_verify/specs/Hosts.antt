-- The host that is asked for, and the certificates that are for it (RFC 9525 6.1, 6.2).
use Rattle.std.specs.Prelude.{◌≡◌, ◌⊎◌, ◌-◌, ℕ, ◌==◌, ◌||◌, ◌&&◌, nat_lt, nat_le, not, Bool, List}
use Rattle.std.specs.Prelude.{[]}
use Rattle.std.specs.Prelude.{◌∷◌, length, take, slice_index, if◌then◌else◌, Option, Some, None}
use Rattle.std.specs.Prelude.{Result, Ok, Err}
use Rattle.std.specs.List.{slice_split, list_all, list_any}
use Rattle.std.specs.Net.Addr.{ipv4_octets, ipv6_octets}
use Rattle.std.specs.Net.Grammar.{IsIpText}
use Rattle.std.specs.declared.net.ip_addr.IpAddr.{IpAddr}
use Rattle.std.specs.declared.net.ip_addr.IpAddr.TheVariants.{V4, V6}
use Rattle.ts_name.specs.General.{GeneralName, dNSName}
use Rattle.ts_name.specs.General.{iPAddress}
use Rattle.ts_name.specs.Holds.{dot}
use Rattle.ts_verify.specs.declared.host.Host.{Host}
use Rattle.ts_verify.specs.declared.host.Host.TheVariants.{Name, Address}
use Rattle.ts_verify.specs.declared.fault.HostFault.{HostFault}
use Rattle.ts_verify.specs.declared.fault.HostFault.TheVariants.{LongName, EmptyLabel, LongLabel}
use Rattle.ts_verify.specs.declared.fault.HostFault.TheVariants.{BadOctet, Numeric}
use Rattle.ts_verify.specs.Matching.{Matches}

-- ---- host names (RFC 1123 2.1, RFC 1035 2.3.4)

abbrev pub is_dot : ℕ → Bool
is_dot octet = octet == dot

-- the labels of a name: what is between its dots
abbrev pub labels : List ℕ → List (List ℕ)
labels name = slice_split is_dot name

-- a name without the dot at its end, if it has one there
abbrev pub without_dot : List ℕ → List ℕ
without_dot text = if slice_index text (length text - 1) == dot then take (length text - 1) text
    else text

abbrev pub is_digit : ℕ → Bool
is_digit octet = nat_le 48 octet && nat_le octet 57

-- a letter, a digit, a hyphen, an underscore, or the dot between labels
abbrev pub is_name_octet : ℕ → Bool
is_name_octet octet =
    (nat_le 97 octet && nat_le octet 122) || (nat_le 65 octet && nat_le octet 90)
    || is_digit octet || (octet == 45) || (octet == 95) || is_dot octet

-- a digit or a dot
abbrev pub is_numeric_octet : ℕ → Bool
is_numeric_octet octet = is_digit octet || is_dot octet

-- the first rule that a host name breaks: it has at most 253 octets, and each label has 1 to 63;
-- each octet is of a host name; not all are digits and dots, which is an address that was mistyped
abbrev pub fault_of : List ℕ → Option HostFault
fault_of name =
    if nat_lt 253 (length name) then Some LongName
    else if list_any (λ label. length label == 0) (labels name) then Some EmptyLabel
    else if list_any (λ label. nat_lt 63 (length label)) (labels name) then Some LongLabel
    else if not (list_all is_name_octet name) then Some BadOctet
    else if list_all is_numeric_octet name then Some Numeric
    else None

-- ---- what a text asks for

-- no address is written so
abbrev pub IsNoAddress : List ℕ → Type 0
IsNoAddress text = (ip : IpAddr) → ¬ (IsIpText text ip)

-- an address that is written so, and else the host name, without a dot at its end, if it is one
abbrev pub Reads : List ℕ → Result Host HostFault → Type 0
Reads text (Ok (Address ip)) = IsIpText text ip
Reads text (Ok (Name name)) = IsNoAddress text × (name.text.now ≡ without_dot text)
    × (fault_of (without_dot text) ≡ None)
Reads text (Err fault) = IsNoAddress text × (fault_of (without_dot text) ≡ Some fault)

-- ---- which certificates are for a host

-- the octets of an address, as an iPAddress has them (RFC 5280 4.2.1.6)
abbrev pub octets_in : IpAddr → List ℕ
octets_in (V4 ip) = ipv4_octets ip
octets_in (V6 ip) = ipv6_octets ip

-- a name of a certificate is that of the host: a host name is compared with the forms dNSName
-- alone, and an address with the forms iPAddress alone, by its octets
abbrev pub IsNamed : Host → GeneralName → Type 0
IsNamed (Name name) (dNSName pattern) = Matches pattern name.text.now
IsNamed (Address ip) (iPAddress octets) = octets ≡ octets_in ip
IsNamed host other = ⊥

-- one of a list has a property
abbrev pub SomeOf : {A : Type 0} → (A → Type 0) → List A → Type 0
SomeOf P [] = ⊥
SomeOf P (x ∷ xs) = P x ⊎ SomeOf P xs

-- a certificate is for a host if one of the names of its subjectAltName is that of the host. Its
-- subject does not count (6.1)
abbrev pub IsFor : Host → Option (List GeneralName) → Type 0
IsFor host None = ⊥
IsFor host (Some names) = SomeOf (IsNamed host) names
