-- When two names are shared (RFC 5280 6.3.3 (b) (2) (i)): directory names that are the same, other
-- forms of equal octets.
use Rattle.std.specs.Prelude.{Bool, false, List}
use Rattle.std.specs.List.{list_any}
use Rattle.std.specs.Str.{bytes_eq}
use Rattle.ts_name.specs.General.{GeneralName, otherName, rfc822Name, dNSName, x400Address}
use Rattle.ts_name.specs.General.{directoryName, ediPartyName, uniformResourceIdentifier, iPAddress}
use Rattle.ts_name.specs.General.{registeredID}
use Rattle.ts_name.specs.Sameness.{is_same_name}

-- whether two general names are one
unfoldable pub is_same_general : GeneralName → GeneralName → Bool
is_same_general (otherName a) (otherName b) = bytes_eq a b
is_same_general (rfc822Name a) (rfc822Name b) = bytes_eq a b
is_same_general (dNSName a) (dNSName b) = bytes_eq a b
is_same_general (x400Address a) (x400Address b) = bytes_eq a b
is_same_general (directoryName a) (directoryName b) = is_same_name a b
is_same_general (ediPartyName a) (ediPartyName b) = bytes_eq a b
is_same_general (uniformResourceIdentifier a) (uniformResourceIdentifier b) = bytes_eq a b
is_same_general (iPAddress a) (iPAddress b) = bytes_eq a b
is_same_general (registeredID a) (registeredID b) = bytes_eq a b
is_same_general a b = false

-- whether some name of the first is among the second
abbrev pub share : List GeneralName → List GeneralName → Bool
share names others = list_any (λ n. list_any (is_same_general n) others) names
