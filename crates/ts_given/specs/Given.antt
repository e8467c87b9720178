-- What octets are that are given: certificates, complete CRLs and delta CRLs.
use Rattle.std.specs.Prelude.{◌≡◌, ◌+◌, ℕ, List, [], ◌∷◌, ◌++◌, map, Option, Some, None}
use Rattle.std.specs.Prelude.{option_map, Result, Ok, Err, if◌then◌else◌}
use Rattle.std.specs.declared.vec.Vec.{Vec}
use Rattle.std.specs.declared.alloc.Global.{Global}
use Rattle.ts_der.specs.Answer.{refusal}
use Rattle.ts_shape.specs.Shape.{◌or_else◌}
use Rattle.ts_shape.specs.declared.fault.CertFault.{CertFault}
use Rattle.ts_cert.specs.Reading.{certificate_of}
use Rattle.ts_crl.specs.Fault.{ListFault, fault_in}
use Rattle.ts_crl.specs.List.{CertificateList}
use Rattle.ts_crl.specs.Profile.{is_delta}
use Rattle.ts_crl.specs.Table.{crl_of}
use Rattle.ts_given.specs.declared.fault.GivenFault.{GivenFault}
use Rattle.ts_given.specs.declared.fault.GivenFault.TheVariants as fault

-- the octets of each
abbrev pub octets_of : List (Vec ℕ Global) → List (List ℕ)
octets_of values = map (λ v. v.items) values

-- ---- CRLs

-- a CRL, if it is complete, and if it is a delta CRL (RFC 5280 5.2.4)
abbrev pub if_complete : CertificateList → List CertificateList
if_complete l = if is_delta l then [] else l ∷ []

abbrev pub if_delta : CertificateList → List CertificateList
if_delta l = if is_delta l then l ∷ [] else []

abbrev pub complete_in : Result CertificateList ListFault → List CertificateList
complete_in (Ok l) = if_complete l
complete_in (Err e) = []

abbrev pub delta_in : Result CertificateList ListFault → List CertificateList
delta_in (Ok l) = if_delta l
delta_in (Err e) = []

-- the complete CRLs among octets, in their order
abbrev pub lists_of : List (List ℕ) → List CertificateList
lists_of [] = []
lists_of (octets ∷ others) = complete_in (crl_of octets) ++ lists_of others

-- the delta CRLs
abbrev pub deltas_of : List (List ℕ) → List CertificateList
deltas_of [] = []
deltas_of (octets ∷ others) = delta_in (crl_of octets) ++ deltas_of others

-- ---- what can't be read

-- the place, counted from 1, of the first octets that are no certificate, where the first of the
-- list has this place; and the rule that they break
abbrev pub first_certificate : ℕ → List (List ℕ) → Option (ℕ × CertFault)
first_certificate place [] = None
first_certificate place (octets ∷ others) =
    option_map (λ e. (place, e)) (refusal (certificate_of octets))
    or_else first_certificate (place + 1) others

-- of the first octets that are no CRL which a store takes
abbrev pub first_crl : ℕ → List (List ℕ) → Option (ℕ × ListFault)
first_crl place [] = None
first_crl place (octets ∷ others) =
    option_map (λ e. (place, e)) (refusal (crl_of octets)) or_else first_crl (place + 1) others

-- a certificate is refused, or a CRL, unless memory is
abbrev pub SaysCertificate : GivenFault → Option (ℕ × CertFault) → Type 0
SaysCertificate fault.Memory found = Unit {0}
SaysCertificate (fault.Certificate place e) found = found ≡ Some (place, e)
SaysCertificate other found = ⊥

abbrev pub SaysCrl : GivenFault → Option (ℕ × ListFault) → Type 0
SaysCrl fault.Memory found = Unit {0}
SaysCrl (fault.Crl place e) found = found ≡ Some (place, fault_in e)
SaysCrl other found = ⊥
