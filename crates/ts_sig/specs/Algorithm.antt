-- Which algorithm of signatures an AlgorithmIdentifier (RFC 5280 4.1.1.2) names: RFC 4055 3.1 and
-- 5, RFC 5758 3.2, RFC 8410 3.
use Rattle.std.specs.Prelude.{ℕ, Bool, true, false, ◌||◌, List, [], ◌∷◌, ◌++◌, length, Option, Some}
use Rattle.std.specs.Prelude.{None, if◌then◌else◌, option_and_then}
use Rattle.std.specs.Str.{bytes_eq}
use Rattle.ts_digest.specs.declared.hash.Hash.{Hash}
use Rattle.ts_digest.specs.declared.hash.Hash.TheVariants.{Sha256, Sha384, Sha512}
use Rattle.ts_digest.specs.Hash.{hash_size}
use Rattle.ts_sig.specs.declared.algorithm.SignatureAlgorithm.{SignatureAlgorithm}
use Rattle.ts_sig.specs.declared.algorithm.SignatureAlgorithm.TheVariants.{Pkcs1, Pss, Ecdsa}
use Rattle.ts_sig.specs.declared.algorithm.SignatureAlgorithm.TheVariants.{Ed25519}

-- an element whose content has fewer than 128 octets (X.690 8.1.3.4)
abbrev pub short : ℕ → List ℕ → List ℕ
short tag content = tag ∷ (length content ∷ content)

-- NULL
abbrev pub null : List ℕ
null = short 5 []

-- parameters that are NULL, or absent
abbrev pub null_if : Bool → List ℕ
null_if true = null
null_if false = []

-- OBJECT IDENTIFIER 1.2.840.113549.1.1.n, an arc of PKCS #1
abbrev pub pkcs1_oid : ℕ → List ℕ
pkcs1_oid n = short 6 (0x2a ∷ 0x86 ∷ 0x48 ∷ 0x86 ∷ 0xf7 ∷ 0x0d ∷ 1 ∷ 1 ∷ n ∷ [])

-- sha256WithRSAEncryption, sha384WithRSAEncryption, sha512WithRSAEncryption (RFC 4055 5)
abbrev pub pkcs1_arc : Hash → ℕ
pkcs1_arc Sha256 = 11
pkcs1_arc Sha384 = 12
pkcs1_arc Sha512 = 13

-- its identifier: parameters are NULL, and may be absent (RFC 4055 5)
abbrev pub pkcs1_identifier : Hash → Bool → List ℕ
pkcs1_identifier hash with_null = short 0x30 (pkcs1_oid (pkcs1_arc hash) ++ null_if with_null)

-- id-sha256, id-sha384, id-sha512: 2.16.840.1.101.3.4.2.n (RFC 4055 2.1)
abbrev pub hash_arc : Hash → ℕ
hash_arc Sha256 = 1
hash_arc Sha384 = 2
hash_arc Sha512 = 3

-- the identifier of a hash function: parameters are NULL, and may be absent (RFC 4055 2.1)
abbrev pub hash_identifier : Hash → Bool → List ℕ
hash_identifier hash with_null =
    short 0x30 (short 6 (0x60 ∷ 0x86 ∷ 0x48 ∷ 1 ∷ 0x65 ∷ 3 ∷ 4 ∷ 2 ∷ hash_arc hash ∷ [])
    ++ null_if with_null)

-- id-RSASSA-PSS with RSASSA-PSS-params (RFC 4055 3.1): the hash function, MGF1 (id-mgf1, 2.2) with
-- the same one in the same form, a salt as long as the hash, and the trailer that is the default
abbrev pub pss_identifier : Hash → Bool → List ℕ
pss_identifier hash with_null =
    short 0x30 (pkcs1_oid 10 ++ short 0x30 (short 0xa0 (hash_identifier hash with_null)
    ++ (short 0xa1 (short 0x30 (pkcs1_oid 8 ++ hash_identifier hash with_null))
    ++ short 0xa2 (short 2 (hash_size hash ∷ [])))))

-- ecdsa-with-SHA256, ecdsa-with-SHA384, ecdsa-with-SHA512: 1.2.840.10045.4.3.n (RFC 5758 3.2)
abbrev pub ecdsa_arc : Hash → ℕ
ecdsa_arc Sha256 = 2
ecdsa_arc Sha384 = 3
ecdsa_arc Sha512 = 4

-- its identifier: parameters are absent (RFC 5758 3.2)
abbrev pub ecdsa_identifier : Hash → List ℕ
ecdsa_identifier hash =
    short 0x30 (short 6 (0x2a ∷ 0x86 ∷ 0x48 ∷ 0xce ∷ 0x3d ∷ 4 ∷ 3 ∷ ecdsa_arc hash ∷ []))

-- id-Ed25519, 1.3.101.112: parameters are absent (RFC 8410 3)
abbrev pub ed25519_identifier : List ℕ
ed25519_identifier = short 0x30 (short 6 (0x2b ∷ 0x65 ∷ 0x70 ∷ []))

-- the identifier is one of RSASSA-PKCS1-v1_5 with this hash function
unfoldable pub is_pkcs1 : List ℕ → Hash → Bool
is_pkcs1 identifier hash =
    bytes_eq identifier (pkcs1_identifier hash true)
    || bytes_eq identifier (pkcs1_identifier hash false)

-- the identifier is one of RSASSA-PSS with this hash function
unfoldable pub is_pss : List ℕ → Hash → Bool
is_pss identifier hash =
    bytes_eq identifier (pss_identifier hash true)
    || bytes_eq identifier (pss_identifier hash false)

-- the algorithm with this hash function that the identifier names
unfoldable pub named_with : List ℕ → Hash → Option SignatureAlgorithm
named_with identifier hash =
    if is_pkcs1 identifier hash then Some (Pkcs1 hash)
    else (if is_pss identifier hash then Some (Pss hash)
    else (if bytes_eq identifier (ecdsa_identifier hash) then Some (Ecdsa hash) else None))

-- the first of two that there is
abbrev pub or_else : {A : Type 0} → Option A → Option A → Option A
or_else None second = second
or_else (Some x) second = Some x

-- the algorithm that the identifier names
unfoldable pub algorithm_named : List ℕ → Option SignatureAlgorithm
algorithm_named identifier =
    if bytes_eq identifier ed25519_identifier then Some Ed25519
    else or_else (named_with identifier Sha256)
    (or_else (named_with identifier Sha384) (named_with identifier Sha512))

-- the function by which an algorithm hashes what is signed; Ed25519 signs the octets themselves
abbrev pub hash_by : SignatureAlgorithm → Option Hash
hash_by (Pkcs1 hash) = Some hash
hash_by (Pss hash) = Some hash
hash_by (Ecdsa hash) = Some hash
hash_by Ed25519 = None

-- that of the algorithm that an identifier names
unfoldable pub hash_named : List ℕ → Option Hash
hash_named identifier = option_and_then hash_by (algorithm_named identifier)
