-- The primes of the curves: of each the field's and the order of the base point.
use Rattle.std.specs.Prelude.{ℕ}

-- 2^256 - 2^224 + 2^192 + 2^96 - 1: the field of P-256 (SP 800-186 3.2.1.3)
abbrev pub p256 : ℕ
p256 = 0xffffffff00000001000000000000000000000000ffffffffffffffffffffffff

-- the order of the base point of P-256 (SP 800-186 3.2.1.3)
abbrev pub n256 : ℕ
n256 = 0xffffffff00000000ffffffffffffffffbce6faada7179e84f3b9cac2fc632551

-- 2^384 - 2^128 - 2^96 + 2^32 - 1: the field of P-384 (SP 800-186 3.2.1.4)
abbrev pub p384 : ℕ
p384 =
    0xfffffffffffffffffffffffffffffffffffffffffffffffffffffffffffffffeffffffff0000000000000000ffffffff

-- the order of the base point of P-384 (SP 800-186 3.2.1.4)
abbrev pub n384 : ℕ
n384 =
    0xffffffffffffffffffffffffffffffffffffffffffffffffc7634d81f4372ddf581a0db248b0a77aecec196accc52973

-- 2^521 - 1: the field of P-521 (SP 800-186 3.2.1.5)
abbrev pub p521 : ℕ
p521 =
    0x1ffffffffffffffffffffffffffffffffffffffffffffffffffffffffffffffffffffffffffffffffffffffffffffffffffffffffffffffffffffffffffffffffff

-- the order of the base point of P-521 (SP 800-186 3.2.1.5)
abbrev pub n521 : ℕ
n521 =
    0x1fffffffffffffffffffffffffffffffffffffffffffffffffffffffffffffffffa51868783bf2f966b7fcc0148f709a5d03bb5c9b8899c47aebb6fb71e91386409

-- 2^255 - 19: the field of Curve25519 (RFC 7748 4.1)
abbrev pub p25519 : ℕ
p25519 = 0x7fffffffffffffffffffffffffffffffffffffffffffffffffffffffffffffed

-- 2^252 + 27742317777372353535851937790883648493: the order of its base point (RFC 7748 4.1)
abbrev pub l25519 : ℕ
l25519 = 0x1000000000000000000000000000000014def9dea2f79cd65812631a5cf5d3ed
