-- What contracts see of a public key.
use Rattle.ts_check.specs.declared.public_key.PublicKey.{PublicKey}
use Rattle.ts_check.specs.PublicKey.{Public}

-- a public key without where it lies in memory
abbrev pub public_in : PublicKey → Public
public_in k = record { modulus = k.modulus.now; exponent = k.exponent }
