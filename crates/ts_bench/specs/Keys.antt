-- A key as it is handed over by other programs.
use Rattle.std.specs.Prelude.{ℕ, List, [], ◌∷◌, Option, Some, None}
use Rattle.ts_sig.specs.Key.{Key}

-- parameters, which are not there where they have no octets
abbrev pub parameters_in : List ℕ → Option (List ℕ)
parameters_in [] = None
parameters_in (first ∷ rest) = Some (first ∷ rest)

-- the key of an algorithm with these parameters and octets
abbrev pub key_with : List ℕ → List ℕ → List ℕ → Key
key_with algorithm parameters octets = record {
  algorithm = algorithm;
  parameters = parameters_in parameters;
  octets = octets;
}
