-- What is asked of a signature, as octets, and which answers may be kept under them.
use Rattle.std.specs.Prelude.{◌≡◌, ◌<◌, ◌^◌, ℕ, Bool, true, false, List, [], ◌∷◌, ◌++◌, length}
use Rattle.std.specs.Prelude.{cond, Contains, Option, Some, None}
use Rattle.ts_codec.specs.Parts.{blob32}
use Rattle.ts_sig.specs.Key.{Key}
use Rattle.ts_digest.specs.declared.hash.Hash.{Hash}
use Rattle.ts_digest.specs.Hash.{hash_of}
use Rattle.ts_sig.specs.Algorithm.{hash_named}
use Rattle.ts_check.specs.Native.{native_accepts}

-- whether a key has parameters, and which
abbrev pub parameters_octets : Option (List ℕ) → List ℕ
parameters_octets None = 0 ∷ []
parameters_octets (Some parameters) = 1 ∷ blob32 parameters

-- what stands for the signed octets: whether it is their hash, and its octets
abbrev pub text_octets : Bool → List ℕ → List ℕ
text_octets is_hash text = cond is_hash 1 0 ∷ blob32 text

-- the octets of a question: each part after its length
abbrev pub question_octets : List ℕ → Key → Bool → List ℕ → List ℕ → List ℕ
question_octets algorithm key is_hash text signature = blob32 algorithm ++ (blob32 key.algorithm
    ++ (parameters_octets key.parameters
    ++ (blob32 key.octets ++ (blob32 signature ++ text_octets is_hash text))))

-- a text stands for signed octets: it is these, or their hash by the function that the algorithm
-- hashes by
abbrev pub StandsFor : List ℕ → List ℕ → Bool → List ℕ → Type 0
StandsFor algorithm signed false text = text ≡ signed
StandsFor algorithm signed true text =
    (hash : Hash) × (hash_named algorithm ≡ Some hash) × (text ≡ hash_of hash signed)

-- four octets hold the length
abbrev pub IsShort : Option (List ℕ) → Type 0
IsShort None = Unit {0}
IsShort (Some parameters) = length parameters < 2 ^ 32

-- four octets hold the length of each part
pub record Fits (algorithm : List ℕ) (key : Key) (text signature : List ℕ) : Type 0 where
  pub by : length algorithm < 2 ^ 32
  pub of_key : length key.algorithm < 2 ^ 32
  pub parameters : IsShort key.parameters
  pub octets : length key.octets < 2 ^ 32
  pub sealed : length signature < 2 ^ 32
  pub of_text : length text < 2 ^ 32

-- these are octets of the question whether the signature is good
pub record Asks (question algorithm : List ℕ) (key : Key)
    (signed signature : List ℕ) : Type 0 where
  pub is_hash : Bool
  pub text : List ℕ
  pub stands : StandsFor algorithm signed is_hash text
  pub fits : Fits algorithm key text signature
  pub encoded : question ≡ question_octets algorithm key is_hash text signature

-- this is the answer to whatever question has these octets
abbrev pub IsRight : List ℕ → Bool → Type 0
IsRight question good = (algorithm : List ℕ) (key : Key) (signed signature : List ℕ)
    → Asks question algorithm key signed signature
    → good ≡ native_accepts algorithm key signed signature

-- each answer that is kept is right
unfoldable pub AreRight : List (List ℕ × Bool) → Type 0
AreRight answers = (question : List ℕ) (good : Bool) → Contains answers (question, good)
    → IsRight question good
