-- A sealed record: the length of what follows it, the version 3, a tag, and the content that it
-- vouches for.
use Rattle.std.specs.Prelude.{◌+◌, ◌≤◌, ℕ, List, [], ◌∷◌, ◌++◌, length}
use Rattle.std.specs.Int.{to_be_bytes, w32, w64}
use Rattle.ts_hmac.specs.Hmac.{hmac_sha256}

-- 1 to 65,536 octets
abbrev pub IsContent : List ℕ → Type 0
IsContent content = (1 ≤ length content) × (length content ≤ 65536)

-- What a tag vouches for: the session and the direction (the context), the number of the record in
-- this direction of the connection,
-- and the content.
abbrev pub vouched_text : List ℕ → ℕ → List ℕ → List ℕ
vouched_text context number content = context ++ to_be_bytes w64 number ++ content

unfoldable pub tag : List ℕ → List ℕ → ℕ → List ℕ → List ℕ
tag key context number content = hmac_sha256 key (vouched_text context number content)

-- octets after their length
abbrev pub with_length : List ℕ → List ℕ
with_length octets = to_be_bytes w32 (length octets) ++ octets

-- a record of any version and any 32 octets in the tag's place
abbrev pub record_of : ℕ → List ℕ → List ℕ → List ℕ
record_of version given content = with_length (version ∷ (given ++ content))

unfoldable pub sealed_record : List ℕ → List ℕ → ℕ → List ℕ → List ℕ
sealed_record key context number content = record_of 3 (tag key context number content) content

-- records from a number on, of these contents
abbrev pub stream : List ℕ → List ℕ → ℕ → List (List ℕ) → List ℕ
stream key context number [] = []
stream key context number (content ∷ contents) =
    sealed_record key context number content ++ stream key context (number + 1) contents
