-- The pieces of a context.
use Rattle.std.proofs.Common.{◌≡◌, List, ℕ, [], ◌∷◌, ◌++◌, refl}

pub same_pieces : (label id other challenge nonce : List ℕ) (d e : ℕ) → id ≡ other → d ≡ e
    → label ++ id ++ challenge ++ nonce ++ d ∷ [] ≡ label ++ other ++ challenge ++ nonce ++ e ∷ []
same_pieces label id other challenge nonce d e ids ds = rw (ids, ds) refl
