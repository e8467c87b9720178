-- The pairs of a cache, seen as lists of octets.
use Rattle.std.proofs.Common.{◌≡◌, ℕ, List, map, sym, ap, subst, ◌∙◌, inl, inr}
use Rattle.std.specs.Prelude.{Contains}
use Rattle.std.specs.declared.vec.Vec.{Vec}
use Rattle.std.specs.declared.alloc.Global.{Global}
use Rattle.ts_recent.specs.Recent.{AreAmong, AreAmongOr}
use Rattle.ts_recent.proofs.Pairs.{mapped, unmapped}
use Rattle.ts_answer.specs.inside.CacheView.{octets_in}

abbrev Octets : Type 0
Octets = Vec ℕ Global

-- a pair that is there is seen
pub is_seen : (pairs : List (List ℕ × Octets)) (v : List (List ℕ × List ℕ)) (key : List ℕ) (octets : Octets)
    → map octets_in pairs ≡ v → Contains pairs (key, octets) → Contains v (key, octets.items)
is_seen pairs v key octets view has =
    subst (λ (ps : List (List ℕ × List ℕ)). Contains ps (key, octets.items)) view
    (mapped octets_in pairs (key, octets) has)

-- fewer pairs are seen
pub fewer : (new old : List (List ℕ × Octets)) (v : List (List ℕ × List ℕ)) → map octets_in old ≡ v
    → AreAmong new old → AreAmong (map octets_in new) v
fewer new old v view among pair has =
    let one = unmapped octets_in new pair has in
    subst (Contains v) one.2 (is_seen old v one.0.0 one.0.1 view (among one.0 one.1))

-- one more pair is seen
pub one_more : (new old : List (List ℕ × Octets)) (v : List (List ℕ × List ℕ)) (key : List ℕ) (octets : Octets)
    → map octets_in old ≡ v → AreAmongOr (key, octets) new old
    → AreAmongOr (key, octets.items) (map octets_in new) v
one_more new old v key octets view among pair has =
    let one = unmapped octets_in new pair has in
    elim (among one.0 one.1) [
      | inl was ↦ inl (subst (Contains v) one.2 (is_seen old v one.0.0 one.0.1 view was))
      | inr same ↦ inr (sym one.2 ∙ ap octets_in same)
    ]

-- the octets of a pair, by what they are
pub seen_as : (new : List (List ℕ × Octets)) (v : List (List ℕ × List ℕ)) (key octets encoding : List ℕ)
    → octets ≡ encoding → AreAmongOr (key, octets) (map octets_in new) v
    → AreAmongOr (key, encoding) (map octets_in new) v
seen_as new v key octets encoding is among =
    subst (λ (o : List ℕ). AreAmongOr (key, o) (map octets_in new) v) is among
