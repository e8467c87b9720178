-- The bodies of blocks are read in one way.
use Rattle.std.proofs.Common.{◌≡◌, ◌<◌, ◌^◌, ℕ, List, [], ◌∷◌, ◌++◌, length, take, drop, get_or, refl, sym, ◌∙◌, ap, arith, append_assoc}
use Rattle.std.proofs.lemmas.List.{take_at, drop_at}
use Rattle.std.proofs.lemmas.Nat.{from_be_bytes-to_be_bytes_4}
use Rattle.std.specs.List.{flat_map, AllByRecursion}
use Rattle.std.specs.Int.{to_be_bytes, from_be_bytes, w32}
use Rattle.ts_journal.specs.Images.{Header, Block, block, bodies_in, IsBody, IsWholeBlock, Stands}

pub record Same (m n : ℕ) (t u : List ℕ) : Type 0 where
  pub number : m ≡ n
  pub rest : t ≡ u

-- a number of four octets is read in one way
pub one4 : (m n : ℕ) (t u : List ℕ) → m < 2 ^ 32 → n < 2 ^ 32 → to_be_bytes w32 m ++ t ≡ to_be_bytes w32 n ++ u → Same m n t u
one4 m n t u small less is = record {
  number = sym (from_be_bytes-to_be_bytes_4 m small) ∙ ap (λ l. from_be_bytes w32 (take 4 l)) is ∙ from_be_bytes-to_be_bytes_4 n less;
  rest = ap (drop 4) is;
}

-- two blocks and what follows them
pub record Alike (b c : Block) (t u : List ℕ) : Type 0 where
  pub body : b.body ≡ c.body
  pub rest : t ≡ u

pub alike : (b c : Block) (t u : List ℕ) → IsBody b.body → IsBody c.body → block b ++ t ≡ block c ++ u → Alike b c t u
alike b c t u x y is =
    let n = one4 (length b.body) (length c.body) (b.body ++ t) (c.body ++ u) (omega (arith, x.short)) (omega (arith, y.short)) (ap (drop 1) is) in
    let k = length b.body in
    record {
      body = sym (take_at b.body t k refl) ∙ ap (take k) n.rest ∙ take_at c.body u k (sym n.number);
      rest = sym (drop_at b.body t k refl) ∙ ap (drop k) n.rest ∙ drop_at c.body u k (sym n.number);
    }

-- whole blocks up to a closed gate have the same bodies as others that have the same octets
one_list : (bs cs : List Block) (r s : List ℕ) → AllByRecursion IsWholeBlock bs → AllByRecursion IsWholeBlock cs → flat_map block bs ++ 0 ∷ r ≡ flat_map block cs ++ 0 ∷ s → bodies_in bs ≡ bodies_in cs
one_list [] [] r s x y is = refl
one_list [] (c ∷ cs) r s x y is = absurd (y.0.is_open (sym (ap (λ l. get_or l 0 0) is)))
one_list (b ∷ bs) [] r s x y is = absurd (x.0.is_open (ap (λ l. get_or l 0 0) is))
one_list (b ∷ bs) (c ∷ cs) r s x y is =
    let a = alike b c (flat_map block bs ++ 0 ∷ r) (flat_map block cs ++ 0 ∷ s) x.0.fits y.0.fits
    (sym (append_assoc (block b) (flat_map block bs) (0 ∷ r)) ∙ is
    ∙ append_assoc (block c) (flat_map block cs) (0 ∷ s)) in
    let more = one_list bs cs r s x.1 y.1 a.rest in
    λ i. a.body i ∷ more i

-- one list of bodies stands on an image
pub one_bodies : (h k : Header) (live gate : ℕ) (bodies others : List (List ℕ)) (image : List ℕ) → Stands h live bodies image → Stands k gate others image → others ≡ bodies
one_bodies h k live gate bodies others image s t =
    sym t.are ∙ sym (one_list s.blocks t.blocks s.closed.0 t.closed.0 s.whole t.whole (sym (ap (drop 25) s.closed.1) ∙ ap (drop 25) t.closed.1)) ∙ s.are
