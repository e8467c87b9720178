-- A list of facts has one encoding, and no two lists have the same.
use Rattle.std.proofs.Common.{◌==◌, false, zero, suc, ◌≡◌, ◌≢◌, ◌<◌, ◌≤◌, ◌^◌, ℕ, List, [], ◌∷◌, ◌++◌, length, drop, get_or, take, refl, sym, ◌∙◌, ap, arith, append_assoc}
use Rattle.std.proofs.lemmas.List.{append-nil, drop_at, take_at}
use Rattle.std.proofs.lemmas.Grind.{flat_map-append}
use Rattle.std.specs.Int.{to_be_bytes, w64}
use Rattle.ts_record.specs.Facts.{blob, fact_encoding, encodings, IsPosition, IsBallot, IsBlob, FactFits, AllFit, NoFact}
use Rattle.ts_synod.specs.declared.message.Fact.{Fact}
use Rattle.ts_synod.specs.declared.message.Fact.TheVariants.{Used, Promised, Took, Chosen}
use Rattle.ts_journal.proofs.Blocks.{one4}
use Rattle.ts_record.proofs.Numbers.{one8}

-- what a loop has read of a body
pub record ReadSoFar {C : Type 0} (octets : C → List ℕ) (before facts : List (Fact C)) (body rest : List ℕ) : Type 0 where
  pub more : List (Fact C)
  pub fit : AllFit octets more
  pub split : body ≡ encodings octets more ++ rest
  pub kept : facts ≡ before ++ more

fit_push : {C : Type 0} (octets : C → List ℕ) (facts : List (Fact C)) (fact : Fact C) → AllFit octets facts → FactFits octets fact → AllFit octets (facts ++ fact ∷ [])
fit_push octets [] fact fit last = (last, tt)
fit_push octets (f ∷ facts) fact fit last = (fit.0, fit_push octets facts fact fit.1 last)

encodings_push : {C : Type 0} (octets : C → List ℕ) (facts : List (Fact C)) (fact : Fact C) → encodings octets (facts ++ fact ∷ []) ≡ encodings octets facts ++ fact_encoding octets fact
encodings_push octets facts fact = flat_map-append (fact_encoding octets) facts (fact ∷ []) ∙ ap (λ l. encodings octets facts ++ l) (append-nil (fact_encoding octets fact))

pub starts : {C : Type 0} (octets : C → List ℕ) (before : List (Fact C)) (body : List ℕ) → ReadSoFar octets before before body body
starts octets before body = record { more = []; fit = tt; split = refl; kept = sym (append-nil before) }

pub one_more : {C : Type 0} (octets : C → List ℕ) (before facts later : List (Fact C))
    (body rest after : List ℕ) (fact : Fact C) → ReadSoFar octets before facts body rest
    → FactFits octets fact → rest ≡ fact_encoding octets fact ++ after → later ≡ facts ++ fact ∷ []
    → ReadSoFar octets before later body after
one_more octets before facts later body rest after fact so_far fits is kept = record {
  more = so_far.more ++ fact ∷ [];
  fit = fit_push octets so_far.more fact so_far.fit fits;
  split = so_far.split ∙ ap (λ l. encodings octets so_far.more ++ l) is
      ∙ sym (append_assoc (encodings octets so_far.more) (fact_encoding octets fact) after)
      ∙ ap (λ l. l ++ after) (sym (encodings_push octets so_far.more fact));
  kept = kept ∙ ap (λ l. l ++ fact ∷ []) so_far.kept ∙ append_assoc before so_far.more (fact ∷ []);
}

module _ {C : Type 0} (octets : C → List ℕ) (one_encoding : (c d : C) → 1 ≤ length (octets c) → octets c ≡ octets d → c ≡ d) where
  -- a blob and what follows it
  blobs : (c d : C) (t u : List ℕ) → IsBlob (octets c) → IsBlob (octets d) → blob (octets c) ++ t ≡ blob (octets d) ++ u → (c ≡ d) × (t ≡ u)
  blobs c d t u small less is =
      let n = one4 (length (octets c)) (length (octets d)) (octets c ++ t) (octets d ++ u) small.short less.short is in
      let k = length (octets c) in (
        one_encoding c d small.some (sym (take_at (octets c) t k refl) ∙ ap (take k) n.rest ∙ take_at (octets d) u k (sym n.number)),
        sym (drop_at (octets c) t k refl) ∙ ap (drop k) n.rest ∙ drop_at (octets d) u k (sym n.number),
      )

  small_position : (p : ℕ) → IsPosition p → p < 2 ^ 32
  small_position p is = omega (arith, is.to)

  small_ballot : (b : ℕ) → IsBallot b → b < 2 ^ 64
  small_ballot b is = omega (arith, is.to)

  kinds : {P : Type 0} (m n : ℕ) (t u : List ℕ) → m ≢ n → m ∷ t ≡ n ∷ u → P
  kinds m n t u differ is = absurd (differ (ap (λ l. get_or l 0 0) is))

  pub alike : (f g : Fact C) (t u : List ℕ) → FactFits octets f → FactFits octets g → fact_encoding octets f ++ t ≡ fact_encoding octets g ++ u → (f ≡ g) × (t ≡ u)
  alike (Used r) (Used s) t u x y is = let n = one4 r s t u x.to y.to (ap (drop 1) is) in (ap Used n.number, n.rest)
  alike (Used r) (Promised q d) t u x y is = kinds 1 2 _ _ (omega arith) is
  alike (Used r) (Took q d e) t u x y is = kinds 1 3 _ _ (omega arith) is
  alike (Used r) (Chosen q e) t u x y is = kinds 1 4 _ _ (omega arith) is
  alike (Promised p b) (Used s) t u x y is = kinds 2 1 _ _ (omega arith) is
  alike (Promised p b) (Promised q d) t u x y is =
      let n = one4 p q (to_be_bytes w64 b ++ t) (to_be_bytes w64 d ++ u) (small_position p x.0) (small_position q y.0) (ap (drop 1) is) in
      let m = one8 b d t u (small_ballot b x.1) (small_ballot d y.1) n.rest in
      (λ i. Promised (n.number i) (m.number i), m.rest)
  alike (Promised p b) (Took q d e) t u x y is = kinds 2 3 _ _ (omega arith) is
  alike (Promised p b) (Chosen q e) t u x y is = kinds 2 4 _ _ (omega arith) is
  alike (Took p b c) (Used s) t u x y is = kinds 3 1 _ _ (omega arith) is
  alike (Took p b c) (Promised q d) t u x y is = kinds 3 2 _ _ (omega arith) is
  alike (Took p b c) (Took q d e) t u x y is =
      let n = one4 p q (to_be_bytes w64 b ++ (blob (octets c) ++ t)) (to_be_bytes w64 d ++ (blob (octets e) ++ u)) (small_position p x.0) (small_position q y.0) (ap (drop 1) is) in
      let m = one8 b d (blob (octets c) ++ t) (blob (octets e) ++ u) (small_ballot b x.1) (small_ballot d y.1) n.rest in
      let w = blobs c e t u x.2 y.2 m.rest in
      (λ i. Took (n.number i) (m.number i) (w.0 i), w.1)
  alike (Took p b c) (Chosen q e) t u x y is = kinds 3 4 _ _ (omega arith) is
  alike (Chosen p c) (Used s) t u x y is = kinds 4 1 _ _ (omega arith) is
  alike (Chosen p c) (Promised q d) t u x y is = kinds 4 2 _ _ (omega arith) is
  alike (Chosen p c) (Took q d e) t u x y is = kinds 4 3 _ _ (omega arith) is
  alike (Chosen p c) (Chosen q e) t u x y is =
      let n = one4 p q (blob (octets c) ++ t) (blob (octets e) ++ u) (small_position p x.0) (small_position q y.0) (ap (drop 1) is) in
      let w = blobs c e t u x.1 y.1 n.rest in
      (λ i. Chosen (n.number i) (w.0 i), w.1)

  longer : (f : Fact C) (t : List ℕ) → fact_encoding octets f ++ t ≡ [] → ⊥
  longer (Used r) t is = absurd (omega (arith, ap length is))
  longer (Promised p b) t is = absurd (omega (arith, ap length is))
  longer (Took p b c) t is = absurd (omega (arith, ap length is))
  longer (Chosen p c) t is = absurd (omega (arith, ap length is))

  -- two lists of facts of one encoding are one
  pub one_list : (fs gs : List (Fact C)) → AllFit octets fs → AllFit octets gs → encodings octets fs ≡ encodings octets gs → fs ≡ gs
  one_list [] [] x y is = refl
  one_list [] (g ∷ gs) x y is = absurd (longer g (encodings octets gs) (sym is))
  one_list (f ∷ fs) [] x y is = absurd (longer f (encodings octets fs) is)
  one_list (f ∷ fs) (g ∷ gs) x y is =
      let h = alike f g (encodings octets fs) (encodings octets gs) x.0 y.0 is in
      λ i. h.0 i ∷ one_list fs gs x.1 y.1 h.1 i

  -- where no fact begins, what comes before is no list of facts
  stuck : (fs gs : List (Fact C)) (rest : List ℕ) → AllFit octets fs → AllFit octets gs → NoFact octets rest → 0 < length rest → encodings octets fs ++ rest ≡ encodings octets gs → ⊥
  stuck [] [] rest x y none some is = absurd (omega (arith, some, ap length is))
  stuck [] (g ∷ gs) rest x y none some is = none g (encodings octets gs) y.0 is
  stuck (f ∷ fs) [] rest x y none some is = longer f (encodings octets fs ++ rest) (sym (append_assoc (fact_encoding octets f) (encodings octets fs) rest) ∙ is)
  stuck (f ∷ fs) (g ∷ gs) rest x y none some is =
      let h = alike f g (encodings octets fs ++ rest) (encodings octets gs) x.0 y.0 (sym (append_assoc (fact_encoding octets f) (encodings octets fs) rest) ∙ is) in
      stuck fs gs rest x.1 y.1 none some h.1

  pub no_more : (before facts : List (Fact C)) (body rest : List ℕ)
      → ReadSoFar octets before facts body rest → NoFact octets rest → 0 < length rest
      → (more : List (Fact C)) → AllFit octets more → body ≡ encodings octets more → ⊥
  no_more before facts body rest so_far none some more fit is = stuck so_far.more more rest so_far.fit fit none some (sym so_far.split ∙ is)

  -- the vote of a taken command isn't there
  pub no_took : (fields rest : List ℕ) → rest ≡ drop 4 fields
      → ((ballot : ℕ) (command : C) (after : List ℕ) → IsBallot ballot → IsBlob (octets command) → rest ≡ to_be_bytes w64 ballot ++ blob (octets command) ++ after → ⊥) → NoFact octets (3 ∷ fields)
  no_took fields rest is none (Used r) after fits too = kinds 3 1 _ _ (omega arith) too
  no_took fields rest is none (Promised q d) after fits too = kinds 3 2 _ _ (omega arith) too
  no_took fields rest is none (Took q d e) after fits too = none d e after fits.1 fits.2 (is ∙ ap (drop 5) too)
  no_took fields rest is none (Chosen q e) after fits too = kinds 3 4 _ _ (omega arith) too

pub not_empty : (n : ℕ) → false ≡ (n == 0) → 0 < n
not_empty zero is = absurd (cc is)
not_empty (suc n) is = omega arith
