-- A stream is the records of one list of contents, up to one end.
use Rattle.std.proofs.Common.{◌≡◌, ◌+◌, ◌∙◌, ℕ, List, [], ◌∷◌, ◌++◌, Option, length, refl, sym, ap}
use Rattle.std.proofs.Common.{subst, arith, append_assoc}
use Rattle.std.specs.List.{AllByRecursion}
use Rattle.ts_guard.specs.Sealed.{IsContent, sealed_record, stream, tag}
use Rattle.ts_guard.specs.Reading.{Ends, Splits}
use Rattle.ts_guard.specs.declared.fault.GuardFault.{GuardFault}
use Rattle.ts_guard.proofs.OneRecord.{after_begins, begins, one_end, same_record, sealed_or_end}

pub record Alike (contents others : List (List ℕ)) (fault other : Option GuardFault) : Type 0 where
  pub contents_alike : contents ≡ others
  pub faults_alike : fault ≡ other

-- records from a number on, and the end after them
record Reads (key context : List ℕ) (number : ℕ) (octets : List ℕ) (contents : List (List ℕ))
    (fault : Option GuardFault) : Type 0 where
  rest : List ℕ
  last : ℕ
  count : last ≡ number + length contents
  is : octets ≡ stream key context number contents ++ rest
  each : AllByRecursion IsContent contents
  ends : Ends key context last fault rest

-- the record at the front, and what follows it
front : (key context : List ℕ) (number : ℕ) (octets content rest : List ℕ)
    (contents : List (List ℕ)) → octets ≡ stream key context number (content ∷ contents) ++ rest
    → octets ≡ sealed_record key context number content ++
    (stream key context (number + 1) contents ++ rest)
front key context number octets content rest contents is = is
    ∙ append_assoc (sealed_record key context number content)
    (stream key context (number + 1) contents) rest

behind : (key context : List ℕ) (number : ℕ) (octets content rest : List ℕ)
    (contents : List (List ℕ)) (fault : Option GuardFault) (last : ℕ)
    → last ≡ number + length (content ∷ contents)
    → AllByRecursion IsContent contents → Ends key context last fault rest → (after : List ℕ)
    → after ≡ stream key context (number + 1) contents ++ rest
    → Reads key context (number + 1) after contents fault
behind key context number octets content rest contents fault last count each ends after is =
    record {
      rest = rest;
      last = last;
      count = omega (arith, count);
      is = is;
      each = each;
      ends =
          ends;
    }

one : (key context : List ℕ) (number : ℕ) (octets : List ℕ) (contents others : List (List ℕ))
    (fault other : Option GuardFault) → Reads key context number octets contents fault
    → Reads key context number octets others other → Alike contents others fault other
one key context number octets [] [] fault other r s =
    let last : s.last ≡ r.last = omega (arith, r.count, s.count) in
    let here : Ends key context r.last other r.rest =
    subst (λ (l : List ℕ). Ends key context r.last other l) (sym s.is ∙ r.is)
    (subst (λ k. Ends key context k other s.rest) last s.ends) in
    record {
      contents_alike = refl;
      faults_alike =
          one_end key context r.last r.rest fault other r.ends here;
    }
one key context number octets [] (d ∷ ds) fault other r s =
    let last : r.last ≡ number = omega (arith, r.count) in
    let here : Ends key context number fault r.rest =
    subst (λ k. Ends key context k fault r.rest) last r.ends in
    absurd (sealed_or_end key context number r.rest d
    (stream key context (number + 1) ds ++ s.rest) fault s.each.0 (sym r.is
    ∙ front key context number octets d s.rest ds s.is) here)
one key context number octets (c ∷ cs) [] fault other r s =
    let last : s.last ≡ number = omega (arith, s.count) in
    let here : Ends key context number other s.rest =
    subst (λ k. Ends key context k other s.rest) last s.ends in
    absurd (sealed_or_end key context number s.rest c
    (stream key context (number + 1) cs ++ r.rest) other r.each.0 (sym s.is
    ∙ front key context number octets c r.rest cs r.is) here)
one key context number octets (c ∷ cs) (d ∷ ds) fault other r s =
    let p = front key context number octets c r.rest cs r.is in
    let q = front key context number octets d s.rest ds s.is in
    let rest = stream key context (number + 1) cs ++ r.rest in
    let more = stream key context (number + 1) ds ++ s.rest in
    let same = same_record octets 3 3 (tag key context number c) (tag key context number d) c d
    (begins key context number octets c rest r.each.0 p)
    (begins key context number octets d more s.each.0 q) in
    let after : rest ≡ more = sym (after_begins key context number octets c rest r.each.0 p)
    ∙ same.after_is ∙ after_begins key context number octets d more s.each.0 q in
    let others = one key context (number + 1) rest cs ds fault other
    (behind key context number octets c r.rest cs fault r.last r.count r.each.1 r.ends rest
    refl)
    (behind key context number octets d s.rest ds other s.last s.count s.each.1 s.ends rest
    after) in
    record {
      contents_alike = ap (λ (x : List ℕ). x ∷ cs) same.content_is
          ∙ ap (λ (l : List (List ℕ)). d ∷ l) others.contents_alike;
      faults_alike = others.faults_alike;
    }

pub one_reading : (key context octets : List ℕ) (contents others : List (List ℕ))
    (fault other : Option GuardFault) → Splits key context octets contents fault
    → Splits key context octets others other
    → Alike contents others fault other
one_reading key context octets contents others fault other s t =
    one key context 0 octets contents others fault other
    (record {
      rest = s.rest;
      last = length contents;
      count = omega arith;
      is = s.is;
      each =
          s.each;
      ends = s.ends;
    })
    (record {
      rest = t.rest;
      last = length others;
      count = omega arith;
      is = t.is;
      each =
          t.each;
      ends = t.ends;
    })
