-- What reading finds in the octets of a signature, and that it finds each signature.
use Rattle.std.proofs.Common.{◌≡◌, ℕ, ◌+◌, ◌*◌, ◌^◌, ◌<◌, cond, Bool, true, false, List, [], ◌∷◌, ◌++◌, length, fold, Result, Ok, pos, ◌-ℤ◌, refl, sym, ap, subst, ◌∙◌, length-append, arith}
use Rattle.std.proofs.lemmas.List.{append-nil}
use Rattle.std.proofs.lemmas.Int.{ints}
use Rattle.std.specs.Int.Digits.{number_from_digits_after}
use Rattle.ts_der.specs.declared.fault.Fault.{Fault}
use Rattle.ts_der.specs.Answer.{◌>>=◌}
use Rattle.ts_der.specs.Octets.{AreOctets}
use Rattle.ts_der.specs.Element.{Place, Tlv, Fits, encode, encoded_at, number, length_octets}
use Rattle.ts_der.specs.Reading.{content_at, element_at, end_at, value_at}
use Rattle.ts_der.specs.Integer.{integer_rules, is_shortest, is_negative, twos_complement, IsInteger}
use Rattle.ts_der.proofs.Laws.{bind_ok, ok_is, err_not_ok, content-found, content-only, element-found, element-only}
use Rattle.ts_der.proofs.Integers.{number-bound}
use Rattle.ts_der.proofs.OctetLists.{AreOctets-back, AreOctets-part}
use Rattle.ts_curve.specs.Octets.{number_of}
use Rattle.ts_ecdsa.specs.Reading.{integer_at, parts_of}
use Rattle.ts_ecdsa.specs.Value.{IsSignatureValue}

-- SEQUENCE { INTEGER, INTEGER }, by the contents of both
pub record IsParts (octets r s : List ℕ) : Type 0 where
  pub first_fits : Fits 2 r
  pub second_fits : Fits 2 s
  pub fits : Fits 0x30 (encode 2 r ++ encode 2 s)
  pub encoded : octets ≡ encode 0x30 (encode 2 r ++ encode 2 s)
  pub first_shortest : is_shortest r ≡ true
  pub second_shortest : is_shortest s ≡ true

ends : (rest : List ℕ) (at : ℕ) (u : Unit {0}) → end_at (record { rest = rest; at = at }) ≡ Ok u
    → rest ≡ []
unfolding end_at
ends [] at u h = refl
ends (x ∷ xs) at u h = absurd cc

ended : (rest : List ℕ) (at : ℕ) → rest ≡ [] → end_at (record { rest = rest; at = at }) ≡ Ok tt
unfolding end_at
ended [] at e = refl
ended (x ∷ xs) at e = absurd cc

shortest_to : (e : Tlv) (b : Bool) → is_shortest e.content ≡ b → (c : List ℕ)
    → value_at integer_rules (λ content. content) e ≡ Ok c → (b ≡ true) × (e.content ≡ c)
shortest_to e true h c k = (refl, ok_is {E = Fault} e.content c (rw h at k))
shortest_to e false h c k = absurd (err_not_ok (rw h at k))

shortest_from : (e : Tlv) → is_shortest e.content ≡ true
    → value_at integer_rules (λ content. content) e ≡ Ok e.content
shortest_from e h = rw h refl

pub record Found (here : Place) (r : List ℕ) (after : Place) : Type 0 where
  pub fits : Fits 2 r
  pub shortest : is_shortest r ≡ true
  pub whole : here.rest ≡ encode 2 r ++ after.rest

integer-found : (here : Place) (r : List ℕ) (after : Place) → AreOctets here.rest
    → integer_at here ≡ Ok (r, after) → Found here r after
unfolding integer_at
integer-found here r after oct read =
    let b = bind_ok (element_at 2 here) (λ x. value_at integer_rules
    (λ content. content) x.0 >>= λ content. Ok (content, x.1)) (r, after) read in
    let x = b.0 in
    let d = bind_ok (value_at integer_rules (λ content. content) x.0) (λ content. Ok (content, x.1))
    (r, after) b.2 in
    let same : (d.0, x.1) ≡ (r, after) = ok_is {E = Fault} (d.0, x.1) (r, after) d.2 in
    let found = element-found 2 here x.0 x.1 oct b.1 in
    let short = shortest_to x.0 (is_shortest x.0.content) refl d.0 d.1 in
    let content : x.0.content ≡ r = short.1 ∙ ap (λ (t : List ℕ × Place). t.0) same in
    let next : x.1 ≡ after = ap (λ (t : List ℕ × Place). t.1) same in
    record {
      fits = subst (Fits 2) content (subst (λ t. Fits t x.0.content) found.1 found.0.fits);
      shortest = ap is_shortest (sym content) ∙ short.0;
      whole = found.0.whole ∙ ap (λ w. w ++ x.1.rest) (found.0.encoded
          ∙ ap (λ t. encode t x.0.content) found.1 ∙ ap (encode 2) content)
          ∙ ap (λ (p : Place). encode 2 r ++ p.rest) next;
    }

integer-only : (here : Place) (r more : List ℕ) → Fits 2 r → is_shortest r ≡ true
    → here.rest ≡ encode 2 r ++ more
    → integer_at here ≡ Ok (r, record { rest = more; at = here.at + length (encode 2 r) })
unfolding integer_at
integer-only here r more fits short e =
    rw (element-only here 2 r more fits e) (rw (shortest_from (encoded_at here.at 2 r) short) refl)

-- the steps of the reading
abbrev Out : Type 0
Out = Result (List ℕ × List ℕ) Fault

abbrev step₅ : List ℕ × Place → List ℕ × Place → Out
step₅ r s = end_at s.1 >>= λ _. Ok (r.0, s.0)

abbrev step₄ : List ℕ × Place → Out
step₄ r = integer_at r.1 >>= λ s. step₅ r s

abbrev step₃ : List ℕ × Place → Out
step₃ x = integer_at (record { rest = x.0; at = 0 }) >>= λ r. step₄ r

abbrev step₂ : List ℕ × Place → Out
step₂ x = end_at x.1 >>= λ _. step₃ x

pub parts_found : (octets r s : List ℕ) → AreOctets octets → parts_of octets ≡ Ok (r, s)
    → IsParts octets r s
unfolding parts_of
parts_found octets r s oct read =
    let start : Place = record { rest = octets; at = 0 } in
    let a = bind_ok (content_at 0x30 start) step₂ (r, s) read in
    let b = bind_ok (end_at a.0.1) (λ (u : Unit {0}). step₃ a.0) (r, s) a.2 in
    let inner : Place = record { rest = a.0.0; at = 0 } in
    let c = bind_ok (integer_at inner) step₄ (r, s) b.2 in
    let d = bind_ok (integer_at c.0.1) (step₅ c.0) (r, s) c.2 in
    let e = bind_ok (end_at d.0.1) (λ (u : Unit {0}). (let o : Out = Ok (c.0.0, d.0.0) in
    o)) (r, s) d.2 in
    let same : (c.0.0, d.0.0) ≡ (r, s) = ok_is {E = Fault} (c.0.0, d.0.0) (r, s) e.2 in
    let f = content-found 0x30 start a.0.0 a.0.1 oct a.1 in
    let t = f.0 in
    let none = ends a.0.1.rest a.0.1.at b.0 b.1 in
    let last = ends d.0.1.rest d.0.1.at e.0 e.1 in
    let whole : octets ≡ encode 0x30 a.0.0 =
    f.1.whole ∙ ap (λ v. v ++ a.0.1.rest) (f.1.encoded ∙ ap (λ v. encode v t.content) f.2 ∙ ap (encode 0x30) f.3)
    ∙ ap (λ v. encode 0x30 a.0.0 ++ v) none ∙ append-nil (encode 0x30 a.0.0) in
    let octA : AreOctets a.0.0 = AreOctets-part 0x30 a.0.0 [] (subst AreOctets (whole ∙ sym (append-nil (encode 0x30 a.0.0))) oct) in
    let i = integer-found inner c.0.0 c.0.1 octA c.1 in
    let octC : AreOctets c.0.1.rest = AreOctets-back (encode 2 c.0.0) c.0.1.rest
    (subst AreOctets i.whole octA) in
    let j = integer-found c.0.1 d.0.0 d.0.1 octC d.1 in
    let both : a.0.0 ≡ encode 2 c.0.0 ++ encode 2 d.0.0 =
    i.whole ∙ ap (λ v. encode 2 c.0.0 ++ v) (j.whole ∙ ap (λ v. encode 2 d.0.0 ++ v) last
    ∙ append-nil (encode 2 d.0.0)) in
    let value : IsParts octets c.0.0 d.0.0 = record {
      first_fits = i.fits;
      second_fits = j.fits;
      fits = subst (Fits 0x30) (f.3 ∙ both) (subst (λ v. Fits v t.content) f.2 f.1.fits);
      encoded = whole ∙ ap (encode 0x30) both;
      first_shortest = i.shortest;
      second_shortest = j.shortest;
    } in
    subst (λ (p : List ℕ × List ℕ). IsParts octets p.0 p.1) same value

pub parts_only : (octets r s : List ℕ) → IsParts octets r s → parts_of octets ≡ Ok (r, s)
unfolding parts_of
parts_only octets r s v =
    let content = encode 2 r ++ encode 2 s in
    let start : Place = record { rest = octets; at = 0 } in
    let inner : Place = record { rest = content; at = 0 } in
    let next : Place = record { rest = encode 2 s; at = 0 + length (encode 2 r) } in
    let a = content-only start 0x30 content [] v.fits (v.encoded ∙ sym (append-nil (encode 0x30 content))) in
    let b = ended [] (0 + length (encode 0x30 content)) refl in
    let c = integer-only inner r (encode 2 s) v.first_fits v.first_shortest refl in
    let d = integer-only next s [] v.second_fits v.second_shortest (sym (append-nil
    (encode 2 s))) in
    let e = ended [] (next.at + length (encode 2 s)) refl in
    ap (λ k. k >>= step₂) a ∙ ap (λ k. k >>= λ (u : Unit {0}). step₃ (content, record { rest = []; at = 0 + length (encode 0x30 content) })) b
    ∙ ap (λ k. k >>= step₄) c ∙ ap (λ k. k >>= step₅ (r, next)) d
    ∙ ap (λ k. k >>= λ (u : Unit {0}). (let o : Out = Ok (r, s) in o)) e

-- ---- the numbers of the integers
same-number-after : (n : ℕ) (octets : List ℕ)
    → fold (λ n octet. 256 * n + octet) n octets ≡ number_from_digits_after 256 n octets
same-number-after n [] = refl
same-number-after n (o ∷ octets) =
    let e : 256 * n + o ≡ n * 256 + o = omega arith in
    same-number-after (256 * n + o) octets ∙ ap (λ k. number_from_digits_after 256 k octets) e

same-number : (octets : List ℕ) → number octets ≡ number_of octets
unfolding number number_of
same-number octets = same-number-after 0 octets

integer-from : (content : List ℕ) → is_shortest content ≡ true → is_negative content ≡ false
    → IsInteger content (pos (number_of content))
unfolding twos_complement
integer-from content short sign =
    record { shortest = short; value = rw sign (ap pos (same-number content)) }

not_negative : (a p n : ℕ) → a < p → pos a -ℤ pos p ≡ pos n → ⊥
not_negative a p n lt e = omega (arith, ints)

integer-to : (content : List ℕ) (n : ℕ) → AreOctets content → twos_complement content ≡ pos n
    → (is_negative content ≡ false) × (number_of content ≡ n)
unfolding twos_complement
integer-to content n fits e = by_sign (is_negative content) e
  where
    by_sign : (b : Bool)
        → cond b (pos (number content) -ℤ pos (256 ^ length content)) (pos (number content)) ≡ pos n
        → (b ≡ false) × (number_of content ≡ n)
    by_sign false e = (refl, sym (same-number content) ∙ cc)
    by_sign true e =
        absurd (not_negative (number content) (256 ^ length content) n
        (number-bound content fits) e)

pub value_found : (octets a b : List ℕ) → AreOctets octets → parts_of octets ≡ Ok (a, b)
    → is_negative a ≡ false → is_negative b ≡ false
    → IsSignatureValue octets (number_of a) (number_of b)
value_found octets a b oct read na nb =
    let p = parts_found octets a b oct read in
    record {
      first = a;
      second = b;
      r_is = integer-from a p.first_shortest na;
      s_is = integer-from b p.second_shortest nb;
      fits = p.fits;
      encoded = p.encoded;
    }

-- parts of what fits fit
first_fits : (first second : List ℕ) → Fits 0x30 (encode 2 first ++ encode 2 second) → Fits 2 first
first_fits first second f =
    let h = f.short in
    record {
      octet = omega arith;
      low = omega arith;
      short = omega (
        arith,
        h,
        length-append (encode 2 first) (encode 2 second),
        length-append (length_octets (length first)) first,
      );
    }

second_fits : (first second : List ℕ) → Fits 0x30 (encode 2 first ++ encode 2 second)
    → Fits 2 second
second_fits first second f =
    let h = f.short in
    record {
      octet = omega arith;
      low = omega arith;
      short = omega (
        arith,
        h,
        length-append (encode 2 first) (encode 2 second),
        length-append (length_octets (length second)) second,
      );
    }

-- what reading finds in the octets of a signature
pub record Read (octets : List ℕ) (r s : ℕ) (parts : List ℕ × List ℕ) : Type 0 where
  pub read : parts_of octets ≡ Ok parts
  pub first_sign : is_negative parts.0 ≡ false
  pub second_sign : is_negative parts.1 ≡ false
  pub first_is : number_of parts.0 ≡ r
  pub second_is : number_of parts.1 ≡ s

pub value_only : (octets : List ℕ) (r s : ℕ) → AreOctets octets → IsSignatureValue octets r s
    → (parts : List ℕ × List ℕ) × Read octets r s parts
value_only octets r s oct v =
    let a = v.first in
    let b = v.second in
    let content = encode 2 a ++ encode 2 b in
    let whole : AreOctets (encode 0x30 content ++ []) =
    subst AreOctets (v.encoded ∙ sym (append-nil (encode 0x30 content))) oct in
    let inner : AreOctets content = AreOctets-part 0x30 content [] whole in
    let octets-a : AreOctets a = AreOctets-part 2 a (encode 2 b) inner in
    let back : AreOctets (encode 2 b) = AreOctets-back (encode 2 a) (encode 2 b) inner in
    let octets-b : AreOctets b =
    AreOctets-part 2 b [] (subst AreOctets (sym (append-nil (encode 2 b))) back) in
    let first = integer-to a r octets-a v.r_is.value in
    let second = integer-to b s octets-b v.s_is.value in
    let parts : IsParts octets a b = record {
      first_fits = first_fits a b v.fits;
      second_fits = second_fits a b v.fits;
      fits = v.fits;
      encoded = v.encoded;
      first_shortest = v.r_is.shortest;
      second_shortest = v.s_is.shortest;
    } in (
      (a, b),
      record {
        read = parts_only octets a b parts;
        first_sign = first.0;
        second_sign = second.0;
        first_is = first.1;
        second_is = second.1;
      },
    )
