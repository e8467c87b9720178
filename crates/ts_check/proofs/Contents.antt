-- The contents of a public key, and its encoding.
use Rattle.std.proofs.Common.{◌≡◌, ℕ, ◌+◌, Bool, true, false, not, List, [], ◌∷◌, ◌++◌, length, Some, None, Ok, refl, sym, ap, subst, ◌∙◌, cond}
use Rattle.ts_der.specs.declared.fault.Fault.{Fault}
use Rattle.ts_der.specs.Octets.{AreOctets}
use Rattle.ts_der.specs.Element.{Place, Tlv, Fits, StandsAt, inside, encode, encoded_at}
use Rattle.ts_der.specs.Integer.{is_shortest, integer_rules}
use Rattle.ts_der.specs.declared.fault.DerFault.TheVariants.{IntegerForm}
use Rattle.ts_der.specs.Rules.{value_unless}
use Rattle.ts_der.specs.Reading.{at_element, element_at, value_at, end_at}
use Rattle.ts_der.proofs.OctetLists.{AreOctets-part, AreOctets-back}
use Rattle.std.proofs.lemmas.List.{append-nil}
use Rattle.ts_der.proofs.Laws.{bind_ok, ok_is, element-found, element-only}
use Rattle.ts_check.specs.PublicKey.{IsPublicKey, contents_of}

pub end-ok : (here : Place) (u : Unit {0}) → end_at here ≡ Ok u → here.rest ≡ []
unfolding end_at
end-ok here u read = by_rest here.rest refl read
  where
    by_rest : (rest : List ℕ) → here.rest ≡ rest → end_at (record { rest = rest; at = here.at }) ≡ Ok u → here.rest ≡ []
    by_rest [] e r = e
    by_rest (x ∷ xs) e r = absurd cc

integer-found : (e : Tlv) (c : List ℕ) → value_at integer_rules (λ c. c) e ≡ Ok c → (e.content ≡ c) × (is_shortest e.content ≡ true)
integer-found e c read = by_test (is_shortest e.content) refl read
  where
    by_test : (b : Bool) → is_shortest e.content ≡ b
        → at_element {A = List ℕ} e.at (value_unless (cond (not b) (Some IntegerForm) None) e.content) ≡ Ok c → (e.content ≡ c) × (is_shortest e.content ≡ true)
    by_test true t r = (ok_is {E = Fault} e.content c r, t)
    by_test false t r = absurd cc

integer-again : (e : Tlv) → is_shortest e.content ≡ true → value_at integer_rules (λ c. c) e ≡ Ok e.content
integer-again e t = rw t refl

-- what stands at a place is at its front
stood : (here : Place) (e : Tlv) (after : Place) (tag : ℕ) → StandsAt here e after → e.tag ≡ tag → here.rest ≡ encode tag e.content ++ after.rest
stood here e after tag s t = s.whole ∙ ap (λ (z : List ℕ). z ++ after.rest) (s.encoded ∙ ap (λ (z : ℕ). encode z e.content) t)

pub contents-found : (octets n x : List ℕ) → AreOctets octets → contents_of octets ≡ Ok (n, x) → IsPublicKey octets n x
unfolding contents_of
contents-found octets n x o read =
    let here : Place = record { rest = octets; at = 0 } in
    let key = bind_ok (element_at 0x30 here) _ (n, x) read in
    let alone = bind_ok (end_at key.0.1) _ (n, x) key.2 in
    let m = bind_ok (element_at 2 (inside key.0.0)) _ (n, x) alone.2 in
    let mc = bind_ok (value_at integer_rules (λ c. c) m.0.0) _ (n, x) m.2 in
    let y = bind_ok (element_at 2 m.0.1) _ (n, x) mc.2 in
    let yc = bind_ok (value_at integer_rules (λ c. c) y.0.0) _ (n, x) y.2 in
    let last = bind_ok (end_at y.0.1) _ (n, x) yc.2 in
    let same : (mc.0, yc.0) ≡ (n, x) = ok_is {E = Fault} (mc.0, yc.0) (n, x) last.2 in
    let kf = element-found 0x30 here key.0.0 key.0.1 o key.1 in
    let ke : octets ≡ encode 0x30 key.0.0.content ++ key.0.1.rest = stood here key.0.0 key.0.1 0x30 kf.0 kf.1 in
    let ko : AreOctets key.0.0.content = AreOctets-part 0x30 key.0.0.content key.0.1.rest (subst AreOctets ke o) in
    let mf = element-found 2 (inside key.0.0) m.0.0 m.0.1 ko m.1 in
    let me : key.0.0.content ≡ encode 2 m.0.0.content ++ m.0.1.rest = stood (inside key.0.0) m.0.0 m.0.1 2 mf.0 mf.1 in
    let mo : AreOctets m.0.1.rest = AreOctets-back (encode 2 m.0.0.content) m.0.1.rest (subst AreOctets me ko) in
    let yf = element-found 2 m.0.1 y.0.0 y.0.1 mo y.1 in
    let ye : m.0.1.rest ≡ encode 2 y.0.0.content ++ y.0.1.rest = stood m.0.1 y.0.0 y.0.1 2 yf.0 yf.1 in
    let mi = integer-found m.0.0 mc.0 mc.1 in
    let yi = integer-found y.0.0 yc.0 yc.1 in
    let mn : m.0.0.content ≡ n = mi.0 ∙ ap (λ (z : List ℕ × List ℕ). z.0) same in
    let yx : y.0.0.content ≡ x = yi.0 ∙ ap (λ (z : List ℕ × List ℕ). z.1) same in
    let ends = end-ok y.0.1 last.0 last.1 in
    let alone_end = end-ok key.0.1 alone.0 alone.1 in
    let fields : key.0.0.content ≡ encode 2 n ++ encode 2 x =
    me ∙ (λ j. encode 2 (mn j) ++ ye j) ∙ ap (λ (z : List ℕ). encode 2 n ++ (encode 2 y.0.0.content ++ z)) ends
    ∙ ap (λ (z : List ℕ). encode 2 n ++ z) (append-nil (encode 2 y.0.0.content)) ∙ ap (λ (z : List ℕ). encode 2 n ++ encode 2 z) yx in
    record {
      fields_fit = subst (λ (z : List ℕ). Fits 0x30 z) fields (subst (λ (z : ℕ). Fits z key.0.0.content) kf.1 kf.0.fits);
      modulus_fits = subst (λ (z : List ℕ). Fits 2 z) mn (subst (λ (z : ℕ). Fits z m.0.0.content) mf.1 mf.0.fits);
      exponent_fits = subst (λ (z : List ℕ). Fits 2 z) yx (subst (λ (z : ℕ). Fits z y.0.0.content) yf.1 yf.0.fits);
      encoded = ke ∙ ap (λ (z : List ℕ). encode 0x30 key.0.0.content ++ z) alone_end ∙ append-nil (encode 0x30 key.0.0.content) ∙ ap (λ (z : List ℕ). encode 0x30 z) fields;
      modulus_shortest = subst (λ (z : List ℕ). is_shortest z ≡ true) mn mi.1;
      exponent_shortest = subst (λ (z : List ℕ). is_shortest z ≡ true) yx yi.1;
    }

end-again : (at : ℕ) → end_at (record { rest = []; at = at }) ≡ Ok tt
unfolding end_at
end-again at = refl

pub contents-only : (octets n x : List ℕ) → IsPublicKey octets n x → contents_of octets ≡ Ok (n, x)
unfolding contents_of
contents-only octets n x p =
    let here : Place = record { rest = octets; at = 0 } in
    let fields = encode 2 n ++ encode 2 x in
    let key = encoded_at 0 0x30 fields in
    let second : Place = record { rest = encode 2 x; at = key.start + length (encode 2 n) } in
    let a = element-only here 0x30 fields [] p.fields_fit (p.encoded ∙ sym (append-nil (encode 0x30 fields))) in
    let b = element-only (inside key) 2 n (encode 2 x) p.modulus_fits refl in
    let d = element-only second 2 x [] p.exponent_fits (sym (append-nil (encode 2 x))) in
    rw (a, end-again, b, integer-again (encoded_at key.start 2 n) p.modulus_shortest, d, integer-again (encoded_at second.at 2 x) p.exponent_shortest, end-again) refl
