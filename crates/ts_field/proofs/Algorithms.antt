-- Algorithm identifiers, as they are read and encoded.
use Rattle.std.proofs.Common.{◌≡◌, ℕ, ◌+◌, Bool, true, false, cond, List, [], ◌++◌, length, Option, Some, None, Result, Ok, refl, sym, ap, subst, ◌∙◌, arith}
use Rattle.std.specs.Prelude.{unwrap_or}
use Rattle.std.proofs.lemmas.List.{append-nil}
use Rattle.ts_der.specs.declared.fault.Fault.{Fault}
use Rattle.ts_der.specs.Octets.{AreOctets}
use Rattle.ts_der.specs.Answer.{◌>>=◌}
use Rattle.ts_der.specs.Element.{Place, Tlv, encode, inside, encoded_at}
use Rattle.ts_der.specs.Reading.{is_end, next_at, end_at}
use Rattle.ts_der.proofs.Elements.{next-found}
use Rattle.ts_der.proofs.Laws.{bind_ok, ok_is, next-only}
use Rattle.ts_der.proofs.Unique.{one-element}
use Rattle.ts_shape.specs.Fields.{Within, IsAny, oid_at}
use Rattle.ts_shape.proofs.Endings.{end-ok, end-again}
use Rattle.ts_shape.proofs.Parts.{Value, Part, within-part, took}
use Rattle.ts_shape.proofs.FieldParts.{oid-part}
use Rattle.ts_field.specs.Algorithm.{Algorithm, AreParameters, IsAlgorithm, parameters_at, algorithm_of, algorithm_at}

parameters-found : (here : Place) (p : Option (List ℕ)) (after : Place) → AreOctets here.rest → parameters_at here ≡ Ok (p, after) → AreParameters p × (here.rest ≡ unwrap_or p [] ++ after.rest)
unfolding parameters_at
parameters-found here p after fits read = by_end (is_end here.rest) read
  where
    by_end : (b : Bool) → cond {A = Result (Option (List ℕ) × Place) Fault} b (Ok (None, here))
        (next_at here >>= λ e. Ok (Some e.0.whole, e.1)) ≡ Ok (p, after) → AreParameters p
        × (here.rest ≡ unwrap_or p [] ++ after.rest)
    by_end true e = subst (λ (x : Option (List ℕ) × Place). AreParameters x.0
        × (here.rest ≡ unwrap_or x.0 [] ++ x.1.rest))
        (ok_is {A = Option (List ℕ) × Place} {E = Fault} (None, here) (p, after) e) (tt, refl)
    by_end false e =
        let b = bind_ok (next_at here) (λ e. Ok (Some e.0.whole, e.1)) (p, after) e in
        let s = next-found here b.0.0 b.0.1 fits b.1 in
        let is : IsAny b.0.0.whole = record { tag = b.0.0.tag; content = b.0.0.content; fits = s.fits; encoded = s.encoded } in
        subst (λ (x : Option (List ℕ) × Place). AreParameters x.0
        × (here.rest ≡ unwrap_or x.0 [] ++ x.1.rest))
        (ok_is {A = Option (List ℕ) × Place} {E = Fault} (Some b.0.0.whole, b.0.1)
        (p, after) b.2) (is, s.whole)

no_more : (n : ℕ) → n ≡ n + 0
no_more n = omega arith

parameters-again : (at : ℕ) (p : Option (List ℕ)) → AreParameters p → parameters_at (record { rest = unwrap_or p []; at = at }) ≡ Ok (p, record { rest = []; at = at + length (unwrap_or p []) })
unfolding parameters_at
parameters-again at None is = ap (λ (n : ℕ). Ok (None, record { rest = []; at = n })) (no_more at)
parameters-again at (Some w) is =
    let here : Place = record { rest = encode is.tag is.content; at = at } in
    let one = next-only here is.tag is.content [] is.fits (sym (append-nil (encode is.tag is.content))) in
    subst (λ (o : List ℕ). parameters_at (record { rest = o; at = at }) ≡ Ok (Some o, record { rest = []; at = at + length o })) (sym is.encoded) (rw one refl)

algorithm-found : (e : Tlv) (a : Algorithm) → AreOctets e.content → e.whole ≡ encode 0x30 e.content → algorithm_of e ≡ Ok a → IsAlgorithm e.content a
unfolding algorithm_of
algorithm-found e a fits w read =
    let o = bind_ok (oid_at (inside e)) _ a read in
    let p = bind_ok (parameters_at o.0.1) _ a o.2 in
    let d = bind_ok (end_at p.0.1) _ a p.2 in
    let same : record { algorithm = o.0.0; parameters = p.0.0; whole = e.whole } ≡ a = ok_is {A = Algorithm} {E = Fault} (record { algorithm = o.0.0; parameters = p.0.0; whole = e.whole }) a d.2 in
    let first = took oid-part (inside e) o.0.0 o.0.1 fits o.1 in
    let second = parameters-found o.0.1 p.0.0 p.0.1 first.3 p.1 in
    let last : o.0.1.rest ≡ unwrap_or p.0.0 [] = second.1 ∙ (ap (λ (r : List ℕ). unwrap_or p.0.0 [] ++ r) (end-ok p.0.1 d.0 d.1) ∙ append-nil (unwrap_or p.0.0 [])) in
    subst (λ (x : Algorithm). IsAlgorithm e.content x) same (record { oid = first.0; algorithm = first.1; parameters = second.0; fields = first.2 ∙ ap (λ (r : List ℕ). first.0 ++ r) last; whole = w })

algorithm-again : (e : Tlv) (a : Algorithm) → e.whole ≡ encode 0x30 e.content → IsAlgorithm e.content a → algorithm_of e ≡ Ok a
unfolding algorithm_of
algorithm-again e a w is =
    let o = oid-part.again (inside e) a.algorithm is.oid (unwrap_or a.parameters []) is.algorithm is.fields in
    let p = parameters-again (e.start + length is.oid) a.parameters is.parameters in
    let d = end-again (e.start + length is.oid + length (unwrap_or a.parameters [])) in
    rw (o, p, d) (ap (λ (x : List ℕ). Ok (record { algorithm = a.algorithm; parameters = a.parameters; whole = x })) (w ∙ sym is.whole))

pub algorithm-value : Value 0x30 algorithm_of IsAlgorithm
algorithm-value = record { found = algorithm-found; again = algorithm-again }

pub algorithm-part : Part algorithm_at (Within 0x30 IsAlgorithm)
unfolding algorithm_at
algorithm-part = within-part 0x30 algorithm_of IsAlgorithm algorithm-value

-- no two algorithm identifiers have the same octets
pub one-algorithm : (w v : List ℕ) (a b : Algorithm) → Within 0x30 IsAlgorithm w a → Within 0x30 IsAlgorithm v b → a.whole ≡ b.whole → a ≡ b
one-algorithm w v a b is other same =
    let both : encode 0x30 is.content ++ [] ≡ encode 0x30 other.content ++ [] = ap (λ (o : List ℕ). o ++ []) (sym is.value.whole ∙ (same ∙ other.value.whole)) in
    let content = one-element 0x30 0x30 is.content other.content [] [] is.fits other.fits both in
    let first = algorithm-value.again (encoded_at 0 0x30 is.content) a refl is.value in
    let second = algorithm-value.again (encoded_at 0 0x30 is.content) b refl (subst (λ (c : List ℕ). IsAlgorithm c b) (sym content.1) other.value) in
    ok_is {A = Algorithm} {E = Fault} a b (sym first ∙ second)
