-- What a public key of RSA in octets is.
use Rattle.std.proofs.Common.{◌≡◌, ℕ, ◌≤◌, Bool, true, false, ltb, List, length, Option, Some, None, Result, Ok, Err, refl, sym, ap, subst, cond}
use Rattle.std.specs.Result.{result_ok}
use Rattle.std.proofs.lemmas.Bool.{ltb-false, le-ltb}
use Rattle.ts_der.specs.Octets.{AreOctets}
use Rattle.ts_rsa.specs.Octets.{os2ip}
use Rattle.ts_check.specs.Options.{option_then, holds_of}
use Rattle.ts_check.specs.PublicKey.{IsRsaKey, Public, contents_of, magnitude_of, small_of, public_of}
use Rattle.ts_check.proofs.Contents.{contents-found, contents-only}

then-found : {A B : Type 0} (o : Option A) (f : A → Option B) (y : B) → option_then o f ≡ Some y → (x : A) × (o ≡ Some x) × (f x ≡ Some y)
then-found None f y e = absurd cc
then-found (Some x) f y e = (x, refl, e)

pub holds-found : {A : Type 0} (o : Option A) (f : A → Bool) → holds_of o f ≡ true → (x : A) × (o ≡ Some x) × (f x ≡ true)
holds-found None f e = absurd cc
holds-found (Some x) f e = (x, refl, e)

ok-found : {A E : Type 0} (r : Result A E) (x : A) → result_ok r ≡ Some x → r ≡ Ok x
ok-found (Ok y) x e = let same : y ≡ x = cc in ap (λ z. Ok z) same
ok-found (Err d) x e = absurd cc

some_is : {A : Type 0} (x y : A) → (let o : Option A = Some x in o ≡ Some y) → x ≡ y
some_is x y e = cc

small-found : (octets : List ℕ) (x : ℕ) → small_of octets ≡ Some x → (length octets ≤ 8) × (x ≡ os2ip octets)
unfolding small_of
small-found octets x read = by_test (ltb 8 (length octets)) refl read
  where
    by_test : (b : Bool) → ltb 8 (length octets) ≡ b → cond {A = Option ℕ} b None (Some (os2ip octets)) ≡ Some x → (length octets ≤ 8) × (x ≡ os2ip octets)
    by_test true t r = absurd cc
    by_test false t r = (ltb-false 8 (length octets) t, let same : os2ip octets ≡ x = cc in sym same)

small-again : (octets : List ℕ) → length octets ≤ 8 → small_of octets ≡ Some (os2ip octets)
unfolding small_of
small-again octets h = rw (le-ltb 8 (length octets) h) refl

pub public-found : (octets : List ℕ) (k : Public) → AreOctets octets → public_of octets ≡ Some k → IsRsaKey octets k.modulus k.exponent
unfolding public_of
public-found octets k o read =
    let c = then-found (result_ok (contents_of octets)) _ k read in
    let m = then-found (magnitude_of c.0.0) _ k c.2 in
    let e = then-found (magnitude_of c.0.1) _ k m.2 in
    let x = then-found (small_of e.0) _ k e.2 in
    let made : Public = record { modulus = m.0; exponent = x.0 } in
    let same : made ≡ k = some_is made k x.2 in
    let s = small-found e.0 x.0 x.1 in
    let found : IsRsaKey octets m.0 x.0 = record {
      modulus_content = c.0.0;
      exponent_content = c.0.1;
      encoded = contents-found octets c.0.0 c.0.1 o (ok-found (contents_of octets) c.0 c.1);
      modulus_is = m.1;
      exponent_octets = e.0;
      exponent_is = e.1;
      exponent_small = s.0;
      number = s.1;
    } in
    subst (λ (p : Public). IsRsaKey octets p.modulus p.exponent) same found

pub public-again : (octets modulus : List ℕ) (exponent : ℕ) → IsRsaKey octets modulus exponent
    → public_of octets ≡ Some (record { modulus = modulus; exponent = exponent })
unfolding public_of
public-again octets modulus exponent k =
    rw (contents-only octets k.modulus_content k.exponent_content k.encoded, k.modulus_is, k.exponent_is, small-again k.exponent_octets k.exponent_small, ← k.number) refl
