-- What a tag vouches for, taken apart.
use Rattle.std.proofs.Common.{◌≡◌, ◌<◌, ◌^◌, ◌∙◌, ℕ, suc, List, [], ◌∷◌, ◌++◌, Some}
use Rattle.std.proofs.Common.{length, drop, get_or, slice_get, refl, sym, ap, subst, arith}
use Rattle.std.proofs.Common.{append_assoc}
use Rattle.std.specs.Prelude.{codes}
use Rattle.std.specs.Int.{from_be_bytes, to_be_bytes, w32, w64}
use Rattle.std.proofs.lemmas.Nat.{from_be_bytes-to_be_bytes_4, from_be_bytes-to_be_bytes_8}
use Rattle.std.proofs.lemmas.Option.{slice_get_within}
use Rattle.ts_guard.specs.Session.{Fits, direction_octet}
use Rattle.ts_guard.specs.Streams.{AreSeals, NoneForged, Seal, SealedAs, text_of}
use Rattle.ts_guard.specs.declared.session.Direction.{Direction}
use Rattle.ts_guard.specs.declared.session.Direction.TheVariants.{FromClient, FromServer}
use Rattle.ts_guard.specs.declared.session.Session.{Session}
use Rattle.ts_guard.proofs.OneRecord.{same_back, same_front}

-- a text from its front to its back
flat : (label id challenge nonce number content : List ℕ) (d : ℕ)
    → (label ++ id ++ challenge ++ nonce ++ d ∷ []) ++ number ++ content ≡ label ++
    (id ++ (challenge ++ (nonce ++ d ∷ (number ++ content))))
flat label id challenge nonce number content d = simp append_assoc

one_direction : (a b : Direction) → direction_octet a ≡ direction_octet b → a ≡ b
one_direction FromClient FromClient e = refl
one_direction FromServer FromServer e = refl
one_direction FromClient FromServer e = absurd (omega (arith, e))
one_direction FromServer FromClient e = absurd (omega (arith, e))

number_4 : (n m : ℕ) → n < 2 ^ 32 → m < 2 ^ 32 → to_be_bytes w32 n ≡ to_be_bytes w32 m → n ≡ m
number_4 n m small less same = sym (from_be_bytes-to_be_bytes_4 n small)
    ∙ ap (λ (l : List ℕ). from_be_bytes w32 l) same ∙ from_be_bytes-to_be_bytes_4 m less

number_8 : (n m : ℕ) → n < 2 ^ 64 → m < 2 ^ 64 → to_be_bytes w64 n ≡ to_be_bytes w64 m → n ≡ m
number_8 n m small less same = sym (from_be_bytes-to_be_bytes_8 n small)
    ∙ ap (λ (l : List ℕ). from_be_bytes w64 l) same ∙ from_be_bytes-to_be_bytes_8 m less

record SameParts (id another challenge other nonce next number last content more : List ℕ)
    (d e : ℕ) : Type 0 where
  ids : id ≡ another
  challenges : challenge ≡ other
  nonces : nonce ≡ next
  directions : d ≡ e
  numbers : number ≡ last
  contents : content ≡ more

same_parts : (label id another challenge other nonce next number last content more : List ℕ)
    (d e : ℕ) → length id ≡ length another → length challenge ≡ length other
    → length nonce ≡ length next
    → length number ≡ length last →
    (label ++ id ++ challenge ++ nonce ++ d ∷ []) ++ number ++ content ≡
    (label ++ another ++ other ++ next ++ e ∷ []) ++ last ++ more
    → SameParts id another challenge other nonce next number last content more d e
same_parts label id another challenge other nonce next number last content more d e i c n k same =
    let s0 = sym (flat label id challenge nonce number content d) ∙ same
    ∙ flat label another other next last more e in
    let s1 = same_back label label _ _ refl s0 in
    let s2 = same_back id another _ _ i s1 in
    let s3 = same_back challenge other _ _ c s2 in
    let s4 = same_back nonce next _ _ n s3 in
    let s5 : number ++ content ≡ last ++ more = ap (λ (l : List ℕ). drop 1 l) s4 in
    record {
      ids = same_front id another _ _ i s1;
      challenges = same_front challenge other _ _ c s2;
      nonces = same_front nonce next _ _ n s3;
      directions = ap (λ (l : List ℕ). get_or l 0 0) s4;
      numbers = same_front number last content more k s5;
      contents = same_back number last content more k s5;
    }

abbrev seal_of : ℕ → List ℕ → List ℕ → Direction → ℕ → List ℕ → Seal
seal_of id challenge nonce direction number content =
    record {
      session = record { key_id = id; challenge = challenge; nonce = nonce };
      direction =
          direction;
      number = number;
      content = content;
    }

same_fields : (i j : ℕ) (a b n m : List ℕ) (d e : Direction) (k l : ℕ) (x y : List ℕ) → i ≡ j
    → a ≡ b → n ≡ m → d ≡ e → k ≡ l → x ≡ y → seal_of i a n d k x ≡ seal_of j b m e l y
same_fields i j a b n m d e k l x y ids challenges nonces directions numbers contents =
    rw (ids, challenges, nonces, directions, numbers, contents) refl

same_seal : (a b : Seal) → a.session.key_id ≡ b.session.key_id
    → a.session.challenge ≡ b.session.challenge → a.session.nonce ≡ b.session.nonce
    → a.direction ≡ b.direction → a.number ≡ b.number
    → a.content ≡ b.content → a ≡ b
same_seal a b id challenge nonce direction number content =
    same_fields a.session.key_id b.session.key_id a.session.challenge b.session.challenge
    a.session.nonce b.session.nonce a.direction b.direction a.number b.number a.content
    b.content
    id challenge nonce direction number content

pub one_text : (a b : Seal) → Fits a.session → Fits b.session → a.number < 2 ^ 64
    → b.number < 2 ^ 64 → text_of a ≡ text_of b → a ≡ b
one_text a b fits fit small less same =
    let s = same_parts (codes "lehoratu 3") (to_be_bytes w32 a.session.key_id)
    (to_be_bytes w32 b.session.key_id) a.session.challenge b.session.challenge a.session.nonce
    b.session.nonce
    (to_be_bytes w64 a.number) (to_be_bytes w64 b.number) a.content b.content
    (direction_octet a.direction) (direction_octet b.direction) refl
    (fits.challenge ∙ sym fit.challenge) (fits.nonce ∙ sym fit.nonce) refl same in
    same_seal a b (number_4 a.session.key_id b.session.key_id fits.key_id fit.key_id s.ids)
    s.challenges s.nonces (one_direction a.direction b.direction s.directions)
    (number_8 a.number b.number small less s.numbers) s.contents

-- a list that another has at each of its places is a front of the other
is_front : (contents sent : List (List ℕ))
    → ((n : ℕ) (content : List ℕ) → slice_get contents n ≡ Some content
    → slice_get sent n ≡ Some content) → (more : List (List ℕ)) × (sent ≡ contents ++ more)
is_front [] sent same = (sent, refl)
is_front (c ∷ cs) [] same = absurd (cc (same 0 c refl))
is_front (c ∷ cs) (s ∷ ss) same =
    let first : s ≡ c = cc (same 0 c refl) in
    let others = is_front cs ss (λ n content is. same (suc n) content is) in
    (others.0, ap (λ (l : List ℕ). l ∷ ss) first ∙ ap (λ (l : List (List ℕ)). c ∷ l) others.1)

pub front_of_sealed : (seals : List Seal) (session : Session) (direction : Direction)
    (contents sent : List (List ℕ)) → AreSeals seals → Fits session → length contents < 2 ^ 64
    → NoneForged seals session direction contents → SealedAs seals session direction sent
    → (more : List (List ℕ)) × (sent ≡ contents ++ more)
front_of_sealed seals session direction contents sent seal_fits fits few unforged as_sent =
    is_front contents sent at
  where
    at : (n : ℕ) (content : List ℕ) → slice_get contents n ≡ Some content
        → slice_get sent n ≡ Some content
    at n content is =
        let found = unforged n content is in
        let b : Seal = record {
          session = session;
          direction = direction;
          number = n;
          content =
              content;
        } in
        let small : n < 2 ^ 64 = omega (arith, few, slice_get_within contents n content is) in
        let same : found.1 ≡ b = one_text found.1 b (seal_fits found.0 found.1 found.2).0 fits
        (seal_fits found.0 found.1 found.2).1 small found.3 in
        subst (λ (s : Seal). slice_get sent s.number ≡ Some s.content) same
        (as_sent found.0 found.1 found.2 (ap (λ (s : Seal). s.session) same)
        (ap (λ (s : Seal). s.direction) same))
