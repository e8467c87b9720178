-- The values that several formats have are read in one way.
use Rattle.std.proofs.Common.{◌≡◌, ℕ, ℤ, ◌%◌, ◌^◌, ◌<◌, ◌≤◌, ◌&&◌, ◌==◌, true, List, ◌∷◌, [], ◌++◌, length, Some, ap, ◌∙◌, arith}
use Rattle.std.specs.Prelude.{nat_le, nat_lt}
use Rattle.std.specs.Int.{w32, w64, to_be_bytes, cast_signed, cast_unsigned}
use Rattle.std.specs.Int.RustNames.{FitsSigned}
use Rattle.std.proofs.lemmas.Int.{to_z-of_z, of_z-to_z}
use Rattle.std.proofs.Math.Facts.{sfits_to_z, Fits-of_z}
use mir.Val.{Fits as Fits64}
use Rattle.std.proofs.lemmas.Bool.{eqb-true, ltb-true, lt-ltb, leb-true}
use Rattle.ts_der.specs.ObjectIdentifier.{is_oid}
use Rattle.ts_codec.specs.Parts.{blob8, blob32}
use Rattle.ts_codec.specs.Ranges.{is_node_number, is_position, is_prefix, is_ballot, is_short}
use Rattle.ts_codec.specs.Reading.{Reader, ◌>>=◌, value_if, ◌then◌, number_at, node_at, position_at, prefix_at, ballot_at, oid_at, short_blob_at, signed_at, tag_at, behind_mark}
use Rattle.ts_codec.proofs.Truths.{first_true, second_true, few_octets}
use Rattle.ts_codec.proofs.Laws.{IsBytes, Takes, Part, step}
use Rattle.ts_codec.proofs.Numbers.{octet_part, number32, number64}
use Rattle.ts_codec.proofs.Rows.{that_part, fitting, test_part, into_part}
use Rattle.ts_codec.proofs.Lists.{blob8_part, blob32_part}

-- four octets, for those who test the number
pub word_part : Part (to_be_bytes w32) (λ n. nat_lt n 4294967296 ≡ true) (number_at w32)
word_part = fitting number32 (λ n. nat_lt n 4294967296 ≡ true) (λ n few. lt-ltb n 4294967296 (omega (arith, few))) (λ n good. let k : n < 4294967296 = ltb-true n 4294967296 good in omega (arith, k))

pub node_part : Part (λ n. n ∷ []) (λ n. is_node_number n ≡ true) node_at
unfolding node_at
node_part = test_part octet_part is_node_number (λ n good. let k : n ≤ 9 = leb-true n 9 (second_true (nat_le 1 n) (nat_le n 9) good) in omega (arith, k))

pub position_part : Part (to_be_bytes w32) (λ n. is_position n ≡ true) position_at
unfolding position_at
position_part = test_part number32 is_position (λ n good. let k : n ≤ 1000000 = leb-true n 1000000 (second_true (nat_le 1 n) (nat_le n 1000000) good) in omega (arith, k))

pub prefix_part : Part (to_be_bytes w32) (λ n. is_prefix n ≡ true) prefix_at
unfolding prefix_at
prefix_part = test_part number32 is_prefix (λ n good. let k : n ≤ 1000000 = leb-true n 1000000 good in omega (arith, k))

pub ballot_part : Part (to_be_bytes w64) (λ n. is_ballot n ≡ true) ballot_at
unfolding ballot_at
ballot_part = test_part number64 is_ballot (λ n good.
    let k : n < 68719476736 = ltb-true n 68719476736 (second_true (nat_le 16 n) (nat_lt n 68719476736) (first_true (nat_le 16 n && nat_lt n 68719476736) (is_node_number (n % 16)) good)) in
    omega (arith, k))

pub oid_part : Part blob8 (λ c. is_oid c ≡ true) oid_at
unfolding oid_at
oid_part = test_part blob8_part is_oid (λ c good. let k = few_octets c good in omega (arith, k))

-- a blob of at most so many octets, whose number four octets hold
pub short_blob : (most : ℕ) → most < 2 ^ 32 → Part blob32 (λ c. is_short most c ≡ true) (short_blob_at most)
unfolding short_blob_at
short_blob most few = test_part blob32_part (is_short most) (λ c good. let k : length c ≤ most = leb-true (length c) most good in omega (arith, k, few))

pub signed_part : Part (λ z. to_be_bytes w64 (cast_unsigned w64 z)) (λ z. FitsSigned w64 z) signed_at
unfolding signed_at
signed_part = into_part number64 (cast_signed w64) (record {
  parts = cast_unsigned w64;
  same = λ z fit. to_z-of_z w64 z fit;
  fit = λ z fit. (let b : Fits64 w64 (cast_unsigned w64 z) = Fits-of_z fit in b.fits);
  fits = λ n small. (let b : Fits64 w64 n = record { fits = small } in sfits_to_z b);
  octets = λ n small. ap (to_be_bytes w64) (of_z-to_z w64 n small);
})

pub tag_part : (tag : ℕ) → Part (λ o. o ∷ []) (λ o. (o < 256) × ((o == tag) ≡ true)) (tag_at tag)
unfolding tag_at
tag_part tag = that_part octet_part (λ o. o == tag)

-- a part after an octet that is always this one
pub marked_part : {A : Type 0} {encode : A → List ℕ} {Fit : A → Type 0} {read : Reader A} (tag : ℕ) → (tag == tag) ≡ true → Part encode Fit read → Part (λ x. tag ∷ encode x) Fit (behind_mark tag read)
unfolding tag_at
marked_part {A} {encode} {Fit} {read} tag same part = record {
  takes = λ octets x rest bytes is. takes octets x rest bytes is;
  again = λ x rest fit. ap (λ b. value_if {A = ℕ × List ℕ} b (tag, encode x ++ rest) >>= λ o. read o.1) same ∙ part.again x rest fit;
}
  where
    takes : (octets : List ℕ) (x : A) (rest : List ℕ) → IsBytes octets → behind_mark tag read octets ≡ Some (x, rest) → Takes octets (tag ∷ encode x) rest × Fit x
    takes octets x rest bytes is =
        step (tag_part tag) octets (λ o. read o.1) (x, rest) bytes is
        (λ o o1 e0 b1 f0 h0.
        let t = part.takes o1 x rest b1 h0 in
        (record { is = e0 ∙ ap (λ n. n ∷ o1) (eqb-true o tag f0.1) ∙ ap (λ l. tag ∷ l) t.0.is; more = t.0.more }, t.1))
