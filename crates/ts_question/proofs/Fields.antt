-- The fields of a question, and the question, are read in one way.
use Rattle.std.proofs.Common.{◌≡◌, ℕ, ℤ, zero, suc, ◌+◌, ◌*◌, ◌/◌, ◌%◌, ◌^◌, ◌<◌, ◌≤◌, ◌==◌, ◌&&◌}
use Rattle.std.proofs.Common.{Bool, true, false, cond, List, [], ◌∷◌, ◌++◌, length, Option, Some}
use Rattle.std.proofs.Common.{None, refl, sym, ap, ◌∙◌, append_assoc, arith}
use Rattle.std.specs.Prelude.{IfSome, is_some, nat_le, nat_lt}
use Rattle.std.specs.List.{list_all, AllByRecursion}
use Rattle.std.specs.Int.{w32, w64, to_be_bytes, cast_unsigned}
use Rattle.std.proofs.lemmas.Bool.{ltb-true, lt-ltb, leb-true, le-leb}
use Rattle.ts_der.specs.ObjectIdentifier.{is_oid}
use Rattle.ts_codec.specs.Parts.{bits, blob8, optional}
use Rattle.ts_codec.specs.Ranges.{is_prefix, is_short}
use Rattle.ts_codec.specs.Reading.{◌>>=◌, ◌and◌, ◌into◌, lookup, octets_at, oid_at, prefix_at, optional_at, of_kind}
use Rattle.ts_codec.proofs.Truths.{first_true, second_true, both_true, all_true, each_true}
use Rattle.ts_codec.proofs.Laws.{IsBytes, Takes, Part, answer, step, made, one}
use Rattle.ts_codec.proofs.Numbers.{octet_part, any_octet, number16, octets_part}
use Rattle.ts_codec.proofs.Rows.{that_part, fitting, and_part, then_part, into_part, parts_again, case, ◌also◌, Kinds, fields_part}
use Rattle.ts_codec.proofs.Lists.{blob16_part, optional_part, counted_part}
use Rattle.ts_codec.proofs.Values.{oid_part, prefix_part, short_blob, signed_part, word_part}
use Rattle.ts_question.specs.declared.terms.Presence.{Presence}
use Rattle.ts_question.specs.declared.terms.Terms.{Terms}
use Rattle.ts_question.specs.declared.question.Target.{Target}
use Rattle.ts_question.specs.declared.question.Target.TheVariants.{Chain, Search, Store, Log}
use Rattle.ts_question.specs.Question.{StoreQuestion, is_position_if_any, are_subtrees, are_terms}
use Rattle.ts_question.specs.Question.{are_certificates, is_target, flags_octet, policies_encoding}
use Rattle.ts_question.specs.Question.{subtrees_encoding, certificates_encoding, terms_encoding}
use Rattle.ts_question.specs.Question.{question_kind, target_encoding, question_encoding, TermsFit}
use Rattle.ts_question.specs.Question.{TargetFits, QuestionFits}
use Rattle.ts_question.specs.QuestionReading.{bit, presence_of, presence_at, policies_at, subtrees_at, certificates_at, terms_at, targets, asked_of, question_at}

-- ---- lists after their number

policies_part : Part policies_encoding (λ xs. (nat_le (length xs) 32 ≡ true) × (list_all is_oid xs ≡ true)) policies_at
unfolding policies_at
policies_part = fitting (counted_part (that_part octet_part (λ n. nat_le n 32)) oid_part) (λ xs. (nat_le (length xs) 32 ≡ true) × (list_all is_oid xs ≡ true))
    (λ xs fit. (fit.0.1, all_true is_oid (λ c. is_oid c ≡ true) (λ c good. good) xs fit.1))
    (λ xs fit. (let n : length xs ≤ 32 = leb-true (length xs) 32 fit.0 in ((omega (arith, n), fit.0), each_true is_oid (λ c. is_oid c ≡ true) (λ c good. good) xs fit.1)))

pub subtrees_part : Part subtrees_encoding (λ xs. are_subtrees xs ≡ true) subtrees_at
unfolding subtrees_at
subtrees_part = fitting (counted_part (that_part number16 (λ n. nat_le n 64)) blob16_part) (λ xs. are_subtrees xs ≡ true) to from
  where
    to : (xs : List (List ℕ)) → ((length xs < 2 ^ 16) × (nat_le (length xs) 64 ≡ true)) × AllByRecursion (λ c. length c < 2 ^ 16) xs → are_subtrees xs ≡ true
    to xs fit = both_true (nat_le (length xs) 64) (list_all (λ s. nat_le (length s) 65535) xs)
        fit.0.1 (all_true (λ s. nat_le (length s) 65535) (λ c. length c < 2 ^ 16)
        (λ c h. le-leb (length c) 65535 (omega (arith, h))) xs fit.1)

    from : (xs : List (List ℕ)) → are_subtrees xs ≡ true → ((length xs < 2 ^ 16) × (nat_le (length xs) 64 ≡ true)) × AllByRecursion (λ c. length c < 2 ^ 16) xs
    from xs good =
        let few = first_true (nat_le (length xs) 64) (list_all (λ s. nat_le (length s) 65535) xs) good in
        let n : length xs ≤ 64 = leb-true (length xs) 64 few in (
          (omega (arith, n), few),
          each_true (λ s. nat_le (length s) 65535) (λ c. length c < 2 ^ 16)
              (λ c h. let k : length c ≤ 65535 = leb-true (length c) 65535 h in omega (arith, k)) xs
              (second_true (nat_le (length xs) 64) (list_all (λ s. nat_le (length s) 65535) xs) good),
        )

abbrev are_so_many : ℕ → ℕ → Bool
are_so_many most n = nat_le 1 n && nat_le n most

certificates_part : (most : ℕ) → most < 256 → Part certificates_encoding (λ xs. are_certificates most xs ≡ true) (certificates_at most)
unfolding certificates_at
certificates_part most small = fitting (counted_part (that_part octet_part (are_so_many most)) (short_blob 65536 (omega arith))) (λ xs. are_certificates most xs ≡ true) to from
  where
    to : (xs : List (List ℕ)) → ((length xs < 256) × (are_so_many most (length xs) ≡ true)) × AllByRecursion (λ c. is_short 65536 c ≡ true) xs → are_certificates most xs ≡ true
    to xs fit = both_true (are_so_many most (length xs))
        (list_all (λ c. nat_le (length c) 65536) xs) fit.0.1
        (all_true (λ c. nat_le (length c) 65536) (λ c. is_short 65536 c ≡ true) (λ c h. h) xs fit.1)

    from : (xs : List (List ℕ)) → are_certificates most xs ≡ true → ((length xs < 256) × (are_so_many most (length xs) ≡ true)) × AllByRecursion (λ c. is_short 65536 c ≡ true) xs
    from xs good =
        let few = first_true (are_so_many most (length xs)) (list_all (λ c. nat_le (length c) 65536) xs) good in
        let n : length xs ≤ most = leb-true (length xs) most (second_true (nat_le 1 (length xs)) (nat_le (length xs) most) few) in (
          (omega (arith, n, small), few),
          each_true (λ c. nat_le (length c) 65536)
              (λ c. is_short 65536 c ≡ true) (λ c h. h) xs
              (second_true (are_so_many most (length xs)) (list_all (λ c. nat_le (length c) 65536) xs)
              good),
        )

-- ---- bits

digit_by : (m : ℕ) → m < 2 → cond (m == 1) 1 0 ≡ m
digit_by zero lt = refl
digit_by (suc zero) lt = refl
digit_by (suc (suc m)) lt = absurd (omega (arith, lt))

digit : (n : ℕ) → cond (n % 2 == 1) 1 0 ≡ n % 2
digit n = digit_by (n % 2) (omega arith)

of_digit : (b : Bool) (m : ℕ) → m ≡ cond b 1 0 → (m == 1) ≡ b
of_digit true m is = rw is refl
of_digit false m is = rw is refl

bit_below : (b : Bool) → cond b 1 0 ≤ 1
bit_below true = omega arith
bit_below false = omega arith

-- the bits of a number below 128 make it up
made_up : (o : ℕ) → o < 128 → bits (bit o 1 ∷ bit o 2 ∷ bit o 4 ∷ bit o 8 ∷ bit o 16 ∷ bit o 32 ∷ bit o 64 ∷ []) ≡ o
made_up o small =
    let d0 = digit (o / 1) in
    let d1 = digit (o / 2) in
    let d2 = digit (o / 4) in
    let d3 = digit (o / 8) in
    let d4 = digit (o / 16) in
    let d5 = digit (o / 32) in
    let d6 = digit (o / 64) in
    let e0 : o ≡ (o / 1) % 2 + 2 * (o / 2) = omega arith in
    let e1 : o / 2 ≡ (o / 2) % 2 + 2 * (o / 4) = omega arith in
    let e2 : o / 4 ≡ (o / 4) % 2 + 2 * (o / 8) = omega arith in
    let e3 : o / 8 ≡ (o / 8) % 2 + 2 * (o / 16) = omega arith in
    let e4 : o / 16 ≡ (o / 16) % 2 + 2 * (o / 32) = omega arith in
    let e5 : o / 32 ≡ (o / 32) % 2 + 2 * (o / 64) = omega arith in
    let e6 : o / 64 ≡ (o / 64) % 2 = omega arith in
    rw (d0, d1, d2, d3, d4, d5, d6)
    (sym (e0 ∙ ap (λ x. (o / 1) % 2 + 2 * x)
    (e1 ∙ ap (λ x. (o / 2) % 2 + 2 * x)
    (e2 ∙ ap (λ x. (o / 4) % 2 + 2 * x)
    (e3 ∙ ap (λ x. (o / 8) % 2 + 2 * x)
    (e4 ∙ ap (λ x. (o / 16) % 2 + 2 * x)
    (e5 ∙ ap (λ x. (o / 32) % 2 + 2 * x) (e6 ∙ omega arith))))))))

digit0 : (low high d : ℕ) → low < 1 → d ≤ 1 → (low + 1 * (d + 2 * high)) / 1 % 2 ≡ d
digit0 low high d h k = omega arith

digit1 : (low high d : ℕ) → low < 2 → d ≤ 1 → (low + 2 * (d + 2 * high)) / 2 % 2 ≡ d
digit1 low high d h k = omega arith

digit2 : (low high d : ℕ) → low < 4 → d ≤ 1 → (low + 4 * (d + 2 * high)) / 4 % 2 ≡ d
digit2 low high d h k = omega arith

digit3 : (low high d : ℕ) → low < 8 → d ≤ 1 → (low + 8 * (d + 2 * high)) / 8 % 2 ≡ d
digit3 low high d h k = omega arith

digit4 : (low high d : ℕ) → low < 16 → d ≤ 1 → (low + 16 * (d + 2 * high)) / 16 % 2 ≡ d
digit4 low high d h k = omega arith

digit5 : (low high d : ℕ) → low < 32 → d ≤ 1 → (low + 32 * (d + 2 * high)) / 32 % 2 ≡ d
digit5 low high d h k = omega arith

digit6 : (low high d : ℕ) → low < 64 → d ≤ 1 → (low + 64 * (d + 2 * high)) / 64 % 2 ≡ d
digit6 low high d h k = omega arith

abbrev n_of : Bool → ℕ
n_of b = cond b 1 0

pub record Bits (o : ℕ) (b0 b1 b2 b3 b4 b5 b6 : Bool) : Type 0 where
  pub small : nat_lt o 128 ≡ true
  pub s0 : bit o 1 ≡ b0
  pub s1 : bit o 2 ≡ b1
  pub s2 : bit o 4 ≡ b2
  pub s3 : bit o 8 ≡ b3
  pub s4 : bit o 16 ≡ b4
  pub s5 : bit o 32 ≡ b5
  pub s6 : bit o 64 ≡ b6

-- the number of bits has these bits
taken_apart : (b0 b1 b2 b3 b4 b5 b6 : Bool) → Bits (bits (b0 ∷ b1 ∷ b2 ∷ b3 ∷ b4 ∷ b5 ∷ b6 ∷ [])) b0 b1 b2 b3 b4 b5 b6
taken_apart b0 b1 b2 b3 b4 b5 b6 = by (bits (b0 ∷ b1 ∷ b2 ∷ b3 ∷ b4 ∷ b5 ∷ b6 ∷ [])) (n_of b0)
    (n_of b1) (n_of b2) (n_of b3) (n_of b4) (n_of b5) (n_of b6) refl refl refl refl refl refl refl
    refl (bit_below b0) (bit_below b1) (bit_below b2) (bit_below b3) (bit_below b4) (bit_below b5)
    (bit_below b6)
  where
    by : (o d0 d1 d2 d3 d4 d5 d6 : ℕ) → o ≡ d0 + 2 * (d1 + 2 * (d2 + 2 * (d3 + 2 * (d4 + 2 * (d5 + 2 * (d6 + 2 * 0))))))
        → d0 ≡ n_of b0 → d1 ≡ n_of b1 → d2 ≡ n_of b2 → d3 ≡ n_of b3 → d4 ≡ n_of b4 → d5 ≡ n_of b5 → d6 ≡ n_of b6
        → d0 ≤ 1 → d1 ≤ 1 → d2 ≤ 1 → d3 ≤ 1 → d4 ≤ 1 → d5 ≤ 1 → d6 ≤ 1 → Bits o b0 b1 b2 b3 b4 b5 b6
    by o d0 d1 d2 d3 d4 d5 d6 is i0 i1 i2 i3 i4 i5 i6 l0 l1 l2 l3 l4 l5 l6 =
        let e0 : o ≡ 0 + 1 * (d0 + 2 * (d1 + 2 * (d2 + 2 * (d3 + 2 * (d4 + 2 * (d5 + 2 * d6)))))) = omega (arith, is) in
        let e1 : o ≡ d0 + 2 * (d1 + 2 * (d2 + 2 * (d3 + 2 * (d4 + 2 * (d5 + 2 * d6))))) = omega (arith, is) in
        let e2 : o ≡ (d0 + 2 * d1) + 4 * (d2 + 2 * (d3 + 2 * (d4 + 2 * (d5 + 2 * d6)))) = omega (arith, is) in
        let e3 : o ≡ (d0 + 2 * d1 + 4 * d2) + 8 * (d3 + 2 * (d4 + 2 * (d5 + 2 * d6))) = omega (arith, is) in
        let e4 : o ≡ (d0 + 2 * d1 + 4 * d2 + 8 * d3) + 16 * (d4 + 2 * (d5 + 2 * d6)) = omega (arith, is) in
        let e5 : o ≡ (d0 + 2 * d1 + 4 * d2 + 8 * d3 + 16 * d4) + 32 * (d5 + 2 * d6) = omega (arith, is) in
        let e6 : o ≡ (d0 + 2 * d1 + 4 * d2 + 8 * d3 + 16 * d4 + 32 * d5) + 64 * (d6 + 2 * 0) = omega (arith, is) in
        record {
          small = lt-ltb o 128 (omega (arith, is, l0, l1, l2, l3, l4, l5, l6));
          s0 = of_digit b0 (o / 1 % 2) (ap (λ x. x / 1 % 2) e0 ∙ digit0 0 (d1 + 2 * (d2 + 2 * (d3 + 2 * (d4 + 2 * (d5 + 2 * d6))))) d0 (omega arith) l0 ∙ i0);
          s1 = of_digit b1 (o / 2 % 2) (ap (λ x. x / 2 % 2) e1 ∙ digit1 d0 (d2 + 2 * (d3 + 2 * (d4 + 2 * (d5 + 2 * d6)))) d1 (omega (arith, l0)) l1 ∙ i1);
          s2 = of_digit b2 (o / 4 % 2) (ap (λ x. x / 4 % 2) e2 ∙ digit2 (d0 + 2 * d1) (d3 + 2 * (d4 + 2 * (d5 + 2 * d6))) d2 (omega (arith, l0, l1)) l2 ∙ i2);
          s3 = of_digit b3 (o / 8 % 2) (ap (λ x. x / 8 % 2) e3 ∙ digit3 (d0 + 2 * d1 + 4 * d2) (d4 + 2 * (d5 + 2 * d6)) d3 (omega (arith, l0, l1, l2)) l3 ∙ i3);
          s4 = of_digit b4 (o / 16 % 2) (ap (λ x. x / 16 % 2) e4 ∙ digit4 (d0 + 2 * d1 + 4 * d2 + 8 * d3) (d5 + 2 * d6) d4 (omega (arith, l0, l1, l2, l3)) l4 ∙ i4);
          s5 = of_digit b5 (o / 32 % 2) (ap (λ x. x / 32 % 2) e5 ∙ digit5 (d0 + 2 * d1 + 4 * d2 + 8 * d3 + 16 * d4) d6 d5 (omega (arith, l0, l1, l2, l3, l4)) l5 ∙ i5);
          s6 = of_digit b6 (o / 64 % 2) (ap (λ x. x / 64 % 2) e6 ∙ digit6 (d0 + 2 * d1 + 4 * d2 + 8 * d3 + 16 * d4 + 32 * d5) 0 d6 (omega (arith, l0, l1, l2, l3, l4, l5)) l6 ∙ i6);
        }

abbrev presence_encoding : Presence → List ℕ
presence_encoding p = flags_octet p.flags p.k p.purpose ∷ []

presence_part : Part presence_encoding (λ p. Unit {0}) presence_at
unfolding presence_at
presence_part = into_part (that_part octet_part (λ o. nat_lt o 128)) presence_of (record {
  parts = λ p. flags_octet p.flags p.k p.purpose;
  same = λ p fit. same p;
  fit = λ p fit. fits p;
  fits = λ o fit. tt;
  octets = λ o fit. ap (λ n. n ∷ []) (made_up o (ltb-true o 128 fit.1));
})
  where
    parts : (p : Presence) → Bits (flags_octet p.flags p.k p.purpose) p.flags.explicit_policy p.flags.inhibit_policy_mapping p.flags.inhibit_any_policy p.flags.hard p.k p.purpose p.flags.use_deltas
    parts p = taken_apart p.flags.explicit_policy p.flags.inhibit_policy_mapping p.flags.inhibit_any_policy p.flags.hard p.k p.purpose p.flags.use_deltas

    same : (p : Presence) → presence_of (flags_octet p.flags p.k p.purpose) ≡ p
    same p = let b = parts p in
        λ i. record {
          flags =
              record {
                explicit_policy = b.s0 i;
                inhibit_policy_mapping = b.s1 i;
                inhibit_any_policy =
                    b.s2 i;
                hard = b.s3 i;
                use_deltas = b.s6 i;
              };
          k = b.s4 i;
          purpose = b.s5 i;
        }

    fits : (p : Presence) → (flags_octet p.flags p.k p.purpose < 256) × (nat_lt (flags_octet p.flags p.k p.purpose) 128 ≡ true)
    fits p = let b = parts p in let n = ltb-true (flags_octet p.flags p.k p.purpose) 128 b.small in (omega (arith, n), b.small)

-- ---- the terms

-- what fits as terms
pub record Termed (t : Terms) : Type 0 where
  pub fits : TermsFit t
  pub within : are_terms t ≡ true

position_within : (k : Option ℕ) → IfSome k (λ k. is_prefix k ≡ true) → is_position_if_any k ≡ true
position_within None fit = refl
position_within (Some k) fit = fit

position_fits : (k : Option ℕ) → is_position_if_any k ≡ true → IfSome k (λ k. is_prefix k ≡ true)
position_fits None good = tt
position_fits (Some k) good = good

-- what are_terms says of each part
pub record Within (t : Terms) : Type 0 where
  pub k : is_position_if_any t.k ≡ true
  pub policies : nat_le (length t.user_policies) 32 ≡ true
  pub permitted : are_subtrees t.permitted_subtrees ≡ true
  pub excluded : are_subtrees t.excluded_subtrees ≡ true

pub within_parts : (t : Terms) → are_terms t ≡ true → Within t
within_parts t good =
    let abc = first_true ((is_position_if_any t.k && nat_le (length t.user_policies) 32) && are_subtrees t.permitted_subtrees) (are_subtrees t.excluded_subtrees) good in
    let ab = first_true (is_position_if_any t.k && nat_le (length t.user_policies) 32) (are_subtrees t.permitted_subtrees) abc in
    record {
      k = first_true (is_position_if_any t.k) (nat_le (length t.user_policies) 32) ab;
      policies = second_true (is_position_if_any t.k) (nat_le (length t.user_policies) 32) ab;
      permitted = second_true (is_position_if_any t.k && nat_le (length t.user_policies) 32) (are_subtrees t.permitted_subtrees) abc;
      excluded = second_true ((is_position_if_any t.k && nat_le (length t.user_policies) 32) && are_subtrees t.permitted_subtrees) (are_subtrees t.excluded_subtrees) good;
    }

within_all : (t : Terms) → Within t → are_terms t ≡ true
within_all t w = both_true ((is_position_if_any t.k && nat_le (length t.user_policies) 32) && are_subtrees t.permitted_subtrees) (are_subtrees t.excluded_subtrees)
    (both_true (is_position_if_any t.k && nat_le (length t.user_policies) 32)
    (are_subtrees t.permitted_subtrees)
    (both_true (is_position_if_any t.k) (nat_le (length t.user_policies) 32) w.k w.policies)
    w.permitted) w.excluded

abbrev terms_of : ℤ → Presence → Option ℕ → Option (List ℕ) → List (List ℕ) → List (List ℕ) → List (List ℕ) → Terms
terms_of moment presence k purpose policies permitted excluded = record {
  moment = moment;
  flags = presence.flags;
  k = k;
  purpose = purpose;
  user_policies = policies;
  permitted_subtrees = permitted;
  excluded_subtrees = excluded;
}

abbrev after_permitted : ℤ → Presence → Option ℕ → Option (List ℕ) → List (List ℕ) → List (List ℕ) × List ℕ → Option (Terms × List ℕ)
after_permitted m p k u ps permitted = subtrees_at permitted.1 >>= λ excluded. answer (terms_of m p k u ps permitted.0 excluded.0) excluded.1

abbrev after_policies : ℤ → Presence → Option ℕ → Option (List ℕ) → List (List ℕ) × List ℕ → Option (Terms × List ℕ)
after_policies m p k u policies = subtrees_at policies.1 >>= after_permitted m p k u policies.0

abbrev after_purpose : ℤ → Presence → Option ℕ → Option (List ℕ) × List ℕ → Option (Terms × List ℕ)
after_purpose m p k purpose = policies_at purpose.1 >>= after_policies m p k purpose.0

abbrev after_k : ℤ → Presence → Option ℕ × List ℕ → Option (Terms × List ℕ)
after_k m p k = optional_at oid_at p.purpose k.1 >>= after_purpose m p k.0

abbrev after_presence : ℤ → Presence × List ℕ → Option (Terms × List ℕ)
after_presence m presence = optional_at prefix_at presence.0.k presence.1 >>= after_k m presence.0

abbrev after_moment : ℤ × List ℕ → Option (Terms × List ℕ)
after_moment moment = presence_at moment.1 >>= after_presence moment.0

joined : (m : List ℕ) (o : ℕ) (k u p a b o0 o1 o2 o3 o4 o5 o6 o7 : List ℕ) → o0 ≡ m ++ o1 → o1 ≡ o ∷ o2 → o2 ≡ k ++ o3 → o3 ≡ u ++ o4 → o4 ≡ p ++ o5 → o5 ≡ a ++ o6 → o6 ≡ b ++ o7
    → o0 ≡ (m ++ (o ∷ (k ++ (u ++ (p ++ (a ++ b)))))) ++ o7
joined m o k u p a b o0 o1 o2 o3 o4 o5 o6 o7 e0 e1 e2 e3 e4 e5 e6 =
    e0 ∙ ap (λ l. m ++ l) (e1 ∙ ap (λ l. o ∷ l) (e2 ∙ ap (λ l. k ++ l) (e3 ∙ ap (λ l. u ++ l) (e4 ∙ ap (λ l. p ++ l) (e5 ∙ ap (λ l. a ++ l) e6)))))
    ∙ sym (append_assoc m (o ∷ (k ++ (u ++ (p ++ (a ++ b))))) o7
    ∙ ap (λ l. m ++ (o ∷ l)) (append_assoc k (u ++ (p ++ (a ++ b))) o7
    ∙ ap (λ l. k ++ l) (append_assoc u (p ++ (a ++ b)) o7
    ∙ ap (λ l. u ++ l) (append_assoc p (a ++ b) o7
    ∙ ap (λ l. p ++ l) (append_assoc a b o7)))))

terms_take : (octets : List ℕ) (t : Terms) (rest : List ℕ) → IsBytes octets → terms_at octets ≡ Some (t, rest) → Takes octets (terms_encoding t) rest × Termed t
unfolding terms_at
terms_take octets t rest bytes is =
    step signed_part octets after_moment (t, rest) bytes is
    (λ m o1 e0 b1 f0 h0. step presence_part o1 (after_presence m) (t, rest) b1 h0
    (λ p o2 e1 b2 f1 h1. step (optional_part prefix_part p.k) o2 (after_k m p) (t, rest) b2 h1
    (λ k o3 e2 b3 f2 h2. step (optional_part oid_part p.purpose) o3 (after_purpose m p k) (t, rest) b3 h2
    (λ u o4 e3 b4 f3 h3. step policies_part o4 (after_policies m p k u) (t, rest) b4 h3
    (λ ps o5 e4 b5 f4 h4. step subtrees_part o5 (after_permitted m p k u ps) (t, rest) b5 h4
    (λ a o6 e5 b6 f5 h5. step subtrees_part o6 (λ excluded. answer (terms_of m p k u ps a excluded.0) excluded.1) (t, rest) b6 h5
    (λ b o7 e6 b7 f6 h6.
    made terms_encoding Termed octets o7 (terms_of m p k u ps a b) t rest h6
    (joined (to_be_bytes w64 (cast_unsigned w64 m)) (flags_octet p.flags (is_some k) (is_some u))
    (optional (to_be_bytes w32) k) (optional blob8 u) (policies_encoding ps) (subtrees_encoding a)
    (subtrees_encoding b) octets o1 o2 o3 o4 o5 o6 o7
    e0
    (e1 ∙ ap (λ b. flags_octet p.flags b p.purpose ∷ o2) (sym f2.1) ∙ ap (λ b. flags_octet p.flags (is_some k) b ∷ o2) (sym f3.1)) e2 e3 e4 e5 e6)
    b7
    (record {
      fits = record {
        moment = f0;
        purpose = f3.0;
        policies = f4.1;
      };
      within = within_all (terms_of m p k u ps a b) (record { k = position_within k f2.0; policies = f4.0; permitted = f5; excluded = f6 });
    })
    )))))))

terms_again : (t : Terms) (rest : List ℕ) → Termed t → terms_at (terms_encoding t ++ rest) ≡ Some (t, rest)
unfolding terms_at
terms_again t rest fit =
    let w = within_parts t fit.within in
    let p : Presence = record { flags = t.flags; k = is_some t.k; purpose = is_some t.purpose } in
    let o6 = subtrees_encoding t.excluded_subtrees ++ rest in
    let o5 = subtrees_encoding t.permitted_subtrees ++ o6 in
    let o4 = policies_encoding t.user_policies ++ o5 in
    let o3 = optional blob8 t.purpose ++ o4 in
    let o2 = optional (to_be_bytes w32) t.k ++ o3 in
    let o1 = presence_encoding p ++ o2 in
    let m = t.moment in
    let first = to_be_bytes w64 (cast_unsigned w64 m) in
    let r0 = signed_part.again m o1 fit.fits.moment in
    let r1 = presence_part.again p o2 tt in
    let r2 = (optional_part prefix_part (is_some t.k)).again t.k o3 (position_fits t.k w.k, refl) in
    let r3 = (optional_part oid_part (is_some t.purpose)).again t.purpose o4 (fit.fits.purpose, refl) in
    let r4 = policies_part.again t.user_policies o5 (w.policies, fit.fits.policies) in
    let r5 = subtrees_part.again t.permitted_subtrees o6 w.permitted in
    let r6 = subtrees_part.again t.excluded_subtrees rest w.excluded in
    let all : terms_encoding t ++ rest ≡ first
    ++ o1 = sym (joined first (flags_octet t.flags (is_some t.k) (is_some t.purpose))
    (optional (to_be_bytes w32) t.k) (optional blob8 t.purpose)
    (policies_encoding t.user_policies) (subtrees_encoding t.permitted_subtrees)
    (subtrees_encoding t.excluded_subtrees) (first ++ o1) o1 o2 o3 o4 o5 o6 rest refl refl refl
    refl refl refl refl) in
    ap terms_at all
    ∙ ap (λ r. r >>= after_moment) r0
    ∙ ap (λ r. r >>= after_presence m) r1
    ∙ ap (λ r. r >>= after_k m p) r2
    ∙ ap (λ r. r >>= after_purpose m p t.k) r3
    ∙ ap (λ r. r >>= after_policies m p t.k t.purpose) r4
    ∙ ap (λ r. r >>= after_permitted m p t.k t.purpose t.user_policies) r5
    ∙ ap (λ r. r >>= λ excluded. answer (terms_of m p t.k t.purpose t.user_policies t.permitted_subtrees excluded.0) excluded.1) r6

terms_part : Part terms_encoding Termed terms_at
terms_part = record { takes = terms_take; again = terms_again }

-- ---- what is asked for, and the question

-- what fits as a target
pub record Targeted (t : Target) : Type 0 where
  pub fits : TargetFits t
  pub within : is_target t ≡ true

chain_part : Part (λ x. x.0 ++ certificates_encoding x.1) (λ x. (length x.0 ≡ 32) × (are_certificates 16 x.1 ≡ true)) (octets_at 32 and certificates_at 16)
chain_part = and_part (octets_part 32) (certificates_part 16 (omega arith))

search_part : Part certificates_encoding (λ xs. are_certificates 33 xs ≡ true) (certificates_at 33)
search_part = certificates_part 33 (omega arith)

targets_part : Kinds question_kind target_encoding Targeted targets
targets_part = record {
  cases = case chain_part (λ x. Chain x.0 x.1) 1 (λ x fit. (record { fits = fit.0; within = fit.1 }, refl, refl))
      also case search_part Search 2 (λ xs fit. (record { fits = tt; within = fit }, refl, refl))
      also case word_part Store 3 (λ n fit. (record { fits = fit; within = refl }, refl, refl))
      also case word_part Log 4 (λ n fit. (record { fits = fit; within = refl }, refl, refl))
      also tt;
  again = again;
}
  where
    again : (t : Target) (rest : List ℕ) → Targeted t → (lookup (question_kind t) targets >>= λ fields. fields (target_encoding t ++ rest)) ≡ Some (t, rest)
    again (Chain anchor cs) rest fit = parts_again chain_part (λ x. Chain x.0 x.1) (anchor, cs) rest (fit.fits, fit.within)
    again (Search cs) rest fit = parts_again search_part Search cs rest fit.within
    again (Store from) rest fit = parts_again word_part Store from rest fit.fits
    again (Log from) rest fit = parts_again word_part Log from rest fit.fits

-- what follows the kind of a question
asked_part : (kind : ℕ) → Part (λ q. terms_encoding q.terms ++ target_encoding q.target)
    (λ q. (Termed q.terms × Targeted q.target) × (question_kind q.target ≡ kind))
    (terms_at and of_kind targets kind into asked_of)
asked_part kind = into_part (and_part terms_part (fields_part targets_part kind)) asked_of (record {
  parts = λ q. (q.terms, q.target);
  same = λ q fit. refl;
  fit = λ q fit. (fit.0.0, (fit.0.1, fit.1));
  fits = λ x fit. ((fit.0, fit.1.0), fit.1.1);
  octets = λ x fit. refl;
})

pub question_part : Part question_encoding QuestionFits question_at
unfolding question_at
question_part = fitting (then_part any_octet (λ (q : StoreQuestion). question_kind q.target) (λ kind few. asked_part kind)) QuestionFits
    (λ q fit. record { terms = fit.1.0.fits; target = fit.1.1.fits; within = both_true (are_terms q.terms) (is_target q.target) fit.1.0.within fit.1.1.within })
    (λ q fit. (
      tt,
      (
        record {
          fits = fit.terms;
          within =
              first_true (are_terms q.terms) (is_target q.target) fit.within;
        },
        record {
          fits = fit.target;
          within =
              second_true (are_terms q.terms) (is_target q.target) fit.within;
        },
      ),
    ))

-- no two questions have one encoding
pub one_question : (q other : StoreQuestion) → QuestionFits q → QuestionFits other → question_encoding q ≡ question_encoding other → q ≡ other
one_question = one question_part
