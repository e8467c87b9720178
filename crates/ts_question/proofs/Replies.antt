-- The fields of an answer, and the answer, are read in one way.
use Rattle.std.proofs.Common.{◌≡◌, ℕ, ◌^◌, ◌<◌, ◌≤◌, ◌==◌, ◌&&◌, true, List, [], ◌∷◌, ◌++◌, length, Some, refl, sym, ap, subst, arith}
use Rattle.std.specs.Prelude.{nat_le, nat_lt, slice_index, ◌-◌}
use Rattle.std.specs.List.{list_all, AllByRecursion}
use Rattle.std.specs.Int.{w32, to_be_bytes}
use Rattle.std.proofs.lemmas.Bool.{eqb-true, ltb-true, lt-ltb, leb-true}
use Rattle.ts_der.specs.ObjectIdentifier.{is_oid}
use Rattle.ts_codec.specs.Parts.{blob8}
use Rattle.ts_codec.specs.Ranges.{is_prefix}
use Rattle.ts_codec.specs.Reading.{◌>>=◌, ◌that◌, ◌and◌, ◌into◌, bare, octet_at, number_at, octets_at, blob8_at, lookup, by_kind}
use Rattle.ts_codec.proofs.Truths.{first_true, second_true, both_true, all_true, each_true}
use Rattle.ts_codec.proofs.Laws.{Part, one}
use Rattle.ts_codec.proofs.Numbers.{octet_part, any_octet, number32, octets_part}
use Rattle.ts_codec.proofs.Rows.{that_part, fitting, test_part, and_part, then_part, into_part, parts_again, Case, case, bare_case, ◌also◌, kind_part}
use Rattle.ts_codec.proofs.Lists.{blob8_part, counted_part}
use Rattle.ts_codec.proofs.Values.{oid_part, prefix_part, tag_part, word_part}
use Rattle.ts_question.specs.declared.reply.Reply.{Reply}
use Rattle.ts_question.specs.declared.reply.Reply.TheVariants.{Valid, Invalid, Found, NoPath, SearchLimit, NotYet, Malformed, NoAnchor, Limit, Page}
use Rattle.ts_question.specs.Reply.{NumberedReply, numbered_reply, is_distinct, are_places}
use Rattle.ts_question.specs.Reply.{are_countable, is_place, is_reply, accepted_encoding, tag_of}
use Rattle.ts_question.specs.Reply.{reply_fields, answer_encoding, ReplyFieldsFit, AnswerFits}
use Rattle.ts_question.specs.ReplyReading.{accepted_at, valid_at, invalid_at, found_at, not_yet_at, malformed_at, page_at, replies, answer_at}
use Rattle.ts_question.proofs.Fields.{subtrees_part}
use Rattle.ts_reason.proofs.Parts.{reason_part}

-- ---- policies

accepted_part : Part accepted_encoding (λ xs. (are_countable xs ≡ true) × (list_all is_oid xs ≡ true)) accepted_at
unfolding accepted_at
accepted_part = fitting (counted_part number32 oid_part) (λ xs. (are_countable xs ≡ true) × (list_all is_oid xs ≡ true)) to from
  where
    to : (xs : List (List ℕ)) → (length xs < 2 ^ 32) × AllByRecursion (λ c. is_oid c ≡ true) xs → (are_countable xs ≡ true) × (list_all is_oid xs ≡ true)
    to xs fit = (lt-ltb (length xs) 4294967296 (omega (arith, fit.0)), all_true is_oid (λ c. is_oid c ≡ true) (λ c good. good) xs fit.1)

    from : (xs : List (List ℕ)) → (are_countable xs ≡ true) × (list_all is_oid xs ≡ true) → (length xs < 2 ^ 32) × AllByRecursion (λ c. is_oid c ≡ true) xs
    from xs fit = let n : length xs < 4294967296 = ltb-true (length xs) 4294967296 fit.0 in (omega (arith, n), each_true is_oid (λ c. is_oid c ≡ true) (λ c good. good) xs fit.1)

-- ---- replies

-- what fits as a reply after k commands
pub record Replied (k : ℕ) (r : Reply) : Type 0 where
  pub fits : ReplyFieldsFit r
  pub within : is_reply k r ≡ true

valid_part : Part (λ x. x.0 ++ accepted_encoding x.1) (λ x. (length x.0 ≡ 32) × ((are_countable x.1 ≡ true) × (list_all is_oid x.1 ≡ true))) (octets_at 32 and accepted_at)
valid_part = and_part (octets_part 32) accepted_part

are_few : (places : List ℕ) → are_places places ≡ true → nat_le (length places) 255 ≡ true
are_few places good =
    first_true (nat_le (length places) 255) (slice_index places (length places - 1) == 1)
    (first_true (nat_le (length places) 255 && slice_index places (length places - 1) == 1)
    (is_distinct places) good)

places_part : Part blob8 (λ places. are_places places ≡ true) (blob8_at that are_places)
places_part = test_part blob8_part are_places (λ places good. let few : length places ≤ 255 = leb-true (length places) 255 (are_few places good) in omega (arith, few))

place_part : Part (λ p. p ∷ []) (λ p. is_place p ≡ true) (octet_at that is_place)
place_part = test_part octet_part is_place (λ p good. let few : p ≤ 16 = leb-true p 16 (second_true (nat_le 1 p) (nat_le p 16) good) in omega (arith, few))

malformed_part : Part (λ x. x.0 ∷ x.1.0 ∷ to_be_bytes w32 x.1.1) (λ x. Unit {0} × (Unit {0} × (nat_lt x.1.1 4294967296 ≡ true))) (octet_at and octet_at and number_at w32)
malformed_part = and_part any_octet (and_part any_octet word_part)

reply_again : (k : ℕ) (r : Reply) (rest : List ℕ) → Replied k r → (lookup (tag_of r) (replies k) >>= λ read. read (reply_fields r ++ rest)) ≡ Some (r, rest)
unfolding valid_at invalid_at found_at not_yet_at malformed_at page_at
reply_again k (Valid anchor ps) rest fit = parts_again valid_part (λ x. Valid x.0 x.1) (anchor, ps) rest (fit.fits.0, (fit.within, fit.fits.1))
reply_again k (Invalid p reason) rest fit = parts_again (and_part place_part reason_part) (λ x. Invalid x.0 x.1) (p, reason) rest (fit.within, fit.fits)
reply_again k (Found anchor places ps) rest fit =
    parts_again (and_part (octets_part 32) (and_part places_part accepted_part)) (λ x. Found x.0 x.1.0 x.1.1) (anchor, (places, ps)) rest
    (fit.fits.0, (first_true (are_places places) (are_countable ps) fit.within, (second_true (are_places places) (are_countable ps) fit.within, fit.fits.1)))
reply_again k NoPath rest fit = refl
reply_again k SearchLimit rest fit = refl
reply_again k (NotYet prefix) rest fit = parts_again (that_part word_part (λ n. nat_lt n k)) NotYet prefix rest (fit.fits, fit.within)
reply_again k (Malformed i f place) rest fit = parts_again malformed_part (λ x. Malformed x.0 x.1.0 x.1.1) (i, (f, place)) rest (tt, (tt, fit.fits))
reply_again k NoAnchor rest fit = refl
reply_again k Limit rest fit = parts_again (tag_part 1) (λ o. Limit) 1 rest (omega arith, refl)
reply_again k (Page total rows) rest fit = parts_again (and_part word_part subtrees_part) (λ x. Page x.0 x.1) (total, rows) rest (fit.fits, fit.within)

reply_cases : (k : ℕ) → AllByRecursion (λ row. Case tag_of reply_fields (Replied k) row.0 row.1) (replies k)
unfolding valid_at invalid_at found_at not_yet_at malformed_at page_at
reply_cases k =
    case valid_part (λ x. Valid x.0 x.1) 1 (λ x fit. (record { fits = (fit.0, fit.1.1); within = fit.1.0 }, refl, refl))
    also case (and_part place_part reason_part) (λ x. Invalid x.0 x.1) 2 (λ x fit. (record { fits = fit.1; within = fit.0 }, refl, refl))
    also case (and_part (octets_part 32) (and_part places_part accepted_part)) (λ x. Found x.0 x.1.0 x.1.1) 3
    (λ x fit. (record { fits = (fit.0, fit.1.1.1); within = both_true (are_places x.1.0) (are_countable x.1.1) fit.1.0 fit.1.1.0 }, refl, refl))
    also bare_case NoPath 4 refl (record { fits = tt; within = refl }) refl
    also bare_case SearchLimit 5 refl (record { fits = tt; within = refl }) refl
    also case (that_part word_part (λ n. nat_lt n k)) NotYet 6 (λ n fit. (record { fits = fit.0; within = fit.1 }, refl, refl))
    also case malformed_part (λ x. Malformed x.0 x.1.0 x.1.1) 7 (λ x fit. (record { fits = fit.1.1; within = refl }, refl, refl))
    also bare_case NoAnchor 8 refl (record { fits = tt; within = refl }) refl
    also case (tag_part 1) (λ o. Limit) 9 (λ o fit. (record { fits = tt; within = refl }, ap (λ n. n ∷ []) (sym (eqb-true o 1 fit.1)), refl))
    also case (and_part word_part subtrees_part) (λ x. Page x.0 x.1) 10 (λ x fit. (record { fits = fit.0; within = fit.1 }, refl, refl))
    also tt

-- ---- the answer

answered_part : (k : ℕ) → Part (λ a. tag_of a.reply ∷ reply_fields a.reply) (λ a. Replied a.k a.reply × (a.k ≡ k)) (by_kind (replies k) into numbered_reply k)
answered_part k = into_part (kind_part (record { cases = reply_cases k; again = reply_again k })) (numbered_reply k) (record {
  parts = λ a. a.reply;
  same = λ a fit. ap (λ n. numbered_reply n a.reply) (sym fit.1);
  fit = λ a fit. subst (λ n. Replied n a.reply) fit.1 fit.0;
  fits = λ r fit. (fit, refl);
  octets = λ r fit. refl;
})

pub answer_part : Part answer_encoding AnswerFits answer_at
unfolding answer_at
answer_part = fitting (then_part prefix_part (λ (a : NumberedReply). a.k) (λ k good. answered_part k)) AnswerFits
    (λ a fit. record { fields = fit.1.fits; within = both_true (is_prefix a.k) (is_reply a.k a.reply) fit.0 fit.1.within })
    (λ a fit. (first_true (is_prefix a.k) (is_reply a.k a.reply) fit.within, record { fits = fit.fields; within = second_true (is_prefix a.k) (is_reply a.k a.reply) fit.within }))

-- no two answers have one encoding
pub one_answer : (a other : NumberedReply) → AnswerFits a → AnswerFits other → answer_encoding a ≡ answer_encoding other → a ≡ other
one_answer = one answer_part
