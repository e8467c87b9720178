-- What is cached stays right, and what is found is right.
use Rattle.std.proofs.Common.{◌≡◌, ◌∙◌, ◌≤◌, ◌<◌, ◌^◌, ◌++◌, ◌∷◌, ◌⊎◌, ℕ, List, [], Bool, true, length, take, drop, Some, Result, Ok, Err, sym, ap, subst, inl, inr, arith, length-append}
use Rattle.std.specs.Prelude.{Contains, OnOk, OnErr}
use Rattle.std.specs.Int.{w32, from_be_bytes}
use Rattle.std.proofs.lemmas.List.{take-append-le}
use Rattle.std.proofs.lemmas.Nat.{from_be_bytes-to_be_bytes_4}
use Rattle.ts_recent.specs.Recent.{AreAmong, AreAmongOr}
use Rattle.ts_question.specs.Question.{StoreQuestion, QuestionFits}
use Rattle.ts_question.specs.Reply.{NumberedReply, AnswerFits, answer_encoding}
use Rattle.ts_question.proofs.Fields.{one_question}
use Rattle.ts_question.proofs.Replies.{one_answer}
use Rattle.ts_revoke.specs.Question.{Check}
use Rattle.ts_command.specs.declared.command.Command.{Command}
use Rattle.ts_answer.specs.Machine.{IsAnswer}
use Rattle.ts_answer.specs.inside.Cache.{key_of, IsCached, AreCached}

-- ---- keys

-- no two numbers of commands, and no two questions, have one key
same_key : (k j : ℕ) (q p : StoreQuestion) → k < 2 ^ 32 → j < 2 ^ 32 → QuestionFits q → QuestionFits p → key_of k q ≡ key_of j p → (k ≡ j) × (q ≡ p)
same_key k j q p small few fits fit e = (
  sym (from_be_bytes-to_be_bytes_4 k small) ∙ ap (λ l. from_be_bytes w32 (take 4 l)) e ∙ from_be_bytes-to_be_bytes_4 j few,
  one_question q p fits fit (ap (drop 4) e),
)

module _ (good : Check) where
  pub none_cached : (commands : List Command) → AreCached good commands []
  unfolding AreCached
  none_cached commands key octets in' = absurd (omega (arith, in'.1))

  -- a right answer stays right when commands are taken
  later : (commands : List Command) (command : Command) (k : ℕ) (q : StoreQuestion) (octets : List ℕ) → IsCached good commands k q octets → IsCached good (commands ++ command ∷ []) k q octets
  later commands command k q octets is = record {
    taken = omega (arith, length-append commands (command ∷ []), is.taken);
    answer = is.answer;
    fits = is.fits;
    encoded = is.encoded;
    right = subst (λ l. IsAnswer good l q is.answer) (sym (take-append-le k commands (command ∷ []) is.taken)) is.right;
  }

  all_later : (commands : List Command) (command : Command) (pairs : List (List ℕ × List ℕ)) → AreCached good commands pairs → AreCached good (commands ++ command ∷ []) pairs
  unfolding AreCached
  all_later commands command pairs are key octets in' k q small fits is = later commands command k q octets (are key octets in' k q small fits is)

  pub pushed : {X E : Type 0} (r : Result X E) (commands new : List Command) (command : Command)
      (pairs : List (List ℕ × List ℕ)) → OnOk r (new ≡ commands ++ command ∷ [])
      → OnErr r (new ≡ commands) → AreCached good commands pairs → AreCached good new pairs
  pushed (Ok x) commands new command pairs ok err are = subst (λ l. AreCached good l pairs) (sym ok) (all_later commands command pairs are)
  pushed (Err e) commands new command pairs ok err are = subst (λ l. AreCached good l pairs) (sym err) are

  module _ (commands : List Command) where
    -- fewer answers are right
    pub used : (new old : List (List ℕ × List ℕ)) → AreAmong new old → AreCached good commands old → AreCached good commands new
    unfolding AreCached
    used new old among are key octets in' = are key octets (among (key, octets) in')

    module _ (k : ℕ) (q : StoreQuestion) (a : NumberedReply) (small : k < 2 ^ 32) (fits : QuestionFits q) (fit : AnswerFits a) (key : List ℕ) (is : key ≡ key_of k q) where
      -- what is found is right
      pub found_right : (pairs : List (List ℕ × List ℕ)) → AreCached good commands pairs → Contains pairs (key, answer_encoding a) → IsAnswer good (take k commands) q a
      unfolding AreCached
      found_right pairs are there =
          let cached = are key (answer_encoding a) there k q small fits is in
          subst (λ x. IsAnswer good (take k commands) q x) (one_answer cached.answer a cached.fits fit (sym cached.encoded)) cached.right

      module _ (taken : k ≤ length commands) (right : IsAnswer good (take k commands) q a) where
        new_pair : (j : ℕ) (p : StoreQuestion) (octets : List ℕ) → j < 2 ^ 32 → QuestionFits p → octets ≡ answer_encoding a → key ≡ key_of j p → IsCached good commands j p octets
        new_pair j p octets few fit' encoded same =
            let e = same_key k j q p small few fits fit' (sym is ∙ same) in
            subst (λ n. IsCached good commands n p octets) e.0 (subst (λ x. IsCached good commands k x octets) e.1 (record { taken = taken; answer = a; fits = fit; encoded = encoded; right = right }))

        -- a right answer that is kept leaves them right
        pub kept_right : (new old : List (List ℕ × List ℕ)) → AreAmongOr (key, answer_encoding a) new old
            → AreCached good commands old → AreCached good commands new
        unfolding AreCached
        kept_right new old among are other octets in' j p few fit' same = elim (among (other, octets) in') [
          | inl was ↦ are other octets was j p few fit' same
          | inr one ↦ new_pair j p octets few fit' (ap (λ (x : List ℕ × List ℕ). x.1) one)
              (sym (ap (λ (x : List ℕ × List ℕ). x.0) one) ∙ same)
        ]
