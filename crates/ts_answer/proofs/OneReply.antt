-- A question has one reply over a store.
use Rattle.std.proofs.Common.{◌≡◌, ◌∙◌, ◌≤◌, ℕ, suc, List, [], Option, Some, None, true, length, map, refl, sym, ap, subst, arith}
use Rattle.std.specs.Prelude.{unwrap_or, slice_get, nat_le, ◌&&◌}
use Rattle.ts_path.specs.Verdict as path
use Rattle.ts_path.specs.declared.verdict.Verdict.{Verdict}
use Rattle.ts_path.specs.declared.verdict.Verdict.TheVariants as verdict
use Rattle.ts_path.proofs.OneVerdict as one_verdict
use Rattle.ts_search.specs.Search as search
use Rattle.ts_revoke.specs.Question.{Check}
use Rattle.ts_search.specs.declared.answer.SearchAnswer.{SearchAnswer}
use Rattle.ts_search.specs.declared.answer.SearchAnswer.TheVariants as found
use Rattle.ts_search.proofs.OneAnswer as one_answer
use Rattle.ts_question.specs.declared.reply.Reply.{Reply}
use Rattle.ts_question.specs.declared.reply.Reply.TheVariants.{Valid, Invalid, Found, NoPath, SearchLimit}
use Rattle.ts_store.specs.declared.anchor.TrustAnchor.{TrustAnchor as StoredAnchor}
use Rattle.ts_command.specs.declared.command.Command.{Command}
use Rattle.ts_store.specs.Store.{store_after}
use Rattle.ts_store.specs.Tables.{Tables}
use Rattle.ts_cert.specs.CertView.{certificate_in}
use Rattle.ts_question.specs.declared.terms.Terms.{Terms}
use Rattle.ts_question.specs.declared.question.Target.{Target}
use Rattle.ts_question.specs.declared.question.Target.TheVariants as target
use Rattle.ts_question.specs.Question.{StoreQuestion, QuestionFits, are_certificates, are_terms, is_target}
use Rattle.ts_question.specs.Reply.{NumberedReply}
use Rattle.ts_codec.proofs.Truths.{first_true, second_true}
use Rattle.std.proofs.lemmas.Bool.{leb-true}
use Rattle.ts_search.proofs.Takes.{length_map}
use Rattle.ts_answer.specs.Asked.{chain_of, question_of, search_of}
use Rattle.ts_command.specs.declared.outcome.Outcome.{Outcome}
use Rattle.ts_node.specs.Run.{Group, Happening, RunPromises}
use Rattle.ts_answer.specs.Laws.{AskTheSame, Headline, trust_store}
use Rattle.ts_answer.specs.Machine.{IsAnswer}
use Rattle.ts_answer.specs.Parts.{Unreadable, first_part, first_unreadable}
use Rattle.ts_answer.specs.Reply.{SaysVerdict, SaysSearch, IsChainReply, IsTargetReply, IsReplyBy, IsReplyTo, IsReply, with_id}

-- ---- a verdict and an answer are said by one reply

one_said : (id other : List ℕ) (v w : Verdict) (a b : Reply) → id ≡ other → path.IsSame v w → SaysVerdict id v a → SaysVerdict other w b → a ≡ b
one_said id other (verdict.Valid ps) (verdict.Invalid q s) a b is same x y = absurd same
one_said id other (verdict.Invalid p r) (verdict.Valid qs) a b is same x y = absurd same
one_said id other (verdict.Valid ps) (verdict.Valid qs) a b is same x y = valid a b x y
  where
    valid : (a b : Reply) → SaysVerdict id (verdict.Valid ps) a → SaysVerdict other (verdict.Valid qs) b → a ≡ b
    valid (Valid anchor said) (Valid too more) x y = let e = x.0 ∙ is ∙ sym y.0 in let f = x.1 ∙ same ∙ sym y.1 in λ i. Valid (e i) (f i)
    valid (Valid anchor said) b x y = absurd y
    valid a b x y = absurd x
one_said id other (verdict.Invalid p r) (verdict.Invalid q s) a b is same x y = invalid a b x y
  where
    invalid : (a b : Reply) → SaysVerdict id (verdict.Invalid p r) a → SaysVerdict other (verdict.Invalid q s) b → a ≡ b
    invalid (Invalid place said) (Invalid too more) x y = let e = x.0 ∙ same.0 ∙ sym y.0 in let f = x.1 ∙ same.1 ∙ sym y.1 in λ i. Invalid (e i) (f i)
    invalid (Invalid place said) b x y = absurd y
    invalid a b x y = absurd x

some_is : {A : Type 0} (d x y : A) (o : Option A) → o ≡ Some x → o ≡ Some y → x ≡ y
some_is d x y o e f = ap (λ p. unwrap_or p d) (sym e ∙ f)

one_found : (anchors : List StoredAnchor) (f g : SearchAnswer) (a b : Reply) → search.IsSame f g → SaysSearch anchors f a → SaysSearch anchors g b → a ≡ b
one_found anchors (found.Found n chain ps) (found.Found m other qs) a b same x y = go a b x y
  where
    go : (a b : Reply) → SaysSearch anchors (found.Found n chain ps) a → SaysSearch anchors (found.Found m other qs) b → a ≡ b
    go (Found anchor places said) (Found too there more) x y =
        let e = some_is [] anchor too (slice_get (map (λ (s : StoredAnchor). s.id) anchors) n) x.0 (ap (slice_get (map (λ (s : StoredAnchor). s.id) anchors)) same.0 ∙ y.0) in
        let f = x.1 ∙ ap (map suc) same.1 ∙ sym y.1 in
        let g = x.2 ∙ same.2 ∙ sym y.2 in
        λ i. Found (e i) (f i) (g i)
    go (Found anchor places said) b x y = absurd y
    go a b x y = absurd x
one_found anchors found.NoPath found.NoPath a b same x y = go a b x y
  where
    go : (a b : Reply) → SaysSearch anchors found.NoPath a → SaysSearch anchors found.NoPath b → a ≡ b
    go NoPath NoPath x y = refl
    go NoPath b x y = absurd y
    go a b x y = absurd x
one_found anchors found.SearchLimit found.SearchLimit a b same x y = go a b x y
  where
    go : (a b : Reply) → SaysSearch anchors found.SearchLimit a → SaysSearch anchors found.SearchLimit b → a ≡ b
    go SearchLimit SearchLimit x y = refl
    go SearchLimit b x y = absurd y
    go a b x y = absurd x
one_found anchors f g a b same x y = absurd same

-- ---- a question has one reply

one_chain : (good : Check) (tables : Tables) (terms : Terms) (octets : List (List ℕ))
    (o : Option StoredAnchor) (a b : Reply) → 1 ≤ length octets
    → IsChainReply good tables terms octets o a → IsChainReply good tables terms octets o b → a ≡ b
one_chain good tables terms octets None a b some x y = x ∙ sym y
one_chain good tables terms octets (Some stored) a b some x y =
    let long : 1 ≤ length (chain_of octets) = omega (arith, some, length_map certificate_in octets) in
    one_said stored.id stored.id x.0 y.0 a b refl (one_verdict.one_verdict (question_of good tables terms stored octets) x.0 y.0 long x.1 y.1) x.2 y.2

long_chain : (most : ℕ) (octets : List (List ℕ)) → are_certificates most octets ≡ true → 1 ≤ length octets
long_chain most octets is = leb-true 1 (length octets) (first_true (nat_le 1 (length octets)) (nat_le (length octets) most) (first_true (nat_le 1 (length octets) && nat_le (length octets) most) _ is))

one_target : (good : Check) (tables : Tables) (terms : Terms) (t : Target) (a b : Reply) → is_target t ≡ true → IsTargetReply good tables terms t a → IsTargetReply good tables terms t b → a ≡ b
one_target good tables terms (target.Chain anchor octets) a b is x y = one_chain good tables terms octets (with_id anchor tables.anchors) a b (long_chain 16 octets is) x y
one_target good tables terms (target.Store from) a b is x y = absurd x
one_target good tables terms (target.Log from) a b is x y = absurd x
one_target good tables terms (target.Search octets) a b is x y =
    one_found tables.anchors x.0 y.0 a b (one_answer.one_answer (search_of good tables terms octets) x.0 y.0 x.1 y.1) x.2 y.2

one_reply_by : (good : Check) (tables : Tables) (q : StoreQuestion) (o : Option Unreadable)
    (a b : Reply) → is_target q.target ≡ true → IsReplyBy good tables q o a
    → IsReplyBy good tables q o b → a ≡ b
one_reply_by good tables q (Some u) a b is x y = x ∙ sym y
one_reply_by good tables q None a b is x y = one_target good tables q.terms q.target a b is x y

one_reply_to : (good : Check) (commands : List Command) (q : StoreQuestion) (t : Target)
    (a b : Reply) → is_target q.target ≡ true → IsReplyTo good commands q t a
    → IsReplyTo good commands q t b → a ≡ b
one_reply_to good commands q (target.Store from) a b is x y = x ∙ sym y
one_reply_to good commands q (target.Log from) a b is x y = x ∙ sym y
one_reply_to good commands q (target.Chain anchor octets) a b is x y = one_reply_by good (store_after commands).tables q (first_unreadable q) a b is x y
one_reply_to good commands q (target.Search octets) a b is x y = one_reply_by good (store_after commands).tables q (first_unreadable q) a b is x y

-- k makes no difference
at_any : (good : Check) (commands : List Command) (terms : Terms) (k : Option ℕ) (t : Target)
    (a : Reply) → IsReply good commands (record { terms = record terms { k = k }; target = t }) a
    → IsReply good commands (record { terms = terms; target = t }) a
unfolding first_part
at_any good commands terms k (target.Chain anchor octets) a h = h
at_any good commands terms k (target.Search octets) a h = h
at_any good commands terms k (target.Store from) a h = h
at_any good commands terms k (target.Log from) a h = h

at_any_k : (good : Check) (commands : List Command) (q p : StoreQuestion) (a : Reply) → AskTheSame q p → IsReply good commands p a → IsReply good commands q a
at_any_k good commands q p a same x = at_any good commands q.terms p.terms.k q.target a (subst (λ (r : StoreQuestion). IsReply good commands r a) same x)

pub one_answer_of : (good : Check) (commands : List Command) (q p : StoreQuestion)
    (a b : NumberedReply) → QuestionFits q → AskTheSame q p → IsAnswer good commands q a
    → IsAnswer good commands p b → a ≡ b
one_answer_of good commands q p a b fits same x y =
    let k = x.k ∙ sym y.k in
    let r = one_reply_to good commands q q.target a.reply b.reply (second_true (are_terms q.terms) (is_target q.target) fits.within) x.reply (at_any_k good commands q p b.reply same y.reply) in
    λ i. record { k = k i; reply = r i }

-- ---- the headline

pub the_headline : {D M : Type 0} (good : Check) (n : ℕ)
    (start : Group D Command M Outcome StoreQuestion NumberedReply)
    (run : List (Happening D Command M Outcome StoreQuestion NumberedReply))
    → RunPromises trust_store (IsAnswer good) n start run → Headline good n start run
the_headline good n start run promised = record {
  promised = promised;
  equal = λ x y q p k a b fits same first second.
      let f = promised.answered x q k a first in
      let g = promised.answered y p k b second in
      let e = promised.one k f.0 g.0 f.1 g.1 in
      one_answer_of good g.0 q p a b fits same (subst (λ (cs : List Command). IsAnswer good cs q a) e f.2) g.2;
}
