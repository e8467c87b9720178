-- The acceptor's steps are good.
use Rattle.std.proofs.Common.{ℕ, List, [], Option, Some, None, nat_lt, inl, inr, refl, subst, arith, ◌<◌, ◌≤◌, ◌∷◌, ◌++◌, ◌==◌, if◌then◌else◌}
use Rattle.std.proofs.lemmas.Bool.Decides.{nat_tests, Decides-ltb, Decides-eqb}
use Rattle.ts_synod.specs.declared.message.Body.TheVariants.{Accept, Accepted, Busy, Promise}
use Rattle.ts_synod.specs.declared.message.Body.{Body}
use Rattle.ts_synod.specs.declared.message.Fact.{Fact}
use Rattle.ts_synod.specs.declared.message.Message.{Message}
use Rattle.ts_synod.specs.declared.message.Fact.TheVariants.{Promised, Took}
use Rattle.ts_synod.specs.declared.message.Vote.{Vote}
use Rattle.ts_synod.specs.Lists.{Has}
use Rattle.ts_synod.specs.Config.{Config}
use Rattle.ts_synod.specs.Messages.{broadcast, send}
use Rattle.ts_synod.specs.Force.{promised_ballot, taken_vote}
use Rattle.ts_synod.specs.Acceptor.{Output, accept, accept_or_repeat, on_accept, on_prepare, only_messages}
use Rattle.ts_synod.specs.Node.{Node}
use Rattle.ts_synod.proofs.Sets.{has_left, has_right, by_test}
use Rattle.ts_synod.proofs.Forces.{IsGreatest, taken_is, took_bound}
use Rattle.ts_synod.proofs.Invariant.{Sent, Reports, Promising, NewFact, NewBody}
use Rattle.ts_synod.proofs.Kept.{reports_kept}
use Rattle.ts_synod.proofs.Mild.{Plain, answers_plain, IsAccept, from_none, from_one, from_all}

-- what is reported of a ballot above the promised one
reports_taken : {C : Type 0} (fs : List (Fact C)) (p b : ℕ) (t : Option (Vote C)) → promised_ballot p fs < b → IsGreatest fs p t → Reports fs p b t
reports_taken fs p b None less g = λ d c h. absurd (g d c h)
reports_taken fs p b (Some v) less g = (let k = took_bound fs p v.ballot v.command g.0 in omega arith, g.0, λ d c h _. g.1 d c h)

module _ {C : Type 0} (config : Config) (P : C → Type 0) (nodes : ℕ → Node C) (sent : List (Message C)) where
  abbrev Right : Output C → Type 0
  Right = Plain config.nodes P nodes sent config.me

  abbrev New : List (Fact C) → Body C → Type 0
  New facts body = NewBody config.nodes P nodes sent config.me facts body × (IsAccept body → ⊥)

  busy : (to p b b0 : ℕ) → Right (only_messages (send config.me to (Busy p b b0) ∷ []))
  busy to p b b0 = answers_plain config.nodes P nodes sent config.me (send config.me to (Busy p b b0) ∷ []) (from_one config.me (New []) to (Busy p b b0) (tt, λ h. h))

  promising : (p b : ℕ) → promised_ballot p (nodes config.me).facts < b → Promising ((nodes config.me).facts ++ Promised p b ∷ []) p b (taken_vote p (nodes config.me).facts)
  promising p b less =
      let fs = (nodes config.me).facts in
      record {
        promised = has_right fs (Promised p b ∷ []) (Promised p b) (inl refl);
        reports = reports_kept fs (Promised p b ∷ []) p b (taken_vote p fs) (λ d c. elim [ inl e ↦ absurd (cc) | inr h ↦ absurd h ]) (reports_taken fs p b (taken_vote p fs) less (taken_is fs p));
      }

  pub prepare_right : (from p b : ℕ) → Right (on_prepare config (promised_ballot p (nodes config.me).facts) (taken_vote p (nodes config.me).facts) from p b)
  prepare_right from p b =
      let fs = (nodes config.me).facts in
      let b0 = promised_ballot p fs in
      let t = taken_vote p fs in
      let busy_out = only_messages (send config.me from (Busy p b b0) ∷ []) in
      let yes : Output C = record { facts = Promised p b ∷ []; messages = send config.me from (Promise p b t) ∷ [] } in
      by_test Right (nat_lt b0 b) yes (if nat_lt b b0 then busy_out else only_messages [])
      (λ e. record {
        fact = λ f. elim [ inl same ↦ subst (NewFact config.nodes nodes sent config.me) same tt | inr h ↦ absurd h ];
        message = from_one config.me (New (Promised p b ∷ [])) from (Promise p b t) (promising p b ((Decides-ltb b0 b).0 e), λ h. h);
      })
      (λ _. by_test Right (nat_lt b b0) busy_out (only_messages []) (λ _. busy from p b b0) (λ _. answers_plain config.nodes P nodes sent config.me [] (from_none config.me (New []))))

  takes_right : (from p b : ℕ) (c : C) → Sent sent from (Accept p b c) → promised_ballot p (nodes config.me).facts ≤ b → Right (accept config p b c)
  takes_right from p b c came le =
      record {
        fact = λ f. elim [ inl same ↦ subst (NewFact config.nodes nodes sent config.me) same (le, (from, came)) | inr h ↦ absurd h ];
        message = from_all config.me (New (Took p b c ∷ [])) config.nodes (Accepted p b c) (has_right (nodes config.me).facts (Took p b c ∷ []) (Took p b c) (inl refl), λ h. h);
      }

  accepts_right : (from p b : ℕ) (c : C) (t : Option (Vote C)) → Sent sent from (Accept p b c)
      → promised_ballot p (nodes config.me).facts ≤ b → IsGreatest (nodes config.me).facts p t
      → Right (accept_or_repeat config p b c t)
  accepts_right from p b c None came le g = takes_right from p b c came le
  accepts_right from p b c (Some v) came le g =
      by_test Right (v.ballot == b) (only_messages (broadcast config.me config.nodes (Accepted p b v.command))) (accept config p b c)
      (λ e. answers_plain config.nodes P nodes sent config.me (broadcast config.me config.nodes (Accepted p b v.command)) (from_all config.me (New []) config.nodes (Accepted p b v.command)
      (has_left (nodes config.me).facts [] (Took p b v.command) (subst (λ d. Has (nodes config.me).facts (Took p d v.command)) ((Decides-eqb v.ballot b).0 e) g.0), λ h. h)))
      (λ _. takes_right from p b c came le)

  pub accept_right : (from p b : ℕ) (c : C) → Sent sent from (Accept p b c) → Right (on_accept config (promised_ballot p (nodes config.me).facts) (taken_vote p (nodes config.me).facts) from p b c)
  accept_right from p b c came =
      let fs = (nodes config.me).facts in
      let b0 = promised_ballot p fs in
      by_test Right (nat_lt b b0) (only_messages (send config.me from (Busy p b b0) ∷ [])) (accept_or_repeat config p b c (taken_vote p fs))
      (λ _. busy from p b b0)
      (λ e. accepts_right from p b c (taken_vote p fs) came (grind (arith, nat_tests)) (taken_is fs p))
