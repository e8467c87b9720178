-- What a connection has handed on after calls in any order.
use Rattle.std.proofs.Common.{◌≡◌, ◌∙◌, ℕ, List, [], ◌∷◌, ◌++◌, sym, ap, subst, append_assoc}
use Rattle.std.proofs.Common.{Bool, Result}
use Rattle.std.specs.List.{concat}
use Rattle.std.proofs.lemmas.List.{append-nil}
use Rattle.std.proofs.lemmas.List.Folds.{concat-append}
use Rattle.ts_guard.specs.Opening.{HasCome as Receives}
use Rattle.ts_guard.specs.declared.fault.GuardFault.{GuardFault}
use Rattle.ts_access.specs.Calls.{Call, Calls, Pushed, Sealed, Took, came_in, handed_in}
use Rattle.ts_access.specs.Entered.{HasHandedOn, IsAt, IsFromHolder, Talks, Tells, Vouches, comes}
use Rattle.ts_access.specs.Entering.{HasCome, SealsIn}
use Rattle.ts_access.specs.Sifted.{IsSieve}
use Rattle.ts_access.specs.Sifting.{handed_by}
use Rattle.ts_access.specs.declared.entrance.Entrance.{Entrance}
use Rattle.ts_access.specs.declared.entrance.Stage.{Stage}
use Rattle.ts_access.specs.declared.entrance.Stage.TheVariants as stages
use Rattle.ts_access.specs.declared.key.Key.{Key}
use Rattle.ts_access.specs.declared.line.Line.{Line}
use Rattle.ts_access.specs.declared.sieve.Sieve.{Sieve}
use Rattle.ts_access.proofs.Entries.{After, at_same, opener_for, taken, tells_more, unmoved}
use Rattle.ts_access.proofs.Entries.{vouched_more}

received : (keys : List Key) (node : ℕ) (challenge : List ℕ) (old new : Line)
    (came piece handed : List ℕ) → Talks keys node challenge old came handed
    → Receives old.channel.opener piece new.channel.opener → new.sieve ≡ old.sieve
    → Talks keys node challenge new (came ++ piece) handed
received keys node challenge old new came piece handed t r sieve =
    record {
      key = t.key;
      greeting = t.greeting;
      contents = t.contents;
      tells = subst (λ (h : List ℕ). Tells keys challenge t.key t.greeting t.contents h
          (came ++ piece)) (sym r.held)
          (tells_more keys challenge t.key t.greeting t.contents old.channel.opener.held came piece
          t.tells);
      for = opener_for t.key.secret (comes challenge t.greeting) old.channel.opener
          new.channel.opener r.start t.for;
      number = r.number ∙ t.number;
      sieve = subst (λ (s : Sieve). IsSieve s (concat t.contents) handed) (sym sieve) t.sieve;
      role = ap (λ (s : Sieve). s.role) sieve ∙ t.role;
      node_is = ap (λ (s : Sieve). s.node) sieve ∙ t.node_is;
    }

pushed : (keys : List Key) (node : ℕ) (challenge : List ℕ) (old new : Stage)
    (came piece handed : List ℕ) → IsAt keys node challenge old came handed
    → HasCome old piece new → IsAt keys node challenge new (came ++ piece) handed
pushed keys node challenge (stages.Waits challenger) new came piece handed at h =
    subst (After keys node challenge (came ++ piece) handed) (sym h.1)
    (at.0, h.2 ∙ ap (λ (l : List ℕ). l ++ piece) at.1, h.3 ∙ at.2)
pushed keys node challenge (stages.Open line) new came piece handed at h =
    subst (After keys node challenge (came ++ piece) handed) (sym h.1)
    (received keys node challenge line h.0 came piece handed at h.2 h.4)
pushed keys node challenge stages.Closed new came piece handed at h =
    subst (After keys node challenge (came ++ piece) handed) (sym h)
    (vouched_more keys node challenge came piece handed at)

sealed_on : (keys : List Key) (node : ℕ) (challenge : List ℕ) (old new : Stage)
    (came handed octets before after : List ℕ) (result : Result Bool GuardFault)
    → IsAt keys node challenge old came handed → SealsIn old octets before result new after
    → IsAt keys node challenge new came handed
sealed_on keys node challenge (stages.Waits challenger) new came handed octets before after result
    at s = subst (After keys node challenge came handed) (sym s.1) at
sealed_on keys node challenge (stages.Open line) new came handed octets before after result at s =
    subst (After keys node challenge came handed) (sym s.1)
    (unmoved keys node challenge line s.0 came handed s.2.0 s.2.1 at)
sealed_on keys node challenge stages.Closed new came handed octets before after result at s =
    subst (After keys node challenge came handed) (sym s.1) at

-- after what came and was handed on before
along : (keys : List Key) (calls : List Call) (a b : Entrance) (came handed : List ℕ)
    → HasHandedOn keys a came handed → Calls keys a calls b
    → HasHandedOn keys b (came ++ came_in calls) (handed ++ handed_in calls)
along keys [] a b came handed at calls =
    subst (λ (l : List ℕ). HasHandedOn keys b l (handed ++ [])) (sym (append-nil came))
    (subst (λ (l : List ℕ). HasHandedOn keys b came l) (sym (append-nil handed))
    (subst (λ (e : Entrance). HasHandedOn keys e came handed) (sym calls) at))
along keys (Pushed piece ∷ calls) a b came handed at c =
    let next = at_same keys a c.0 (came ++ piece) handed c.1.0
    (pushed keys a.node a.challenge a.stage c.0.stage came piece handed at c.1.1) in
    subst (λ (l : List ℕ). HasHandedOn keys b l (handed ++ handed_in calls))
    (append_assoc came piece (came_in calls))
    (along keys calls c.0 b (came ++ piece) handed next c.2)
along keys (Took result ∷ calls) a b came handed at c =
    let next = taken keys a c.0 came handed result c.1.0 c.1.1 at in
    subst (λ (l : List ℕ). HasHandedOn keys b (came ++ came_in calls) l)
    (append_assoc handed (handed_by result) (handed_in calls))
    (along keys calls c.0 b came (handed ++ handed_by result) next c.2)
along keys (Sealed octets before after result ∷ calls) a b came handed at c =
    along keys calls c.0 b came handed (at_same keys a c.0 came handed c.1.0
    (sealed_on keys a.node a.challenge a.stage c.0.stage came handed octets before after result at
    c.1.1)) c.2

pub from_nothing : (keys : List Key) (calls : List Call) (a b : Entrance)
    → HasHandedOn keys a [] [] → Calls keys a calls b
    → HasHandedOn keys b (came_in calls) (handed_in calls)
from_nothing keys calls a b at c = along keys calls a b [] [] at c

-- a front of what was sealed
pub from_holder : (keys : List Key) (node : ℕ) (challenge came handed : List ℕ)
    (v : Vouches keys node challenge came handed) (sent more : List (List ℕ))
    → sent ≡ v.contents ++ more → IsFromHolder keys node v.key v.greeting sent handed
from_holder keys node challenge came handed v sent more is =
    record {
      named = v.tells.found;
      phase = v.phase;
      seen = v.seen;
      unseen = v.unseen ++ concat more;
      sent_is = ap concat is ∙ concat-append v.contents more
          ∙ ap (λ (l : List ℕ). l ++ concat more) v.contents_are
          ∙ append_assoc v.seen v.unseen (concat more);
      admits = v.admits;
    }
