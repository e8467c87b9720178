-- What a connection has handed on after one more call.
use Rattle.std.proofs.Common.{◌≡◌, ◌+◌, ◌∙◌, ℕ, List, [], ◌∷◌, ◌++◌, length, sym, ap}
use Rattle.std.proofs.Common.{subst, inl, inr, append_assoc, Option, Some, None, Result, Ok}
use Rattle.std.proofs.Common.{Err, arith, length-append}
use Rattle.std.specs.List.{concat}
use Rattle.std.specs.declared.vec.Vec.{Vec}
use Rattle.std.specs.declared.alloc.Global.{Global}
use Rattle.std.proofs.lemmas.List.{append-nil}
use Rattle.ts_guard.specs.Hello.{greeting_octets}
use Rattle.ts_guard.specs.Opening.{HasOpened, IsOpenerFor}
use Rattle.ts_guard.specs.Sealed.{IsContent, sealed_record, stream}
use Rattle.ts_guard.specs.declared.challenger.Challenger.{Challenger}
use Rattle.ts_guard.specs.declared.hello.Greeting.{Greeting}
use Rattle.ts_guard.specs.declared.opener.Opener.{Opener}
use Rattle.ts_access.specs.Entered.{HasHandedOn, IsAt, IsVouched, Talks, Tells, Vouches, comes}
use Rattle.ts_access.specs.Entering.{IsBegun, IsSame, Steps, Takes}
use Rattle.ts_access.specs.Lines.{GoesOn, HandsOn, OpensOne}
use Rattle.ts_access.specs.Sifted.{Admits, IsSieve}
use Rattle.ts_access.specs.Sifting.{handed_by}
use Rattle.ts_access.specs.declared.entrance.Entrance.{Entrance}
use Rattle.ts_access.specs.declared.entrance.Stage.{Stage}
use Rattle.ts_access.specs.declared.entrance.Stage.TheVariants as stages
use Rattle.ts_access.specs.declared.fault.EntranceFault.{EntranceFault}
use Rattle.ts_access.specs.declared.key.Key.{Key}
use Rattle.ts_access.specs.declared.key.Role.{Role}
use Rattle.ts_access.specs.declared.line.Line.{Line}
use Rattle.ts_access.specs.declared.sieve.Sieve.{Sieve}
use Rattle.ts_access.proofs.Sieves.{concat_one_more, each_one_more, sieve_after, sieve_with}

-- ---- streams of records

-- one more record at the end
stream_one_more : (key context : List ℕ) (number last : ℕ) (contents : List (List ℕ))
    (content : List ℕ) → last ≡ number + length contents
    → stream key context number (contents ++ content ∷ [])
    ≡ stream key context number contents ++ sealed_record key context last content
stream_one_more key context number last [] content is =
    append-nil (sealed_record key context number content)
    ∙ ap (λ k. sealed_record key context k content) (omega (arith, is))
stream_one_more key context number last (c ∷ contents) content is =
    ap (λ (l : List ℕ). sealed_record key context number c ++ l)
    (stream_one_more key context (number + 1) last contents content (omega (arith, is)))
    ∙ sym (append_assoc (sealed_record key context number c)
    (stream key context (number + 1) contents) (sealed_record key context last content))

length_one_more : (contents : List (List ℕ)) (content : List ℕ)
    → length (contents ++ content ∷ []) ≡ length contents + 1
length_one_more contents content = length-append contents (content ∷ [])

-- ---- what came

pub tells_more : (keys : List Key) (challenge : List ℕ) (key : Key) (greeting : Greeting)
    (contents : List (List ℕ)) (rest came piece : List ℕ)
    → Tells keys challenge key greeting contents rest came
    → Tells keys challenge key greeting contents (rest ++ piece) (came ++ piece)
tells_more keys challenge key greeting contents rest came piece t =
    let hello = greeting_octets greeting.key_id greeting.nonce in
    let records = stream key.secret (comes challenge greeting) 0 contents in
    record {
      found = t.found;
      each = t.each;
      came_is = ap (λ (l : List ℕ). l ++ piece) t.came_is
          ∙ append_assoc hello (records ++ rest) piece
          ∙ ap (λ (l : List ℕ). hello ++ l) (append_assoc records rest piece);
    }

tells_one_more : (keys : List Key) (challenge : List ℕ) (key : Key) (greeting : Greeting)
    (contents : List (List ℕ)) (old new : Opener) (content came : List ℕ)
    → Tells keys challenge key greeting contents old.held came
    → old.number ≡ length contents
    → HasOpened key.secret (comes challenge greeting) old content new
    → Tells keys challenge key greeting (contents ++ content ∷ []) new.held came
tells_one_more keys challenge key greeting contents old new content came t number h =
    let hello = greeting_octets greeting.key_id greeting.nonce in
    let all = comes challenge greeting in
    let records = stream key.secret all 0 contents in
    let one = sealed_record key.secret all old.number content in
    record {
      found = t.found;
      each = each_one_more IsContent contents content t.each h.fits;
      came_is = t.came_is
          ∙ ap (λ (l : List ℕ). hello ++ l) (ap (λ (l : List ℕ). records ++ l) h.held
          ∙ sym (append_assoc records one new.held)
          ∙ ap (λ (l : List ℕ). l ++ new.held)
          (sym (stream_one_more key.secret all 0 old.number contents content (omega (arith, number)))));
    }

vouches_more : (keys : List Key) (node : ℕ) (challenge came piece handed : List ℕ)
    → Vouches keys node challenge came handed → Vouches keys node challenge (came ++ piece) handed
vouches_more keys node challenge came piece handed v =
    record {
      key = v.key;
      greeting = v.greeting;
      contents = v.contents;
      rest = v.rest ++ piece;
      tells = tells_more keys challenge v.key v.greeting v.contents v.rest came piece v.tells;
      phase = v.phase;
      seen = v.seen;
      unseen = v.unseen;
      contents_are = v.contents_are;
      admits = v.admits;
    }

pub vouched_more : (keys : List Key) (node : ℕ) (challenge came piece handed : List ℕ)
    → IsVouched keys node challenge came handed
    → IsVouched keys node challenge (came ++ piece) handed
vouched_more keys node challenge came piece handed (inl none) = inl none
vouched_more keys node challenge came piece handed (inr v) =
    inr (vouches_more keys node challenge came piece handed v)

-- ---- a connection whose key was found

talks_vouches : (keys : List Key) (node : ℕ) (challenge : List ℕ) (line : Line)
    (came handed : List ℕ) → Talks keys node challenge line came handed
    → Vouches keys node challenge came handed
talks_vouches keys node challenge line came handed t =
    record {
      key = t.key;
      greeting = t.greeting;
      contents = t.contents;
      rest = line.channel.opener.held;
      tells = t.tells;
      phase = line.sieve.phase;
      seen = t.sieve.seen;
      unseen = line.sieve.held;
      contents_are = t.sieve.stream_is;
      admits = subst (λ (r : Role). Admits r node line.sieve.phase t.sieve.seen handed) t.role
          (subst (λ k. Admits line.sieve.role k line.sieve.phase t.sieve.seen handed) t.node_is
          t.sieve.admits);
    }

pub at_vouched : (keys : List Key) (node : ℕ) (challenge : List ℕ) (stage : Stage)
    (came handed : List ℕ) → IsAt keys node challenge stage came handed
    → IsVouched keys node challenge came handed
at_vouched keys node challenge (stages.Waits challenger) came handed at = inl at.0
at_vouched keys node challenge (stages.Open line) came handed at =
    inr (talks_vouches keys node challenge line came handed at)
at_vouched keys node challenge stages.Closed came handed at = at

-- ---- one step

pub opener_for : (key context : List ℕ) (old new : Opener) → new.start ≡ old.start
    → IsOpenerFor key context old → IsOpenerFor key context new
opener_for key context old new start for =
    subst (λ s. IsOpenerFor key context record {
      alloc = old.alloc;
      start = s;
      number = old.number;
      held = old.held;
    }) (sym start) for

-- the opener and the sieve after a step
talks_on : (keys : List Key) (node : ℕ) (challenge : List ℕ) (old new : Line)
    (came handed more : List ℕ) (t : Talks keys node challenge old came handed)
    → new.channel.opener ≡ old.channel.opener → new.sieve.role ≡ old.sieve.role
    → new.sieve.node ≡ old.sieve.node → IsSieve new.sieve (concat t.contents) more
    → Talks keys node challenge new came more
talks_on keys node challenge old new came handed more t opener role node_is sieve =
    record {
      key = t.key;
      greeting = t.greeting;
      contents = t.contents;
      tells = subst (λ (o : Opener). Tells keys challenge t.key t.greeting t.contents o.held came)
          (sym opener) t.tells;
      for = subst (λ (o : Opener). IsOpenerFor t.key.secret (comes challenge t.greeting) o)
          (sym opener) t.for;
      number = ap (λ (o : Opener). o.number) opener ∙ t.number;
      sieve = sieve;
      role = role ∙ t.role;
      node_is = node_is ∙ t.node_is;
    }

handed_on : (keys : List Key) (node : ℕ) (challenge : List ℕ) (old new : Line)
    (came handed octets : List ℕ) → Talks keys node challenge old came handed
    → HandsOn old octets new → Talks keys node challenge new came (handed ++ octets)
handed_on keys node challenge old new came handed octets t h =
    talks_on keys node challenge old new came handed (handed ++ octets) t h.opener h.hands.role
    h.hands.node
    (sieve_after old.sieve new.sieve octets (concat t.contents) handed h.hands t.sieve)

opened_one : (keys : List Key) (node : ℕ) (challenge : List ℕ) (old new : Line)
    (came handed octets : List ℕ) → Talks keys node challenge old came handed
    → OpensOne old octets new → Talks keys node challenge new came (handed ++ octets)
opened_one keys node challenge old new came handed octets t o =
    let all = comes challenge t.greeting in
    let h = o.opens t.key.secret all t.for in
    let same : handed ≡ handed ++ octets = sym (append-nil handed)
    ∙ ap (λ (l : List ℕ). handed ++ l) (sym o.none) in
    record {
      key = t.key;
      greeting = t.greeting;
      contents = t.contents ++ o.content ∷ [];
      tells = tells_one_more keys challenge t.key t.greeting t.contents old.channel.opener
          new.channel.opener o.content came t.tells t.number h;
      for = opener_for t.key.secret all old.channel.opener new.channel.opener h.start t.for;
      number = h.number ∙ ap (λ k. k + 1) t.number ∙ sym (length_one_more t.contents o.content);
      sieve = subst (λ (l : List ℕ). IsSieve new.sieve l (handed ++ octets))
          (sym (concat_one_more t.contents o.content))
          (subst (λ (l : List ℕ). IsSieve new.sieve (concat t.contents ++ o.content) l) same
          (sieve_with old.sieve new.sieve o.content (concat t.contents) handed o.came t.sieve));
      role = o.came.role ∙ t.role;
      node_is = o.came.node ∙ t.node_is;
    }

begun : (keys : List Key) (node : ℕ) (challenge : List ℕ) (challenger : Challenger) (line : Line)
    (came : List ℕ) → challenger.held ≡ came → challenger.challenge ≡ challenge
    → IsBegun node keys challenger line → Talks keys node challenge line came []
begun keys node challenge challenger line came held same b =
    let hello = greeting_octets b.greeting.key_id b.greeting.nonce in
    let opens = b.channel.opens in
    record {
      key = b.key;
      greeting = b.greeting;
      contents = [];
      tells = record {
        found = b.found;
        each = tt;
        came_is = sym held ∙ b.greets.is ∙ ap (λ (l : List ℕ). hello ++ l) (sym opens.held);
      };
      for = subst (λ (c : List ℕ). IsOpenerFor b.key.secret (comes c b.greeting) line.channel.opener)
          same opens.for;
      number = opens.number;
      sieve = b.sieve;
      role = b.role;
      node_is = b.node_is;
    }

nothing_more : (P : List ℕ → Type 0) (handed : List ℕ) → P handed → P (handed ++ [])
nothing_more P handed p = subst P (sym (append-nil handed)) p

-- the octets of a step
abbrev octets_of : Option (Vec ℕ Global) → List ℕ
octets_of (Some octets) = octets.items
octets_of None = []

pub unmoved : (keys : List Key) (node : ℕ) (challenge : List ℕ) (old new : Line) (came handed : List ℕ)
    → new.sieve ≡ old.sieve → new.channel.opener ≡ old.channel.opener
    → Talks keys node challenge old came handed → Talks keys node challenge new came handed
unmoved keys node challenge old new came handed sieve opener t =
    talks_on keys node challenge old new came handed handed t opener
    (ap (λ (s : Sieve). s.role) sieve) (ap (λ (s : Sieve). s.node) sieve)
    (subst (λ (s : Sieve). IsSieve s (concat t.contents) handed) (sym sieve) t.sieve)

line_on : (keys : List Key) (node : ℕ) (challenge : List ℕ) (old new : Line)
    (came handed : List ℕ) (octets : Option (Vec ℕ Global))
    → Talks keys node challenge old came handed → GoesOn old octets new
    → Talks keys node challenge new came (handed ++ octets_of octets)
line_on keys node challenge old new came handed (Some octets) t (inl h) =
    handed_on keys node challenge old new came handed octets.items t h
line_on keys node challenge old new came handed (Some octets) t (inr o) =
    opened_one keys node challenge old new came handed octets.items t o
line_on keys node challenge old new came handed None t g =
    nothing_more (λ (l : List ℕ). Talks keys node challenge new came l) handed
    (unmoved keys node challenge old new came handed g.0
    (g.3 t.key.secret (comes challenge t.greeting) t.for).0 t)

abbrev pub After : List Key → ℕ → List ℕ → List ℕ → List ℕ → Stage → Type 0
After keys node challenge came handed stage = IsAt keys node challenge stage came handed

step_on : (keys : List Key) (node : ℕ) (challenge : List ℕ) (old new : Stage)
    (came handed : List ℕ) (octets : Option (Vec ℕ Global))
    → IsAt keys node challenge old came handed → Steps node keys old octets new
    → IsAt keys node challenge new came (handed ++ octets_of octets)
step_on keys node challenge (stages.Waits challenger) new came handed None at s =
    nothing_more (λ (l : List ℕ). IsAt keys node challenge new came l) handed
    (subst (After keys node challenge came handed) (sym s.0) at)
step_on keys node challenge (stages.Waits challenger) new came handed (Some octets) at s =
    subst (λ (l : List ℕ). IsAt keys node challenge new came l)
    (sym (ap (λ (l : List ℕ). l ++ octets.items) at.0 ∙ s.0))
    (subst (After keys node challenge came []) (sym s.2)
    (begun keys node challenge challenger s.1 came at.1 at.2 s.3))
step_on keys node challenge (stages.Open line) new came handed octets at s =
    subst (After keys node challenge came (handed ++ octets_of octets)) (sym s.1)
    (line_on keys node challenge line s.0 came handed octets at s.2)
step_on keys node challenge stages.Closed new came handed octets at s =
    subst (λ (o : Option (Vec ℕ Global)). IsAt keys node challenge new came (handed ++ octets_of o))
    (sym s.0)
    (nothing_more (λ (l : List ℕ). IsAt keys node challenge new came l) handed
    (subst (After keys node challenge came handed) (sym s.1) at))

-- the same connection
pub at_same : (keys : List Key) (old new : Entrance) (came handed : List ℕ) → IsSame old new
    → IsAt keys old.node old.challenge new.stage came handed → HasHandedOn keys new came handed
at_same keys old new came handed same at =
    subst (λ k. IsAt keys k new.challenge new.stage came handed) (sym same.node)
    (subst (λ (c : List ℕ). IsAt keys old.node c new.stage came handed) (sym same.challenge) at)

pub taken : (keys : List Key) (old new : Entrance) (came handed : List ℕ)
    (result : Result (Option (Vec ℕ Global)) EntranceFault) → IsSame old new
    → Takes keys old result new → HasHandedOn keys old came handed
    → HasHandedOn keys new came (handed ++ handed_by result)
taken keys old new came handed (Ok (Some octets)) same takes at =
    at_same keys old new came (handed ++ octets.items) same
    (step_on keys old.node old.challenge old.stage new.stage came handed (Some octets) at takes)
taken keys old new came handed (Ok None) same takes at =
    at_same keys old new came (handed ++ []) same
    (step_on keys old.node old.challenge old.stage new.stage came handed None at takes)
taken keys old new came handed (Err fault) same takes at =
    at_same keys old new came (handed ++ []) same
    (nothing_more (λ (l : List ℕ). IsAt keys old.node old.challenge new.stage came l) handed
    (subst (After keys old.node old.challenge came handed) (sym takes.1)
    (at_vouched keys old.node old.challenge old.stage came handed at)))
