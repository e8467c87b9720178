-- Steps of a connection, one after another.
use Rattle.std.proofs.Common.{◌≡◌, ◌≤◌, ◌+◌, ◌∙◌, sym, ap, subst, refl, arith, length, ℕ, Bool, true, false}
use Rattle.std.proofs.Common.{true≢false, List, [], ◌∷◌, ◌++◌, Option, Some, None, ◌⊎◌, inl, inr, Result, Ok, Err, IfOk}
use Rattle.std.proofs.Common.{if◌then◌else◌}
use Rattle.ts_http.specs.Moves.{AnswersAt, HasRead, ReadFrom, ended_at, is_ended, manner_at, request_at, request_in, wrong_at, wrong_in}
use Rattle.ts_http.specs.Reading.{Tells, is_due}
use Rattle.ts_http.specs.declared.connection.Connection.{Connection}
use Rattle.ts_http.specs.declared.connection.Stage.{Stage}
use Rattle.ts_http.specs.declared.connection.Stage.TheVariants as stages
use Rattle.ts_http.specs.declared.reading.Progress.TheVariants.{Goes}
use Rattle.ts_http.specs.declared.request.Request.{Request}
use Rattle.ts_api.specs.Heading.{headers_of, phrase_of}
use Rattle.ts_api.specs.declared.response.Response.{Response}
use Rattle.ts_api.specs.declared.scene.Scene.{Scene}
use Rattle.ts_site.specs.Faces.{Follows, HasBegun, IsDone, IsAtRest, IsTimed, Responds, State, Takes, TakesOne, count_due}
use Rattle.ts_site.specs.declared.next.Next.{Next}
use Rattle.ts_site.specs.declared.next.Next.TheVariants.{Tell, Ask}
use Rattle.ts_site.specs.inside.Stepping.{IsSettled, IsStep, Leads}

-- those behind others
pub joined : (scene : Scene) (now : ℕ) (s : State) (front : List State) (mid : State) (back : List State) (t : State)
    → Takes scene now s front mid → Takes scene now mid back t → Takes scene now s (back ++ front) t
joined scene now s front mid [] t before after = subst (λ (u : State). Takes scene now s front u) after before
joined scene now s front mid (one ∷ back) t before after =
    (joined scene now s front mid back one before after.0, after.1)

-- where so many states have something due, and so many others, that many have in both
count_append : (back front : List State) → count_due (back ++ front) ≡ count_due back + count_due front
count_append [] front = omega arith
count_append (mid ∷ back) front = omega (arith, count_append back front)

-- where one step was the last, it is among all
pub idle_behind : (front back : List State) (t : State) → 1 ≤ length back → IsAtRest back t → IsAtRest (back ++ front) t
idle_behind front [] t some idle = absurd (omega (arith, some))
idle_behind front (mid ∷ back) t some idle = idle

-- ---- what ends a connection

abbrev IsSomething : {A : Type 0} → Option A → Type 0
IsSomething None = ⊥
IsSomething (Some x) = Unit {0}

-- nothing is due, and nothing waits for a response
ended : (stage : Stage) → is_due stage ≡ false → wrong_at stage ≡ None → request_at stage ≡ None → ended_at stage ≡ true
ended stages.Head due wrong request = absurd (true≢false due)
ended (stages.Body r) due wrong request = absurd (true≢false due)
ended (stages.Whole r) due wrong request = absurd (subst IsSomething request tt)
ended (stages.Wrong status head) due wrong request = absurd (subst IsSomething wrong tt)
ended stages.Ended due wrong request = refl

closes : (stage : Stage) (status : ℕ) (a b : Connection) (r : Response) → wrong_at stage ≡ Some status
    → AnswersAt (manner_at stage) a b r.status (phrase_of r.status) (headers_of r) r.body.items → ended_at b.stage ≡ true
closes stages.Head status a b r wrong answers = absurd answers
closes (stages.Body other) status a b r wrong answers = absurd answers
closes (stages.Whole other) status a b r wrong answers = absurd (subst IsSomething (sym wrong) tt)
closes (stages.Wrong code head) status a b r wrong answers = ap ended_at answers.ended
closes stages.Ended status a b r wrong answers = absurd answers

-- what was wrong is answered, and nothing more is
pub refused : (a b : Connection) (status : ℕ) (response : Response) → wrong_in a ≡ Some status → Responds a b response → is_ended b ≡ true
refused a b status response wrong responds = closes a.stage status a b response wrong responds

-- ---- what comes behind a step

differ : (b : Bool) → (b ≡ true → ⊥) → b ≡ false
differ true never = absurd (never refl)
differ false never = refl

-- a head that is due next, or the end
next_stage : {E H : Type 0} (stage : Stage) → ((stage ≡ stages.Ended) × E) ⊎ ((stage ≡ stages.Head) × H)
    → (is_due stage ≡ true) ⊎ (ended_at stage ≡ true)
next_stage stage (inl (is, closed)) = inr (ap ended_at is)
next_stage stage (inr (is, closed)) = inl (ap is_due is)

-- behind the response to a request a head is due, or nothing more is
answered : (stage : Stage) (request : Request) (a b : Connection) (r : Response) → request_at stage ≡ Some request
    → AnswersAt (manner_at stage) a b r.status (phrase_of r.status) (headers_of r) r.body.items
    → (is_due b.stage ≡ true) ⊎ (ended_at b.stage ≡ true)
answered stages.Head request a b r waits answers = absurd answers
answered (stages.Body other) request a b r waits answers = absurd answers
answered (stages.Whole other) request a b r waits answers = next_stage b.stage answers.then
answered (stages.Wrong status head) request a b r waits answers = absurd (subst IsSomething (sym waits) tt)
answered stages.Ended request a b r waits answers = absurd answers

of_stage : (t : State) → (is_due t.0.stage ≡ true) ⊎ (is_ended t.0 ≡ true) → IsSettled t
of_stage t (inl due) = inl due
of_stage t (inr ends) = inr (inl ends)

followed : (now : ℕ) (next : Next) (request : Request) (s t : State) → request_in s.0 ≡ Some request → Follows now next s t → IsSettled t
followed now (Tell response) request s t waits follows = of_stage t (answered s.0.stage request s.0 t.0 response waits follows.0)
followed now (Ask pending octets) request s t waits follows = inr (inr (_, follows.1))

-- a request that has begun no longer waits, unless the node is asked
pub settled : (scene : Scene) (now : ℕ) (s t : State) → HasBegun scene now s t → IsSettled t
settled scene now s t begun = followed now begun.2 begun.0 s t begun.1 begun.4

-- nothing waits where a connection has ended
no_request : (stage : Stage) → ended_at stage ≡ true → request_at stage ≡ None
no_request stages.Head ends = absurd (true≢false (sym ends))
no_request (stages.Body r) ends = absurd (true≢false (sym ends))
no_request (stages.Whole r) ends = absurd (true≢false (sym ends))
no_request (stages.Wrong status head) ends = absurd (true≢false (sym ends))
no_request stages.Ended ends = refl

-- what has ended stays so
stays : (stage : Stage) (a b : Connection) → a.stage ≡ stage → ReadFrom stage a b → ended_at stage ≡ true → ended_at b.stage ≡ true
stays stages.Head a b is read ends = absurd (true≢false (sym ends))
stays (stages.Body r) a b is read ends = absurd (true≢false (sym ends))
stays (stages.Whole r) a b is read ends = absurd (true≢false (sym ends))
stays (stages.Wrong status head) a b is read ends = absurd (true≢false (sym ends))
stays stages.Ended a b is read ends = ap ended_at (read.stage_is ∙ is)

unended : (a b : Connection) (request : Request) → HasRead a b → request_in b ≡ Some request → is_ended a ≡ false
unended a b request read waits = differ (is_ended a) (λ ends. subst IsSomething (sym waits ∙ no_request b.stage (stays a.stage a b refl read ends)) tt)

-- where more is due behind a read, the connection had not ended
pub goes : (stage : Stage) (a b : Connection) → Tells stage a b Goes → ended_at stage ≡ false
goes stages.Head a b told = refl
goes (stages.Body r) a b told = refl
goes (stages.Whole r) a b told = absurd told.0
goes (stages.Wrong status head) a b told = absurd told.0
goes stages.Ended a b told = absurd told.0

-- a read, and behind it the request that waits then, if one does
pub after_read : {E : Type 0} (result : Result Bool E) (scene : Scene) (now : ℕ) (s mid t : State)
    → s.1 ≡ None → HasRead s.0 mid.0 → mid.1 ≡ None → IsTimed now s.0 mid.0 → is_due mid.0.stage ≡ false → wrong_in mid.0 ≡ None
    → IfOk result (λ there. ((there ≡ true) × HasBegun scene now mid t)
    ⊎ ((there ≡ false) × (t ≡ mid) × (request_in mid.0 ≡ None)))
    → IfOk result (IsStep scene now s t)
after_read (Ok there) scene now s mid t none read still timed due wrong (inl begun) = (
  mid ∷ s ∷ [],
  ((refl, (none, inl (read, still, timed))), (still, inr (inr begun.1))),
  omega arith,
  omega arith,
  subst (λ (more : Bool). Leads more (mid ∷ s ∷ []) s t) (sym begun.0) (settled scene now mid t begun.1, unended s.0 mid.0 begun.1.0 read begun.1.1),
)
after_read (Ok there) scene now s mid t none read still timed due wrong (inr same) = (
  s ∷ [],
  (refl, subst (λ (u : State). TakesOne scene now s u) (sym same.1) (none, inl (read, still, timed))),
  omega arith,
  omega arith,
  subst (λ (more : Bool). Leads more (s ∷ []) s t) (sym same.0) (inr (ap (λ (u : State). is_ended u.0) same.1 ∙ ended mid.0.stage due wrong same.2)),
)
after_read (Err e) scene now s mid t none read still timed due wrong begun = tt

-- ---- how many steps there were

one_due : (s : State) → is_due s.0.stage ≡ true → count_due (s ∷ []) ≡ 1
one_due s due = ap (λ (due : Bool). (if due then 1 else 0) + 0) due

-- a step from where something was due; the first may be another
pub counted : (i : ℕ) (s : State) (front back : List State) → i ≤ count_due front + 1 → (i ≡ 0) ⊎ IsSettled s
    → s.1 ≡ None → is_ended s.0 ≡ false → count_due (s ∷ []) ≤ count_due back → i + 1 ≤ count_due (back ++ front) + 1
counted i s front back before (inl first) none opened more = omega (arith, first, count_append back front)
counted i s front back before (inr (inl due)) none opened more = omega (arith, before, more, one_due s due, count_append back front)
counted i s front back before (inr (inr (inl ends))) none opened more = absurd (true≢false (sym ends ∙ opened))
counted i s front back before (inr (inr (inr asks))) none opened more = absurd (subst IsSomething (sym asks.1 ∙ none) tt)

-- after 2^32 - 1 steps: more is due, or nothing more is answered, or the node is to be asked
all_steps : (mids : List State) (t : State) (paused : Bool) → 4294967294 ≤ count_due mids → IsSettled t → IsDone mids t paused
all_steps mids t paused many (inl due) = inr (inr (inr (many, due)))
all_steps mids t paused many (inr (inl ends)) = inr (inr (inl (inr ends)))
all_steps mids t paused many (inr (inr asks)) = inl asks

-- after all rounds, each but the first of which reads what is due
pub finished : (i : ℕ) (mids : List State) (t : State) (paused : Bool) → 4294967295 ≤ i → i ≤ count_due mids + 1
    → (i ≡ 0) ⊎ IsSettled t → IsDone mids t paused
finished i mids t paused all so_far (inl first) = absurd (omega (arith, all, first))
finished i mids t paused all so_far (inr rest) = all_steps mids t paused (omega (arith, all, so_far)) rest
