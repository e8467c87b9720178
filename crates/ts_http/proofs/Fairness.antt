-- Over every list of moves: what is written is the responses to the requests that came.
use Rattle.std.proofs.Common.{◌≡◌, ◌∙◌, refl, sym, ap, subst, subst₂, ℕ, Bool, true, false, cond, List, [], ◌∷◌, ◌++◌, map, append_assoc, inl, inr, ◌⊎◌}
use Rattle.std.proofs.lemmas.List.{append-nil}
use Rattle.std.proofs.lemmas.Grind.{flat_map-append}
use Rattle.std.specs.List.{flat_map, AllByRecursion}
use Rattle.http1.specs.declared.conn.Reading.{Reading}
use Rattle.http1.specs.declared.conn.Reading.TheVariants as Reads
use Rattle.http1.specs.declared.conn.Writing.TheVariants as Phase
use Rattle.http1.specs.declared.server.Server.{Server}
use Rattle.http1.specs.Conn.{Plan, is_read}
use Rattle.http1.specs.Framing.{method_kind}
use Rattle.http1.specs.Server.{IsClosed, is_head, new_server}
use Rattle.http1.specs.ServerTrace.{Trace}
use Rattle.ts_http.specs.Account.{AreFirst, RequestContent, Came, Answered, Left, Item, Invited}
use Rattle.ts_http.specs.Account.{IsFair, IsInOrder, IsItem, Makes, Move, Moves, Read, SentResponse}
use Rattle.ts_http.specs.Account.{To, Wrong, answers_in, asked_in, asked_of, came_in, left_in}
use Rattle.ts_http.specs.Account.{octets_in, sent_in, waiting}
use Rattle.ts_http.specs.Moves.{Answers, EndsWith, BeginsBody, FromBody, FromHead, Has, HasAnswered}
use Rattle.ts_http.specs.Moves.{HasCome, HasLeft, HasRead, HasStarved, Invites, IsNew, IsPast}
use Rattle.ts_http.specs.Moves.{IsRefused, IsSame, ReadFrom, TakesPiece, AnswersAt, came_to}
use Rattle.ts_http.specs.Moves.{ended_at, invitation, limits, manner_at, request_at}
use Rattle.ts_http.specs.Writing.{IsWritten, after_writing}
use Rattle.ts_http.specs.declared.connection.Connection.{Connection}
use Rattle.ts_http.specs.declared.connection.Stage.{Stage}
use Rattle.ts_http.specs.declared.connection.Stage.TheVariants as stages
use Rattle.ts_http.specs.declared.request.Request.{Request}
use Rattle.ts_http.proofs.ReadSteps.{read_body, read_head}
use Rattle.ts_http.proofs.Standing.{IsBetween, IsHeld, IsOver, IsWithin, Stands, StandsAt, with_request}
use Rattle.ts_http.proofs.Streams.{Firsts, are_first, firsts_came, firsts_none}

-- ---- what was written

-- no response to what is wrong
abbrev IsPlain : List Item → Type 0
IsPlain [] = Unit {0}
IsPlain (Invited ∷ items) = IsPlain items
IsPlain (To asked sent octets ∷ items) = IsPlain items
IsPlain (Wrong sent octets ∷ items) = ⊥

-- such a response comes last, and the connection has ended then
abbrev OrderAt : Stage → List Item → Type 0
OrderAt stages.Ended items = IsInOrder items
OrderAt stages.Head items = IsPlain items
OrderAt (stages.Body r) items = IsPlain items
OrderAt (stages.Whole r) items = IsPlain items
OrderAt (stages.Wrong status head) items = IsPlain items

record IsTold (gone : List ℕ) (sent : List SentResponse) (items : List Item) (c : Connection) : Type 0 where
  text : gone ++ c.out ≡ flat_map octets_in items
  each : AllByRecursion IsItem items
  order : OrderAt c.stage items
  sent_is : sent_in items ≡ sent

plain_in_order : (items : List Item) → IsPlain items → IsInOrder items
plain_in_order [] x = tt
plain_in_order (Invited ∷ items) x = plain_in_order items x
plain_in_order (To asked sent octets ∷ items) x = plain_in_order items x
plain_in_order (Wrong sent octets ∷ items) x = absurd x

in_order : (stage : Stage) (items : List Item) → OrderAt stage items → IsInOrder items
in_order stages.Ended items x = x
in_order stages.Head items x = plain_in_order items x
in_order (stages.Body r) items x = plain_in_order items x
in_order (stages.Whole r) items x = plain_in_order items x
in_order (stages.Wrong status head) items x = plain_in_order items x

plain_invited : (items : List Item) → IsPlain items → IsPlain (items ++ Invited ∷ [])
plain_invited [] x = tt
plain_invited (Invited ∷ items) x = plain_invited items x
plain_invited (To asked sent octets ∷ items) x = plain_invited items x
plain_invited (Wrong sent octets ∷ items) x = absurd x

plain_to : (items : List Item) (asked : RequestContent) (sent : SentResponse) (octets : List ℕ) → IsPlain items → IsPlain (items ++ To asked sent octets ∷ [])
plain_to [] asked sent octets x = tt
plain_to (Invited ∷ items) asked sent octets x = plain_to items asked sent octets x
plain_to (To a s o ∷ items) asked sent octets x = plain_to items asked sent octets x
plain_to (Wrong s o ∷ items) asked sent octets x = absurd x

order_wrong : (items : List Item) (sent : SentResponse) (octets : List ℕ) → IsPlain items → IsInOrder (items ++ Wrong sent octets ∷ [])
order_wrong [] sent octets x = refl
order_wrong (Invited ∷ items) sent octets x = order_wrong items sent octets x
order_wrong (To a s o ∷ items) sent octets x = order_wrong items sent octets x
order_wrong (Wrong s o ∷ items) sent octets x = absurd x

all_more : (items : List Item) (item : Item) → AllByRecursion IsItem items → IsItem item → AllByRecursion IsItem (items ++ item ∷ [])
all_more [] item x y = (y, tt)
all_more (i ∷ items) item x y = (x.0, all_more items item x.1 y)

asked_invited : (items : List Item) → asked_in (items ++ Invited ∷ []) ≡ asked_in items
asked_invited [] = refl
asked_invited (Invited ∷ items) = asked_invited items
asked_invited (To a s o ∷ items) = ap (λ (xs : List RequestContent). a ∷ xs) (asked_invited items)
asked_invited (Wrong s o ∷ items) = asked_invited items

asked_to : (items : List Item) (asked : RequestContent) (sent : SentResponse) (octets : List ℕ) → asked_in (items ++ To asked sent octets ∷ []) ≡ asked_in items ++ asked ∷ []
asked_to [] asked sent octets = refl
asked_to (Invited ∷ items) asked sent octets = asked_to items asked sent octets
asked_to (To a s o ∷ items) asked sent octets = ap (λ (xs : List RequestContent). a ∷ xs) (asked_to items asked sent octets)
asked_to (Wrong s o ∷ items) asked sent octets = asked_to items asked sent octets

asked_wrong : (items : List Item) (sent : SentResponse) (octets : List ℕ) → asked_in (items ++ Wrong sent octets ∷ []) ≡ asked_in items
asked_wrong [] sent octets = refl
asked_wrong (Invited ∷ items) sent octets = asked_wrong items sent octets
asked_wrong (To a s o ∷ items) sent octets = ap (λ (xs : List RequestContent). a ∷ xs) (asked_wrong items sent octets)
asked_wrong (Wrong s o ∷ items) sent octets = asked_wrong items sent octets

sent_invited : (items : List Item) → sent_in (items ++ Invited ∷ []) ≡ sent_in items
sent_invited [] = refl
sent_invited (Invited ∷ items) = sent_invited items
sent_invited (To a s o ∷ items) = ap (λ (xs : List SentResponse). s ∷ xs) (sent_invited items)
sent_invited (Wrong s o ∷ items) = ap (λ (xs : List SentResponse). s ∷ xs) (sent_invited items)

sent_to : (items : List Item) (asked : RequestContent) (sent : SentResponse) (octets : List ℕ) → sent_in (items ++ To asked sent octets ∷ []) ≡ sent_in items ++ sent ∷ []
sent_to [] asked sent octets = refl
sent_to (Invited ∷ items) asked sent octets = sent_to items asked sent octets
sent_to (To a s o ∷ items) asked sent octets = ap (λ (xs : List SentResponse). s ∷ xs) (sent_to items asked sent octets)
sent_to (Wrong s o ∷ items) asked sent octets = ap (λ (xs : List SentResponse). s ∷ xs) (sent_to items asked sent octets)

sent_wrong : (items : List Item) (sent : SentResponse) (octets : List ℕ) → sent_in (items ++ Wrong sent octets ∷ []) ≡ sent_in items ++ sent ∷ []
sent_wrong [] sent octets = refl
sent_wrong (Invited ∷ items) sent octets = sent_wrong items sent octets
sent_wrong (To a s o ∷ items) sent octets = ap (λ (xs : List SentResponse). s ∷ xs) (sent_wrong items sent octets)
sent_wrong (Wrong s o ∷ items) sent octets = ap (λ (xs : List SentResponse). s ∷ xs) (sent_wrong items sent octets)

-- one item more was written
text_more : (gone out more : List ℕ) (items : List Item) (item : Item) → gone
    ++ out ≡ flat_map octets_in items → more ≡ octets_in item → gone
    ++ (out ++ more) ≡ flat_map octets_in (items ++ item ∷ [])
text_more gone out more items item text is =
    sym (append_assoc gone out more) ∙ (ap (λ (o : List ℕ). o ++ more) text ∙ (ap (λ (o : List ℕ). flat_map octets_in items ++ o) (is ∙ sym (append-nil (octets_in item)))
    ∙ sym (flat_map-append octets_in items (item ∷ []))))

-- ---- all that is known

record Known (came gone : List ℕ) (sent : List SentResponse) (items : List Item) (c : Connection) : Type 0 where
  told : IsTold gone sent items c
  stands : Stands came (asked_in items) c

-- some items are known of
abbrev Knows : List ℕ → List ℕ → List SentResponse → Connection → Type 0
Knows came gone sent c = (items : List Item) × Known came gone sent items c

knows_new : (c : Connection) → IsNew c → Knows [] [] [] c
knows_new c new = (
  [],
  record {
    told = record {
      text = new.out_is;
      each = tt;
      order = subst (λ (g : Stage). OrderAt g []) (sym new.stage_is) tt;
      sent_is = refl;
    };
    stands = subst (λ (g : Stage). StandsAt g [] [] c.server c.input) (sym new.stage_is)
        (record { server_is = new.server_is; firsts = λ more. subst (λ (o : List ℕ). Firsts [] [] o) (sym new.input_is) firsts_none more });
  },
)

-- ---- the moves, one by one

-- the piece is behind what is held; a connection that has ended drops it
came_within : (came : List ℕ) (done : List RequestContent) (r : Request) (server : Server)
    (input piece : List ℕ) → IsWithin came done r server input
    → IsWithin (came ++ piece) done r server (input ++ piece)
came_within came done r server input piece x = record {
  decoder = x.decoder;
  reading_is = x.reading_is;
  writing_is = x.writing_is;
  limits_are = x.limits_are;
  from = x.from ++ piece;
  before = firsts_came done came x.from piece x.before;
  minor = x.minor;
  goes = λ more later rest trace.
      subst (λ (o : List ℕ). Trace (new_server limits) o (with_request x.minor r later) rest) (sym (append_assoc x.from piece more))
      (x.goes (piece ++ more) later rest (subst (λ (o : List ℕ). Trace server o later rest) (append_assoc input piece more) trace));
}

came_at : (stage : Stage) (came : List ℕ) (done : List RequestContent) (server : Server)
    (input piece : List ℕ) → StandsAt stage came done server input
    → StandsAt stage (came ++ piece) done server (came_to (ended_at stage) input piece)
came_at stages.Head came done server input piece x = record { server_is = x.server_is; firsts = firsts_came done came input piece x.firsts }
came_at (stages.Body r) came done server input piece x = came_within came done r server input piece x
came_at (stages.Whole r) came done server input piece x = record {
  reading_is = x.reading_is;
  writing_is = x.writing_is;
  limits_are = x.limits_are;
  firsts = firsts_came (done ++ asked_of r ∷ []) came input piece x.firsts;
}
came_at (stages.Wrong status head) came done server input piece x = (x.0 ++ piece, firsts_came done came x.0 piece x.1)
came_at stages.Ended came done server input piece x = (x.0 ++ piece, firsts_came done came x.0 piece x.1)

stands_to : (came : List ℕ) (done : List RequestContent) (b : Connection) (server : Server)
    (stage : Stage) (input out : List ℕ) → Has b server stage input out
    → StandsAt stage came done server input → Stands came done b
stands_to came done b server stage input out has x =
    subst₂ (λ (u : Server) (o : List ℕ). StandsAt b.stage came done u o) (sym has.server_is) (sym has.input_is) (subst (λ (g : Stage). StandsAt g came done server input) (sym has.stage_is) x)

knows_came : (came gone : List ℕ) (sent : List SentResponse) (a b : Connection) (piece : List ℕ) → Knows came gone sent a → HasCome a b piece → Knows (came ++ piece) gone sent b
knows_came came gone sent a b piece x has = (
  x.0,
  record {
    told = record {
      text = ap (λ (o : List ℕ). gone ++ o) has.out_is ∙ x.1.told.text;
      each = x.1.told.each;
      order = subst (λ (g : Stage). OrderAt g x.0) (sym has.stage_is) x.1.told.order;
      sent_is = x.1.told.sent_is;
    };
    stands = stands_to (came ++ piece) (asked_in x.0) b a.server a.stage _ a.out has (came_at a.stage came (asked_in x.0) a.server a.input piece x.1.stands);
  },
)

knows_left : (came gone : List ℕ) (sent : List SentResponse) (a b : Connection) (octets : List ℕ) → Knows came gone sent a → HasLeft a b octets → Knows came (gone ++ octets) sent b
knows_left came gone sent a b octets x has = (
  x.0,
  record {
    told = record {
      text = append_assoc gone octets b.out ∙ (ap (λ (o : List ℕ). gone ++ o) (sym has.out_is) ∙ x.1.told.text);
      each = x.1.told.each;
      order = subst (λ (g : Stage). OrderAt g x.0) (sym has.stage_is) x.1.told.order;
      sent_is = x.1.told.sent_is;
    };
    stands = stands_to came (asked_in x.0) b a.server a.stage a.input b.out (record { server_is = has.server_is; stage_is = has.stage_is; input_is = has.input_is; out_is = refl }) x.1.stands;
  },
)

-- ---- a read writes nothing, or that a body may come

-- what a read leaves of what was told
reads_plain : (came gone : List ℕ) (sent : List SentResponse) (items : List Item) (a b : Connection)
    → IsTold gone sent items a → IsPlain items → b.out ≡ a.out
    → ((g : Stage) → b.stage ≡ g → OrderAt g items) → Stands came (asked_in items) b
    → Knows came gone sent b
reads_plain came gone sent items a b told plain out order stands = (
  items,
  record {
    told = record {
      text = ap (λ (o : List ℕ). gone ++ o) out ∙ told.text;
      each = told.each;
      order = order b.stage refl;
      sent_is = told.sent_is;
    };
    stands = stands;
  },
)

plain_at : (stage : Stage) (items : List Item) → IsPlain items → OrderAt stage items
plain_at stages.Ended items x = plain_in_order items x
plain_at stages.Head items x = x
plain_at (stages.Body r) items x = x
plain_at (stages.Whole r) items x = x
plain_at (stages.Wrong status head) items x = x

quiet : (came gone : List ℕ) (sent : List SentResponse) (items : List Item) (a b : Connection)
    → IsTold gone sent items a → IsPlain items → b.out ≡ a.out → Stands came (asked_in items) b
    → Knows came gone sent b
quiet came gone sent items a b told plain out stands = reads_plain came gone sent items a b told plain out (λ g is. plain_at g items plain) stands

told_invited : (came gone : List ℕ) (sent : List SentResponse) (items : List Item)
    (a b : Connection) → IsTold gone sent items a → IsPlain items → b.out ≡ a.out ++ invitation
    → Stands came (asked_in items) b → Knows came gone sent b
told_invited came gone sent items a b told plain out stands = (
  items ++ Invited ∷ [],
  record {
    told = record {
      text = ap (λ (o : List ℕ). gone ++ o) out ∙ text_more gone a.out invitation items Invited told.text refl;
      each = all_more items Invited told.each tt;
      order = plain_at b.stage (items ++ Invited ∷ []) (plain_invited items plain);
      sent_is = sent_invited items ∙ told.sent_is;
    };
    stands = subst (λ (xs : List RequestContent). Stands came xs b) (sym (asked_invited items)) stands;
  },
)

begins_told : (came gone : List ℕ) (sent : List SentResponse) (items : List Item)
    (a mid b : Connection) (r : Request) (server : Server) (count : ℕ) → IsTold gone sent items a
    → IsPlain items → IsPast a.input a.out server count mid → BeginsBody mid r b
    → Stands came (asked_in items) b → Knows came gone sent b
begins_told came gone sent items a mid b r server count told plain past (inl z) stands = invites_told z.2
  where
    invites_told : Invites mid z.0 z.1 → Knows came gone sent b
    invites_told (inl y) = quiet came gone sent items a b told plain (z.3.out_is ∙ (y.2 ∙ past.out_is)) stands
    invites_told (inr y) = told_invited came gone sent items a b told plain (z.3.out_is ∙ (y.2 ∙ ap (λ (o : List ℕ). o ++ invitation) past.out_is)) stands
begins_told came gone sent items a mid b r server count told plain past (inr z) stands = quiet came gone sent items a b told plain (z.2.out_is ∙ past.out_is) stands

head_told : (came gone : List ℕ) (sent : List SentResponse) (items : List Item) (a b : Connection)
    → IsTold gone sent items a → IsPlain items → FromHead a b → Stands came (asked_in items) b
    → Knows came gone sent b
head_told came gone sent items a b told plain (inl y) stands = begins_told came gone sent items a y.4 b y.0 y.1 y.2 told plain y.5 y.6 stands
head_told came gone sent items a b told plain (inr (inl y)) stands = quiet came gone sent items a b told plain y.3.out_is stands
head_told came gone sent items a b told plain (inr (inr y)) stands = quiet came gone sent items a b told plain y.3.out_is stands

takes_out : (mid b : Connection) (r : Request) (piece : List ℕ) → TakesPiece mid r piece b → b.out ≡ mid.out
takes_out mid b r piece (inl z) = z.2.out_is
takes_out mid b r piece (inr z) = z.1.out_is

body_out : (r : Request) (a b : Connection) → FromBody r a b → b.out ≡ a.out
body_out r a b (inl y) = takes_out y.4 b r y.0 y.6 ∙ y.5.out_is
body_out r a b (inr (inl y)) = y.3.out_is
body_out r a b (inr (inr (inl y))) = y.3.out_is
body_out r a b (inr (inr (inr y))) = y.3.out_is

same_told : (came gone : List ℕ) (sent : List SentResponse) (items : List Item) (a b : Connection)
    (stage : Stage) → IsTold gone sent items a → a.stage ≡ stage
    → StandsAt stage came (asked_in items) a.server a.input → IsSame a b → Knows came gone sent b
same_told came gone sent items a b stage told is x y = (
  items,
  record {
    told = record {
      text = ap (λ (o : List ℕ). gone ++ o) y.out_is ∙ told.text;
      each = told.each;
      order = subst (λ (g : Stage). OrderAt g items) (sym y.stage_is) told.order;
      sent_is = told.sent_is;
    };
    stands = stands_to came (asked_in items) b a.server a.stage a.input a.out y (subst (λ (g : Stage). StandsAt g came (asked_in items) a.server a.input) (sym is) x);
  },
)

read_at : (stage : Stage) (came gone : List ℕ) (sent : List SentResponse) (items : List Item)
    (a b : Connection) → IsTold gone sent items a → a.stage ≡ stage
    → StandsAt stage came (asked_in items) a.server a.input → ReadFrom stage a b
    → Knows came gone sent b
read_at stages.Head came gone sent items a b told is x y =
    head_told came gone sent items a b told (subst (λ (g : Stage). OrderAt g items) is told.order) y (read_head came (asked_in items) a b x y)
read_at (stages.Body r) came gone sent items a b told is x y =
    quiet came gone sent items a b told (subst (λ (g : Stage). OrderAt g items) is told.order) (body_out r a b y) (read_body came (asked_in items) r a b x y)
read_at (stages.Whole r) came gone sent items a b told is x y = same_told came gone sent items a b (stages.Whole r) told is x y
read_at (stages.Wrong status head) came gone sent items a b told is x y = same_told came gone sent items a b (stages.Wrong status head) told is x y
read_at stages.Ended came gone sent items a b told is x y = same_told came gone sent items a b stages.Ended told is x y

knows_read : (came gone : List ℕ) (sent : List SentResponse) (a b : Connection) → Knows came gone sent a → HasRead a b → Knows came gone sent b
knows_read came gone sent a b x y = read_at a.stage came gone sent x.0 a b x.1.told refl x.1.stands y

-- ---- a response

-- the next request is read, or the connection is closed
after_answer : (keeps : Bool) (read : Bool) (fresh other closed : Server) → read ≡ true
    → IsClosed closed → ¬ (IsClosed (cond keeps (cond read fresh other) closed))
    → cond keeps (cond read fresh other) closed ≡ fresh
after_answer true read fresh other closed is shut not_shut = ap (λ (r : Bool). cond r fresh other) is
after_answer false read fresh other closed is shut not_shut = absurd (not_shut shut)

goes_on : (s t : Server) (plan : Plan) → s.reading ≡ Reads.Done → s.limits ≡ limits → t ≡ after_writing s plan → ¬ (IsClosed t) → t ≡ new_server limits
goes_on s t plan is limited same unclosed =
    let whole = after_answer plan.keep_alive (is_read s.reading) (new_server s.limits) _ _ (ap is_read is) refl (subst (λ (u : Server). ¬ (IsClosed u)) same unclosed) in
    same ∙ (whole ∙ ap new_server limited)

to_told : (came gone : List ℕ) (sent : List SentResponse) (items : List Item) (a b : Connection)
    (r : Request) (one : SentResponse) → IsTold gone sent items a → IsPlain items
    → IsHeld came (asked_in items) r a.server a.input
    → Answers a b one.status one.phrase one.headers one.body (is_head (method_kind r.method.items)) → Knows came gone (sent ++ one ∷ []) b
to_told came gone sent items a b r one told plain held ans =
    let asked = asked_of r in
    let w = ans.writes in
    let item = To asked one w.octets in
    let more = items ++ item ∷ [] in
    let firsts : Firsts (asked_in more) came b.input =
    subst₂ (λ (xs : List RequestContent) (o : List ℕ). Firsts xs came o) (sym (asked_to items asked one w.octets)) (sym w.input_is) held.firsts in (
      more,
      record {
        told = record {
          text = ap (λ (o : List ℕ). gone ++ o) w.out_is ∙ text_more gone a.out w.octets items item told.text refl;
          each = all_more items item told.each (a.server, b.server, w.written);
          order = plain_at b.stage more (plain_to items asked one w.octets plain);
          sent_is = sent_to items asked one w.octets ∙ ap (λ (xs : List SentResponse). xs ++ one ∷ []) told.sent_is;
        };
        stands = next_stands ans.then firsts;
      },
    )
  where
    next_stands : ((b.stage ≡ stages.Ended) × IsClosed b.server)
        ⊎ ((b.stage ≡ stages.Head) × ¬ (IsClosed b.server))
        → Firsts (asked_in (items ++ To (asked_of r) one ans.writes.octets ∷ [])) came b.input
        → Stands came (asked_in (items ++ To (asked_of r) one ans.writes.octets ∷ [])) b
    next_stands (inl x) f = subst (λ (g : Stage). StandsAt g came (asked_in (items ++ To (asked_of r) one ans.writes.octets ∷ [])) b.server b.input) (sym x.0) (b.input, f)
    next_stands (inr x) f =
        subst (λ (g : Stage). StandsAt g came (asked_in (items ++ To (asked_of r) one ans.writes.octets ∷ [])) b.server b.input) (sym x.0)
        (record { server_is = goes_on a.server b.server ans.writes.written.plan held.reading_is held.limits_are ans.writes.written.after x.1; firsts = f })

wrong_told : (came gone : List ℕ) (sent : List SentResponse) (items : List Item) (a b : Connection)
    (head : Bool) (one : SentResponse) → IsTold gone sent items a → IsPlain items
    → IsOver came (asked_in items)
    → EndsWith a b one.status one.phrase one.headers one.body head → Knows came gone (sent ++ one ∷ []) b
wrong_told came gone sent items a b head one told plain over ans =
    let w = ans.writes in
    let item = Wrong one w.octets in
    let more = items ++ item ∷ [] in (
      more,
      record {
        told = record {
          text = ap (λ (o : List ℕ). gone ++ o) w.out_is ∙ text_more gone a.out w.octets items item told.text refl;
          each = all_more items item told.each (head, a.server, b.server, w.written);
          order = subst (λ (g : Stage). OrderAt g more) (sym ans.ended) (order_wrong items one w.octets plain);
          sent_is = sent_wrong items one w.octets ∙ ap (λ (xs : List SentResponse). xs ++ one ∷ []) told.sent_is;
        };
        stands = subst (λ (g : Stage). StandsAt g came (asked_in more) b.server b.input) (sym ans.ended)
            (over.0, subst (λ (xs : List RequestContent). Firsts xs came over.0) (sym (asked_wrong items one w.octets)) over.1);
      },
    )

answer_at : (stage : Stage) (came gone : List ℕ) (sent : List SentResponse) (items : List Item)
    (a b : Connection) (one : SentResponse) → IsTold gone sent items a → a.stage ≡ stage
    → StandsAt stage came (asked_in items) a.server a.input
    → AnswersAt (manner_at stage) a b one.status one.phrase one.headers one.body → Knows came gone (sent ++ one ∷ []) b
answer_at stages.Head came gone sent items a b one told is x y = absurd y
answer_at (stages.Body r) came gone sent items a b one told is x y = absurd y
answer_at (stages.Whole r) came gone sent items a b one told is x y = to_told came gone sent items a b r one told (subst (λ (g : Stage). OrderAt g items) is told.order) x y
answer_at (stages.Wrong status head) came gone sent items a b one told is x y = wrong_told came gone sent items a b head one told (subst (λ (g : Stage). OrderAt g items) is told.order) x y
answer_at stages.Ended came gone sent items a b one told is x y = absurd y

knows_answer : (came gone : List ℕ) (sent : List SentResponse) (a b : Connection)
    (one : SentResponse) → Knows came gone sent a
    → HasAnswered a b one.status one.phrase one.headers one.body
    → Knows came gone (sent ++ one ∷ []) b
knows_answer came gone sent a b one x y = answer_at a.stage came gone sent x.0 a b one x.1.told refl x.1.stands y

-- ---- all moves

knows_all : (moves : List Move) (came gone : List ℕ) (sent : List SentResponse) (a b : Connection)
    → Knows came gone sent a → Moves a moves b
    → Knows (came ++ came_in moves) (gone ++ left_in moves) (sent ++ answers_in moves) b
knows_all [] came gone sent a b x y =
    subst (λ (xs : List SentResponse). Knows (came ++ []) (gone ++ []) xs b) (sym (append-nil sent))
    (subst₂ (λ (c g : List ℕ). Knows c g sent b) (sym (append-nil came)) (sym (append-nil gone)) (subst (λ (c : Connection). Knows came gone sent c) y x))
knows_all (Came piece ∷ moves) came gone sent a b x y =
    let rest = knows_all moves (came ++ piece) gone sent y.0 b (knows_came came gone sent a y.0 piece x y.1) y.2 in
    subst (λ (c : List ℕ). Knows c (gone ++ left_in moves) (sent ++ answers_in moves) b) (append_assoc came piece (came_in moves)) rest
knows_all (Read ∷ moves) came gone sent a b x y = knows_all moves came gone sent y.0 b (knows_read came gone sent a y.0 x y.1) y.2
knows_all (Answered one ∷ moves) came gone sent a b x y =
    let rest = knows_all moves came gone (sent ++ one ∷ []) y.0 b (knows_answer came gone sent a y.0 one x y.1) y.2 in
    subst (λ (xs : List SentResponse). Knows (came ++ came_in moves) (gone ++ left_in moves) xs b) (append_assoc sent (one ∷ []) (answers_in moves)) rest
knows_all (Left octets ∷ moves) came gone sent a b x y =
    let rest = knows_all moves came (gone ++ octets) sent y.0 b (knows_left came gone sent a y.0 octets x y.1) y.2 in
    subst (λ (g : List ℕ). Knows (came ++ came_in moves) g (sent ++ answers_in moves) b) (append_assoc gone octets (left_in moves)) rest

first_at : (stage : Stage) (came : List ℕ) (done : List RequestContent) (server : Server) (input : List ℕ) → StandsAt stage came done server input → AreFirst (done ++ waiting (request_at stage)) came
first_at stages.Head came done server input x = subst (λ (xs : List RequestContent). AreFirst xs came) (sym (append-nil done)) (are_first done came input x.firsts)
first_at (stages.Body r) came done server input x = subst (λ (xs : List RequestContent). AreFirst xs came) (sym (append-nil done)) (are_first done came x.from x.before)
first_at (stages.Whole r) came done server input x = are_first (done ++ asked_of r ∷ []) came input x.firsts
first_at (stages.Wrong status head) came done server input x = subst (λ (xs : List RequestContent). AreFirst xs came) (sym (append-nil done)) (are_first done came x.0 x.1)
first_at stages.Ended came done server input x = subst (λ (xs : List RequestContent). AreFirst xs came) (sym (append-nil done)) (are_first done came x.0 x.1)

pub fair : (a b : Connection) (moves : List Move) → IsNew a → Moves a moves b → IsFair moves b
fair a b moves new made =
    let k = knows_all moves [] [] [] a b (knows_new a new) made in
    record {
      items = k.0;
      text = k.1.told.text;
      each = k.1.told.each;
      in_order = in_order b.stage k.0 k.1.told.order;
      sent = k.1.told.sent_is;
      first = first_at b.stage (came_in moves) (asked_in k.0) b.server b.input k.1.stands;
    }
