-- Where nothing but times has changed, the same move was made.
use Rattle.std.proofs.Common.{◌≡◌, ◌∙◌, ℕ, List, Bool, ap, inl, inr}
use Rattle.http1.specs.declared.server.Server.{Server}
use Rattle.ts_http.specs.Moves.{BeginsBody, FromBody, FromHead, Has, HasAdded, HasBegun, HasRead, IsSame, ReadFrom, TakesPiece, IsRefused, HasStarved}
use Rattle.ts_http.specs.Reading.{FindsMore, Tells, is_due}
use Rattle.httparse.specs.declared.spans.RequestSpans.{RequestSpans}
use Rattle.http1.specs.declared.conn.Event.{Event}
use Rattle.ts_http.specs.declared.connection.Connection.{Connection}
use Rattle.ts_http.specs.declared.connection.Stage.{Stage}
use Rattle.ts_http.specs.declared.connection.Stage.TheVariants as stages
use Rattle.ts_http.specs.declared.reading.Progress.{Progress}
use Rattle.ts_http.specs.declared.reading.Progress.TheVariants.{Goes, Waits, Stops}
use Rattle.ts_http.specs.declared.request.Request.{Request}

same_has : (m b : Connection) (server : Server) (stage : Stage) (input out : List ℕ) → Has m server stage input out → IsSame m b → Has b server stage input out
same_has m b server stage input out has same = record {
  server_is = same.server_is ∙ has.server_is;
  stage_is = same.stage_is ∙ has.stage_is;
  input_is = same.input_is ∙ has.input_is;
  out_is = same.out_is ∙ has.out_is;
}

same_begins : (a : Connection) (r : Request) (m b : Connection) → BeginsBody a r m → IsSame m b → BeginsBody a r b
same_begins a r m b (inl x) same = inl (x.0, x.1, x.2, same_has m b _ _ _ _ x.3 same, x.4)
same_begins a r m b (inr x) same = inr (x.0, x.1, same_has m b _ _ _ _ x.2 same)

same_takes : (a : Connection) (r : Request) (piece : List ℕ) (m b : Connection) → TakesPiece a r piece m → IsSame m b → TakesPiece a r piece b
same_takes a r piece m b (inl x) same = inl (x.0, x.1, same_has m b _ _ _ _ x.2 same, x.3)
same_takes a r piece m b (inr x) same = inr (x.0, same_has m b _ _ _ _ x.1 same)

same_refused : (may : Event RequestSpans → Bool) (a : Connection) (head : Bool) (m b : Connection)
    → IsRefused may a head m → IsSame m b → IsRefused may a head b
same_refused may a head m b x same = (x.0, x.1, x.2, same_has m b _ _ _ _ x.3 same)

same_starved : (a : Connection) (stage : Stage) (m b : Connection) → HasStarved a stage m → IsSame m b → HasStarved a stage b
same_starved a stage m b x same = (x.0, x.1, x.2, same_has m b _ _ _ _ x.3 same)

same_begun : (a m b : Connection) → HasBegun a m → IsSame m b → HasBegun a b
same_begun a m b x same = (x.0, x.1, x.2, x.3, x.4, x.5, same_begins x.4 x.0 m b x.6 same)

same_added : (r : Request) (a m b : Connection) → HasAdded r a m → IsSame m b → HasAdded r a b
same_added r a m b x same = (x.0, x.1, x.2, x.3, x.4, x.5, same_takes x.4 r x.0 m b x.6 same)

same_head : (a m b : Connection) → FromHead a m → IsSame m b → FromHead a b
same_head a m b (inl x) same = inl (same_begun a m b x same)
same_head a m b (inr (inl x)) same = inr (inl (same_starved a stages.Head m b x same))
same_head a m b (inr (inr x)) same = inr (inr (same_refused _ a _ m b x same))

same_body : (r : Request) (a m b : Connection) → FromBody r a m → IsSame m b → FromBody r a b
same_body r a m b (inl x) same = inl (same_added r a m b x same)
same_body r a m b (inr (inl x)) same = inr (inl (x.0, x.1, x.2, same_has m b _ _ _ _ x.3 same))
same_body r a m b (inr (inr (inl x))) same = inr (inr (inl (same_starved a (stages.Body r) m b x same)))
same_body r a m b (inr (inr (inr x))) same = inr (inr (inr (same_refused _ a _ m b x same)))

same_from : (stage : Stage) (a m b : Connection) → ReadFrom stage a m → IsSame m b → ReadFrom stage a b
same_from stages.Head a m b x same = same_head a m b x same
same_from (stages.Body r) a m b x same = same_body r a m b x same
same_from (stages.Whole r) a m b x same = same_has m b _ _ _ _ x same
same_from (stages.Wrong status head) a m b x same = same_has m b _ _ _ _ x same
same_from stages.Ended a m b x same = same_has m b _ _ _ _ x same

pub same_read : (a m b : Connection) → HasRead a m → IsSame m b → HasRead a b
same_read a m b x same = same_from a.stage a m b x same

same_more : (stage : Stage) (a m b : Connection) → FindsMore stage a m → IsSame m b → FindsMore stage a b
same_more stages.Head a m b x same = same_begun a m b x same
same_more (stages.Body r) a m b x same = same_added r a m b x same
same_more (stages.Whole r) a m b x same = absurd x
same_more (stages.Wrong status head) a m b x same = absurd x
same_more stages.Ended a m b x same = absurd x

pub same_told : (stage : Stage) (a m b : Connection) (told : Progress) → Tells stage a m told → IsSame m b → Tells stage a b told
same_told stage a m b Goes x same = (same_more stage a m b x.0 same, ap is_due same.stage_is ∙ x.1)
same_told stage a m b Waits x same = (x.0, same_starved a stage m b x.1 same)
same_told stage a m b Stops x same = ap is_due same.stage_is ∙ x
