-- How pages are asked for, one after another.
use Rattle.std.specs.Prelude.{◌+◌, ◌==◌, ◌&&◌, ℕ, zero, suc, Bool, not, nat_lt, min, List, [], ◌++◌}
use Rattle.std.specs.Prelude.{length, if◌then◌else◌}
use Rattle.ts_listing.specs.Page.{page, rows_in}
use Rattle.ts_question.specs.Question.{StoreQuestion, plain_terms}
use Rattle.ts_question.specs.declared.question.Target.{Target}
use Rattle.ts_question.specs.declared.question.Target.TheVariants as target
use Rattle.ts_exchange.specs.declared.walk.PageWalk.{PageWalk}
use Rattle.ts_exchange.specs.declared.walk.Rows.{Rows}
use Rattle.ts_exchange.specs.declared.walk.Rows.TheVariants.{Store, Log}

abbrev pub target_of : Rows → ℕ → Target
target_of Store from = target.Store from
target_of Log from = target.Log from

-- of the terms k alone counts
abbrev pub question_of : PageWalk → StoreQuestion
question_of w = record { terms = plain_terms w.k; target = target_of w.rows w.from }

-- the next page begins behind the rows of this one
abbrev pub next_from : ℕ → ℕ → ℕ
next_from from count = min (from + count) 4294967295

-- there are more rows: the page had some, and there are others behind them
abbrev pub goes_on : ℕ → ℕ → ℕ → Bool
goes_on from total count = not (count == 0) && nat_lt from total

-- ---- a walk over the pages of a node that has these rows

abbrev pub behind : ℕ → List (List ℕ) → ℕ
behind from rows = next_from from (length (rows_in (page from rows)))

abbrev pub has_more : ℕ → List (List ℕ) → Bool
has_more from rows = goes_on (behind from rows) (min (length rows) 4294967295)
    (length (rows_in (page from rows)))

-- the rows of the pages that are asked for, at most so many, up to the last one
unfoldable pub walked : ℕ → ℕ → List (List ℕ) → List (List ℕ)
walked zero from rows = []
walked (suc pages) from rows = rows_in (page from rows)
    ++ (if has_more from rows then walked pages (behind from rows) rows else [])
