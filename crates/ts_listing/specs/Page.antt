-- A page of rows.
use Rattle.std.specs.Prelude.{ℕ, zero, suc, ◌+◌, List, [], ◌++◌, length, take, drop, min}
use Rattle.ts_question.specs.declared.reply.Reply.{Reply}
use Rattle.ts_question.specs.declared.reply.Reply.TheVariants.{Page}

-- how many rows there are, and the 64 after so many of them, or those that are left
abbrev pub page : ℕ → List (List ℕ) → Reply
page from rows = Page (min (length rows) 4294967295) (take 64 (drop from rows))

-- the rows of a page
abbrev pub rows_in : Reply → List (List ℕ)
rows_in (Page total rows) = rows
rows_in other = []

-- those of so many pages, each after the rows of the one before it
unfoldable pub join_pages : ℕ → ℕ → List (List ℕ) → List (List ℕ)
join_pages zero from rows = []
join_pages (suc n) from rows = rows_in (page from rows) ++ join_pages n (from + 64) rows
