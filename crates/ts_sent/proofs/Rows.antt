-- The anchor of a row.
use Rattle.std.proofs.Common.{◌≡◌, ℕ, List, ap, Some}
use Rattle.ts_name.specs.Canon.{Attr}
use Rattle.ts_question.specs.Rows.{AnchorFits, AnchorLine, anchor_encoding}
use Rattle.ts_sent.specs.Sent.{IsAbove, above_by}

-- a row that reads as an anchor's is that of no other
pub is_above : (issuers : List (List (List Attr))) (row : List ℕ) (line : AnchorLine)
    → AnchorFits line × (row ≡ anchor_encoding line)
    → ((other : AnchorLine) → AnchorFits other → row ≡ anchor_encoding other → Some line ≡ Some other)
    → IsAbove issuers row (above_by issuers line)
is_above issuers row line is only = record {
  anchor = λ other fits e. ap (above_by issuers) (same (only other fits e));
  other = λ none. absurd (none line is.0 is.1);
}
  where
    same : {a b : AnchorLine} → Some a ≡ Some b → a ≡ b
    same e = cc
