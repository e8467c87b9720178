-- The text of a report.
use Rattle.std.specs.Prelude.{◌≡◌, ℕ, true, List, ◌++◌, map, length, codes}
use Rattle.std.specs.Fmt.{decimal}
use Rattle.std.specs.List.{flat_map, list_all}
use Rattle.ts_reason.specs.Printed.{reason_text}
use Rattle.ts_reason.specs.View.{reason_in}
use Rattle.ts_line.specs.Lines.{with_line_feed, is_printable, printable}
use Rattle.ts_line.specs.Names.{dotted_form}
use Rattle.ts_verify.specs.declared.report.Finding.{Finding}
use Rattle.ts_verify.specs.declared.report.Finding.TheVariants.{Valid, Invalid, OtherHost}
use Rattle.ts_verify.specs.declared.report.Report.{Report}
use Rattle.ts_judge.specs.Explained.{Explains}

-- policies, each behind a space
abbrev pub policies_text : List (List ℕ) → List ℕ
policies_text policies = flat_map (λ policy. codes " " ++ dotted_form policy) policies

-- the words of a finding on a chain of this length: `valid` and the policies, or `invalid`, the
-- place of a certificate and the reason. `Host` is that of a leaf which is for another host
abbrev pub words_of : ℕ → Finding → List ℕ
words_of count (Valid policies) =
    codes "valid" ++ policies_text (map (λ p. p.content.now) policies.items)
words_of count (Invalid position reason) =
    codes "invalid " ++ decimal position ++ codes " " ++ reason_text (reason_in reason)
words_of count OtherHost = codes "invalid " ++ decimal count ++ codes " Host"

-- two lines of printable characters: the words, and what they mean
pub record IsText (report : Report) (text : List ℕ) : Type 0 where
  pub second : List ℕ
  pub text_is : text ≡ with_line_feed (printable (words_of (length report.chain.items)
      report.finding)) ++ with_line_feed second
  pub explains : Explains report report.finding second
  pub printable : list_all is_printable second ≡ true
