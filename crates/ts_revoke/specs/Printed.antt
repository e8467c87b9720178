-- What is printed of a doubt about a CRL.
use Rattle.std.specs.Prelude.{ℕ, List, codes}
use Rattle.ts_revoke.specs.declared.doubt.Doubt.{Doubt}
use Rattle.ts_revoke.specs.declared.doubt.Doubt.TheVariants as doubts

abbrev pub doubt_text : Doubt → List ℕ
doubt_text doubts.NoIssuer =
    codes "no --issuer has its issuer's name and may sign CRLs (6.3.3 (f))"
doubt_text doubts.Signature =
    codes "its signature is not good under the key of --issuer (6.3.3 (g))"
doubt_text doubts.NotYet = codes "its thisUpdate is yet to come (5.1.2.4)"
doubt_text doubts.Expired = codes "its nextUpdate is past (5.1.2.5)"
