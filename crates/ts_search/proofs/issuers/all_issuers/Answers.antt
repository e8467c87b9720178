use Rattle.std.proofs.Common.{ℕ, length, map, ap, ◌∙◌, ◌≡◌, arith}
use Rattle.std.specs.List.{range_with_len}
use Rattle.ts_cert.specs.CertView.{cert_in}
use Rattle.ts_search.specs.Candidates.{issues}
use Rattle.ts_search.specs.inside.Levels.{issuers}
use Rattle.ts_search.proofs.Rows.{rows_made, one_more_row}
use Rattle.ts_search.proofs.issuers.all_issuers.Goals as goal

pub loop-place-preserved : goal.loop-place-preserved
loop-place-preserved c =
    let f = issuers (issues (map cert_in c.args.certificates.now)) (length c.args.certificates.now) in
    one_more_row (λ row. row.items) f c.loop-place.place c.loop-place.rows.items
    c.push.new.self.items c.in_ok-issuers_of.field-0 c.loop-place.invariant
    c.in_ok-push.ensures.items c.in_ok-issuers_of.ensures

pub returns : goal.returns
returns c =
    let n = length c.args.certificates.now in
    let f = issues (map cert_in c.args.certificates.now) in
    let end : c.loop-place.place ≡ n = omega (arith, c.loop-place-test.false, c.loop-place.auto.place-end) in
    rows_made f n (map (λ row. row.items) c.loop-place.rows.items) (c.loop-place.invariant ∙ ap (λ (k : ℕ). map (issuers f n) (range_with_len 0 k)) end)
