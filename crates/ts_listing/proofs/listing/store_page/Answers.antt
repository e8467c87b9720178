use Rattle.std.proofs.Common.{◌≡◌, ◌∙◌, ◌++◌, ◌-◌, map, take, drop, length, ap, arith}
use Rattle.ts_store.specs.Contents.{anchor_in}
use Rattle.ts_listing.specs.Listing.{anchor_rows}
use Rattle.ts_listing.proofs.Listings.{page_written}
use Rattle.ts_listing.proofs.listing.store_page.Goals as goal

pub returns : goal.returns
returns c =
    let from2 : c.saturating_sub-from.result ≡ c.args.from - length c.anchors-anchors.result.now = omega arith in
    let room2 : c.saturating_sub-room.result ≡ 64 - length c.push_anchors.new.rows = omega arith in
    let from3 : c.saturating_sub-from-2.result ≡ c.args.from - length c.anchors-anchors.result.now - length c.complete-complete.result.now = omega arith in
    let room3 : c.saturating_sub-room-2.result ≡ 64 - length c.push_crls.new.rows = omega arith in
    let window3 : c.window-3.result.now ≡ take c.saturating_sub-room-2.result (drop c.saturating_sub-from-2.result c.deltas-deltas.result.now) = c.window-3.ensures in
    page_written c.args.snapshot.now c.args.from c.total_of-total.result c.push_crls-2.new.rows (record {
      anchors = c.anchors-anchors.result.now;
      complete = c.complete-complete.result.now;
      deltas = c.deltas-deltas.result.now;
      anchors_are = c.anchors-anchors.ensures;
      complete_are = c.complete-complete.ensures;
      deltas_are = c.deltas-deltas.ensures;
      first_anchors = c.window.result.now;
      first_complete = c.window-2.result.now;
      first_deltas = c.window-3.result.now;
      row1 = c.push_anchors.new.rows;
      row2 = c.push_crls.new.rows;
      is1 = c.in_ok-push_anchors.ensures ∙ ap (λ l. l ++ anchor_rows (map anchor_in c.window.result.now)) c.empty-rows.ensures;
      is2 = c.in_ok-push_crls.ensures;
      is3 = c.in_ok-push_crls-2.ensures;
      first1 = c.window.ensures;
      first2 = c.window-2.ensures ∙ (λ i. take (room2 i) (drop (from2 i) c.complete-complete.result.now));
      first3 = window3 ∙ (λ i. take (room3 i) (drop (from3 i) c.deltas-deltas.result.now));
      total_is = c.total_of-total.ensures;
    })
