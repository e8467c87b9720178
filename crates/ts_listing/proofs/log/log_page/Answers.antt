use Rattle.std.proofs.Common.{◌∙◌, ap, map, sym}
use Rattle.std.proofs.lemmas.List.{length-map}
use Rattle.ts_question.specs.Rows.{command_encoding}
use Rattle.ts_question.specs.declared.reply.Reply.TheVariants.{Page}
use Rattle.ts_listing.specs.Listing.{narrow}
use Rattle.ts_listing.specs.View.{line_in}
use Rattle.ts_listing.proofs.Listings.{rows_are}
use Rattle.ts_listing.proofs.log.log_page.Goals as goal

pub returns : goal.returns
returns c =
    let entries = c.args.entries.now in
    let rows = c.in_ok-rows.ensures
    ∙ ap (λ l. map command_encoding (map line_in l)) c.window.ensures
    ∙ ap (map command_encoding) (rows_are line_in 64 c.args.from entries)
    ∙ rows_are command_encoding 64 c.args.from (map line_in entries) in
    let total = c.narrow-total.ensures ∙ ap narrow (sym (length-map (map line_in entries) command_encoding ∙ length-map entries line_in)) in
    λ i. Page (total i) (rows i)
