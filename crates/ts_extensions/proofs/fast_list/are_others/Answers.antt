use Rattle.std.proofs.Common.{◌∙◌, ap, sym, arith}
use Rattle.ts_der.specs.Element.{Tlv}
use Rattle.ts_extensions.specs.Extension.{all_located_of}
use Rattle.ts_extensions.specs.ExtensionView.{all_located_in}
use Rattle.ts_extensions.proofs.ValidLists.{told-of-read, told-of-unread}
use Rattle.ts_extensions.proofs.fast_list.are_others.Goals as goal

pub returns-in-Ok : goal.returns-in-Ok
returns-in-Ok c =
    let list : Tlv = record { tag = 0x30; content = c.args.content.now; whole = c.args.content.now; at = 0; start = 0 } in
    told-of-read list (all_located_in c.in-Ok.judged.extensions) c.in-Ok.judged.fault c.is_none.result (λ i. omega (arith, c.type_inv.content i))
    (sym (ap (λ (e : Tlv). all_located_of e) c.of_content-list.ensures) ∙ c.in-Ok.ensures.placed) c.in-Ok.ensures.judged c.is_none.ensures

pub returns-in-Err : goal.returns-in-Err
returns-in-Err c =
    let list : Tlv = record { tag = 0x30; content = c.args.content.now; whole = c.args.content.now; at = 0; start = 0 } in
    told-of-unread list _ (sym (ap (λ (e : Tlv). all_located_of e) c.of_content-list.ensures) ∙ c.in-Err.ensures.placed)
