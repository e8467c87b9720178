use Rattle.std.proofs.Common.{sym, ◌∙◌}
use Rattle.ts_extensions.specs.ExtensionView.{located_as}
use Rattle.ts_extensions.proofs.ValidLists.{none-of}
use Rattle.ts_extensions.proofs.fast_list.is_sound_and_new.Goals as goal

pub returns-in-Some : goal.returns-in-Some
returns-in-Some c = λ e.
    let x = c.in-Some.ensures in
    let key = c.is_new.ensures in
    (x.0, x.1, x.3, rw x.2 (λ keys have. (key.none keys have e, key.more keys have)))

pub returns : goal.returns
returns c = λ e.
    let key = c.is_new-2.ensures in
    let none = none-of c.first_fault.result (sym c.is_some.ensures ∙ c.if-is_some.false) in (
      located_as c.in-Ok.extension,
      c.in-Ok.ensures,
      sym c.first_fault.ensures ∙ none,
      (λ keys have. rw (sym c.key.ensures) (key.none keys have e, key.more keys have)),
    )
