use Rattle.ts_extensions.proofs.ValidLists.{new-under}
use Rattle.ts_extensions.proofs.fast_list.next_size.Goals as goal

pub returns-clause-sound : goal.returns-clause-sound
returns-clause-sound c =
    let key = c.is_new.ensures in
    new-under _ _ _ _ c.in-Some.ensures.sound (λ keys have. (key.none keys have c.if-not-is_new.false, key.more keys have))
