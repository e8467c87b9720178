-- The images of a journal on which nothing happens.
use Rattle.std.proofs.Common.{inl, inr, ℕ, Bool, true, false, cond, List, refl, sym, subst}
use Rattle.ts_disk.specs.Disk.{State, IsDisk, IsDurable}
use Rattle.ts_journal.specs.Images.{Member, InUse, Opens, OpensFrom, AnyPair}
use Rattle.ts_journal.specs.Settled.{header_of, member_in, Holds, disk_a, disk_b, EveryMoment}
use Rattle.ts_journal.specs.declared.journal.Journal.{Journal}
use Rattle.ts_journal.proofs.Pairs.{spare_durable, spare_behind}

pub opens : (member : Member) (swapped : Bool) (bodies : List (List ℕ)) (a b : List ℕ) → OpensFrom member swapped bodies a b → Opens member bodies a b
opens member true bodies a b used = inr used
opens member false bodies a b used = inl used

at_rest : {D : Type 0} (state : D → State) (member : Member) (swapped : Bool) (current spare : D)
    (bodies : List (List ℕ)) → IsDurable (state current) → IsDurable (state spare)
    → InUse member bodies (state current).read (state spare).read
    → AnyPair (OpensFrom member swapped bodies) (state (cond swapped spare current)) (state (cond swapped current spare))
at_rest state member true current spare bodies one other used ca cb left_a left_b =
    subst (λ c. InUse member bodies cb c) (sym (other ca left_a))
    (subst (λ c. InUse member bodies c (state spare).read) (sym (one cb left_b)) used)
at_rest state member false current spare bodies one other used ca cb left_a left_b =
    subst (λ c. InUse member bodies ca c) (sym (other cb left_b))
    (subst (λ c. InUse member bodies c (state spare).read) (sym (one ca left_a)) used)

-- each pair of images opens to the bodies, from the disk in use
pub any : {D : Type 0} (state : D → State) (j : Journal D) (bodies copied : List (List ℕ))
    → Holds state bodies copied j
    → AnyPair (OpensFrom (member_in j) j.swapped bodies) (state (disk_a j)) (state (disk_b j))
any state j bodies copied holds =
    at_rest state (member_in j) j.swapped j.current j.spare bodies holds.journal.durable (spare_durable j.stage (header_of j) copied j.copy_end (state j.spare) holds.spare)
    (record {
      header = header_of j;
      owner = refl;
      right = holds.right;
      live = holds.live;
      is_live =
          holds.is_live;
      stands = holds.journal.stands;
      behind =
          spare_behind j.stage (header_of j) copied j.copy_end (state j.spare) holds.spare;
    })

pub rests : {D : Type 0} (state : D → State) → ((d : D) → IsDisk (state d))
    → (j : Journal D) (bodies copied : List (List ℕ)) → Holds state bodies copied j
    → EveryMoment state (OpensFrom (member_in j) j.swapped bodies) j j
rests state lawful j bodies copied holds ca cb left_a left_b =
    any state j bodies copied holds ca cb ((lawful (disk_a j)).only_now ca left_a) ((lawful (disk_b j)).only_now cb left_b)
