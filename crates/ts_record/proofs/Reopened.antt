-- A record after an open.
use Rattle.std.proofs.Common.{◌≡◌, ◌⊎◌, ◌≤◌, inl, inr, ◌+◌, ℕ, Bool, true, false, cond, List, [], ◌∷◌, ◌++◌, length, drop, refl, sym, ◌∙◌, ap, subst, arith, append_assoc, length-append}
use Rattle.std.specs.List.{flat_map}
use Rattle.ts_disk.specs.Disk.{State, IsDisk, IsDurable, Call, Same, EveryImage}
use Rattle.ts_journal.specs.Images.{Header, head, Member, member_of, block, bodies_in}
use Rattle.ts_journal.specs.Settled.{Holds, IsSpare, header_of}
use Rattle.ts_journal.specs.Choice.{header_of_owner, IsLive, IsOther, IsChosen}
use Rattle.ts_journal.specs.declared.choice.Choice.{Choice}
use Rattle.ts_journal.specs.declared.journal.Journal.{Journal}
use Rattle.ts_journal.specs.declared.journal.Stage.{Stage}
use Rattle.ts_journal.specs.declared.journal.Stage.TheVariants.{Live, Closed, Begun, Copying}
use Rattle.ts_synod.specs.declared.message.Fact.{Fact}
use Rattle.ts_record.specs.Facts.{AreFacts, OpensTo}
use Rattle.ts_record.specs.Blocks.{version_2, IsRead}
use Rattle.ts_journal.proofs.Moments.{goes_on}
use Rattle.ts_record.specs.Opening.{IsRefused, IsFault, NothingNew}
use Rattle.ts_record.specs.Rewrite.{rewrite_at, IsUnderWay}
use Rattle.ts_record.specs.declared.fault.RecordFault.{RecordFault}
use Rattle.ts_record.specs.declared.fault.RecordFault.TheVariants.{Memory, DiskFailed, Broken, GenerationsExhausted, NotFormatted, OldVersion, Damaged}
use Rattle.ts_record.proofs.Opened.{read_is, holding, not_unreadable, not_unchosen, stands_chosen, owner_chosen}
use Rattle.ts_record.proofs.Walk.{whole_blocks}

pub stays_durable : (old new : State) → IsDurable old → Call Same old new → new.read ≡ old.read → IsDurable new
stays_durable old new durable call same c left = let from = call.images c left in sym from.2 ∙ durable from.0 from.1 ∙ sym same

-- at every moment since, each image that a crash may leave is one that it could leave before
abbrev pub Stays : State → State → Type 0
Stays old new = EveryImage old.may_leave old new

pub untouched : (disk : State) → IsDisk disk → Stays disk disk
untouched disk is = record { later = omega arith; each = is.only_now; before = λ t c le left. inl left }

-- one call more that writes nothing
pub stays : (old mid new : State) → IsDisk mid → Stays old mid → Call Same mid new → Stays old new
stays old mid new is run call = goes_on old.may_leave Same old mid new run call
    (λ c left. let from = call.images c left in subst old.may_leave from.2 (run.each from.0 (is.counts_now old.moment from.0 run.later from.1)))

pub nothing_new : (old_a old_b new_a new_b : State) → Stays old_a new_a → Stays old_b new_b → NothingNew old_a old_b new_a new_b
nothing_new old_a old_b new_a new_b a b ca cb left_a left_b = (a.each ca left_a, b.each cb left_b)

-- the two disks of the record that was read, in the order in which they were given
pub placed : {D : Type 0} (state : D → State) (old_a old_b new_a new_b a b : D) (swapped : Bool) → swapped ≡ false → a ≡ cond swapped new_b new_a → b ≡ cond swapped new_a new_b
    → NothingNew (state old_a) (state old_b) (state new_a) (state new_b) → NothingNew (state old_a) (state old_b) (state a) (state b)
placed state old_a old_b new_a new_b a b swapped is a_is b_is run =
    let a_same : a ≡ new_a = a_is ∙ ap (λ s. cond s new_b new_a) is in
    let b_same : b ≡ new_b = b_is ∙ ap (λ s. cond s new_a new_b) is in
    subst (λ x. NothingNew (state old_a) (state old_b) (state x) (state b)) (sym a_same) (subst (λ y. NothingNew (state old_a) (state old_b) (state new_a) (state y)) (sym b_same) run)

pub placed_swapped : {D : Type 0} (state : D → State) (old_a old_b new_a new_b a b : D) (swapped : Bool) → swapped ≡ true → a ≡ cond swapped new_a new_b → b ≡ cond swapped new_b new_a
    → NothingNew (state old_a) (state old_b) (state new_a) (state new_b) → NothingNew (state old_a) (state old_b) (state a) (state b)
placed_swapped state old_a old_b new_a new_b a b swapped is a_is b_is run =
    let a_same : a ≡ new_a = a_is ∙ ap (λ s. cond s new_a new_b) is in
    let b_same : b ≡ new_b = b_is ∙ ap (λ s. cond s new_b new_a) is in
    subst (λ x. NothingNew (state old_a) (state old_b) (state x) (state b)) (sym a_same) (subst (λ y. NothingNew (state old_a) (state old_b) (state new_a) (state y)) (sym b_same) run)

pub refused_fault : {C : Type 0} (octets : C → List ℕ) (old_a old_b new_a new_b : State)
    (a b : List ℕ) (fault : RecordFault) → a ≡ old_a.read → b ≡ old_b.read → IsRefused a b fault
    → IsFault octets old_a old_b new_a new_b fault
refused_fault octets old_a old_b new_a new_b a b Memory a_is b_is refused = absurd refused
refused_fault octets old_a old_b new_a new_b a b DiskFailed a_is b_is refused = absurd refused
refused_fault octets old_a old_b new_a new_b a b Broken a_is b_is refused = absurd refused
refused_fault octets old_a old_b new_a new_b a b GenerationsExhausted a_is b_is refused = absurd refused
refused_fault octets old_a old_b new_a new_b a b NotFormatted a_is b_is refused = subst (λ x. IsRefused x old_b.read NotFormatted) a_is (subst (λ y. IsRefused a y NotFormatted) b_is refused)
refused_fault octets old_a old_b new_a new_b a b OldVersion a_is b_is refused = subst (λ x. IsRefused x old_b.read OldVersion) a_is (subst (λ y. IsRefused a y OldVersion) b_is refused)
refused_fault octets old_a old_b new_a new_b a b (Damaged at) a_is b_is refused = absurd refused

spare_of : (stage : Stage) {D : Type 0} (state : D → State) (j : Journal D)
    → IsDurable (state j.spare) → IsOther stage (header_of j) (state j.spare).read
    → IsSpare stage (header_of j) [] j.copy_end (state j.spare)
spare_of Live state j durable other = (durable, other)
spare_of Closed state j durable other = (durable, other)
spare_of Begun state j durable other = absurd other
spare_of Copying state j durable other = absurd other

-- what was read is on the disk in use
pub keeps_of : {D C : Type 0} (state : D → State) (octets : C → List ℕ) (j : Journal D)
    (facts : List (Fact C)) → IsLive (header_of j) (state j.current).read
    → IsOther j.stage (header_of j) (state j.spare).read
    → IsDurable (state j.current) → IsDurable (state j.spare)
    → IsRead octets version_2 (state j.current).read facts j.end
    → (bodies copied : List (List ℕ)) × Holds state bodies copied j
    × AreFacts octets bodies facts
keeps_of state octets j facts live other durable still read =
    let h = header_of j in
    let blocks = read.0.blocks in
    let image = (state j.current).read in
    let more = drop (j.end + 1) image in
    let rest : live.rest ≡ flat_map block blocks ++ 0 ∷ more = sym (ap (drop 25) live.is) ∙ read.0.split ∙ ap (λ l. flat_map block blocks ++ l) read.1 in (
      bodies_in blocks,
      [],
      record {
        right = live.right;
        live = live.live;
        is_live = live.wide;
        journal = record {
          durable = durable;
          stands = record {
            blocks = blocks;
            whole = whole_blocks version_2 blocks (omega arith) read.0.whole;
            are = refl;
            closed = (more, live.is ∙ ap (λ l. head h ++ (live.live ∷ l)) rest ∙ sym (append_assoc (head h) (live.live ∷ flat_map block blocks) (0 ∷ more)));
          };
          ends = omega (arith, read.0.ends, length-append (head h) (live.live ∷ flat_map block blocks));
        };
        spare = spare_of j.stage state j still other;
      },
      read.0.are,
    )

module _ {C : Type 0} (octets : C → List ℕ) (one_encoding : (c d : C) → 1 ≤ length (octets c) → octets c ≡ octets d → c ≡ d) where
  -- where the pair opens to facts, these are read
  pub read_all : (choice : Choice) (m : Member) (a b : List ℕ) (facts others : List (Fact C))
      (end : ℕ) → IsChosen choice a b → IsRead octets version_2 (cond choice.swapped b a) facts end
      → OpensTo octets m others a b → facts ≡ others
  read_all choice m a b facts others end chosen read opens =
      let s = stands_chosen choice.swapped choice.owner choice.stage m opens.0 a b chosen.live chosen.other opens.1 in
      read_is octets one_encoding version_2 (cond choice.swapped b a) facts others end (omega arith) read (holding octets s.0 s.1 opens.0 others (cond choice.swapped b a) s.2 opens.2)

-- the record that is read is that member's
pub owner_read : {C : Type 0} (octets : C → List ℕ) (choice : Choice) (m : Member) (a b : List ℕ)
    (facts : List (Fact C)) (node nodes : ℕ) → IsChosen choice a b → OpensTo octets m facts a b
    → node ≡ choice.owner.node → nodes ≡ choice.owner.nodes
    → record { node = node; nodes = nodes } ≡ m
owner_read octets choice m a b facts node nodes chosen opens node_is nodes_is =
    let same : record { node = node; nodes = nodes } ≡ member_of (header_of_owner choice.owner) = (λ i. record { node = node_is i; nodes = nodes_is i }) in
    same ∙ owner_chosen choice.swapped choice.owner choice.stage m opens.0 a b chosen.live chosen.other opens.1

-- where the pair opens to facts, no fault but those of memory and device comes
pub no_fault : {C : Type 0} (octets : C → List ℕ) (m : Member) (old_a old_b new_a new_b : State)
    (fault : RecordFault) (facts : List (Fact C)) → IsFault octets old_a old_b new_a new_b fault
    → OpensTo octets m facts old_a.read old_b.read → (fault ≡ Memory) ⊎ (fault ≡ DiskFailed)
no_fault octets m old_a old_b new_a new_b Memory facts is opens = inl refl
no_fault octets m old_a old_b new_a new_b DiskFailed facts is opens = inr refl
no_fault octets m old_a old_b new_a new_b Broken facts is opens = absurd is
no_fault octets m old_a old_b new_a new_b GenerationsExhausted facts is opens = absurd is
no_fault octets m old_a old_b new_a new_b NotFormatted facts is opens = absurd (not_unchosen m opens.0 old_a.read old_b.read is.0 opens.1)
no_fault octets m old_a old_b new_a new_b OldVersion facts is opens = absurd (not_unchosen m opens.0 old_a.read old_b.read is.0 opens.1)
no_fault octets m old_a old_b new_a new_b (Damaged at) facts is opens =
    let choice = is.0 in
    let s = stands_chosen choice.swapped choice.owner choice.stage m opens.0 old_a.read old_b.read is.1.live is.1.other opens.1 in
    let image = cond choice.swapped old_b.read old_a.read in
    absurd (not_unreadable version_2 (omega arith) octets image facts at is.2 (holding octets s.0 s.1 opens.0 facts image s.2 opens.2))

-- no rewrite is under way on a record that was opened
pub none_under_way : {C : Type 0} (octets : C → List ℕ) (stage : Stage) (h : Header)
    (image : List ℕ) (facts list : List (Fact C)) (copied : List (List ℕ)) (done : ℕ)
    → IsOther stage h image → IsUnderWay octets facts copied (rewrite_at stage list done)
none_under_way octets Live h image facts list copied done other = tt
none_under_way octets Closed h image facts list copied done other = tt
none_under_way octets Begun h image facts list copied done other = absurd other
none_under_way octets Copying h image facts list copied done other = absurd other
