-- A record of version 1 is read in one way, and is written as one of version 2.
use Rattle.std.proofs.Common.{◌≡◌, ◌≤◌, ◌⊎◌, inl, inr, ◌+◌, ◌-◌, ℕ, false, List, [], ◌∷◌, ◌++◌}
use Rattle.std.proofs.Common.{length, get_or, take, drop, take-append-drop, refl, sym, ◌∙◌, ap}
use Rattle.std.proofs.Common.{subst, arith, append_assoc, length-append}
use Rattle.std.proofs.lemmas.List.{take_at}
use Rattle.std.specs.List.{flat_map}
use Rattle.ts_disk.specs.Disk.{State}
use Rattle.ts_journal.specs.Images.{Member, block, bodies_in, Block, IsText, OpensFrom, AllOrNone, AnyPair, EveryPair}
use Rattle.ts_synod.specs.declared.message.Fact.{Fact}
use Rattle.ts_record.specs.Blocks.{version_1, IsRead, HoldsFacts}
use Rattle.ts_record.specs.Facts.{AreFacts}
use Rattle.ts_record.specs.Old.{old_head, IsOldOf, OpensOld, AllFactsOrNone, IsMigrationFault}
use Rattle.ts_record.specs.Record.{OpensToFrom}
use Rattle.ts_record.specs.declared.fault.RecordFault.{RecordFault}
use Rattle.ts_record.specs.declared.fault.RecordFault.TheVariants.{Memory, DiskFailed, Broken, GenerationsExhausted, NotFormatted, OldVersion, Damaged}
use Rattle.ts_record.proofs.Opened.{not_unreadable, read_is, one_meaning}
use Rattle.ts_record.proofs.Walk.{whole_blocks}

pub begins : (m : Member) (image : List ℕ) → 1 ≤ m.node → m.node ≤ m.nodes → m.nodes ≤ 9 → take 16 image ≡ old_head m → IsOldOf m image
begins m image from to most is = record { node_from = from; node_to = to; nodes_to = most; rest = drop 16 image; is = sym (take-append-drop 16 image) ∙ ap (λ l. l ++ drop 16 image) is }

one_owner : (m n : Member) (image : List ℕ) → IsOldOf m image → IsOldOf n image → m ≡ n
one_owner m n image s t =
    let node : m.node ≡ n.node = sym (ap (λ l. get_or l 8 0) s.is) ∙ ap (λ l. get_or l 8 0) t.is in
    let nodes : m.nodes ≡ n.nodes = sym (ap (λ l. get_or l 9 0) s.is) ∙ ap (λ l. get_or l 9 0) t.is in
    λ i. record { node = node i; nodes = nodes i }

-- where an image opens to facts, no fault but those of memory and device comes
pub no_fault : {C : Type 0} (octets : C → List ℕ) (m : Member) (facts : List (Fact C))
    (image : List ℕ) (failed : Type 0) (fault : RecordFault)
    → IsMigrationFault octets image failed fault → OpensOld octets m facts image → (fault ≡ Memory)
    ⊎ (fault ≡ DiskFailed)
no_fault octets m facts image failed Memory is opens = inl refl
no_fault octets m facts image failed DiskFailed is opens = inr refl
no_fault octets m facts image failed Broken is opens = absurd is
no_fault octets m facts image failed GenerationsExhausted is opens = absurd is
no_fault octets m facts image failed NotFormatted is opens = absurd (is m opens.0)
no_fault octets m facts image failed OldVersion is opens = absurd is
no_fault octets m facts image failed (Damaged at) is opens = absurd (not_unreadable version_1 (omega arith) octets image facts at is.2 opens.1)

-- a fault that is none of a device says the same of it whatever failed
pub no_device : {C : Type 0} (octets : C → List ℕ) (image other : List ℕ) (failed : Type 0)
    (fault : RecordFault) → image ≡ other → IsMigrationFault octets image ⊥ fault
    → IsMigrationFault octets other failed fault
no_device octets image other failed Memory same is = tt
no_device octets image other failed DiskFailed same is = absurd is
no_device octets image other failed Broken same is = absurd is
no_device octets image other failed GenerationsExhausted same is = absurd is
no_device octets image other failed NotFormatted same is = subst (λ l. IsMigrationFault octets l failed NotFormatted) same is
no_device octets image other failed OldVersion same is = absurd is
no_device octets image other failed (Damaged at) same is = subst (λ l. IsMigrationFault octets l failed (Damaged at)) same is

-- the blocks and the closed gate after them
pub text_of : {C : Type 0} (octets : C → List ℕ) (image other text : List ℕ) (facts : List (Fact C))
    (end : ℕ) → other ≡ image → text ≡ take (end + 1 - 16) (drop 16 other)
    → (read : IsRead octets version_1 image facts end) → IsText read.0.blocks text
text_of octets image other text facts end same cut read =
    let blocks = read.0.blocks in
    let bare = flat_map block blocks in
    let rest = drop (end + 1) image in
    let all : drop 16 image ≡ (bare ++ 0 ∷ []) ++ rest = read.0.split ∙ ap (λ l. bare ++ l) read.1 ∙ sym (append_assoc bare (0 ∷ []) rest) in
    record {
      whole = whole_blocks version_1 blocks (omega arith) read.0.whole;
      is = cut ∙ ap (λ l. take (end + 1 - 16) (drop 16 l)) same ∙ ap (take (end + 1 - 16)) all
          ∙ take_at (bare ++ 0 ∷ []) rest (end + 1 - 16) (omega (arith, read.0.ends, length-append bare (0 ∷ [])));
    }

pub holds : {C : Type 0} (octets : C → List ℕ) (image : List ℕ) (facts : List (Fact C)) (end : ℕ) → IsRead octets version_1 image facts end → HoldsFacts octets version_1 facts image
holds octets image facts end read = record {
  blocks = read.0.blocks;
  whole = read.0.whole;
  are = read.0.are;
  rest = drop (end + 1) image;
  is = read.0.split ∙ ap (λ l. flat_map block read.0.blocks ++ l) read.1;
}

module _ {C : Type 0} (octets : C → List ℕ) (one_encoding : (c d : C) → 1 ≤ length (octets c) → octets c ≡ octets d → c ≡ d) (image : List ℕ) (m owner : Member) (found facts : List (Fact C)) (end : ℕ)
    (read : IsRead octets version_1 image found end) (begun : IsOldOf m image) (opens : OpensOld octets owner facts image) where
  same_facts : found ≡ facts
  same_facts = read_is octets one_encoding version_1 image found facts end (omega arith) read opens.1

  pub migrated : (text : List ℕ) (count : ℕ) (a b : State) → IsText read.0.blocks text
      → count ≡ length found
      → ((blocks : List Block) → IsText blocks text
      → AnyPair (OpensFrom m false (bodies_in blocks)) a b)
      → (count ≡ length facts) × AnyPair (OpensToFrom octets owner false facts) a b
  migrated text count a b is counted filled = (
    counted ∙ ap length same_facts,
    λ ca cb left_a left_b. (
      bodies_in read.0.blocks,
      subst (λ o. OpensFrom o false (bodies_in read.0.blocks) ca cb)
          (one_owner m owner image begun opens.0) (filled read.0.blocks is ca cb left_a left_b),
      subst
          (AreFacts octets (bodies_in read.0.blocks)) same_facts read.0.are,
    ),
  )

  pub all_or_none : (a b new_a new_b : State) → EveryPair (AllOrNone (bodies_in read.0.blocks)) a b new_a new_b → EveryPair (AllFactsOrNone octets facts) a b new_a new_b
  all_or_none a b new_a new_b run ca cb left_a left_b n others other =
      one_meaning octets one_encoding other.0 (bodies_in read.0.blocks) others found other.2 read.0.are (run ca cb left_a left_b n other.0 other.1) ∙ same_facts
