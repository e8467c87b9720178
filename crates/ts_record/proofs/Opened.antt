-- A pair of images opens to one list of facts, and what can't be read is in none that opens.
use Rattle.std.proofs.Common.{◌≡◌, ◌⊎◌, ◌≤◌, inl, inr, ⊎_elim, ◌+◌, ℕ, Bool, true, false, cond}
use Rattle.std.proofs.Common.{List, [], ◌∷◌, ◌++◌, length, take, drop, get_or, refl, sym, ◌∙◌, ap}
use Rattle.std.proofs.Common.{subst, arith, append_assoc, length-append}
use Rattle.std.proofs.lemmas.List.{take_at}
use Rattle.std.specs.List.{flat_map, AllByRecursion}
use Rattle.ts_journal.specs.Images.{Header, Member, member_of, at_generation, head, Block, block, bodies_in, IsBody, IsWholeBlock, Stands, InUse, Opens}
use Rattle.ts_journal.specs.Choice.{header_of_owner, IsLive, IsOther, Unchosen, LooksLike}
use Rattle.ts_journal.specs.declared.choice.Owner.{Owner}
use Rattle.ts_journal.specs.declared.choice.Look.{Look}
use Rattle.ts_journal.specs.declared.choice.Look.TheVariants.{Short, Shut, Wrong, Right}
use Rattle.ts_journal.specs.declared.journal.Stage.{Stage}
use Rattle.ts_journal.specs.declared.journal.Stage.TheVariants.{Live, Closed, Begun, Copying}
use Rattle.ts_journal.proofs.Choices.{live_not_shut, one_header, earlier_live, behind_live, long_live}
use Rattle.ts_synod.specs.declared.message.Fact.{Fact}
use Rattle.ts_record.specs.Facts.{AllFit, bodies_of, AreFacts}
use Rattle.ts_journal.proofs.Blocks.{one4, alike}
use Rattle.ts_record.specs.Blocks.{version_2, IsBlock, ReadTo, IsRead, HoldsFacts, IsFacts, Stops, no_gate, no_length, no_body, IsUnreadable}
use Rattle.ts_record.specs.declared.layout.Layout.{Layout}
use Rattle.ts_record.proofs.Laws.{one_list}

-- a whole block of facts begins here
abbrev GoesOn : {C : Type 0} → (C → List ℕ) → Layout → List ℕ → Type 0
GoesOn octets layout r = (c : Block) × (more : List ℕ) × IsBlock layout c × IsFacts octets c.body × (r ≡ block c ++ more)

abbrev AllFacts : {C : Type 0} → (C → List ℕ) → List Block → Type 0
AllFacts octets blocks = AllByRecursion (λ (b : Block). IsFacts octets b.body) blocks

-- each body of facts is a list of facts
all_facts : {C : Type 0} (octets : C → List ℕ) (cs : List Block) (groups : List (List (Fact C))) → bodies_of octets groups ≡ bodies_in cs → AllByRecursion (AllFit octets) groups → AllFacts octets cs
all_facts octets [] groups is fit = tt
all_facts octets (c ∷ cs) [] is fit = absurd (omega (arith, ap length is))
all_facts octets (c ∷ cs) (g ∷ groups) is fit = ((g, fit.0, sym (ap (λ (l : List (List ℕ)). get_or l 0 []) is)), all_facts octets cs groups (ap (drop 1) is) fit.1)

module _ (layout : Layout) (short : layout.longest_body ≤ 4194500) where
  fits_body : (b : Block) → IsBlock layout b → IsBody b.body
  fits_body b is = record { some = is.1.from; short = omega (arith, is.1.to, short) }

  -- Whole blocks and a rest, against whole blocks and a closed gate: they are the same and the rest is that gate, or the rest
  -- goes on with a block.
  meet : {C : Type 0} (octets : C → List ℕ) (bs cs : List Block) (r s : List ℕ) → AllByRecursion (IsBlock layout) bs → AllByRecursion (IsBlock layout) cs → AllFacts octets cs
      → flat_map block bs ++ r ≡ flat_map block cs ++ 0 ∷ s → ((bodies_in bs ≡ bodies_in cs) × (r ≡ 0 ∷ s)) ⊎ GoesOn octets layout r
  meet octets [] [] r s x y z is = inl (refl, is)
  meet octets [] (c ∷ cs) r s x y z is = inr (c, flat_map block cs ++ 0 ∷ s, y.0, z.0, is ∙ append_assoc (block c) (flat_map block cs) (0 ∷ s))
  meet octets (b ∷ bs) [] r s x y z is = absurd (x.0.0 (ap (λ l. get_or l 0 0) is))
  meet octets (b ∷ bs) (c ∷ cs) r s x y z is =
      let a = alike b c (flat_map block bs ++ r) (flat_map block cs ++ 0 ∷ s) (fits_body b x.0)
      (fits_body c y.0) (sym (append_assoc (block b) (flat_map block bs) r) ∙ is
      ∙ append_assoc (block c) (flat_map block cs) (0 ∷ s)) in
      ⊎_elim (λ e. inl ((λ i. a.body i ∷ e.0 i), e.1)) (λ g. inr g) (meet octets bs cs r s x.1 y.1 z.1 a.rest)

  -- what is read of an image, against what is on it
  met : {C : Type 0} (octets : C → List ℕ) (image : List ℕ) (facts others : List (Fact C)) (at : ℕ) → (read : ReadTo octets layout image facts at) → (s : HoldsFacts octets layout others image)
      → ((bodies_in read.blocks ≡ bodies_in s.blocks) × (drop at image ≡ 0 ∷ s.rest)) ⊎ GoesOn octets layout (drop at image)
  met octets image facts others at read s =
      meet octets read.blocks s.blocks (drop at image) s.rest read.whole s.whole (all_facts octets s.blocks s.are.groups s.are.encoded s.are.fit) (sym read.split ∙ s.is)

  not_at_gate : {C : Type 0} (octets : C → List ℕ) (image rest : List ℕ) (from at : ℕ) → Stops octets layout image from at → drop from image ≡ 0 ∷ rest → ⊥
  not_at_gate octets image rest _ _ (no_gate p is) closed = absurd (omega (arith, ap length (sym is ∙ closed)))
  not_at_gate octets image rest _ _ (no_length p gate wide is none) closed = wide (ap (λ l. get_or l 0 0) (sym is ∙ closed))
  not_at_gate octets image rest _ _ (no_body p gate n wide fits is bad) closed = wide (ap (λ l. get_or l 0 0) (sym is ∙ closed))

  not_at_block : {C : Type 0} (octets : C → List ℕ) (image : List ℕ) (from at : ℕ) → Stops octets layout image from at → GoesOn octets layout (drop from image) → ⊥
  not_at_block octets image _ _ (no_gate p is) g = absurd (omega (arith, ap length (sym is ∙ g.4)))
  not_at_block octets image _ _ (no_length p gate wide is none) g = none (length g.0.body) (g.0.body ++ g.1) g.2.1 (ap (drop 1) (sym is ∙ g.4))
  not_at_block octets image _ _ (no_body p gate n wide fits is bad) g =
      let m = one4 n (length g.0.body) (drop (p + 5) image) (g.0.body ++ g.1) (omega (arith, fits.to, short)) (omega (arith, g.2.1.to, short)) (ap (drop 1) (sym is ∙ g.4)) in
      ⊎_elim (λ cut. absurd (omega (arith, cut, m.number, ap length m.rest, length-append g.0.body g.1)))
      (λ wrong. wrong (subst (IsFacts octets) (sym (ap (take n) m.rest ∙ take_at g.0.body g.1 n (sym m.number))) g.3)) bad

  -- what can't be read is in no image on which facts stand
  pub not_unreadable : {C : Type 0} (octets : C → List ℕ) (image : List ℕ) (facts : List (Fact C)) (at : ℕ) → IsUnreadable octets layout image at → HoldsFacts octets layout facts image → ⊥
  not_unreadable octets image facts at bad s =
      ⊎_elim (λ e. not_at_gate octets image s.rest bad.1 at bad.3 e.1) (λ g. not_at_block octets image bad.1 at bad.3 g) (met octets image bad.0 facts bad.1 bad.2 s)

module _ {C : Type 0} (octets : C → List ℕ) (one_encoding : (c d : C) → 1 ≤ length (octets c) → octets c ≡ octets d → c ≡ d) where
  one_grouping : (gs hs : List (List (Fact C))) → AllByRecursion (AllFit octets) gs → AllByRecursion (AllFit octets) hs → bodies_of octets gs ≡ bodies_of octets hs → gs ≡ hs
  one_grouping [] [] x y is = refl
  one_grouping [] (h ∷ hs) x y is = absurd (omega (arith, ap length is))
  one_grouping (g ∷ gs) [] x y is = absurd (omega (arith, ap length is))
  one_grouping (g ∷ gs) (h ∷ hs) x y is =
      λ i. one_list octets one_encoding g h x.0 y.0 (ap (λ (l : List (List ℕ)). get_or l 0 []) is) i ∷ one_grouping gs hs x.1 y.1 (ap (drop 1) is) i

  -- bodies hold one list of facts
  pub one_meaning : (bodies others : List (List ℕ)) (facts more : List (Fact C)) → AreFacts octets bodies facts → AreFacts octets others more → bodies ≡ others → facts ≡ more
  one_meaning bodies others facts more are too is =
      sym are.joined ∙ ap (λ gs. flat_map (λ (group : List (Fact C)). group) gs) (one_grouping are.groups too.groups are.fit too.fit (are.encoded ∙ is ∙ sym too.encoded)) ∙ too.joined

  -- what is read is what is there
  pub read_is : (layout : Layout) (image : List ℕ) (facts more : List (Fact C)) (end : ℕ)
      → layout.longest_body ≤ 4194500 → IsRead octets layout image facts end
      → HoldsFacts octets layout more image → facts ≡ more
  read_is layout image facts more end short read s =
      ⊎_elim (λ e. one_meaning (bodies_in read.0.blocks) (bodies_in s.blocks) facts more read.0.are s.are e.0)
      (λ g. absurd (g.2.0 (ap (λ l. get_or l 0 0) (sym g.4 ∙ read.1))))
      (met layout short octets image facts more end read.0 s)

  -- one list of facts stands on an image
  pub one_holding : (layout : Layout) (image : List ℕ) (facts more : List (Fact C))
      → layout.longest_body ≤ 4194500 → HoldsFacts octets layout facts image
      → HoldsFacts octets layout more image → facts ≡ more
  one_holding layout image facts more short s t =
      ⊎_elim (λ e. one_meaning (bodies_in s.blocks) (bodies_in t.blocks) facts more s.are t.are e.0)
      (λ g. absurd (g.2.0 (sym (ap (λ l. get_or l 0 0) g.4))))
      (meet layout short octets s.blocks t.blocks (0 ∷ s.rest) t.rest s.whole t.whole (all_facts octets t.blocks t.are.groups t.are.encoded t.are.fit) (sym s.is ∙ t.is))

-- bodies that stand after a header and a live gate, and hold facts
pub holding : {C : Type 0} (octets : C → List ℕ) (h : Header) (live : ℕ) (bodies : List (List ℕ))
    (facts : List (Fact C)) (image : List ℕ) → Stands h live bodies image
    → AreFacts octets bodies facts → HoldsFacts octets version_2 facts image
holding octets h live bodies facts image s are = record {
  blocks = s.blocks;
  whole = blocks_whole s.blocks s.whole;
  are = subst (λ bs. AreFacts octets bs facts) (sym s.are) are;
  rest = s.closed.0;
  is = ap (drop 25) s.closed.1;
}
  where
    blocks_whole : (blocks : List Block) → AllByRecursion IsWholeBlock blocks → AllByRecursion (IsBlock version_2) blocks
    blocks_whole [] each = tt
    blocks_whole (b ∷ blocks) each = ((each.0.is_open, record { from = each.0.fits.some; to = each.0.fits.short }), blocks_whole blocks each.1)

-- an image in use is live
live_of : (m : Member) (bodies : List (List ℕ)) (image other : List ℕ) (u : InUse m bodies image other) → IsLive u.header image
live_of m bodies image other u = record {
  right = u.right;
  live = u.live;
  wide = u.is_live;
  rest = flat_map block u.stands.blocks ++ 0 ∷ u.stands.closed.0;
  is = u.stands.closed.1 ∙ append_assoc (head u.header) (u.live ∷ flat_map block u.stands.blocks) (0 ∷ u.stands.closed.0);
}

pub not_unchosen : (m : Member) (bodies : List (List ℕ)) (a b : List ℕ) → Unchosen a b → Opens m bodies a b → ⊥
not_unchosen m bodies a b none (inl u) = none.first u.header (live_of m bodies a b u) u.behind
not_unchosen m bodies a b none (inr u) = none.second u.header (live_of m bodies b a u) u.behind

-- the disk that isn't chosen isn't in use
not_other : (stage : Stage) (k : Header) (m : Member) (bodies : List (List ℕ)) (image other : List ℕ) → IsLive k image → IsOther stage k other → InUse m bodies other image → ⊥
not_other Live k m bodies image other live earlier u =
    let was = at_generation k earlier.0 in
    absurd (omega (
      arith,
      earlier.5,
      behind_live k u.header image live u.behind,
      ap
          (λ (x : Header). x.generation)
          (one_header u.header was other (live_of m bodies other image u)
          (earlier_live k other earlier)),
    ))
not_other Closed k m bodies image other live shut u = live_not_shut u.header other (live_of m bodies other image u) shut
not_other Begun k m bodies image other live none u = none
not_other Copying k m bodies image other live none u = none

-- the bodies are on the disk that is chosen
pub stands_chosen : (swapped : Bool) (owner : Owner) (stage : Stage) (m : Member)
    (bodies : List (List ℕ)) (a b : List ℕ) → IsLive (header_of_owner owner) (cond swapped b a)
    → IsOther stage (header_of_owner owner) (cond swapped a b) → Opens m bodies a b → (h : Header)
    × (live : ℕ) × Stands h live bodies (cond swapped b a)
stands_chosen true owner stage m bodies a b live other (inl u) = absurd (not_other stage (header_of_owner owner) m bodies b a live other u)
stands_chosen true owner stage m bodies a b live other (inr u) = (u.header, u.live, u.stands)
stands_chosen false owner stage m bodies a b live other (inl u) = (u.header, u.live, u.stands)
stands_chosen false owner stage m bodies a b live other (inr u) = absurd (not_other stage (header_of_owner owner) m bodies a b live other u)

-- the disk that is chosen is that member's
pub owner_chosen : (swapped : Bool) (owner : Owner) (stage : Stage) (m : Member)
    (bodies : List (List ℕ)) (a b : List ℕ) → IsLive (header_of_owner owner) (cond swapped b a)
    → IsOther stage (header_of_owner owner) (cond swapped a b) → Opens m bodies a b
    → member_of (header_of_owner owner) ≡ m
owner_chosen true owner stage m bodies a b live other (inl u) = absurd (not_other stage (header_of_owner owner) m bodies b a live other u)
owner_chosen true owner stage m bodies a b live other (inr u) = ap member_of (one_header (header_of_owner owner) u.header b live (live_of m bodies b a u)) ∙ u.owner
owner_chosen false owner stage m bodies a b live other (inl u) = ap member_of (one_header (header_of_owner owner) u.header a live (live_of m bodies a b u)) ∙ u.owner
owner_chosen false owner stage m bodies a b live other (inr u) = absurd (not_other stage (header_of_owner owner) m bodies a b live other u)

-- only an image that looks right is live
pub not_live : (look : Look) (image : List ℕ) → LooksLike image look → ((owner : Owner) → look ≡ Right owner → ⊥) → (h : Header) → IsLive h image → ⊥
not_live Short image short wrong h live = let n = long_live h image live in absurd (omega (arith, n, short))
not_live Shut image shut wrong h live = live_not_shut h image live shut
not_live Wrong image bad wrong h live = bad.1 h live
not_live (Right owner) image right wrong h live = wrong owner refl
