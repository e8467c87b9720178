-- A header is read in one way, and so the disk in use is.
use Rattle.std.proofs.Common.{◌≡◌, ◌<◌, ◌≤◌, inl, inr, ◌^◌, ℕ, Bool, true, false, cond, nat_lt}
use Rattle.std.proofs.Common.{List, [], ◌∷◌, ◌++◌, length, get_or, take, drop, take-append-drop}
use Rattle.std.proofs.Common.{length-take, subst, Some, None, IfSome, IfNone, refl, sym, ◌∙◌, ap}
use Rattle.std.proofs.Common.{arith, length-append}
use Rattle.std.proofs.lemmas.List.{get_or_at, take_at, drop_more}
use Rattle.ts_journal.specs.declared.journal.Stage.TheVariants.{Live}
use Rattle.std.proofs.lemmas.Nat.{from_be_bytes-to_be_bytes_4, from_be_bytes-to_be_bytes_8}
use Rattle.std.proofs.lemmas.Bool.Decides.{nat_tests}
use Rattle.std.specs.Int.{from_be_bytes, w32, w64}
use Rattle.ts_journal.specs.Images.{Header, at_generation, IsRight, head, IsShut, IsEarlier, Behind}
use Rattle.ts_journal.specs.Choice.{header_of_owner, is_same_owner, IsLive, LooksLike, choice_of, IsChosen, Unchosen}
use Rattle.ts_journal.specs.declared.choice.Owner.{Owner}
use Rattle.ts_journal.specs.declared.choice.Look.{Look}
use Rattle.ts_journal.specs.declared.choice.Look.TheVariants.{Short, Shut, Wrong, Right}
use Rattle.ts_journal.specs.declared.choice.Choice.{Choice}

-- the octets of the generation
abbrev generation_in : List ℕ → ℕ
generation_in l = from_be_bytes w64 (get_or l 16 0 ∷ get_or l 17 0 ∷ get_or l 18 0 ∷ get_or l 19 0 ∷ get_or l 20 0 ∷ get_or l 21 0 ∷ get_or l 22 0 ∷ get_or l 23 0 ∷ [])

-- the octets of the group
abbrev group_in : List ℕ → ℕ
group_in l = from_be_bytes w32 (get_or l 12 0 ∷ get_or l 13 0 ∷ get_or l 14 0 ∷ get_or l 15 0 ∷ [])

pub head_group : (h : Header) (more image : List ℕ) → h.group < 2 ^ 32 → image ≡ head h ++ more → group_in image ≡ h.group
head_group h more image fits is = ap group_in is ∙ from_be_bytes-to_be_bytes_4 h.group fits

pub head_generation : (h : Header) (more image : List ℕ) → h.generation < 2 ^ 64 → image ≡ head h ++ more → generation_in image ≡ h.generation
head_generation h more image fits is = ap generation_in is ∙ from_be_bytes-to_be_bytes_8 h.generation fits

pub head_node : (h : Header) (more image : List ℕ) → image ≡ head h ++ more → get_or image 8 0 ≡ h.node
head_node h more image is = ap (λ l. get_or l 8 0) is

pub head_nodes : (h : Header) (more image : List ℕ) → image ≡ head h ++ more → get_or image 9 0 ≡ h.nodes
head_nodes h more image is = ap (λ l. get_or l 9 0) is

pub same_header : (h k : Header) → h.node ≡ k.node → h.nodes ≡ k.nodes → h.group ≡ k.group → h.generation ≡ k.generation → h ≡ k
same_header h k node nodes group generation = λ i. record { node = node i; nodes = nodes i; group = group i; generation = generation i }

pub live_gate : (h : Header) (live : ℕ) (rest image : List ℕ) → image ≡ head h ++ (live ∷ rest) → get_or image 24 0 ≡ live
live_gate h live rest image is = ap (λ l. get_or l 24 0) is

pub shut_gate : (image : List ℕ) → IsShut image → get_or image 24 0 ≡ 0
shut_gate image shut = ap (λ l. get_or l 24 0) shut.2.1 ∙ get_or_at shut.0 0 shut.2.0 0 24 shut.1

pub long_live : (h : Header) (image : List ℕ) → IsLive h image → 25 ≤ length image
long_live h image live = omega (arith, ap length live.is, length-append (head h) (live.live ∷ live.rest))

pub long_shut : (image : List ℕ) → IsShut image → 25 ≤ length image
long_shut image shut = omega (arith, ap length shut.2.1, shut.1, length-append shut.0 (0 ∷ shut.2.0))

pub live_not_shut : (h : Header) (image : List ℕ) → IsLive h image → IsShut image → ⊥
live_not_shut h image live shut = live.wide (sym (live_gate h live.live live.rest image live.is) ∙ shut_gate image shut)

pub one_header : (h k : Header) (image : List ℕ) → IsLive h image → IsLive k image → h ≡ k
one_header h k image l m = same_header h k
    (sym (head_node h (l.live ∷ l.rest) image l.is) ∙ head_node k (m.live ∷ m.rest) image m.is)
    (sym (head_nodes h (l.live ∷ l.rest) image l.is) ∙ head_nodes k (m.live ∷ m.rest) image m.is)
    (sym (head_group h (l.live ∷ l.rest) image l.right.group_to l.is) ∙ head_group k (m.live ∷ m.rest) image m.right.group_to m.is)
    (sym (head_generation h (l.live ∷ l.rest) image l.right.generation_to l.is) ∙ head_generation k (m.live ∷ m.rest) image m.right.generation_to m.is)

-- an earlier image is live, with this member's header
pub earlier_live : (h : Header) (image : List ℕ) → (e : IsEarlier h image) → IsLive (at_generation h e.0) image
earlier_live h image e = record { right = e.3; live = e.1; wide = e.4; rest = e.2; is = e.6 }

-- a live image of the same member and an earlier generation
live_earlier : (h k : Header) (image : List ℕ) → at_generation h k.generation ≡ k → IsLive k image → k.generation < h.generation → IsEarlier h image
live_earlier h k image same l less =
    (k.generation, l.live, l.rest, subst IsRight (sym same) l.right, l.wide, less, subst (λ x. image ≡ head x ++ (l.live ∷ l.rest)) (sym same) l.is)

-- an image behind that is live is the same member's
pub behind_same : (k h : Header) (image : List ℕ) → IsLive k image → Behind h image → at_generation h k.generation ≡ k
behind_same k h image l (inl shut) = absurd (live_not_shut k image l shut)
behind_same k h image l (inr e) =
    let same = one_header k (at_generation h e.0) image l (earlier_live h image e) in
    ap (at_generation h) (ap (λ (x : Header). x.generation) same) ∙ sym same

-- an image behind that is live is of an earlier generation
pub behind_live : (k h : Header) (image : List ℕ) → IsLive k image → Behind h image → k.generation < h.generation
behind_live k h image l (inl shut) = absurd (live_not_shut k image l shut)
behind_live k h image l (inr e) =
    omega (arith, e.5, ap (λ (x : Header). x.generation) (one_header k (at_generation h e.0) image l (earlier_live h image e)))

behind_long : (h : Header) (image : List ℕ) → Behind h image → 25 ≤ length image
behind_long h image (inl shut) = long_shut image shut
behind_long h image (inr e) = long_live (at_generation h e.0) image (earlier_live h image e)

behind_not_wrong : (h : Header) (image : List ℕ) → ((k : Header) → IsLive k image → ⊥) → (IsShut image → ⊥) → Behind h image → ⊥
behind_not_wrong h image none wide (inl shut) = wide shut
behind_not_wrong h image none wide (inr e) = none (at_generation h e.0) (earlier_live h image e)

-- owners that are the same have one header at each generation
pub same_owner : (x y : Owner) → is_same_owner x y ≡ true → at_generation (header_of_owner x) y.generation ≡ header_of_owner y
same_owner x y same = same_header (at_generation (header_of_owner x) y.generation)
    (header_of_owner y) (grind (arith, same, nat_tests)) (grind (arith, same, nat_tests))
    (grind (arith, same, nat_tests)) refl

pub owner_same : (x y : Owner) → at_generation (header_of_owner x) y.generation ≡ header_of_owner y → is_same_owner x y ≡ true
owner_same x y same = grind (arith, ap (λ (h : Header). h.node) same, ap (λ (h : Header). h.nodes) same, ap (λ (h : Header). h.group) same, nat_tests)

-- what is chosen of two looks
pub chosen : (a b : List ℕ) (p q : Look) → LooksLike a p → LooksLike b q → IfSome (choice_of p q) (λ choice. IsChosen choice a b)
chosen a b Short q l m = tt
chosen a b Wrong q l m = tt
chosen a b Shut Short l m = tt
chosen a b Shut Shut l m = tt
chosen a b Shut Wrong l m = tt
chosen a b Shut (Right y) l m = record { live = m; other = l }
chosen a b (Right x) Short l m = tt
chosen a b (Right x) Shut l m = record { live = l; other = m }
chosen a b (Right x) Wrong l m = tt
chosen a b (Right x) (Right y) l m = two (is_same_owner x y) (nat_lt y.generation x.generation) (nat_lt x.generation y.generation) refl refl refl
  where
    two : (o s t : Bool) → is_same_owner x y ≡ o → nat_lt y.generation x.generation ≡ s → nat_lt x.generation y.generation ≡ t
        → IfSome {T = Choice}
        (cond o (cond s (Some (record { swapped = false; owner = x; stage = Live }))
        (cond t (Some (record { swapped = true; owner = y; stage = Live })) None)) None)
        (λ choice. IsChosen choice a b)
    two false s t o p q = tt
    two true true t o p q = record { live = l; other = live_earlier (header_of_owner x) (header_of_owner y) b (same_owner x y o) m (grind (arith, nat_tests)) }
    two true false true o p q = record { live = m; other = live_earlier (header_of_owner y) (header_of_owner x) a (turned (same_owner x y o)) l (grind (arith, nat_tests)) }
      where
        turned : at_generation (header_of_owner x) y.generation ≡ header_of_owner y → at_generation (header_of_owner y) x.generation ≡ header_of_owner x
        turned same = ap (λ (h : Header). at_generation h x.generation) (sym same)
    two true false false o p q = tt

same_generation : (a b : List ℕ) (x y : Owner) → IsLive (header_of_owner x) a → IsLive (header_of_owner y) b → x.generation ≡ y.generation → Unchosen a b
same_generation a b x y l m same = record {
  first = λ h live behind. let n = behind_live (header_of_owner y) h b m behind in absurd (omega (arith, n, same, ap (λ (z : Header). z.generation) (one_header h (header_of_owner x) a live l)));
  second = λ h live behind. let n = behind_live (header_of_owner x) h a l behind in absurd (omega (arith, n, same, ap (λ (z : Header). z.generation) (one_header h (header_of_owner y) b live m)));
}

-- two that are live, and not of one node and group
other_owner : (a b : List ℕ) (x y : Owner) → IsLive (header_of_owner x) a → IsLive (header_of_owner y) b → is_same_owner x y ≡ false → Unchosen a b
other_owner a b x y l m other = record {
  first = λ h live behind. absurd
      (cc (sym other ∙ owner_same x y
      (ap (λ (z : Header). at_generation z y.generation)
      (sym (one_header h (header_of_owner x) a live l))
      ∙ behind_same (header_of_owner y) h b m behind)));
  second = λ h live behind. absurd
      (cc (sym other ∙ owner_same x y
      (ap (λ (z : Header). at_generation z y.generation)
      (sym (behind_same (header_of_owner x) h a l behind))
      ∙ ap (λ (z : Header). at_generation z y.generation)
      (one_header h (header_of_owner y) b live m))));
}

-- neither is live or after
no_first : (a b : List ℕ) → ((h : Header) → IsLive h a → ⊥) → ((h : Header) → Behind h a → ⊥) → Unchosen a b
no_first a b live behind = record { first = λ h l other. live h l; second = λ h l other. behind h other }

no_second : (a b : List ℕ) → ((h : Header) → IsLive h b → ⊥) → ((h : Header) → Behind h b → ⊥) → Unchosen a b
no_second a b live behind = record { first = λ h l other. behind h other; second = λ h l other. live h l }

short_live : (a : List ℕ) → length a < 25 → (h : Header) → IsLive h a → ⊥
short_live a short h l = let n = long_live h a l in absurd (omega (arith, n, short))

short_behind : (a : List ℕ) → length a < 25 → (h : Header) → Behind h a → ⊥
short_behind a short h behind = let m = behind_long h a behind in absurd (omega (arith, m, short))

pub unchosen : (a b : List ℕ) (p q : Look) → LooksLike a p → LooksLike b q → IfNone (choice_of p q) (Unchosen a b)
unchosen a b Short q l m = no_first a b (short_live a l) (short_behind a l)
unchosen a b Wrong q l m = no_first a b l.1 (λ h behind. behind_not_wrong h a l.1 l.2 behind)
unchosen a b Shut Short l m = no_second a b (short_live b m) (short_behind b m)
unchosen a b Shut Shut l m = record { first = λ h live behind. live_not_shut h a live l; second = λ h live behind. live_not_shut h b live m }
unchosen a b Shut Wrong l m = no_second a b m.1 (λ h behind. behind_not_wrong h b m.1 m.2 behind)
unchosen a b Shut (Right y) l m = tt
unchosen a b (Right x) Short l m = no_second a b (short_live b m) (short_behind b m)
unchosen a b (Right x) Shut l m = tt
unchosen a b (Right x) Wrong l m = no_second a b m.1 (λ h behind. behind_not_wrong h b m.1 m.2 behind)
unchosen a b (Right x) (Right y) l m = two (is_same_owner x y) (nat_lt y.generation x.generation) (nat_lt x.generation y.generation) refl refl refl
  where
    two : (o s t : Bool) → is_same_owner x y ≡ o → nat_lt y.generation x.generation ≡ s → nat_lt x.generation y.generation ≡ t
        → IfNone {T = Choice}
        (cond o (cond s (Some (record { swapped = false; owner = x; stage = Live }))
        (cond t (Some (record { swapped = true; owner = y; stage = Live })) None)) None)
        (Unchosen a b)
    two false s t o p q = other_owner a b x y l m o
    two true true t o p q = tt
    two true false true o p q = tt
    two true false false o p q = same_generation a b x y l m (grind (arith, nat_tests))

pub at_gate : (image : List ℕ) → 25 ≤ length image → image ≡ take 24 image ++ (get_or image 24 0 ∷ drop 25 image)
at_gate image long = sym (take-append-drop 24 image) ∙ ap (λ l. take 24 image ++ l) (drop_more image 24 0 (omega (arith, long)))

pub split_at_gate : (image : List ℕ) → 25 ≤ length image → get_or image 24 0 ≡ 0 → IsShut image
split_at_gate image long is = (take 24 image, omega (arith, length-take 24 image, long), (drop 25 image, at_gate image long ∙ ap (λ g. take 24 image ++ (g ∷ drop 25 image)) is))

-- an image that begins with another header than the one at its places is not live
pub not_header : (image other : List ℕ) (k : Header)
    → ((h : Header) (live : ℕ) (rest : List ℕ) → h.group < 2 ^ 32 → h.generation < 2 ^ 64
    → image ≡ head h ++ (live ∷ rest) → h ≡ k) → other ≡ head k → (take 24 image ≡ other → ⊥)
    → (h : Header) → IsLive h image → ⊥
not_header image other k reads is differs h l =
    differs (ap (take 24) l.is ∙ take_at (head h) (l.live ∷ l.rest) 24 refl ∙ ap head (reads h l.live l.rest l.right.group_to l.right.generation_to l.is) ∙ sym is)
