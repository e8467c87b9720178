-- The walk over the blocks of an image.
use Rattle.std.proofs.Common.{◌≡◌, ◌≢◌, ◌⊎◌, ◌≤◌, ◌<◌, ◌+◌, ℕ, List, [], ◌∷◌, ◌++◌, length, get_or}
use Rattle.std.proofs.Common.{take, drop, sym, ◌∙◌, ap, subst, arith, append_assoc, length-append}
use Rattle.std.proofs.Common.{length-take, length-drop, take-append-drop}
use Rattle.std.proofs.lemmas.List.{append-nil, map-append, drop_more, drop-drop, drop_all}
use Rattle.std.proofs.lemmas.Grind.{flat_map-append}
use Rattle.std.specs.List.{flat_map, AllByRecursion}
use Rattle.std.specs.Int.{to_be_bytes, w32}
use Rattle.ts_journal.specs.Images.{Block, block, bodies_in, IsWholeBlock}
use Rattle.ts_synod.specs.declared.message.Fact.{Fact}
use Rattle.ts_record.specs.Facts.{encodings, AllFit, AreFacts}
use Rattle.ts_record.specs.Blocks.{IsLength, IsBlock, ReadTo, IsFacts, Stops, no_gate, no_length, no_body}
use Rattle.ts_record.specs.declared.layout.Layout.{Layout}

all_push : {X : Type 0} (P : X → Type 0) (xs : List X) (x : X) → AllByRecursion P xs → P x → AllByRecursion P (xs ++ x ∷ [])
all_push P [] x each last = (last, tt)
all_push P (y ∷ xs) x each last = (each.0, all_push P xs x each.1 last)

-- a body more, of more facts
pub are_more : {C : Type 0} (octets : C → List ℕ) (bodies : List (List ℕ))
    (facts more : List (Fact C)) (body : List ℕ) → AreFacts octets bodies facts → AllFit octets more
    → body ≡ encodings octets more → AreFacts octets (bodies ++ body ∷ []) (facts ++ more)
are_more {C} octets bodies facts more body are fit is = record {
  groups = are.groups ++ more ∷ [];
  fit = all_push (AllFit octets) are.groups more are.fit fit;
  encoded = map-append (encodings octets) are.groups (more ∷ []) ∙ ap (λ l. l ++ encodings octets more ∷ []) are.encoded ∙ ap (λ b. bodies ++ b ∷ []) (sym is);
  joined = flat_map-append (λ (group : List (Fact C)). group) are.groups (more ∷ []) ∙ ap (λ l. l ++ (more ++ [])) are.joined ∙ ap (λ l. facts ++ l) (append-nil more);
}

-- a gate, a length, and what follows
pub record Opening (layout : Layout) (image : List ℕ) (at n : ℕ) : Type 0 where
  pub gate : ℕ
  pub wide : gate ≢ 0
  pub fits : IsLength layout n
  pub split : drop at image ≡ gate ∷ (to_be_bytes w32 n ++ drop (at + 5) image)

pub opening : (layout : Layout) (image part : List ℕ) (at n : ℕ) → at < length image
    → get_or image at 0 ≢ 0 → part ≡ drop (at + 1) image → IsLength layout n
    → part ≡ to_be_bytes w32 n ++ drop 4 part → Opening layout image at n
opening layout image part at n more wide is fits split =
    let five : at + 1 + 4 ≡ at + 5 = omega arith in record {
      gate = get_or image at 0;
      wide = wide;
      fits = fits;
      split = drop_more image at 0 more
          ∙ ap (λ l. get_or image at 0 ∷ l)
          (sym is ∙ split ∙ ap (λ l. to_be_bytes w32 n ++ l)
          (ap (drop 4) is ∙ drop-drop 4 (at + 1) image ∙ ap (λ k. drop k image) five));
    }

pub one_block : {C : Type 0} (octets : C → List ℕ) (layout : Layout) (image : List ℕ)
    (facts later more : List (Fact C)) (at n : ℕ) (body : List ℕ)
    → ReadTo octets layout image facts at → Opening layout image at n
    → n ≤ length (drop (at + 5) image)
    → body ≡ take n (drop (at + 5) image) → AllFit octets more → body ≡ encodings octets more → later ≡ facts ++ more → ReadTo octets layout image later (at + 5 + n)
one_block {C} octets layout image facts later more at n body read o room body_is fit encoded later_is =
    let b : Block = record { gate = o.gate; body = body } in
    let sized : length body ≡ n = omega (arith, ap length body_is, length-take n (drop (at + 5) image), room) in
    let rest : List ℕ = drop (at + 5 + n) image in
    let tail : drop (at + 5) image ≡ body ++ rest = sym (take-append-drop n (drop (at + 5) image))
    ∙ ap (λ l. l ++ drop n (drop (at + 5) image)) (sym body_is)
    ∙ ap (λ l. body ++ l) (drop-drop n (at + 5) image) in
    let here : drop at image ≡ block b ++ rest = o.split ∙ ap (λ l. o.gate ∷ (to_be_bytes w32 n ++ l)) tail ∙ ap (λ k. o.gate ∷ (to_be_bytes w32 k ++ (body ++ rest))) (sym sized) in
    let joined : flat_map block (read.blocks ++ b ∷ []) ≡ flat_map block read.blocks
    ++ block b = flat_map-append block read.blocks (b ∷ [])
    ∙ ap (λ l. flat_map block read.blocks ++ l) (append-nil (block b)) in
    record {
      blocks = read.blocks ++ b ∷ [];
      whole = all_push (IsBlock layout) read.blocks b read.whole (o.wide, record { from = omega (arith, sized, o.fits.from); to = omega (arith, sized, o.fits.to) });
      are = subst (λ fs. AreFacts octets (bodies_in (read.blocks ++ b ∷ [])) fs) (sym later_is)
          (subst (λ bs. AreFacts octets bs (facts ++ more))
          (sym (map-append (λ (x : Block). x.body) read.blocks (b ∷ [])))
          (are_more octets (bodies_in read.blocks) facts more body read.are fit encoded));
      within = omega (arith, room, length-drop (at + 5) image, o.fits.from);
      split = read.split ∙ ap (λ l. flat_map block read.blocks ++ l) here ∙ sym (append_assoc (flat_map block read.blocks) (block b) rest) ∙ ap (λ l. l ++ rest) (sym joined);
      ends = omega (arith, read.ends, sized, ap length joined, length-append (flat_map block read.blocks) (block b));
    }

pub stop_at_end : {C : Type 0} (octets : C → List ℕ) (layout : Layout) (image : List ℕ) (at : ℕ) → length image ≤ at → Stops octets layout image at at
stop_at_end octets layout image at le = no_gate at (drop_all at image le)

pub stop_at_length : {C : Type 0} (octets : C → List ℕ) (layout : Layout) (image part : List ℕ) (at : ℕ) → at < length image → get_or image at 0 ≢ 0 → part ≡ drop (at + 1) image
    → ((n : ℕ) (after : List ℕ) → IsLength layout n → part ≡ to_be_bytes w32 n ++ after → ⊥) → Stops octets layout image at (at + 1)
stop_at_length octets layout image part at more wide is none = no_length at (get_or image at 0) wide (drop_more image at 0 more) (λ n after fits split. none n after fits (is ∙ split))

pub stop_at_body : {C : Type 0} (octets : C → List ℕ) (layout : Layout) (image : List ℕ) (at n : ℕ)
    → Opening layout image at n
    → (length (drop (at + 5) image) < n ⊎ (IsFacts octets (take n (drop (at + 5) image)) → ⊥))
    → Stops octets layout image at (at + 5)
stop_at_body octets layout image at n o bad = no_body at o.gate n o.wide o.fits o.split bad

pub no_facts : {C : Type 0} (octets : C → List ℕ) (body other : List ℕ) → body ≡ other → ((more : List (Fact C)) → AllFit octets more → body ≡ encodings octets more → ⊥) → IsFacts octets other → ⊥
no_facts octets body other is none facts = none facts.0 facts.1 (is ∙ facts.2)

-- blocks of a layout whose bodies are no longer than a body may be are whole
pub whole_blocks : (layout : Layout) (blocks : List Block) → layout.longest_body ≤ 4194500 → AllByRecursion (IsBlock layout) blocks → AllByRecursion IsWholeBlock blocks
whole_blocks layout [] short each = tt
whole_blocks layout (b ∷ blocks) short each =
    (record { is_open = each.0.0; fits = record { some = each.0.1.from; short = omega (arith, each.0.1.to, short) } }, whole_blocks layout blocks short each.1)
