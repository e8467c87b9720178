-- The frame at the front of octets that are as many as their length says.
use Rattle.std.proofs.Common.{◌≡◌, ◌∙◌, refl, sym, ap, subst, ℕ, suc, ◌+◌, ◌<◌, ◌^◌, ◌⊎◌, List, [], ◌∷◌, ◌++◌, length, take, drop, inl, inr, arith, length-append, take-append-drop}
use Rattle.std.proofs.lemmas.List.{append-nil, length-take-le}
use Rattle.std.proofs.lemmas.Nat.{from_be_bytes-to_be_bytes_4}
use Rattle.std.specs.Int.{to_be_bytes, from_be_bytes, w32}
use Rattle.ts_wire.specs.Frames.{frame_encoding, frame_fields, frame_kind, FrameFits}
use Rattle.ts_wire.specs.Stream.{IsPartial, IsFault}
use Rattle.ts_wire.specs.Taking.{IsWrong}
use Rattle.ts_wire.specs.inside.Taking.{HasSize}
use Rattle.ts_wire.specs.declared.fault.FrameFault.TheVariants.{Length}
use Rattle.ts_wire.specs.declared.frame.Frame.{Frame}
use Rattle.ts_wire.specs.declared.wire_error.FeedError.{FeedError}
use Rattle.ts_wire.specs.declared.wire_error.FeedError.TheVariants as feed_errors
use Rattle.ts_wire.proofs.Streams.{stays}

-- octets announce one length
pub same_length : (octets x y : List ℕ) (m n : ℕ) → m < 2 ^ 32 → n < 2 ^ 32 → octets ≡ to_be_bytes w32 m ++ x → octets ≡ to_be_bytes w32 n ++ y → m ≡ n
same_length octets x y m n small less a b =
    let e : to_be_bytes w32 m ++ x ≡ to_be_bytes w32 n ++ y = sym a ∙ b in
    sym (from_be_bytes-to_be_bytes_4 m small) ∙ ap (λ l. from_be_bytes w32 (take 4 l)) e ∙ from_be_bytes-to_be_bytes_4 n less

length_is : (octets body : List ℕ) (n : ℕ) → octets ≡ to_be_bytes w32 n ++ body → length octets ≡ 4 + length body
length_is octets body n is = let e : length octets ≡ length (to_be_bytes w32 n ++ body) = ap length is in omega (arith, e)

-- a whole frame is not partial
pub sized_or_partial : (octets : List ℕ) (n : ℕ) → HasSize octets n → IsPartial octets → ⊥
sized_or_partial octets n s (inl few) = omega (arith, s.enough, few)
sized_or_partial octets n s (inr x) =
    let m : n ≡ x.0 = same_length octets (drop 4 octets) x.1 n x.0 (omega (arith, s.length_is.1)) (omega (arith, x.2.1)) s.is x.3 in
    omega (arith, s.enough, length_is octets x.1 x.0 x.3, x.4, m)

-- nor is what begins with a length out of range
pub fault_or_partial : (octets : List ℕ) → IsFault Length octets → IsPartial octets → ⊥
fault_or_partial octets f (inl few) = omega (arith, length_is octets f.1 f.0 f.4, few)
fault_or_partial octets f (inr x) =
    let m : f.0 ≡ x.0 = same_length octets f.1 x.1 f.0 x.0 f.2 (omega (arith, x.2.1)) f.4 x.3 in
    by m f.3
  where
    by : f.0 ≡ x.0 → (f.0 < 2) ⊎ (8388608 < f.0) → ⊥
    by m (inl low) = omega (arith, m, low, x.2.0)
    by m (inr high) = omega (arith, m, high, x.2.1)

take_whole : (octets : List ℕ) (n : ℕ) → HasSize octets n → take (4 + n) octets ≡ to_be_bytes w32 n ++ take n (drop 4 octets)
take_whole octets n s =
    let k : 4 + n ≡ suc (suc (suc (suc n))) = omega arith in
    let e : take (suc (suc (suc (suc n)))) octets ≡ to_be_bytes w32 n ++ take n (drop 4 octets) = ap (take (suc (suc (suc (suc n))))) s.is in
    ap (λ m. take m octets) k ∙ e

-- the octets of the frame alone are as many as their length says
pub sized_whole : (octets : List ℕ) (n : ℕ) → HasSize octets n → HasSize (take (4 + n) octets) n
sized_whole octets n s =
    let e = take_whole octets n s in
    let long : length (take (4 + n) octets) ≡ 4 + n = length-take-le (4 + n) octets s.enough in
    record {
      length_is = s.length_is;
      enough = omega (arith, long);
      is = e ∙ ap (λ l. to_be_bytes w32 n ++ l) (sym (ap (drop 4) e));
    }

pub whole_or_partial : (octets : List ℕ) (n : ℕ) → HasSize octets n → IsPartial (take (4 + n) octets) → ⊥
whole_or_partial octets n s p = sized_or_partial (take (4 + n) octets) n (sized_whole octets n s) p

none_left : (rest : List ℕ) → length rest ≡ 0 → rest ≡ []
none_left [] is = refl
none_left (x ∷ rest) is = absurd (omega (arith, is))

-- a frame at their front is all of them
pub frame_first : (octets rest : List ℕ) (n : ℕ) (frame : Frame) → HasSize octets n
    → FrameFits frame → take (4 + n) octets ≡ frame_encoding frame ++ rest
    → octets ≡ frame_encoding frame ++ drop (4 + n) octets
frame_first octets rest n frame s fits is =
    let w = sized_whole octets n s in
    let m : n ≡ 2 + length (frame_fields frame) =
    same_length (take (4 + n) octets) (drop 4 (take (4 + n) octets))
    ((2 ∷ frame_kind frame ∷ frame_fields frame) ++ rest) n (2 + length (frame_fields frame))
    (omega (arith, s.length_is.1)) (omega (arith, fits.short)) w.is is in
    let long : length (take (4 + n) octets) ≡ 4 + n = length-take-le (4 + n) octets s.enough in
    let all : length (take (4 + n) octets) ≡ 4 + length
    ((2 ∷ frame_kind frame ∷ frame_fields frame) ++ rest) =
    length_is (take (4 + n) octets) ((2 ∷ frame_kind frame ∷ frame_fields frame) ++ rest)
    (2 + length (frame_fields frame)) is in
    let none : rest ≡ [] = none_left rest (omega (arith, m, long, all, length-append (frame_fields frame) rest)) in
    sym (take-append-drop (4 + n) octets) ∙ ap (λ l. l ++ drop (4 + n) octets) (is ∙ ap (λ l. frame_encoding frame ++ l) none ∙ append-nil (frame_encoding frame))

-- a fault in its place is at the front of all
pub wrong_first : (octets : List ℕ) (k : ℕ) (e : FeedError) → IsWrong e (take k octets) → IsWrong e octets
wrong_first octets k feed_errors.Memory w = tt
wrong_first octets k (feed_errors.Frame fault) w = subst (IsFault fault) (take-append-drop k octets) (stays fault (take k octets) (drop k octets) w)
