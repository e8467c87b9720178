-- Octets of which a part is already too many.
use Rattle.std.proofs.Common.{◌≡◌, ap, subst, ℕ, Bool, zero, suc, ◌<◌, ◌≤◌, List, [], ◌∷◌, ◌++◌, length, get_or, take, arith, length-append}
use Rattle.std.specs.List.{flat_map}
use Rattle.std.proofs.lemmas.List.{append-nil}
use Rattle.ts_der.specs.Element.{encode, length_octets}
use Rattle.ts_name.specs.NameEncoding.{encoded_rdn}
use Rattle.ts_make.specs.declared.description.RdnText.{RdnText}
use Rattle.ts_make.specs.declared.fault.MakeFault.{MakeFault}
use Rattle.ts_make.specs.declared.fault.MakeFault.TheVariants.{Memory, TooLong, Unreadable}
use Rattle.ts_make.specs.Description.{rdn_in, rdns_in}
use Rattle.ts_extensions.specs.Extension.{Extension}
use Rattle.ts_make.specs.Extensions.{critical_octets, extension_content, extension_octets, extension, id_ce, sequence_extension}
use Rattle.ts_make.specs.inside.Writing.{IsTooLong}

-- what is longer is too long as well
pub longer : (e : MakeFault) (a b : List ℕ) → IsTooLong e a → length a ≤ length b → IsTooLong e b
longer TooLong a b h le = omega arith
longer Memory a b h le = tt
longer (Unreadable f) a b h le = absurd h

-- the content of an element is no longer than the element after other octets
pub content-within : (old : List ℕ) (tag : ℕ) (content : List ℕ) → length content ≤ length (old ++ encode tag content)
content-within old tag content = omega (arith, length-append old (encode tag content), length-append (length_octets (length content)) content)

-- the first names, and the next, are no longer than all
pub names-front : (rdns : List RdnText) (i : ℕ) (r : RdnText) → i < length rdns
    → length (flat_map encoded_rdn (rdns_in (take i rdns)) ++ encoded_rdn (rdn_in (get_or rdns i r))) ≤ length (flat_map encoded_rdn (rdns_in rdns))
names-front [] i r h = absurd (omega arith)
names-front (x ∷ rdns) zero r h = omega (arith, length-append (encoded_rdn (rdn_in x)) (flat_map encoded_rdn (rdns_in rdns)))
names-front (x ∷ rdns) (suc i) r h =
    let rest = names-front rdns i r (omega arith) in
    let first = encoded_rdn (rdn_in x) in
    let front = flat_map encoded_rdn (rdns_in (take i rdns)) in
    let next = encoded_rdn (rdn_in (get_or rdns i r)) in
    omega (arith, length-append (first ++ front) next, length-append first front, length-append front next, length-append first (flat_map encoded_rdn (rdns_in rdns)))

-- the first pieces of a list, and the next, are no longer than all
pub pieces-front : {X : Type 0} (f : X → List ℕ) (old : List ℕ) (xs : List X) (i : ℕ) (x : X) → i < length xs
    → length ((old ++ flat_map f (take i xs)) ++ f (get_or xs i x)) ≤ length (old ++ flat_map f xs)
pieces-front f old [] i x h = absurd (omega arith)
pieces-front f old (y ∷ ys) zero x h =
    omega (arith, length-append (old ++ []) (f y), length-append old [], length-append old (f y ++ flat_map f ys), length-append (f y) (flat_map f ys))
pieces-front f old (y ∷ ys) (suc i) x h =
    let rest = pieces-front f old ys i x (omega arith) in
    let front = flat_map f (take i ys) in
    let next = f (get_or ys i x) in
    omega (
      arith,
      length-append (old ++ (f y ++ front)) next,
      length-append old
          (f y ++ front),
      length-append (f y) front,
      length-append (old ++ front) next,
      length-append old
          front,
      length-append old (f y ++ flat_map f ys),
      length-append (f y)
          (flat_map f ys),
      length-append old (flat_map f ys),
    )

pub pieces-next : {X : Type 0} (f : X → List ℕ) (old : List ℕ) (xs : List X) (i : ℕ) (x : X) → i < length xs → x ≡ get_or xs i x
    → length ((old ++ flat_map f (take i xs)) ++ f x) ≤ length (old ++ flat_map f xs)
pieces-next f old xs i x h is =
    let front = pieces-front f old xs i x h in
    let same = ap (λ y. length ((old ++ flat_map f (take i xs)) ++ f y)) is in
    omega arith

-- the value of an extension is no longer than the extension after other octets
pub value-within : (old : List ℕ) (x : Extension) → length x.extnValue ≤ length (old ++ (extension_octets x ++ []))
unfolding extension_content
value-within old x =
    let flag = critical_octets x.critical in
    let value = encode 0x04 x.extnValue in
    let content = encode 0x06 x.extnID ++ (flag ++ value) in
    omega (
      arith,
      length-append old (encode 0x30 content ++ []),
      length-append (encode 0x30 content)
          [],
      length-append (length_octets (length content)) content,
      length-append (encode 0x06 x.extnID)
          (flag ++ value),
      length-append flag value,
      length-append (length_octets (length x.extnValue))
          x.extnValue,
    )

pub value-alone : (old : List ℕ) (x : Extension) → length x.extnValue ≤ length (old ++ extension_octets x)
value-alone old x = subst (λ (o : List ℕ). length x.extnValue ≤ length (old ++ o)) (append-nil (extension_octets x)) (value-within old x)

-- nor is the SEQUENCE that is the value of an extension
pub sequence-value : (old : List ℕ) (arc : ℕ) (critical : Bool) (content : List ℕ) → 0 < length content
    → length (encode 0x30 content) ≤ length (old ++ flat_map extension_octets (sequence_extension arc critical content))
sequence-value old arc critical [] some = absurd (omega arith)
sequence-value old arc critical (octet ∷ content) some = value-within old (extension (id_ce arc) critical (encode 0x30 (octet ∷ content)))

-- nor what is in it
pub sequence-within : (old : List ℕ) (arc : ℕ) (critical : Bool) (content : List ℕ)
    → length content ≤ length (old ++ flat_map extension_octets (sequence_extension arc critical content))
sequence-within old arc critical [] = omega (arith, length-append old [])
sequence-within old arc critical (octet ∷ content) =
    let value = sequence-value old arc critical (octet ∷ content) (omega arith) in
    omega (arith, length-append (length_octets (length (octet ∷ content))) (octet ∷ content))
