-- Fields one after another: what is read is encoded so, and what is encoded so is read.
use Rattle.std.proofs.Common.{◌≡◌, ℕ, ◌+◌, List, ◌++◌, length, Result, Ok, Err, refl, sym, ap, subst, ◌∙◌}
use Rattle.ts_der.specs.declared.fault.Fault.{Fault}
use Rattle.ts_der.specs.Octets.{AreOctets}
use Rattle.ts_der.specs.Answer.{◌>>=◌}
use Rattle.ts_der.specs.Element.{Place, Tlv, Fits, encode, encoded_at}
use Rattle.ts_der.specs.Reading.{element_at}
use Rattle.ts_der.proofs.OctetLists.{AreOctets-part, AreOctets-back}
use Rattle.ts_der.proofs.Laws.{bind_ok, ok_is, element-found, element-only}
use Rattle.ts_shape.specs.declared.fault.CertFault.{CertFault}
use Rattle.ts_shape.specs.Fields.{within, Within}
use Rattle.ts_shape.specs.Fault.{der}

-- how a value is read from an element of this tag, and encoded in its content
pub record Value {A : Type 0} (tag : ℕ) (value : Tlv → Result A Fault) (Encodes : List ℕ → A → Type 0) : Type 0 where
  pub found : (e : Tlv) (x : A) → AreOctets e.content → e.whole ≡ encode tag e.content → value e ≡ Ok x → Encodes e.content x
  pub again : (e : Tlv) (x : A) → e.whole ≡ encode tag e.content → Encodes e.content x → value e ≡ Ok x

-- how a field is read at a place, and which octets encode it
pub record Part {A : Type 0} {E : Type 0} (read : Place → Result (A × Place) E) (Encodes : List ℕ → A → Type 0) : Type 0 where
  pub found : (here : Place) (x : A) (after : Place) → AreOctets here.rest → read here ≡ Ok (x, after) → (w : List ℕ) × Encodes w x × (here.rest ≡ w ++ after.rest)
  pub again : (here : Place) (x : A) (w rest : List ℕ) → Encodes w x → here.rest ≡ w ++ rest → read here ≡ Ok (x, record { rest = rest; at = here.at + length w })

-- an element of this tag, and the octets after it
pub record Took (tag : ℕ) (here : Place) (e : Tlv) (after : Place) : Type 0 where
  pub encoded : e.whole ≡ encode tag e.content
  pub fits : Fits tag e.content
  pub inner : AreOctets e.content
  pub whole : here.rest ≡ e.whole ++ after.rest
  pub outer : AreOctets after.rest

pub element-took : (tag : ℕ) (here : Place) (e : Tlv) (after : Place) → AreOctets here.rest → element_at tag here ≡ Ok (e, after) → Took tag here e after
element-took tag here e after fits read =
    let s = element-found tag here e after fits read in
    let stands = s.0 in
    let encoded : e.whole ≡ encode tag e.content = stands.encoded ∙ ap (λ (t : ℕ). encode t e.content) s.1 in
    record {
      encoded = encoded;
      fits = subst (λ (t : ℕ). Fits t e.content) s.1 stands.fits;
      inner = AreOctets-part tag e.content after.rest (subst AreOctets (stands.whole ∙ ap (λ (w : List ℕ). w ++ after.rest) encoded) fits);
      whole = stands.whole;
      outer = AreOctets-back e.whole after.rest (subst AreOctets stands.whole fits);
    }

within-found : {A : Type 0} (tag : ℕ) (value : Tlv → Result A Fault) (Encodes : List ℕ → A → Type 0) → Value tag value Encodes
    → (here : Place) (x : A) (after : Place) → AreOctets here.rest → within tag value here ≡ Ok (x, after) → (w : List ℕ) × Within tag Encodes w x × (here.rest ≡ w ++ after.rest)
unfolding within
within-found {A} tag value Encodes v here x after fits read =
    let b = bind_ok (element_at tag here) (λ e. value e.0 >>= λ y. Ok (y, e.1)) (x, after) read in
    let y = bind_ok (value b.0.0) (λ y. Ok (y, b.0.1)) (x, after) b.2 in
    let same : (y.0, b.0.1) ≡ (x, after) = ok_is {A = A × Place} {E = Fault} (y.0, b.0.1) (x, after) y.2 in
    let s = element-took tag here b.0.0 b.0.1 fits b.1 in
    let is : Within tag Encodes b.0.0.whole y.0 = record { content = b.0.0.content; fits = s.fits; encoded = s.encoded; value = v.found b.0.0 y.0 s.inner s.encoded y.1 } in
    subst (λ (p : A × Place). (w : List ℕ) × Within tag Encodes w p.0 × (here.rest ≡ w ++ p.1.rest)) same (b.0.0.whole, is, s.whole)

within-again : {A : Type 0} (tag : ℕ) (value : Tlv → Result A Fault) (Encodes : List ℕ → A → Type 0) → Value tag value Encodes
    → (here : Place) (x : A) (w rest : List ℕ) → Within tag Encodes w x → here.rest ≡ w ++ rest → within tag value here ≡ Ok (x, record { rest = rest; at = here.at + length w })
unfolding within
within-again {A} tag value Encodes v here x w rest is e =
    let one = element-only here tag is.content rest is.fits (e ∙ ap (λ (o : List ℕ). o ++ rest) is.encoded) in
    let read = v.again (encoded_at here.at tag is.content) x refl is.value in
    rw (one, read) (ap (λ (o : List ℕ). Ok (x, record { rest = rest; at = here.at + length o })) (sym is.encoded))

-- an element whose content encodes a value
pub within-part : {A : Type 0} (tag : ℕ) (value : Tlv → Result A Fault) (Encodes : List ℕ → A → Type 0) → Value tag value Encodes → Part (within tag value) (Within tag Encodes)
within-part tag value Encodes v = record { found = within-found tag value Encodes v; again = within-again tag value Encodes v }

-- ---- faults of a certificate

pub der-ok : {A : Type 0} (r : Result A Fault) (x : A) → der r ≡ Ok x → r ≡ Ok x
der-ok {A} (Ok y) x e = ap (λ (z : A). Ok z) (ok_is {E = CertFault} y x e)
der-ok (Err f) x e = absurd cc

-- a field that was read, and the octets after it
pub took : {A : Type 0} {E : Type 0} {read : Place → Result (A × Place) E} {Encodes : List ℕ → A → Type 0} → Part read Encodes
    → (here : Place) (x : A) (after : Place) → AreOctets here.rest → read here ≡ Ok (x, after) → (w : List ℕ) × Encodes w x × (here.rest ≡ w ++ after.rest) × AreOctets after.rest
took part here x after fits read =
    let f = part.found here x after fits read in
    (f.0, f.1, f.2, AreOctets-back f.0 after.rest (subst AreOctets f.2 fits))
