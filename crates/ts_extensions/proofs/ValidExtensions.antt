-- Extensions whose values break no rule.
use Rattle.std.proofs.Common.{◌≡◌, ◌↔◌, ℕ, zero, suc, Bool, true, false, cond, List, [], ◌∷◌, ◌++◌, length, Option, Some, None, Result, Ok, Err, refl, sym, ap, subst, ◌∙◌}
use Rattle.std.specs.Prelude.{map, option_map}
use Rattle.ts_der.specs.declared.fault.Fault.{Fault}
use Rattle.ts_der.specs.Octets.{AreOctets}
use Rattle.ts_der.specs.Answer.{◌>>=◌, refusal}
use Rattle.ts_der.specs.Default.{flag_at}
use Rattle.ts_der.specs.Element.{Place, Tlv, inside}
use Rattle.ts_der.specs.Reading.{next_at, element_at, end_at, is_end}
use Rattle.ts_der.proofs.Elements.{next-found}
use Rattle.ts_der.proofs.Laws.{bind_ok, ok_is}
use Rattle.ts_der.proofs.OctetLists.{AreOctets-part, AreOctets-back}
use Rattle.ts_shape.specs.declared.fault.CertFault.{CertFault}
use Rattle.ts_shape.specs.declared.fault.CertRule.{CertRule}
use Rattle.ts_shape.specs.Fault.{about, der, breaks}
use Rattle.ts_shape.specs.Fields.{oid_at}
use Rattle.ts_shape.specs.Items.{each, alone, tagged_as, of_tag, first_then, upto_from, items_at}
use Rattle.ts_shape.specs.Shape.{◌or_else◌}
use Rattle.ts_shape.proofs.FieldParts.{oid-part}
use Rattle.ts_shape.proofs.ItemParts.{some-walked}
use Rattle.ts_shape.proofs.Judging.{Judged}
use Rattle.ts_shape.proofs.Parts.{took, element-took}
use Rattle.ts_ext.specs.declared.known.Holder.{Holder}
use Rattle.ts_ext.specs.declared.known.Known.{Known}
use Rattle.ts_ext.specs.Ext.{ExtValue, ext_of, ext_fault}
use Rattle.ts_extensions.specs.Extension.{Located, unlocated, located_of, located_in, all_located_of, explicit_all_located_of}
use Rattle.ts_ext.specs.Known.{known_at}
use Rattle.ts_ext.specs.Rules.{broken_rule}
use Rattle.ts_extensions.specs.ValueRules.{rule_place, content_fault, value_fault, values_fault, IsValid, AreValid}
use Rattle.ts_ext.proofs.Exts.{ext-found, ext-again, ext-judged}
use Rattle.ts_ext.proofs.Flags.{flag-encoded}

-- ---- the octets of values

-- the value of each is octets
abbrev pub AllOctets : List Located → Type 0
AllOctets [] = Unit {0}
AllOctets (x ∷ xs) = AreOctets x.value.content × AllOctets xs

pub located-octets : (e : Tlv) (x : Located) → AreOctets e.content → located_of e ≡ Ok x → AreOctets x.value.content
unfolding located_of
located-octets e x fits read =
    let i = bind_ok (oid_at (inside e)) _ x read in
    let c = bind_ok (flag_at 0x01 i.0.1) _ x i.2 in
    let v = bind_ok (element_at 0x04 c.0.1) _ x c.2 in
    let d = bind_ok (end_at v.0.1) _ x v.2 in
    let stands : Located = record { at = e.at; extnID = i.0.0; critical = c.0.0; value = v.0.0 } in
    let first = took oid-part (inside e) i.0.0 i.0.1 fits i.1 in
    let second = flag-encoded 0x01 i.0.1 c.0.0 c.0.1 first.3 c.1 in
    let third = element-took 0x04 c.0.1 v.0.0 v.0.1 second.3 v.1 in
    subst (λ (y : Located). AreOctets y.value.content) (ok_is {A = Located} {E = Fault} stands x d.2) third.inner

tagged-is : (tag : ℕ) (e y : Tlv) → tagged_as tag e ≡ Ok y → e ≡ y
unfolding tagged_as
tagged-is tag e y r = by_tag _ y _ r
  where
    by_tag : (b : Bool) (y : Tlv) (f : Fault) → cond {A = Result Tlv Fault} b (Ok e) (Err f) ≡ Ok y → e ≡ y
    by_tag true y f r = ok_is {E = Fault} e y r
    by_tag false y f r = absurd cc

tagged-octets : (e : Tlv) (x : Located) → AreOctets e.content → located_in e ≡ Ok x → AreOctets x.value.content
unfolding of_tag
tagged-octets e x fits read =
    let t = bind_ok (tagged_as 0x30 e) located_of x read in
    located-octets t.0 x (subst (λ (y : Tlv). AreOctets y.content) (tagged-is 0x30 e t.0 t.1) fits) t.2

each-octets : (here : Place) (x : Located) (after : Place) → AreOctets here.rest → each located_in here ≡ Ok (x, after) → AreOctets x.value.content × AreOctets after.rest
unfolding each
each-octets here x after fits read =
    let e = bind_ok (next_at here) (λ e. located_in e.0 >>= λ y. Ok (y, e.1)) (x, after) read in
    let v = bind_ok (located_in e.0.0) (λ y. Ok (y, e.0.1)) (x, after) e.2 in
    let s = next-found here e.0.0 e.0.1 fits e.1 in
    let inner : AreOctets e.0.0.content = AreOctets-part e.0.0.tag e.0.0.content e.0.1.rest (subst AreOctets (s.whole ∙ ap (λ (w : List ℕ). w ++ e.0.1.rest) s.encoded) fits) in
    let outer : AreOctets e.0.1.rest = AreOctets-back e.0.0.whole e.0.1.rest (subst AreOctets s.whole fits) in
    subst (λ (p : Located × Place). AreOctets p.0.value.content × AreOctets p.1.rest) (ok_is {A = Located × Place} {E = Fault} (v.0, e.0.1) (x, after) v.2)
    (tagged-octets e.0.0 v.0 inner v.1, outer)

upto-octets : (n : ℕ) (here : Place) → AreOctets here.rest → AllOctets (upto_from n located_in here)
upto-octets zero here fits = tt
upto-octets (suc n) here fits = by_end (λ after fits. upto-octets n after fits) (is_end here.rest)
  where
    by_item : ((after : Place) → AreOctets after.rest → AllOctets (upto_from n located_in after))
        → (r : Result (Located × Place) Fault) → each located_in here ≡ r
        → AllOctets (first_then r (upto_from n located_in))
    by_item more (Ok x) e = let o = each-octets here x.0 x.1 fits e in (o.0, more x.1 o.1)
    by_item more (Err f) e = tt

    by_end : ((after : Place) → AreOctets after.rest → AllOctets (upto_from n located_in after)) → (b : Bool) → AllOctets (cond b [] (first_then (each located_in here) (upto_from n located_in)))
    by_end more true = tt
    by_end more false = by_item more (each located_in here) refl

all-octets : (here : Place) → AreOctets here.rest → AllOctets (items_at located_in here)
unfolding items_at
all-octets here fits = upto-octets (length here.rest) here fits

-- ---- one value

neither : (a b : Option CertFault) → (a or_else b) ≡ None → (a ≡ None) × (b ≡ None)
neither None b e = (refl, e)
neither (Some f) b e = absurd cc

none-broken : (at : ℕ) (o : Option CertRule) → option_map (breaks at) o ≡ None → o ≡ None
none-broken at None e = refl
none-broken at (Some k) e = absurd cc

pub sound-if : (holder : Holder) (x : Located) → AreOctets x.value.content → value_fault holder x ≡ None → IsValid holder (unlocated x)
sound-if holder x fits e = by_value (ext_of k x.value) refl (neither (ext_fault k x.value) _ e)
  where
    k : Option Known
    k = known_at holder x.extnID

    by_value : (r : Result ExtValue Fault) → ext_of k x.value ≡ r → (ext_fault k x.value ≡ None) × (content_fault (rule_place holder x.at) r ≡ None) → IsValid holder (unlocated x)
    by_value (Ok v) read n = (v, ext-found k x.value v fits read, none-broken (rule_place holder x.at) (broken_rule v) n.1)
    by_value (Err f) read n =
        let j = subst (λ (r : Result ExtValue Fault). Judged (der r) (ext_fault k x.value) (λ v. Unit {0})) read (ext-judged k x.value) in
        absurd (some-none (about f) (sym j ∙ n.0))
      where
        some-none : (y : CertFault) → Some y ≡ None → ⊥
        some-none y h = cc

pub sound-then : (holder : Holder) (x : Located) → IsValid holder (unlocated x) → value_fault holder x ≡ None
sound-then holder x is =
    let k = known_at holder x.extnID in
    let read = ext-again k x.value is.0 is.1 in
    let j = subst (λ (r : Result ExtValue Fault). Judged (der r) (ext_fault k x.value) (λ v. Unit {0})) read (ext-judged k x.value) in
    rw (j.0, read, is.2) refl

-- ---- all of them

pub are-sound : (holder : Holder) (xs : List Located) → AllOctets xs → values_fault holder xs ≡ None → AreValid holder (map unlocated xs)
are-sound holder [] fits e = tt
are-sound holder (x ∷ xs) fits e = let n = neither (value_fault holder x) (values_fault holder xs) e in (sound-if holder x fits.0 n.0, are-sound holder xs fits.1 n.1)

pub no-fault : (holder : Holder) (xs : List Located) → AreValid holder (map unlocated xs) → values_fault holder xs ≡ None
no-fault holder [] are = refl
no-fault holder (x ∷ xs) are = ap (λ (o : Option CertFault). o or_else values_fault holder xs) (sound-then holder x are.0) ∙ no-fault holder xs are.1

pub sound : (holder : Holder) (here : Place) → AreOctets here.rest → (values_fault holder (items_at located_in here) ≡ None) ↔ AreValid holder (map unlocated (items_at located_in here))
sound holder here fits = (are-sound holder (items_at located_in here) (all-octets here fits), no-fault holder (items_at located_in here))

-- ---- lists that were read

pub some-octets : (e : Tlv) (xs : List Located) → AreOctets e.content → all_located_of e ≡ Ok xs → AllOctets xs
some-octets e xs fits read =
    subst AllOctets (ok_is {A = List Located} {E = Fault} (items_at located_in (inside e)) xs
    (sym (some-walked located_in e (ap (λ r. refusal r) (sym read))) ∙ read))
    (all-octets (inside e) fits)

-- the content of what is next is octets
element-octets : {A : Type 0} (tag : ℕ) (value : Tlv → Result A Fault) (P : A → Type 0) → ((e : Tlv) (x : A) → AreOctets e.content → value e ≡ Ok x → P x)
    → (e : Tlv) (x : A) → AreOctets e.content → alone (of_tag tag value) e ≡ Ok x → P x
unfolding alone each of_tag
element-octets {A} tag value P all e x fits read =
    let a = bind_ok (each (of_tag tag value) (inside e)) _ x read in
    let d = bind_ok (end_at a.0.1) _ x a.2 in
    let n = bind_ok (next_at (inside e)) (λ y. of_tag tag value y.0 >>= λ v. Ok (v, y.1)) a.0 a.1 in
    let v = bind_ok (of_tag tag value n.0.0) (λ v. Ok (v, n.0.1)) a.0 n.2 in
    let t = bind_ok (tagged_as tag n.0.0) value v.0 v.1 in
    let s = next-found (inside e) n.0.0 n.0.1 fits n.1 in
    let inner : AreOctets n.0.0.content = AreOctets-part n.0.0.tag n.0.0.content n.0.1.rest (subst AreOctets (s.whole ∙ ap (λ (w : List ℕ). w ++ n.0.1.rest) s.encoded) fits) in
    let same : v.0 ≡ x = ap (λ (p : A × Place). p.0) (ok_is {A = A × Place} {E = Fault} (v.0, n.0.1) a.0 v.2) ∙ ok_is {A = A} {E = Fault} a.0.0 x d.2 in
    subst P same (all t.0 v.0 (subst (λ (y : Tlv). AreOctets y.content) (tagged-is tag n.0.0 t.0 t.1) inner) t.2)

pub explicit-octets : (e : Tlv) (xs : List Located) → AreOctets e.content → explicit_all_located_of e ≡ Ok xs → AllOctets xs
explicit-octets = element-octets 0x30 all_located_of AllOctets some-octets
