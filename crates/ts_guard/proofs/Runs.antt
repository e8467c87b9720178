-- What an opener has let through after events.
use Rattle.std.proofs.Common.{◌≡◌, ◌≢◌, ◌+◌, ◌∙◌, ℕ, List, [], ◌∷◌, ◌++◌, Some, refl, sym, ap}
use Rattle.std.proofs.Common.{subst, arith, append_assoc}
use Rattle.std.specs.List.{AllByRecursion}
use Rattle.std.specs.Int.{to_be_bytes, w32}
use Rattle.std.proofs.lemmas.List.{append-nil}
use Rattle.ts_guard.specs.Sealed.{IsContent, record_of, sealed_record, stream}
use Rattle.ts_guard.specs.Reading.{Begins, IsWrong}
use Rattle.ts_guard.specs.Opening.{HasOpened, IsFault}
use Rattle.ts_guard.specs.Streams.{Came, Event, Opened, Refused, Steps, Waited, came_in}
use Rattle.ts_guard.specs.Streams.{contents_in}
use Rattle.ts_guard.specs.declared.fault.GuardFault.{GuardFault}
use Rattle.ts_guard.specs.declared.fault.GuardFault.TheVariants.{Memory, Length, Version, Tag}
use Rattle.ts_guard.specs.declared.fault.GuardFault.TheVariants.{Number}
use Rattle.ts_guard.specs.declared.opener.Opener.{Opener}
use Rattle.ts_guard.proofs.OneRecord.{sealed_or_end}

-- what came, with what was held before, is the records of the contents, and what is held
abbrev IsFront : List ℕ → List ℕ → Opener → List ℕ → List (List ℕ) → Opener → Type 0
IsFront key context a came contents b = a.held ++ came
    ≡ stream key context a.number contents ++ b.held

came_more : (held piece came next all : List ℕ) → next ≡ held ++ piece → next ++ came ≡ all
    → held ++ (piece ++ came) ≡ all
came_more held piece came next all is same = sym (append_assoc held piece came)
    ∙ ap (λ (l : List ℕ). l ++ came) (sym is) ∙ same

opened_one : (held record_octets next came others rest : List ℕ) → held ≡ record_octets ++ next
    → next ++ came ≡ others ++ rest → held ++ came ≡ (record_octets ++ others) ++ rest
opened_one held record_octets next came others rest is same =
    ap (λ (l : List ℕ). l ++ came) is ∙ append_assoc record_octets next came
    ∙ ap (λ (l : List ℕ). record_octets ++ l) same
    ∙ sym (append_assoc record_octets others rest)

pub front : (key context : List ℕ) (events : List Event) (a b : Opener)
    → Steps key context a events b → IsFront key context a (came_in events) (contents_in events) b
front key context [] a b steps = append-nil a.held ∙ ap (λ (o : Opener). o.held) (sym steps)
front key context (Came piece ∷ events) a b steps =
    let one = steps.1 in
    came_more a.held piece (came_in events) steps.0.held
    (stream key context a.number (contents_in events) ++ b.held) one.held
    (front key context events steps.0 b steps.2
    ∙ ap (λ n. stream key context n (contents_in events) ++ b.held) one.number)
front key context (Opened content ∷ events) a b steps =
    let one = steps.1 in
    opened_one a.held (sealed_record key context a.number content) steps.0.held (came_in events)
    (stream key context (a.number + 1) (contents_in events)) b.held one.held
    (front key context events steps.0 b steps.2
    ∙ ap (λ n. stream key context n (contents_in events) ++ b.held) one.number)
front key context (Waited ∷ events) a b steps =
    subst (λ (o : Opener). IsFront key context o (came_in events) (contents_in events) b) steps.1.0
    (front key context events steps.0 b steps.2)
front key context (Refused fault ∷ events) a b steps =
    subst (λ (o : Opener). IsFront key context o (came_in events) (contents_in events) b) steps.1.0
    (front key context events steps.0 b steps.2)

pub each : (key context : List ℕ) (events : List Event) (a b : Opener)
    → Steps key context a events b → AllByRecursion IsContent (contents_in events)
each key context [] a b steps = tt
each key context (Came piece ∷ events) a b steps = each key context events steps.0 b steps.2
each key context (Opened content ∷ events) a b steps =
    (steps.1.fits, each key context events steps.0 b steps.2)
each key context (Waited ∷ events) a b steps = each key context events steps.0 b steps.2
each key context (Refused fault ∷ events) a b steps = each key context events steps.0 b steps.2

-- ---- a fault stays

begins_more : (octets more : List ℕ) (version : ℕ) (given content : List ℕ)
    → Begins octets version given content → Begins (octets ++ more) version given content
begins_more octets more version given content b =
    record {
      after = b.after ++ more;
      fits = b.fits;
      long = b.long;
      is =
          ap (λ (l : List ℕ). l ++ more) b.is
          ∙ append_assoc (record_of version given content) b.after more;
    }

wrong_more : (key context : List ℕ) (number : ℕ) (fault : GuardFault) (octets more : List ℕ)
    → IsWrong key context number fault octets → IsWrong key context number fault (octets ++ more)
wrong_more key context number Length octets more w = (
  w.0,
  w.1 ++ more,
  w.2,
  w.3,
  ap (λ (l : List ℕ). l ++ more) w.4
      ∙ append_assoc (to_be_bytes w32 w.0) w.1 more,
)
wrong_more key context number Version octets more w =
    (w.0, w.1, w.2, begins_more octets more w.0 w.1 w.2 w.3, w.4)
wrong_more key context number Tag octets more w =
    (w.0, w.1, begins_more octets more 3 w.0 w.1 w.2, w.3)
wrong_more key context number Memory octets more w = w
wrong_more key context number Number octets more w = w

wrong_next : (key context : List ℕ) (fault : GuardFault) (a b : Opener) (piece : List ℕ)
    → b.held ≡ a.held ++ piece → b.number ≡ a.number → IsWrong key context a.number fault a.held
    → IsWrong key context b.number fault b.held
wrong_next key context fault a b piece held number w =
    subst (λ n. IsWrong key context n fault b.held) (sym number)
    (subst (λ (l : List ℕ). IsWrong key context a.number fault l) (sym held)
    (wrong_more key context a.number fault a.held piece w))

fault_next : (key context : List ℕ) (fault : GuardFault) (a b : Opener) (piece : List ℕ)
    → b.held ≡ a.held ++ piece → b.number ≡ a.number → IsFault key context a fault
    → IsFault key context b fault
fault_next key context Memory a b piece held number f = tt
fault_next key context Number a b piece held number f = ap (λ n. n + 1) number ∙ f
fault_next key context Length a b piece held number f =
    (omega (arith, number, f.0), wrong_next key context Length a b piece held number f.1)
fault_next key context Version a b piece held number f =
    (omega (arith, number, f.0), wrong_next key context Version a b piece held number f.1)
fault_next key context Tag a b piece held number f =
    (omega (arith, number, f.0), wrong_next key context Tag a b piece held number f.1)

opens_none : (key context : List ℕ) (fault : GuardFault) (a b : Opener) (content : List ℕ)
    → fault ≢ Memory → IsFault key context a fault → HasOpened key context a content b → ⊥
opens_none key context Memory a b content lasting f h = lasting refl
opens_none key context Number a b content lasting f h = omega (arith, f, h.below)
opens_none key context Length a b content lasting f h =
    sealed_or_end key context a.number a.held content b.held (Some Length) h.fits h.held f.1
opens_none key context Version a b content lasting f h =
    sealed_or_end key context a.number a.held content b.held (Some Version) h.fits h.held f.1
opens_none key context Tag a b content lasting f h =
    sealed_or_end key context a.number a.held content b.held (Some Tag) h.fits h.held f.1

pub none_after : (key context : List ℕ) (fault : GuardFault) (events : List Event) (a b : Opener)
    → fault ≢ Memory → IsFault key context a fault → Steps key context a events b
    → contents_in events ≡ []
none_after key context fault [] a b lasting f steps = refl
none_after key context fault (Came piece ∷ events) a b lasting f steps =
    none_after key context fault events steps.0 b lasting
    (fault_next key context fault a steps.0 piece steps.1.held steps.1.number f) steps.2
none_after key context fault (Opened content ∷ events) a b lasting f steps =
    absurd (opens_none key context fault a steps.0 content lasting f steps.1)
none_after key context fault (Waited ∷ events) a b lasting f steps =
    none_after key context fault events steps.0 b lasting
    (subst (λ (o : Opener). IsFault key context o fault) (sym steps.1.0) f) steps.2
none_after key context fault (Refused other ∷ events) a b lasting f steps =
    none_after key context fault events steps.0 b lasting
    (subst (λ (o : Opener). IsFault key context o fault) (sym steps.1.0) f) steps.2
