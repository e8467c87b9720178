-- Pairs of images, whichever disk is in use; and what stays a part of the prefix.
use Rattle.std.proofs.Common.{◌≡◌, ◌∙◌, ◌⊎◌, ◌≤◌, ◌++◌, ◌∷◌, ℕ, zero, suc, List, [], Option, Some}
use Rattle.std.proofs.Common.{None, Result, Err, IfErr, Bool, true, false, is_some, length, take}
use Rattle.std.proofs.Common.{min, inl, inr, refl, sym, ap, subst, append_assoc, arith, ⊎_elim}
use Rattle.std.proofs.lemmas.List.{length-take}
use Rattle.ts_disk.specs.Disk.{State, IsDisk}
use Rattle.ts_journal.specs.Images.{Member, AnyPair, EveryPair, Opens, OpensFrom}
use Rattle.ts_synod.specs.declared.message.Fact.{Fact}
use Rattle.ts_synod.specs.Force.{SameForce, command_at, first_some, learned_command, log_of}
use Rattle.ts_synod.specs.Log.{prefix}
use Rattle.ts_synod.proofs.Same.{learned_push, same_log}
use Rattle.ts_node.specs.declared.roles.Roles.{Roles}
use Rattle.ts_node.specs.Roles.{StandFor}
use Rattle.ts_record.specs.declared.fault.RecordFault.{RecordFault}
use Rattle.ts_record.specs.declared.fault.RecordFault.TheVariants.{Broken, DiskFailed, GenerationsExhausted, Memory}
use Rattle.ts_record.specs.Facts.{OpensTo}
use Rattle.ts_record.specs.Record.{OpensToFrom, ToBeforeOrAfter}
use Rattle.ts_node.specs.Growing.{IsPart}
use Rattle.ts_node.specs.Node.{ToEither}
use Rattle.ts_node.proofs.Prefix.{Extends, prefix_extends}

either : (m : Member) (swapped : Bool) (bodies : List (List ℕ)) (a b : List ℕ) → OpensFrom m swapped bodies a b → Opens m bodies a b
either m true bodies a b o = inr o
either m false bodies a b o = inl o

pub from_either : {C : Type 0} (octets : C → List ℕ) (m : Member) (swapped : Bool) (facts : List (Fact C)) (a b : List ℕ) → OpensToFrom octets m swapped facts a b → OpensTo octets m facts a b
from_either octets m swapped facts a b o = (o.0, either m swapped o.0 a b o.1, o.2)

pub to_either : {C : Type 0} (octets : C → List ℕ) (m : Member) (swapped : Bool)
    (facts more : List (Fact C)) (a b : List ℕ) → ToBeforeOrAfter octets m swapped facts more a b
    → ToEither octets m facts more a b
to_either octets m swapped facts more a b o = ⊎_elim (λ x. inl (from_either octets m swapped facts a b x)) (λ y. inr (from_either octets m swapped (facts ++ more) a b y)) o

-- where nothing is called, the images stay
pub rests : {C : Type 0} (octets : C → List ℕ) (m k : Member) (swapped : Bool)
    (facts more : List (Fact C)) (a b : State) → m ≡ k → IsDisk a → IsDisk b
    → AnyPair (OpensToFrom octets m swapped facts) a b
    → EveryPair (ToEither octets k facts more) a b a b
rests octets m k swapped facts more a b same da db opens ca cb la lb =
    subst (λ x. ToEither octets x facts more ca cb) same
    (inl (from_either octets m swapped facts ca cb
    (opens ca cb (da.only_now ca la) (db.only_now cb lb))))

first_stays : {A : Type 0} (x y : Option A) → is_some x ≡ true → first_some x y ≡ x
first_stays None y h = absurd (cc)
first_stays (Some a) y h = refl

-- what is learned stays learned
pub log_extends : {C : Type 0} (facts more : List (Fact C)) → Extends (log_of facts) (log_of (facts ++ more))
log_extends facts [] q h = ap (learned_command q) (push_nil facts)
  where
    push_nil : {A : Type 0} (xs : List A) → xs ++ [] ≡ xs
    push_nil [] = refl
    push_nil (x ∷ xs) = ap (λ ys. x ∷ ys) (push_nil xs)
log_extends facts (f ∷ more) q h =
    let e : learned_command q (facts ++ f ∷ []) ≡ learned_command q facts = learned_push facts q f ∙ first_stays (learned_command q facts) (command_at q f) h in
    ap (learned_command q) (sym (append_assoc facts (f ∷ []) more)) ∙ log_extends (facts ++ f ∷ []) more q (ap is_some e ∙ h) ∙ e

take_take : {A : Type 0} (n m : ℕ) (xs : List A) → n ≤ m → take n (take m xs) ≡ take n xs
take_take zero m xs l = refl
take_take (suc n) zero xs l = absurd (omega arith)
take_take (suc n) (suc m) [] l = refl
take_take (suc n) (suc m) (x ∷ xs) l = ap (λ ys. x ∷ ys) (take_take n m xs (omega arith))

pub part_extends : {C : Type 0} (f g : ℕ → Option C) (cs : List C) → Extends f g → IsPart cs f → IsPart cs g
part_extends f g cs more is =
    let n = length (prefix f) in
    let e : length cs ≡ min (length cs) n = ap length is ∙ length-take (length cs) (prefix f) in
    is ∙ ap (take (length cs)) (prefix_extends f g more) ∙ take_take (length cs) n (prefix g) (omega arith)

-- the fault of a call that answers one
pub cause : {T : Type 0} (r : Result T RecordFault) (fault : RecordFault) → r ≡ Err fault
    → IfErr r (λ f. (f ≡ Memory) ⊎ (f ≡ DiskFailed) ⊎ (f ≡ Broken)) → (fault ≡ Memory)
    ⊎ (fault ≡ DiskFailed) ⊎ (fault ≡ Broken)
cause r fault is h = subst (λ x. IfErr x (λ f. (f ≡ Memory) ⊎ (f ≡ DiskFailed) ⊎ (f ≡ Broken))) is h

pub same_refl : {C : Type 0} (fs : List (Fact C)) → SameForce fs fs
same_refl fs = record { used = refl; promised = λ p. refl; taken = λ p. refl; learned = λ p. refl }

-- roles stand for facts of the same force
pub stand_force : {C : Type 0} (roles : Roles C) (fs gs : List (Fact C)) → SameForce gs fs → StandFor roles fs → StandFor roles gs
stand_force roles fs gs force h = record {
  acceptor = record { promised = λ p. h.acceptor.promised p ∙ sym (force.promised p); taken = λ p. h.acceptor.taken p ∙ sym (force.taken p) };
  proposer = h.proposer ∙ sym force.used;
  log = h.log ∙ sym (same_log gs fs force);
  acceptor_config = h.acceptor_config;
  proposer_config = h.proposer_config;
  log_config = h.log_config;
  few = h.few;
}

pub rewrite_cause : {T : Type 0} (r : Result T RecordFault) (fault : RecordFault) → r ≡ Err fault
    → IfErr r (λ f. (f ≡ Memory) ⊎ (f ≡ DiskFailed) ⊎ (f ≡ Broken) ⊎ (f ≡ GenerationsExhausted))
    → (fault ≡ Memory) ⊎ (fault ≡ DiskFailed) ⊎ (fault ≡ Broken) ⊎ (fault ≡ GenerationsExhausted)
rewrite_cause r fault is h = subst (λ x. IfErr x (λ f. (f ≡ Memory) ⊎ (f ≡ DiskFailed) ⊎ (f ≡ Broken) ⊎ (f ≡ GenerationsExhausted))) is h
