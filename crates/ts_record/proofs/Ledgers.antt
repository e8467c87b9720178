-- A ledger before and after a step of a rewrite, and an append.
use Rattle.std.proofs.Common.{◌≡◌, ◌⊎◌, inl, inr, ⊎_elim, ◌≤◌, ◌<◌, ◌+◌, ℕ, zero, suc, Bool, true}
use Rattle.std.proofs.Common.{false, cond, List, [], ◌∷◌, ◌++◌, length, take, get_or, refl, sym}
use Rattle.std.proofs.Common.{◌∙◌, ap, subst, arith, length-append}
use Rattle.std.proofs.lemmas.List.{take_more, append-nil}
use Rattle.ts_disk.specs.Disk.{State, IsDisk}
use Rattle.ts_journal.specs.Images.{Member, IsBody, entry, OpensFrom, BeforeOrAfter, OneOrOther, AnyPair}
use Rattle.ts_journal.specs.Settled.{Holds, member_in, EveryMoment, disk_a, disk_b}
use Rattle.ts_journal.specs.declared.journal.Journal.{Journal}
use Rattle.ts_journal.specs.declared.journal.Stage.{Stage}
use Rattle.ts_journal.specs.declared.journal.Stage.TheVariants.{Live, Closed, Begun, Copying}
use Rattle.ts_journal.proofs.Rests.{opens, any, rests}
use Rattle.ts_synod.specs.Force.{SameForce}
use Rattle.ts_synod.proofs.Same.{same_append}
use Rattle.ts_synod.specs.declared.message.Fact.{Fact}
use Rattle.ts_record.specs.declared.ledger.Ledger.{Ledger}
use Rattle.ts_record.specs.Compacted.{compact}
use Rattle.ts_record.specs.Facts.{fact_encoding, encodings, AllFit, AreFacts}
use Rattle.ts_record.specs.Kept.{Keeps, rewrite_of}
use Rattle.ts_record.specs.Record.{OpensToFrom, OpensToForce, ToBeforeOrAfter}
use Rattle.ts_record.specs.Rewrite.{Rewrite, idle, begun, copying, rewrite_at, with_more, IsReady, IsUnderWay}
use Rattle.ts_record.proofs.Forces.{same_force}
use Rattle.ts_record.proofs.Ready.{ready_facts, ready_more, all_more, all_at, all_compacted}
use Rattle.ts_record.proofs.Encodings.{one_octet, some}
use Rattle.ts_record.proofs.Walk.{are_more}

pub force_refl : {C : Type 0} (facts : List (Fact C)) → SameForce facts facts
force_refl facts = record { used = refl; promised = λ p. refl; taken = λ p. refl; learned = λ p. refl }

take_front : {X : Type 0} (n : ℕ) (xs ys : List X) → n ≤ length xs → take n (xs ++ ys) ≡ take n xs
take_front zero xs ys le = refl
take_front (suc n) [] ys le = absurd (omega (arith, le))
take_front (suc n) (x ∷ xs) ys le = ap (λ l. x ∷ l) (take_front n xs ys (omega (arith, le)))

take_whole : {X : Type 0} (n : ℕ) (xs : List X) → n ≡ length xs → take n xs ≡ xs
take_whole zero [] is = refl
take_whole zero (x ∷ xs) is = absurd (omega (arith, is))
take_whole (suc n) [] is = absurd (omega (arith, is))
take_whole (suc n) (x ∷ xs) is = ap (λ l. x ∷ l) (take_whole n xs (omega (arith, is)))

module _ {D C : Type 0} (state : D → State) (lawful : (d : D) → IsDisk (state d)) (octets : C → List ℕ) where
  -- what is under way, where a rewrite is known to be as far as r
  pub under : (c : Ledger D C) (keeps : Keeps state octets c) (r : Rewrite C) → rewrite_of c ≡ r → IsUnderWay octets c.facts.items keeps.1 r
  under c keeps r is = subst (IsUnderWay octets c.facts.items keeps.1) is keeps.4

  pub keeps_as : (j : Journal D) (facts : List (Fact C)) (at : Rewrite C)
      (bodies copied : List (List ℕ)) (r : Rewrite C) → Holds state bodies copied j
      → AreFacts octets bodies facts → at ≡ r → IsUnderWay octets facts copied r
      → (bodies copied : List (List ℕ)) × Holds state bodies copied j × AreFacts octets bodies facts × IsUnderWay octets facts copied at
  keeps_as j facts at bodies copied r holds are is way = (bodies, copied, holds, are, subst (IsUnderWay octets facts copied) (sym is) way)

  -- the journal's bodies are facts
  pub from_bodies : (old new : Journal D) (m : Member) (swapped : Bool) (bodies : List (List ℕ))
      (facts : List (Fact C)) → AreFacts octets bodies facts
      → EveryMoment state (OpensFrom m swapped bodies) old new
      → EveryMoment state (OpensToFrom octets m swapped facts) old new
  from_bodies old new m swapped bodies facts are run ca cb left_a left_b = (bodies, run ca cb left_a left_b, are)

  pub rest_from : (c : Ledger D C) → Keeps state octets c → EveryMoment state (OpensToFrom octets (member_in c.journal) c.journal.swapped c.facts.items) c.journal c.journal
  rest_from c keeps = from_bodies c.journal c.journal (member_in c.journal) c.journal.swapped keeps.0 c.facts.items keeps.3 (rests state lawful c.journal keeps.0 keeps.1 keeps.2)

  pub to_force : (old new : Journal D) (m : Member) (swapped : Bool) (facts : List (Fact C))
      → EveryMoment state (OpensToFrom octets m swapped facts) old new
      → EveryMoment state (OpensToForce octets m facts) old new
  to_force old new m swapped facts run ca cb left_a left_b = let r = run ca cb left_a left_b in (facts, (r.0, opens m swapped r.0 ca cb r.1, r.2), force_refl facts)

  -- each pair that a crash may leave
  pub any_from : (c : Ledger D C) → Keeps state octets c → AnyPair (OpensToFrom octets (member_in c.journal) c.journal.swapped c.facts.items) (state (disk_a c.journal)) (state (disk_b c.journal))
  any_from c keeps ca cb left_a left_b = (keeps.0, any state c.journal keeps.0 keeps.1 keeps.2 ca cb left_a left_b, keeps.3)

  -- what the first step decides
  pub begins : (c : Ledger D C) (list : List (Fact C)) → Keeps state octets c → list ≡ compact c.facts.items → (copied : List (List ℕ)) → IsUnderWay octets c.facts.items copied (begun list)
  begins c list keeps is copied =
      let stands = keeps.2.journal.stands in
      let ready = ready_facts octets c.facts.items keeps.0 stands.blocks stands.whole stands.are keeps.3 in
      subst (λ l. IsUnderWay octets c.facts.items copied (begun l)) (sym is) (same_force c.facts.items, all_compacted (IsReady octets) c.facts.items ready)

  pub starts_copying : (facts list : List (Fact C)) (copied : List (List ℕ)) → IsUnderWay octets facts copied (begun list) → IsUnderWay octets facts [] (copying list 0)
  starts_copying facts list copied way = (way.0, way.1, omega arith, record { groups = []; fit = tt; encoded = refl; joined = refl })

  pub is_ready : (facts list : List (Fact C)) (f : Fact C) (done : ℕ) (copied : List (List ℕ))
      → IsUnderWay octets facts copied (copying list done) → done < length list
      → f ≡ get_or list done f → IsReady octets f
  is_ready facts list f done copied way le is = subst (IsReady octets) (sym is) (all_at (IsReady octets) list done f le way.1)

  pub is_one_body : (f : Fact C) → IsReady octets f → IsBody (fact_encoding octets f)
  is_one_body f ready = record { some = one_octet octets f; short = ready.1 }

  pub one_copied : (facts list : List (Fact C)) (f : Fact C) (done : ℕ) (copied : List (List ℕ)) → IsUnderWay octets facts copied (copying list done) → done < length list → f ≡ get_or list done f
      → IsUnderWay octets facts (copied ++ fact_encoding octets f ∷ []) (copying list (done + 1))
  one_copied facts list f done copied way le is =
      let next : take (done + 1) list ≡ take done list ++ f ∷ [] = take_more list done f le ∙ ap (λ x. take done list ++ x ∷ []) (sym is) in (
        way.0,
        way.1,
        omega (arith, le),
        subst (AreFacts octets (copied ++ fact_encoding octets f ∷ [])) (sym next)
            (are_more octets copied (take done list) (f ∷ []) (fact_encoding octets f) way.3 ((is_ready facts list f done copied way le is).0, tt) (sym (append-nil (fact_encoding octets f)))),
      )

  pub all_copied : (facts list : List (Fact C)) (done : ℕ) (copied : List (List ℕ)) → IsUnderWay octets facts copied (copying list done) → done ≡ length list → AreFacts octets copied list
  all_copied facts list done copied way is = subst (AreFacts octets copied) (take_whole done list is) way.3

  pub switches : (old new : Journal D) (m : Member) (facts list : List (Fact C))
      (bodies copied : List (List ℕ)) → AreFacts octets bodies facts → AreFacts octets copied list
      → SameForce list facts → EveryMoment state (OneOrOther m bodies copied) old new
      → EveryMoment state (OpensToForce octets m facts) old new
  switches old new m facts list bodies copied are others force run ca cb left_a left_b = ⊎_elim
      (λ o. (facts, (bodies, o, are), force_refl facts))
      (λ o. (list, (copied, o, others), force))
      (run ca cb left_a left_b)

  -- more facts
  pub more_under_way : (facts more : List (Fact C)) (copied : List (List ℕ)) (r : Rewrite C)
      → AllFit octets more → length (encodings octets more) ≤ 4194500
      → IsUnderWay octets facts copied r
      → IsUnderWay octets (facts ++ more) copied (with_more r more)
  more_under_way facts more copied idle fit short way = tt
  more_under_way facts more copied (begun list) fit short way = (same_append list facts more way.0, all_more (IsReady octets) list more way.1 (ready_more octets more fit short))
  more_under_way facts more copied (copying list done) fit short way = (
    same_append list facts more way.0,
    all_more (IsReady octets) list more way.1 (ready_more octets more fit short),
    omega (arith, way.2, length-append list more),
    subst (AreFacts octets copied) (sym (take_front done list more way.2)) way.3,
  )

  pub rewrites_more : (stage : Stage) (b : Bool) (list later more : List (Fact C)) (done : ℕ)
      → later ≡ list ++ cond b more [] → (rewrite_at stage list done ≡ idle) ⊎ (b ≡ true)
      → rewrite_at stage later done ≡ with_more (rewrite_at stage list done) more
  rewrites_more Live b list later more done is way = refl
  rewrites_more Closed b list later more done is way = refl
  rewrites_more Begun true list later more done is way = ap begun is
  rewrites_more Begun false list later more done is way = ⊎_elim (λ e. absurd (cc e)) (λ e. absurd (cc e)) way
  rewrites_more Copying true list later more done is way = ap (λ l. copying l done) is
  rewrites_more Copying false list later more done is way = ⊎_elim (λ e. absurd (cc e)) (λ e. absurd (cc e)) way

  pub moves_facts : (old new : Journal D) (facts more : List (Fact C))
      (bodies copied : List (List ℕ)) (text : List ℕ) → AreFacts octets bodies facts
      → Holds state bodies copied old → AllFit octets more → IsBody (encodings octets more)
      → text ≡ entry (encodings octets more)
      → ((bodies copied : List (List ℕ)) (body : List ℕ) → IsBody body → text ≡ entry body
      → Holds state bodies copied old
      → EveryMoment state (BeforeOrAfter (member_in old) old.swapped bodies body) old new)
      → EveryMoment state (ToBeforeOrAfter octets (member_in old) old.swapped facts more) old new
  moves_facts old new facts more bodies copied text are holds fit body is run ca cb left_a left_b = ⊎_elim
      (λ before. inl (bodies, before, are))
      (λ after. inr (bodies ++ encodings octets more ∷ [], after, are_more octets bodies facts more (encodings octets more) are fit refl))
      (run bodies copied (encodings octets more) body is holds ca cb left_a left_b)

  pub rest_moves : (c : Ledger D C) (more : List (Fact C)) → Keeps state octets c
      → EveryMoment state (ToBeforeOrAfter octets (member_in c.journal) c.journal.swapped
      c.facts.items more) c.journal c.journal
  rest_moves c more keeps ca cb left_a left_b = inl (rest_from c keeps ca cb left_a left_b)

  pub is_facts_body : (more : List (Fact C)) → 0 < length more → length (encodings octets more) ≤ 4194500 → IsBody (encodings octets more)
  is_facts_body more some_more short = record { some = some octets more some_more; short = short }
