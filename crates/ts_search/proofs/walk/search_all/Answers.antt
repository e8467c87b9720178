-- From one length to the next, and the answers.
use Rattle.std.proofs.Common.{◌≡◌, ◌+◌, ◌-◌, ◌<◌, ◌≤◌, ℕ, suc, Bool, List, map, length, take, flat_map, Some, sym, ap, subst, ◌∙◌, arith}
use Rattle.ts_cert.specs.CertView.{cert_in}
use Rattle.ts_search.specs.inside.Levels.{AreRows, chains, level, longer}
use Rattle.ts_search.specs.Search.{NoneOf, IsSearchAnswer}
use Rattle.ts_search.specs.inside.Trial.{FirstOf, AreTriable}
use Rattle.ts_search.specs.View.{search_among}
use Rattle.ts_search.proofs.Takes.{map_take, length_map}
use Rattle.ts_search.proofs.Lengths.{cut_triable, whole, whole_triable, limit_answer, found_answer, end_answer, next_none, next_left, next_level, none_yet, all_left, level_0}
use Rattle.ts_search.proofs.walk.search_all.Goals as goal

some_in : (n k : ℕ) → k ≡ n → 1 ≤ n → 0 < k
some_in n k e h = omega (arith, e, h)

rows_in : (f : ℕ → ℕ → Bool) (n k : ℕ) (rows : List (List ℕ)) → k ≡ n → AreRows f n rows → AreRows f k rows
rows_in f n k rows e h = let P : ℕ → Type 0 = λ m. AreRows f m rows in subst P (sym e) h

pub first_valid-requires : goal.first_valid-requires
first_valid-requires g c =
    let s = search_among c.args.certificates.now c.args.anchors.now c.args.inputs.now c.args.crls.now (g.S.SignatureCheck.accepts c.args.check.now) in
    let rows = map (λ row. row.items) c.in_ok-rows.rows.items in
    let many = length_map cert_in c.args.certificates.now in
    let cs = map (λ c. c.items) c.loop-above.chains.items in
    let t = cut_triable s rows (some_in _ _ many c.requires.some)
    (rows_in _ _ _ rows many c.in_ok-rows.ensures) c.loop-above._above c.loop-above.left cs
    c.loop-above-test.true c.loop-above.invariant.at_hand in
    record {
      triable = subst (AreTriable s.certificates)
          (sym (map_take (λ c. c.items) c.loop-above.left c.deref.result.now
          ∙ ap (λ v. take c.loop-above.left (map (λ c. c.items) v)) c.deref.ensures.value)) t;
      rows =
          c.loop-above.invariant.count;
      dead = c.loop-above.invariant.dead;
    }

pub returns-then-left-len : goal.returns-then-left-len
returns-then-left-len g c =
    let s = search_among c.args.certificates.now c.args.anchors.now c.args.inputs.now c.args.crls.now (g.S.SignatureCheck.accepts c.args.check.now) in
    let rows = map (λ row. row.items) c.in_ok-rows.rows.items in
    let many = length_map cert_in c.args.certificates.now in
    let cs = map (λ c. c.items) c.loop-above.chains.items in
    let tried = map (λ c. c.items) (take c.loop-above.left c.deref.result.now) in
    let size = length_map (λ c. c.items) c.loop-above.chains.items ∙ (ap length (sym c.deref.ensures.value) ∙ c.deref.ensures.len) in
    subst (IsSearchAnswer s) (sym c.unwrap_or.ensures)
    (limit_answer s rows (some_in _ _ many c.requires.some)
    (rows_in _ _ _ rows many c.in_ok-rows.ensures) c.loop-above._above c.loop-above.left cs tried
    c.in_ok-found.found c.loop-above-test.true c.loop-above.invariant.at_hand
    c.loop-above.invariant.left_is c.loop-above.invariant.none
    (omega (arith, size, c.len.ensures, c.if-left-len.true))
    (map_take (λ c. c.items) c.loop-above.left c.deref.result.now
    ∙ ap (λ v. take c.loop-above.left (map (λ c. c.items) v)) c.deref.ensures.value)
    c.in_ok-found.ensures.found)

pub first_valid-requires-in-loop-above : goal.first_valid-requires-in-loop-above
first_valid-requires-in-loop-above g c =
    let s = search_among c.args.certificates.now c.args.anchors.now c.args.inputs.now c.args.crls.now (g.S.SignatureCheck.accepts c.args.check.now) in
    let rows = map (λ row. row.items) c.in_ok-rows.rows.items in
    let many = length_map cert_in c.args.certificates.now in
    let cs = map (λ c. c.items) c.loop-above.chains.items in
    let d = c.deref-in-loop-above in
    let size = length_map (λ c. c.items) c.loop-above.chains.items ∙ (ap length (sym d.ensures.value) ∙ d.ensures.len) in
    let t = whole_triable s rows (some_in _ _ many c.requires.some)
    (rows_in _ _ _ rows many c.in_ok-rows.ensures) c.loop-above._above c.loop-above.left cs
    c.loop-above-test.true c.loop-above.invariant.at_hand
    (omega (arith, size, c.len.ensures, c.if-left-len.false)) in
    record { triable = subst (AreTriable s.certificates) (ap (map (λ c. c.items)) (sym d.ensures.value)) t; rows = c.loop-above.invariant.count; dead = c.loop-above.invariant.dead }

pub returns-in-Some : goal.returns-in-Some
returns-in-Some g c =
    let s = search_among c.args.certificates.now c.args.anchors.now c.args.inputs.now c.args.crls.now (g.S.SignatureCheck.accepts c.args.check.now) in
    let rows = map (λ row. row.items) c.in_ok-rows.rows.items in
    let many = length_map cert_in c.args.certificates.now in
    let cs = map (λ c. c.items) c.loop-above.chains.items in
    let d = c.deref-in-loop-above in
    let size = length_map (λ c. c.items) c.loop-above.chains.items ∙ (ap length (sym d.ensures.value) ∙ d.ensures.len) in
    let P : List (List ℕ) → Type 0 = λ ts. FirstOf s ts (Some c.in-Some.found) in
    let first = subst P (ap (map (λ c. c.items)) d.ensures.value) (subst (FirstOf s (map (λ c. c.items) d.result.now)) c.in-Some.is c.in_ok-found-2.ensures.found) in
    found_answer s rows (some_in _ _ many c.requires.some)
    (rows_in _ _ _ rows many c.in_ok-rows.ensures) c.loop-above._above c.loop-above.left cs
    c.in-Some.found c.loop-above-test.true c.loop-above.invariant.at_hand
    c.loop-above.invariant.left_is c.loop-above.invariant.none
    (omega (arith, size, c.len.ensures, c.if-left-len.false)) first

pub overflow_add-left : goal.overflow_add-left
overflow_add-left g c = let h = c.loop-above.invariant.left_is in omega (arith, h)

pub returns : goal.returns
returns g c =
    let s = search_among c.args.certificates.now c.args.anchors.now c.args.inputs.now c.args.crls.now (g.S.SignatureCheck.accepts c.args.check.now) in
    let rows = map (λ row. row.items) c.in_ok-rows.rows.items in
    let many = length_map cert_in c.args.certificates.now in
    end_answer s rows (some_in _ _ many c.requires.some)
    (rows_in _ _ _ rows many c.in_ok-rows.ensures) c.loop-above._above c.loop-above.left
    (omega (arith, c.loop-above-test.false, c.loop-above.auto._above-end))
    c.loop-above.invariant.left_is c.loop-above.invariant.none

pub loop-above-init : goal.loop-above-init
loop-above-init g c =
    let s = search_among c.args.certificates.now c.args.anchors.now c.args.inputs.now c.args.crls.now (g.S.SignatureCheck.accepts c.args.check.now) in
    let rows = map (λ row. row.items) c.in_ok-rows.rows.items in
    let many = length_map cert_in c.args.certificates.now in
    let some = some_in _ _ many c.requires.some in
    let are = rows_in _ _ _ rows many c.in_ok-rows.ensures in
    record {
      at_hand = c.in_ok-chains.ensures ∙ ap (take 4097) (level_0 s rows some are);
      left_is =
          all_left s rows some are;
      none = none_yet s rows some are;
      count =
          c.in_ok-fronts.ensures.length;
      dead = c.in_ok-fronts.ensures.dead _ _ _;
    }

pub loop-above-preserved : goal.loop-above-preserved
loop-above-preserved g c =
    let s = search_among c.args.certificates.now c.args.anchors.now c.args.inputs.now c.args.crls.now (g.S.SignatureCheck.accepts c.args.check.now) in
    let rows = map (λ row. row.items) c.in_ok-rows.rows.items in
    let many = length_map cert_in c.args.certificates.now in
    let some = some_in _ _ many c.requires.some in
    let are = rows_in _ _ _ rows many c.in_ok-rows.ensures in
    let cs = map (λ c. c.items) c.loop-above.chains.items in
    let n = c.loop-above._above in
    let d = c.deref-in-loop-above in
    let size = length_map (λ c. c.items) c.loop-above.chains.items ∙ (ap length (sym d.ensures.value) ∙ d.ensures.len) in
    let few : length cs ≤ c.loop-above.left = omega (arith, size, c.len.ensures, c.if-left-len.false) in
    let is_whole = whole s rows some are n c.loop-above.left cs c.loop-above.invariant.at_hand few in
    let long : length (level rows n) ≡ c.len-left.result = sym (ap length is_whole) ∙ (size ∙ sym c.len-left.ensures) in
    let none_here = subst (FirstOf s (map (λ c. c.items) d.result.now)) c.in_default.is c.in_ok-found-2.ensures.found in
    let less : length (level rows n) ≤ c.loop-above.left = let k = ap length is_whole in omega (arith, k, few) in
    let left_is = next_left s rows some are n c.loop-above.left c.loop-above.invariant.left_is less in
    let P : ℕ → Type 0 = λ k. (c.loop-above.left - k) + length (chains rows (suc n)) ≡ 4096 in
    let up : suc n ≡ n + 1 = omega arith in
    let L : ℕ → Type 0 = λ k. (c.loop-above.left - c.len-left.result) + length (chains rows k) ≡ 4096 in
    let N : ℕ → Type 0 = λ k. NoneOf s (chains rows k) in
    record {
      at_hand = c.in_ok-chains-2.ensures
          ∙ (ap (λ v. take ((c.loop-above.left - c.len-left.result) + 1)
          (flat_map (longer (map (λ row. row.items) v))
          (map (λ c. c.items) c.deref-in-loop-above-3.result.now)))
          c.deref-in-loop-above-2.ensures.value
          ∙ (ap (λ v. take ((c.loop-above.left - c.len-left.result) + 1) (flat_map (longer rows) (map (λ c. c.items) v))) c.deref-in-loop-above-3.ensures.value
          ∙ (ap (λ v. take ((c.loop-above.left - c.len-left.result) + 1) (flat_map (longer rows) v))
          is_whole ∙ (ap (take ((c.loop-above.left - c.len-left.result) + 1))
          (next_level s rows some are n)
          ∙ ap (λ (k : ℕ). take ((c.loop-above.left - c.len-left.result) + 1) (level rows k))
          up))));
      left_is = subst L up (subst P long left_is);
      none = subst N up (next_none s rows some are n c.loop-above.invariant.none (subst (NoneOf s) (ap (map (λ c. c.items)) d.ensures.value ∙ is_whole) none_here));
      count = c.in_ok-found-2.ensures.rows;
      dead = c.in_ok-found-2.ensures.dead;
    }
