-- The rows of issuers.
use Rattle.std.proofs.Common.{◌≡◌, ℕ, zero, suc, ◌+◌, ◌<◌, Bool, true, false, cond, List, [], ◌∷◌, ◌++◌, map, filter, length, get_or, Some, slice_get, option_map, refl, sym, ap, ◌∙◌, arith}
use Rattle.std.specs.List.{range_with_len}
use Rattle.std.proofs.lemmas.List.Elements.{filter-append}
use Rattle.std.proofs.lemmas.Option.{slice_get-map}
use Rattle.std.proofs.lemmas.List.{append-nil}
use Rattle.std.proofs.lemmas.List.FromFn.{map-range_with_len_more}
use Rattle.ts_name.specs.Sameness.{is_same_name}
use Rattle.ts_cert.specs.declared.certificate.Cert.{Cert}
use Rattle.ts_cert.specs.CertView.{cert_in}
use Rattle.ts_search.specs.Candidates.{issues, is_issued_by}
use Rattle.ts_search.specs.inside.Levels.{row_at, issuers, AreRows}

pub range_more : (a n : ℕ) → range_with_len a (n + 1) ≡ range_with_len a n ++ (a + n) ∷ []
range_more a zero = ap (λ k. k ∷ []) (let e : a ≡ a + 0 = omega arith in e)
range_more a (suc n) = ap (range_with_len a) (let e : suc n + 1 ≡ suc (n + 1) = omega arith in e)
    ∙ ap (λ t. a ∷ t) (range_more (a + 1) n
    ∙ ap (λ k. range_with_len (a + 1) n ++ k ∷ [])
    (let e : (a + 1) + n ≡ a + suc n = omega arith in e))

-- one more place
pub filter_more : (p : ℕ → Bool) (i : ℕ) → filter p (range_with_len 0 (i + 1)) ≡ filter p (range_with_len 0 i) ++ cond (p i) (i ∷ []) []
filter_more p i = ap (filter p) (range_more 0 i ∙ ap (λ k. range_with_len 0 i ++ k ∷ []) (let e : 0 + i ≡ i = omega arith in e)) ∙ filter-append p (range_with_len 0 i) (i ∷ [])

row_of : (f : ℕ → List ℕ) (a n i : ℕ) → i < n → row_at (map f (range_with_len a n)) i ≡ f (a + i)
row_of f a zero i h = absurd (omega (arith, h))
row_of f a (suc n) zero h = ap f (let e : a ≡ a + 0 = omega arith in e)
row_of f a (suc n) (suc i) h = row_of f (a + 1) n i (omega (arith, h)) ∙ ap f (let e : (a + 1) + i ≡ a + suc i = omega arith in e)

-- rows made one by one
pub rows_made : (f : ℕ → ℕ → Bool) (count : ℕ) (rows : List (List ℕ)) → rows ≡ map (issuers f count) (range_with_len 0 count) → AreRows f count rows
rows_made f count rows e i h = ap (λ r. row_at r i) e ∙ (row_of (issuers f count) 0 count i h ∙ ap (issuers f count) (let e : 0 + i ≡ i = omega arith in e))

-- the test of two places
pub issues_is : (certificates : List Cert) (i j : ℕ) (above cert : Cert)
    → slice_get certificates i ≡ Some above → slice_get certificates j ≡ Some cert
    → issues (map cert_in certificates) i j ≡ is_same_name (cert_in cert).tbsCertificate.issuer
    (cert_in above).tbsCertificate.subject
unfolding issues
issues_is certificates i j above cert a b =
    ap (λ o. is_issued_by o (slice_get (map cert_in certificates) i)) (slice_get-map cert_in certificates j ∙ ap (option_map cert_in) b)
    ∙ ap (λ o. is_issued_by (Some (cert_in cert)) o) (slice_get-map cert_in certificates i ∙ ap (option_map cert_in) a)

some_at : {X : Type 0} (xs : List X) (i : ℕ) (x : X) → i < length xs → x ≡ get_or xs i x → slice_get xs i ≡ Some x
some_at [] i x h e = absurd (omega (arith, h))
some_at (y ∷ xs) zero x h e = ap Some (sym e)
some_at (y ∷ xs) (suc i) x h e = some_at xs i x (omega (arith, h)) e

-- the test of the certificates at two places
pub test_is : (certificates : List Cert) (i j : ℕ) (above cert : Cert) (b : Bool)
    → i < length certificates → j < length certificates → above ≡ get_or certificates i above
    → cert ≡ get_or certificates j cert
    → b ≡ is_same_name (cert_in cert).tbsCertificate.issuer (cert_in above).tbsCertificate.subject → issues (map cert_in certificates) i j ≡ b
test_is certificates i j above cert b hi hj ei ej e = issues_is certificates i j above cert (some_at certificates i above hi ei) (some_at certificates j cert hj ej) ∙ sym e

pub one_more_issuer : (p : ℕ → Bool) (i : ℕ) (row more : List ℕ) → row ≡ filter p (range_with_len 0 i) → p i ≡ true → more ≡ row ++ i ∷ [] → more ≡ filter p (range_with_len 0 (i + 1))
one_more_issuer p i row more e t m = m ∙ (ap (λ r. r ++ i ∷ []) e ∙ sym (filter_more p i ∙ ap (λ b. filter p (range_with_len 0 i) ++ cond b (i ∷ []) []) t))

pub no_issuer : (p : ℕ → Bool) (i : ℕ) (row : List ℕ) → row ≡ filter p (range_with_len 0 i) → p i ≡ false → row ≡ filter p (range_with_len 0 (i + 1))
no_issuer p i row e t = e ∙ sym (filter_more p i ∙ (ap (λ b. filter p (range_with_len 0 i) ++ cond b (i ∷ []) []) t ∙ append-nil (filter p (range_with_len 0 i))))

pub map_more : {X Y : Type 0} (f : X → Y) (xs : List X) (x : X) → map f (xs ++ x ∷ []) ≡ map f xs ++ f x ∷ []
map_more f [] x = refl
map_more f (y ∷ xs) x = ap (λ t. f y ∷ t) (map_more f xs x)

-- one more row
pub one_more_row : {X : Type 0} (item : X → List ℕ) (f : ℕ → List ℕ) (n : ℕ) (rows more : List X)
    (row : X) → map item rows ≡ map f (range_with_len 0 n) → more ≡ rows ++ row ∷ []
    → item row ≡ f n → map item more ≡ map f (range_with_len 0 (n + 1))
one_more_row item f n rows more row e m r =
    ap (map item) m ∙ (map_more item rows row ∙ (ap (λ t. t ++ item row ∷ []) e ∙ (ap (λ y. map f (range_with_len 0 n) ++ y ∷ []) r ∙ sym (map-range_with_len_more f 0 n n (omega arith)))))
