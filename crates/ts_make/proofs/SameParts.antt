-- Parts that say the same, wherever their octets lie, describe the same extensions.
use Rattle.std.proofs.Common.{◌≡◌, ℕ, Option, List, [], ◌∷◌, refl, ap, arith}
use Rattle.std.specs.List.{flat_map}
use Rattle.ts_make.specs.declared.description.NameText.{NameText}
use Rattle.ts_make.specs.declared.description.NameText.TheVariants.{Dns, Ip, Mail}
use Rattle.ts_make.specs.declared.description.ExtensionText.{ExtensionText}
use Rattle.ts_make.specs.declared.description.ExtensionText.TheVariants as part
use Rattle.ts_make.specs.declared.items.Items.{Items}
use Rattle.ts_make.specs.declared.items.Items.TheVariants as items
use Rattle.ts_make.specs.declared.kind.Kind.{Kind}
use Rattle.ts_make.specs.declared.kind.Kind.TheVariants as kind
use Rattle.ts_make.specs.Items.{general_name, item, items_of}
use Rattle.ts_make.specs.KeyUsage.{number_in}
use Rattle.ts_make.specs.Extensions.{part_extensions, constraints_content, policy_constraints_content, of_kind, kinds, described_extensions}

-- ---- parts

abbrev pub IsSameName : NameText → NameText → Type 0
IsSameName (Dns a) (Dns b) = a.now ≡ b.now
IsSameName (Ip a) (Ip b) = a.now ≡ b.now
IsSameName (Mail a) (Mail b) = a.now ≡ b.now
IsSameName a b = ⊥

abbrev pub IsSamePart : ExtensionText → ExtensionText → Type 0
IsSamePart (part.KeyUsage a) (part.KeyUsage b) = a ≡ b
IsSamePart (part.SubjectAltName a) (part.SubjectAltName b) = IsSameName a b
IsSamePart (part.BasicConstraints a) (part.BasicConstraints b) = a ≡ b
IsSamePart (part.PermittedSubtree a) (part.PermittedSubtree b) = IsSameName a b
IsSamePart (part.ExcludedSubtree a) (part.ExcludedSubtree b) = IsSameName a b
IsSamePart (part.DistributionPoint a) (part.DistributionPoint b) = a.now ≡ b.now
IsSamePart (part.Policy a) (part.Policy b) = a.content.now ≡ b.content.now
IsSamePart (part.PolicyMapping a b) (part.PolicyMapping c d) = (a.content.now ≡ c.content.now) × (b.content.now ≡ d.content.now)
IsSamePart (part.RequireExplicitPolicy a) (part.RequireExplicitPolicy b) = a ≡ b
IsSamePart (part.InhibitPolicyMapping a) (part.InhibitPolicyMapping b) = a ≡ b
IsSamePart (part.KeyPurpose a) (part.KeyPurpose b) = a.content.now ≡ b.content.now
IsSamePart (part.InhibitAnyPolicy a) (part.InhibitAnyPolicy b) = a ≡ b
IsSamePart (part.Critical a) (part.Critical b) = a.content.now ≡ b.content.now
IsSamePart a b = ⊥

abbrev pub AreSameParts : List ExtensionText → List ExtensionText → Type 0
AreSameParts [] [] = Unit {0}
AreSameParts (a ∷ as_) (b ∷ bs) = IsSamePart a b × AreSameParts as_ bs
AreSameParts as_ bs = ⊥

-- ---- what one part puts where

name-same : (a b : NameText) → IsSameName a b → general_name a ≡ general_name b
name-same (Dns a) (Dns b) e = rw e refl
name-same (Ip a) (Ip b) e = rw e refl
name-same (Mail a) (Mail b) e = rw e refl
name-same a b e = absurd e

alternative-same : (l : Items) (a b : NameText) → IsSameName a b → item l (part.SubjectAltName a) ≡ item l (part.SubjectAltName b)
alternative-same items.AlternativeNames a b e = name-same a b e
alternative-same l a b e = refl

permitted-same : (l : Items) (a b : NameText) → IsSameName a b → item l (part.PermittedSubtree a) ≡ item l (part.PermittedSubtree b)
permitted-same items.PermittedSubtrees a b e = rw (name-same a b e) refl
permitted-same l a b e = refl

excluded-same : (l : Items) (a b : NameText) → IsSameName a b → item l (part.ExcludedSubtree a) ≡ item l (part.ExcludedSubtree b)
excluded-same items.ExcludedSubtrees a b e = rw (name-same a b e) refl
excluded-same l a b e = refl

item-same : (l : Items) (a b : ExtensionText) → IsSamePart a b → item l a ≡ item l b
item-same l (part.KeyUsage a) (part.KeyUsage b) e = ap (λ (n : ℕ). item l (part.KeyUsage n)) e
item-same l (part.SubjectAltName a) (part.SubjectAltName b) e = alternative-same l a b e
item-same l (part.BasicConstraints a) (part.BasicConstraints b) e = ap (λ (o : Option ℕ). item l (part.BasicConstraints o)) e
item-same l (part.PermittedSubtree a) (part.PermittedSubtree b) e = permitted-same l a b e
item-same l (part.ExcludedSubtree a) (part.ExcludedSubtree b) e = excluded-same l a b e
item-same l (part.DistributionPoint a) (part.DistributionPoint b) e = by_list l
  where
    by_list : (l : Items) → item l (part.DistributionPoint a) ≡ item l (part.DistributionPoint b)
    by_list items.DistributionPoints = rw e refl
    by_list other = refl
item-same l (part.Policy a) (part.Policy b) e = by_list l
  where
    by_list : (l : Items) → item l (part.Policy a) ≡ item l (part.Policy b)
    by_list items.Policies = rw e refl
    by_list other = refl
item-same l (part.PolicyMapping a b) (part.PolicyMapping c d) e = by_list l
  where
    by_list : (l : Items) → item l (part.PolicyMapping a b) ≡ item l (part.PolicyMapping c d)
    by_list items.PolicyMappings = rw (e.0, e.1) refl
    by_list other = refl
item-same l (part.RequireExplicitPolicy a) (part.RequireExplicitPolicy b) e = ap (λ (n : ℕ). item l (part.RequireExplicitPolicy n)) e
item-same l (part.InhibitPolicyMapping a) (part.InhibitPolicyMapping b) e = ap (λ (n : ℕ). item l (part.InhibitPolicyMapping n)) e
item-same l (part.KeyPurpose a) (part.KeyPurpose b) e = by_list l
  where
    by_list : (l : Items) → item l (part.KeyPurpose a) ≡ item l (part.KeyPurpose b)
    by_list items.KeyPurposes = rw e refl
    by_list other = refl
item-same l (part.InhibitAnyPolicy a) (part.InhibitAnyPolicy b) e = ap (λ (n : ℕ). item l (part.InhibitAnyPolicy n)) e
item-same l (part.Critical a) (part.Critical b) e = by_list l
  where
    by_list : (l : Items) → item l (part.Critical a) ≡ item l (part.Critical b)
    by_list items.KeyPurposes = refl
    by_list other = refl
item-same l a b e = absurd e

number-same : (a b : ExtensionText) → IsSamePart a b → number_in a ≡ number_in b
number-same (part.KeyUsage a) (part.KeyUsage b) e = rw e refl
number-same a b e = grind arith

limit-same : (a b : ExtensionText) → IsSamePart a b → part_extensions kind.BasicConstraints a ≡ part_extensions kind.BasicConstraints b
limit-same (part.BasicConstraints a) (part.BasicConstraints b) e = rw e refl
limit-same a b e = grind arith

any-same : (a b : ExtensionText) → IsSamePart a b → part_extensions kind.InhibitAnyPolicy a ≡ part_extensions kind.InhibitAnyPolicy b
any-same (part.InhibitAnyPolicy a) (part.InhibitAnyPolicy b) e = rw e refl
any-same a b e = grind arith

critical-same : (a b : ExtensionText) → IsSamePart a b → part_extensions kind.Critical a ≡ part_extensions kind.Critical b
critical-same (part.Critical a) (part.Critical b) e = rw e refl
critical-same a b e = grind arith

-- ---- all parts

pieces-same : {A : Type 0} (f : ExtensionText → List A) → ((a b : ExtensionText) → IsSamePart a b → f a ≡ f b) → (xs ys : List ExtensionText) → AreSameParts xs ys → flat_map f xs ≡ flat_map f ys
pieces-same f each [] [] same = refl
pieces-same f each (x ∷ xs) (y ∷ ys) same = rw (each x y same.0, pieces-same f each xs ys same.1) refl
pieces-same f each [] (y ∷ ys) same = absurd same
pieces-same f each (x ∷ xs) [] same = absurd same

items-same : (l : Items) (xs ys : List ExtensionText) → AreSameParts xs ys → items_of l xs ≡ items_of l ys
items-same l xs ys same = pieces-same (item l) (item-same l) xs ys same

kind-same : (k : Kind) (xs ys : List ExtensionText) → AreSameParts xs ys → of_kind k xs ≡ of_kind k ys
unfolding constraints_content policy_constraints_content
kind-same kind.KeyUsage xs ys same = rw (pieces-same number_in number-same xs ys same) refl
kind-same kind.SubjectAltName xs ys same = rw (items-same items.AlternativeNames xs ys same) refl
kind-same kind.BasicConstraints xs ys same = pieces-same (part_extensions kind.BasicConstraints) limit-same xs ys same
kind-same kind.NameConstraints xs ys same = rw (items-same items.PermittedSubtrees xs ys same, items-same items.ExcludedSubtrees xs ys same) refl
kind-same kind.CrlDistributionPoints xs ys same = rw (items-same items.DistributionPoints xs ys same) refl
kind-same kind.CertificatePolicies xs ys same = rw (items-same items.Policies xs ys same) refl
kind-same kind.PolicyMappings xs ys same = rw (items-same items.PolicyMappings xs ys same) refl
kind-same kind.PolicyConstraints xs ys same = rw (items-same items.ExplicitPolicy xs ys same, items-same items.InhibitedMapping xs ys same) refl
kind-same kind.ExtendedKeyUsage xs ys same = rw (items-same items.KeyPurposes xs ys same) refl
kind-same kind.InhibitAnyPolicy xs ys same = pieces-same (part_extensions kind.InhibitAnyPolicy) any-same xs ys same
kind-same kind.Critical xs ys same = pieces-same (part_extensions kind.Critical) critical-same xs ys same

-- parts that say the same describe the same extensions
pub described-same : (xs ys : List ExtensionText) → AreSameParts xs ys → described_extensions xs ≡ described_extensions ys
unfolding described_extensions
described-same xs ys same = each kinds
  where
    each : (ks : List Kind) → flat_map (λ k. of_kind k xs) ks ≡ flat_map (λ k. of_kind k ys) ks
    each [] = refl
    each (k ∷ ks) = rw (kind-same k xs ys same, each ks) refl
