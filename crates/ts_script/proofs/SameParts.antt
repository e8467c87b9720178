-- Parts of a description that are one as plain data describe the same extensions.
use Rattle.std.proofs.Common.{◌≡◌, List, [], ◌∷◌, map}
use Rattle.ts_make.specs.declared.description.NameText.{NameText}
use Rattle.ts_make.specs.declared.description.NameText.TheVariants as name
use Rattle.ts_make.specs.declared.description.ExtensionText.{ExtensionText}
use Rattle.ts_make.specs.declared.description.ExtensionText.TheVariants as text
use Rattle.ts_make.specs.Extensions.{described_extensions}
use Rattle.ts_make.proofs.SameParts.{IsSameName, IsSamePart, AreSameParts, described-same}
use Rattle.ts_script.specs.Parts.{name_in, part_in}

name_same : (a b : NameText) → name_in a ≡ name_in b → IsSameName a b
name_same (name.Dns a) (name.Dns b) e = cc
name_same (name.Ip a) (name.Ip b) e = cc
name_same (name.Mail a) (name.Mail b) e = cc
name_same a b e = absurd cc

part_same : (a b : ExtensionText) → part_in a ≡ part_in b → IsSamePart a b
part_same (text.KeyUsage a) (text.KeyUsage b) e = cc
part_same (text.SubjectAltName a) (text.SubjectAltName b) e = name_same a b (cc)
part_same (text.BasicConstraints a) (text.BasicConstraints b) e = cc
part_same (text.PermittedSubtree a) (text.PermittedSubtree b) e = name_same a b (cc)
part_same (text.ExcludedSubtree a) (text.ExcludedSubtree b) e = name_same a b (cc)
part_same (text.DistributionPoint a) (text.DistributionPoint b) e = cc
part_same (text.Policy a) (text.Policy b) e = cc
part_same (text.PolicyMapping a b) (text.PolicyMapping c d) e = (cc, cc)
part_same (text.RequireExplicitPolicy a) (text.RequireExplicitPolicy b) e = cc
part_same (text.InhibitPolicyMapping a) (text.InhibitPolicyMapping b) e = cc
part_same (text.KeyPurpose a) (text.KeyPurpose b) e = cc
part_same (text.InhibitAnyPolicy a) (text.InhibitAnyPolicy b) e = cc
part_same (text.Critical a) (text.Critical b) e = cc
part_same a b e = absurd cc

parts_same : (xs ys : List ExtensionText) → map part_in xs ≡ map part_in ys → AreSameParts xs ys
parts_same [] [] e = tt
parts_same (x ∷ xs) (y ∷ ys) e = (part_same x y (cc), parts_same xs ys (cc))
parts_same [] (y ∷ ys) e = absurd cc
parts_same (x ∷ xs) [] e = absurd cc

pub extensions_same : (xs ys : List ExtensionText) → map part_in xs ≡ map part_in ys → described_extensions xs ≡ described_extensions ys
extensions_same xs ys e = described-same xs ys (parts_same xs ys e)
