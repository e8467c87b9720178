-- Octets hold one kind of thing.
use Rattle.std.proofs.Common.{◌≡◌, ℕ, List, refl}
use Rattle.ts_show.specs.declared.kind.Kind.{Kind}
use Rattle.ts_show.specs.declared.kind.Kind.TheVariants as kind
use Rattle.ts_show.specs.Kind.{IsKind}

pub one_kind : (octets : List ℕ) (a b : Kind) → IsKind octets a → IsKind octets b → a ≡ b
one_kind octets kind.Record kind.Record p q = refl
one_kind octets kind.Record kind.Certificate p q = absurd (q.0 p)
one_kind octets kind.Record kind.List p q = absurd (q.0.0 p)
one_kind octets kind.Record kind.Command p q = absurd (q.0.0.0 p)
one_kind octets kind.Record kind.Question p q = absurd (q.0.0.0.0 p)
one_kind octets kind.Record kind.Broken p q = absurd (q.0.0.0.0.0 p)
one_kind octets kind.Record kind.Unknown p q = absurd (q.0.0.0.0.0 p)
one_kind octets kind.Certificate kind.Record p q = absurd (p.0 q)
one_kind octets kind.Certificate kind.Certificate p q = refl
one_kind octets kind.Certificate kind.List p q = absurd (q.0.1 p.1)
one_kind octets kind.Certificate kind.Command p q = absurd (q.0.0.1 p.1)
one_kind octets kind.Certificate kind.Question p q = absurd (q.0.0.0.1 p.1)
one_kind octets kind.Certificate kind.Broken p q = absurd (q.0.0.0.0.1 p.1)
one_kind octets kind.Certificate kind.Unknown p q = absurd (q.0.0.0.0.1 p.1)
one_kind octets kind.List kind.Record p q = absurd (p.0.0 q)
one_kind octets kind.List kind.Certificate p q = absurd (p.0.1 q.1)
one_kind octets kind.List kind.List p q = refl
one_kind octets kind.List kind.Command p q = absurd (q.0.1 p.1)
one_kind octets kind.List kind.Question p q = absurd (q.0.0.1 p.1)
one_kind octets kind.List kind.Broken p q = absurd (q.0.0.0.1 p.1)
one_kind octets kind.List kind.Unknown p q = absurd (q.0.0.0.1 p.1)
one_kind octets kind.Command kind.Record p q = absurd (p.0.0.0 q)
one_kind octets kind.Command kind.Certificate p q = absurd (p.0.0.1 q.1)
one_kind octets kind.Command kind.List p q = absurd (p.0.1 q.1)
one_kind octets kind.Command kind.Command p q = refl
one_kind octets kind.Command kind.Question p q = absurd (q.0.1 p.1)
one_kind octets kind.Command kind.Broken p q = absurd (q.0.0.1 p.1)
one_kind octets kind.Command kind.Unknown p q = absurd (q.0.0.1 p.1)
one_kind octets kind.Question kind.Record p q = absurd (p.0.0.0.0 q)
one_kind octets kind.Question kind.Certificate p q = absurd (p.0.0.0.1 q.1)
one_kind octets kind.Question kind.List p q = absurd (p.0.0.1 q.1)
one_kind octets kind.Question kind.Command p q = absurd (p.0.1 q.1)
one_kind octets kind.Question kind.Question p q = refl
one_kind octets kind.Question kind.Broken p q = absurd (q.0.1 p.1)
one_kind octets kind.Question kind.Unknown p q = absurd (q.0.1 p.1)
one_kind octets kind.Broken kind.Record p q = absurd (p.0.0.0.0.0 q)
one_kind octets kind.Broken kind.Certificate p q = absurd (p.0.0.0.0.1 q.1)
one_kind octets kind.Broken kind.List p q = absurd (p.0.0.0.1 q.1)
one_kind octets kind.Broken kind.Command p q = absurd (p.0.0.1 q.1)
one_kind octets kind.Broken kind.Question p q = absurd (p.0.1 q.1)
one_kind octets kind.Broken kind.Broken p q = refl
one_kind octets kind.Broken kind.Unknown p q = absurd (q.1 p.1)
one_kind octets kind.Unknown kind.Record p q = absurd (p.0.0.0.0.0 q)
one_kind octets kind.Unknown kind.Certificate p q = absurd (p.0.0.0.0.1 q.1)
one_kind octets kind.Unknown kind.List p q = absurd (p.0.0.0.1 q.1)
one_kind octets kind.Unknown kind.Command p q = absurd (p.0.0.1 q.1)
one_kind octets kind.Unknown kind.Question p q = absurd (p.0.1 q.1)
one_kind octets kind.Unknown kind.Broken p q = absurd (p.1 q.1)
one_kind octets kind.Unknown kind.Unknown p q = refl
