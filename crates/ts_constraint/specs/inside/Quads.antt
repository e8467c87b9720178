-- Ranges of addresses of four octets.
use Rattle.ts_constraint.specs.declared.masked.MaskedRange.{MaskedRange}
use Rattle.ts_constraint.specs.declared.masked.Quad.{Quad}

-- among those of any length
abbrev pub as_masked : Quad → MaskedRange
as_masked q = record { base = q.base; mask = q.mask }
