-- Reading the octets of a signature from front to back.
use Rattle.std.specs.Prelude.{List, ℕ, Result, Ok}
use Rattle.ts_der.specs.declared.fault.Fault.{Fault}
use Rattle.ts_der.specs.Answer.{◌>>=◌}
use Rattle.ts_der.specs.Element.{Place}
use Rattle.ts_der.specs.Integer.{integer_rules}
use Rattle.ts_der.specs.Reading.{content_at, element_at, end_at, value_at}

-- the content of an INTEGER, and the place after it
unfoldable pub integer_at : Place → Result (List ℕ × Place) Fault
integer_at here =
    element_at 2 here >>= λ x. value_at integer_rules (λ content. content) x.0
    >>= λ content. Ok (content, x.1)

-- the contents of both integers of a signature, after which nothing is left
unfoldable pub parts_of : List ℕ → Result (List ℕ × List ℕ) Fault
parts_of octets =
    content_at 0x30 (record { rest = octets; at = 0 }) >>= λ x. end_at x.1 >>= λ _.
    integer_at (record { rest = x.0; at = 0 }) >>= λ r. integer_at r.1 >>= λ s.
    end_at s.1 >>= λ _. Ok (r.0, s.0)
