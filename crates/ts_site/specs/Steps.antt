-- The two things that a request comes to: the node is asked, or something is answered.
use Rattle.std.specs.Prelude.{◌≡◌, ℕ, List, codes}
use Rattle.ts_api.specs.declared.response.Response.{Response}
use Rattle.ts_wire.specs.Frames.{frame_encoding}
use Rattle.ts_wire.specs.declared.frame.Frame.{Frame}
use Rattle.ts_site.specs.declared.next.Next.{Next}
use Rattle.ts_site.specs.declared.next.Next.TheVariants.{Tell, Ask}
use Rattle.ts_site.specs.declared.next.Waits.{Waits}

-- the node is asked by this frame, and this is known until it answers
abbrev pub AsksNode : Frame → Waits → Next → Type 0
AsksNode frame waits (Ask pending octets) =
    (octets.items ≡ frame_encoding frame) × (pending.waits ≡ waits)
AsksNode frame waits (Tell response) = ⊥

-- such a response is answered
abbrev pub Answers : (Response → Type 0) → Next → Type 0
Answers Is (Tell response) = Is response
Answers Is (Ask pending octets) = ⊥

-- something is answered, whatever it is
abbrev pub IsTold : Next → Type 0
IsTold (Tell response) = Unit {0}
IsTold (Ask pending octets) = ⊥

-- the node answered with a fault, or not what it was asked
abbrev pub failed : List ℕ
failed = codes "the node failed"
