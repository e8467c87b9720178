-- Who may submit a command over HTTP.
use Rattle.std.specs.Prelude.{◌≡◌, ◌⊎◌, ℕ, List, [], ◌∷◌, Bool, true, false, Option, Some, None}
use Rattle.std.specs.Prelude.{codes, if◌then◌else◌}
use Rattle.ts_access.specs.Roles.{may}
use Rattle.ts_access.specs.declared.key.Key.{Key}
use Rattle.ts_command.specs.Commands.{command_encoding as command_octets, CommandFits, id_of}
use Rattle.ts_command.specs.declared.command.Command.{Command}
use Rattle.ts_wire.specs.Frames.{frame_encoding}
use Rattle.ts_wire.specs.declared.frame.Frame.TheVariants.{Submit}
use Rattle.ts_site.specs.declared.next.Next.{Next}
use Rattle.ts_site.specs.declared.next.Next.TheVariants.{Tell, Ask}
use Rattle.ts_site.specs.declared.next.Waits.TheVariants as waits
use Rattle.ts_api.specs.Response.{IsError}
use Rattle.ts_api.specs.declared.request.Bearer.{Bearer}
use Rattle.ts_api.specs.declared.request.Bearer.TheVariants.{Secret}

-- the first key that has the secret, if one has
abbrev pub IsFirst : List Key → List ℕ → Option Key → Type 0
IsFirst [] secret found = found ≡ None
IsFirst (key ∷ keys) secret found = ((key.secret ≡ secret) × (found ≡ Some key))
    ⊎ (¬ (key.secret ≡ secret) × IsFirst keys secret found)

-- the front of a frame that submits a command, of which a role needs the kind alone
abbrev pub submit_front : List ℕ
submit_front = 0 ∷ 0 ∷ 0 ∷ 2 ∷ 2 ∷ 16 ∷ []

-- the status (RFC 9110 15.5.2, 15.5.4) and the words of a refusal, if the holder of a key is
-- refused
abbrev pub refusal_by : Option Key → ℕ → Option (ℕ × List ℕ)
refusal_by None node = Some (401, codes "the node has no key with this secret")
refusal_by (Some key) node = if may key.role node submit_front then None
    else Some (403, codes "this key's role may not change the store")

-- a node that takes commands takes them from whoever shows the key of a role that may submit them
abbrev pub IsRefusal : Bool → ℕ → List Key → Bearer → Option (ℕ × List ℕ) → Type 0
IsRefusal false node keys bearer why =
    why ≡ Some (403, codes "commands are taken over loopback, where the node has keys")
IsRefusal true node keys (Secret secret) why =
    (found : Option Key) × IsFirst keys secret found × (why ≡ refusal_by found node)
IsRefusal true node keys bearer why =
    why ≡ Some (401, codes "a command wants Authorization: Bearer and the secret of a key")

-- What a request with this body comes to: it is refused; or the node is asked to take the command
-- that the body is; or the body is none.
abbrev pub BeginsCommand : Bool → ℕ → List Key → Bearer → List ℕ → Next → Type 0
BeginsCommand commands node keys bearer body (Ask pending frame) =
    IsRefusal commands node keys bearer None
    × (command : Command) × CommandFits command × (body ≡ command_octets command)
    × (frame.items ≡ frame_encoding (Submit command))
    × (pending.waits ≡ waits.Command (id_of command))
BeginsCommand commands node keys bearer body (Tell response) =
    ((why : ℕ × List ℕ) × IsRefusal commands node keys bearer (Some why)
    × IsError why.0 why.1 response)
    ⊎ (IsRefusal commands node keys bearer None
    × IsError 400 (codes "the body is not one whole command") response
    × ((command : Command) → CommandFits command → ¬ (body ≡ command_octets command)))
