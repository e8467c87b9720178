-- What a request says, beside its query and its body.
use Rattle.std.specs.Prelude.{ℕ, Bool, List, [], codes, length, take, drop, Result, Ok, Err}
use Rattle.std.specs.Prelude.{◌==◌, ◌+◌, ◌&&◌, ◌||◌, if◌then◌else◌, nat_le, fold, Option, Some}
use Rattle.std.specs.Prelude.{None, option_and_then}
use Rattle.std.specs.Option.{option_or}
use Rattle.std.specs.List.{position}
use Rattle.std.specs.Str.{bytes_eq, str_to_ascii_lowercase}
use Rattle.hex.specs.Hex.{decode_sized}
use Rattle.hex.specs.declared.error.FromHexError.{FromHexError}
use Rattle.http1.specs.Fields.{Header}
use Rattle.ts_api.specs.declared.request.Bearer.{Bearer}
use Rattle.ts_api.specs.declared.request.Bearer.TheVariants as bearers
use Rattle.ts_api.specs.declared.route.Route.{Route}
use Rattle.ts_api.specs.Routes.{route_of}

-- a question mark
abbrev pub is_mark : ℕ → Bool
is_mark octet = octet == 63

-- what stands before a place, and behind it
abbrev pub before : Option ℕ → List ℕ → List ℕ
before None octets = octets
before (Some place) octets = take place octets

abbrev pub after : Option ℕ → List ℕ → List ℕ
after None octets = []
after (Some place) octets = drop (place + 1) octets

-- what stands before the first question mark, and what behind it (RFC 3986 3.3, 3.4)
abbrev pub path_in : List ℕ → List ℕ
path_in octets = before (position is_mark octets) octets

abbrev pub query_in : List ℕ → List ℕ
query_in octets = after (position is_mark octets) octets

-- ---- a target in absolute form: absolute-form = absolute-URI (RFC 9112 3.2.2)

-- these octets in whatever case
abbrev pub is_word : List ℕ → List ℕ → Bool
is_word word octets = bytes_eq (str_to_ascii_lowercase octets) word

-- http-URI = "http" "://" authority path-abempty [ "?" query ] (RFC 9110 4.2.1), and so "https"
-- (4.2.2), in whatever case (4.2.3): what stands behind the two slashes
abbrev pub behind_http : List ℕ → Option (List ℕ)
behind_http target =
    if nat_le 7 (length target) && is_word (codes "http://") (take 7 target)
    then Some (drop 7 target) else None

abbrev pub behind_https : List ℕ → Option (List ℕ)
behind_https target =
    if nat_le 8 (length target) && is_word (codes "https://") (take 8 target)
    then Some (drop 8 target) else None

abbrev pub behind_scheme : List ℕ → Option (List ℕ)
behind_scheme target = option_or (behind_http target) (behind_https target)

-- an authority "is terminated by the next slash ("/"), question mark ("?"), or number sign ("#")
-- character, or by the end of the URI" (RFC 3986 3.2)
abbrev pub ends_authority : ℕ → Bool
ends_authority octet = octet == 47 || (octet == 63 || octet == 35)

-- what stands behind an authority; a URI with an empty host is invalid (RFC 9110 4.2.1)
abbrev pub behind_end : Option ℕ → List ℕ → Option (List ℕ)
behind_end (Some place) octets = if place == 0 then None else Some (drop place octets)
behind_end None [] = None
behind_end None octets = Some []

abbrev pub behind_authority : List ℕ → Option (List ℕ)
behind_authority octets = behind_end (position ends_authority octets) octets

-- the path and the query of a target in absolute form
abbrev pub local_of : List ℕ → Option (List ℕ)
local_of target = option_and_then behind_authority (behind_scheme target)

-- "an empty path component is equivalent to an absolute path of "/"" (RFC 9110 4.2.3)
abbrev pub rooted : List ℕ → List ℕ
rooted [] = codes "/"
rooted path = path

-- ---- the path and the query of a target: of one in absolute form, those of the URI

abbrev pub path_by : Option (List ℕ) → List ℕ → List ℕ
path_by None target = path_in target
path_by (Some local) target = rooted (path_in local)

abbrev pub path_of : List ℕ → List ℕ
path_of target = path_by (local_of target) target

abbrev pub query_by : Option (List ℕ) → List ℕ → List ℕ
query_by None target = query_in target
query_by (Some local) target = query_in local

abbrev pub query_of : List ℕ → List ℕ
query_of target = query_by (local_of target) target

abbrev pub route_in : List ℕ → Route
route_in target = route_of (path_of target)

-- ---- the secret that is shown

abbrev pub shown_by : Result (List ℕ) FromHexError → Bearer
shown_by (Ok secret) = bearers.Secret secret
shown_by (Err e) = bearers.Wrong

-- `Bearer` in whatever case, one space (RFC 6750 2.1 allows more), and 64 hexadecimal digits
abbrev pub bearer_of : List ℕ → Bearer
bearer_of value =
    if nat_le 7 (length value) && is_word (codes "bearer ") (take 7 value)
    then shown_by (decode_sized (drop 7 value) 32) else bearers.Wrong

-- of two fields neither counts
abbrev pub behind : Bearer → List ℕ → Bearer
behind bearers.None value = bearer_of value
behind other value = bearers.Wrong

abbrev pub with_field : Bearer → Header → Bearer
with_field bearer field =
    if is_word (codes "authorization") field.0 then behind bearer field.1 else bearer

abbrev pub bearer_in : List Header → Bearer
bearer_in fields = fold with_field bearers.None fields
