-- What is answered to a request.
use Rattle.std.specs.Prelude.{◌≡◌, ℕ, List, [], ◌∷◌, ◌++◌, None, codes}
use Rattle.serde_json.specs.Data.{Data, string}
use Rattle.serde_json.specs.Written.{compact_text}
use Rattle.ts_json.specs.Members.{object_of}
use Rattle.ts_api.specs.declared.response.Content.{Content}
use Rattle.ts_api.specs.declared.response.Content.TheVariants.{Text, Json}
use Rattle.ts_api.specs.declared.response.Keeps.{Keeps}
use Rattle.ts_api.specs.declared.response.Keeps.TheVariants.{Never}
use Rattle.ts_api.specs.declared.response.Response.{Response}

-- a status, a body of a kind, and for how long it may be kept
pub record Tells (status : ℕ) (content : Content) (keeps : Keeps) (body : List ℕ) (r : Response)
    : Type 0 where
  pub status_is : r.status ≡ status
  pub content_is : r.content ≡ content
  pub keeps_is : r.keeps ≡ keeps
  pub allow_is : r.allow ≡ None
  pub body_is : r.body.items ≡ body

-- the same, which isn't kept
abbrev pub IsPlain : ℕ → Content → List ℕ → Response → Type 0
IsPlain status content body r = Tells status content Never body r

-- a line of text
abbrev pub IsLine : ℕ → List ℕ → Response → Type 0
IsLine status words r = IsPlain status Text (words ++ 10 ∷ []) r

-- a value of JSON on a line
abbrev pub json_line : Data → List ℕ
json_line value = compact_text value ++ 10 ∷ []

abbrev pub IsJson : ℕ → Data → Response → Type 0
IsJson status value r = IsPlain status Json (json_line value) r

-- an error in words
abbrev pub IsError : ℕ → List ℕ → Response → Type 0
IsError status words r = IsJson status (object_of ((codes "error", string words) ∷ [])) r
