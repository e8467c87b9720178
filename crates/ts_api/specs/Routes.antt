-- What is at a path, and how it may be asked for.
use Rattle.std.specs.Prelude.{ℕ, Bool, true, false, List, [], ◌∷◌, codes, if◌then◌else◌, ◌||◌}
use Rattle.std.specs.Str.{bytes_eq}
use Rattle.ts_api.specs.declared.route.Route.{Route}
use Rattle.ts_api.specs.declared.route.Route.TheVariants as routes
use Rattle.ts_api.specs.declared.route.Method.{Method}
use Rattle.ts_api.specs.declared.route.Method.TheVariants as methods
use Rattle.ts_api.specs.declared.route.Methods.{Methods}
use Rattle.ts_api.specs.declared.route.Methods.TheVariants.{Get, Post, Both}

abbrev pub method_of : List ℕ → Method
method_of name =
    if bytes_eq name (codes "GET") || bytes_eq name (codes "HEAD") then methods.Get
    else (if bytes_eq name (codes "POST") then methods.Post else methods.Other)

-- what is at a path that says what the store holds, or how the node is
abbrev pub program_route : List ℕ → Route
program_route path =
    if bytes_eq path (codes "/v1/store") then routes.Store
    else (if bytes_eq path (codes "/v1/log") then routes.Log
    else (if bytes_eq path (codes "/v1/commands") then routes.Commands
    else (if bytes_eq path (codes "/v1/status") then routes.Status
    else (if bytes_eq path (codes "/healthz") then routes.Health
    else (if bytes_eq path (codes "/metrics") then routes.Metrics else routes.None)))))

abbrev pub route_of : List ℕ → Route
route_of path =
    if bytes_eq path (codes "/") then routes.Home
    else (if bytes_eq path (codes "/style.css") then routes.Style
    else (if bytes_eq path (codes "/script.js") then routes.Script
    else (if bytes_eq path (codes "/verify") then routes.Form
    else (if bytes_eq path (codes "/v1/verify") then routes.Verify
    else (if bytes_eq path (codes "/v1/check") then routes.Check
    else (if bytes_eq path (codes "/v1/explain") then routes.Explain
    else program_route path))))))

-- all routes, in the order in which they are counted
abbrev pub all_routes : List Route
all_routes = routes.Home ∷ routes.Style ∷ routes.Script ∷ routes.Form ∷ routes.Verify ∷ routes.Check
    ∷ routes.Explain ∷ routes.Store ∷ routes.Log ∷ routes.Commands ∷ routes.Status
    ∷ routes.Health ∷ routes.Metrics ∷ routes.None ∷ []

-- forms and questions are posted, a command is posted and asked for, all else is got
abbrev pub methods_of : Route → Methods
methods_of routes.Form = Post
methods_of routes.Verify = Post
methods_of routes.Check = Post
methods_of routes.Explain = Post
methods_of routes.Commands = Both
methods_of other = Get

abbrev pub takes : Methods → Method → Bool
takes Get methods.Get = true
takes Both methods.Get = true
takes Post methods.Post = true
takes Both methods.Post = true
takes other method = false
