-- What a map finds is what the list of its entries has.
use Rattle.std.proofs.Common.{◌≡◌, refl, ap, ℕ, Bor, Bool, true, false, cond, List, [], ◌∷◌, ◌++◌, map, Option, None, Some, option_map}
use Rattle.std.specs.Prelude.{option_copied, if◌then◌else◌}
use Rattle.std.specs.Map.{lookup}
use Rattle.std.specs.Str.{bytes_eq}
use Rattle.std.specs.declared.vec.Vec.{Vec}
use Rattle.std.specs.declared.alloc.Global.{Global}
use Rattle.indexmap.specs.IndexMap.{insert_entry}
use Rattle.ts_script.specs.declared.symbols.Item.{Item}
use Rattle.ts_script.specs.Known.{entry_in, thing_in, thing_named}

-- the entry of a name, as the map has it
pub looked_up : (name : List ℕ) (es : List (Vec ℕ Global × Item)) → option_map thing_in (lookup (λ k. bytes_eq name k.items) es) ≡ thing_named (map entry_in es) name
looked_up name [] = refl
looked_up name (e ∷ es) = by_test (bytes_eq name e.0.items) (looked_up name es)
  where
    by_test : (b : Bool) → option_map thing_in (lookup (λ k. bytes_eq name k.items) es) ≡ thing_named (map entry_in es) name
        → option_map thing_in (cond b (Some e.1) (lookup (λ k. bytes_eq name k.items) es)) ≡ (if b then Some (thing_in e.1) else thing_named (map entry_in es) name)
    by_test true later = refl
    by_test false later = later

-- what is borrowed is what is there
pub borrowed : {T U : Type 0} (f : T → U) (o : Option (Bor T)) → option_map (λ one. f one.now) o ≡ option_map f (option_copied o)
borrowed f None = refl
borrowed f (Some one) = refl

-- an entry of a name that is free goes last
pub kept_last : (name : Vec ℕ Global) (kept : Item) (es : List (Vec ℕ Global × Item)) → thing_named (map entry_in es) name.items ≡ None
    → map entry_in (insert_entry (λ a b. bytes_eq a.items b.items) es name kept) ≡ map entry_in es ++ entry_in (name, kept) ∷ []
kept_last name kept [] free = refl
kept_last name kept (e ∷ es) free = by_test (bytes_eq name.items e.0.items) (kept_last name kept es) free
  where
    by_test : (b : Bool) → (thing_named (map entry_in es) name.items ≡ None
        → map entry_in (insert_entry (λ a b. bytes_eq a.items b.items) es name kept) ≡ map entry_in
        es ++ entry_in (name, kept) ∷ [])
        → (if b then Some (thing_in e.1) else thing_named (map entry_in es) name.items) ≡ None
        → map entry_in (if b then (e.0, kept) ∷ es else e ∷ insert_entry (λ a b. bytes_eq a.items b.items) es name kept) ≡ entry_in e ∷ map entry_in es ++ entry_in (name, kept) ∷ []
    by_test true later free = absurd cc
    by_test false later free = ap (λ xs. entry_in e ∷ xs) (later free)
