-- What is written so far: each of the places before this one, behind a space.
use Rattle.std.proofs.Common.{◌≡◌, ◌++◌, take}
use Rattle.std.specs.List.{flat_map}
use Rattle.ts_render.specs.Explanations.{place_words}
use Rattle.ts_render.proofs.explaining.write_places.Given as goal

abbrev pub invariant-loop-place : goal.invariant-loop-place
invariant-loop-place l = l.line ≡ l.initial.line ++ flat_map place_words (take l.place-index l.places)
