-- What a parse gives, and what it takes.
use Rattle.std.proofs.Common.{◌≡◌, refl, true, [], ◌∷◌, codes, option_map, Some}
use Rattle.clap.specs.Words.{is_simple_and_free, takes}
use Rattle.clap.specs.Walk.{Text}
use Rattle.clap.specs.Simple.{is_simple, subcommand_of}
use Rattle.clap.proofs.OnLiterals.{clap_on_literals}
use Rattle.ts_cli.specs.Shapes.{program, node_tasks, with_upkeep, lab, format, migrate, serve}
use Rattle.ts_cli.specs.Shapes.{carry, verify, with_limits, with_inputs, commands, purposes}
use Rattle.ts_cli.specs.Shapes.{questions, chain, search, with_terms, with_flags, submit}
use Rattle.ts_cli.specs.Shapes.{with_verdict, load, with_group, with_access, with_key, keygen}
use Rattle.ts_cli.specs.Shapes.{with_listings, with_listing, store, log, diff, with_material}
use Rattle.ts_cli.specs.Shapes.{sync, replay}

pub lab_is_taken : (name : Text) → takes program (name ∷ codes "lab" ∷ []) ≡ true
unfolding clap_on_literals program node_tasks with_upkeep lab format migrate serve submit
    with_verdict carry verify with_group with_access with_key keygen with_limits with_inputs
    with_listings with_listing store log diff with_material sync replay
lab_is_taken name = refl

pub lab_is_given : (name : Text) → option_map (λ p. p.0) (subcommand_of program (name ∷ codes "lab" ∷ [])) ≡ Some (codes "lab")
unfolding clap_on_literals program node_tasks with_upkeep lab format migrate serve submit
    with_verdict carry verify with_group with_access with_key keygen with_limits with_inputs
    with_listings with_listing store log diff with_material sync replay
lab_is_given name = refl

pub program_is_free : is_simple_and_free program ≡ true
unfolding clap_on_literals program node_tasks with_upkeep lab format migrate serve submit
    with_verdict carry verify with_group with_access with_key keygen with_limits with_inputs
    with_listings with_listing store log diff with_material sync replay
program_is_free = refl

pub program_is_simple : is_simple program ≡ true
unfolding clap_on_literals program node_tasks with_upkeep lab format migrate serve submit
    with_verdict carry verify with_group with_access with_key keygen with_limits with_inputs
    with_listings with_listing store log diff with_material sync replay
program_is_simple = refl

pub commands_are_free : is_simple_and_free commands ≡ true
unfolding clap_on_literals commands load purposes
commands_are_free = refl

pub commands_are_simple : is_simple commands ≡ true
unfolding clap_on_literals commands load purposes
commands_are_simple = refl

pub questions_are_free : is_simple_and_free questions ≡ true
unfolding clap_on_literals questions chain search with_terms with_flags
questions_are_free = refl

pub questions_are_simple : is_simple questions ≡ true
unfolding clap_on_literals questions chain search with_terms with_flags
questions_are_simple = refl

pub some_is : {X : Type 0} {x y : X} → Some x ≡ Some y → x ≡ y
some_is same = cc
