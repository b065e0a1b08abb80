use Rattle.std.proofs.Common.{◌≡◌, false, None, map, string_bytes}
use Rattle.std.specs.Prelude.{option_map}
use Rattle.yongidra.specs.CommandLine.{asked}
use Rattle.yongidra.proofs.command_line.parse.Given as goal

-- what is left comes to what all of it does
abbrev pub invariant-loop-arg : goal.invariant-loop-arg
invariant-loop-arg l =
    asked false (option_map (λ name. name.now) l.program) (option_map (λ name. name.now) l.image) (map string_bytes l.rest.rest.now)
    ≡ asked false None None (map string_bytes l.args)
