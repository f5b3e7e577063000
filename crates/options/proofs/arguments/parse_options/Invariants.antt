use Rattle.std.proofs.Common.{◌≡◌, map, drop, Ok, string_bytes}
use Rattle.options.specs.Settings.{settings_of, settings_from, settings_in}
use Rattle.options.proofs.arguments.parse_options.Given as goal

abbrev pub invariant-loop-i : goal.invariant-loop-i
invariant-loop-i l =
    settings_from l.i (Ok (settings_of l.options, l.waiting)) (drop l.i (map string_bytes l.texts))
    ≡ settings_in (map string_bytes l.texts)
