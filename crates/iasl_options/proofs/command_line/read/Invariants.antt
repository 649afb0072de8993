use Rattle.std.proofs.Common.{◌≡◌, map, drop, string_bytes}
use Rattle.iasl_options.specs.Asking.{asked_from, asked_by}
use Rattle.iasl_options.specs.Shown.{asked_in}
use Rattle.iasl_options.proofs.command_line.read.Given as goal

-- what the words so far ask for, and the words that are left
abbrev pub invariant-loop-number : goal.invariant-loop-number
invariant-loop-number l = asked_from l.number (record { asked = asked_in l.draft; waiting = l.waiting }) (drop l.number (map string_bytes l.words)) ≡ asked_by (map string_bytes l.words)
