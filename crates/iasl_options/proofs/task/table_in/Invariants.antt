use Rattle.std.proofs.Common.{◌≡◌, ◌++◌, drop, map}
use Rattle.std.specs.Char.{to_ascii_uppercase}
use Rattle.iasl_options.proofs.task.table_in.Given as goal

abbrev pub invariant-loop-byte : goal.invariant-loop-byte
invariant-loop-byte l = l.upper.items ++ map to_ascii_uppercase (drop l.byte-index l.word) ≡ map to_ascii_uppercase l.word
