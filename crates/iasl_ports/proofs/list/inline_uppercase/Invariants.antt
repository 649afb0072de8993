use Rattle.std.proofs.Common.{◌≡◌, map, take, length}
use Rattle.std.specs.Char.{to_ascii_uppercase}
use Rattle.iasl_ports.proofs.list.inline_uppercase.Given as goal

abbrev pub invariant-loop-index : goal.invariant-loop-index
invariant-loop-index l = record { size : length l.own ≡ 14; front : take l.index l.own ≡ map to_ascii_uppercase (take l.index l.bytes) }
