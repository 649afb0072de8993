use Rattle.std.proofs.Common.{◌≡◌, ◌++◌, drop}
use Rattle.data_generic.specs.Words.{name_key}
use Rattle.data_generic.proofs.words.name_key.Given as goal

abbrev pub invariant-loop-byte : goal.invariant-loop-byte
invariant-loop-byte l = l.key.items ++ name_key (drop l.byte-index l.name) ≡ name_key l.name
