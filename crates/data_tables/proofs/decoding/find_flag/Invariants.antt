use Rattle.std.proofs.Common.{◌≡◌, drop}
use Rattle.data_tables.specs.Decoding.{find_flag}
use Rattle.data_tables.proofs.decoding.find_flag.Given as goal

abbrev pub invariant-loop-flag : goal.invariant-loop-flag
invariant-loop-flag l = find_flag l.key (drop l.flag-index l.flags) ≡ find_flag l.key l.flags
