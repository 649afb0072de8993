use Rattle.std.proofs.Common.{◌≡◌, map, length}
use Rattle.iasl_ports.specs.Memory.{named_of, stored_files}
use Rattle.iasl_ports.specs.Fetched.{find_file}
use Rattle.iasl_ports.proofs.memory.MemoryFiles.find.Given as goal

abbrev pub invariant-loop-rest : goal.invariant-loop-rest
invariant-loop-rest l = find_file (map named_of l.rest) l.name ≡ find_file (stored_files l.self) l.name

abbrev pub decreases-loop-rest : goal.decreases-loop-rest
decreases-loop-rest l = length l.rest
