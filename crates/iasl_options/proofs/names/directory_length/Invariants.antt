use Rattle.std.proofs.Common.{◌≡◌}
use Rattle.iasl_options.specs.Names.{directory_of}
use Rattle.iasl_options.proofs.Directories.{so_far}
use Rattle.iasl_options.proofs.names.directory_length.Given as goal

-- the directory, by what was found so far and by the bytes that are left
abbrev pub invariant-loop-at : goal.invariant-loop-at
invariant-loop-at l = so_far l.file l.length l.at ≡ directory_of l.file
