use Rattle.std.proofs.Common.{◌≡◌}
use Rattle.iasl_options.specs.Names.{before_extension}
use Rattle.iasl_options.proofs.Extensions.{so_far}
use Rattle.iasl_options.proofs.names.extension_at.Given as goal

-- what stands before the last dot, by what was found so far and by the bytes that are left
abbrev pub invariant-loop-at : goal.invariant-loop-at
invariant-loop-at l = so_far l.file l.found l.at ≡ before_extension l.file
