use Rattle.std.proofs.Common.{◌≡◌, ◌++◌, take, map}
use Rattle.asl_preprocess.specs.Search as spec
use Rattle.asl_preprocess.proofs.search.add_names.Given as goal

abbrev pub invariant-loop-directory : goal.invariant-loop-directory
invariant-loop-directory l = l.names ≡ l.fn.names ++ map (spec.in_directory l.name) (take l.directory-index l.directory-items)
