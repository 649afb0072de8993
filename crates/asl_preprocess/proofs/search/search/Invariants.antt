use Rattle.std.proofs.Common.{◌≡◌, drop}
use Rattle.std.specs.Option.{ForSome}
use Rattle.asl_preprocess.specs.Search as spec
use Rattle.asl_preprocess.proofs.search.search.Given as goal

abbrev pub invariant-loop-name : goal.invariant-loop-name
invariant-loop-name g l =
    let told_by = g.F.Files.contents in
    let count = g.F.Files.faults in
    record {
      contents : told_by l.files ≡ told_by l.fn.files;
      faults : count l.files ≡ count l.fn.files;
      found : ForSome (told_by l.fn.files) (λ told. spec.search told l.names ≡ spec.search told (drop l.name-index l.names));
    }
