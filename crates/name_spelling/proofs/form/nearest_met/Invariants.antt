use Rattle.std.proofs.Common.{◌≡◌, ◌<◌, [], length, get_or}
use Rattle.asl_tree.specs.Names.{enclosing, candidates, first_of}
use Rattle.name_spelling.specs.Forms.{met_in}
use Rattle.name_spelling.proofs.form.nearest_met.Given as goal

abbrev pub invariant-loop-number : goal.invariant-loop-number
invariant-loop-number l = record {
  inside : l.around < length l.paths;
  same : first_of (candidates (met_in l.paths l.named l.also) (enclosing l.segment (get_or l.paths l.around []))) ≡ first_of (candidates (met_in l.paths l.named l.also) (enclosing l.segment (get_or l.paths l.scope [])));
}

abbrev pub decreases-loop-number : goal.decreases-loop-number
decreases-loop-number l = l.around
