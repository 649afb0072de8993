use Rattle.std.proofs.Common.{length}
use Rattle.asl_shape.proofs.resources.+add_own_name.Given as goal

abbrev pub decreases-add_own_name : goal.decreases-add_own_name
decreases-add_own_name l = length l.fields.now
