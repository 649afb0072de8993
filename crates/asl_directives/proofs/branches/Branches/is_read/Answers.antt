use Rattle.std.proofs.Common.{◌∙◌, ap, ◌==◌}
use Rattle.asl_directives.specs.Branches as spec
use Rattle.asl_directives.proofs.Counts.{none_unread}
use Rattle.asl_directives.proofs.branches.Branches.is_read.Goals as goal

pub returns : goal.returns
returns c = ap (λ n. n == 0) c.self.invariant ∙ none_unread c.self.inside.open.items ∙ ap spec.is_read c.self.view_is
