use Rattle.std.proofs.Common.{[], get_or, ap, sym, ◌∙◌}
use Rattle.name_kinds.specs.Ends.{ended}
use Rattle.name_kinds.specs.Kinds.{space_of}
use Rattle.region_checks.proofs.check.space_at.Goals as goal

pub returns-in-Some : goal.returns-in-Some
returns-in-Some c paths = c.space_in.ensures (get_or paths c.in-Some.end.path []) ∙ ap (λ e. space_of (ended paths e)) (sym c.in-Some.is)
