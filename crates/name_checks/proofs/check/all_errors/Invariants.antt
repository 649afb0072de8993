use Rattle.std.proofs.Common.{◌≡◌, ◌++◌, take, drop, map}
use Rattle.asl_meaning.specs.Declarations.{nothing_declared}
use Rattle.acpi_names.specs.Mentions.{after_all, all_errors}
use Rattle.acpi_names.specs.Shown.{all_shown}
use Rattle.name_checks.specs.Before.{AreSized, Before}
use Rattle.name_checks.specs.Faults.{fault_as}
use Rattle.name_checks.proofs.check.all_errors.Given as goal

abbrev pub ghost-mention_errors : goal.ghost-mention_errors
ghost-mention_errors g a = g.whole

abbrev pub invariant-loop-mention : goal.invariant-loop-mention
invariant-loop-mention g l = record {
  sized : AreSized l.facts.index.paths l.so_far;
  before : Before l.facts.index.paths l.so_far (after_all (take l.mention-index (all_shown l.facts.index.paths l.mentions)) nothing_declared);
  told : map (fault_as l.facts.index.paths) l.out.items ++ all_errors g.whole (drop l.mention-index (all_shown l.facts.index.paths l.mentions)) (after_all (take l.mention-index (all_shown l.facts.index.paths l.mentions)) nothing_declared) ≡ map (fault_as l.facts.index.paths) l.initial.out.items ++ all_errors g.whole (all_shown l.facts.index.paths l.mentions) nothing_declared;
}
