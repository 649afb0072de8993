use Rattle.std.proofs.Common.{◌≡◌, ◌<◌, ℕ, length, get_or}
use Rattle.name_entries.specs.declared.kind.ObjectType.TheVariants as N
use Rattle.type_checks.specs.Names.{kind_known}
use Rattle.type_checks.proofs.Naming.{led}
use Rattle.type_checks.proofs.names.named_each.Given as goal

abbrev pub ghost-named_by : goal.ghost-named_by
ghost-named_by g a = g.whole

abbrev pub invariant-loop-target : goal.invariant-loop-target
invariant-loop-target g l = record {
  size : length l.all.items ≡ l.target-index;
  each : (n : ℕ) → n < l.target-index → get_or l.all.items n N.Data ≡ led l.known.facts.index.paths (kind_known g.whole) l.uses n;
}
