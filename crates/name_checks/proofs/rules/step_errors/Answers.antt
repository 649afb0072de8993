use Rattle.std.proofs.Common.{length, ap, sym, ◌∙◌, arith}
use Rattle.std.specs.Prelude.{nat_le}
use Rattle.acpi_names.specs.Errors.{LeavesRoot, unless}
use Rattle.acpi_names.specs.Shown.{spot_as, written_as}
use Rattle.name_checks.proofs.Finding.{finds_as}
use Rattle.name_kinds.proofs.Noting.{read_at}
use Rattle.name_checks.proofs.rules.step_errors.Goals as goal

pub returns : goal.returns
returns g c =
    let depths = c.requires.depths in
    finds_as c.args.facts.now.index.paths c.args.out.now.items c.unless.new.out.items _ _
    (ap (λ u. unless (nat_le u c.index-depth.result.now) (LeavesRoot (spot_as c.args.at) (written_as c.args.name))) c.steps_up.ensures
    ∙ ap (λ d. unless (nat_le (written_as c.args.name).up d) (LeavesRoot (spot_as c.args.at) (written_as c.args.name)))
    (sym (read_at c.args.facts.now.depths.items c.scope_in.result c.index-depth.result.now 0 (omega (arith, depths.size, c.scope_in.ensures.within)) c.index-depth.ensures) ∙ depths.each c.scope_in.result c.scope_in.ensures.within ∙ ap length c.scope_in.ensures.path))
    (c.in_ok-unless.ensures c.args.facts.now.index.paths)
