use Rattle.std.proofs.Common.{ap, sym, ◌∙◌, arith}
use Rattle.std.specs.Prelude.{nat_le}
use Rattle.acpi_names.specs.Errors.{TooLong, unless}
use Rattle.acpi_names.specs.Shown.{spot_as, written_as}
use Rattle.name_checks.proofs.Finding.{finds_as}
use Rattle.name_kinds.proofs.Noting.{read_at}
use Rattle.name_checks.proofs.rules.length_errors.Goals as goal

pub returns : goal.returns
returns g c =
    let depths = c.requires.0.depths in
    finds_as c.args.facts.now.index.paths c.args.out.now.items c.unless.new.out.items _ _
    (ap (λ d. unless (nat_le d 255) (TooLong (spot_as c.args.at) (written_as c.args.name)))
    (sym (read_at c.args.facts.now.depths.items c.args.number c.index.result.now 0 (omega (arith, depths.size, c.requires.1)) c.index.ensures) ∙ depths.each c.args.number c.requires.1))
    (c.in_ok-unless.ensures c.args.facts.now.index.paths)
