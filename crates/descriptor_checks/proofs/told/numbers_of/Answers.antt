use Rattle.std.proofs.Common.{ap, ◌∙◌}
use Rattle.std.proofs.lemmas.List.{take_all}
use Rattle.acpi_names.specs.Paths.{number_in}
use Rattle.descriptor_checks.specs.Fields.{numbers_in, paths_at}
use Rattle.descriptor_checks.proofs.Telling.{next_number}
use Rattle.descriptor_checks.proofs.told.numbers_of.Goals as goal

pub loop-number-preserved : goal.loop-number-preserved
loop-number-preserved c =
    next_number c.args.from.now c.args.to.now c.loop-number.found.items c.push_there.new.found.items c.args.numbers.now c.loop-number.number-index _ c.loop-number-test.true
    (c.same_path.ensures.number ∙ ap (number_in c.args.to.now) c.scope_in.ensures.path) c.in_ok-push_there.ensures c.loop-number.invariant

pub returns : goal.returns
returns c = c.loop-number.invariant ∙ ap (λ ns. numbers_in c.args.to.now (paths_at c.args.from.now ns)) (take_all c.loop-number.number-index c.args.numbers.now c.loop-number-test.false)
