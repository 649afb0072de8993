use Rattle.std.proofs.Common.{arith, sym, ◌∙◌}
use Rattle.std.proofs.lemmas.Grind.{common_steps}
use Rattle.acpi_extract.proofs.Pairs.{pair_found}
use Rattle.acpi_extract.proofs.row.next_pair.Goals as goal

pub returns-in-Some : goal.returns-in-Some
returns-in-Some c =
    let step = pair_found c.args.room c.in-Some.byte c.args.text.now c.in-len3-up.len_at_least (sym c.is_end.ensures ∙ c.if-is_end.false) (sym c.may_pair.ensures ∙ c.if-may_pair.true) (sym c.byte_of.ensures ∙ c.in-Some.is) in
    (step.0, grind (arith, common_steps), step.1)
