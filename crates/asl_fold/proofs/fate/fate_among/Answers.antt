use Rattle.std.proofs.Common.{◌∙◌, ap, length}
use Rattle.acpi_values.specs.Operators.{row_of}
use Rattle.acpi_values.specs.declared.operator.Plain.TheVariants as P
use Rattle.asl_fold.specs.Nodes.{term_seen, fate_zero, fate_one, fate_two}
use Rattle.asl_fold.proofs.Sights.{targets_none, targets_one, targets_two}
use Rattle.asl_fold.proofs.fate.fate_among.Goals as goal

pub returns-in_default : goal.returns-in_default
returns-in_default c =
    c.fate_none.ensures ∙ ap (λ many. fate_zero many c.args.number) c.target_count-count.ensures
    ∙ targets_none c.args.statement (row_of (P.Number c.args.op)).targets c.args.targets.now c.args.number c.in_default.ensures

pub returns-in_default-parts : goal.returns-in_default-parts
returns-in_default-parts c =
    let many = (row_of (P.Number c.args.op)).targets in
    c.fate_alone.ensures ∙ ap (λ many. fate_one c.args.statement many c.seen_as.result c.args.number) c.target_count-count.ensures
    ∙ ap (λ seen. fate_one c.args.statement many seen c.args.number) c.seen_as.ensures
    ∙ targets_one c.args.statement many c.args.targets.now c.in-Some.rest.now c.in-Some.first.now c.args.number c.in-Some.ensures c.in_default-parts.ensures

pub returns : goal.returns
returns c =
    let many = (row_of (P.Number c.args.op)).targets in
    let more = length c.in-Some-parts.more.now in
    c.fate_last.ensures ∙ ap (λ many. fate_two c.args.statement many c.seen_as-2.result c.seen_as-3.result more c.args.number) c.target_count-count.ensures
    ∙ ap (λ seen. fate_two c.args.statement many seen c.seen_as-3.result more c.args.number) c.seen_as-2.ensures
    ∙ ap (λ seen. fate_two c.args.statement many (term_seen c.in-Some.first.now.term) seen more c.args.number) c.seen_as-3.ensures
    ∙ targets_two c.args.statement many c.args.targets.now c.in-Some.rest.now c.in-Some-parts.more.now c.in-Some.first.now c.in-Some-parts.second.now c.args.number c.in-Some.ensures c.in-Some-parts.ensures
