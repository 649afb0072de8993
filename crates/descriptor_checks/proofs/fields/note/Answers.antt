use Rattle.std.proofs.Common.{sym, ap, ◌∙◌}
use Rattle.acpi_names.specs.Shown.{shown}
use Rattle.asl_meaning.specs.Declarations.{is_named}
use Rattle.descriptor_checks.specs.Shown.{sense_as}
use Rattle.descriptor_checks.specs.Told.{is_field_sense}
use Rattle.descriptor_checks.proofs.Owning.{none_more, field_more}
use Rattle.descriptor_checks.proofs.fields.note.Goals as goal

pub returns-in_ok-own_field-in-Field : goal.returns-in_ok-own_field-in-Field
returns-in_ok-own_field-in-Field c d look table ms tabled is fields =
    let paths = c.args.index.now.paths in
    field_more (is_named d) look paths c.args.fields.now _ ms (shown paths c.args.mention.now) table c.in-Field.bit tabled (sym (ap sense_as c.in-Field.is) ∙ is)
    (c.in_ok-put_field-in-Field.ensures paths) c.in_ok-tell_field-in-Field.ensures c.in_ok-own_field-in-Field.ensures fields

pub returns-in-Nothing : goal.returns-in-Nothing
returns-in-Nothing c d look table ms tabled is fields =
    let paths = c.args.index.now.paths in
    none_more (is_named d) look paths c.args.fields.now c.args.fields.now ms (shown paths c.args.mention.now) (sense_as c.args.sense) is (ap (λ s. is_field_sense (sense_as s)) c.in-Nothing.is) fields

pub returns-in-Descriptor : goal.returns-in-Descriptor
returns-in-Descriptor c d look table ms tabled is fields =
    let paths = c.args.index.now.paths in
    none_more (is_named d) look paths c.args.fields.now c.args.fields.now ms (shown paths c.args.mention.now) (sense_as c.args.sense) is (ap (λ s. is_field_sense (sense_as s)) c.in-Descriptor.is) fields
