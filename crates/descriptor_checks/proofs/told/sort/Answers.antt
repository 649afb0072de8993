use Rattle.std.proofs.Common.{append-nil, sym, ap, ◌∙◌}
use Rattle.descriptor_checks.specs.Senses.{Nothing, ADescriptor, AField}
use Rattle.descriptor_checks.specs.Shown.{sense_as}
use Rattle.descriptor_checks.proofs.Telling.{sorted_more}
use Rattle.descriptor_checks.proofs.told.sort.Goals as goal

pub returns-in_ok-push-in-Nothing-2 : goal.returns-in_ok-push-in-Nothing-2
returns-in_ok-push-in-Nothing-2 c paths has look ms is sorted =
    sorted_more has look paths c.args.sorted.now _ ms c.args.mention Nothing (sym (ap sense_as c.in-Nothing.is) ∙ is) c.in_ok-push-in-Nothing.ensures.items c.in_ok-push-in-Nothing-2.ensures.items (sym (append-nil c.args.sorted.now.faults.items)) sorted

pub returns-in_ok-tell_fault-in-Descriptor : goal.returns-in_ok-tell_fault-in-Descriptor
returns-in_ok-tell_fault-in-Descriptor c paths has look ms is sorted =
    sorted_more has look paths c.args.sorted.now _ ms c.args.mention ADescriptor (sym (ap sense_as c.in-Descriptor.is) ∙ is) c.in_ok-push-in-Descriptor.ensures.items (sym (append-nil c.args.sorted.now.kinds.items)) (c.in_ok-tell_fault-in-Descriptor.ensures paths) sorted

pub returns-in_ok-tell_fault-in-Field : goal.returns-in_ok-tell_fault-in-Field
returns-in_ok-tell_fault-in-Field c paths has look ms is sorted =
    sorted_more has look paths c.args.sorted.now _ ms c.args.mention (AField c.in-Field.field-0) (sym (ap sense_as c.in-Field.is) ∙ is) (sym (append-nil c.args.sorted.now.names.items)) (sym (append-nil c.args.sorted.now.kinds.items)) (c.in_ok-tell_fault-in-Field.ensures paths) sorted
