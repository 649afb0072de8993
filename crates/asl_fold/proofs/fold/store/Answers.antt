use Rattle.acpi_values.specs.declared.operator.DataOp.TheVariants as DataOp
use Rattle.acpi_values.specs.declared.operator.Plain.TheVariants as P
use Rattle.asl_tree.specs.declared.term.Op.TheVariants as O
use Rattle.asl_fold.proofs.Stored.{bare}
use Rattle.asl_fold.proofs.Places.{plain_inside}
use Rattle.asl_fold.proofs.fold.store.Goals as goal

pub returns-clause-tree : goal.returns-clause-tree
returns-clause-tree c at = bare at (O.Plain (P.Data DataOp.Store)) c.args.args c.new.result c.new.ensures.items

pub returns-clause-places : goal.returns-clause-places
returns-clause-places c = plain_inside (P.Data DataOp.Store) c.args.args c.new.result
