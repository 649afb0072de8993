use Rattle.std.proofs.Common.{◌++◌, map, refl, sym, ap, ◌∙◌}
use Rattle.iasl_ports.specs.Delivery.{name_and_bytes}
use Rattle.std.proofs.lemmas.Result.{IfOk-weaker}
use Rattle.iasl_backends.specs.declared.backend.Kind.TheVariants as kinds
use Rattle.table_outputs.specs.declared.decision.OutputNames.{OutputNames}
use Rattle.table_outputs.specs.declared.decision.OutputNames.TheVariants.{OfTable, OfTemplate}
use Rattle.table_outputs.specs.Decision.{files_under}
use Rattle.table_outputs.proofs.OutputLaws.{asked_same}
use Rattle.table_outputs.proofs.outputs.files_of.Goals as goal

pub table_files_of-requires-clause-table : goal.table_files_of-requires-clause-table
table_files_of-requires-clause-table g c = c.requires.there kinds.RawAml (asked_same c.args.names (OfTable c.in-OfTable.names) kinds.RawAml c.in-OfTable.is refl)

pub table_files_of-requires-clause-c_text : goal.table_files_of-requires-clause-c_text
table_files_of-requires-clause-c_text g c = λ h. c.requires.there kinds.CHex (asked_same c.args.names (OfTable c.in-OfTable.names) kinds.CHex c.in-OfTable.is h)

pub table_files_of-requires-clause-listing : goal.table_files_of-requires-clause-listing
table_files_of-requires-clause-listing g c = λ h. c.requires.there kinds.Listing (asked_same c.args.names (OfTable c.in-OfTable.names) kinds.Listing c.in-OfTable.is h)

pub template_file_of-requires-clause-there : goal.template_file_of-requires-clause-there
template_file_of-requires-clause-there g c = c.requires.there kinds.Template (asked_same c.args.names (OfTemplate c.in-OfTemplate.name) kinds.Template c.in-OfTemplate.is refl)

pub returns-in-OfTable : goal.returns-in-OfTable
returns-in-OfTable g c = λ all fed. IfOk-weaker c.table_files_of.result _ _ (λ files e. e ∙ ap (λ (names : OutputNames). map name_and_bytes c.args.earlier.items ++ files_under names all) (sym c.in-OfTable.is)) (c.table_files_of.ensures all fed)
