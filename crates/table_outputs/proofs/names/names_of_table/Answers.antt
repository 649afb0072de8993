use Rattle.std.proofs.Common.{◌∷◌, ◌++◌}
use Rattle.iasl_backends.specs.Table.{table_bytes}
use Rattle.iasl_backends.specs.CText.{c_text}
use Rattle.iasl_backends.specs.Listing.{listed_pieces}
use Rattle.table_outputs.proofs.names.names_of_table.Goals as goal

pub returns-clause-files : goal.returns-clause-files
returns-clause-files c = λ pieces i. (c.in_ok-table_name.ensures.exact i, table_bytes pieces) ∷ c.in_ok-name_where.ensures.file (c_text (table_bytes pieces)) i ++ c.in_ok-name_where-2.ensures.file (listed_pieces 0 pieces) i
