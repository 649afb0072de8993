-- The lines that tell of tables, and what is put of these, as they are gathered.
use Rattle.std.specs.Prelude.{◌≡◌, ℕ, ◌<◌, ⊤, List, [], ◌∷◌, ◌++◌, length}
use Rattle.iasl_messages.specs.Console.{table_line}
use Rattle.iasl_messages.specs.declared.place.Piece.{Piece}
use Rattle.iasl_options.specs.Asking.{Asked}
use Rattle.iasl_backends.specs.Table.{table_bytes}
use Rattle.block_outcomes.specs.declared.outcome.Compiled.{Compiled}
use Rattle.block_outcomes.specs.declared.outcome.Compiled.TheVariants.{Made, Refused}
use Rattle.block_outcomes.specs.declared.outcome.Table.{Table}
use Rattle.table_outputs.specs.declared.decision.TableOutputs.{TableOutputs}
use Rattle.table_outputs.specs.Files.{table_name, table_files}
use Rattle.table_outputs.specs.Decision.{table_files_under, all_files, table_kinds, kinds_in, HaveKinds}
use Rattle.iasl_tool.specs.declared.due.Outputs.{Outputs}
use Rattle.iasl_tool.specs.Due.{lines_of_tables, files_of_tables, last_pieces}

-- a table is added behind others
pub record PutsTable (asked : Asked) (file : List ℕ) (table : Table) (old new : Outputs) : Type 0 where
  pub one : TableOutputs
  pub tables : new.tables ≡ old.tables ++ one ∷ []
  pub lines : new.lines.items ≡ old.lines.items ++ table_line (table_name asked file table.own) table.signature
      (length (table_bytes table.pieces))
  pub files : table_files_under one.names one.pieces ≡ table_files asked file table.own table.pieces
  pub kinds : table_kinds one.names ≡ kinds_in asked
  pub pieces : one.pieces ≡ table.pieces

-- the pieces of the last of some tables
abbrev pub last_made : List TableOutputs → List Piece
last_made [] = []
last_made (table ∷ []) = table.pieces
last_made (table ∷ (other ∷ others)) = last_made (other ∷ others)

-- all of some tables
pub record AreOutputsOf (asked : Asked) (file : List ℕ) (tables : List Table) (all : Outputs) : Type 0 where
  pub lines : all.lines.items ≡ lines_of_tables asked file tables
  pub files : all_files all.tables ≡ files_of_tables asked file tables
  pub kinds : HaveKinds (kinds_in asked) all.tables
  pub pieces : last_made all.tables ≡ last_pieces tables

-- a source that is compiled has a table
abbrev pub HasTable : Compiled → Type 0
HasTable (Made tables notes) = 0 < length tables
HasTable (Refused messages) = ⊤
