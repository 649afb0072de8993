-- Blocks whose tables can be written.
use Rattle.std.specs.Prelude.{◌≡◌, ◌<◌, ◌≤◌, ◌^◌, [], length, Bool}
use Rattle.acpi_values.specs.Paths.{AbsolutePath}
use Rattle.asl_tree.specs.declared.program.Block.{Block}
use Rattle.asl_tree.specs.Tree.{Trees}
use Rattle.asl_tree.specs.View.{trees_of}
use Rattle.aml_code.specs.Header.{HeaderFields, fields_of}
use Rattle.acpi_names.specs.Errors.{name_errors, type_errors}
use Rattle.named_sessions.specs.Shaped.{AreShaped}
use Rattle.named_sessions.specs.Core.{core_beside}

-- the texts of the header have room
pub record FitsHeader (fields : HeaderFields) : Type 0 where
  pub signature : length fields.signature ≡ 4
  pub oem_id : length fields.oem_id ≤ 6
  pub table_id : length fields.table_id ≤ 8
  pub oem_revision : fields.oem_revision < 2 ^ 32

-- the terms are these, which are shaped and whose names are right, with their names spelled, shortest or not, where `also` stands in
-- their way
pub record IsCoreOf (shorten : Bool) (also : AbsolutePath → Bool) (terms : Trees) (block : Block) : Type 0 where
  pub room : FitsHeader (fields_of block)
  pub shaped : AreShaped terms
  pub names : name_errors terms ≡ []
  pub counts : type_errors terms ≡ []
  pub core : trees_of block.terms.items ≡ core_beside shorten also terms
