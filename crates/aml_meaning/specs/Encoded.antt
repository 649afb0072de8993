-- The bytes of a core tree (ACPI Specification 6.4, 20.2).
use Rattle.std.specs.Prelude.{ℕ, ◌-◌, ◌*◌, ◌%◌, Bool, nat_eq, if◌then◌else◌, List, [], ◌∷◌, ◌++◌, length, Option, Some, None}
use Rattle.byteorder.specs.Endian.{little_bytes}
use Rattle.acpi_values.specs.declared.width.Width.{Width}
use Rattle.acpi_values.specs.Integers.{wrapped}
use Rattle.acpi_values.specs.Revisions.{width_of}
use Rattle.asl_tree.specs.declared.term.Literal.{Literal}
use Rattle.asl_tree.specs.FieldItems.{FieldItem, UnitItem, SkipItem, OffsetItem, AccessItem, ConnectionItem, Connected, ToName, ToBytes}
use Rattle.asl_tree.specs.FieldItems.{behind_item}
use Rattle.asl_tree.specs.Tree.{Tree, Integer, Constant, String, InSlot, Debug, Omitted, Raw, Use, Call, Apply, Buffer, Package}
use Rattle.asl_tree.specs.Tree.{VarPackage, CondRefOf, Return, Name, Alias, External, Method, Mutex, Event, Container', Scope, Fill}
use Rattle.asl_tree.specs.Tree.{Misshapen, Operated, Assigned, AssignedBy, Trees, no_trees, tree, UnitName, OperationRegion, Field}
use Rattle.asl_tree.specs.Tree.{IndexField, BankField, CreateField, If, ElseIf, Else, While, Break, Continue, Item, Switch, Case, Default}
use Rattle.asl_tree.specs.Tree.{For, Print}
use Rattle.else_runs.specs.Runs.{nested_all}
use Rattle.acpi_state.specs.Objects.{Container, ThermalZone, PowerResource, Processor}
use Rattle.aml_meaning.specs.Codes.{Code, PlainCode, SlotCode, DebugCode, OmittedCode, StringCode, BufferCode, PackageCode, VarPackageCode}
use Rattle.aml_meaning.specs.Codes.{CondRefOfCode, NameCode, AliasCode, ScopeCode, MethodCode, ExternalCode, MutexCode, EventCode}
use Rattle.aml_meaning.specs.Codes.{ReturnCode, DeviceCode, ThermalZoneCode, PowerResourceCode, ProcessorCode, code_bytes}
use Rattle.aml_meaning.specs.Codes.{OperationRegionCode, FieldCode, IndexFieldCode, BankFieldCode, CreateFieldCode, IfCode, ElseCode}
use Rattle.aml_meaning.specs.Codes.{WhileCode, BreakCode, ContinueCode}
use Rattle.aml_code.specs.Encoding.{bit_count_bytes, packed, integer_bytes, prefixed_bytes, name_bytes}
use Rattle.aml_code.specs.Header.{table_bytes, fields_of}
use Rattle.asl_tree.specs.declared.program.Block.{Block}
use Rattle.asl_tree.specs.View.{trees_of}

-- an access with its attribute, and where it is written the length of transfers, of which the attribute then is one
abbrev pub access_bytes : ℕ → ℕ → Option ℕ → List ℕ
access_bytes access attribute None = 0x01 ∷ (access % 256) ∷ (attribute % 256) ∷ []
access_bytes access attribute (Some length) = 0x03 ∷ (access % 256) ∷ (attribute % 256) ∷ (length % 256) ∷ []

-- a name, or a Buffer with its size
abbrev pub connected_bytes : Connected → List ℕ
connected_bytes (ToName at name) = name_bytes name
connected_bytes (ToBytes bytes) = 0x11 ∷ packed (prefixed_bytes (length bytes) ++ bytes)

-- an item of a field's list that stands at a bit; an Offset is written as the gap that it makes, if there is one
abbrev pub item_bytes : ℕ → FieldItem UnitName → List ℕ
item_bytes at (UnitItem name bits) = name.segment ++ bit_count_bytes bits
item_bytes at (SkipItem bits) = 0x00 ∷ bit_count_bytes bits
item_bytes at (AccessItem access attribute length) = access_bytes access attribute length
item_bytes at (ConnectionItem to) = 0x02 ∷ connected_bytes to
item_bytes at (OffsetItem bytes) = if nat_eq (8 * bytes) at then [] else 0x00 ∷ bit_count_bytes (8 * bytes - at)

abbrev pub items_bytes : ℕ → List (FieldItem UnitName) → List ℕ
items_bytes at [] = []
items_bytes at (item ∷ items) = item_bytes at item ++ items_bytes (behind_item at item) items

-- the flags of a field, and its list
abbrev pub field_bytes : ℕ → List (FieldItem UnitName) → List ℕ
field_bytes flags items = (flags % 256) ∷ items_bytes 0 items

abbrev pub literal_bytes : Literal → List ℕ
literal_bytes Literal.Zero = 0x00 ∷ []
literal_bytes Literal.One = 0x01 ∷ []
literal_bytes Literal.Ones = 0xFF ∷ []

-- the opcode of a container; the root's own are written nowhere
abbrev pub container_code : Container → Code
container_code ThermalZone = ThermalZoneCode
container_code (PowerResource level order) = PowerResourceCode
container_code (Processor number address size) = ProcessorCode
container_code _ = DeviceCode

-- what stands between the name and the terms of a container
abbrev pub container_bytes : Container → List ℕ
container_bytes (PowerResource level order) = little_bytes 1 level ++ little_bytes 2 order
container_bytes (Processor number address size) = little_bytes 1 number ++ (little_bytes 4 address ++ little_bytes 1 size)
container_bytes _ = []

abbrev pub parameter_count : Option ℕ → ℕ
parameter_count None = 0
parameter_count (Some n) = n

-- an integer is written as its low bits, as many as the width has; those of the width are in the short form where `short` is true
abbrev mutual
  pub encoded : Width → Bool → Tree → List ℕ
  encoded width short (Integer number) = integer_bytes width short (wrapped width number)
  encoded width short (Constant literal) = literal_bytes literal
  encoded width short (String text) = code_bytes StringCode ++ (text ++ 0x00 ∷ [])
  encoded width short (InSlot slot) = code_bytes (SlotCode slot)
  encoded width short Debug = code_bytes DebugCode
  encoded width short Omitted = code_bytes OmittedCode
  encoded width short (Raw size number) = little_bytes size number
  encoded width short (Use at name) = name_bytes name
  encoded width short (Call at name args) = name_bytes name ++ encoded_all width short args
  encoded width short (Apply op args targets) =
      code_bytes (PlainCode op) ++ (encoded_all width short args ++ encoded_all width short targets)
  encoded width short (Buffer size bytes) = code_bytes BufferCode ++ packed (encoded width short size ++ bytes)
  encoded width short (Package n elements) = code_bytes PackageCode ++ packed ((n % 256) ∷ encoded_all width short elements)
  encoded width short (VarPackage size elements) =
      code_bytes VarPackageCode ++ packed (encoded width short size ++ encoded_all width short elements)
  encoded width short (CondRefOf place target) =
      code_bytes CondRefOfCode ++ (encoded width short place ++ encoded width short target)
  encoded width short (Return value) = code_bytes ReturnCode ++ encoded width short value
  encoded width short (Name at name value) = code_bytes NameCode ++ (name_bytes name ++ encoded width short value)
  encoded width short (Method at name flags body) =
      code_bytes MethodCode ++ packed (name_bytes name ++ (flags % 256) ∷ encoded_all width short body)
  encoded width short (Mutex at name level) = code_bytes MutexCode ++ (name_bytes name ++ (level % 256) ∷ [])
  encoded width short (Event at name) = code_bytes EventCode ++ name_bytes name
  encoded width short (Alias from source at name) = code_bytes AliasCode ++ (name_bytes source ++ name_bytes name)
  encoded width short (External here at name type parameters) =
      code_bytes ExternalCode ++ (name_bytes name ++ (type % 256) ∷ (parameter_count parameters % 256) ∷ [])
  encoded width short (Container' kind at name body) =
      code_bytes (container_code kind) ++ packed (name_bytes name ++ (container_bytes kind ++ encoded_all width short body))
  encoded width short (Scope here at name body) = code_bytes ScopeCode ++ packed (name_bytes name ++ encoded_all width short body)
  encoded width short (If test body) = code_bytes IfCode ++ packed (encoded width short test ++ encoded_all width short body)
  encoded width short (Else body) = code_bytes ElseCode ++ packed (encoded_all width short body)
  encoded width short (While test body) = code_bytes WhileCode ++ packed (encoded width short test ++ encoded_all width short body)
  encoded width short Break = code_bytes BreakCode
  encoded width short Continue = code_bytes ContinueCode
  encoded width short (OperationRegion at name space args) =
      code_bytes OperationRegionCode ++ (name_bytes name ++ (space % 256) ∷ encoded_all width short args)
  encoded width short (Field here from region flags items) = code_bytes FieldCode ++ packed (name_bytes region ++ field_bytes flags items)
  encoded width short (IndexField here from index to register flags items) =
      code_bytes IndexFieldCode ++ packed (name_bytes index ++ (name_bytes register ++ field_bytes flags items))
  encoded width short (BankField here from region to bank value flags items) =
      code_bytes BankFieldCode ++ packed (name_bytes region ++ (name_bytes bank ++ (encoded width short value ++ field_bytes flags items)))
  encoded width short (CreateField form args at name) = code_bytes (CreateFieldCode form)
      ++ (encoded_all width short args ++ name_bytes name)
  encoded width short (Item item) = []
  encoded width short (Fill bytes) = []
  encoded width short (Operated op args) = []
  encoded width short (Assigned target value) = []
  encoded width short (AssignedBy op target value) = []
  encoded width short (ElseIf test body) = []
  encoded width short (Switch value cases) = []
  encoded width short (Case value body) = []
  encoded width short (Default body) = []
  encoded width short (For start test step body) = []
  encoded width short (Print place format args) = []
  encoded width short Misshapen = []

  pub encoded_all : Width → Bool → Trees → List ℕ
  encoded_all width short no_trees = []
  encoded_all width short (tree term terms) = encoded width short term ++ encoded_all width short terms

-- a list of terms, of which bytes have the runs of If, ElseIf and Else one in another
abbrev pub encoded_terms : Width → Bool → Trees → List ℕ
encoded_terms width short terms = encoded_all width short (nested_all terms)

-- a block as a table, at the width that its revision gives
abbrev pub encoded_block : Bool → Block → List ℕ
encoded_block short block = table_bytes (fields_of block) (encoded_terms (width_of block.revision) short (trees_of block.terms.items))
