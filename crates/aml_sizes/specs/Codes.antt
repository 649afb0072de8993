-- What each form is written with: its opcode, the letters of its arguments, and whether it is a package.
use Rattle.std.specs.Prelude.{ℕ, List, [], ◌∷◌, ◌++◌}
use Rattle.acpi_values.specs.declared.operator.IntOp.{IntOp}
use Rattle.acpi_values.specs.declared.operator.Plain.{Plain}
use Rattle.acpi_values.specs.Operators.{Letter, Kept, row_of}
use Rattle.acpi_values.specs.Operators as L
use Rattle.acpi_state.specs.FieldActs.{OneBit, OneByte, OneWord, OneDWord, OneQWord, SomeBits}
use Rattle.asl_tree.specs.declared.term.Op.{Op}
use Rattle.asl_tree.specs.declared.term.Declaration.{Declaration}
use Rattle.asl_tree.specs.declared.term.Control.{Control}
use Rattle.asl_tree.specs.declared.term.Special.{Special}
use Rattle.aml_meaning.specs.Codes.{BufferCode, PackageCode, CondRefOfCode, NameCode, AliasCode, ScopeCode, MethodCode, ExternalCode}
use Rattle.aml_meaning.specs.Codes.{MutexCode, EventCode, ReturnCode, IfCode, ElseCode, WhileCode, BreakCode, ContinueCode, DeviceCode}
use Rattle.aml_meaning.specs.Codes.{ThermalZoneCode, PowerResourceCode, ProcessorCode, OperationRegionCode, FieldCode, IndexFieldCode}
use Rattle.aml_meaning.specs.Codes.{BankFieldCode, CreateFieldCode, code_bytes}
use Rattle.aml_meaning.specs.Encoded.{literal_bytes}

-- three comparisons are LNot of another
abbrev pub not_code : IntOp → List ℕ
not_code base = (row_of (Plain.Number IntOp.LNot)).code ++ (row_of (Plain.Number base)).code

abbrev pub plain_code : Plain → List ℕ
plain_code (Plain.Number IntOp.LNotEqual) = not_code IntOp.LEqual
plain_code (Plain.Number IntOp.LLessEqual) = not_code IntOp.LGreater
plain_code (Plain.Number IntOp.LGreaterEqual) = not_code IntOp.LLess
plain_code op = (row_of op).code

abbrev pub declaration_code : Declaration → List ℕ
declaration_code Declaration.Name = code_bytes NameCode
declaration_code Declaration.Alias = code_bytes AliasCode
declaration_code Declaration.External = code_bytes ExternalCode
declaration_code Declaration.Method = code_bytes MethodCode
declaration_code Declaration.Mutex = code_bytes MutexCode
declaration_code Declaration.Event = code_bytes EventCode
declaration_code Declaration.Device = code_bytes DeviceCode
declaration_code Declaration.ThermalZone = code_bytes ThermalZoneCode
declaration_code Declaration.PowerResource = code_bytes PowerResourceCode
declaration_code Declaration.Processor = code_bytes ProcessorCode
declaration_code Declaration.Scope = code_bytes ScopeCode
declaration_code Declaration.OperationRegion = code_bytes OperationRegionCode
declaration_code Declaration.Field = code_bytes FieldCode
declaration_code Declaration.IndexField = code_bytes IndexFieldCode
declaration_code Declaration.BankField = code_bytes BankFieldCode
declaration_code Declaration.CreateField = code_bytes (CreateFieldCode SomeBits)
declaration_code Declaration.CreateBitField = code_bytes (CreateFieldCode OneBit)
declaration_code Declaration.CreateByteField = code_bytes (CreateFieldCode OneByte)
declaration_code Declaration.CreateWordField = code_bytes (CreateFieldCode OneWord)
declaration_code Declaration.CreateDWordField = code_bytes (CreateFieldCode OneDWord)
declaration_code Declaration.CreateQWordField = code_bytes (CreateFieldCode OneQWord)

-- a Buffer and a Package have their opcodes by their arguments
abbrev pub special_code : Special → List ℕ
special_code Special.CondRefOf = code_bytes CondRefOfCode
special_code Special.Buffer = code_bytes BufferCode
special_code Special.Package = code_bytes PackageCode

-- an ElseIf has the opcodes of an Else and an If; a For, a Switch with its Cases, what prints and what is written with
-- a symbol stand in no tree that is written
abbrev pub control_code : Control → List ℕ
control_code Control.Return = code_bytes ReturnCode
control_code Control.If = code_bytes IfCode
control_code Control.ElseIf = []
control_code Control.Else = code_bytes ElseCode
control_code Control.While = code_bytes WhileCode
control_code Control.For = []
control_code Control.Switch = []
control_code Control.Case = []
control_code Control.Default = []
control_code Control.Break = code_bytes BreakCode
control_code Control.Continue = code_bytes ContinueCode
control_code Control.Printf = []
control_code Control.Fprintf = []

abbrev pub code_of : Op → List ℕ
code_of (Op.Declaration declaration) = declaration_code declaration
code_of (Op.Control control) = control_code control
code_of (Op.Literal literal) = literal_bytes literal
code_of (Op.Plain op) = plain_code op
code_of (Op.Special special) = special_code special
code_of (Op.Symbolic symbol) = []

abbrev pub declaration_letters : Declaration → List Letter
declaration_letters Declaration.External = Kept ∷ L.Raw 1 ∷ L.Raw 1 ∷ []
declaration_letters Declaration.Method = Kept ∷ L.Raw 1 ∷ []
declaration_letters Declaration.Mutex = Kept ∷ L.Raw 1 ∷ []
declaration_letters Declaration.PowerResource = Kept ∷ L.Raw 1 ∷ L.Raw 2 ∷ []
declaration_letters Declaration.Processor = Kept ∷ L.Raw 1 ∷ L.Raw 4 ∷ L.Raw 1 ∷ []
declaration_letters Declaration.OperationRegion = Kept ∷ L.Raw 1 ∷ []
declaration_letters Declaration.Field = Kept ∷ L.Raw 1 ∷ []
declaration_letters Declaration.IndexField = Kept ∷ Kept ∷ L.Raw 1 ∷ []
declaration_letters Declaration.BankField = Kept ∷ Kept ∷ Kept ∷ L.Raw 1 ∷ []
declaration_letters _ = []

abbrev pub letters_of : Op → List Letter
letters_of (Op.Declaration declaration) = declaration_letters declaration
letters_of (Op.Plain op) = (row_of op).operands
letters_of _ = []
