-- The operators and words of the language (ACPI Specification 6.4, 19.6): the words, and the arguments and braces of
-- each operator. The operands and targets of the plain operators are those of their own table.
use Rattle.std.specs.Prelude.{ℕ, ◌-◌, ◌^◌, nat_eq, nat_le, ◌==◌, if◌then◌else◌, List, [], ◌∷◌, ◌++◌, length, take, drop, map, replicate}
use Rattle.std.specs.Prelude.{codes, Bool, true, false, ◌&&◌, Option, Some, None}
use Rattle.std.specs.List.{find, list_all}
use Rattle.std.specs.Cmp.Lexicographic.{pointwise}
use Rattle.acpi_values.specs.declared.operator.IntOp.{IntOp}
use Rattle.acpi_values.specs.declared.operator.DataOp.{DataOp}
use Rattle.acpi_values.specs.declared.operator.EventOp.{EventOp}
use Rattle.acpi_values.specs.declared.operator.Plain.{Plain}
use Rattle.acpi_values.specs.Operators.{Letter, Valued, Kept, Placed, Used, Row, row_of as plain_row}
use Rattle.acpi_values.specs.Operators as L
use Rattle.asl_tree.specs.declared.term.Op.{Op}
use Rattle.asl_tree.specs.declared.term.Declaration.{Declaration}
use Rattle.asl_tree.specs.declared.term.Control.{Control}
use Rattle.asl_tree.specs.declared.term.Special.{Special}
use Rattle.asl_tree.specs.declared.term.Literal.{Literal}
use Rattle.asl_tree.specs.declared.term.Symbolic.{Symbolic}
use Rattle.resource_layout.specs.declared.descriptor.Descriptor.TheVariants as d
use Rattle.resource_layout.specs.declared.descriptor.Kind.TheVariants as k
use Rattle.asl_words.specs.declared.operator.Operator.{Operator}
use Rattle.asl_words.specs.declared.operator.Named.{Named}
use Rattle.asl_words.specs.declared.operator.Known.{Known}
use Rattle.asl_words.specs.declared.operator.Known.TheVariants as known
use Rattle.asl_words.specs.declared.operator.WordKind.TheVariants as kind
use Rattle.asl_words.specs.declared.operator.FieldWord.{FieldWord}
use Rattle.asl_words.specs.declared.operator.FieldWord.TheVariants as element
use Rattle.asl_words.specs.declared.operator.StringForm.TheVariants as form
use Rattle.asl_words.specs.declared.operator.TextMacro.{TextMacro}
use Rattle.asl_words.specs.declared.operator.TextMacro.TheVariants as macros
use Rattle.asl_words.specs.declared.operator.Parameter.{Parameter}
use Rattle.asl_words.specs.declared.operator.Slot.{Slot}
use Rattle.asl_words.specs.declared.operator.Slot.TheVariants as slot
use Rattle.asl_words.specs.declared.operator.Body.{Body}
use Rattle.asl_words.specs.declared.operator.Body.TheVariants as braces
use Rattle.asl_words.specs.declared.operator.Role.{Role}
use Rattle.asl_words.specs.declared.operator.Role.TheVariants as role

-- ---- words

-- filled with blanks (32)
abbrev pub filled : List ℕ → List ℕ
filled word = word ++ replicate (28 - length word) 32

-- the bytes are the word with blanks behind it
abbrev pub is_filled : List ℕ → List ℕ → Bool
is_filled bytes word = pointwise nat_eq (take (length word) bytes) word && list_all (λ b. b == 32) (drop (length word) bytes)

abbrev pub number : IntOp → Op
number op = Op.Plain (Plain.Number op)

abbrev pub data' : DataOp → Op
data' op = Op.Plain (Plain.Data op)

abbrev pub event : EventOp → Op
event op = Op.Plain (Plain.Event op)

abbrev pub literal : Literal → Op
literal op = Op.Literal op

abbrev pub special : Special → Op
special op = Op.Special op

abbrev pub control : Control → Op
control op = Op.Control op

abbrev pub declaration : Declaration → Op
declaration op = Op.Declaration op

abbrev pub row : List ℕ → Op → Operator
row word op = record { word = filled word; op = op }

abbrev pub word : List ℕ → Known → Named
word text known = record { text = filled text; known = known }

-- the operators that are built; any other word of more than four characters is unknown
unfoldable pub operators : List Operator
operators =
    row (codes "ADD") (number IntOp.Add) ∷
    row (codes "AND") (number IntOp.And) ∷
    row (codes "ACQUIRE") (event EventOp.Acquire) ∷
    row (codes "ALIAS") (declaration Declaration.Alias) ∷
    row (codes "BUFFER") (special Special.Buffer) ∷
    row (codes "BREAKPOINT") (event EventOp.BreakPoint) ∷
    row (codes "BREAK") (control Control.Break) ∷
    row (codes "BANKFIELD") (declaration Declaration.BankField) ∷
    row (codes "CREATEDWORDFIELD") (declaration Declaration.CreateDWordField) ∷
    row (codes "COPYOBJECT") (data' DataOp.CopyObject) ∷
    row (codes "CONCATENATE") (data' DataOp.Concatenate) ∷
    row (codes "CONCATENATERESTEMPLATE") (data' DataOp.ConcatenateResTemplate) ∷
    row (codes "CONDREFOF") (special Special.CondRefOf) ∷
    row (codes "CASE") (control Control.Case) ∷
    row (codes "CONTINUE") (control Control.Continue) ∷
    row (codes "CREATEFIELD") (declaration Declaration.CreateField) ∷
    row (codes "CREATEBITFIELD") (declaration Declaration.CreateBitField) ∷
    row (codes "CREATEBYTEFIELD") (declaration Declaration.CreateByteField) ∷
    row (codes "CREATEWORDFIELD") (declaration Declaration.CreateWordField) ∷
    row (codes "CREATEQWORDFIELD") (declaration Declaration.CreateQWordField) ∷
    row (codes "DEVICE") (declaration Declaration.Device) ∷
    row (codes "DIVIDE") (number IntOp.Divide) ∷
    row (codes "DECREMENT") (data' DataOp.Decrement) ∷
    row (codes "DEREFOF") (data' DataOp.DerefOf) ∷
    row (codes "DEFAULT") (control Control.Default) ∷
    row (codes "ELSE") (control Control.Else) ∷
    row (codes "ELSEIF") (control Control.ElseIf) ∷
    row (codes "EXTERNAL") (declaration Declaration.External) ∷
    row (codes "EVENT") (declaration Declaration.Event) ∷
    row (codes "FINDSETLEFTBIT") (number IntOp.FindSetLeftBit) ∷
    row (codes "FINDSETRIGHTBIT") (number IntOp.FindSetRightBit) ∷
    row (codes "FROMBCD") (number IntOp.FromBcd) ∷
    row (codes "FATAL") (event EventOp.Fatal) ∷
    row (codes "FIELD") (declaration Declaration.Field) ∷
    row (codes "FOR") (control Control.For) ∷
    row (codes "FPRINTF") (control Control.Fprintf) ∷
    row (codes "IF") (control Control.If) ∷
    row (codes "INCREMENT") (data' DataOp.Increment) ∷
    row (codes "INDEX") (data' DataOp.Index) ∷
    row (codes "INDEXFIELD") (declaration Declaration.IndexField) ∷
    row (codes "LAND") (number IntOp.LAnd) ∷
    row (codes "LOR") (number IntOp.LOr) ∷
    row (codes "LNOT") (number IntOp.LNot) ∷
    row (codes "LEQUAL") (number IntOp.LEqual) ∷
    row (codes "LGREATER") (number IntOp.LGreater) ∷
    row (codes "LLESS") (number IntOp.LLess) ∷
    row (codes "LNOTEQUAL") (number IntOp.LNotEqual) ∷
    row (codes "LLESSEQUAL") (number IntOp.LLessEqual) ∷
    row (codes "LGREATEREQUAL") (number IntOp.LGreaterEqual) ∷
    row (codes "METHOD") (declaration Declaration.Method) ∷
    row (codes "MULTIPLY") (number IntOp.Multiply) ∷
    row (codes "MOD") (number IntOp.Mod) ∷
    row (codes "MID") (data' DataOp.Mid) ∷
    row (codes "MATCH") (data' DataOp.Match) ∷
    row (codes "MUTEX") (declaration Declaration.Mutex) ∷
    row (codes "NAME") (declaration Declaration.Name) ∷
    row (codes "NAND") (number IntOp.Nand) ∷
    row (codes "NOR") (number IntOp.Nor) ∷
    row (codes "NOT") (number IntOp.Not) ∷
    row (codes "NOTIFY") (event EventOp.Notify) ∷
    row (codes "NOOP") (event EventOp.Noop) ∷
    row (codes "OR") (number IntOp.Or) ∷
    row (codes "OBJECTTYPE") (data' DataOp.ObjectType) ∷
    row (codes "ONE") (literal Literal.One) ∷
    row (codes "ONES") (literal Literal.Ones) ∷
    row (codes "OPERATIONREGION") (declaration Declaration.OperationRegion) ∷
    row (codes "PACKAGE") (special Special.Package) ∷
    row (codes "POWERRESOURCE") (declaration Declaration.PowerResource) ∷
    row (codes "PROCESSOR") (declaration Declaration.Processor) ∷
    row (codes "PRINTF") (control Control.Printf) ∷
    row (codes "RETURN") (control Control.Return) ∷
    row (codes "REFOF") (data' DataOp.RefOf) ∷
    row (codes "REVISION") (event EventOp.Revision) ∷
    row (codes "RELEASE") (event EventOp.Release) ∷
    row (codes "RESET") (event EventOp.Reset) ∷
    row (codes "STORE") (data' DataOp.Store) ∷
    row (codes "SCOPE") (declaration Declaration.Scope) ∷
    row (codes "SUBTRACT") (number IntOp.Subtract) ∷
    row (codes "SHIFTLEFT") (number IntOp.ShiftLeft) ∷
    row (codes "SHIFTRIGHT") (number IntOp.ShiftRight) ∷
    row (codes "SIZEOF") (data' DataOp.SizeOf) ∷
    row (codes "SIGNAL") (event EventOp.Signal) ∷
    row (codes "SLEEP") (event EventOp.Sleep) ∷
    row (codes "STALL") (event EventOp.Stall) ∷
    row (codes "SWITCH") (control Control.Switch) ∷
    row (codes "TOBCD") (number IntOp.ToBcd) ∷
    row (codes "TOBUFFER") (data' DataOp.ToBuffer) ∷
    row (codes "TODECIMALSTRING") (data' DataOp.ToDecimalString) ∷
    row (codes "TOHEXSTRING") (data' DataOp.ToHexString) ∷
    row (codes "TOINTEGER") (data' DataOp.ToInteger) ∷
    row (codes "TOSTRING") (data' DataOp.ToString) ∷
    row (codes "TIMER") (event EventOp.Timer) ∷
    row (codes "THERMALZONE") (declaration Declaration.ThermalZone) ∷
    row (codes "WAIT") (event EventOp.Wait) ∷
    row (codes "WHILE") (control Control.While) ∷
    row (codes "XOR") (number IntOp.Xor) ∷
    row (codes "ZERO") (literal Literal.Zero) ∷
    []

-- the other words; those that are left out stand here where they might be taken for names
unfoldable pub words : List Named
words =
    word (codes "ANYACC") (known.Word kind.Access 0) ∷
    word (codes "ARG0") (known.Arg 0) ∷
    word (codes "ARG1") (known.Arg 1) ∷
    word (codes "ARG2") (known.Arg 2) ∷
    word (codes "ARG3") (known.Arg 3) ∷
    word (codes "ARG4") (known.Arg 4) ∷
    word (codes "ARG5") (known.Arg 5) ∷
    word (codes "ARG6") (known.Arg 6) ∷
    word (codes "ADDRESSRANGEMEMORY") (known.Word (kind.Resource k.Range) 0) ∷
    word (codes "ADDRESSRANGERESERVED") (known.Word (kind.Resource k.Range) 1) ∷
    word (codes "ADDRESSRANGEACPI") (known.Word (kind.Resource k.Range) 2) ∷
    word (codes "ADDRESSRANGENVS") (known.Word (kind.Resource k.Range) 3) ∷
    word (codes "ACTIVEHIGH") (known.Word (kind.Resource k.Level) 0) ∷
    word (codes "ACTIVELOW") (known.Word (kind.Resource k.Level) 1) ∷
    word (codes "ACTIVEBOTH") (known.Word (kind.Resource k.Level) 2) ∷
    word (codes "ADDRESSINGMODE7BIT") (known.Word (kind.Resource k.Addressing) 0) ∷
    word (codes "ADDRESSINGMODE10BIT") (known.Word (kind.Resource k.Addressing) 1) ∷
    word (codes "ATTRIBQUICK") (known.Word kind.Attribute 2) ∷
    word (codes "ATTRIBSENDRECEIVE") (known.Word kind.Attribute 4) ∷
    word (codes "ATTRIBBYTE") (known.Word kind.Attribute 6) ∷
    word (codes "ATTRIBWORD") (known.Word kind.Attribute 8) ∷
    word (codes "ATTRIBBLOCK") (known.Word kind.Attribute 10) ∷
    word (codes "ATTRIBBYTES") (known.Element element.AttribBytes) ∷
    word (codes "ACCESSAS") (known.Element element.AccessAs) ∷
    word (codes "BUFFOBJ") (known.Word kind.ObjectType 3) ∷
    word (codes "BUFFFIELDOBJ") (known.Word kind.ObjectType 14) ∷
    word (codes "BYTEACC") (known.Word kind.Access 1) ∷
    word (codes "BUFFERACC") (known.Word kind.Access 5) ∷
    word (codes "BUSMASTER") (known.Word (kind.Resource k.BusMaster) 1) ∷
    word (codes "CACHEABLE") (known.Word (kind.Resource k.Caching) 1) ∷
    word (codes "COMPATIBILITY") (known.Word (kind.Resource k.DmaType) 0) ∷
    word (codes "CONTROLLERINITIATED") (known.Word (kind.Resource k.Initiator) 0) ∷
    word (codes "CONNECTION") (known.Element element.Connection) ∷
    word (codes "DEVICEOBJ") (known.Word kind.ObjectType 6) ∷
    word (codes "DWORDACC") (known.Word kind.Access 3) ∷
    word (codes "DEBUG") known.Debug ∷
    word (codes "DENSETRANSLATION") (known.Word (kind.Resource k.Sparse) 0) ∷
    word (codes "DECODE10") (known.Word (kind.Resource k.IoDecode) 0) ∷
    word (codes "DECODE16") (known.Word (kind.Resource k.IoDecode) 1) ∷
    word (codes "DMA") (known.Descriptor d.Dma) ∷
    word (codes "DWORDIO") (known.Descriptor d.DWordIo) ∷
    word (codes "DWORDMEMORY") (known.Descriptor d.DWordMemory) ∷
    word (codes "DWORDSPACE") (known.Descriptor d.DWordSpace) ∷
    word (codes "DEVICEINITIATED") (known.Word (kind.Resource k.Initiator) 1) ∷
    word (codes "EVENTOBJ") (known.Word kind.ObjectType 7) ∷
    word (codes "EMBEDDEDCONTROL") (known.Word kind.Space 3) ∷
    word (codes "EISAID") (known.Macro macros.EisaId) ∷
    word (codes "ENTIRERANGE") (known.Word (kind.Resource k.IsaRange) 3) ∷
    word (codes "EDGE") (known.Word (kind.Resource k.Mode) 1) ∷
    word (codes "EXCLUSIVE") (known.Word (kind.Resource k.Sharing) 0) ∷
    word (codes "EXCLUSIVEANDWAKE") (known.Word (kind.Resource k.Sharing) 2) ∷
    word (codes "ENDDEPENDENTFN") (known.Descriptor d.EndDependentFn) ∷
    word (codes "EXTENDEDIO") (known.Descriptor d.ExtendedIo) ∷
    word (codes "EXTENDEDMEMORY") (known.Descriptor d.ExtendedMemory) ∷
    word (codes "EXTENDEDSPACE") (known.Descriptor d.ExtendedSpace) ∷
    word (codes "FIELDUNITOBJ") (known.Word kind.ObjectType 5) ∷
    word (codes "FFIXEDHW") (known.Word (kind.Resource k.Space) 127) ∷
    word (codes "FIXEDDMA") (known.Descriptor d.FixedDma) ∷
    word (codes "FIXEDIO") (known.Descriptor d.FixedIo) ∷
    word (codes "GENERALPURPOSEIO") (known.Word kind.Space 8) ∷
    word (codes "GENERICSERIALBUS") (known.Word kind.Space 9) ∷
    word (codes "GPIOINT") (known.Descriptor d.GpioInt) ∷
    word (codes "GPIOIO") (known.Descriptor d.GpioIo) ∷
    word (codes "INTOBJ") (known.Word kind.ObjectType 1) ∷
    word (codes "IPMI") (known.Word kind.Space 7) ∷
    word (codes "ISAONLYRANGES") (known.Word (kind.Resource k.IsaRange) 2) ∷
    word (codes "IRQ") (known.Descriptor d.Irq) ∷
    word (codes "IRQNOFLAGS") (known.Descriptor d.IrqNoFlags) ∷
    word (codes "IO") (known.Descriptor d.Io) ∷
    word (codes "INTERRUPT") (known.Descriptor d.Interrupt) ∷
    word (codes "IORESTRICTIONNONE") (known.Word (kind.Resource k.IoRestriction) 0) ∷
    word (codes "IORESTRICTIONINPUTONLY") (known.Word (kind.Resource k.IoRestriction) 1) ∷
    word (codes "IORESTRICTIONOUTPUTONLY") (known.Word (kind.Resource k.IoRestriction) 2) ∷
    word (codes "IORESTRICTIONNONEANDPRESERVE") (known.Word (kind.Resource k.IoRestriction) 3) ∷
    word (codes "I2CSERIALBUSV2") (known.Descriptor d.I2cSerialBus) ∷
    word (codes "LOCK") (known.Word kind.Lock 1) ∷
    word (codes "LOCAL0") (known.Local 0) ∷
    word (codes "LOCAL1") (known.Local 1) ∷
    word (codes "LOCAL2") (known.Local 2) ∷
    word (codes "LOCAL3") (known.Local 3) ∷
    word (codes "LOCAL4") (known.Local 4) ∷
    word (codes "LOCAL5") (known.Local 5) ∷
    word (codes "LOCAL6") (known.Local 6) ∷
    word (codes "LOCAL7") (known.Local 7) ∷
    word (codes "LEVEL") (known.Word (kind.Resource k.Mode) 0) ∷
    word (codes "LOAD") known.LeftOut ∷
    word (codes "METHODOBJ") (known.Word kind.ObjectType 8) ∷
    word (codes "MUTEXOBJ") (known.Word kind.ObjectType 9) ∷
    word (codes "MTR") (known.Word kind.Match 0) ∷
    word (codes "MEQ") (known.Word kind.Match 1) ∷
    word (codes "MLE") (known.Word kind.Match 2) ∷
    word (codes "MLT") (known.Word kind.Match 3) ∷
    word (codes "MGE") (known.Word kind.Match 4) ∷
    word (codes "MGT") (known.Word kind.Match 5) ∷
    word (codes "MINNOTFIXED") (known.Word (kind.Resource k.MinimumFixed) 0) ∷
    word (codes "MINFIXED") (known.Word (kind.Resource k.MinimumFixed) 1) ∷
    word (codes "MAXNOTFIXED") (known.Word (kind.Resource k.MaximumFixed) 0) ∷
    word (codes "MAXFIXED") (known.Word (kind.Resource k.MaximumFixed) 1) ∷
    word (codes "MEMORY24") (known.Descriptor d.Memory24) ∷
    word (codes "MEMORY32") (known.Descriptor d.Memory32) ∷
    word (codes "MEMORY32FIXED") (known.Descriptor d.Memory32Fixed) ∷
    word (codes "NOTSERIALIZED") (known.Word kind.Serialize 0) ∷
    word (codes "NOLOCK") (known.Word kind.Lock 0) ∷
    word (codes "NONCACHEABLE") (known.Word (kind.Resource k.Caching) 0) ∷
    word (codes "NONISAONLYRANGES") (known.Word (kind.Resource k.IsaRange) 1) ∷
    word (codes "NOTBUSMASTER") (known.Word (kind.Resource k.BusMaster) 0) ∷
    word (codes "OPREGIONOBJ") (known.Word kind.ObjectType 10) ∷
    word (codes "OFFSET") (known.Element element.Offset) ∷
    word (codes "PKGOBJ") (known.Word kind.ObjectType 4) ∷
    word (codes "POWERRESOBJ") (known.Word kind.ObjectType 11) ∷
    word (codes "PROCESSOROBJ") (known.Word kind.ObjectType 12) ∷
    word (codes "PCI_CONFIG") (known.Word kind.Space 2) ∷
    word (codes "PCIBARTARGET") (known.Word kind.Space 6) ∷
    word (codes "PCC") (known.Word kind.Space 10) ∷
    word (codes "PRESERVE") (known.Word kind.Update 0) ∷
    word (codes "POSDECODE") (known.Word (kind.Resource k.Decode) 0) ∷
    word (codes "PREFETCHABLE") (known.Word (kind.Resource k.Caching) 3) ∷
    word (codes "PULLDEFAULT") (known.Word (kind.Resource k.Pull) 0) ∷
    word (codes "PULLUP") (known.Word (kind.Resource k.Pull) 1) ∷
    word (codes "PULLDOWN") (known.Word (kind.Resource k.Pull) 2) ∷
    word (codes "PULLNONE") (known.Word (kind.Resource k.Pull) 3) ∷
    word (codes "QWORDACC") (known.Word kind.Access 4) ∷
    word (codes "QWORDIO") (known.Descriptor d.QWordIo) ∷
    word (codes "QWORDMEMORY") (known.Descriptor d.QWordMemory) ∷
    word (codes "QWORDSPACE") (known.Descriptor d.QWordSpace) ∷
    word (codes "RESOURCEPRODUCER") (known.Word (kind.Resource k.Usage) 0) ∷
    word (codes "RESOURCECONSUMER") (known.Word (kind.Resource k.Usage) 1) ∷
    word (codes "READONLY") (known.Word (kind.Resource k.Access) 0) ∷
    word (codes "READWRITE") (known.Word (kind.Resource k.Access) 1) ∷
    word (codes "RESOURCETEMPLATE") known.Template ∷
    word (codes "REGISTER") (known.Descriptor d.Register) ∷
    word (codes "SERIALIZED") (known.Word kind.Serialize 1) ∷
    word (codes "STROBJ") (known.Word kind.ObjectType 2) ∷
    word (codes "SYSTEMMEMORY") (known.Word kind.Space 0) ∷
    word (codes "SYSTEMIO") (known.Word kind.Space 1) ∷
    word (codes "SMBUS") (known.Word kind.Space 4) ∷
    word (codes "SYSTEMCMOS") (known.Word kind.Space 5) ∷
    word (codes "SUBDECODE") (known.Word (kind.Resource k.Decode) 1) ∷
    word (codes "SPARSETRANSLATION") (known.Word (kind.Resource k.Sparse) 1) ∷
    word (codes "SHARED") (known.Word (kind.Resource k.Sharing) 1) ∷
    word (codes "SHAREDANDWAKE") (known.Word (kind.Resource k.Sharing) 3) ∷
    word (codes "STARTDEPENDENTFN") (known.Descriptor d.StartDependentFn) ∷
    word (codes "STARTDEPENDENTFNNOPRI") (known.Descriptor d.StartDependentFnNoPri) ∷
    word (codes "THERMALZONEOBJ") (known.Word kind.ObjectType 13) ∷
    word (codes "TOUUID") (known.Macro macros.ToUuid) ∷
    word (codes "TYPESTATIC") (known.Word (kind.Resource k.Translation) 0) ∷
    word (codes "TYPETRANSLATION") (known.Word (kind.Resource k.Translation) 1) ∷
    word (codes "TYPEA") (known.Word (kind.Resource k.DmaType) 1) ∷
    word (codes "TYPEB") (known.Word (kind.Resource k.DmaType) 2) ∷
    word (codes "TYPEF") (known.Word (kind.Resource k.DmaType) 3) ∷
    word (codes "TRANSFER8") (known.Word (kind.Resource k.Transfer) 0) ∷
    word (codes "TRANSFER8_16") (known.Word (kind.Resource k.Transfer) 1) ∷
    word (codes "TRANSFER16") (known.Word (kind.Resource k.Transfer) 2) ∷
    word (codes "UNKNOWNOBJ") (known.Word kind.ObjectType 0) ∷
    word (codes "UNICODE") (known.Macro macros.Unicode) ∷
    word (codes "VENDORSHORT") (known.Descriptor d.VendorShort) ∷
    word (codes "VENDORLONG") (known.Descriptor d.VendorLong) ∷
    word (codes "WORDACC") (known.Word kind.Access 2) ∷
    word (codes "WRITEASONES") (known.Word kind.Update 1) ∷
    word (codes "WRITEASZEROS") (known.Word kind.Update 2) ∷
    word (codes "WRITECOMBINING") (known.Word (kind.Resource k.Caching) 2) ∷
    word (codes "WIDTH8BIT") (known.Word (kind.Resource k.DmaWidth) 0) ∷
    word (codes "WIDTH16BIT") (known.Word (kind.Resource k.DmaWidth) 1) ∷
    word (codes "WIDTH32BIT") (known.Word (kind.Resource k.DmaWidth) 2) ∷
    word (codes "WIDTH64BIT") (known.Word (kind.Resource k.DmaWidth) 3) ∷
    word (codes "WIDTH128BIT") (known.Word (kind.Resource k.DmaWidth) 4) ∷
    word (codes "WIDTH256BIT") (known.Word (kind.Resource k.DmaWidth) 5) ∷
    word (codes "WORDIO") (known.Descriptor d.WordIo) ∷
    word (codes "WORDBUSNUMBER") (known.Descriptor d.WordBusNumber) ∷
    word (codes "WORDSPACE") (known.Descriptor d.WordSpace) ∷
    []

-- how many letters of the alphabet stand before the one that a word begins with
abbrev pub place_of : List ℕ → Option ℕ
place_of [] = None
place_of (b ∷ bytes) = if nat_le 65 b then Some (b - 65) else None

unfoldable pub row_in : List Operator → List ℕ → Option Operator
row_in rows text = find (λ row. is_filled row.word text) rows

unfoldable pub named_in : List Named → List ℕ → Option Named
named_in rows text = find (λ row. is_filled row.text text) rows

abbrev pub op_in : Option Operator → Option Op
op_in None = None
op_in (Some row) = Some row.op

abbrev pub known_in : Option Named → Option Known
known_in None = None
known_in (Some row) = Some row.known

-- the operator of a word
unfoldable pub operator_of : List ℕ → Option Op
operator_of text = op_in (row_in operators text)

-- what a word stands for
unfoldable pub word_of : List ℕ → Option Known
word_of text = known_in (named_in words text)

-- ---- arguments

abbrev pub asked : Slot → Parameter
asked s = record { slot = s; omittable = false; further = false }

-- one that may be left out
abbrev pub optional : Slot → Parameter
optional s = record { slot = s; omittable = true; further = false }

-- one that may be missing at the end, with all behind it
abbrev pub further : Slot → Parameter
further s = record { slot = s; omittable = false; further = true }

-- a format, and then up to 60 arguments
abbrev pub printed : List Parameter
printed = asked (slot.String form.Format) ∷ replicate 60 (further slot.Expression)

abbrev pub expression : Parameter
expression = asked slot.Expression

abbrev pub place : Parameter
place = asked slot.Place

abbrev pub target : Parameter
target = optional slot.Place

abbrev pub named : Parameter
named = asked slot.Named

abbrev pub declared : Parameter
declared = asked slot.Declared

abbrev pub external : Parameter
external = asked slot.External

abbrev pub used : Parameter
used = asked slot.Used

abbrev pub constant : ℕ → ℕ → Slot
constant least most = slot.Constant least most

abbrev pub space : Parameter
space = asked slot.Space

abbrev pub access : Parameter
access = asked (slot.Word kind.Access)

abbrev pub lock : Parameter
lock = asked (slot.Word kind.Lock)

abbrev pub update : Parameter
update = asked (slot.Word kind.Update)

-- an operand of a plain operator, as its letter says
abbrev pub by_letter : Letter → Parameter
by_letter Valued = expression
by_letter Kept = expression
by_letter Placed = place
by_letter Used = used
by_letter (L.Raw size) = asked (constant 0 (256 ^ size - 1))

-- the operands, and then the targets, each of which may be left out
abbrev pub by_row : Row → List Parameter
by_row row = map by_letter row.operands ++ replicate row.targets target

-- of a method as many arguments are read as there are; the types have no effect
unfoldable pub parameters_of : Op → List Parameter
-- the length may be left out
parameters_of (Op.Plain (Plain.Data DataOp.ToString)) = expression ∷ optional slot.Expression ∷ target ∷ []
parameters_of (Op.Plain (Plain.Data DataOp.CopyObject)) = expression ∷ named ∷ []
parameters_of (Op.Plain (Plain.Data DataOp.Match)) =
    expression ∷ asked (slot.Word kind.Match) ∷ expression ∷ asked (slot.Word kind.Match) ∷ expression ∷ expression ∷ []
parameters_of (Op.Plain op) = by_row (plain_row op)
parameters_of (Op.Literal op) = []
parameters_of (Op.Special Special.CondRefOf) = place ∷ target ∷ []
parameters_of (Op.Special Special.Buffer) = optional slot.Expression ∷ []
parameters_of (Op.Special Special.Package) = optional slot.Expression ∷ []
parameters_of (Op.Symbolic (Symbolic.Operator op)) = map by_letter (plain_row op).operands
parameters_of (Op.Symbolic Symbolic.Assign) = place ∷ expression ∷ []
parameters_of (Op.Symbolic (Symbolic.AssignBy op)) = place ∷ expression ∷ []
parameters_of (Op.Control Control.Return) = optional slot.Expression ∷ []
parameters_of (Op.Control Control.If) = expression ∷ []
parameters_of (Op.Control Control.ElseIf) = expression ∷ []
parameters_of (Op.Control Control.While) = expression ∷ []
parameters_of (Op.Control Control.Switch) = expression ∷ []
parameters_of (Op.Control Control.For) = optional slot.Effect ∷ optional slot.Expression ∷ optional slot.Effect ∷ []
parameters_of (Op.Control Control.Case) = asked slot.CaseValue ∷ []
parameters_of (Op.Control Control.Printf) = printed
parameters_of (Op.Control Control.Fprintf) = place ∷ printed
parameters_of (Op.Control op) = []
parameters_of (Op.Declaration Declaration.Name) = declared ∷ expression ∷ []
parameters_of (Op.Declaration Declaration.Alias) = used ∷ declared ∷ []
parameters_of (Op.Declaration Declaration.External) = external ∷ optional (slot.Word kind.ObjectType) ∷ optional (slot.Types 7) ∷ optional
    (slot.Types 7) ∷ []
parameters_of (Op.Declaration Declaration.Method) =
    declared ∷ optional (constant 0 7) ∷ optional (slot.Word kind.Serialize) ∷ optional (constant 0 15)
    ∷ optional (slot.Types 4294967295) ∷ optional (slot.Types 4294967295) ∷ []
parameters_of (Op.Declaration Declaration.Mutex) = declared ∷ optional (constant 0 15) ∷ []
parameters_of (Op.Declaration Declaration.PowerResource) = declared ∷ asked (constant 0 255) ∷ asked (constant 0 65535) ∷ []
parameters_of (Op.Declaration Declaration.Processor) = declared ∷ asked (constant 0 255) ∷ asked (constant 0 4294967295) ∷ asked
    (constant 0 255) ∷ []
parameters_of (Op.Declaration Declaration.Scope) = used ∷ []
parameters_of (Op.Declaration Declaration.OperationRegion) = declared ∷ space ∷ expression ∷ expression ∷ []
parameters_of (Op.Declaration Declaration.Field) = used ∷ access ∷ lock ∷ update ∷ []
parameters_of (Op.Declaration Declaration.IndexField) = used ∷ used ∷ access ∷ lock ∷ update ∷ []
parameters_of (Op.Declaration Declaration.BankField) = used ∷ used ∷ expression ∷ access ∷ lock ∷ update ∷ []
parameters_of (Op.Declaration Declaration.CreateField) = expression ∷ expression ∷ expression ∷ declared ∷ []
parameters_of (Op.Declaration Declaration.CreateBitField) = expression ∷ expression ∷ declared ∷ []
parameters_of (Op.Declaration Declaration.CreateByteField) = expression ∷ expression ∷ declared ∷ []
parameters_of (Op.Declaration Declaration.CreateWordField) = expression ∷ expression ∷ declared ∷ []
parameters_of (Op.Declaration Declaration.CreateDWordField) = expression ∷ expression ∷ declared ∷ []
parameters_of (Op.Declaration Declaration.CreateQWordField) = expression ∷ expression ∷ declared ∷ []
parameters_of (Op.Declaration op) = declared ∷ []

-- the size of a Buffer and the count of a Package, which may be left out, as constants
abbrev pub constant_size : List Parameter
constant_size = optional slot.Measure ∷ []

-- the arguments where a form is read so: in the value of a Case a size and a count are constants
abbrev pub parameters_as : Op → Slot → List Parameter
parameters_as (Op.Special Special.Buffer) slot.CaseValue = constant_size
parameters_as (Op.Special Special.Buffer) slot.CaseMember = constant_size
parameters_as (Op.Special Special.Package) slot.CaseValue = constant_size
parameters_as o s = parameters_of o

-- the arguments of a word of a field's list: the number of a byte; an access, and perhaps an attribute; what units are connected to; the
-- length of transfers
unfoldable pub element_parameters : FieldWord → List Parameter
element_parameters element.Offset = asked slot.Measure ∷ []
element_parameters element.AccessAs = asked slot.AccessType ∷ optional slot.Attribute ∷ []
element_parameters element.Connection = asked slot.Connected ∷ []
element_parameters element.AttribBytes = asked (constant 0 255) ∷ []

-- the argument of a macro: its string
unfoldable pub macro_parameters : TextMacro → List Parameter
macro_parameters m = asked (slot.MacroText m) ∷ []

-- the file, the signature, the revision, the OEM's name, that of the table, and its revision
unfoldable pub block_parameters : List Parameter
block_parameters =
    asked (slot.String form.Any) ∷ asked (slot.String form.Signature) ∷ asked (constant 0 255) ∷ asked (slot.String (form.AtMost 6)) ∷ asked
    (slot.String (form.AtMost 8))
    ∷ asked (constant 0 4294967295) ∷ []

-- what stands in the braces of an operator
abbrev pub body_of : Op → Body
body_of (Op.Special Special.Buffer) = braces.Bytes
body_of (Op.Special Special.Package) = braces.Elements
body_of (Op.Control Control.If) = braces.Terms
body_of (Op.Control Control.ElseIf) = braces.Terms
body_of (Op.Control Control.Else) = braces.Terms
body_of (Op.Control Control.While) = braces.Terms
body_of (Op.Control Control.For) = braces.Terms
body_of (Op.Control Control.Switch) = braces.Cases
body_of (Op.Control Control.Case) = braces.Terms
body_of (Op.Control Control.Default) = braces.Terms
body_of (Op.Declaration Declaration.Method) = braces.Terms
body_of (Op.Declaration Declaration.Device) = braces.Terms
body_of (Op.Declaration Declaration.ThermalZone) = braces.Terms
body_of (Op.Declaration Declaration.PowerResource) = braces.Terms
body_of (Op.Declaration Declaration.Processor) = braces.Terms
body_of (Op.Declaration Declaration.Scope) = braces.Terms
body_of (Op.Declaration Declaration.Field) = braces.FieldList
body_of (Op.Declaration Declaration.IndexField) = braces.FieldList
body_of (Op.Declaration Declaration.BankField) = braces.FieldList
body_of _ = braces.No

-- the braces where a form is read so: a Package that is the value of a Case holds values of a Case
abbrev pub body_as : Op → Slot → Body
body_as (Op.Special Special.Package) slot.CaseValue = braces.CaseMembers
body_as o s = body_of o

-- where an operator may stand; containers and methods stand in no method
abbrev pub event_role : EventOp → Role
event_role EventOp.Acquire = role.Expression
event_role EventOp.Wait = role.Expression
event_role EventOp.Timer = role.Expression
event_role EventOp.Revision = role.Expression
event_role _ = role.Statement

abbrev pub data_role : DataOp → Role
data_role DataOp.Index = role.Place
data_role DataOp.DerefOf = role.Place
data_role _ = role.Expression

abbrev pub plain_role : Plain → Role
plain_role (Plain.Number op) = role.Expression
plain_role (Plain.Data op) = data_role op
plain_role (Plain.Event op) = event_role op

abbrev pub role_of : Op → Role
role_of (Op.Plain op) = plain_role op
role_of (Op.Literal op) = role.Expression
role_of (Op.Special op) = role.Expression
role_of (Op.Symbolic (Symbolic.Operator op)) = plain_role op
role_of (Op.Symbolic symbol) = role.Expression
role_of (Op.Control Control.Return) = role.MethodStatement
role_of (Op.Control Control.Else) = role.Else
role_of (Op.Control Control.ElseIf) = role.ElseIf
role_of (Op.Control Control.Case) = role.Case
role_of (Op.Control Control.Default) = role.Default
role_of (Op.Control op) = role.Statement
role_of (Op.Declaration Declaration.Method) = role.OuterTerm
role_of (Op.Declaration Declaration.Device) = role.OuterTerm
role_of (Op.Declaration Declaration.ThermalZone) = role.OuterTerm
role_of (Op.Declaration Declaration.PowerResource) = role.OuterTerm
role_of (Op.Declaration Declaration.Processor) = role.OuterTerm
role_of (Op.Declaration Declaration.Scope) = role.OuterTerm
role_of (Op.Declaration op) = role.Statement
