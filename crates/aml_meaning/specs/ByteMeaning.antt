-- What bytes mean (ACPI Specification 6.4, 20): they are decoded as the run goes, and names are searched among the
-- objects that exist.
use Rattle.std.specs.Prelude.{ℕ, zero, suc, Bool, false, List, [], ◌∷◌, length, Option, Some, None, if◌then◌else◌, nat_eq, true}
use Rattle.acpi_values.specs.declared.width.Width.{Width}
use Rattle.acpi_values.specs.declared.operator.Plain.{Plain}
use Rattle.acpi_values.specs.Paths.{AbsolutePath}
use Rattle.acpi_values.specs.Values as V
use Rattle.acpi_values.specs.Values.{Value, Data, Reference, Elements, no_elements, element, Place, Named}
use Rattle.acpi_values.specs.declared.fault.Fault.TheVariants.{WrongType}
use Rattle.acpi_values.specs.Operators.{Letter, Valued, Kept, Placed, Used, Raw, row_of}
use Rattle.acpi_values.specs.Integers.{wrapped}
use Rattle.acpi_state.specs.Objects.{Object, DataObject, MethodObject, ContainerObject, MutexObject, EventObject, AliasObject, Container}
use Rattle.acpi_state.specs.Objects.{Device, ThermalZone, PowerResource, Processor, operand_count}
use Rattle.acpi_state.specs.Finds.{first_there, reached, existing, reach}
use Rattle.acpi_state.specs.Outcomes.{Flow, Normal, Gives, Return, Unfinished, Broken, Run, done, stop, fault, then_run, act, choose}
use Rattle.acpi_state.specs.Outcomes.{value_of, on_flow, Break, Continue}
use Rattle.acpi_state.specs.Loops.{is_true, loop}
use Rattle.acpi_state.specs.Actions.{computed, write_named}
use Rattle.acpi_state.specs.Activations.{create, keep_body, body_at, activation}
use Rattle.acpi_state.specs.Stores.{Spot, Nowhere, DebugObject, At, read, store}
use Rattle.acpi_state.specs.Acts.{Operand, OfValue, OfKept, OfSpot, OfNumber, number_of, act_of, last_of}
use Rattle.acpi_state.specs.Forms.{buffer_of, package_of, slot_here, if_data, spot_in, cond_ref_of}
use Rattle.acpi_state.specs.Uses.{use_object}
use Rattle.acpi_state.specs.FieldUnits.{Connection, ToObject, ToResource, Extent, FieldUnit, InRegion, InBank, BehindIndex}
use Rattle.acpi_state.specs.Registers.{register_of}
use Rattle.acpi_state.specs.FieldActs.{region_letters, make_region, FieldForm, field_letters, make_buffer_field}
use Rattle.asl_meaning.specs.FieldTerms.{Cursor, first_unit, behind_bits, accessed, connected_to, resource_of, create_unit}
use Rattle.asl_tree.specs.Names.{declared_path, is_searched, search_path}
use Rattle.asl_tree.specs.declared.path.Path.{Path}
use Rattle.asl_meaning.specs.Meaning.{SpotForm, OfResult, OfInside, NoSpot, spot_form}
use Rattle.aml_code.specs.Fronts.{Front, number_front, package_front, integer_front, name_front, text_front, begins_name, bit_count_front}
use Rattle.aml_code.specs.Fronts.{segment_front}
use Rattle.aml_meaning.specs.Codes.{Code, PlainCode, SlotCode, DebugCode, OmittedCode, StringCode, BufferCode, PackageCode, VarPackageCode}
use Rattle.aml_meaning.specs.Codes.{CondRefOfCode, NameCode, AliasCode, ScopeCode, MethodCode, ExternalCode, MutexCode, EventCode}
use Rattle.aml_meaning.specs.Codes.{ReturnCode, DeviceCode, ThermalZoneCode, PowerResourceCode, ProcessorCode, code_front, slot_front}
use Rattle.aml_meaning.specs.Codes.{OperationRegionCode, FieldCode, IndexFieldCode, BankFieldCode, CreateFieldCode, IfCode, ElseCode}
use Rattle.aml_meaning.specs.Codes.{WhileCode, BreakCode, ContinueCode}

-- a run that keeps the bodies of methods as bytes
abbrev pub ByteRun : Type 0 → Type 0
ByteRun = Run (List ℕ)

-- goes on with what stands at the front; where it does not, the bytes are broken
abbrev pub with_front : {A C : Type 0} → Front A → (A → List ℕ → ByteRun C) → ByteRun C
with_front None go = stop Broken
with_front (Some r) go = go r.0 r.1

-- what a run gives, with the bytes that follow it
abbrev pub followed_by : {A : Type 0} → List ℕ → ByteRun A → ByteRun (A × List ℕ)
followed_by rest m = then_run m (λ a. done (a, rest))

-- what the term at the front does in a scope, with the bytes that follow it; the Bool says whether an Else is to run
abbrev pub Walk : Type 0
Walk = List ℕ → AbsolutePath → Bool → ByteRun (Flow × List ℕ)

-- the operand at the front
abbrev pub operand : Walk → List ℕ → AbsolutePath → ByteRun (Value × List ℕ)
operand w bytes scope = then_run (w bytes scope false) (λ r. followed_by r.1 (value_of r.0))

-- the first place of a name's search at which something stands now
abbrev pub find : Path → AbsolutePath → ByteRun AbsolutePath
find name scope s = existing (first_there s.names (search_path name scope)) s

-- what it leads to
abbrev pub found : Path → AbsolutePath → ByteRun (AbsolutePath × Object)
found name scope = then_run (find name scope) reach

-- the same, of a name that may lead nowhere
abbrev pub sought : Path → AbsolutePath → ByteRun (Option (AbsolutePath × Object))
sought name scope s = done (choose (first_there s.names (search_path name scope)) None (reached s.names)) s

-- so many operands
abbrev pub values : Walk → ℕ → List ℕ → AbsolutePath → ByteRun (List Value × List ℕ)
values w zero bytes scope = done ([], bytes)
values w (suc n) bytes scope =
    then_run (operand w bytes scope) (λ r. then_run (values w n r.1 scope) (λ q. done (r.0 ∷ q.0, q.1)))

-- the bytes of the term whose value is the Reference to the place
abbrev pub spot_bytes : SpotForm → List ℕ → List ℕ → Option (List ℕ)
spot_bytes OfResult bytes rest = Some bytes
spot_bytes OfInside bytes rest = Some rest
spot_bytes NoSpot bytes rest = None

abbrev pub spot_operand : Walk → AbsolutePath → List ℕ → ByteRun (Spot × List ℕ)
spot_operand w scope bytes = then_run (operand w bytes scope) (λ r. followed_by r.1 (act (spot_in r.0)))

abbrev pub spot_of_code : Walk → List ℕ → AbsolutePath → Code → List ℕ → ByteRun (Spot × List ℕ)
spot_of_code w bytes scope (SlotCode slot) rest = followed_by rest (then_run (act (slot_here slot)) (λ place. done (At place)))
spot_of_code w bytes scope DebugCode rest = done (DebugObject, rest)
spot_of_code w bytes scope OmittedCode rest = done (Nowhere, rest)
spot_of_code w bytes scope (PlainCode op) rest = choose (spot_bytes (spot_form op) bytes rest) (stop Broken) (spot_operand w scope)
spot_of_code w bytes scope _ rest = stop Broken

abbrev pub named_spot : AbsolutePath → Path → List ℕ → ByteRun (Spot × List ℕ)
named_spot scope name rest = followed_by rest (then_run (found name scope) (λ e. done (At (Named e.0))))

-- the place at the front
abbrev pub spot : Walk → List ℕ → AbsolutePath → ByteRun (Spot × List ℕ)
spot w bytes scope =
    if begins_name bytes then with_front (name_front bytes) (named_spot scope) else
    with_front (code_front bytes) (spot_of_code w bytes scope)

abbrev pub place_of_name : AbsolutePath → Path → List ℕ → ByteRun (Option Place)
place_of_name scope name rest = then_run (found name scope) (λ e. done (if_data e.1 (Some (Named e.0)) None))

-- the place of the data at the front, where it is a name of data, a Local or an Arg
abbrev pub place_at : List ℕ → AbsolutePath → ByteRun (Option Place)
place_at bytes scope =
    if begins_name bytes then with_front (name_front bytes) (place_of_name scope)
    else choose (slot_front bytes) (done None) (λ slot. then_run (act (slot_here slot)) (λ place. done (Some place)))

abbrev pub used_name : AbsolutePath → Path → List ℕ → ByteRun (Operand × List ℕ)
used_name scope name rest = followed_by rest (then_run (found name scope) (λ e. done (OfSpot (At (Named e.0)))))

-- the operand at the front, as its letter asks
abbrev pub lettered : Walk → Letter → List ℕ → AbsolutePath → ByteRun (Operand × List ℕ)
lettered w Valued bytes scope = then_run (operand w bytes scope) (λ r. done (OfValue r.0, r.1))
lettered w Kept bytes scope =
    then_run (place_at bytes scope) (λ place. then_run (operand w bytes scope) (λ r. done (OfKept place r.0, r.1)))
lettered w Placed bytes scope = then_run (spot w bytes scope) (λ r. done (OfSpot r.0, r.1))
lettered w Used bytes scope = with_front (name_front bytes) (used_name scope)
lettered w (Raw size) bytes scope = with_front (number_front size bytes) (λ number rest. done (OfNumber number, rest))

abbrev pub operands : Walk → List Letter → List ℕ → AbsolutePath → ByteRun (List Operand × List ℕ)
operands w [] bytes scope = done ([], bytes)
operands w (letter ∷ letters) bytes scope =
    then_run (lettered w letter bytes scope) (λ r. then_run (operands w letters r.1 scope) (λ q. done (r.0 ∷ q.0, q.1)))

module _ (width : Width) where
  -- so many targets, each of which takes its result
  abbrev pub store_all : Walk → ℕ → List Value → List ℕ → AbsolutePath → ByteRun (List ℕ)
  store_all w zero vs bytes scope = done bytes
  store_all w (suc n) [] bytes scope = fault WrongType
  store_all w (suc n) (v ∷ vs) bytes scope =
      then_run (spot w bytes scope) (λ r. then_run (act (store width r.0 v)) (λ u. store_all w n vs r.1 scope))

  -- a plain operator: its operands, what it does, and then its targets
  abbrev pub plain_term : Walk → List Letter → ℕ → Plain → List ℕ → AbsolutePath → ByteRun (Flow × List ℕ)
  plain_term w letters targets op bytes scope =
      then_run (operands w letters bytes scope)
      (λ r. then_run (act (act_of op width r.0)) (λ rs. then_run (store_all w targets rs r.1 scope) (λ rest. done (last_of rs, rest))))

  -- the number at the front
  abbrev pub size_of : Walk → List ℕ → AbsolutePath → ByteRun (ℕ × List ℕ)
  size_of w bytes scope = then_run (operand w bytes scope) (λ r. followed_by r.1 (act (number_of width r.0)))

  abbrev pub buffer_term : Walk → AbsolutePath → List ℕ → ByteRun Flow
  buffer_term w scope content =
      then_run (size_of w content scope) (λ r. then_run (act (computed (buffer_of r.0 r.1))) (λ v. done (Gives v)))

  -- the path of a name in a Package
  abbrev pub element_name : AbsolutePath → Path → List ℕ → ByteRun (Value × List ℕ)
  element_name scope name rest =
      followed_by rest (if is_searched name then then_run (find name scope) (λ path. done (Reference (Named path))) else
      done (Reference (Named (declared_path name scope))))

  abbrev pub element_at : Walk → List ℕ → AbsolutePath → ByteRun (Value × List ℕ)
  element_at w bytes scope =
      if begins_name bytes then with_front (name_front bytes) (element_name scope) else operand w bytes scope

  -- the elements of a Package, at most n
  abbrev pub elements : Walk → ℕ → List ℕ → AbsolutePath → ByteRun Elements
  elements w n [] scope = done no_elements
  elements w zero (byte ∷ bytes) scope = stop Broken
  elements w (suc n) (byte ∷ bytes) scope =
      then_run (element_at w (byte ∷ bytes) scope) (λ r. then_run (elements w n r.1 scope) (λ vs. done (element r.0 vs)))

  abbrev pub package_term : Walk → AbsolutePath → ℕ → List ℕ → ByteRun Flow
  package_term w scope n items =
      then_run (elements w (length items) items scope) (λ es. then_run (act (computed (package_of n es))) (λ v. done (Gives v)))

  abbrev pub counted_package : Walk → AbsolutePath → List ℕ → ByteRun Flow
  counted_package w scope [] = stop Broken
  counted_package w scope (n ∷ items) = package_term w scope n items

  abbrev pub sized_package : Walk → AbsolutePath → List ℕ → ByteRun Flow
  sized_package w scope content = then_run (size_of w content scope) (λ r. package_term w scope r.0 r.1)

  abbrev pub cond_name : AbsolutePath → Path → List ℕ → ByteRun (Option Spot × List ℕ)
  cond_name scope name rest =
      followed_by rest (then_run (sought name scope) (λ o. done (choose o None (λ e. Some (At (Named e.0))))))

  -- the place at the front, of which a name may lead nowhere
  abbrev pub cond_spot : Walk → List ℕ → AbsolutePath → ByteRun (Option Spot × List ℕ)
  cond_spot w bytes scope =
      if begins_name bytes then with_front (name_front bytes) (cond_name scope) else
      then_run (spot w bytes scope) (λ r. done (Some r.0, r.1))

  abbrev pub cond_ref_of_term : Walk → AbsolutePath → List ℕ → ByteRun (Flow × List ℕ)
  cond_ref_of_term w scope bytes =
      then_run (cond_spot w bytes scope)
      (λ r. then_run (spot w r.1 scope) (λ q. followed_by q.1 (then_run (act (cond_ref_of width r.0 q.0)) (λ v. done (Gives v)))))

-- a list of at most n terms
abbrev pub walk_all : Walk → ℕ → List ℕ → AbsolutePath → Bool → ByteRun Flow
walk_all w n [] scope due = done (Normal false)
walk_all w zero (byte ∷ bytes) scope due = stop Broken
walk_all w (suc n) (byte ∷ bytes) scope due = then_run (w (byte ∷ bytes) scope due) (λ r. on_flow r.0 (walk_all w n r.1 scope))

abbrev pub name_term : Walk → AbsolutePath → AbsolutePath → List ℕ → ByteRun (Flow × List ℕ)
name_term w scope path bytes =
    then_run (operand w bytes scope)
    (λ r. followed_by r.1 (then_run (create path DataObject) (λ u. then_run (act (write_named path r.0)) (λ u. done (Normal false)))))

-- the byte of flags, and then the body
abbrev pub method_term : AbsolutePath → List ℕ → ByteRun Flow
method_term path [] = stop Broken
method_term path (flags ∷ body) = then_run (create path (MethodObject flags))
    (λ u. then_run (keep_body path body) (λ u. done (Normal false)))

-- a new object that is its term alone
abbrev pub created_term : AbsolutePath → Object → ByteRun Flow
created_term path object = then_run (create path object) (λ u. done (Normal false))

-- the byte of the level
abbrev pub mutex_term : AbsolutePath → Path → List ℕ → ByteRun (Flow × List ℕ)
mutex_term scope name [] = stop Broken
mutex_term scope name (level ∷ rest) = followed_by rest (created_term (declared_path name scope) (MutexObject level))

abbrev pub alias_term : Path → AbsolutePath → AbsolutePath → ByteRun Flow
alias_term source scope path = then_run (found source scope) (λ e. then_run (create path (AliasObject e.0)) (λ u. done (Normal false)))

-- the object type and the number of parameters of an External, which say nothing at run time
abbrev pub external_term : List ℕ → ByteRun (Flow × List ℕ)
external_term (type ∷ parameters ∷ rest) = done (Normal false, rest)
external_term _ = stop Broken

-- what stands between the name and the terms of a container
abbrev pub container_front : Code → List ℕ → Front Container
container_front DeviceCode bytes = Some (Device, bytes)
container_front ThermalZoneCode bytes = Some (ThermalZone, bytes)
container_front PowerResourceCode bytes =
    choose (number_front 1 bytes) None
    (λ level. choose (number_front 2 level.1) None (λ order. Some (PowerResource level.0 order.0, order.1)))
container_front ProcessorCode bytes =
    choose (number_front 1 bytes) None
    (λ number. choose (number_front 4 number.1) None
    (λ address. choose (number_front 1 address.1) None (λ size. Some (Processor number.0 address.0 size.0, size.1))))
container_front _ bytes = None

-- all terms of a body
abbrev pub body_terms : Walk → AbsolutePath → List ℕ → ByteRun Flow
body_terms w scope body = walk_all w (length body) body scope false

abbrev pub container_term : Walk → AbsolutePath → Container → List ℕ → ByteRun Flow
container_term w path kind body = then_run (create path (ContainerObject kind)) (λ u. body_terms w path body)

abbrev pub container_of_code : Walk → AbsolutePath → Code → List ℕ → ByteRun (Flow × List ℕ)
container_of_code w scope code bytes =
    with_front (package_front bytes)
    (λ content after. followed_by after
    (with_front (name_front content) (λ name rest. with_front (container_front code rest) (container_term w (declared_path name scope)))))

-- the region that the name at the front leads to, and the register
abbrev pub region_named : AbsolutePath → Path → List ℕ → ByteRun (AbsolutePath × List ℕ)
region_named scope name rest = followed_by rest (then_run (found name scope) (λ e. done e.0))

abbrev pub region_at : List ℕ → AbsolutePath → ByteRun (AbsolutePath × List ℕ)
region_at bytes scope = with_front (name_front bytes) (region_named scope)

abbrev pub register_named : AbsolutePath → Path → List ℕ → ByteRun (FieldUnit × List ℕ)
register_named scope name rest = followed_by rest (then_run (found name scope) (λ e. act (register_of e)))

abbrev pub register_at : List ℕ → AbsolutePath → ByteRun (FieldUnit × List ℕ)
register_at bytes scope = with_front (name_front bytes) (register_named scope)

-- an access and its attribute, and where it is written the length of transfers
abbrev pub access_front : List ℕ → Front (ℕ × ℕ)
access_front (access ∷ attribute ∷ rest) = Some ((access, attribute), rest)
access_front _ = None

abbrev pub long_access_front : List ℕ → Front (ℕ × ℕ × ℕ)
long_access_front (access ∷ attribute ∷ length ∷ rest) = Some ((access, attribute, length), rest)
long_access_front _ = None

-- what units are connected to: what a name leads to, or a Buffer, whose size stands before its bytes
abbrev pub object_link : AbsolutePath → Path → List ℕ → ByteRun (Connection × List ℕ)
object_link scope name rest = then_run (region_named scope name rest) (λ r. done (ToObject r.0, r.1))

abbrev pub resource_link : Width → List ℕ → ByteRun Connection
resource_link width content =
    with_front (integer_front width content) (λ size bytes. then_run (act (resource_of size bytes)) (λ bytes. done (ToResource bytes)))

abbrev pub buffer_link : Width → List ℕ → ByteRun (Connection × List ℕ)
buffer_link width [] = stop Broken
buffer_link width (code ∷ bytes) =
    if nat_eq code 0x11 then with_front (package_front bytes) (λ content after. followed_by after (resource_link width content)) else
    stop Broken

abbrev pub link_at : Width → AbsolutePath → List ℕ → ByteRun (Connection × List ℕ)
link_at width scope bytes = if begins_name bytes then with_front (name_front bytes) (object_link scope) else buffer_link width bytes

-- what the first byte of an item says: a gap, an access, a connection, an access with a length, or a unit
pub data ItemCode : Type 0 where
  GapCode AccessCode ConnectionCode LongAccessCode UnitCode : ItemCode

abbrev pub item_code : ℕ → ItemCode
item_code byte =
    if nat_eq byte 0x00 then GapCode else if nat_eq byte 0x01 then AccessCode else if nat_eq byte 0x02 then ConnectionCode else
    if nat_eq byte 0x03 then LongAccessCode else UnitCode

-- an item, of which `bytes` follow the first byte, and then the items behind it
abbrev pub walk_item : Width → (Extent → FieldUnit) → AbsolutePath → Cursor → (Cursor → List ℕ → ByteRun Flow) → ItemCode → List ℕ →
    List ℕ → ByteRun Flow
walk_item width unit scope c go GapCode whole bytes = with_front (bit_count_front bytes) (λ bits rest. go (behind_bits c bits) rest)
walk_item width unit scope c go AccessCode whole bytes = with_front (access_front bytes) (λ a rest. go (accessed c a.0 a.1 0) rest)
walk_item width unit scope c go ConnectionCode whole bytes = then_run (link_at width scope bytes) (λ r. go (connected_to c r.0) r.1)
walk_item width unit scope c go LongAccessCode whole bytes = with_front (long_access_front bytes)
    (λ a rest. go (accessed c a.0 a.1 a.2) rest)
walk_item width unit scope c go UnitCode whole bytes =
    with_front (segment_front whole) (λ name rest. with_front (bit_count_front rest)
    (λ bits rest. then_run (create_unit unit scope c name bits) (λ u. go (behind_bits c bits) rest)))

-- at most n items of a field's list
abbrev pub walk_items : Width → ℕ → (Extent → FieldUnit) → AbsolutePath → Cursor → List ℕ → ByteRun Flow
walk_items width n unit scope c [] = done (Normal false)
walk_items width zero unit scope c (byte ∷ bytes) = stop Broken
walk_items width (suc n) unit scope c (byte ∷ bytes) = walk_item width unit scope c (walk_items width n unit scope) (item_code byte)
    (byte ∷ bytes) bytes

-- the flags of a field, and its list
abbrev pub field_list : Width → (Extent → FieldUnit) → AbsolutePath → List ℕ → ByteRun Flow
field_list width unit scope [] = stop Broken
field_list width unit scope (flags ∷ items) = walk_items width (length items) unit scope (first_unit flags) items

-- the byte of the space, and then the offset and the length
abbrev pub region_term : Width → Walk → AbsolutePath → AbsolutePath → List ℕ → ByteRun (Flow × List ℕ)
region_term width w scope path [] = stop Broken
region_term width w scope path (space ∷ bytes) = then_run (operands w region_letters bytes scope)
    (λ r. followed_by r.1 (make_region width path space r.0))

abbrev pub field_term : Width → AbsolutePath → List ℕ → ByteRun Flow
field_term width scope content = then_run (region_at content scope) (λ r. field_list width (InRegion r.0) scope r.1)

abbrev pub index_field_term : Width → AbsolutePath → List ℕ → ByteRun Flow
index_field_term width scope content =
    then_run (register_at content scope) (λ i. then_run (register_at i.1 scope) (λ r. field_list width (BehindIndex i.0 r.0) scope r.1))

abbrev pub bank_field_term : Width → Walk → AbsolutePath → List ℕ → ByteRun Flow
bank_field_term width w scope content =
    then_run (region_at content scope)
    (λ r. then_run (register_at r.1 scope)
    (λ b. then_run (size_of width w b.1 scope) (λ n. field_list width (InBank r.0 b.0 n.0) scope n.1)))

-- the operands, and then the name
abbrev pub buffer_field_term : Width → Walk → AbsolutePath → FieldForm → List ℕ → ByteRun (Flow × List ℕ)
buffer_field_term width w scope form bytes =
    then_run (operands w (field_letters form) bytes scope)
    (λ r. with_front (name_front r.1) (λ name rest. followed_by rest (make_buffer_field width form (declared_path name scope) r.0)))

-- a test, and then the terms that it guards
abbrev pub if_term : Width → Walk → AbsolutePath → List ℕ → ByteRun Flow
if_term width w scope content = then_run (size_of width w content scope) (λ r. if is_true r.0 then body_terms w scope r.1 else
    done (Normal true))

-- the test is read from the bytes in every turn
abbrev pub while_term : Width → ℕ → Walk → AbsolutePath → List ℕ → ByteRun Flow
while_term width turns w scope content =
    loop turns (then_run (size_of width w content scope) (λ r. done (is_true r.0, r.1))) (body_terms w scope)

abbrev pub else_term : Walk → Bool → AbsolutePath → List ℕ → ByteRun Flow
else_term w due scope content = if due then body_terms w scope content else done (Normal false)

module _ (width : Width) (turns : ℕ) (call : AbsolutePath → List Value → ByteRun Flow) where
  -- a name in the place of an operand or a statement, with as many operands as what is found there has
  abbrev pub use_name : Walk → AbsolutePath → Path → List ℕ → ByteRun (Flow × List ℕ)
  use_name w scope name rest =
      then_run (found name scope)
      (λ e. then_run (values w (operand_count e.1) rest scope) (λ r. followed_by r.1 (use_object width call e.0 e.1 r.0)))

  -- a term behind its opcode, where w walks the terms inside it and `due` says whether an Else is to run
  abbrev pub term_of_code : Walk → Bool → AbsolutePath → Code → List ℕ → ByteRun (Flow × List ℕ)
  term_of_code w due scope (PlainCode op) bytes = plain_term width w (row_of op).operands (row_of op).targets op bytes scope
  term_of_code w due scope (SlotCode slot) bytes =
      followed_by bytes (then_run (act (slot_here slot)) (λ place. then_run (act (read width place)) (λ v. done (Gives v))))
  term_of_code w due scope DebugCode bytes = fault WrongType
  term_of_code w due scope OmittedCode bytes = stop Broken
  term_of_code w due scope StringCode bytes = with_front (text_front bytes) (λ text rest. done (Gives (Data (V.String text)), rest))
  term_of_code w due scope BufferCode bytes =
      with_front (package_front bytes) (λ content after. followed_by after (buffer_term width w scope content))
  term_of_code w due scope PackageCode bytes =
      with_front (package_front bytes) (λ content after. followed_by after (counted_package width w scope content))
  term_of_code w due scope VarPackageCode bytes =
      with_front (package_front bytes) (λ content after. followed_by after (sized_package width w scope content))
  term_of_code w due scope CondRefOfCode bytes = cond_ref_of_term width w scope bytes
  term_of_code w due scope NameCode bytes = with_front (name_front bytes) (λ name rest. name_term w scope (declared_path name scope) rest)
  term_of_code w due scope MethodCode bytes =
      with_front (package_front bytes)
      (λ content after. followed_by after (with_front (name_front content) (λ name rest. method_term (declared_path name scope) rest)))
  term_of_code w due scope MutexCode bytes = with_front (name_front bytes) (mutex_term scope)
  term_of_code w due scope EventCode bytes =
      with_front (name_front bytes) (λ name rest. followed_by rest (created_term (declared_path name scope) EventObject))
  term_of_code w due scope ReturnCode bytes = then_run (operand w bytes scope) (λ r. done (Return r.0, r.1))
  term_of_code w due scope AliasCode bytes =
      with_front (name_front bytes)
      (λ source rest. with_front (name_front rest) (λ name after. followed_by after (alias_term source scope (declared_path name scope))))
  term_of_code w due scope ExternalCode bytes = with_front (name_front bytes) (λ name rest. external_term rest)
  term_of_code w due scope ScopeCode bytes =
      with_front (package_front bytes)
      (λ content after. followed_by after
      (with_front (name_front content) (λ name body. then_run (find name scope) (λ path. body_terms w path body))))
  term_of_code w due scope IfCode bytes =
      with_front (package_front bytes) (λ content after. followed_by after (if_term width w scope content))
  term_of_code w due scope ElseCode bytes =
      with_front (package_front bytes) (λ content after. followed_by after (else_term w due scope content))
  term_of_code w due scope WhileCode bytes =
      with_front (package_front bytes) (λ content after. followed_by after (while_term width turns w scope content))
  term_of_code w due scope BreakCode bytes = done (Break, bytes)
  term_of_code w due scope ContinueCode bytes = done (Continue, bytes)
  term_of_code w due scope OperationRegionCode bytes =
      with_front (name_front bytes) (λ name rest. region_term width w scope (declared_path name scope) rest)
  term_of_code w due scope FieldCode bytes =
      with_front (package_front bytes) (λ content after. followed_by after (field_term width scope content))
  term_of_code w due scope IndexFieldCode bytes =
      with_front (package_front bytes) (λ content after. followed_by after (index_field_term width scope content))
  term_of_code w due scope BankFieldCode bytes =
      with_front (package_front bytes) (λ content after. followed_by after (bank_field_term width w scope content))
  term_of_code w due scope (CreateFieldCode form) bytes = buffer_field_term width w scope form bytes
  term_of_code w due scope code bytes = container_of_code w scope code bytes

  -- a term that is no integer constant: a name, or an opcode
  abbrev pub other_term : Walk → Bool → AbsolutePath → List ℕ → ByteRun (Flow × List ℕ)
  other_term w due scope bytes =
      if begins_name bytes then with_front (name_front bytes) (use_name w scope) else
      with_front (code_front bytes) (term_of_code w due scope)

  -- terms stand in one another at most n deep
  abbrev pub walk : ℕ → Walk
  walk zero bytes scope due = stop Broken
  walk (suc n) bytes scope due =
      choose (integer_front width bytes) (other_term (walk n) due scope bytes)
      (λ r. done (Gives (Data (V.Integer (wrapped width r.0))), r.1))

  -- the terms of a list; it has no more terms, and no more terms in one another, than bytes
  abbrev pub walk_list : List ℕ → AbsolutePath → ByteRun Flow
  walk_list bytes scope = walk_all (walk (length bytes)) (length bytes) bytes scope false

module _ (width : Width) (turns : ℕ) where
  -- a call of the method at a path, where calls may nest so many deep, this one counted
  abbrev pub call_method : ℕ → AbsolutePath → List Value → ByteRun Flow
  call_method zero path args = stop Unfinished
  call_method (suc depth) path args =
      then_run (body_at path) (λ body. activation args (walk_list width turns (call_method depth) body path))
