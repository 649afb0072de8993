-- The walk over a ready tree's bytes does what the tree means.
use Rattle.std.proofs.Common.{◌≡◌, ℕ, zero, suc, ◌+◌, ◌%◌, ◌^◌, ◌<◌, ◌≤◌, Bool, true, false, List, [], ◌∷◌, ◌++◌, length, Some, None, refl, sym, ap, ◌∙◌, arith, append_assoc, length-append, le_refl, subst}
use Rattle.std.specs.Prelude.{if◌then◌else◌}
use Rattle.byteorder.specs.Endian.{little_bytes}
use Rattle.acpi_values.specs.declared.width.Width.{Width}
use Rattle.acpi_values.specs.declared.width.Width.TheVariants.{W32, W64}
use Rattle.acpi_values.specs.declared.operator.Plain.{Plain}
use Rattle.acpi_values.specs.Paths.{AbsolutePath}
use Rattle.acpi_values.specs.Values as V
use Rattle.acpi_values.specs.Values.{Value, Data, Reference, Elements, no_elements, element, Place, Named}
use Rattle.acpi_values.specs.Operators.{Letter, Valued, Kept, Placed, Used, Row, row_of}
use Rattle.acpi_values.specs.Operators as L
use Rattle.acpi_values.specs.Widths.{ones_of}
use Rattle.acpi_values.specs.Integers.{wrapped}
use Rattle.acpi_values.proofs.Wraps.{wrapped_fits, wrapped_again}
use Rattle.acpi_state.specs.Objects.{Object, DataObject, MethodObject, ContainerObject, MutexObject, EventObject, AliasObject, Container, OfRoot, Device, ThermalZone, PowerResource, Processor}
use Rattle.acpi_state.specs.Activations.{create}
use Rattle.acpi_state.specs.Outcomes.{Flow, Normal, Gives, Unfinished, Run, done, stop, then_run, act, choose, value_of, on_flow}
use Rattle.acpi_state.specs.Outcomes as O
use Rattle.acpi_state.specs.Loops.{is_true}
use Rattle.acpi_state.specs.Actions.{computed, write_named}
use Rattle.acpi_state.specs.Stores.{Spot, Nowhere, DebugObject, At, read, store}
use Rattle.acpi_state.specs.Acts.{OfValue, OfKept, OfSpot, OfNumber}
use Rattle.acpi_state.specs.FieldUnits.{InRegion, InBank, BehindIndex}
use Rattle.acpi_state.specs.FieldActs.{region_letters, field_letters, make_buffer_field}
use Rattle.acpi_state.specs.Forms.{buffer_of, package_of, slot_here, if_data, cond_ref_of}
use Rattle.acpi_state.proofs.Readings.{Any, EndsExpression, same_stop}
use Rattle.asl_tree.specs.Names.{is_known, declared_path, denoted}
use Rattle.asl_tree.specs.declared.term.Literal.{Literal}
use Rattle.asl_tree.specs.Tree.{Tree, Integer, Constant, String, InSlot, Debug, Omitted, Raw, Use, Call, Apply, Buffer, Package, VarPackage, CondRefOf, Return, Name, Alias, External, Method, Mutex, Event, Container', Scope, Fill, Misshapen}
use Rattle.asl_tree.specs.Tree.{Operated, Assigned, AssignedBy, Trees, no_trees, tree, count, OperationRegion, Field, IndexField, BankField, CreateField, If, ElseIf, Else, While, Break, Continue, Item, Switch, Case, Default, For, Print}
use Rattle.asl_meaning.specs.Meaning as S
use Rattle.asl_meaning.specs.Meaning.{SourceRun, spot_form}
use Rattle.asl_tree.specs.declared.path.Path.{Path}
use Rattle.aml_code.specs.Fronts.{name_front, number_front, begins_name, Front}
use Rattle.aml_meaning.specs.Codes.{Code, PlainCode, SlotCode, DebugCode, OmittedCode, StringCode, BufferCode, PackageCode, VarPackageCode, CondRefOfCode, NameCode, AliasCode, ScopeCode, MethodCode, ExternalCode, MutexCode, EventCode, ReturnCode, DeviceCode}
use Rattle.aml_meaning.specs.Codes.{ThermalZoneCode, PowerResourceCode, ProcessorCode, code_bytes, slot_front, HasOwnCode, OperationRegionCode, FieldCode, IndexFieldCode, BankFieldCode, CreateFieldCode, IfCode, ElseCode, WhileCode, BreakCode, ContinueCode}
use Rattle.aml_code.specs.Encoding.{integer_bytes, name_bytes, package_length_bytes, packed}
use Rattle.aml_meaning.specs.Encoded.{literal_bytes, container_code, container_bytes, parameter_count, encoded, encoded_all, field_bytes}
use Rattle.aml_meaning.specs.ByteMeaning as B
use Rattle.aml_meaning.specs.ByteMeaning.{ByteRun, Walk, with_front, followed_by}
use Rattle.aml_code.proofs.FrontReads.{integer_reads, number_reads, name_some}
use Rattle.aml_meaning.proofs.CodeReads.{code_some, code_reads}
use Rattle.aml_sessions.specs.Ready.{is_expression, is_constant, TakesNone, Takes, FitsContainer, Denotes, CondReady, LetterReady, ElementReady, IsReady, IsSpot, IsAlone, AreOperands, AreSpots, AreValues, AreElements, AreReady}
use Rattle.aml_sessions.proofs.Heads.{NoPlace, code_no_place, is_integer, text_reads}
use Rattle.asl_meaning.proofs.Agreements.{IsKnownAs, right_state, IsFine, Agree, agree_done, agree_fault, agree_then, agree_to, agree_to_left, agree_so, agree_on_flow, agree_act, agree_given, agree_create, agree_keep, agree_body, agree_activation, agree_region, agree_buffer_field, agree_if, agree_loop}
use Rattle.aml_sessions.proofs.Bodies.{Setting, as_bytes, agree_followed, agree_find, agree_found, agree_sought, reached_ends, alias_leads}
use Rattle.aml_sessions.proofs.Fields.{agree_field_list, agree_region_at, agree_register_at}
use Rattle.aml_sessions.proofs.Steps.{EndsAs, as_any, package_step, name_step, lead_step, opcode_step, no_place_step, list_step, element_step, code_step, use_step, agree_operand, agree_size, agree_plain, agree_spot_form, agree_use_found, agree_call_found}

literal_wrapped : (width : Width) → wrapped width (ones_of width) ≡ ones_of width
literal_wrapped W32 = refl
literal_wrapped W64 = refl

one_wrapped : (width : Width) → wrapped width 1 ≡ 1
one_wrapped W32 = refl
one_wrapped W64 = refl

zero_wrapped : (width : Width) → wrapped width 0 ≡ 0
zero_wrapped W32 = refl
zero_wrapped W64 = refl

-- what stands between a container's name and its terms reads back
container_reads : (kind : Container) → FitsContainer kind → (rest : List ℕ) → B.container_front (container_code kind) (container_bytes kind ++ rest) ≡ Some (kind, rest)
container_reads OfRoot fits rest = absurd fits
container_reads Device fits rest = refl
container_reads ThermalZone fits rest = refl
container_reads (PowerResource level order) fits rest =
    ap (B.container_front PowerResourceCode) (append_assoc (little_bytes 1 level) (little_bytes 2 order) rest)
    ∙ ap (λ o. choose {A = ℕ × List ℕ} {C = Front Container} o None (λ level. choose (number_front 2 level.1) None (λ order. Some (PowerResource level.0 order.0, order.1)))) (number_reads 1 level fits.0 (little_bytes 2 order ++ rest))
    ∙ ap (λ o. choose {A = ℕ × List ℕ} {C = Front Container} o None (λ order. Some (PowerResource level order.0, order.1))) (number_reads 2 order fits.1 rest)
container_reads (Processor number address size) fits rest =
    ap (B.container_front ProcessorCode) (append_assoc (little_bytes 1 number) (little_bytes 4 address ++ little_bytes 1 size) rest ∙ ap (λ bs. little_bytes 1 number ++ bs) (append_assoc (little_bytes 4 address) (little_bytes 1 size) rest))
    ∙ ap (λ o. choose {A = ℕ × List ℕ} {C = Front Container} o None (λ number. choose (number_front 4 number.1) None (λ address. choose (number_front 1 address.1) None (λ size. Some (Processor number.0 address.0 size.0, size.1))))) (number_reads 1 number fits.0 (little_bytes 4 address ++ (little_bytes 1 size ++ rest)))
    ∙ ap (λ o. choose {A = ℕ × List ℕ} {C = Front Container} o None (λ address. choose (number_front 1 address.1) None (λ size. Some (Processor number address.0 size.0, size.1)))) (number_reads 4 address fits.1 (little_bytes 1 size ++ rest))
    ∙ ap (λ o. choose {A = ℕ × List ℕ} {C = Front Container} o None (λ size. Some (Processor number address size.0, size.1))) (number_reads 1 size fits.2 rest)

container_some : (kind : Container) → 1 ≤ length (code_bytes (container_code kind))
container_some ThermalZone = omega arith
container_some (PowerResource level order) = omega arith
container_some (Processor number address size) = omega arith
container_some _ = omega arith

-- a container's opcode at the front of a term
container_step : (width : Width) (turns : ℕ) (call : AbsolutePath → List Value → ByteRun Flow) (n : ℕ) (kind : Container) (rest : List ℕ) (scope : AbsolutePath) (due : Bool) → B.walk width turns call (suc n) (code_bytes (container_code kind) ++ rest) scope due ≡ B.container_of_code (B.walk width turns call n) scope (container_code kind) rest
container_step width turns call n ThermalZone rest scope due = code_step width turns call n ThermalZoneCode rest scope due tt tt
container_step width turns call n (PowerResource level order) rest scope due = code_step width turns call n PowerResourceCode rest scope due tt tt
container_step width turns call n (Processor number address size) rest scope due = code_step width turns call n ProcessorCode rest scope due tt tt
container_step width turns call n _ rest scope due = code_step width turns call n DeviceCode rest scope due tt tt

module _ (given : Setting) where
  abbrev E : Tree → List ℕ
  E t = encoded given.width given.short t

  abbrev EA : Trees → List ℕ
  EA ts = encoded_all given.width given.short ts

  abbrev Ready : Tree → AbsolutePath → Type 0
  Ready t scope = IsReady ⊥ given.known t scope

  literal_some : (literal : Literal) → 1 ≤ length (literal_bytes literal)
  literal_some Literal.Zero = omega arith
  literal_some Literal.One = omega arith
  literal_some Literal.Ones = omega arith

  coded_some : (code : Code) (tail : List ℕ) → 1 ≤ length (code_bytes code ++ tail)
  coded_some code tail = omega (arith, code_some code, length-append (code_bytes code) tail)

  -- every ready term has a byte
  pub encoded_some : (t : Tree) (scope : AbsolutePath) → Ready t scope → 1 ≤ length (E t)
  encoded_some (Integer number) scope ready = (is_integer given.width given.short (wrapped given.width number)).some
  encoded_some (Constant literal) scope ready = literal_some literal
  encoded_some (String text) scope ready = omega arith
  encoded_some (InSlot slot) scope ready = omega arith
  encoded_some Debug scope ready = omega arith
  encoded_some Omitted scope ready = absurd ready
  encoded_some (Raw size number) scope ready = absurd ready
  encoded_some (Use at name) scope ready = name_some name ready.1.used
  encoded_some (Call at name args) scope ready = omega (arith, name_some name ready.1.used, length-append (name_bytes name) (EA args))
  encoded_some (Apply op args targets) scope ready = coded_some (PlainCode op) (EA args ++ EA targets)
  encoded_some (Buffer size bytes) scope ready = omega arith
  encoded_some (Package n elements) scope ready = omega arith
  encoded_some (VarPackage size elements) scope ready = omega arith
  encoded_some (CondRefOf place target) scope ready = omega arith
  encoded_some (Return value) scope ready = omega arith
  encoded_some (Name at name value) scope ready = omega arith
  encoded_some (Method at name flags body) scope ready = omega arith
  encoded_some (Mutex at name level) scope ready = omega arith
  encoded_some (Event at name) scope ready = omega arith
  encoded_some (Alias from source at name) scope ready = omega arith
  encoded_some (External here at name type parameters) scope ready = omega arith
  encoded_some (Container' kind at name body) scope ready =
      omega (arith, container_some kind, length-append (code_bytes (container_code kind)) (packed (name_bytes name ++ (container_bytes kind ++ EA body))))
  encoded_some (Scope here at name body) scope ready = omega arith
  encoded_some (If test body) scope ready = omega arith
  encoded_some (Else body) scope ready = omega arith
  encoded_some (While test body) scope ready = omega arith
  encoded_some Break scope ready = omega arith
  encoded_some Continue scope ready = omega arith
  encoded_some (OperationRegion at name space args) scope ready = omega arith
  encoded_some (Field here from region flags items) scope ready = omega arith
  encoded_some (IndexField here from index to register flags items) scope ready = omega arith
  encoded_some (BankField here from region to bank value flags items) scope ready = omega arith
  encoded_some (CreateField form args at name) scope ready = coded_some (CreateFieldCode form) (EA args ++ name_bytes name)
  encoded_some (Item item) scope ready = absurd ready
  encoded_some (Fill bytes) scope ready = absurd ready
  encoded_some (Operated op args) scope ready = absurd ready
  encoded_some (Assigned target value) scope ready = absurd ready
  encoded_some (AssignedBy op target value) scope ready = absurd ready
  encoded_some (ElseIf test body) scope ready = absurd ready.0
  encoded_some (Switch value cases) scope ready = absurd ready
  encoded_some (Case value body) scope ready = absurd ready
  encoded_some (Default body) scope ready = absurd ready
  encoded_some (For start test step body) scope ready = absurd ready
  encoded_some (Print place format args) scope ready = absurd ready
  encoded_some Misshapen scope ready = absurd ready

  element_some : (t : Tree) (scope : AbsolutePath) → ElementReady given.known t (Ready t scope) → 1 ≤ length (E t)
  element_some (Use at name) scope ready = name_some name ready.used
  element_some (Integer number) scope ready = encoded_some (Integer number) scope ready.1
  element_some t scope ready = encoded_some t scope ready.1

  literal_no_place : (literal : Literal) (rest : List ℕ) → NoPlace (literal_bytes literal ++ rest)
  literal_no_place Literal.Zero rest = record { no_name = refl; no_slot = refl }
  literal_no_place Literal.One rest = record { no_name = refl; no_slot = refl }
  literal_no_place Literal.Ones rest = record { no_name = refl; no_slot = refl }

  -- an element that is no name begins as no name
  constant_no_place : (t : Tree) (rest : List ℕ) → is_constant t ≡ true → NoPlace (E t ++ rest)
  constant_no_place (Integer number) rest e = (is_integer given.width given.short (wrapped given.width number)).no_place rest
  constant_no_place (Constant literal) rest e = literal_no_place literal rest
  constant_no_place (String text) rest e = code_no_place StringCode tt refl (text ++ 0x00 ∷ []) rest
  constant_no_place (Buffer size bytes) rest e = code_no_place BufferCode tt refl (packed (E size ++ bytes)) rest
  constant_no_place (Package n elements) rest e = code_no_place PackageCode tt refl (packed ((n % 256) ∷ EA elements)) rest
  constant_no_place (VarPackage size elements) rest e = code_no_place VarPackageCode tt refl (packed (E size ++ EA elements)) rest
  constant_no_place t rest e = absurd (grind arith)

  no_place : (t : Tree) (scope : AbsolutePath) (rest : List ℕ) → NoPlace (E t ++ rest) → Agree (as_bytes given) Any (λ o. o) (done None) (B.place_at (E t ++ rest) scope)
  no_place t scope rest none = agree_to (as_bytes given) (no_place_step (E t ++ rest) scope none) (agree_done (as_bytes given) Any (λ o. o) None tt)

  named_place : (name : Path) (scope path : AbsolutePath) (rest : List ℕ) → Denotes given.known name scope path → Agree (as_bytes given) Any (λ o. o) (S.place_of_name given.width given.known name scope) (B.place_at (name_bytes name ++ rest) scope)
  named_place name scope path rest denotes =
      agree_to (as_bytes given) (lead_step name rest (B.place_of_name scope) _ denotes.used)
      (agree_then (as_bytes given) Any (λ o. o) _ (agree_found given name scope path denotes) (λ e is. agree_done (as_bytes given) Any (λ o. o) (if_data e.1 (Some (Named e.0)) None) tt))

  -- the place of an operand that keeps it
  agree_place : (t : Tree) (scope : AbsolutePath) (rest : List ℕ) → is_expression t ≡ true → Ready t scope → Agree (as_bytes given) Any (λ o. o) (S.place_by given.width given.known t scope) (B.place_at (E t ++ rest) scope)
  agree_place (InSlot slot) scope rest e ready =
      let r = code_reads (SlotCode slot) ready rest in
      agree_to (as_bytes given)
      (ap (λ b. if b then with_front (name_front (code_bytes (SlotCode slot) ++ rest)) (B.place_of_name scope) else choose (slot_front (code_bytes (SlotCode slot) ++ rest)) (done None) (λ slot. then_run (act (slot_here slot)) (λ place. done (Some place)))) r.no_name
      ∙ ap (λ o. choose o (done None) (λ slot. then_run (act (slot_here slot)) (λ place. done (Some place)))) r.slot_is)
      (agree_then (as_bytes given) Any (λ o. o) _ (agree_act (as_bytes given) (slot_here slot)) (λ place any. agree_done (as_bytes given) Any (λ o. o) (Some place) tt))
  agree_place (Use at name) scope rest e ready = named_place name scope ready.0 rest ready.1
  agree_place (Call at name args) scope rest e ready =
      agree_to (as_bytes given) (ap (λ bs. B.place_at bs scope) (append_assoc (name_bytes name) (EA args) rest)) (named_place name scope ready.0 (EA args ++ rest) ready.1)
  agree_place (Integer number) scope rest e ready = no_place (Integer number) scope rest (constant_no_place (Integer number) rest refl)
  agree_place (Constant literal) scope rest e ready = no_place (Constant literal) scope rest (constant_no_place (Constant literal) rest refl)
  agree_place (String text) scope rest e ready = no_place (String text) scope rest (constant_no_place (String text) rest refl)
  agree_place (Buffer size bytes) scope rest e ready = no_place (Buffer size bytes) scope rest (constant_no_place (Buffer size bytes) rest refl)
  agree_place (Package n elements) scope rest e ready = no_place (Package n elements) scope rest (constant_no_place (Package n elements) rest refl)
  agree_place (VarPackage size elements) scope rest e ready = no_place (VarPackage size elements) scope rest (constant_no_place (VarPackage size elements) rest refl)
  agree_place Debug scope rest e ready = no_place Debug scope rest (record { no_name = refl; no_slot = refl })
  agree_place (Apply op args targets) scope rest e ready = no_place (Apply op args targets) scope rest (code_no_place (PlainCode op) ready.0 refl (EA args ++ EA targets) rest)
  agree_place (CondRefOf place target) scope rest e ready = no_place (CondRefOf place target) scope rest (code_no_place CondRefOfCode tt refl (E place ++ E target) rest)
  agree_place Omitted scope rest e ready = absurd ready
  agree_place (Raw size number) scope rest e ready = absurd ready
  agree_place (Return value) scope rest e ready = absurd (grind arith)
  agree_place (Name at name value) scope rest e ready = absurd (grind arith)
  agree_place (Method at name flags body) scope rest e ready = absurd (grind arith)
  agree_place (Mutex at name level) scope rest e ready = absurd (grind arith)
  agree_place (Event at name) scope rest e ready = absurd (grind arith)
  agree_place (Alias from source at name) scope rest e ready = absurd (grind arith)
  agree_place (External here at name type parameters) scope rest e ready = absurd (grind arith)
  agree_place (Container' kind at name body) scope rest e ready = absurd (grind arith)
  agree_place (Scope here at name body) scope rest e ready = absurd (grind arith)
  agree_place (If test body) scope rest e ready = absurd (grind arith)
  agree_place (Else body) scope rest e ready = absurd (grind arith)
  agree_place (While test body) scope rest e ready = absurd (grind arith)
  agree_place Break scope rest e ready = absurd (grind arith)
  agree_place Continue scope rest e ready = absurd (grind arith)
  agree_place (OperationRegion at name space args) scope rest e ready = absurd (grind arith)
  agree_place (Field here from region flags items) scope rest e ready = absurd (grind arith)
  agree_place (IndexField here from index to register flags items) scope rest e ready = absurd (grind arith)
  agree_place (BankField here from region to bank value flags items) scope rest e ready = absurd (grind arith)
  agree_place (CreateField form args at name) scope rest e ready = absurd (grind arith)
  agree_place (Item item) scope rest e ready = absurd ready
  agree_place (Fill bytes) scope rest e ready = absurd ready
  agree_place (Operated op args) scope rest e ready = absurd ready
  agree_place (Assigned target value) scope rest e ready = absurd ready
  agree_place (AssignedBy op target value) scope rest e ready = absurd ready
  agree_place (ElseIf test body) scope rest e ready = absurd ready.0
  agree_place (Switch value cases) scope rest e ready = absurd ready
  agree_place (Case value body) scope rest e ready = absurd ready
  agree_place (Default body) scope rest e ready = absurd ready
  agree_place (For start test step body) scope rest e ready = absurd ready
  agree_place (Print place format args) scope rest e ready = absurd ready
  agree_place Misshapen scope rest e ready = absurd ready

  -- an operand as its letter asks
  agree_letter : (letter : Letter) (t : Tree) (scope : AbsolutePath) (rest : List ℕ) (w : Walk) (m : SourceRun Flow) (spot : SourceRun Spot) →
      LetterReady given.known letter t ((is_expression t ≡ true) × Ready t scope) (IsSpot ⊥ given.known t scope) scope →
      ((is_expression t ≡ true) × Ready t scope → Agree (as_bytes given) Any (λ v. (v, rest)) (then_run m value_of) (B.operand w (E t ++ rest) scope)) →
      (IsSpot ⊥ given.known t scope → Agree (as_bytes given) Any (λ p. (p, rest)) spot (B.spot w (E t ++ rest) scope)) →
      Agree (as_bytes given) Any (λ o. (o, rest)) (S.operand_by given.width given.known letter t m spot scope) (B.lettered w letter (E t ++ rest) scope)
  agree_letter Valued t scope rest w m spot ready hv hs =
      agree_then (as_bytes given) Any (λ o. (o, rest)) _ (hv ready) (λ v any. agree_done (as_bytes given) Any (λ o. (o, rest)) (OfValue v) tt)
  agree_letter Kept t scope rest w m spot ready hv hs =
      agree_then (as_bytes given) Any (λ o. (o, rest)) _ (agree_place t scope rest ready.0 ready.1)
      (λ place any. agree_then (as_bytes given) Any (λ o. (o, rest)) _ (hv ready) (λ v any. agree_done (as_bytes given) Any (λ o. (o, rest)) (OfKept place v) tt))
  agree_letter Placed t scope rest w m spot ready hv hs =
      agree_then (as_bytes given) Any (λ o. (o, rest)) _ (hs ready) (λ p any. agree_done (as_bytes given) Any (λ o. (o, rest)) (OfSpot p) tt)
  agree_letter Used (Use at name) scope rest w m spot ready hv hs =
      agree_to (as_bytes given) (name_step name rest (B.used_name scope) ready.1.used.is_name)
      (agree_followed given rest (agree_then (as_bytes given) Any (λ o. o) _ (agree_found given name scope ready.0 ready.1) (λ e is. agree_done (as_bytes given) Any (λ o. o) (OfSpot (At (Named e.0))) tt)))
  agree_letter Used _ scope rest w m spot ready hv hs = absurd ready
  agree_letter (L.Raw size) (Raw other number) scope rest w m spot ready hv hs =
      agree_to (as_bytes given)
      (ap (λ n. with_front (number_front size (little_bytes n number ++ rest)) (λ number rest. done (OfNumber number, rest))) ready.0
      ∙ ap (λ o. with_front o (λ number rest. done (OfNumber number, rest))) (number_reads size number ready.1 rest))
      (agree_done (as_bytes given) Any (λ o. (o, rest)) (OfNumber number) tt)
  agree_letter (L.Raw size) _ scope rest w m spot ready hv hs = absurd ready

  apply_bytes : (op : Plain) (args targets : Trees) (rest : List ℕ) → E (Apply op args targets) ++ rest ≡ code_bytes (PlainCode op) ++ (EA args ++ (EA targets ++ rest))
  apply_bytes op args targets rest =
      append_assoc (code_bytes (PlainCode op)) (EA args ++ EA targets) rest ∙ ap (λ bs. code_bytes (PlainCode op) ++ bs) (append_assoc (EA args) (EA targets) rest)

  apply_fits : (op : Plain) (args targets : Trees) (n : ℕ) → length (E (Apply op args targets)) ≤ suc n → (length (EA args) ≤ n) × (length (EA targets) ≤ n)
  apply_fits op args targets n le =
      let a = length-append (code_bytes (PlainCode op)) (EA args ++ EA targets) in
      let b = length-append (EA args) (EA targets) in
      let c = code_some (PlainCode op) in
      (omega (arith, a, b, c, le), omega (arith, a, b, c, le))

module _ (given : Setting) (turns : ℕ) (call : AbsolutePath → List Value → SourceRun Flow) (call' : AbsolutePath → List Value → ByteRun Flow) (calls : (path : AbsolutePath) (args : List Value) → Agree (as_bytes given) EndsExpression (λ f. f) (call path args) (call' path args)) where
  abbrev W : ℕ → Walk
  W n = B.walk given.width turns call' n

  abbrev R : Tree → AbsolutePath → Bool → SourceRun Flow
  R t scope due = S.run given.width given.known turns call t scope due

  -- an integer at the front
  agree_integer : (number n : ℕ) (rest : List ℕ) (scope : AbsolutePath) (due : Bool) → Agree (as_bytes given) EndsExpression (λ f. (f, rest)) (R (Integer number) scope due) (W (suc n) (integer_bytes given.width given.short (wrapped given.width number) ++ rest) scope due)
  agree_integer number n rest scope due =
      let low = wrapped given.width number in
      agree_to (as_bytes given) (ap (λ o. choose o (B.other_term given.width turns call' (W n) due scope (integer_bytes given.width given.short low ++ rest)) (λ r. done (Gives (Data (V.Integer (wrapped given.width r.0))), r.1))) (integer_reads given.width given.short low (wrapped_fits given.width number) rest)
      ∙ ap (λ k. done (Gives (Data (V.Integer k)), rest)) (wrapped_again given.width number))
      (agree_done (as_bytes given) EndsExpression (λ f. (f, rest)) (Gives (Data (V.Integer (wrapped given.width number)))) tt)

  agree_literal : (literal : Literal) (n : ℕ) (rest : List ℕ) (scope : AbsolutePath) (due : Bool) → Agree (as_bytes given) EndsExpression (λ f. (f, rest)) (R (Constant literal) scope due) (W (suc n) (literal_bytes literal ++ rest) scope due)
  agree_literal Literal.Zero n rest scope due =
      agree_to (as_bytes given) (ap (λ k. done (Gives (Data (V.Integer k)), rest)) (zero_wrapped given.width)) (agree_done (as_bytes given) EndsExpression (λ f. (f, rest)) (Gives (Data (V.Integer 0))) tt)
  agree_literal Literal.One n rest scope due =
      agree_to (as_bytes given) (ap (λ k. done (Gives (Data (V.Integer k)), rest)) (one_wrapped given.width)) (agree_done (as_bytes given) EndsExpression (λ f. (f, rest)) (Gives (Data (V.Integer 1))) tt)
  agree_literal Literal.Ones n rest scope due =
      agree_to (as_bytes given) (ap (λ k. done (Gives (Data (V.Integer k)), rest)) (literal_wrapped given.width)) (agree_done (as_bytes given) EndsExpression (λ f. (f, rest)) (Gives (Data (V.Integer (ones_of given.width)))) tt)

  -- a form that is an expression
  expression : (t : Tree) (m : SourceRun Flow) (m' : ByteRun (Flow × List ℕ)) (rest : List ℕ) → Agree (as_bytes given) EndsExpression (λ f. (f, rest)) m m' → Agree (as_bytes given) (EndsAs (is_expression t)) (λ f. (f, rest)) m m'
  expression t m m' rest h = agree_so (as_bytes given) (EndsAs (is_expression t)) (λ f ends. as_any (is_expression t) f ends) h

  cond_other : (t : Tree) (scope : AbsolutePath) (n : ℕ) (rest : List ℕ) (m : SourceRun Spot) → begins_name (E given t ++ rest) ≡ false → Agree (as_bytes given) Any (λ p. (p, rest)) m (B.spot (W n) (E given t ++ rest) scope) → Agree (as_bytes given) Any (λ o. (o, rest)) (then_run m (λ p. done (Some p))) (B.cond_spot given.width (W n) (E given t ++ rest) scope)
  cond_other t scope n rest m no_name h =
      agree_to (as_bytes given) (ap (λ b. if b then with_front (name_front (E given t ++ rest)) (B.cond_name given.width scope) else then_run (B.spot (W n) (E given t ++ rest) scope) (λ r. done (Some r.0, r.1))) no_name)
      (agree_then (as_bytes given) Any (λ o. (o, rest)) _ h (λ p any. agree_done (as_bytes given) Any (λ o. (o, rest)) (Some p) tt))

  element_other : (t : Tree) (scope : AbsolutePath) (n : ℕ) (rest : List ℕ) → is_constant t ≡ true → Agree (as_bytes given) Any (λ v. (v, rest)) (then_run (R t scope false) value_of) (B.operand (W n) (E given t ++ rest) scope) → Agree (as_bytes given) Any (λ v. (v, rest)) (then_run (R t scope false) value_of) (B.element_at given.width (W n) (E given t ++ rest) scope)
  element_other t scope n rest e h =
      agree_to (as_bytes given) (ap (λ b. if b then with_front (name_front (E given t ++ rest)) (B.element_name given.width scope) else B.operand (W n) (E given t ++ rest) scope) (constant_no_place given t rest e).no_name) h

  -- a plain operator at the front
  agree_apply : (op : Plain) (args targets : Trees) (scope : AbsolutePath) (due : Bool) (n : ℕ) (rest : List ℕ) → HasOwnCode op → count targets ≡ (row_of op).targets →
      Agree (as_bytes given) Any (λ os. (os, EA given targets ++ rest)) (S.operands given.width given.known turns call (row_of op).operands args scope) (B.operands (W n) (row_of op).operands (EA given args ++ (EA given targets ++ rest)) scope) →
      ((rs : List Value) → Agree (as_bytes given) Any (λ u. rest) (S.store_all given.width given.known turns call targets rs scope) (B.store_all given.width (W n) (count targets) rs (EA given targets ++ rest) scope)) →
      Agree (as_bytes given) EndsExpression (λ f. (f, rest)) (R (Apply op args targets) scope due) (W (suc n) (code_bytes (PlainCode op) ++ (EA given args ++ (EA given targets ++ rest))) scope due)
  agree_apply op args targets scope due n rest own e ho ht =
      let after = EA given args ++ (EA given targets ++ rest) in
      agree_to (as_bytes given)
      (code_step given.width turns call' n (PlainCode op) after scope due own own
      ∙ ap (λ k. B.plain_term given.width (W n) (row_of op).operands k op after scope) (sym e))
      (agree_plain given op _ (λ rs. S.store_all given.width given.known turns call targets rs scope) (W n) (row_of op).operands (count targets) after (EA given targets ++ rest) rest scope ho ht)

  -- a place, of which a name may lead nowhere
  agree_cond : (t : Tree) (scope : AbsolutePath) (n : ℕ) (rest : List ℕ) → CondReady given.known t (IsSpot ⊥ given.known t scope) scope → (IsSpot ⊥ given.known t scope → Agree (as_bytes given) Any (λ p. (p, rest)) (S.spot given.width given.known turns call t scope) (B.spot (W n) (E given t ++ rest) scope)) →
      Agree (as_bytes given) Any (λ o. (o, rest)) (S.cond_by given.width given.known t (S.spot given.width given.known turns call t scope) scope) (B.cond_spot given.width (W n) (E given t ++ rest) scope)
  agree_cond (Use at name) scope n rest ready h =
      agree_to (as_bytes given) (lead_step name rest (B.cond_name given.width scope) _ ready.used)
      (agree_followed given rest (agree_then (as_bytes given) Any (λ o. o) _ (agree_sought given name scope ready) (λ o is. agree_done (as_bytes given) Any (λ o. o) (choose o None (λ e. Some (At (Named e.0)))) tt)))
  agree_cond (InSlot slot) scope n rest ready h = cond_other (InSlot slot) scope n rest _ (code_reads (SlotCode slot) ready rest).no_name (h ready)
  agree_cond (Apply op args targets) scope n rest ready h = cond_other (Apply op args targets) scope n rest _ (code_no_place (PlainCode op) ready.0 refl (EA given args ++ EA given targets) rest).no_name (h ready)
  agree_cond Omitted scope n rest ready h = cond_other Omitted scope n rest _ refl (h ready)
  agree_cond Debug scope n rest ready h = cond_other Debug scope n rest _ refl (h ready)
  agree_cond t scope n rest ready h = absurd ready

  -- an element of a Package
  agree_element : (t : Tree) (scope : AbsolutePath) (n : ℕ) (rest : List ℕ) → ElementReady given.known t (Ready given t scope) →
      (is_expression t ≡ true → Ready given t scope → Agree (as_bytes given) Any (λ v. (v, rest)) (then_run (R t scope false) value_of) (B.operand (W n) (E given t ++ rest) scope)) →
      Agree (as_bytes given) Any (λ v. (v, rest)) (S.element_by given.width given.known t (R t scope false) scope) (B.element_at given.width (W n) (E given t ++ rest) scope)
  agree_element (Use at name) scope n rest ready h =
      agree_to (as_bytes given)
      (lead_step name rest (B.element_name given.width scope) _ ready.used
      ∙ ap (λ b. followed_by rest (if b then then_run (B.find name scope) (λ path. done (Reference (Named path))) else done (Reference (Named (declared_path name scope))))) ready.single)
      (agree_to_left (as_bytes given) (ap (λ b. done (Reference (Named (if b then choose (denoted (is_known given.known) name scope) (declared_path name scope) (λ path. path) else declared_path name scope)))) ready.single)
      (agree_done (as_bytes given) Any (λ v. (v, rest)) (Reference (Named (declared_path name scope))) tt))
  agree_element (Integer number) scope n rest ready h = element_other (Integer number) scope n rest ready.0 (h refl ready.1)
  agree_element (Constant literal) scope n rest ready h = element_other (Constant literal) scope n rest ready.0 (h refl ready.1)
  agree_element (String text) scope n rest ready h = element_other (String text) scope n rest ready.0 (h refl ready.1)
  agree_element (Buffer size bytes) scope n rest ready h = element_other (Buffer size bytes) scope n rest ready.0 (h refl ready.1)
  agree_element (Package k items) scope n rest ready h = element_other (Package k items) scope n rest ready.0 (h refl ready.1)
  agree_element (VarPackage size items) scope n rest ready h = element_other (VarPackage size items) scope n rest ready.0 (h refl ready.1)
  agree_element t scope n rest ready h = absurd (grind arith)

  -- a new object that is its term alone
  agree_created : (path : AbsolutePath) (object : Object) → IsKnownAs given.known path object → Agree (as_bytes given) Any (λ f. f) (then_run (create path object) (λ u. done (Normal false))) (B.created_term path object)
  agree_created path object e = agree_then (as_bytes given) Any (λ f. f) (λ u. done (Normal false)) (agree_create (as_bytes given) path object e) (λ u any. agree_done (as_bytes given) Any (λ f. f) (Normal false) tt)

  mutual
    pub agree_run : (t : Tree) (scope : AbsolutePath) (due : Bool) (n : ℕ) (rest : List ℕ) → Ready given t scope → length (E given t) ≤ n → n + 4 < 2 ^ 28 → Agree (as_bytes given) (EndsAs (is_expression t)) (λ f. (f, rest)) (R t scope due) (W n (E given t ++ rest) scope due)
    agree_run t scope due zero rest ready le fits = absurd (omega (arith, encoded_some given t scope ready, le))
    agree_run (Integer number) scope due (suc n) rest ready le fits = agree_integer number n rest scope due
    agree_run (Constant literal) scope due (suc n) rest ready le fits = agree_literal literal n rest scope due
    agree_run (String text) scope due (suc n) rest ready le fits =
        agree_to (as_bytes given)
        (code_step given.width turns call' n StringCode ((text ++ 0x00 ∷ []) ++ rest) scope due tt tt
        ∙ ap (λ o. with_front o (λ text rest. done (Gives (Data (V.String text)), rest))) (text_reads text rest ready))
        (agree_done (as_bytes given) EndsExpression (λ f. (f, rest)) (Gives (Data (V.String text))) tt)
    agree_run (InSlot slot) scope due (suc n) rest ready le fits =
        agree_to (as_bytes given) (code_step given.width turns call' n (SlotCode slot) rest scope due ready ready)
        (agree_followed given rest (agree_then (as_bytes given) EndsExpression (λ f. f) _ (agree_act (as_bytes given) (slot_here slot)) (λ place any. agree_given (as_bytes given) (read given.width place))))
    agree_run Debug scope due (suc n) rest ready le fits =
        agree_to (as_bytes given) (code_step given.width turns call' n DebugCode rest scope due tt tt) (agree_fault (as_bytes given) EndsExpression (λ f. (f, rest)) _)
    agree_run (Use at name) scope due (suc n) rest ready le fits =
        agree_to (as_bytes given) (use_step given.width turns call' n name rest scope due ready.1.used)
        (agree_then (as_bytes given) EndsExpression (λ f. (f, rest)) _ (agree_found given name scope ready.0 ready.1)
        (λ e is. agree_use_found given call call' calls e (W n) rest scope (reached_ends given.known TakesNone ready.0 e ready.2 is)))
    agree_run (Call at name args) scope due (suc n) rest ready le fits =
        agree_to (as_bytes given)
        (ap (λ bs. W (suc n) bs scope due) (append_assoc (name_bytes name) (EA given args) rest) ∙ use_step given.width turns call' n name (EA given args ++ rest) scope due ready.1.used)
        (agree_then (as_bytes given) EndsExpression (λ f. (f, rest)) _ (agree_found given name scope ready.0 ready.1)
        (λ e is. agree_call_found given call call' calls e (count args) _ (W n) (EA given args ++ rest) rest scope (reached_ends given.known (Takes (count args)) ready.0 e ready.2 is)
        (agree_values args scope n rest ready.3 (omega (arith, le, name_some name ready.1.used, length-append (name_bytes name) (EA given args))) (omega (arith, fits)))))
    agree_run (Apply op args targets) scope due (suc n) rest ready le fits =
        let inside = apply_fits given op args targets n le in
        agree_to (as_bytes given) (ap (λ bs. W (suc n) bs scope due) (apply_bytes given op args targets rest))
        (agree_apply op args targets scope due n rest ready.0 ready.2
        (agree_operands (row_of op).operands args scope n (EA given targets ++ rest) ready.1 inside.0 (omega (arith, fits)))
        (λ rs. agree_spots targets rs scope n rest ready.3 inside.1 (omega (arith, fits))))
    agree_run (Buffer size bytes) scope due (suc n) rest ready le fits =
        let content = E given size ++ bytes in
        let inside : length content ≤ n = omega (arith, le, length-append (package_length_bytes (length content)) content) in
        agree_to (as_bytes given)
        (code_step given.width turns call' n BufferCode (packed content ++ rest) scope due tt tt
        ∙ package_step content rest (λ content after. followed_by after (B.buffer_term given.width (W n) scope content)) (omega (arith, inside, fits)))
        (agree_followed given rest
        (agree_then (as_bytes given) EndsExpression (λ f. f) _
        (agree_size given (R size scope false) (W n) (E given size ++ bytes) bytes scope
        (agree_operand given (is_expression size) (R size scope false) (W n) (E given size ++ bytes) bytes scope ready.0
        (agree_run size scope false n bytes ready.1 (omega (arith, inside, length-append (E given size) bytes)) (omega (arith, fits)))))
        (λ k any. agree_given (as_bytes given) (computed (buffer_of k bytes)))))
    agree_run (Package k items) scope due (suc n) rest ready le fits =
        let content = (k % 256) ∷ EA given items in
        let small : k % 256 ≡ k = omega (arith, ready.0) in
        let inside : length content ≤ n = omega (arith, le, length-append (package_length_bytes (length content)) content) in
        agree_to (as_bytes given)
        (code_step given.width turns call' n PackageCode (packed content ++ rest) scope due tt tt
        ∙ package_step content rest (λ content after. followed_by after (B.counted_package given.width (W n) scope content)) (omega (arith, inside, fits))
        ∙ ap (λ k. followed_by rest (B.package_term given.width (W n) scope k (EA given items))) small)
        (agree_followed given rest
        (agree_then (as_bytes given) EndsExpression (λ f. f) _ (agree_elements items scope n (length (EA given items)) ready.1 (omega (arith, inside)) (le_refl _) (omega (arith, fits)))
        (λ es any. agree_given (as_bytes given) (computed (package_of k es)))))
    agree_run (VarPackage size items) scope due (suc n) rest ready le fits =
        let content = E given size ++ EA given items in
        let inside : length content ≤ n = omega (arith, le, length-append (package_length_bytes (length content)) content) in
        agree_to (as_bytes given)
        (code_step given.width turns call' n VarPackageCode (packed content ++ rest) scope due tt tt
        ∙ package_step content rest (λ content after. followed_by after (B.sized_package given.width (W n) scope content)) (omega (arith, inside, fits)))
        (agree_followed given rest
        (agree_then (as_bytes given) EndsExpression (λ f. f) _
        (agree_size given (R size scope false) (W n) (E given size ++ EA given items) (EA given items) scope
        (agree_operand given (is_expression size) (R size scope false) (W n) (E given size ++ EA given items) (EA given items) scope ready.0
        (agree_run size scope false n (EA given items) ready.1 (omega (arith, inside, length-append (E given size) (EA given items))) (omega (arith, fits)))))
        (λ k any. agree_then (as_bytes given) EndsExpression (λ f. f) _ (agree_elements items scope n (length (EA given items)) ready.2 (omega (arith, inside, length-append (E given size) (EA given items))) (le_refl _) (omega (arith, fits)))
        (λ es any. agree_given (as_bytes given) (computed (package_of k es))))))
    agree_run (CondRefOf place target) scope due (suc n) rest ready le fits =
        let whole = length-append (E given place) (E given target) in
        agree_to (as_bytes given)
        (code_step given.width turns call' n CondRefOfCode ((E given place ++ E given target) ++ rest) scope due tt tt
        ∙ ap (B.cond_ref_of_term given.width (W n) scope) (append_assoc (E given place) (E given target) rest))
        (agree_then (as_bytes given) EndsExpression (λ f. (f, rest)) _ (agree_cond place scope n (E given target ++ rest) ready.0 (λ spot. agree_spot place scope n (E given target ++ rest) spot (omega (arith, le, whole)) (omega (arith, fits))))
        (λ o any. agree_then (as_bytes given) EndsExpression (λ f. (f, rest)) _ (agree_spot target scope n rest ready.1 (omega (arith, le, whole)) (omega (arith, fits)))
        (λ t any. agree_followed given rest (agree_given (as_bytes given) (cond_ref_of given.width o t)))))
    agree_run (Return value) scope due (suc n) rest ready le fits =
        agree_to (as_bytes given) (code_step given.width turns call' n ReturnCode (E given value ++ rest) scope due tt tt)
        (agree_then (as_bytes given) Any (λ f. (f, rest)) _ (agree_operand given (is_expression value) (R value scope false) (W n) (E given value ++ rest) rest scope ready.0 (agree_run value scope false n rest ready.1 (omega (arith, le)) (omega (arith, fits))))
        (λ v any. agree_done (as_bytes given) Any (λ f. (f, rest)) (O.Return v) tt))
    agree_run (Name at name value) scope due (suc n) rest ready le fits =
        let path = declared_path name scope in
        agree_to (as_bytes given)
        (code_step given.width turns call' n NameCode ((name_bytes name ++ E given value) ++ rest) scope due tt tt
        ∙ ap (λ bs. B.term_of_code given.width turns call' (W n) due scope NameCode bs) (append_assoc (name_bytes name) (E given value) rest)
        ∙ name_step name (E given value ++ rest) (λ name rest. B.name_term (W n) scope (declared_path name scope) rest) ready.0.written)
        (agree_then (as_bytes given) Any (λ f. (f, rest)) _ (agree_operand given (is_expression value) (R value scope false) (W n) (E given value ++ rest) rest scope ready.1 (agree_run value scope false n rest ready.2 (omega (arith, le, length-append (name_bytes name) (E given value))) (omega (arith, fits))))
        (λ v any. agree_followed given rest
        (agree_then (as_bytes given) Any (λ f. f) _ (agree_create (as_bytes given) path DataObject ready.0.is)
        (λ u any. agree_then (as_bytes given) Any (λ f. f) (λ u. done (Normal false)) (agree_act (as_bytes given) (write_named path v))
        (λ u any. agree_done (as_bytes given) Any (λ f. f) (Normal false) tt)))))
    agree_run (Method at name flags body) scope due (suc n) rest ready le fits =
        let path = declared_path name scope in
        let content = name_bytes name ++ (flags % 256) ∷ EA given body in
        let small : flags % 256 ≡ flags = omega (arith, ready.1) in
        let inside : length content ≤ n = omega (arith, le, length-append (package_length_bytes (length content)) content) in
        let kept : length (EA given body) + 4 < 2 ^ 28 = omega (arith, inside, fits, length-append (name_bytes name) ((flags % 256) ∷ EA given body)) in
        agree_to (as_bytes given)
        (code_step given.width turns call' n MethodCode (packed content ++ rest) scope due tt tt
        ∙ package_step content rest (λ content after. followed_by after (with_front (name_front content) (λ name rest. B.method_term (declared_path name scope) rest))) (omega (arith, inside, fits))
        ∙ ap (followed_by rest) (name_step name ((flags % 256) ∷ EA given body) (λ name rest. B.method_term (declared_path name scope) rest) ready.0.written)
        ∙ ap (λ f. followed_by rest (B.method_term path (f ∷ EA given body))) small)
        (agree_followed given rest
        (agree_then (as_bytes given) Any (λ f. f) _ (agree_create (as_bytes given) path (MethodObject flags) ready.0.is)
        (λ u any. agree_then (as_bytes given) Any (λ f. f) (λ u. done (Normal false)) (agree_keep (as_bytes given) path body (record { ready = ready.2; fits = kept }))
        (λ u any. agree_done (as_bytes given) Any (λ f. f) (Normal false) tt))))
    agree_run (Mutex at name level) scope due (suc n) rest ready le fits =
        let small : level % 256 ≡ level = omega (arith, ready.1) in
        agree_to (as_bytes given)
        (code_step given.width turns call' n MutexCode ((name_bytes name ++ (level % 256) ∷ []) ++ rest) scope due tt tt
        ∙ ap (λ bs. B.term_of_code given.width turns call' (W n) due scope MutexCode bs) (append_assoc (name_bytes name) ((level % 256) ∷ []) rest)
        ∙ name_step name ((level % 256) ∷ rest) (B.mutex_term scope) ready.0.written
        ∙ ap (λ k. followed_by rest (B.created_term (declared_path name scope) (MutexObject k))) small)
        (agree_followed given rest (agree_created (declared_path name scope) (MutexObject level) ready.0.is))
    agree_run (Event at name) scope due (suc n) rest ready le fits =
        agree_to (as_bytes given)
        (code_step given.width turns call' n EventCode (name_bytes name ++ rest) scope due tt tt
        ∙ name_step name rest (λ name rest. followed_by rest (B.created_term (declared_path name scope) EventObject)) ready.written)
        (agree_followed given rest (agree_created (declared_path name scope) EventObject ready.is))
    agree_run (Alias from source at name) scope due (suc n) rest ready le fits =
        let path = declared_path name scope in
        agree_to (as_bytes given)
        (code_step given.width turns call' n AliasCode ((name_bytes source ++ name_bytes name) ++ rest) scope due tt tt
        ∙ ap (λ bs. B.term_of_code given.width turns call' (W n) due scope AliasCode bs) (append_assoc (name_bytes source) (name_bytes name) rest)
        ∙ name_step source (name_bytes name ++ rest) (λ source rest. with_front (name_front rest) (λ name after. followed_by after (B.alias_term source scope (declared_path name scope)))) ready.1.used.is_name
        ∙ name_step name rest (λ name after. followed_by after (B.alias_term source scope (declared_path name scope))) ready.2.written)
        (agree_followed given rest
        (agree_then (as_bytes given) Any (λ f. f) _ (agree_found given source scope ready.0 ready.1)
        (λ e is. agree_then (as_bytes given) Any (λ f. f) (λ u. done (Normal false)) (agree_create (as_bytes given) path (AliasObject e.0) (alias_leads given.known path ready.0 e ready.2.is is))
        (λ u any. agree_done (as_bytes given) Any (λ f. f) (Normal false) tt))))
    agree_run (External here at name type parameters) scope due (suc n) rest ready le fits =
        let more = (type % 256) ∷ (parameter_count parameters % 256) ∷ [] in
        agree_to (as_bytes given)
        (code_step given.width turns call' n ExternalCode ((name_bytes name ++ more) ++ rest) scope due tt tt
        ∙ ap (λ bs. B.term_of_code given.width turns call' (W n) due scope ExternalCode bs) (append_assoc (name_bytes name) more rest)
        ∙ name_step name (more ++ rest) (λ name rest. B.external_term rest) ready)
        (agree_done (as_bytes given) Any (λ f. (f, rest)) (Normal false) tt)
    agree_run (Container' kind at name body) scope due (suc n) rest ready le fits =
        let path = declared_path name scope in
        let more = container_bytes kind ++ EA given body in
        let content = name_bytes name ++ more in
        let inside : length content ≤ n = omega (arith, le, container_some kind, length-append (code_bytes (container_code kind)) (packed content), length-append (package_length_bytes (length content)) content) in
        let shorter : length (EA given body) ≤ n = omega (arith, inside, length-append (name_bytes name) more, length-append (container_bytes kind) (EA given body)) in
        agree_to (as_bytes given)
        (ap (λ bs. W (suc n) bs scope due) (append_assoc (code_bytes (container_code kind)) (packed content) rest)
        ∙ container_step given.width turns call' n kind (packed content ++ rest) scope due
        ∙ package_step content rest (λ content after. followed_by after (with_front (name_front content) (λ name rest. with_front (B.container_front (container_code kind) rest) (B.container_term (W n) (declared_path name scope))))) (omega (arith, inside, fits))
        ∙ ap (followed_by rest) (name_step name more (λ name rest. with_front (B.container_front (container_code kind) rest) (B.container_term (W n) (declared_path name scope))) ready.0.written)
        ∙ ap (λ o. followed_by rest (with_front o (B.container_term (W n) path))) (container_reads kind ready.1 (EA given body)))
        (agree_followed given rest
        (agree_then (as_bytes given) Any (λ f. f) _ (agree_create (as_bytes given) path (ContainerObject kind) ready.0.is)
        (λ u any. agree_terms body path false n (length (EA given body)) ready.2 shorter (le_refl _) (omega (arith, fits)))))
    agree_run (Scope here at name body) scope due (suc n) rest ready le fits =
        let content = name_bytes name ++ EA given body in
        let inside : length content ≤ n = omega (arith, le, length-append (package_length_bytes (length content)) content) in
        let shorter : length (EA given body) ≤ n = omega (arith, inside, length-append (name_bytes name) (EA given body)) in
        agree_to (as_bytes given)
        (code_step given.width turns call' n ScopeCode (packed content ++ rest) scope due tt tt
        ∙ package_step content rest (λ content after. followed_by after (with_front (name_front content) (λ name body. then_run (B.find name scope) (λ path. B.body_terms (W n) path body)))) (omega (arith, inside, fits))
        ∙ ap (followed_by rest) (name_step name (EA given body) (λ name body. then_run (B.find name scope) (λ path. B.body_terms (W n) path body)) ready.1.used.is_name))
        (agree_followed given rest
        (agree_then (as_bytes given) Any (λ f. f) _ (agree_find given name scope ready.0 ready.1)
        (λ path is. agree_terms body path false n (length (EA given body)) (subst (AreReady ⊥ given.known body) (sym is) ready.2) shorter (le_refl _) (omega (arith, fits)))))
    agree_run (If test body) scope due (suc n) rest ready le fits =
        let content = E given test ++ EA given body in
        let inside : length content ≤ n = omega (arith, le, length-append (package_length_bytes (length content)) content) in
        let whole = length-append (E given test) (EA given body) in
        agree_to (as_bytes given)
        (code_step given.width turns call' n IfCode (packed content ++ rest) scope due tt tt
        ∙ package_step content rest (λ content after. followed_by after (B.if_term given.width (W n) scope content)) (omega (arith, inside, fits)))
        (agree_followed given rest
        (agree_then (as_bytes given) Any (λ f. f) _
        (agree_size given (R test scope false) (W n) content (EA given body) scope
        (agree_operand given (is_expression test) (R test scope false) (W n) content (EA given body) scope ready.0
        (agree_run test scope false n (EA given body) ready.1 (omega (arith, inside, whole)) (omega (arith, fits)))))
        (λ k any. agree_if (as_bytes given) Any (λ f. f) (is_true k)
        (agree_terms body scope false n (length (EA given body)) ready.2 (omega (arith, inside, whole)) (le_refl _) (omega (arith, fits)))
        (agree_done (as_bytes given) Any (λ f. f) (Normal true) tt))))
    agree_run (Else body) scope due (suc n) rest ready le fits =
        let content = EA given body in
        let inside : length content ≤ n = omega (arith, le, length-append (package_length_bytes (length content)) content) in
        agree_to (as_bytes given)
        (code_step given.width turns call' n ElseCode (packed content ++ rest) scope due tt tt
        ∙ package_step content rest (λ content after. followed_by after (B.else_term (W n) due scope content)) (omega (arith, inside, fits)))
        (agree_followed given rest
        (agree_if (as_bytes given) Any (λ f. f) due (agree_terms body scope false n (length content) ready inside (le_refl _) (omega (arith, fits))) (agree_done (as_bytes given) Any (λ f. f) (Normal false) tt)))
    agree_run (While test body) scope due (suc n) rest ready le fits =
        let content = E given test ++ EA given body in
        let inside : length content ≤ n = omega (arith, le, length-append (package_length_bytes (length content)) content) in
        let whole = length-append (E given test) (EA given body) in
        agree_to (as_bytes given)
        (code_step given.width turns call' n WhileCode (packed content ++ rest) scope due tt tt
        ∙ package_step content rest (λ content after. followed_by after (B.while_term given.width turns (W n) scope content)) (omega (arith, inside, fits)))
        (agree_followed given rest
        (agree_loop (as_bytes given) {X = Unit {0}} (λ u. EA given body) turns _ _ _ _
        (agree_then (as_bytes given) Any (λ b. (b.0, EA given body)) _
        (agree_size given (R test scope false) (W n) content (EA given body) scope
        (agree_operand given (is_expression test) (R test scope false) (W n) content (EA given body) scope ready.0
        (agree_run test scope false n (EA given body) ready.1 (omega (arith, inside, whole)) (omega (arith, fits)))))
        (λ k any. agree_done (as_bytes given) Any (λ b. (b.0, EA given body)) (is_true k, tt) tt))
        (λ u. agree_terms body scope false n (length (EA given body)) ready.2 (omega (arith, inside, whole)) (le_refl _) (omega (arith, fits)))))
    agree_run Break scope due (suc n) rest ready le fits =
        agree_to (as_bytes given) (code_step given.width turns call' n BreakCode rest scope due tt tt) (agree_done (as_bytes given) Any (λ f. (f, rest)) O.Break tt)
    agree_run Continue scope due (suc n) rest ready le fits =
        agree_to (as_bytes given) (code_step given.width turns call' n ContinueCode rest scope due tt tt) (agree_done (as_bytes given) Any (λ f. (f, rest)) O.Continue tt)
    agree_run (OperationRegion at name space args) scope due (suc n) rest ready le fits =
        let path = declared_path name scope in
        let small : space % 256 ≡ space = omega (arith, ready.1) in
        agree_to (as_bytes given)
        (code_step given.width turns call' n OperationRegionCode ((name_bytes name ++ (space % 256) ∷ EA given args) ++ rest) scope due tt tt
        ∙ ap (λ bs. B.term_of_code given.width turns call' (W n) due scope OperationRegionCode bs) (append_assoc (name_bytes name) ((space % 256) ∷ EA given args) rest)
        ∙ name_step name ((space % 256) ∷ (EA given args ++ rest)) (λ name rest. B.region_term given.width (W n) scope (declared_path name scope) rest) ready.0.written
        ∙ ap (λ k. B.region_term given.width (W n) scope path (k ∷ (EA given args ++ rest))) small)
        (agree_then (as_bytes given) Any (λ f. (f, rest)) _ (agree_operands region_letters args scope n rest ready.2 (omega (arith, le, length-append (name_bytes name) ((space % 256) ∷ EA given args))) (omega (arith, fits)))
        (λ os any. agree_followed given rest (agree_region (as_bytes given) given.width path space os (λ offset size. ready.0.is))))
    agree_run (Field here from region flags items) scope due (suc n) rest ready le fits =
        let content = name_bytes region ++ field_bytes flags items in
        let inside : length content ≤ n = omega (arith, le, length-append (package_length_bytes (length content)) content) in
        agree_to (as_bytes given)
        (code_step given.width turns call' n FieldCode (packed content ++ rest) scope due tt tt
        ∙ package_step content rest (λ content after. followed_by after (B.field_term given.width scope content)) (omega (arith, inside, fits)))
        (agree_followed given rest
        (agree_then (as_bytes given) Any (λ f. f) _ (agree_region_at given region scope (field_bytes flags items) ready.0)
        (λ r any. agree_field_list given (InRegion r) flags scope items ready.1 ready.2 ready.3 (omega (arith, inside, fits, length-append (name_bytes region) (field_bytes flags items))))))
    agree_run (IndexField here from index to register flags items) scope due (suc n) rest ready le fits =
        let list = field_bytes flags items in
        let content = name_bytes index ++ (name_bytes register ++ list) in
        let inside : length content ≤ n = omega (arith, le, length-append (package_length_bytes (length content)) content) in
        agree_to (as_bytes given)
        (code_step given.width turns call' n IndexFieldCode (packed content ++ rest) scope due tt tt
        ∙ package_step content rest (λ content after. followed_by after (B.index_field_term given.width scope content)) (omega (arith, inside, fits)))
        (agree_followed given rest
        (agree_then (as_bytes given) Any (λ f. f) _ (agree_register_at given index scope (name_bytes register ++ list) ready.0)
        (λ i any. agree_then (as_bytes given) Any (λ f. f) _ (agree_register_at given register scope list ready.1)
        (λ r any. agree_field_list given (BehindIndex i r) flags scope items ready.2 ready.3 ready.4 (omega (arith, inside, fits, length-append (name_bytes index) (name_bytes register ++ list), length-append (name_bytes register) list))))))
    agree_run (BankField here from region to bank value flags items) scope due (suc n) rest ready le fits =
        let list = field_bytes flags items in
        let later = E given value ++ list in
        let content = name_bytes region ++ (name_bytes bank ++ later) in
        let inside : length content ≤ n = omega (arith, le, length-append (package_length_bytes (length content)) content) in
        agree_to (as_bytes given)
        (code_step given.width turns call' n BankFieldCode (packed content ++ rest) scope due tt tt
        ∙ package_step content rest (λ content after. followed_by after (B.bank_field_term given.width (W n) scope content)) (omega (arith, inside, fits)))
        (agree_followed given rest
        (agree_then (as_bytes given) Any (λ f. f) _ (agree_region_at given region scope (name_bytes bank ++ later) ready.0)
        (λ r any. agree_then (as_bytes given) Any (λ f. f) _ (agree_register_at given bank scope later ready.1)
        (λ b any. agree_then (as_bytes given) Any (λ f. f) _
        (agree_size given (R value scope false) (W n) later list scope
        (agree_operand given (is_expression value) (R value scope false) (W n) later list scope ready.2
        (agree_run value scope false n list ready.3 (omega (arith, inside, length-append (name_bytes region) (name_bytes bank ++ later), length-append (name_bytes bank) later, length-append (E given value) list)) (omega (arith, fits)))))
        (λ k any. agree_field_list given (InBank r b k) flags scope items ready.4 ready.5 ready.6 (omega (arith, inside, fits, length-append (name_bytes region) (name_bytes bank ++ later), length-append (name_bytes bank) later, length-append (E given value) list)))))))
    agree_run (CreateField form args at name) scope due (suc n) rest ready le fits =
        let path = declared_path name scope in
        let whole = length-append (EA given args) (name_bytes name) in
        agree_to (as_bytes given)
        (ap (λ bs. W (suc n) bs scope due) (append_assoc (code_bytes (CreateFieldCode form)) (EA given args ++ name_bytes name) rest)
        ∙ code_step given.width turns call' n (CreateFieldCode form) ((EA given args ++ name_bytes name) ++ rest) scope due tt tt
        ∙ ap (B.buffer_field_term given.width (W n) scope form) (append_assoc (EA given args) (name_bytes name) rest))
        (agree_then (as_bytes given) Any (λ f. (f, rest)) _ (agree_operands (field_letters form) args scope n (name_bytes name ++ rest) ready.0 (omega (arith, le, whole, code_some (CreateFieldCode form), length-append (code_bytes (CreateFieldCode form)) (EA given args ++ name_bytes name))) (omega (arith, fits)))
        (λ os any. agree_to (as_bytes given) (name_step name rest (λ name rest. followed_by rest (make_buffer_field given.width form (declared_path name scope) os)) ready.1.written)
        (agree_followed given rest (agree_buffer_field (as_bytes given) given.width form path os (λ field. ready.1.is)))))
    agree_run Omitted scope due (suc n) rest ready le fits = absurd ready
    agree_run (Raw size number) scope due (suc n) rest ready le fits = absurd ready
    agree_run (Item item) scope due (suc n) rest ready le fits = absurd ready
    agree_run (Fill bytes) scope due (suc n) rest ready le fits = absurd ready
    agree_run (Operated op args) scope due (suc n) rest ready le fits = absurd ready
    agree_run (Assigned target value) scope due (suc n) rest ready le fits = absurd ready
    agree_run (AssignedBy op target value) scope due (suc n) rest ready le fits = absurd ready
    agree_run (ElseIf test body) scope due (suc n) rest ready le fits = absurd ready.0
    agree_run (Switch value cases) scope due (suc n) rest ready le fits = absurd ready
    agree_run (Case value body) scope due (suc n) rest ready le fits = absurd ready
    agree_run (Default body) scope due (suc n) rest ready le fits = absurd ready
    agree_run (For start test step body) scope due (suc n) rest ready le fits = absurd ready
    agree_run (Print place format args) scope due (suc n) rest ready le fits = absurd ready
    agree_run Misshapen scope due (suc n) rest ready le fits = absurd ready

    -- a term that stands for a place
    pub agree_spot : (t : Tree) (scope : AbsolutePath) (n : ℕ) (rest : List ℕ) → IsSpot ⊥ given.known t scope → length (E given t) ≤ n → n + 4 < 2 ^ 28 → Agree (as_bytes given) Any (λ p. (p, rest)) (S.spot given.width given.known turns call t scope) (B.spot (W n) (E given t ++ rest) scope)
    agree_spot Omitted scope n rest ready le fits =
        agree_to (as_bytes given) (opcode_step OmittedCode rest (with_front (name_front (code_bytes OmittedCode ++ rest)) (B.named_spot scope)) (B.spot_of_code (W n) (code_bytes OmittedCode ++ rest) scope) tt) (agree_done (as_bytes given) Any (λ p. (p, rest)) Nowhere tt)
    agree_spot Debug scope n rest ready le fits =
        agree_to (as_bytes given) (opcode_step DebugCode rest (with_front (name_front (code_bytes DebugCode ++ rest)) (B.named_spot scope)) (B.spot_of_code (W n) (code_bytes DebugCode ++ rest) scope) tt) (agree_done (as_bytes given) Any (λ p. (p, rest)) DebugObject tt)
    agree_spot (InSlot slot) scope n rest ready le fits =
        agree_to (as_bytes given) (opcode_step (SlotCode slot) rest _ (B.spot_of_code (W n) (code_bytes (SlotCode slot) ++ rest) scope) ready)
        (agree_followed given rest (agree_then (as_bytes given) Any (λ p. p) _ (agree_act (as_bytes given) (slot_here slot)) (λ place any. agree_done (as_bytes given) Any (λ p. p) (At place) tt)))
    agree_spot (Use at name) scope n rest ready le fits =
        agree_to (as_bytes given) (lead_step name rest (B.named_spot scope) _ ready.1.used)
        (agree_followed given rest (agree_then (as_bytes given) Any (λ p. p) _ (agree_found given name scope ready.0 ready.1) (λ e is. agree_done (as_bytes given) Any (λ p. p) (At (Named e.0)) tt)))
    agree_spot (Apply op args targets) scope zero rest ready le fits = absurd (omega (arith, coded_some given (PlainCode op) (EA given args ++ EA given targets), le))
    agree_spot (Apply op args targets) scope (suc n) rest ready le fits =
        let inside = apply_fits given op args targets n le in
        let after = EA given args ++ (EA given targets ++ rest) in
        agree_to (as_bytes given)
        (ap (λ bs. B.spot (W (suc n)) bs scope) (apply_bytes given op args targets rest)
        ∙ opcode_step (PlainCode op) after _ (B.spot_of_code (W (suc n)) (code_bytes (PlainCode op) ++ after) scope) ready.0)
        (agree_spot_form given (spot_form op) (AreOperands ⊥ given.known (row_of op).operands args scope × (count targets ≡ (row_of op).targets) × AreSpots ⊥ given.known targets scope) (IsAlone ⊥ given.known args targets scope) _ _ (W (suc n)) (code_bytes (PlainCode op) ++ after) after rest scope ready.1
        (λ whole. agree_apply op args targets scope false n rest ready.0 whole.1
        (agree_operands (row_of op).operands args scope n (EA given targets ++ rest) whole.0 inside.0 (omega (arith, fits)))
        (λ rs. agree_spots targets rs scope n rest whole.2 inside.1 (omega (arith, fits))))
        (λ alone. agree_alone args targets scope (suc n) rest alone (omega (arith, inside.0)) fits))
    agree_spot t scope n rest ready le fits = absurd ready

    agree_alone : (args targets : Trees) (scope : AbsolutePath) (n : ℕ) (rest : List ℕ) → IsAlone ⊥ given.known args targets scope → length (EA given args) ≤ n → n + 4 < 2 ^ 28 → Agree (as_bytes given) Any (λ v. (v, rest)) (S.first_value given.width given.known turns call args scope) (B.operand (W n) (EA given args ++ (EA given targets ++ rest)) scope)
    agree_alone (tree t no_trees) no_trees scope n rest ready le fits =
        agree_to (as_bytes given) (ap (λ bs. B.operand (W n) bs scope) (append_assoc (E given t) [] rest))
        (agree_operand given (is_expression t) (R t scope false) (W n) (E given t ++ rest) rest scope ready.0 (agree_run t scope false n rest ready.1 (omega (arith, le, length-append (E given t) [])) fits))
    agree_alone (tree t no_trees) (tree u us) scope n rest ready le fits = absurd ready
    agree_alone (tree t (tree u us)) targets scope n rest ready le fits = absurd ready
    agree_alone no_trees targets scope n rest ready le fits = absurd ready

    pub agree_operands : (letters : List Letter) (ts : Trees) (scope : AbsolutePath) (n : ℕ) (rest : List ℕ) → AreOperands ⊥ given.known letters ts scope → length (EA given ts) ≤ n → n + 4 < 2 ^ 28 → Agree (as_bytes given) Any (λ os. (os, rest)) (S.operands given.width given.known turns call letters ts scope) (B.operands (W n) letters (EA given ts ++ rest) scope)
    agree_operands [] no_trees scope n rest ready le fits = agree_done (as_bytes given) Any (λ os. (os, rest)) [] tt
    agree_operands [] (tree t ts) scope n rest ready le fits = absurd ready
    agree_operands (letter ∷ letters) no_trees scope n rest ready le fits = absurd ready
    agree_operands (letter ∷ letters) (tree t ts) scope n rest ready le fits =
        let whole = length-append (E given t) (EA given ts) in
        let after = EA given ts ++ rest in
        agree_to (as_bytes given) (ap (λ bs. B.operands (W n) (letter ∷ letters) bs scope) (append_assoc (E given t) (EA given ts) rest))
        (agree_then (as_bytes given) Any (λ os. (os, rest)) _
        (agree_letter given letter t scope after (W n) (R t scope false) (S.spot given.width given.known turns call t scope) ready.0
        (λ h. agree_operand given (is_expression t) (R t scope false) (W n) (E given t ++ after) after scope h.0 (agree_run t scope false n after h.1 (omega (arith, whole, le)) fits))
        (λ h. agree_spot t scope n after h (omega (arith, whole, le)) fits))
        (λ o any. agree_then (as_bytes given) Any (λ os. (os, rest)) _ (agree_operands letters ts scope n rest ready.1 (omega (arith, whole, le)) fits)
        (λ os any. agree_done (as_bytes given) Any (λ os. (os, rest)) (o ∷ os) tt)))

    pub agree_spots : (ts : Trees) (rs : List Value) (scope : AbsolutePath) (n : ℕ) (rest : List ℕ) → AreSpots ⊥ given.known ts scope → length (EA given ts) ≤ n → n + 4 < 2 ^ 28 → Agree (as_bytes given) Any (λ u. rest) (S.store_all given.width given.known turns call ts rs scope) (B.store_all given.width (W n) (count ts) rs (EA given ts ++ rest) scope)
    agree_spots no_trees rs scope n rest ready le fits = agree_done (as_bytes given) Any (λ u. rest) tt tt
    agree_spots (tree t ts) [] scope n rest ready le fits = agree_fault (as_bytes given) Any (λ u. rest) _
    agree_spots (tree t ts) (r ∷ rs) scope n rest ready le fits =
        let whole = length-append (E given t) (EA given ts) in
        agree_to (as_bytes given) (ap (λ bs. B.store_all given.width (W n) (suc (count ts)) (r ∷ rs) bs scope) (append_assoc (E given t) (EA given ts) rest))
        (agree_then (as_bytes given) Any (λ u. rest) _ (agree_spot t scope n (EA given ts ++ rest) ready.0 (omega (arith, whole, le)) fits)
        (λ p any. agree_then (as_bytes given) Any (λ u. rest) _ (agree_act (as_bytes given) (store given.width p r)) (λ u any. agree_spots ts rs scope n rest ready.1 (omega (arith, whole, le)) fits)))

    pub agree_values : (ts : Trees) (scope : AbsolutePath) (n : ℕ) (rest : List ℕ) → AreValues ⊥ given.known ts scope → length (EA given ts) ≤ n → n + 4 < 2 ^ 28 → Agree (as_bytes given) (λ vs. length vs ≡ count ts) (λ vs. (vs, rest)) (S.values given.width given.known turns call ts scope) (B.values (W n) (count ts) (EA given ts ++ rest) scope)
    agree_values no_trees scope n rest ready le fits = agree_done (as_bytes given) (λ vs. length vs ≡ 0) (λ vs. (vs, rest)) [] refl
    agree_values (tree t ts) scope n rest ready le fits =
        let whole = length-append (E given t) (EA given ts) in
        let after = EA given ts ++ rest in
        agree_to (as_bytes given) (ap (λ bs. B.values (W n) (suc (count ts)) bs scope) (append_assoc (E given t) (EA given ts) rest))
        (agree_then (as_bytes given) (λ vs. length vs ≡ count (tree t ts)) (λ vs. (vs, rest)) _
        (agree_operand given (is_expression t) (R t scope false) (W n) (E given t ++ after) after scope ready.0 (agree_run t scope false n after ready.1 (omega (arith, whole, le)) fits))
        (λ v any. agree_then (as_bytes given) (λ vs. length vs ≡ count (tree t ts)) (λ vs. (vs, rest)) _ (agree_values ts scope n rest ready.2 (omega (arith, whole, le)) fits)
        (λ vs size. agree_done (as_bytes given) (λ vs. length vs ≡ count (tree t ts)) (λ vs. (vs, rest)) (v ∷ vs) (ap suc size))))

    pub agree_elements : (ts : Trees) (scope : AbsolutePath) (n k : ℕ) → AreElements ⊥ given.known ts scope → length (EA given ts) ≤ n → length (EA given ts) ≤ k → n + 4 < 2 ^ 28 → Agree (as_bytes given) Any (λ es. es) (S.elements given.width given.known turns call ts scope) (B.elements given.width (W n) k (EA given ts) scope)
    agree_elements no_trees scope n k ready le le' fits = agree_done (as_bytes given) Any (λ es. es) no_elements tt
    agree_elements (tree t ts) scope n zero ready le le' fits = absurd (omega (arith, element_some given t scope ready.0, le', length-append (E given t) (EA given ts)))
    agree_elements (tree t ts) scope n (suc k) ready le le' fits =
        let whole = length-append (E given t) (EA given ts) in
        let some = element_some given t scope ready.0 in
        agree_to (as_bytes given) (element_step given.width (W n) k (E given t ++ EA given ts) scope (omega (arith, whole, some)))
        (agree_then (as_bytes given) Any (λ es. es) _
        (agree_element t scope n (EA given ts) ready.0 (λ e h. agree_operand given (is_expression t) (R t scope false) (W n) (E given t ++ EA given ts) (EA given ts) scope e (agree_run t scope false n (EA given ts) h (omega (arith, whole, le)) fits)))
        (λ v any. agree_then (as_bytes given) Any (λ es. es) _ (agree_elements ts scope n k ready.1 (omega (arith, whole, le)) (omega (arith, whole, some, le')) fits)
        (λ es any. agree_done (as_bytes given) Any (λ es. es) (element v es) tt)))

    pub agree_terms : (ts : Trees) (scope : AbsolutePath) (due : Bool) (n k : ℕ) → AreReady ⊥ given.known ts scope → length (EA given ts) ≤ n → length (EA given ts) ≤ k → n + 4 < 2 ^ 28 → Agree (as_bytes given) Any (λ f. f) (S.run_all given.width given.known turns call ts scope due) (B.walk_all (W n) k (EA given ts) scope due)
    agree_terms no_trees scope due n k ready le le' fits = agree_done (as_bytes given) Any (λ f. f) (Normal false) tt
    agree_terms (tree t ts) scope due n zero ready le le' fits = absurd (omega (arith, encoded_some given t scope ready.0, le', length-append (E given t) (EA given ts)))
    agree_terms (tree t ts) scope due n (suc k) ready le le' fits =
        let whole = length-append (E given t) (EA given ts) in
        let some = encoded_some given t scope ready.0 in
        agree_to (as_bytes given) (list_step (W n) k (E given t ++ EA given ts) scope due (omega (arith, whole, some)))
        (agree_then (as_bytes given) Any (λ f. f) _ (agree_run t scope due n (EA given ts) ready.0 (omega (arith, whole, le)) fits)
        (λ f ends. agree_on_flow (as_bytes given) f _ _ (λ d. agree_terms ts scope d n k ready.1 (omega (arith, whole, le)) (omega (arith, whole, some, le')) fits)))

module _ (given : Setting) (turns : ℕ) where
  pub agree_call : (depth : ℕ) (path : AbsolutePath) (args : List Value) → Agree (as_bytes given) EndsExpression (λ f. f) (S.call_method given.width given.known turns depth path args) (B.call_method given.width turns depth path args)
  agree_call zero path args = same_stop (λ j. j) (right_state (as_bytes given)) (IsFine (as_bytes given)) EndsExpression (λ f. f) Unfinished tt
  agree_call (suc depth) path args =
      agree_then (as_bytes given) EndsExpression (λ f. f) _ (agree_body (as_bytes given) path)
      (λ body kept. agree_activation (as_bytes given) args _ _ (agree_terms given turns (S.call_method given.width given.known turns depth) (B.call_method given.width turns depth) (agree_call depth) body path false (length (EA given body)) (length (EA given body)) kept.ready (le_refl _) (le_refl _) kept.fits))
