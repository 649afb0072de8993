-- A program does the same with its symbolic operators nested_in and its ElseIfs nested.
use Rattle.std.proofs.Common.{◌≡◌, ℕ, zero, suc, Bool, true, false, List, [], ◌∷◌, ◌++◌, length, Option, Some, None, refl, ap}
use Rattle.std.specs.Prelude.{◌||◌}
use Rattle.acpi_values.specs.declared.width.Width.{Width}
use Rattle.acpi_values.specs.declared.operator.Plain.{Plain}
use Rattle.acpi_values.specs.declared.operator.IntOp.TheVariants as IntOp
use Rattle.acpi_values.specs.declared.operator.DataOp.TheVariants as DataOp
use Rattle.acpi_values.specs.declared.fault.Fault.TheVariants.{WrongType}
use Rattle.acpi_values.specs.Paths.{AbsolutePath}
use Rattle.acpi_values.specs.Values as V
use Rattle.acpi_values.specs.Values.{Value, Data, Reference, Elements, no_elements, element, Place, Named}
use Rattle.acpi_values.specs.Operators.{Letter, Valued, Kept, Placed, Used, Row, row_of}
use Rattle.acpi_values.specs.Operators as L
use Rattle.acpi_values.specs.Integers.{wrapped}
use Rattle.acpi_values.specs.Conversions.{to_string}
use Rattle.acpi_state.specs.Objects.{Object, DataObject, MethodObject, ContainerObject, MutexObject, EventObject, AliasObject, Names, UnitObject}
use Rattle.acpi_state.specs.Finds.{first_there, reached}
use Rattle.acpi_state.specs.Sessions.{Request, initial}
use Rattle.acpi_state.specs.Outcomes.{Flow, Normal, Gives, Unfinished, Broken, Result, Done, Stopped, done, stop, fault, next, then_run, act, choose, value_of}
use Rattle.acpi_state.specs.Outcomes as O
use Rattle.acpi_state.specs.Loops.{is_true}
use Rattle.acpi_state.specs.Actions.{give, and_then, computed, write_named}
use Rattle.acpi_state.specs.Activations.{create}
use Rattle.acpi_state.specs.Stores.{Spot, Nowhere, DebugObject, At, read, store}
use Rattle.acpi_state.specs.Acts.{Operand, OfValue, OfKept, OfSpot, OfNumber, data_of, number_of, act_of, last_of}
use Rattle.acpi_state.specs.FieldUnits.{ToObject, ToResource, Extent, FieldUnit, InRegion, InBank, BehindIndex}
use Rattle.acpi_state.specs.Registers.{register_of}
use Rattle.acpi_state.specs.FieldActs.{region_letters, field_letters}
use Rattle.acpi_state.specs.Forms.{buffer_of, package_of, slot_here, if_data, spot_in, cond_ref_of}
use Rattle.asl_tree.specs.FieldItems.{FieldItem, UnitItem, SkipItem, OffsetItem, AccessItem, ConnectionItem, Connected, ToName, ToBytes}
use Rattle.asl_tree.specs.declared.path.Path.{Path}
use Rattle.asl_tree.specs.Symbols.{compound_operator}
use Rattle.asl_tree.specs.Literals.{literal_number}
use Rattle.asl_tree.specs.Names.{Known, is_known, declared_path, denoted, element_path}
use Rattle.asl_tree.specs.Tree.{Tree, Integer, Constant, String, InSlot, Debug, Omitted, Raw, Use, Call, Apply, Buffer, Package, VarPackage, CondRefOf, Return, Name, Alias, External, Method, Mutex, Event, Container', Scope, Fill, Misshapen}
use Rattle.asl_tree.specs.Tree.{Trees, no_trees, tree, OperationRegion, Field, IndexField, BankField, CreateField, UnitName, If, ElseIf, Else, While, Break, Continue, Item, Operated, Assigned, AssignedBy, Switch, Case, Default, For, Print}
use Rattle.asl_meaning.specs.FieldTerms.{Cursor, first_unit, behind_bits, at_byte, accessed, length_or_none, connected_to, resource_of, connect, create_units}
use Rattle.asl_meaning.specs.Meaning as S
use Rattle.asl_meaning.specs.Meaning.{SourceRun, SpotForm, OfResult, OfInside, NoSpot, spot_form, store_last, operate, two_values, store_with, assign_with, target_operator, leave_switch, unless_omitted, then_step}
use Rattle.asl_meaning.specs.SourceSession.{source_session}
use Rattle.asl_tree.specs.Formats.{cut}
use Rattle.else_runs.specs.Runs.{before, nested_in, nested_args, nested_all}
use Rattle.else_runs.proofs.Alike.{Alike, alike_done, alike_stop, alike_fault, alike_then, alike_to, alike_act, alike_existing, alike_look, alike_if, alike_valued, alike_on_flow, alike_loop, alike_create, alike_keep, alike_body, alike_activation, alike_use, alike_written, alike_region, alike_buffer_field, same_session}
use Rattle.else_runs.proofs.Runs.{before_same, nested_ok}

-- an operator that is given a target is the same
same_operator : (t : Tree) → target_operator (nested_in t) ≡ target_operator t
same_operator (Operated op args) = refl
same_operator _ = refl

-- a term that may be left out
alike_unless : (t : Tree) {m m' : SourceRun Flow} → Alike nested_all m m' → Alike nested_all (unless_omitted t m) (unless_omitted (nested_in t) m')
alike_unless Omitted h = alike_done (Normal false)
alike_unless t h = h

alike_step : (f : Flow) {m m' : SourceRun Flow} → Alike nested_all m m' → Alike nested_all (then_step f m) (then_step f m')
alike_step O.Break h = alike_done O.Break
alike_step (O.Return v) h = alike_done (O.Return v)
alike_step (Normal d) h = h
alike_step (Gives v) h = h
alike_step O.NoValue h = h
alike_step O.Continue h = h

module _ (width : Width) (known : Known) where
  alike_find : (name : Path) (scope : AbsolutePath) → Alike nested_all (S.find known name scope) (S.find known name scope)
  alike_find name scope = alike_existing (λ names. choose (denoted (is_known known) name scope) None (λ path. first_there names (path ∷ [])))

  alike_found : (name : Path) (scope : AbsolutePath) → Alike nested_all (S.found known name scope) (S.found known name scope)
  alike_found name scope = alike_then (alike_find name scope) (λ path. alike_existing (λ names. reached names path))

  alike_sought : (name : Path) (scope : AbsolutePath) → Alike nested_all (S.sought known name scope) (S.sought known name scope)
  alike_sought name scope = alike_look (λ names. choose (choose (denoted (is_known known) name scope) None (λ path. first_there names (path ∷ []))) None (reached names))

  alike_region_at : (name : Path) (scope : AbsolutePath) → Alike nested_all (S.region_at known name scope) (S.region_at known name scope)
  alike_region_at name scope = alike_then (alike_found name scope) (λ e. alike_done e.0)

  alike_register_at : (name : Path) (scope : AbsolutePath) → Alike nested_all (S.register_at known name scope) (S.register_at known name scope)
  alike_register_at name scope = alike_then (alike_found name scope) (λ e. alike_act (register_of e))

  abbrev leads : AbsolutePath → Path → SourceRun AbsolutePath
  leads scope name = S.region_at known name scope

  alike_connect : (to : Connected) (scope : AbsolutePath) → Alike nested_all (connect (leads scope) to) (connect (leads scope) to)
  alike_connect (ToName at name) scope = alike_then (alike_region_at name scope) (λ path. alike_done (ToObject path))
  alike_connect (ToBytes bytes) scope = alike_then (alike_act (resource_of (length bytes) bytes)) (λ bytes. alike_done (ToResource bytes))

  alike_units : (unit : Extent → FieldUnit) (scope : AbsolutePath) (c : Cursor) (items : List (FieldItem UnitName)) → Alike nested_all (create_units (leads scope) unit scope c items) (create_units (leads scope) unit scope c items)
  alike_units unit scope c [] = alike_done (Normal false)
  alike_units unit scope c (UnitItem name bits ∷ items) =
      alike_then (alike_create (name.segment ∷ scope) (UnitObject (unit (record { at = c.at; bits = bits; flags = c.flags; link = c.link })))) (λ u. alike_units unit scope (behind_bits c bits) items)
  alike_units unit scope c (SkipItem bits ∷ items) = alike_units unit scope (behind_bits c bits) items
  alike_units unit scope c (OffsetItem bytes ∷ items) = alike_units unit scope (at_byte c bytes) items
  alike_units unit scope c (AccessItem access attribute count ∷ items) = alike_units unit scope (accessed c access attribute (length_or_none count)) items
  alike_units unit scope c (ConnectionItem to ∷ items) = alike_then (alike_connect to scope) (λ x. alike_units unit scope (connected_to c x) items)

  alike_text : {m m' : SourceRun Flow} → Alike nested_all m m' → Alike nested_all (S.text_by width known m) (S.text_by width known m')
  alike_text h = alike_then (alike_valued h) (λ v. alike_act (and_then (data_of width v) (λ datum. give (to_string width datum))))

  alike_size : {m m' : SourceRun Flow} → Alike nested_all m m' → Alike nested_all (S.size_by width known m) (S.size_by width known m')
  alike_size h = alike_then (alike_valued h) (λ v. alike_act (number_of width v))

  alike_named_place : (name : Path) (scope : AbsolutePath) → Alike nested_all (S.place_of_name width known name scope) (S.place_of_name width known name scope)
  alike_named_place name scope = alike_then (alike_found name scope) (λ e. alike_done (if_data e.1 (Some (Named e.0)) None))

  -- the place of an expression's data
  alike_place : (t : Tree) (scope : AbsolutePath) → Alike nested_all (S.place_by width known t scope) (S.place_by width known (nested_in t) scope)
  alike_place (InSlot slot) scope = alike_then (alike_act (slot_here slot)) (λ place. alike_done (Some place))
  alike_place (Use at name) scope = alike_named_place name scope
  alike_place (Call at name args) scope = alike_named_place name scope
  alike_place _ scope = alike_done None

  alike_used : (t : Tree) (scope : AbsolutePath) → Alike nested_all (S.used_by width known t scope) (S.used_by width known (nested_in t) scope)
  alike_used (Use at name) scope = alike_then (alike_found name scope) (λ e. alike_done (OfSpot (At (Named e.0))))
  alike_used _ scope = alike_stop Broken

  alike_raw : (t : Tree) → Alike nested_all (S.raw_by width known t) (S.raw_by width known (nested_in t))
  alike_raw (Raw size number) = alike_done (OfNumber number)
  alike_raw _ = alike_stop Broken

  -- an operand as its letter asks
  alike_letter : (letter : Letter) (t : Tree) (scope : AbsolutePath) {m m' : SourceRun Flow} {spot spot' : SourceRun Spot} → Alike nested_all m m' → Alike nested_all spot spot' → Alike nested_all (S.operand_by width known letter t m spot scope) (S.operand_by width known letter (nested_in t) m' spot' scope)
  alike_letter Valued t scope hm hs = alike_then (alike_valued hm) (λ v. alike_done (OfValue v))
  alike_letter Kept t scope hm hs = alike_then (alike_place t scope) (λ place. alike_then (alike_valued hm) (λ v. alike_done (OfKept place v)))
  alike_letter Placed t scope hm hs = alike_then hs (λ p. alike_done (OfSpot p))
  alike_letter Used t scope hm hs = alike_used t scope
  alike_letter (L.Raw size) t scope hm hs = alike_raw t

  alike_spot_form : (form : SpotForm) {result result' : SourceRun Flow} {inside inside' : SourceRun Value} → Alike nested_all result result' → Alike nested_all inside inside' → Alike nested_all (S.spot_by width known form result inside) (S.spot_by width known form result' inside')
  alike_spot_form OfResult hr hi = alike_then (alike_valued hr) (λ v. alike_act (spot_in v))
  alike_spot_form OfInside hr hi = alike_then hi (λ v. alike_act (spot_in v))
  alike_spot_form NoSpot hr hi = alike_stop Broken

  -- the place of CondRefOf
  alike_cond : (t : Tree) (scope : AbsolutePath) {spot spot' : SourceRun Spot} → Alike nested_all spot spot' → Alike nested_all (S.cond_by width known t spot scope) (S.cond_by width known (nested_in t) spot' scope)
  alike_cond (Use at name) scope h = alike_then (alike_sought name scope) (λ o. alike_done (choose o None (λ e. Some (At (Named e.0)))))
  alike_cond _ scope h = alike_then h (λ p. alike_done (Some p))

  -- an element of a Package
  alike_element : (t : Tree) (scope : AbsolutePath) {m m' : SourceRun Flow} → Alike nested_all m m' → Alike nested_all (S.element_by width known t m scope) (S.element_by width known (nested_in t) m' scope)
  alike_element (Use at name) scope h = alike_done (Reference (Named (element_path (is_known known) name scope)))
  alike_element _ scope h = alike_valued h

  alike_plain : (op : Plain) {ops ops' : SourceRun (List Operand)} {into into' : List Value → SourceRun (Unit {0})} → Alike nested_all ops ops' → ((rs : List Value) → Alike nested_all (into rs) (into' rs)) → Alike nested_all (S.apply_with width op ops into) (S.apply_with width op ops' into')
  alike_plain op ho ht = alike_then ho (λ os. alike_then (alike_act (act_of op width os)) (λ rs. alike_then (ht rs) (λ u. alike_done (last_of rs))))

  -- whether a value is equal to another
  alike_equals : (v : Value) {m m' : SourceRun Value} → Alike nested_all m m' → Alike nested_all (S.equals width known v m) (S.equals width known v m')
  alike_equals v h =
      alike_then (alike_size (alike_plain (Plain.Number IntOp.LEqual) (alike_then (alike_done v) (λ v. alike_then h (λ w. alike_done (OfValue v ∷ OfValue w ∷ [])))) (λ rs. alike_done tt))) (λ n. alike_done (is_true n))

  alike_leave : (f : Flow) → Alike nested_all (leave_switch f) (leave_switch f)
  alike_leave O.Continue = alike_done O.Continue
  alike_leave (O.Return v) = alike_done (O.Return v)
  alike_leave _ = alike_done (Normal false)

  alike_last : (n : ℕ) {spot spot' : SourceRun Spot} → Alike nested_all spot spot' → (rs : List Value) → Alike nested_all (store_last width n spot rs) (store_last width n spot' rs)
  alike_last zero h rs = alike_done tt
  alike_last (suc n) h [] = alike_fault WrongType
  alike_last (suc zero) h (v ∷ rs) = alike_then h (λ p. alike_act (store width p v))
  alike_last (suc (suc n)) h (v ∷ rs) = alike_last (suc n) h rs

  alike_operate : (op : Plain) {ops ops' : SourceRun (List Operand)} {spot spot' : SourceRun Spot} → Alike nested_all ops ops' → Alike nested_all spot spot' →
      Alike nested_all (S.apply_with width op ops (store_last width (row_of op).targets spot)) (S.apply_with width op ops' (store_last width (row_of op).targets spot'))
  alike_operate op ho hs = alike_plain op ho (λ rs. alike_last (row_of op).targets hs rs)

module _ (width : Width) (known : Known) (turns : ℕ) (call : AbsolutePath → List Value → SourceRun Flow) where
  abbrev value_at : Tree → AbsolutePath → SourceRun Value
  value_at t scope = then_run (S.run width known turns call t scope false) value_of

  abbrev spot_at : Tree → AbsolutePath → SourceRun Spot
  spot_at t scope = S.spot width known turns call t scope

  -- among the Cases of a Switch an ElseIf, and an Else, are passed over
  else_if_cases : (test : Tree) (body ts : Trees) (v : Value) (scope : AbsolutePath) (m : SourceRun Flow) → S.run_cases width known turns call (before (ElseIf test body) ts) v scope m ≡ S.run_cases width known turns call ts v scope m
  else_if_cases test body (tree (Else other) rest) v scope m = refl
  else_if_cases test body no_trees v scope m = refl
  else_if_cases test body (tree t rest) v scope m = refl

  else_if_default : (test : Tree) (body ts : Trees) (scope : AbsolutePath) → S.run_default width known turns call (before (ElseIf test body) ts) scope ≡ S.run_default width known turns call ts scope
  else_if_default test body (tree (Else other) rest) scope = refl
  else_if_default test body no_trees scope = refl
  else_if_default test body (tree t rest) scope = refl

module _ (width : Width) (known : Known) (turns : ℕ) (call : AbsolutePath → List Value → SourceRun Flow) (calls : (path : AbsolutePath) (args : List Value) → Alike nested_all (call path args) (call path args)) where
  alike_assigned : (o : Option Plain) {ops ops' : List Letter → SourceRun (List Operand)} {value value' : SourceRun Value} {spot spot' : SourceRun Spot} → ((letters : List Letter) → Alike nested_all (ops letters) (ops' letters)) → Alike nested_all value value' → Alike nested_all spot spot' →
      Alike nested_all (assign_with width o ops value spot) (assign_with width o ops' value' spot')
  alike_assigned (Some op) ho hv hs = alike_operate width known op (ho (row_of op).operands) hs
  alike_assigned None ho hv hs = alike_plain width known (Plain.Data DataOp.Store) (alike_then hv (λ v. alike_then hs (λ p. alike_done (OfValue v ∷ OfSpot p ∷ [])))) (λ rs. alike_done tt)

  alike_created : (path : AbsolutePath) (object : Object) → Alike nested_all (then_run (create path object) (λ u. done (Normal false))) (then_run (create path object) (λ u. done (Normal false)))
  alike_created path object = alike_then (alike_create path object) (λ u. alike_done (Normal false))

  mutual
    alike : (t : Tree) (scope : AbsolutePath) (due : Bool) → Alike nested_all (S.run width known turns call t scope due) (S.run width known turns call (nested_in t) scope due)
    alike (Integer number) scope due = alike_done (Gives (Data (V.Integer (wrapped width number))))
    alike (Constant literal) scope due = alike_done (Gives (Data (V.Integer (literal_number width literal))))
    alike (String text) scope due = alike_done (Gives (Data (V.String text)))
    alike (InSlot slot) scope due = alike_then (alike_act (slot_here slot)) (λ place. alike_then (alike_act (read width place)) (λ v. alike_done (Gives v)))
    alike Debug scope due = alike_fault WrongType
    alike Omitted scope due = alike_stop Broken
    alike (Raw size number) scope due = alike_stop Broken
    alike (Use at name) scope due = alike_then (alike_found width known name scope) (λ e. alike_use width call calls e.0 e.1 [])
    alike (Call at name args) scope due =
        alike_then (alike_found width known name scope) (λ e. alike_then (alike_values args scope) (λ vs. alike_written width call calls e.0 e.1 vs))
    alike (Apply op args targets) scope due = alike_plain width known op (alike_operands (row_of op).operands args scope) (λ rs. alike_stores targets rs scope)
    alike (Operated op args) scope due = alike_operate width known op (alike_operands (row_of op).operands args scope) (alike_done Nowhere)
    alike (Assigned target value) scope due =
        alike_to (ap (λ o. assign_with width o (λ letters. S.inner_operands width known turns call letters (nested_in value) scope) (value_at width known turns call (nested_in value) scope) (spot_at width known turns call (nested_in target) scope)) (same_operator value))
        (alike_assigned (target_operator value) (λ letters. alike_inner letters value scope) (alike_valued (alike value scope false)) (alike_spot target scope))
    alike (AssignedBy op target value) scope due =
        alike_operate width known (compound_operator op)
        (alike_then (alike_valued (alike target scope false)) (λ v. alike_then (alike_valued (alike value scope false)) (λ w. alike_done (OfValue v ∷ OfValue w ∷ []))))
        (alike_spot target scope)
    alike (Buffer size bytes) scope due =
        alike_then (alike_size width known (alike size scope false)) (λ n. alike_then (alike_act (computed (buffer_of n bytes))) (λ v. alike_done (Gives v)))
    alike (Package count items) scope due =
        alike_then (alike_elements items scope) (λ es. alike_then (alike_act (computed (package_of count es))) (λ v. alike_done (Gives v)))
    alike (VarPackage count items) scope due =
        alike_then (alike_size width known (alike count scope false)) (λ n. alike_then (alike_elements items scope) (λ es. alike_then (alike_act (computed (package_of n es))) (λ v. alike_done (Gives v))))
    alike (CondRefOf place target) scope due =
        alike_then (alike_cond width known place scope (alike_spot place scope)) (λ o. alike_then (alike_spot target scope) (λ p. alike_then (alike_act (cond_ref_of width o p)) (λ v. alike_done (Gives v))))
    alike (Return value) scope due = alike_then (alike_valued (alike value scope false)) (λ v. alike_done (O.Return v))
    alike (Name at name value) scope due =
        alike_then (alike_valued (alike value scope false)) (λ v. alike_then (alike_create (declared_path name scope) DataObject) (λ u. alike_then (alike_act (write_named (declared_path name scope) v)) (λ u. alike_done (Normal false))))
    alike (Alias from source at name) scope due = alike_then (alike_found width known source scope) (λ e. alike_created (declared_path name scope) (AliasObject e.0))
    alike (External here at name type parameters) scope due = alike_done (Normal false)
    alike (Method at name flags body) scope due =
        alike_then (alike_create (declared_path name scope) (MethodObject flags)) (λ u. alike_then (alike_keep (declared_path name scope) body) (λ u. alike_done (Normal false)))
    alike (Mutex at name level) scope due = alike_created (declared_path name scope) (MutexObject level)
    alike (Event at name) scope due = alike_created (declared_path name scope) EventObject
    alike (Container' kind at name body) scope due = alike_then (alike_create (declared_path name scope) (ContainerObject kind)) (λ u. alike_all body (declared_path name scope) false)
    alike (Scope here at name body) scope due = alike_then (alike_find width known name scope) (λ path. alike_all body path false)
    alike (If test body) scope due =
        alike_then (alike_size width known (alike test scope false)) (λ n. alike_if (is_true n) (alike_all body scope false) (alike_done (Normal true)))
    alike (ElseIf test body) scope due =
        alike_if due (alike_then (alike_size width known (alike test scope false)) (λ n. alike_if (is_true n) (alike_all body scope false) (alike_done (Normal true)))) (alike_done (Normal false))
    alike (Else body) scope due = alike_if due (alike_all body scope false) (alike_done (Normal false))
    alike (While test body) scope due =
        alike_loop {X = Unit {0}} turns (alike_then (alike_size width known (alike test scope false)) (λ n. alike_done (is_true n, tt))) (λ u. alike_all body scope false)
    alike (For start test step body) scope due =
        alike_then (alike_unless start (alike start scope false)) (λ f. alike_loop {X = Unit {0}} turns (alike_then (alike_size width known (alike test scope false)) (λ n. alike_done (is_true n, tt)))
        (λ u. alike_then (alike_all body scope false) (λ f. alike_step f (alike_unless step (alike step scope false)))))
    alike (Print place format args) scope due =
        alike_then (alike_filled (cut format).1 args scope) (λ rest. alike_then (alike_spot place scope) (λ p. alike_then (alike_act (store width p (Data (V.String ((cut format).0 ++ rest))))) (λ u. alike_done (Normal false))))
    alike (Switch value cases) scope due =
        alike_then (alike_valued (alike value scope false)) (λ v. alike_then (alike_cases cases v scope _ _ (alike_default cases scope)) (λ f. alike_leave width known f))
    alike (Case value body) scope due = alike_stop Broken
    alike (Default body) scope due = alike_stop Broken
    alike Break scope due = alike_done O.Break
    alike Continue scope due = alike_done O.Continue
    alike (OperationRegion at name space args) scope due = alike_then (alike_operands region_letters args scope) (λ os. alike_region width (declared_path name scope) space os)
    alike (Field here from region flags items) scope due = alike_then (alike_region_at width known region scope) (λ r. alike_units width known (InRegion r) scope (first_unit flags) items)
    alike (IndexField here from index to register flags items) scope due =
        alike_then (alike_register_at width known index scope) (λ i. alike_then (alike_register_at width known register scope) (λ r. alike_units width known (BehindIndex i r) scope (first_unit flags) items))
    alike (BankField here from region to bank value flags items) scope due =
        alike_then (alike_region_at width known region scope) (λ r. alike_then (alike_register_at width known bank scope)
        (λ b. alike_then (alike_size width known (alike value scope false)) (λ n. alike_units width known (InBank r b n) scope (first_unit flags) items)))
    alike (CreateField form args at name) scope due = alike_then (alike_operands (field_letters form) args scope) (λ os. alike_buffer_field width form (declared_path name scope) os)
    alike (Item item) scope due = alike_stop Broken
    alike (Fill bytes) scope due = alike_stop Broken
    alike Misshapen scope due = alike_stop Broken

    alike_spot : (t : Tree) (scope : AbsolutePath) → Alike nested_all (spot_at width known turns call t scope) (spot_at width known turns call (nested_in t) scope)
    alike_spot Omitted scope = alike_done Nowhere
    alike_spot Debug scope = alike_done DebugObject
    alike_spot (InSlot slot) scope = alike_then (alike_act (slot_here slot)) (λ place. alike_done (At place))
    alike_spot (Use at name) scope = alike_then (alike_found width known name scope) (λ e. alike_done (At (Named e.0)))
    alike_spot (Apply op args targets) scope =
        alike_spot_form width known (spot_form op) (alike_plain width known op (alike_operands (row_of op).operands args scope) (λ rs. alike_stores targets rs scope)) (alike_first args scope)
    alike_spot (Operated op args) scope =
        alike_spot_form width known (spot_form op) (alike_operate width known op (alike_operands (row_of op).operands args scope) (alike_done Nowhere)) (alike_first args scope)
    alike_spot _ scope = alike_stop Broken

    alike_inner : (letters : List Letter) (value : Tree) (scope : AbsolutePath) → Alike nested_all (S.inner_operands width known turns call letters value scope) (S.inner_operands width known turns call letters (nested_in value) scope)
    alike_inner letters (Operated op args) scope = alike_operands letters args scope
    alike_inner letters _ scope = alike_stop Broken

    -- arguments as texts
    alike_filled : (texts : List (List ℕ)) (ts : Trees) (scope : AbsolutePath) → Alike nested_all (S.filled width known turns call texts ts scope) (S.filled width known turns call texts (nested_args ts) scope)
    alike_filled [] no_trees scope = alike_done []
    alike_filled [] (tree t ts) scope = alike_stop Broken
    alike_filled (text ∷ texts) no_trees scope = alike_stop Broken
    alike_filled (text ∷ texts) (tree t ts) scope =
        alike_then (alike_text width known (alike t scope false)) (λ first. alike_then (alike_filled texts ts scope) (λ rest. alike_done (first ++ (text ++ rest))))

    -- the value of a Case
    alike_hits : (t : Tree) (v : Value) (scope : AbsolutePath) (alone alone' : SourceRun Bool) → Alike nested_all alone alone' → Alike nested_all (S.hits width known turns call t alone v scope) (S.hits width known turns call (nested_in t) alone' v scope)
    alike_hits (Package count members) v scope alone alone' h = alike_any members v scope
    alike_hits (VarPackage count members) v scope alone alone' h = alike_any members v scope
    alike_hits _ v scope alone alone' h = h

    alike_any : (ts : Trees) (v : Value) (scope : AbsolutePath) → Alike nested_all (S.hits_any width known turns call ts v scope) (S.hits_any width known turns call (nested_args ts) v scope)
    alike_any no_trees v scope = alike_done false
    alike_any (tree t ts) v scope =
        alike_then (alike_equals width known v (alike_valued (alike t scope false))) (λ first. alike_then (alike_any ts v scope) (λ others. alike_done (first || others)))

    -- the Cases of a Switch, and its Default
    alike_cases : (ts : Trees) (v : Value) (scope : AbsolutePath) (m m' : SourceRun Flow) → Alike nested_all m m' → Alike nested_all (S.run_cases width known turns call ts v scope m) (S.run_cases width known turns call (nested_all ts) v scope m')
    alike_cases no_trees v scope m m' h = h
    alike_cases (tree (Case value body) cases) v scope m m' h =
        alike_then (alike_hits value v scope _ _ (alike_equals width known v (alike_valued (alike value scope false)))) (λ hit. alike_if hit (alike_all body scope false) (alike_cases cases v scope m m' h))
    alike_cases (tree (ElseIf test body) cases) v scope m m' h =
        alike_to (else_if_cases width known turns call (nested_in test) (nested_all body) (nested_all cases) v scope m') (alike_cases cases v scope m m' h)
    alike_cases (tree _ cases) v scope m m' h = alike_cases cases v scope m m' h

    alike_default : (ts : Trees) (scope : AbsolutePath) → Alike nested_all (S.run_default width known turns call ts scope) (S.run_default width known turns call (nested_all ts) scope)
    alike_default no_trees scope = alike_done (Normal false)
    alike_default (tree (Default body) cases) scope = alike_all body scope false
    alike_default (tree (ElseIf test body) cases) scope = alike_to (else_if_default width known turns call (nested_in test) (nested_all body) (nested_all cases) scope) (alike_default cases scope)
    alike_default (tree _ cases) scope = alike_default cases scope

    alike_operands : (letters : List Letter) (ts : Trees) (scope : AbsolutePath) → Alike nested_all (S.operands width known turns call letters ts scope) (S.operands width known turns call letters (nested_args ts) scope)
    alike_operands [] no_trees scope = alike_done []
    alike_operands [] (tree t ts) scope = alike_stop Broken
    alike_operands (letter ∷ letters) no_trees scope = alike_stop Broken
    alike_operands (letter ∷ letters) (tree t ts) scope =
        alike_then (alike_letter width known letter t scope (alike t scope false) (alike_spot t scope)) (λ o. alike_then (alike_operands letters ts scope) (λ os. alike_done (o ∷ os)))

    alike_stores : (ts : Trees) (rs : List Value) (scope : AbsolutePath) → Alike nested_all (S.store_all width known turns call ts rs scope) (S.store_all width known turns call (nested_args ts) rs scope)
    alike_stores no_trees rs scope = alike_done tt
    alike_stores (tree t ts) [] scope = alike_fault WrongType
    alike_stores (tree t ts) (r ∷ rs) scope = alike_then (alike_spot t scope) (λ p. alike_then (alike_act (store width p r)) (λ u. alike_stores ts rs scope))

    alike_first : (ts : Trees) (scope : AbsolutePath) → Alike nested_all (S.first_value width known turns call ts scope) (S.first_value width known turns call (nested_args ts) scope)
    alike_first no_trees scope = alike_stop Broken
    alike_first (tree t ts) scope = alike_valued (alike t scope false)

    alike_values : (ts : Trees) (scope : AbsolutePath) → Alike nested_all (S.values width known turns call ts scope) (S.values width known turns call (nested_args ts) scope)
    alike_values no_trees scope = alike_done []
    alike_values (tree t ts) scope = alike_then (alike_valued (alike t scope false)) (λ v. alike_then (alike_values ts scope) (λ vs. alike_done (v ∷ vs)))

    alike_elements : (ts : Trees) (scope : AbsolutePath) → Alike nested_all (S.elements width known turns call ts scope) (S.elements width known turns call (nested_args ts) scope)
    alike_elements no_trees scope = alike_done no_elements
    alike_elements (tree t ts) scope = alike_then (alike_element width known t scope (alike t scope false)) (λ v. alike_then (alike_elements ts scope) (λ es. alike_done (element v es)))

    pub alike_all : (ts : Trees) (scope : AbsolutePath) (due : Bool) → Alike nested_all (S.run_all width known turns call ts scope due) (S.run_all width known turns call (nested_all ts) scope due)
    alike_all no_trees scope due = alike_done (Normal false)
    alike_all (tree t ts) scope due =
        alike_to (before_same width known turns call (nested_in t) (nested_all ts) scope due (nested_ok ts)) (alike_then (alike t scope due) (λ f. alike_on_flow f (λ d. alike_all ts scope d)))

module _ (width : Width) (known : Known) (turns : ℕ) where
  alike_call : (depth : ℕ) (path : AbsolutePath) (args : List Value) → Alike nested_all (S.call_method width known turns depth path args) (S.call_method width known turns depth path args)
  alike_call zero path args = alike_stop Unfinished
  alike_call (suc depth) path args = alike_body (λ body. alike_activation args (alike_all width known turns (S.call_method width known turns depth) (alike_call depth) body path false)) path

-- the session of a program is that of the program with its operators nested_in and its ElseIfs nested
pub same_nested : (width : Width) (known : Known) (terms : Trees) (there : Names) (n : ℕ) (answers : List Value) (requests : List Request) → source_session width known (nested_all terms) there n answers requests ≡ source_session width known terms there n answers requests
same_nested width known terms there n answers requests =
    same_session (S.call_method width known n n) (alike_call width known n n) _ _ (alike_all width known n (S.call_method width known n n) (alike_call width known n n) terms [] false) (initial there answers) refl requests
