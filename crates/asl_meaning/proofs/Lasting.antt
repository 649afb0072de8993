-- A term that has no Continue does not end with one.
use Rattle.std.proofs.Common.{◌≡◌, ℕ, zero, suc, Bool, true, false, List, [], ◌∷◌, ◌++◌, length, Option, Some, None, refl, arith}
use Rattle.std.specs.Prelude.{if◌then◌else◌, nat_eq, ◌&&◌, ◌||◌}
use Rattle.acpi_values.specs.declared.width.Width.{Width}
use Rattle.acpi_values.specs.declared.operator.Plain.{Plain}
use Rattle.acpi_values.specs.declared.operator.DataOp.TheVariants as DataOp
use Rattle.acpi_values.specs.declared.fault.Fault.TheVariants.{WrongType}
use Rattle.acpi_values.specs.Operators.{Letter, row_of}
use Rattle.acpi_values.specs.Paths.{AbsolutePath}
use Rattle.acpi_values.specs.Values.{Value, Data}
use Rattle.acpi_values.specs.Values as V'
use Rattle.acpi_state.specs.State.{State}
use Rattle.acpi_state.specs.Objects.{Object, DataObject, MethodObject, ContainerObject, MutexObject, EventObject, RegionObject, BufferFieldObject, AliasObject, ExternalObject, ExternalMethod, ExternalData, ExternalOther, operand_count, is_method}
use Rattle.acpi_state.specs.Objects
use Rattle.acpi_state.specs.FieldUnits.{Extent, FieldUnit, InRegion, InBank, BehindIndex}
use Rattle.acpi_state.specs.Outcomes.{Flow, Normal, Gives, NoValue, Break, Return, Stop, Faulted, Unfinished, Broken, Result, Done, Stopped, Run, done, stop, next, then_run, act, value_of, on_flow}
use Rattle.acpi_state.specs.Outcomes as O
use Rattle.acpi_state.specs.Actions.{computed, ask, write_named}
use Rattle.acpi_state.specs.Acts.{Operand, OfValue, OfSpot, act_of, last_of}
use Rattle.acpi_state.specs.Stores.{Spot, Nowhere, read, store}
use Rattle.acpi_state.specs.Activations.{create, keep_body, body_at, enter, result_of, activation}
use Rattle.acpi_state.specs.BufferFields.{keep_own}
use Rattle.acpi_state.specs.FieldActs.{region_letters, region_extent, field_letters, new_field}
use Rattle.acpi_state.specs.Forms.{buffer_of, package_of, slot_here, object_value, cond_ref_of}
use Rattle.acpi_state.specs.Loops.{is_true, after_turn, loop}
use Rattle.acpi_state.specs.Uses.{use_object}
use Rattle.asl_tree.specs.FieldItems.{FieldItem, UnitItem, SkipItem, OffsetItem, AccessItem, ConnectionItem}
use Rattle.asl_tree.specs.declared.path.Path.{Path}
use Rattle.asl_tree.specs.Names.{Known, declared_path}
use Rattle.asl_tree.specs.Symbols.{compound_operator}
use Rattle.asl_tree.specs.Tree.{Tree, Integer, Constant, String, InSlot, Debug, Omitted, Raw, Use, Call, Apply, Buffer, Package, VarPackage, CondRefOf, Name, Alias, External, Method, Mutex, Event, Container', Scope, Fill, Misshapen}
use Rattle.asl_tree.specs.Tree.{Trees, no_trees, tree, OperationRegion, Field, IndexField, BankField, CreateField, If, ElseIf, Else, While, Switch, Case, Default, Continue, Item, Operated, Assigned, AssignedBy, UnitName, For, Print}
use Rattle.asl_tree.specs.Tree as T
use Rattle.asl_meaning.specs.FieldTerms.{Cursor, first_unit, behind_bits, at_byte, accessed, length_or_none, connected_to, create_unit, connect, create_units}
use Rattle.asl_meaning.specs.Meaning as S
use Rattle.asl_tree.specs.Formats.{cut}
use Rattle.asl_meaning.specs.Meaning.{store_last, two_values, call_method, target_operator, leave_switch, unless_omitted, then_step}
use Rattle.asl_meaning.specs.Continues.{NoContinue, Lasts, Lasting, has_continue, have_continue}

lasting_done : (f : Flow) → NoContinue f → Lasting (done f)
lasting_done f h = record { by = λ s. h }

lasting_stop : (x : Stop) → Lasting (stop x)
lasting_stop x = record { by = λ s. tt }

lasting_then : {A : Type 0} (m : Run Trees A) {k : A → Run Trees Flow} → ((a : A) → Lasting (k a)) → Lasting (then_run m k)
lasting_then {A} m {k = k} h = record { by = λ s. by_result (m s).result (m s).state }
  where
    by_result : (r : Result A) (t : State Trees) → Lasts (next r t k).result
    by_result (Done a) t = (h a).by t
    by_result (Stopped x) t = tt

lasting_value : {A : Type 0} (m : Run Trees A) (f : A → Flow) → ((a : A) → NoContinue (f a)) → Lasting (then_run m (λ a. done (f a)))
lasting_value m f h = lasting_then m (λ a. lasting_done (f a) (h a))

lasting_given : (m : Run Trees Value) → Lasting (then_run m (λ v. done (Gives v)))
lasting_given m = lasting_value m (λ v. Gives v) (λ v. tt)

lasting_normal : {A : Type 0} (m : Run Trees A) → Lasting (then_run m (λ a. done (Normal false)))
lasting_normal m = lasting_value m (λ a. Normal false) (λ a. tt)

last_lasts : (vs : List Value) → NoContinue (last_of vs)
last_lasts [] = tt
last_lasts (v ∷ []) = tt
last_lasts (v ∷ w ∷ vs) = last_lasts (w ∷ vs)

lasting_if : (b : Bool) {m n : Run Trees Flow} → Lasting m → Lasting n → Lasting (if b then m else n)
lasting_if true h g = h
lasting_if false h g = g

-- a loop takes each Continue of its own
lasting_turn : (f : Flow) {m : Run Trees Flow} → Lasting m → Lasting (after_turn f m)
lasting_turn Break h = lasting_done (Normal false) tt
lasting_turn (Return v) h = lasting_done (Return v) tt
lasting_turn (Normal d) h = h
lasting_turn (Gives v) h = h
lasting_turn NoValue h = h
lasting_turn O.Continue h = h

lasting_loop : (n : ℕ) (test : Run Trees (Bool × Unit {0})) (body : Unit {0} → Run Trees Flow) → Lasting (loop n test body)
lasting_loop zero test body = lasting_then test (λ b. lasting_if b.0 (lasting_stop Unfinished) (lasting_done (Normal false) tt))
lasting_loop (suc n) test body = lasting_then test (λ b. lasting_if b.0 (lasting_then (body b.1) (λ f. lasting_turn f (lasting_loop n test body))) (lasting_done (Normal false) tt))

-- so does what leaves a Switch
lasting_left : {m : Run Trees Flow} → Lasting m → Lasting (then_run m leave_switch)
lasting_left {m = m} h = record { by = λ s. by_result (m s).result (m s).state (h.by s) }
  where
    by_result : (r : Result Flow) (t : State Trees) → Lasts r → Lasts (next r t leave_switch).result
    by_result (Done O.Continue) t p = absurd p
    by_result (Done (Return v)) t p = tt
    by_result (Done (Normal d)) t p = tt
    by_result (Done (Gives v)) t p = tt
    by_result (Done NoValue) t p = tt
    by_result (Done Break) t p = tt
    by_result (Stopped x) t p = tt

lasting_units : (leads : Path → Run Trees AbsolutePath) (unit : Extent → FieldUnit) (scope : AbsolutePath) (c : Cursor) (items : List (FieldItem UnitName)) → Lasting (create_units leads unit scope c items)
lasting_units leads unit scope c [] = lasting_done (Normal false) tt
lasting_units leads unit scope c (UnitItem name bits ∷ items) = lasting_then (create_unit unit scope c name.segment bits) (λ u. lasting_units leads unit scope (behind_bits c bits) items)
lasting_units leads unit scope c (SkipItem bits ∷ items) = lasting_units leads unit scope (behind_bits c bits) items
lasting_units leads unit scope c (OffsetItem bytes ∷ items) = lasting_units leads unit scope (at_byte c bytes) items
lasting_units leads unit scope c (AccessItem access attribute count ∷ items) = lasting_units leads unit scope (accessed c access attribute (length_or_none count)) items
lasting_units leads unit scope c (ConnectionItem to ∷ items) = lasting_then (connect leads to) (λ x. lasting_units leads unit scope (connected_to c x) items)

first_false : (a b : Bool) → (a || b) ≡ false → a ≡ false
first_false true b h = h
first_false false b h = refl

rest_false : (a b : Bool) → (a || b) ≡ false → b ≡ false
rest_false true b h = absurd (grind arith)
rest_false false b h = h

-- a call gives no Continue
lasting_activation : (args : List Value) (m : Run Trees Flow) → Lasting (activation args m)
lasting_activation args m = record { by = λ s. result (m (enter args s)).result }
  where
    result : (r : Result Flow) → Lasts (result_of r)
    result (Done (Return v)) = tt
    result (Done (Normal d)) = tt
    result (Done (Gives v)) = tt
    result (Done NoValue) = tt
    result (Done Break) = tt
    result (Done O.Continue) = tt
    result (Stopped x) = tt

pub lasting_call : (width : Width) (known : Known) (turns depth : ℕ) (path : AbsolutePath) (args : List Value) → Lasting (call_method width known turns depth path args)
lasting_call width known turns zero path args = lasting_stop Unfinished
lasting_call width known turns (suc depth) path args = lasting_then (body_at path) (λ body. lasting_activation args (S.run_all width known turns (call_method width known turns depth) body path false))

module _ (width : Width) (known : Known) (turns : ℕ) (call : AbsolutePath → List Value → Run Trees Flow) (calls : (path : AbsolutePath) (args : List Value) → Lasting (call path args)) where
  lasting_use : (path : AbsolutePath) (object : Object) (args : List Value) → Lasting (use_object width call path object args)
  lasting_use path (MethodObject flags) args = calls path args
  lasting_use path (ExternalObject (ExternalMethod arity)) args = lasting_given (act (ask (Objects.Call path args)))
  lasting_use path (ExternalObject (ExternalData type)) args = lasting_given (act (object_value width path (ExternalObject (ExternalData type))))
  lasting_use path (ExternalObject (ExternalOther type)) args = lasting_given (act (object_value width path (ExternalObject (ExternalOther type))))
  lasting_use path object args = lasting_given (act (object_value width path object))

  lasting_plain : (op : Plain) (ops : Run Trees (List Operand)) (into : List Value → Run Trees (Unit {0})) → Lasting (S.apply_with width op ops into)
  lasting_plain op ops into = lasting_then ops (λ os. lasting_then (act (act_of op width os)) (λ rs. lasting_value (into rs) (λ u. last_of rs) (λ u. last_lasts rs)))

  lasting_operate : (op : Plain) (ops : Run Trees (List Operand)) (spot : Run Trees Spot) → Lasting (S.apply_with width op ops (store_last width (row_of op).targets spot))
  lasting_operate op ops spot = lasting_plain op ops (store_last width (row_of op).targets spot)

  lasting_assigned : (o : Option Plain) (ops : List Letter → Run Trees (List Operand)) (value : Run Trees Value) (spot : Run Trees Spot) → Lasting (S.assign_with width o ops value spot)
  lasting_assigned (Some op) ops value spot = lasting_operate op (ops (row_of op).operands) spot
  lasting_assigned None ops value spot = lasting_plain (Plain.Data DataOp.Store) (then_run value (λ v. then_run spot (λ p. done (OfValue v ∷ OfSpot p ∷ [])))) (λ rs. done tt)

  lasting_flow : (f : Flow) {go : Bool → Run Trees Flow} → NoContinue f → ((d : Bool) → Lasting (go d)) → Lasting (on_flow f go)
  lasting_flow (Normal d) p h = h d
  lasting_flow (Gives v) p h = h false
  lasting_flow NoValue p h = h false
  lasting_flow Break p h = lasting_done Break tt
  lasting_flow O.Continue p h = absurd p
  lasting_flow (Return v) p h = lasting_done (Return v) tt

  lasting_first : {m : Run Trees Flow} {go : Bool → Run Trees Flow} → Lasting m → ((d : Bool) → Lasting (go d)) → Lasting (then_run m (λ f. on_flow f go))
  lasting_first {m = m} {go = go} hm h = record { by = λ s. by_result (m s).result (m s).state (hm.by s) }
    where
      by_result : (r : Result Flow) (t : State Trees) → Lasts r → Lasts (next r t (λ f. on_flow f go)).result
      by_result (Done f) t p = (lasting_flow f p h).by t
      by_result (Stopped x) t p = tt

  abbrev V : Tree → AbsolutePath → Run Trees Value
  V t scope = then_run (S.run width known turns call t scope false) value_of

  abbrev N : Tree → AbsolutePath → Run Trees ℕ
  N t scope = S.size_by width known (S.run width known turns call t scope false)

  abbrev P : Tree → AbsolutePath → Run Trees Spot
  P t scope = S.spot width known turns call t scope

  abbrev Ops : List Letter → Trees → AbsolutePath → Run Trees (List Operand)
  Ops letters ts scope = S.operands width known turns call letters ts scope

  mutual
    pub lasting : (t : Tree) → has_continue t ≡ false → (scope : AbsolutePath) (due : Bool) → Lasting (S.run width known turns call t scope due)
    lasting (Integer number) h scope due = lasting_done (Gives _) tt
    lasting (Constant literal) h scope due = lasting_done (Gives _) tt
    lasting (String text) h scope due = lasting_done (Gives _) tt
    lasting (InSlot slot) h scope due = lasting_then (act (slot_here slot)) (λ place. lasting_given (act (read width place)))
    lasting (Use at name) h scope due = lasting_then (S.found known name scope) (λ e. lasting_use e.0 e.1 [])
    lasting (Call at name args) h scope due = lasting_then (S.found known name scope) (λ e. lasting_then (S.values width known turns call args scope) (λ vs. lasting_if (is_method e.1 && nat_eq (operand_count e.1) (length vs)) (lasting_use e.0 e.1 vs) (lasting_stop (Faulted WrongType))))
    lasting (Apply op args targets) h scope due = lasting_plain op (Ops (row_of op).operands args scope) (λ rs. S.store_all width known turns call targets rs scope)
    lasting (Operated op args) h scope due = lasting_operate op (Ops (row_of op).operands args scope) (done Nowhere)
    lasting (Assigned target value) h scope due = lasting_assigned (target_operator value) (λ letters. S.inner_operands width known turns call letters value scope) (V value scope) (P target scope)
    lasting (AssignedBy op target value) h scope due = lasting_operate (compound_operator op) (two_values (V target scope) (V value scope)) (P target scope)
    lasting (Buffer size bytes) h scope due = lasting_then (N size scope) (λ n. lasting_given (act (computed (buffer_of n bytes))))
    lasting (Package count elements) h scope due = lasting_then (S.elements width known turns call elements scope) (λ es. lasting_given (act (computed (package_of count es))))
    lasting (VarPackage count elements) h scope due = lasting_then (N count scope) (λ n. lasting_then (S.elements width known turns call elements scope) (λ es. lasting_given (act (computed (package_of n es)))))
    lasting (CondRefOf place target) h scope due = lasting_then (S.cond_by width known place (P place scope) scope) (λ o. lasting_then (P target scope) (λ t. lasting_given (act (cond_ref_of width o t))))
    lasting (T.Return value) h scope due = lasting_value (V value scope) (λ v. Return v) (λ v. tt)
    lasting (Name at name value) h scope due = lasting_then (V value scope) (λ v. lasting_then (create (declared_path name scope) DataObject) (λ u. lasting_normal (act (write_named (declared_path name scope) v))))
    lasting (Alias from source at name) h scope due = lasting_then (S.found known source scope) (λ e. lasting_normal (create (declared_path name scope) (AliasObject e.0)))
    lasting (External here at name type parameters) h scope due = lasting_done (Normal false) tt
    lasting (Method at name flags body) h scope due = lasting_then (create (declared_path name scope) (MethodObject flags)) (λ u. lasting_normal (keep_body (declared_path name scope) body))
    lasting (Mutex at name level) h scope due = lasting_normal (create (declared_path name scope) (MutexObject level))
    lasting (Event at name) h scope due = lasting_normal (create (declared_path name scope) EventObject)
    lasting (Container' kind at name body) h scope due = lasting_then (create (declared_path name scope) (ContainerObject kind)) (λ u. lasting_all body h (declared_path name scope) false)
    lasting (Scope here at name body) h scope due = lasting_then (S.find known name scope) (λ path. lasting_all body h path false)
    lasting (If test body) h scope due = lasting_then (N test scope) (λ n. lasting_if (is_true n) (lasting_all body h scope false) (lasting_done (Normal true) tt))
    lasting (ElseIf test body) h scope due = lasting_if due (lasting_then (N test scope) (λ n. lasting_if (is_true n) (lasting_all body h scope false) (lasting_done (Normal true) tt))) (lasting_done (Normal false) tt)
    lasting (Else body) h scope due = lasting_if due (lasting_all body h scope false) (lasting_done (Normal false) tt)
    lasting (While test body) h scope due = lasting_loop turns (then_run (N test scope) (λ n. done (is_true n, tt))) (λ u. S.run_all width known turns call body scope false)
    lasting (Switch value cases) h scope due = lasting_then (V value scope) (λ v. lasting_left (lasting_cases cases h v scope (lasting_default cases h scope)))
    lasting (For start test step body) h scope due =
        lasting_then (unless_omitted start (S.run width known turns call start scope false)) (λ f. lasting_loop turns (then_run (N test scope) (λ n. done (is_true n, tt)))
        (λ u. then_run (S.run_all width known turns call body scope false) (λ f. then_step f (unless_omitted step (S.run width known turns call step scope false)))))
    lasting (Print place format args) h scope due =
        lasting_then (S.filled width known turns call (cut format).1 args scope) (λ rest. lasting_then (P place scope) (λ p. lasting_normal (act (store width p (Data (V'.String ((cut format).0 ++ rest)))))))
    lasting (Case value body) h scope due = lasting_stop Broken
    lasting (Default body) h scope due = lasting_stop Broken
    lasting T.Break h scope due = lasting_done Break tt
    lasting Continue h scope due = absurd (grind arith)
    lasting (OperationRegion at name space args) h scope due = lasting_then (Ops region_letters args scope) (λ os. lasting_then (act (region_extent width os)) (λ e. lasting_normal (create (declared_path name scope) (RegionObject space e.0 e.1))))
    lasting (Field here from region flags items) h scope due = lasting_then (S.region_at known region scope) (λ r. lasting_units (λ name. S.region_at known name scope) (InRegion r) scope (first_unit flags) items)
    lasting (IndexField here from index to register flags items) h scope due = lasting_then (S.register_at known index scope) (λ i. lasting_then (S.register_at known register scope) (λ r. lasting_units (λ name. S.region_at known name scope) (BehindIndex i r) scope (first_unit flags) items))
    lasting (BankField here from region to bank value flags items) h scope due = lasting_then (S.region_at known region scope) (λ r. lasting_then (S.register_at known bank scope) (λ b. lasting_then (N value scope) (λ n. lasting_units (λ name. S.region_at known name scope) (InBank r b n) scope (first_unit flags) items)))
    lasting (CreateField form args at name) h scope due = lasting_then (Ops (field_letters form) args scope) (λ os. lasting_then (act (new_field width form os)) (λ made. lasting_then (create (declared_path name scope) (BufferFieldObject made.0)) (λ u. lasting_normal (act (keep_own (declared_path name scope) made.0.source made.1)))))
    lasting Debug h scope due = lasting_stop (Faulted WrongType)
    lasting Omitted h scope due = lasting_stop Broken
    lasting (Raw size number) h scope due = lasting_stop Broken
    lasting (Item item) h scope due = lasting_stop Broken
    lasting (Fill bytes) h scope due = lasting_stop Broken
    lasting Misshapen h scope due = lasting_stop Broken

    pub lasting_cases : (ts : Trees) → have_continue ts ≡ false → (v : Value) (scope : AbsolutePath) {otherwise : Run Trees Flow} → Lasting otherwise → Lasting (S.run_cases width known turns call ts v scope otherwise)
    lasting_cases no_trees h v scope o = o
    lasting_cases (tree (Case value body) ts) h v scope o =
        lasting_then (S.hits width known turns call value (S.equals width known v (V value scope)) v scope) (λ hit. lasting_if hit (lasting_all body (first_false (have_continue body) (have_continue ts) h) scope false) (lasting_cases ts (rest_false (have_continue body) (have_continue ts) h) v scope o))
    lasting_cases (tree t ts) h v scope o = lasting_cases ts (rest_false (has_continue t) (have_continue ts) h) v scope o

    pub lasting_default : (ts : Trees) → have_continue ts ≡ false → (scope : AbsolutePath) → Lasting (S.run_default width known turns call ts scope)
    lasting_default no_trees h scope = lasting_done (Normal false) tt
    lasting_default (tree (Default body) ts) h scope = lasting_all body (first_false (have_continue body) (have_continue ts) h) scope false
    lasting_default (tree t ts) h scope = lasting_default ts (rest_false (has_continue t) (have_continue ts) h) scope

    pub lasting_all : (ts : Trees) → have_continue ts ≡ false → (scope : AbsolutePath) (due : Bool) → Lasting (S.run_all width known turns call ts scope due)
    lasting_all no_trees h scope due = lasting_done (Normal false) tt
    lasting_all (tree t ts) h scope due = lasting_first (lasting t (first_false (has_continue t) (have_continue ts) h) scope due) (λ d. lasting_all ts (rest_false (has_continue t) (have_continue ts) h) scope d)
