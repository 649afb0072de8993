-- A program does the same with its names spelled: no name denotes another path.
use Rattle.std.proofs.Common.{◌≡◌, ℕ, zero, suc, Bool, true, false, List, [], ◌∷◌, ◌++◌, length, Option, Some, None, refl, sym, ap, subst, arith}
use Rattle.std.specs.Prelude.{if◌then◌else◌, nat_eq, ◌&&◌}
use Rattle.acpi_values.specs.declared.width.Width.{Width}
use Rattle.acpi_values.specs.declared.operator.Plain.{Plain}
use Rattle.acpi_values.specs.declared.fault.Fault.TheVariants.{WrongType}
use Rattle.acpi_values.specs.Paths.{AbsolutePath}
use Rattle.acpi_values.specs.Values as V
use Rattle.acpi_values.specs.Values.{Value, Data, Reference, Elements, no_elements, element, Place, Named}
use Rattle.acpi_values.specs.Operators.{Letter, Valued, Kept, Placed, Used, row_of}
use Rattle.acpi_values.specs.Operators as L
use Rattle.acpi_values.specs.Integers.{wrapped}
use Rattle.acpi_state.specs.Objects.{Object, DataObject, MethodObject, ContainerObject, MutexObject, EventObject, AliasObject, Names, operand_count, is_method, root_objects, UnitObject}
use Rattle.acpi_state.specs.Finds.{object_at, first_there, reached, reach}
use Rattle.acpi_state.specs.Uses.{use_object, call_written}
use Rattle.acpi_state.specs.Sessions.{Request}
use Rattle.acpi_state.specs.Outcomes.{Flow, Normal, Gives, Unfinished, Run, done, fault, then_run, act, choose, value_of, on_flow}
use Rattle.acpi_state.specs.Outcomes as O
use Rattle.acpi_state.specs.Loops.{is_true}
use Rattle.acpi_state.specs.Actions.{computed, write_named}
use Rattle.acpi_state.specs.Activations.{create}
use Rattle.acpi_state.specs.Stores.{Spot, Nowhere, DebugObject, At, read, store}
use Rattle.acpi_state.specs.Acts.{Operand, OfValue, OfKept, OfSpot, OfNumber, number_of, act_of, last_of}
use Rattle.acpi_state.specs.FieldUnits.{ToObject, ToResource, Extent, FieldUnit, InRegion, InBank, BehindIndex}
use Rattle.acpi_state.specs.Registers.{register_of}
use Rattle.acpi_state.specs.FieldActs.{region_letters, field_letters}
use Rattle.asl_tree.specs.FieldItems.{FieldItem, UnitItem, SkipItem, OffsetItem, AccessItem, ConnectionItem, Connected, ToName, ToBytes}
use Rattle.asl_meaning.specs.FieldTerms.{Cursor, first_unit, behind_bits, at_byte, accessed, length_or_none, connected_to, resource_of, connect, create_units}
use Rattle.acpi_state.specs.Forms.{buffer_of, package_of, slot_here, if_data, spot_in, cond_ref_of}
use Rattle.acpi_state.proofs.Readings.{Any, EndsExpression, same_stop}
use Rattle.asl_tree.specs.declared.path.Path.{Path}
use Rattle.asl_tree.specs.Literals.{literal_number}
use Rattle.asl_tree.specs.Names.{Known, is_known, declared_path, denoted, element_path}
use Rattle.asl_meaning.specs.Declarations.{ExternalType}
use Rattle.asl_tree.specs.Tree.{Tree, Integer, Constant, String, InSlot, Debug, Omitted, Raw, Use, Call, Apply, Buffer, Package, VarPackage, CondRefOf, Return, Name, Alias, External, Method, Mutex, Event, Container', Scope, Fill, Misshapen}
use Rattle.asl_tree.specs.Tree.{Operated, Assigned, AssignedBy, Trees, no_trees, tree, OperationRegion, Field, IndexField, BankField, CreateField, UnitName, If, ElseIf, Else, While, Break, Continue, Item, Switch, Case, Default, For, Print}
use Rattle.asl_meaning.specs.Meaning as S
use Rattle.asl_meaning.specs.Meaning.{SourceRun, SpotForm, OfResult, OfInside, NoSpot, spot_form}
use Rattle.asl_meaning.specs.SourceSession.{source_session}
use Rattle.asl_meaning.proofs.Agreements.{Has, Reading, AreNamed, right_state, IsFine, Agree, agree_done, agree_fault, agree_then, agree_to, agree_value, agree_on_flow, agree_act, agree_given, agree_create, agree_keep, agree_body, agree_existing, agree_look, agree_use, agree_activation, agree_region, agree_buffer_field, agree_if, agree_loop}
use Rattle.asl_meaning.proofs.SameSessions.{same_session}
use Rattle.aml_sessions.specs.Ready.{is_expression, SpotReady}
use Rattle.aml_sessions.proofs.Steps.{EndsAs, as_expression, last_ends}
use Rattle.acpi_names.specs.Shortest.{spelled_use}
use Rattle.acpi_names.proofs.Shortest.{use_denotes, element_same}
use Rattle.acpi_names.specs.Spelled.{inner_scope, element_spelled, connected_spelled, items_spelled, spelled, spelled_all, spelled_elements}
use Rattle.named_sessions.specs.Shaped.{LetterShaped, ElementShaped, IsShaped, IsShapedSpot, IsShapedAlone, AreShapedOperands, AreShapedSpots, AreShapedValues, AreShapedElements, AreShaped}

module _ (shorten : Bool) (also : AbsolutePath → Bool) (width : Width) (says : AbsolutePath → ExternalType → ExternalType) (known : Known) where
  -- the other side keeps bodies with their names spelled
  abbrev with_spelled : Reading Trees
  with_spelled = record { IsNamed = λ path object. Unit {0}; convert = λ path body. spelled_all shorten also (is_known known) says body path; Kept = λ path body. AreShaped body }

  abbrev Alike : {A C : Type 0} → (A → Type 0) → (A → C) → Run Trees A → Run Trees C → Type 0
  Alike P c m m' = Agree with_spelled P c m m'

  has_any : {A : Type 0} (o : Option A) → Has Any o
  has_any None = tt
  has_any (Some a) = tt

  abbrev there : Option AbsolutePath → Names → Option AbsolutePath
  there o names = choose o None (λ path. first_there names (path ∷ []))

  -- where a name is found, it is found for the spelled name, and it is what the name denotes
  alike_find : (short : Bool) (name : Path) (scope : AbsolutePath) → Alike (λ path. path ≡ inner_scope (is_known known) name scope) (λ path. path) (S.find known name scope) (S.find known (spelled_use also (is_known known) short name scope) scope)
  alike_find short name scope =
      agree_existing with_spelled (λ path. path ≡ inner_scope (is_known known) name scope) (there (denoted (is_known known) name scope)) (there (denoted (is_known known) (spelled_use also (is_known known) short name scope) scope))
      (λ names h. (ap (λ o. there o names) (sym (use_denotes also (is_known known) short name scope)), is_denoted names (denoted (is_known known) name scope)))
    where
      is_denoted : (names : Names) (o : Option AbsolutePath) → Has (λ path. path ≡ choose o [] (λ path. path)) (there o names)
      is_denoted names None = tt
      is_denoted names (Some path) = by_object (object_at names path)
        where
          by_object : (q : Option Object) → Has (λ p. p ≡ path) (choose q None (λ object. Some path))
          by_object None = tt
          by_object (Some object) = refl

  alike_reach : (path : AbsolutePath) → Alike Any (λ found. found) (reach path) (reach path)
  alike_reach path = agree_existing with_spelled Any (λ names. reached names path) (λ names. reached names path) (λ names h. (refl, has_any _))

  alike_found : (name : Path) (scope : AbsolutePath) → Alike Any (λ e. e) (S.found known name scope) (S.found known (spelled_use also (is_known known) shorten name scope) scope)
  alike_found name scope = agree_then with_spelled Any (λ e. e) _ (alike_find shorten name scope) (λ path is. alike_reach path)

  alike_sought : (name : Path) (scope : AbsolutePath) → Alike Any (λ o. o) (S.sought known name scope) (S.sought known (spelled_use also (is_known known) shorten name scope) scope)
  alike_sought name scope =
      agree_look with_spelled Any (λ names. choose (there (denoted (is_known known) name scope) names) None (reached names)) (λ names. choose (there (denoted (is_known known) (spelled_use also (is_known known) shorten name scope) scope) names) None (reached names))
      (λ names h. (ap (λ o. choose (there o names) None (reached names)) (sym (use_denotes also (is_known known) shorten name scope)), tt))

  -- a call as it is written does the same
  alike_written : (call call' : AbsolutePath → List Value → Run Trees Flow) → ((path : AbsolutePath) (args : List Value) → Alike EndsExpression (λ f. f) (call path args) (call' path args)) → (path : AbsolutePath) (object : Object) (args : List Value) → Alike EndsExpression (λ f. f) (call_written width call path object args) (call_written width call' path object args)
  alike_written call call' calls path object args = by_count (is_method object && nat_eq (operand_count object) (length args))
    where
      by_count : (c : Bool) → Alike EndsExpression (λ f. f) (if c then use_object width call path object args else fault WrongType) (if c then use_object width call' path object args else fault WrongType)
      by_count true = agree_use with_spelled width call call' calls path object args
      by_count false = agree_fault with_spelled EndsExpression (λ f. f) WrongType

  alike_value : (b : Bool) (m m' : SourceRun Flow) → b ≡ true → Alike (EndsAs b) (λ f. f) m m' → Alike Any (λ v. v) (then_run m value_of) (then_run m' value_of)
  alike_value b m m' e h = agree_then with_spelled Any (λ v. v) _ h (λ f ends. agree_value with_spelled f (as_expression b f e ends))

  alike_size : (m m' : SourceRun Flow) → Alike Any (λ v. v) (then_run m value_of) (then_run m' value_of) → Alike Any (λ n. n) (S.size_by width known m) (S.size_by width known m')
  alike_size m m' h = agree_then with_spelled Any (λ n. n) _ h (λ v any. agree_act with_spelled (number_of width v))

  alike_named_place : (name : Path) (scope : AbsolutePath) → Alike Any (λ o. o) (S.place_of_name width known name scope) (S.place_of_name width known (spelled_use also (is_known known) shorten name scope) scope)
  alike_named_place name scope =
      agree_then with_spelled Any (λ o. o) _ (alike_found name scope) (λ e any. agree_done with_spelled Any (λ o. o) (if_data e.1 (Some (Named e.0)) None) tt)

  alike_place : (t : Tree) (scope : AbsolutePath) → Alike Any (λ o. o) (S.place_by width known t scope) (S.place_by width known (spelled shorten also (is_known known) says t scope) scope)
  alike_place (InSlot slot) scope =
      agree_then with_spelled Any (λ o. o) _ (agree_act with_spelled (slot_here slot)) (λ place any. agree_done with_spelled Any (λ o. o) (Some place) tt)
  alike_place (Use at name) scope = alike_named_place name scope
  alike_place (Call at name args) scope = alike_named_place name scope
  alike_place _ scope = agree_done with_spelled Any (λ o. o) None tt

  -- an operand as its letter asks
  alike_letter : (letter : Letter) (t : Tree) (scope : AbsolutePath) (m m' : SourceRun Flow) (spot spot' : SourceRun Spot) →
      LetterShaped letter t ((is_expression t ≡ true) × IsShaped t) (IsShapedSpot t) →
      ((is_expression t ≡ true) × IsShaped t → Alike Any (λ v. v) (then_run m value_of) (then_run m' value_of)) →
      (IsShapedSpot t → Alike Any (λ p. p) spot spot') →
      Alike Any (λ o. o) (S.operand_by width known letter t m spot scope) (S.operand_by width known letter (spelled shorten also (is_known known) says t scope) m' spot' scope)
  alike_letter Valued t scope m m' spot spot' shaped hv hs = agree_then with_spelled Any (λ o. o) _ (hv shaped) (λ v any. agree_done with_spelled Any (λ o. o) (OfValue v) tt)
  alike_letter Kept t scope m m' spot spot' shaped hv hs =
      agree_then with_spelled Any (λ o. o) _ (alike_place t scope)
      (λ place any. agree_then with_spelled Any (λ o. o) _ (hv shaped) (λ v any. agree_done with_spelled Any (λ o. o) (OfKept place v) tt))
  alike_letter Placed t scope m m' spot spot' shaped hv hs = agree_then with_spelled Any (λ o. o) _ (hs shaped) (λ p any. agree_done with_spelled Any (λ o. o) (OfSpot p) tt)
  alike_letter Used (Use at name) scope m m' spot spot' shaped hv hs =
      agree_then with_spelled Any (λ o. o) _ (alike_found name scope) (λ e any. agree_done with_spelled Any (λ o. o) (OfSpot (At (Named e.0))) tt)
  alike_letter Used _ scope m m' spot spot' shaped hv hs = absurd shaped
  alike_letter (L.Raw size) (Raw other number) scope m m' spot spot' shaped hv hs = agree_done with_spelled Any (λ o. o) (OfNumber number) tt
  alike_letter (L.Raw size) _ scope m m' spot spot' shaped hv hs = absurd shaped

  alike_spot_form : (form : SpotForm) (R I : Type 0) (result result' : SourceRun Flow) (inside inside' : SourceRun Value) → SpotReady form R I →
      (R → Alike EndsExpression (λ f. f) result result') → (I → Alike Any (λ v. v) inside inside') → Alike Any (λ p. p) (S.spot_by width known form result inside) (S.spot_by width known form result' inside')
  alike_spot_form OfResult R I result result' inside inside' shaped hr hi =
      agree_then with_spelled Any (λ p. p) _ (alike_value true result result' refl (hr shaped)) (λ v any. agree_act with_spelled (spot_in v))
  alike_spot_form OfInside R I result result' inside inside' shaped hr hi = agree_then with_spelled Any (λ p. p) _ (hi shaped) (λ v any. agree_act with_spelled (spot_in v))
  alike_spot_form NoSpot R I result result' inside inside' shaped hr hi = absurd shaped

  alike_plain : (op : Plain) (ops ops' : SourceRun (List Operand)) (into into' : List Value → SourceRun (Unit {0})) → Alike Any (λ os. os) ops ops' → ((rs : List Value) → Alike Any (λ u. u) (into rs) (into' rs)) → Alike EndsExpression (λ f. f) (S.apply_with width op ops into) (S.apply_with width op ops' into')
  alike_plain op ops ops' into into' ho ht =
      agree_then with_spelled EndsExpression (λ f. f) _ ho
      (λ os any. agree_then with_spelled EndsExpression (λ f. f) _ (agree_act with_spelled (act_of op width os))
      (λ rs any. agree_then with_spelled EndsExpression (λ f. f) _ (ht rs) (λ u any. agree_done with_spelled EndsExpression (λ f. f) (last_of rs) (last_ends rs))))

  alike_cond : (t : Tree) (scope : AbsolutePath) (spot spot' : SourceRun Spot) → IsShapedSpot t → Alike Any (λ p. p) spot spot' → Alike Any (λ o. o) (S.cond_by width known t spot scope) (S.cond_by width known (spelled shorten also (is_known known) says t scope) spot' scope)
  alike_cond (Use at name) scope spot spot' shaped h =
      agree_then with_spelled Any (λ o. o) _ (alike_sought name scope) (λ o any. agree_done with_spelled Any (λ o. o) (choose o None (λ e. Some (At (Named e.0)))) tt)
  alike_cond Omitted scope spot spot' shaped h = agree_then with_spelled Any (λ o. o) _ h (λ p any. agree_done with_spelled Any (λ o. o) (Some p) tt)
  alike_cond Debug scope spot spot' shaped h = agree_then with_spelled Any (λ o. o) _ h (λ p any. agree_done with_spelled Any (λ o. o) (Some p) tt)
  alike_cond (InSlot slot) scope spot spot' shaped h = agree_then with_spelled Any (λ o. o) _ h (λ p any. agree_done with_spelled Any (λ o. o) (Some p) tt)
  alike_cond (Apply op args targets) scope spot spot' shaped h = agree_then with_spelled Any (λ o. o) _ h (λ p any. agree_done with_spelled Any (λ o. o) (Some p) tt)
  alike_cond (Operated op args) scope spot spot' shaped h = absurd shaped.0
  alike_cond _ scope spot spot' shaped h = absurd shaped

  -- an element of a Package
  abbrev element_of : Tree → AbsolutePath → Tree
  element_of t scope = element_spelled shorten (is_known known) t (spelled shorten also (is_known known) says t scope) scope

  alike_element : (t : Tree) (scope : AbsolutePath) (m : SourceRun Flow) (run' : Tree → SourceRun Flow) → ElementShaped t (IsShaped t) → (is_expression t ≡ true → IsShaped t → Alike Any (λ v. v) (then_run m value_of) (then_run (run' (spelled shorten also (is_known known) says t scope)) value_of)) →
      Alike Any (λ v. v) (S.element_by width known t m scope) (S.element_by width known (element_of t scope) (run' (element_of t scope)) scope)
  alike_element (Use at name) scope m run' shaped h =
      agree_to with_spelled (ap (λ p. done (Reference (Named p))) (element_same (is_known known) shorten name scope)) (agree_done with_spelled Any (λ v. v) (Reference (Named (element_path (is_known known) name scope))) tt)
  alike_element (Integer number) scope m run' shaped h = h refl shaped.1
  alike_element (Constant literal) scope m run' shaped h = h refl shaped.1
  alike_element (String text) scope m run' shaped h = h refl shaped.1
  alike_element (Buffer size bytes) scope m run' shaped h = h refl shaped.1
  alike_element (Package n elements) scope m run' shaped h = h refl shaped.1
  alike_element (VarPackage size elements) scope m run' shaped h = h refl shaped.1
  alike_element t scope m run' shaped h = absurd (grind arith)

  alike_region_at : (name : Path) (scope : AbsolutePath) → Alike Any (λ p. p) (S.region_at known name scope) (S.region_at known (spelled_use also (is_known known) shorten name scope) scope)
  alike_region_at name scope = agree_then with_spelled Any (λ p. p) _ (alike_found name scope) (λ e any. agree_done with_spelled Any (λ p. p) e.0 tt)

  alike_register_at : (name : Path) (scope : AbsolutePath) → Alike Any (λ u. u) (S.register_at known name scope) (S.register_at known (spelled_use also (is_known known) shorten name scope) scope)
  alike_register_at name scope = agree_then with_spelled Any (λ u. u) _ (alike_found name scope) (λ e any. agree_act with_spelled (register_of e))

  abbrev leads : AbsolutePath → Path → SourceRun AbsolutePath
  leads scope name = S.region_at known name scope

  alike_connect : (to : Connected) (scope : AbsolutePath) → Alike Any (λ x. x) (connect (leads scope) to) (connect (leads scope) (connected_spelled shorten also (is_known known) to scope))
  alike_connect (ToName at name) scope = agree_then with_spelled Any (λ x. x) _ (alike_region_at name scope) (λ path any. agree_done with_spelled Any (λ x. x) (ToObject path) tt)
  alike_connect (ToBytes bytes) scope = agree_then with_spelled Any (λ x. x) _ (agree_act with_spelled (resource_of (length bytes) bytes)) (λ bytes any. agree_done with_spelled Any (λ x. x) (ToResource bytes) tt)

  alike_units : (unit : Extent → FieldUnit) (scope : AbsolutePath) (c : Cursor) (items : List (FieldItem UnitName)) →
      Alike Any (λ f. f) (create_units (leads scope) unit scope c items) (create_units (leads scope) unit scope c (items_spelled shorten also (is_known known) items scope))
  alike_units unit scope c [] = agree_done with_spelled Any (λ f. f) (Normal false) tt
  alike_units unit scope c (UnitItem name bits ∷ items) =
      agree_then with_spelled Any (λ f. f) _ (agree_create with_spelled (name.segment ∷ scope) (UnitObject (unit (record { at = c.at; bits = bits; flags = c.flags; link = c.link }))) tt) (λ u any. alike_units unit scope (behind_bits c bits) items)
  alike_units unit scope c (SkipItem bits ∷ items) = alike_units unit scope (behind_bits c bits) items
  alike_units unit scope c (OffsetItem bytes ∷ items) = alike_units unit scope (at_byte c bytes) items
  alike_units unit scope c (AccessItem access attribute length ∷ items) = alike_units unit scope (accessed c access attribute (length_or_none length)) items
  alike_units unit scope c (ConnectionItem to ∷ items) = agree_then with_spelled Any (λ f. f) _ (alike_connect to scope) (λ x any. alike_units unit scope (connected_to c x) items)

module _ (shorten : Bool) (also : AbsolutePath → Bool) (width : Width) (says : AbsolutePath → ExternalType → ExternalType) (known : Known) (turns : ℕ) (call call' : AbsolutePath → List Value → Run Trees Flow) (calls : (path : AbsolutePath) (args : List Value) → Alike shorten also width says known EndsExpression (λ f. f) (call path args) (call' path args)) where
  abbrev G : Reading Trees
  G = with_spelled shorten also width says known

  abbrev has : AbsolutePath → Bool
  has = is_known known

  abbrev R : Tree → AbsolutePath → SourceRun Flow
  R t scope = S.run width known turns call t scope false

  abbrev R' : Tree → AbsolutePath → SourceRun Flow
  R' t scope = S.run width known turns call' (spelled shorten also has says t scope) scope false

  abbrev P : Tree → AbsolutePath → SourceRun Spot
  P t scope = S.spot width known turns call t scope

  abbrev P' : Tree → AbsolutePath → SourceRun Spot
  P' t scope = S.spot width known turns call' (spelled shorten also has says t scope) scope

  alike_created : (path : AbsolutePath) (object : Object) → Alike shorten also width says known Any (λ f. f) (then_run (create path object) (λ u. done (Normal false))) (then_run (create path object) (λ u. done (Normal false)))
  alike_created path object = agree_then G Any (λ f. f) (λ u. done (Normal false)) (agree_create G path object tt) (λ u any. agree_done G Any (λ f. f) (Normal false) tt)

  mutual
    alike : (t : Tree) (scope : AbsolutePath) (due : Bool) → IsShaped t → Alike shorten also width says known (EndsAs (is_expression t)) (λ f. f) (S.run width known turns call t scope due) (S.run width known turns call' (spelled shorten also has says t scope) scope due)
    alike (Integer number) scope due h = agree_done G EndsExpression (λ f. f) (Gives (Data (V.Integer (wrapped width number)))) tt
    alike (Constant literal) scope due h = agree_done G EndsExpression (λ f. f) (Gives (Data (V.Integer (literal_number width literal)))) tt
    alike (String text) scope due h = agree_done G EndsExpression (λ f. f) (Gives (Data (V.String text))) tt
    alike (InSlot slot) scope due h = agree_then G EndsExpression (λ f. f) _ (agree_act G (slot_here slot)) (λ place any. agree_given G (read width place))
    alike Debug scope due h = agree_fault G EndsExpression (λ f. f) WrongType
    alike Omitted scope due h = absurd h
    alike (Raw size number) scope due h = absurd h
    alike (Use at name) scope due h =
        agree_then G EndsExpression (λ f. f) _ (alike_found shorten also width says known name scope) (λ e any. agree_use G width call call' calls e.0 e.1 [])
    alike (Call at name args) scope due h =
        agree_then G EndsExpression (λ f. f) _ (alike_found shorten also width says known name scope)
        (λ e any. agree_then G EndsExpression (λ f. f) _ (alike_values args scope h.1) (λ vs any. alike_written shorten also width says known call call' calls e.0 e.1 vs))
    alike (Apply op args targets) scope due h =
        alike_plain shorten also width says known op _ _ _ _ (alike_operands (row_of op).operands args scope h.1) (λ rs. alike_spots targets rs scope h.3)
    alike (Buffer size bytes) scope due h =
        agree_then G EndsExpression (λ f. f) _ (alike_size shorten also width says known _ _ (alike_value shorten also width says known (is_expression size) _ _ h.0 (alike size scope false h.1))) (λ k any. agree_given G (computed (buffer_of k bytes)))
    alike (Package n items) scope due h = agree_then G EndsExpression (λ f. f) _ (alike_elements items scope h.1) (λ es any. agree_given G (computed (package_of n es)))
    alike (VarPackage size items) scope due h =
        agree_then G EndsExpression (λ f. f) _ (alike_size shorten also width says known _ _ (alike_value shorten also width says known (is_expression size) _ _ h.0 (alike size scope false h.1)))
        (λ k any. agree_then G EndsExpression (λ f. f) _ (alike_elements items scope h.2) (λ es any. agree_given G (computed (package_of k es))))
    alike (CondRefOf place target) scope due h =
        agree_then G EndsExpression (λ f. f) _ (alike_cond shorten also width says known place scope _ _ h.0 (alike_spot place scope h.0))
        (λ o any. agree_then G EndsExpression (λ f. f) _ (alike_spot target scope h.1) (λ p any. agree_given G (cond_ref_of width o p)))
    alike (Return value) scope due h =
        agree_then G Any (λ f. f) _ (alike_value shorten also width says known (is_expression value) _ _ h.0 (alike value scope false h.1)) (λ v any. agree_done G Any (λ f. f) (O.Return v) tt)
    alike (Name at name value) scope due h =
        agree_then G Any (λ f. f) _ (alike_value shorten also width says known (is_expression value) _ _ h.1 (alike value scope false h.2))
        (λ v any. agree_then G Any (λ f. f) _ (agree_create G (declared_path name scope) DataObject tt)
        (λ u any. agree_then G Any (λ f. f) (λ u. done (Normal false)) (agree_act G (write_named (declared_path name scope) v)) (λ u any. agree_done G Any (λ f. f) (Normal false) tt)))
    alike (Alias from source at name) scope due h =
        agree_then G Any (λ f. f) _ (alike_found shorten also width says known source scope) (λ e any. alike_created (declared_path name scope) (AliasObject e.0))
    alike (External here at name type parameters) scope due h = agree_done G Any (λ f. f) (Normal false) tt
    alike (Method at name flags body) scope due h =
        agree_then G Any (λ f. f) _ (agree_create G (declared_path name scope) (MethodObject flags) tt)
        (λ u any. agree_then G Any (λ f. f) (λ u. done (Normal false)) (agree_keep G (declared_path name scope) body h.2) (λ u any. agree_done G Any (λ f. f) (Normal false) tt))
    alike (Mutex at name level) scope due h = alike_created (declared_path name scope) (MutexObject level)
    alike (Event at name) scope due h = alike_created (declared_path name scope) EventObject
    alike (Container' kind at name body) scope due h =
        agree_then G Any (λ f. f) _ (agree_create G (declared_path name scope) (ContainerObject kind) tt) (λ u any. alike_all body (declared_path name scope) false h.2)
    alike (Scope here at name body) scope due h =
        agree_then G Any (λ f. f) _ (alike_find shorten also width says known false name scope)
        (λ path is. subst (λ q. Alike shorten also width says known Any (λ f. f) (S.run_all width known turns call body path false) (S.run_all width known turns call' (spelled_all shorten also has says body q) path false)) is (alike_all body path false h.1))
    alike (If test body) scope due h =
        agree_then G Any (λ f. f) _ (alike_size shorten also width says known _ _ (alike_value shorten also width says known (is_expression test) _ _ h.0 (alike test scope false h.1)))
        (λ k any. agree_if G Any (λ f. f) (is_true k) (alike_all body scope false h.2) (agree_done G Any (λ f. f) (Normal true) tt))
    alike (ElseIf test body) scope due h =
        agree_if G Any (λ f. f) due
        (agree_then G Any (λ f. f) _ (alike_size shorten also width says known _ _ (alike_value shorten also width says known (is_expression test) _ _ h.0 (alike test scope false h.1)))
        (λ k any. agree_if G Any (λ f. f) (is_true k) (alike_all body scope false h.2) (agree_done G Any (λ f. f) (Normal true) tt)))
        (agree_done G Any (λ f. f) (Normal false) tt)
    alike (Else body) scope due h = agree_if G Any (λ f. f) due (alike_all body scope false h) (agree_done G Any (λ f. f) (Normal false) tt)
    alike (While test body) scope due h =
        agree_loop G {X = Unit {0}} (λ u. u) turns _ _ _ _
        (agree_then G Any (λ b. b) _ (alike_size shorten also width says known _ _ (alike_value shorten also width says known (is_expression test) _ _ h.0 (alike test scope false h.1))) (λ k any. agree_done G Any (λ b. b) (is_true k, tt) tt))
        (λ u. alike_all body scope false h.2)
    alike Break scope due h = agree_done G Any (λ f. f) O.Break tt
    alike Continue scope due h = agree_done G Any (λ f. f) O.Continue tt
    alike (OperationRegion at name space args) scope due h =
        agree_then G Any (λ f. f) _ (alike_operands region_letters args scope h.2) (λ os any. agree_region G width (declared_path name scope) space os (λ offset size. tt))
    alike (Field here from region flags items) scope due h =
        agree_then G Any (λ f. f) _ (alike_region_at shorten also width says known region scope) (λ r any. alike_units shorten also width says known (InRegion r) scope (first_unit flags) items)
    alike (IndexField here from index to register flags items) scope due h =
        agree_then G Any (λ f. f) _ (alike_register_at shorten also width says known index scope)
        (λ i any. agree_then G Any (λ f. f) _ (alike_register_at shorten also width says known register scope) (λ r any. alike_units shorten also width says known (BehindIndex i r) scope (first_unit flags) items))
    alike (BankField here from region to bank value flags items) scope due h =
        agree_then G Any (λ f. f) _ (alike_region_at shorten also width says known region scope)
        (λ r any. agree_then G Any (λ f. f) _ (alike_register_at shorten also width says known bank scope)
        (λ b any. agree_then G Any (λ f. f) _ (alike_size shorten also width says known _ _ (alike_value shorten also width says known (is_expression value) _ _ h.2 (alike value scope false h.3)))
        (λ k any. alike_units shorten also width says known (InBank r b k) scope (first_unit flags) items)))
    alike (CreateField form args at name) scope due h =
        agree_then G Any (λ f. f) _ (alike_operands (field_letters form) args scope h.0) (λ os any. agree_buffer_field G width form (declared_path name scope) os (λ field. tt))
    alike (Item item) scope due h = absurd h
    alike (Fill bytes) scope due h = absurd h
    alike (Operated op args) scope due h = absurd h.0
    alike (Assigned target value) scope due h = absurd h.0
    alike (AssignedBy op target value) scope due h = absurd h.0
    alike (Switch value cases) scope due h = absurd h.0
    alike (Case value body) scope due h = absurd h
    alike (Default body) scope due h = absurd h
    alike (For start test step body) scope due h = absurd h.0
    alike (Print place format args) scope due h = absurd h.0
    alike Misshapen scope due h = absurd h

    alike_spot : (t : Tree) (scope : AbsolutePath) → IsShapedSpot t → Alike shorten also width says known Any (λ p. p) (P t scope) (P' t scope)
    alike_spot Omitted scope h = agree_done G Any (λ p. p) Nowhere tt
    alike_spot Debug scope h = agree_done G Any (λ p. p) DebugObject tt
    alike_spot (InSlot slot) scope h = agree_then G Any (λ p. p) _ (agree_act G (slot_here slot)) (λ place any. agree_done G Any (λ p. p) (At place) tt)
    alike_spot (Use at name) scope h = agree_then G Any (λ p. p) _ (alike_found shorten also width says known name scope) (λ e any. agree_done G Any (λ p. p) (At (Named e.0)) tt)
    alike_spot (Apply op args targets) scope h =
        alike_spot_form shorten also width says known (spot_form op) _ _ _ _ _ _ h.1
        (λ whole. alike_plain shorten also width says known op _ _ _ _ (alike_operands (row_of op).operands args scope whole.0) (λ rs. alike_spots targets rs scope whole.2))
        (λ alone. alike_alone args targets scope alone)
    alike_spot (Operated op args) scope h = absurd h.0
    alike_spot _ scope h = absurd h

    alike_alone : (args targets : Trees) (scope : AbsolutePath) → IsShapedAlone args targets → Alike shorten also width says known Any (λ v. v) (S.first_value width known turns call args scope) (S.first_value width known turns call' (spelled_all shorten also has says args scope) scope)
    alike_alone (tree t no_trees) no_trees scope h = alike_value shorten also width says known (is_expression t) _ _ h.0 (alike t scope false h.1)
    alike_alone (tree t no_trees) (tree u us) scope h = absurd h
    alike_alone (tree t (tree u us)) targets scope h = absurd h
    alike_alone no_trees targets scope h = absurd h

    alike_operands : (letters : List Letter) (ts : Trees) (scope : AbsolutePath) → AreShapedOperands letters ts → Alike shorten also width says known Any (λ os. os) (S.operands width known turns call letters ts scope) (S.operands width known turns call' letters (spelled_all shorten also has says ts scope) scope)
    alike_operands [] no_trees scope h = agree_done G Any (λ os. os) [] tt
    alike_operands [] (tree t ts) scope h = absurd h
    alike_operands (letter ∷ letters) no_trees scope h = absurd h
    alike_operands (letter ∷ letters) (tree t ts) scope h =
        agree_then G Any (λ os. os) _
        (alike_letter shorten also width says known letter t scope (R t scope) (R' t scope) (P t scope) (P' t scope) h.0
        (λ v. alike_value shorten also width says known (is_expression t) _ _ v.0 (alike t scope false v.1)) (λ p. alike_spot t scope p))
        (λ o any. agree_then G Any (λ os. os) _ (alike_operands letters ts scope h.1) (λ os any. agree_done G Any (λ os. os) (o ∷ os) tt))

    alike_spots : (ts : Trees) (rs : List Value) (scope : AbsolutePath) → AreShapedSpots ts → Alike shorten also width says known Any (λ u. u) (S.store_all width known turns call ts rs scope) (S.store_all width known turns call' (spelled_all shorten also has says ts scope) rs scope)
    alike_spots no_trees rs scope h = agree_done G Any (λ u. u) tt tt
    alike_spots (tree t ts) [] scope h = agree_fault G Any (λ u. u) WrongType
    alike_spots (tree t ts) (r ∷ rs) scope h =
        agree_then G Any (λ u. u) _ (alike_spot t scope h.0) (λ p any. agree_then G Any (λ u. u) _ (agree_act G (store width p r)) (λ u any. alike_spots ts rs scope h.1))

    alike_values : (ts : Trees) (scope : AbsolutePath) → AreShapedValues ts → Alike shorten also width says known Any (λ vs. vs) (S.values width known turns call ts scope) (S.values width known turns call' (spelled_all shorten also has says ts scope) scope)
    alike_values no_trees scope h = agree_done G Any (λ vs. vs) [] tt
    alike_values (tree t ts) scope h =
        agree_then G Any (λ vs. vs) _ (alike_value shorten also width says known (is_expression t) _ _ h.0 (alike t scope false h.1))
        (λ v any. agree_then G Any (λ vs. vs) _ (alike_values ts scope h.2) (λ vs any. agree_done G Any (λ vs. vs) (v ∷ vs) tt))

    alike_elements : (ts : Trees) (scope : AbsolutePath) → AreShapedElements ts → Alike shorten also width says known Any (λ es. es) (S.elements width known turns call ts scope) (S.elements width known turns call' (spelled_elements shorten also has says ts scope) scope)
    alike_elements no_trees scope h = agree_done G Any (λ es. es) no_elements tt
    alike_elements (tree t ts) scope h =
        agree_then G Any (λ es. es) _ (alike_element shorten also width says known t scope (R t scope) (λ t'. S.run width known turns call' t' scope false) h.0 (λ e shaped. alike_value shorten also width says known (is_expression t) (R t scope) (R' t scope) e (alike t scope false shaped)))
        (λ v any. agree_then G Any (λ es. es) _ (alike_elements ts scope h.1) (λ es any. agree_done G Any (λ es. es) (element v es) tt))

    pub alike_all : (ts : Trees) (scope : AbsolutePath) (due : Bool) → AreShaped ts → Alike shorten also width says known Any (λ f. f) (S.run_all width known turns call ts scope due) (S.run_all width known turns call' (spelled_all shorten also has says ts scope) scope due)
    alike_all no_trees scope due h = agree_done G Any (λ f. f) (Normal false) tt
    alike_all (tree t ts) scope due h = agree_then G Any (λ f. f) _ (alike t scope due h.0) (λ f any. agree_on_flow G f _ _ (λ d. alike_all ts scope d h.2))

module _ (shorten : Bool) (also : AbsolutePath → Bool) (width : Width) (says : AbsolutePath → ExternalType → ExternalType) (known : Known) (turns : ℕ) where
  pub alike_call : (depth : ℕ) (path : AbsolutePath) (args : List Value) → Alike shorten also width says known EndsExpression (λ f. f) (S.call_method width known turns depth path args) (S.call_method width known turns depth path args)
  alike_call zero path args = same_stop (λ j. j) (right_state (with_spelled shorten also width says known)) (IsFine (with_spelled shorten also width says known)) EndsExpression (λ f. f) Unfinished tt
  alike_call (suc depth) path args =
      agree_then (with_spelled shorten also width says known) EndsExpression (λ f. f) _ (agree_body (with_spelled shorten also width says known) path)
      (λ body shaped. agree_activation (with_spelled shorten also width says known) args _ _ (alike_all shorten also width says known turns (S.call_method width known turns depth) (S.call_method width known turns depth) (alike_call depth) body path false shaped))

-- the session of a shaped program is that of the program with its names spelled
pub same_source : (shorten : Bool) (also : AbsolutePath → Bool) (width : Width) (says : AbsolutePath → ExternalType → ExternalType) (known : Known) (terms : Trees) → AreShaped terms → (there : Names) (n : ℕ) (answers : List Value) (requests : List Request)
    → source_session width known terms there n answers requests ≡ source_session width known (spelled_all shorten also (is_known known) says terms []) there n answers requests
same_source shorten also width says known terms shaped there n answers requests =
    let calls = alike_call shorten also width says known n n in
    (same_session (with_spelled shorten also width says known) (S.call_method width known n n) (S.call_method width known n n) calls _ _ (alike_all shorten also width says known n (S.call_method width known n n) (S.call_method width known n n) calls terms [] false shaped) there answers requests (any_named (there ++ root_objects))).0
  where
    any_named : (names : Names) → AreNamed (λ path object. Unit {0}) names
    any_named [] = tt
    any_named (entry ∷ entries) = (tt, any_named entries)
