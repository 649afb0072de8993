-- The parts of terms and statements, by the runs that they are put together of.
use Rattle.std.proofs.Common.{◌≡◌, ℕ, zero, suc, Bool, true, false, List, [], ◌∷◌, length, Option, Some, None}
use Rattle.std.specs.Prelude.{if◌then◌else◌, nat_eq, ◌&&◌}
use Rattle.acpi_values.specs.declared.width.Width.{Width}
use Rattle.acpi_values.specs.declared.operator.Plain.{Plain}
use Rattle.acpi_values.specs.declared.operator.IntOp.TheVariants as IntOp
use Rattle.acpi_values.specs.declared.fault.Fault.TheVariants.{WrongType}
use Rattle.acpi_values.specs.Paths.{AbsolutePath}
use Rattle.acpi_values.specs.Values.{Value, Reference, Named}
use Rattle.acpi_values.specs.Operators.{Letter, Valued, Kept, Placed, Used, Row, row_of}
use Rattle.acpi_values.specs.Operators as L
use Rattle.acpi_state.specs.Objects.{Object, DataObject, MethodObject, RegionObject, UnitObject, BufferFieldObject, ExternalObject, ExternalMethod, ExternalData, ExternalOther, Names, operand_count, is_method}
use Rattle.acpi_state.specs.FieldUnits.{ToObject, ToResource, Extent, FieldUnit}
use Rattle.acpi_state.specs.Finds.{first_there, reached, existing}
use Rattle.acpi_state.specs.Outcomes.{Flow, Normal, Gives, NoValue, Break, Continue, Return, Unfinished, Broken, Run, done, stop, then_run, act, choose, value_of, on_flow}
use Rattle.acpi_state.specs.Loops.{is_true, after_turn, loop}
use Rattle.acpi_state.specs.Activations.{create}
use Rattle.acpi_state.specs.BufferFields.{keep_own}
use Rattle.acpi_state.specs.Stores.{Spot, At, store}
use Rattle.acpi_values.specs.Conversions.{to_string}
use Rattle.acpi_state.specs.Actions.{give, and_then}
use Rattle.acpi_state.specs.Acts.{Operand, OfValue, OfKept, OfSpot, OfNumber, data_of, number_of, act_of, last_of}
use Rattle.acpi_state.specs.FieldActs.{region_extent, make_region, FieldForm, new_field, make_buffer_field}
use Rattle.acpi_state.specs.Forms.{Slot, LocalSlot, ArgSlot, slot_here, if_data, object_value, spot_in}
use Rattle.acpi_state.specs.Registers.{register_of}
use Rattle.acpi_state.specs.Uses.{use_object, call_written}
use Rattle.asl_tree.specs.FieldItems.{FieldItem, UnitItem, SkipItem, OffsetItem, AccessItem, ConnectionItem, Connected, ToName, ToBytes}
use Rattle.asl_tree.specs.Names.{Known, is_known, denoted, element_path}
use Rattle.asl_tree.specs.declared.path.Path.{Path}
use Rattle.asl_tree.specs.Tree.{Tree, InSlot, Use, Call, Raw, Trees, UnitName}
use Rattle.asl_meaning.specs.FieldTerms.{Cursor, behind_bits, at_byte, accessed, length_or_none, connected_to, resource_of, connect, create_units}
use Rattle.asl_meaning.specs.Meaning as S
use Rattle.asl_meaning.specs.Meaning.{SourceRun, SpotForm, OfResult, OfInside, NoSpot, store_last}
use Rattle.hidden_locals.specs.Worlds.{World, shown_here, Clear, ClearPlace, ClearAll, ClearOption, ClearSpot, ClearOperand, ClearOperands, ClearFlow, ClearObject, Later}
use Rattle.hidden_locals.specs.Runs.{Reach, From}
use Rattle.hidden_locals.specs.Terms.{IsShownSlot}
use Rattle.hidden_locals.specs.Programs.{CallAlike}
use Rattle.hidden_locals.proofs.Operators.{blind_number, blind_text, blind_act}
use Rattle.hidden_locals.proofs.Stores.{blind_store}
use Rattle.hidden_locals.proofs.Forms as F
use Rattle.hidden_locals.proofs.Worlds.{same_world, later_then, here_later, clear_later, place_later, spot_later, option_later, operands_later, flow_later, source_later}
use Rattle.hidden_locals.proofs.Runs.{Any, from_done, from_stop, from_fault, from_later, from_then, from_if, from_look, from_act, from_everywhere}
use Rattle.hidden_locals.proofs.Calls.{from_create, from_given, from_external}

-- what a plain operator gives is clear
last_clear : (w : World) (vs : List Value) → ClearAll w vs → ClearFlow w (last_of vs)
last_clear w [] h = tt
last_clear w (v ∷ []) h = h.0
last_clear w (v ∷ u ∷ vs) h = last_clear w (u ∷ vs) h.1

module _ (convert : Trees → Trees) (IsKept : Trees → Type 0) (reach : Reach) where
  -- two runs that do the same, with the same result
  abbrev pub Same : (w : World) {A : Type 0} → (World → A → Type 0) → Run Trees A → Run Trees A → Type 0
  Same w P m m' = From convert IsKept reach w P (λ a. a) m m'

  pub same_any : (w : World) {A : Type 0} (a : A) → Same w Any (done a) (done a)
  same_any w a = from_done convert IsKept reach w Any (λ a. a) a (λ w' later. tt)

  -- a term that leaves nothing to keep clear
  pub same_flow : (w : World) (f : Flow) → ((w' : World) → ClearFlow w' f) → Same w ClearFlow (done f) (done f)
  same_flow w f h = from_done convert IsKept reach w ClearFlow (λ f. f) f (λ w' later. h w')

  pub same_broken : (w : World) {A : Type 0} (P : World → A → Type 0) → Same w P (stop Broken) (stop Broken)
  same_broken w P = from_stop convert IsKept reach w P (λ a. a) Broken

  -- the value of an operand
  from_value_of : (w : World) (f : Flow) → ClearFlow w f → Same w Clear (value_of f) (value_of f)
  from_value_of w (Gives v) h = from_done convert IsKept reach w Clear (λ v. v) v (λ w' later. clear_later w w' later.shown v h)
  from_value_of w NoValue h = from_fault convert IsKept reach w Clear (λ v. v) _
  from_value_of w _ h = same_broken w Clear

  pub from_valued : (w : World) {m m' : Run Trees Flow} → Same w ClearFlow m m' → Same w Clear (then_run m value_of) (then_run m' value_of)
  from_valued w h = from_then convert IsKept reach w Clear (λ v. v) value_of h (λ w' later f p. from_value_of w' f p)

  -- what follows a term of a list
  pub from_on_flow : (w : World) (f : Flow) (go go' : Bool → Run Trees Flow) → ClearFlow w f → ((d : Bool) → Same w ClearFlow (go d) (go' d)) → Same w ClearFlow (on_flow f go) (on_flow f go')
  from_on_flow w (Normal due) go go' p h = h due
  from_on_flow w (Gives v) go go' p h = h false
  from_on_flow w NoValue go go' p h = h false
  from_on_flow w Break go go' p h = same_flow w Break (λ w'. tt)
  from_on_flow w Continue go go' p h = same_flow w Continue (λ w'. tt)
  from_on_flow w (Return v) go go' p h = from_done convert IsKept reach w ClearFlow (λ f. f) (Return v) (λ w' later. clear_later w w' later.shown v p)

  pub from_first : (w : World) {m m' : Run Trees Flow} {go go' : Bool → Run Trees Flow} → Same w ClearFlow m m' → ((w' : World) → Later w w' → (d : Bool) → Same w' ClearFlow (go d) (go' d)) → Same w ClearFlow (then_run m (λ f. on_flow f go)) (then_run m' (λ f. on_flow f go'))
  from_first w {go = go} {go' = go'} h k = from_then convert IsKept reach w ClearFlow (λ f. f) (λ f. on_flow f go') h (λ w' later f p. from_on_flow w' f go go' p (k w' later))

  -- loops
  from_after_turn : (w : World) (f : Flow) (m m' : Run Trees Flow) → ClearFlow w f → Same w ClearFlow m m' → Same w ClearFlow (after_turn f m) (after_turn f m')
  from_after_turn w Break m m' p h = same_flow w (Normal false) (λ w'. tt)
  from_after_turn w (Return v) m m' p h = from_done convert IsKept reach w ClearFlow (λ f. f) (Return v) (λ w' later. clear_later w w' later.shown v p)
  from_after_turn w _ m m' p h = h

  pub from_loop : (w : World) (n : ℕ) (test test' : Run Trees (Bool × Unit {0})) (body body' : Unit {0} → Run Trees Flow) → ((w' : World) → Later w w' → Same w' Any test test') → ((w' : World) → Later w w' → Same w' ClearFlow (body tt) (body' tt)) → Same w ClearFlow (loop n test body) (loop n test' body')
  from_loop w zero test test' body body' ht hb =
      from_then convert IsKept reach w ClearFlow (λ f. f) _ (ht w (same_world w)) (λ w' later b p. from_if convert IsKept reach w' ClearFlow (λ f. f) b.0 (from_stop convert IsKept reach w' ClearFlow (λ f. f) Unfinished) (same_flow w' (Normal false) (λ w'. tt)))
  from_loop w (suc n) test test' body body' ht hb =
      from_then convert IsKept reach w ClearFlow (λ f. f) _ (ht w (same_world w))
      (λ w' later b p. from_if convert IsKept reach w' ClearFlow (λ f. f) b.0
      (from_then convert IsKept reach w' ClearFlow (λ f. f) (λ f. after_turn f (loop n test' body')) (hb w' later)
      (λ w'' after f q. from_after_turn w'' f (loop n test body) (loop n test' body') q (from_loop w'' n test test' body body' (λ v further. ht v (later_then w w'' v (later_then w w' w'' later after) further)) (λ v further. hb v (later_then w w'' v (later_then w w' w'' later after) further)))))
      (same_flow w' (Normal false) (λ w'. tt)))

  -- names
  from_existing : (w : World) {A : Type 0} (f : Names → Option A) → Same w Any (λ s. existing (f s.names) s) (λ s. existing (f s.names) s)
  from_existing w {A} f = record { by = λ j later fine. (by_option (f j.state.names)).by j later fine }
    where
      by_option : (o : Option A) → Same w Any (existing o) (existing o)
      by_option None = from_fault convert IsKept reach w Any (λ a. a) _
      by_option (Some a) = same_any w a

  pub from_find : (w : World) (known : Known) (name : Path) (scope : AbsolutePath) → Same w Any (S.find known name scope) (S.find known name scope)
  from_find w known name scope = from_existing w (λ names. choose (denoted (is_known known) name scope) None (λ path. first_there names (path ∷ [])))

  pub from_found : (w : World) (known : Known) (name : Path) (scope : AbsolutePath) → Same w Any (S.found known name scope) (S.found known name scope)
  from_found w known name scope = from_then convert IsKept reach w Any (λ e. e) _ (from_find w known name scope) (λ w' later path p. from_existing w' (λ names. reached names path))

  pub from_sought : (w : World) (known : Known) (name : Path) (scope : AbsolutePath) → Same w Any (S.sought known name scope) (S.sought known name scope)
  from_sought w known name scope = from_look convert IsKept reach w Any (λ names. choose (choose (denoted (is_known known) name scope) None (λ path. first_there names (path ∷ []))) None (reached names)) (λ w' later names cn. tt)

  pub from_region_at : (w : World) (known : Known) (name : Path) (scope : AbsolutePath) → Same w Any (S.region_at known name scope) (S.region_at known name scope)
  from_region_at w known name scope = from_then convert IsKept reach w Any (λ e. e) _ (from_found w known name scope) (λ w' later e p. same_any w' e.0)

  pub from_register_at : (w : World) (known : Known) (name : Path) (scope : AbsolutePath) → Same w Any (S.register_at known name scope) (S.register_at known name scope)
  from_register_at w known name scope = from_then convert IsKept reach w Any (λ e. e) _ (from_found w known name scope) (λ w' later e p. from_act convert IsKept reach w' Any (register_of e) (λ v after. F.blind_register v e))

  -- a value as a number
  pub from_size : (w : World) (width : Width) (known : Known) {m m' : Run Trees Flow} → Same w ClearFlow m m' → Same w Any (S.size_by width known m) (S.size_by width known m')
  from_size w width known h =
      from_then convert IsKept reach w Any (λ n. n) _ (from_valued w h) (λ w' later v p. from_act convert IsKept reach w' Any (number_of width v) (λ u after. blind_number u width v (clear_later w' u after.shown v p)))

  -- a value as a text
  pub from_text : (w : World) (width : Width) (known : Known) {m m' : Run Trees Flow} → Same w ClearFlow m m' → Same w Any (S.text_by width known m) (S.text_by width known m')
  from_text w width known h =
      from_then convert IsKept reach w Any (λ text. text) _ (from_valued w h)
      (λ w' later v p. from_act convert IsKept reach w' Any (and_then (data_of width v) (λ datum. give (to_string width datum))) (λ u after. blind_text u width v (clear_later w' u after.shown v p)))

  -- a branch, a loop and a Scope are what their parts are
  pub from_branch : (w : World) (width : Width) (known : Known) {m m' b b' : Run Trees Flow} → Same w ClearFlow m m' → ((w' : World) → Later w w' → Same w' ClearFlow b b') →
      Same w ClearFlow (then_run (S.size_by width known m) (λ n. if is_true n then b else done (Normal true))) (then_run (S.size_by width known m') (λ n. if is_true n then b' else done (Normal true)))
  from_branch w width known h k =
      from_then convert IsKept reach w ClearFlow (λ f. f) _ (from_size w width known h) (λ w' later n p. from_if convert IsKept reach w' ClearFlow (λ f. f) (is_true n) (k w' later) (same_flow w' (Normal true) (λ w'. tt)))

  pub from_while : (w : World) (width : Width) (known : Known) (turns : ℕ) {m m' b b' : Run Trees Flow} → ((w' : World) → Later w w' → Same w' ClearFlow m m') → ((w' : World) → Later w w' → Same w' ClearFlow b b') →
      Same w ClearFlow (loop {X = Unit {0}} turns (then_run (S.size_by width known m) (λ n. done (is_true n, tt))) (λ u. b)) (loop {X = Unit {0}} turns (then_run (S.size_by width known m') (λ n. done (is_true n, tt))) (λ u. b'))
  from_while w width known turns h k =
      from_loop w turns _ _ _ _ (λ w' later. from_then convert IsKept reach w' Any (λ b. b) _ (from_size w' width known (h w' later)) (λ u after n p. same_any u (is_true n, tt))) k

  pub from_created : (w : World) (path : AbsolutePath) (object : Object) → ((w' : World) → ClearObject w' object) → Same w ClearFlow (then_run (create path object) (λ u. done (Normal false))) (then_run (create path object) (λ u. done (Normal false)))
  from_created w path object h = from_then convert IsKept reach w ClearFlow (λ f. f) _ (from_create convert IsKept reach w path object (λ w' later. h w')) (λ w' later u p. same_flow w' (Normal false) (λ w'. tt))

  -- what the units of a field are connected to, and the units
  from_connect : (w : World) (known : Known) (scope : AbsolutePath) (to : Connected) → Same w Any (connect (λ name. S.region_at known name scope) to) (connect (λ name. S.region_at known name scope) to)
  from_connect w known scope (ToName at name) = from_then convert IsKept reach w Any (λ x. x) _ (from_region_at w known name scope) (λ w' later path p. same_any w' (ToObject path))
  from_connect w known scope (ToBytes bytes) =
      from_then convert IsKept reach w Any (λ x. x) _ (from_act convert IsKept reach w Any (resource_of (length bytes) bytes) (λ w' later. F.blind_resource w' (length bytes) bytes)) (λ w' later bytes p. same_any w' (ToResource bytes))

  pub from_units : (w : World) (known : Known) (unit : Extent → FieldUnit) (scope : AbsolutePath) (c : Cursor) (items : List (FieldItem UnitName)) →
      Same w ClearFlow (create_units (λ name. S.region_at known name scope) unit scope c items) (create_units (λ name. S.region_at known name scope) unit scope c items)
  from_units w known unit scope c [] = same_flow w (Normal false) (λ w'. tt)
  from_units w known unit scope c (UnitItem name bits ∷ items) =
      from_then convert IsKept reach w ClearFlow (λ f. f) _ (from_create convert IsKept reach w (name.segment ∷ scope) (UnitObject (unit (record { at = c.at; bits = bits; flags = c.flags; link = c.link }))) (λ w' later. tt)) (λ w' later u p. from_units w' known unit scope (behind_bits c bits) items)
  from_units w known unit scope c (SkipItem bits ∷ items) = from_units w known unit scope (behind_bits c bits) items
  from_units w known unit scope c (OffsetItem bytes ∷ items) = from_units w known unit scope (at_byte c bytes) items
  from_units w known unit scope c (AccessItem access attribute count ∷ items) = from_units w known unit scope (accessed c access attribute (length_or_none count)) items
  from_units w known unit scope c (ConnectionItem to ∷ items) =
      from_then convert IsKept reach w ClearFlow (λ f. f) _ (from_connect w known scope to) (λ w' later x p. from_units w' known unit scope (connected_to c x) items)

  -- regions and buffer fields
  pub from_region : (w : World) (width : Width) (path : AbsolutePath) (space : ℕ) (os : List Operand) → ClearOperands w os → Same w ClearFlow (make_region width path space os) (make_region width path space os)
  from_region w width path space os h =
      from_then convert IsKept reach w ClearFlow (λ f. f) _ (from_act convert IsKept reach w Any (region_extent width os) (λ w' later. F.blind_extent w' width os (operands_later w w' later.shown os h)))
      (λ w' later e p. from_created w' path (RegionObject space e.0 e.1) (λ w'. tt))

  pub from_buffer_field : (w : World) (width : Width) (form : FieldForm) (path : AbsolutePath) (os : List Operand) → ClearOperands w os → Same w ClearFlow (make_buffer_field width form path os) (make_buffer_field width form path os)
  from_buffer_field w width form path os h =
      from_then convert IsKept reach w ClearFlow (λ f. f) _ (from_act convert IsKept reach w F.MadeField (new_field width form os) (λ w' later. F.blind_field w' width form os (operands_later w w' later.shown os h)))
      (λ w' later made p. from_then convert IsKept reach w' ClearFlow (λ f. f) _ (from_create convert IsKept reach w' path (BufferFieldObject made.0) (λ u after. source_later w' u after.shown made.0.source p))
      (λ u after x q. from_then convert IsKept reach u ClearFlow (λ f. f) _ (from_act convert IsKept reach u Any (keep_own path made.0.source made.1) (λ v further. F.blind_keep_own v path made.0.source made.1)) (λ v further y r. same_flow v (Normal false) (λ v. tt))))

  -- Locals and Args
  pub slot_shown : (w : World) (shown : ℕ → Bool) → ((i : ℕ) → shown i ≡ true → shown_here w i ≡ true) → (slot : Slot) → IsShownSlot shown slot → IsShownSlot (shown_here w) slot
  slot_shown w shown h (LocalSlot i) e = h i e
  slot_shown w shown h (ArgSlot i) e = tt

  slot_later : (w w' : World) → Later w w' → (slot : Slot) → IsShownSlot (shown_here w) slot → IsShownSlot (shown_here w') slot
  slot_later w w' later (LocalSlot i) e = here_later w w' i later e
  slot_later w w' later (ArgSlot i) e = tt

  pub from_slot : (w : World) (slot : Slot) → IsShownSlot (shown_here w) slot → Same w ClearPlace (act (slot_here slot)) (act (slot_here slot))
  from_slot w slot h = from_act convert IsKept reach w ClearPlace (slot_here slot) (λ w' later. F.blind_slot w' slot (slot_later w w' later slot h))

  -- calls
  module _ (width : Width) (call call' : AbsolutePath → List Value → Run Trees Flow) (calls : CallAlike convert IsKept call call') where
    pub from_use : (w : World) (path : AbsolutePath) (object : Object) (args : List Value) → ClearAll w args → Same w ClearFlow (use_object width call path object args) (use_object width call' path object args)
    from_use w path (MethodObject flags) args h = from_everywhere convert IsKept reach w (calls w path args h)
    from_use w path (ExternalObject (ExternalMethod arity)) args h = from_external convert IsKept reach w path args
    from_use w path (ExternalObject (ExternalData type)) args h = from_given convert IsKept reach w (object_value width path (ExternalObject (ExternalData type))) (λ w' later. F.blind_object w' width path (ExternalObject (ExternalData type)))
    from_use w path (ExternalObject (ExternalOther type)) args h = from_given convert IsKept reach w (object_value width path (ExternalObject (ExternalOther type))) (λ w' later. F.blind_object w' width path (ExternalObject (ExternalOther type)))
    from_use w path object args h = from_given convert IsKept reach w (object_value width path object) (λ w' later. F.blind_object w' width path object)

    pub from_written : (w : World) (path : AbsolutePath) (object : Object) (args : List Value) → ClearAll w args → Same w ClearFlow (call_written width call path object args) (call_written width call' path object args)
    from_written w path object args h = from_if convert IsKept reach w ClearFlow (λ f. f) (is_method object && nat_eq (operand_count object) (length args)) (from_use w path object args h) (from_fault convert IsKept reach w ClearFlow (λ f. f) WrongType)

  -- operators
  pub from_plain : (w : World) (width : Width) (op : Plain) {ops ops' : Run Trees (List Operand)} {into into' : List Value → Run Trees (Unit {0})} → Same w ClearOperands ops ops' → ((w' : World) → Later w w' → (rs : List Value) → ClearAll w' rs → Same w' Any (into rs) (into' rs)) →
      Same w ClearFlow (S.apply_with width op ops into) (S.apply_with width op ops' into')
  from_plain w width op ho ht =
      from_then convert IsKept reach w ClearFlow (λ f. f) _ ho
      (λ w' later os p. from_then convert IsKept reach w' ClearFlow (λ f. f) _ (from_act convert IsKept reach w' ClearAll (act_of op width os) (λ u after. blind_act u op width os (operands_later w' u after.shown os p)))
      (λ u after rs q. from_then convert IsKept reach u ClearFlow (λ f. f) _ (ht u (later_then w w' u later after) rs q)
      (λ v further x r. from_done convert IsKept reach v ClearFlow (λ f. f) (last_of rs) (λ z last. flow_later u z (later_then u v z further last).shown (last_of rs) (last_clear u rs q)))))

  -- a value is compared with another
  pub from_equals : (w : World) (width : Width) (known : Known) (v : Value) {m m' : Run Trees Value} → Clear w v → Same w Clear m m' → Same w Any (S.equals width known v m) (S.equals width known v m')
  from_equals w width known v p h =
      from_then convert IsKept reach w Any (λ b. b) _
      (from_size w width known (from_plain w width (Plain.Number IntOp.LEqual)
      (from_then convert IsKept reach w ClearOperands (λ os. os) _ (from_done convert IsKept reach w Clear (λ v. v) v (λ w' later. clear_later w w' later.shown v p))
      (λ w' later x q. from_then convert IsKept reach w' ClearOperands (λ os. os) _ (from_later convert IsKept reach w w' later h)
      (λ u after y r. from_done convert IsKept reach u ClearOperands (λ os. os) (OfValue x ∷ OfValue y ∷ []) (λ z last. (clear_later w' z (later_then w' u z after last).shown x q, (clear_later u z last.shown y r, tt))))))
      (λ w' later rs q. same_any w' tt)))
      (λ w' later n q. same_any w' (is_true n))

  from_stored : (w : World) (width : Width) (p : Spot) (v : Value) → ClearSpot w p → Clear w v → Same w Any (act (store width p v)) (act (store width p v))
  from_stored w width p v h k = from_act convert IsKept reach w Any (store width p v) (λ w' later. blind_store w' width p v (spot_later w w' later.shown p h) (clear_later w w' later.shown v k))

  -- a result goes to a place
  pub from_target : (w : World) (width : Width) {spot spot' : Run Trees Spot} (v : Value) → Clear w v → Same w ClearSpot spot spot' → Same w Any (then_run spot (λ p. act (store width p v))) (then_run spot' (λ p. act (store width p v)))
  from_target w width v h hs = from_then convert IsKept reach w Any (λ u. u) _ hs (λ w' later p q. from_stored w' width p v q (clear_later w w' later.shown v h))

  pub from_last : (w : World) (width : Width) (n : ℕ) {spot spot' : Run Trees Spot} → Same w ClearSpot spot spot' → (rs : List Value) → ClearAll w rs → Same w Any (store_last width n spot rs) (store_last width n spot' rs)
  from_last w width zero h rs p = same_any w tt
  from_last w width (suc n) h [] p = from_fault convert IsKept reach w Any (λ u. u) WrongType
  from_last w width (suc zero) h (v ∷ rs) p = from_target w width v p.0 h
  from_last w width (suc (suc n)) h (v ∷ rs) p = from_last w width (suc n) h rs p.1

  pub from_operate : (w : World) (width : Width) (op : Plain) {ops ops' : Run Trees (List Operand)} {spot spot' : Run Trees Spot} → Same w ClearOperands ops ops' → ((w' : World) → Later w w' → Same w' ClearSpot spot spot') →
      Same w ClearFlow (S.apply_with width op ops (store_last width (row_of op).targets spot)) (S.apply_with width op ops' (store_last width (row_of op).targets spot'))
  from_operate w width op ho hs = from_plain w width op ho (λ w' later rs p. from_last w' width (row_of op).targets (hs w' later) rs p)

  from_inside : (w : World) (v : Value) → Clear w v → Same w ClearSpot (act (spot_in v)) (act (spot_in v))
  from_inside w v p = from_act convert IsKept reach w ClearSpot (spot_in v) (λ u after. F.blind_spot_in u v (clear_later w u after.shown v p))

  pub from_spot_form : (w : World) (width : Width) (known : Known) (form : SpotForm) {result result' : Run Trees Flow} {inside inside' : Run Trees Value} → Same w ClearFlow result result' → Same w Clear inside inside' →
      Same w ClearSpot (S.spot_by width known form result inside) (S.spot_by width known form result' inside')
  from_spot_form w width known OfResult hr hi = from_then convert IsKept reach w ClearSpot (λ p. p) _ (from_valued w hr) (λ w' later v p. from_inside w' v p)
  from_spot_form w width known OfInside hr hi = from_then convert IsKept reach w ClearSpot (λ p. p) _ hi (λ w' later v p. from_inside w' v p)
  from_spot_form w width known NoSpot hr hi = same_broken w ClearSpot

  -- an operand as its letter asks
  module _ (width : Width) (known : Known) where
    from_named_place : (w : World) (name : Path) (scope : AbsolutePath) → Same w ClearOption (S.place_of_name width known name scope) (S.place_of_name width known name scope)
    from_named_place w name scope = from_then convert IsKept reach w ClearOption (λ o. o) _ (from_found w known name scope) (λ w' later e p. from_done convert IsKept reach w' ClearOption (λ o. o) (if_data e.1 (Some (Named e.0)) None) (λ u after. named u e.0 e.1))
      where
        named : (u : World) (path : AbsolutePath) (object : Object) → ClearOption u (if_data object (Some (Named path)) None)
        named u path DataObject = tt
        named u path _ = tt

    abbrev pub SlotShown : World → Tree → Type 0
    SlotShown w (InSlot slot) = IsShownSlot (shown_here w) slot
    SlotShown w t = Unit {0}

    from_place : (w : World) (t : Tree) (scope : AbsolutePath) → SlotShown w t → Same w ClearOption (S.place_by width known t scope) (S.place_by width known t scope)
    from_place w (InSlot slot) scope h = from_then convert IsKept reach w ClearOption (λ o. o) _ (from_slot w slot h) (λ w' later place p. from_done convert IsKept reach w' ClearOption (λ o. o) (Some place) (λ u after. place_later w' u after.shown place p))
    from_place w (Use at name) scope h = from_named_place w name scope
    from_place w (Call at name args) scope h = from_named_place w name scope
    from_place w _ scope h = from_done convert IsKept reach w ClearOption (λ o. o) None (λ w' later. tt)

    from_used : (w : World) (t : Tree) (scope : AbsolutePath) → Same w ClearOperand (S.used_by width known t scope) (S.used_by width known t scope)
    from_used w (Use at name) scope = from_then convert IsKept reach w ClearOperand (λ o. o) _ (from_found w known name scope) (λ w' later e p. from_done convert IsKept reach w' ClearOperand (λ o. o) (OfSpot (At (Named e.0))) (λ u after. tt))
    from_used w _ scope = same_broken w ClearOperand

    from_raw : (w : World) (t : Tree) → Same w ClearOperand (S.raw_by width known t) (S.raw_by width known t)
    from_raw w (Raw size number) = from_done convert IsKept reach w ClearOperand (λ o. o) (OfNumber number) (λ w' later. tt)
    from_raw w _ = same_broken w ClearOperand

    pub from_letter : (w : World) (letter : Letter) (t : Tree) (scope : AbsolutePath) {m m' : Run Trees Flow} {spot spot' : Run Trees Spot} → SlotShown w t → ((w' : World) → Later w w' → Same w' ClearFlow m m') → Same w ClearSpot spot spot' →
        Same w ClearOperand (S.operand_by width known letter t m spot scope) (S.operand_by width known letter t m' spot' scope)
    from_letter w Valued t scope h hm hs = from_then convert IsKept reach w ClearOperand (λ o. o) _ (from_valued w (hm w (same_world w))) (λ w' later v p. from_done convert IsKept reach w' ClearOperand (λ o. o) (OfValue v) (λ u after. clear_later w' u after.shown v p))
    from_letter w Kept t scope h hm hs =
        from_then convert IsKept reach w ClearOperand (λ o. o) _ (from_place w t scope h)
        (λ w' later place p. from_then convert IsKept reach w' ClearOperand (λ o. o) _ (from_valued w' (hm w' later))
        (λ u after v q. from_done convert IsKept reach u ClearOperand (λ o. o) (OfKept place v) (λ x further. (option_later w' x (later_then w' u x after further).shown place p, clear_later u x further.shown v q))))
    from_letter w Placed t scope h hm hs = from_then convert IsKept reach w ClearOperand (λ o. o) _ hs (λ w' later p q. from_done convert IsKept reach w' ClearOperand (λ o. o) (OfSpot p) (λ u after. spot_later w' u after.shown p q))
    from_letter w Used t scope h hm hs = from_used w t scope
    from_letter w (L.Raw size) t scope h hm hs = from_raw w t

    -- the place of CondRefOf
    pub from_cond : (w : World) (t : Tree) (scope : AbsolutePath) {spot spot' : Run Trees Spot} → Same w ClearSpot spot spot' → Same w F.ClearIfSpot (S.cond_by width known t spot scope) (S.cond_by width known t spot' scope)
    from_cond w (Use at name) scope h = from_then convert IsKept reach w F.ClearIfSpot (λ o. o) _ (from_sought w known name scope) (λ w' later o p. from_done convert IsKept reach w' F.ClearIfSpot (λ o. o) (choose o None (λ e. Some (At (Named e.0)))) (λ u after. named u o))
      where
        named : (u : World) (o : Option (AbsolutePath × Object)) → F.ClearIfSpot u (choose o None (λ e. Some (At (Named e.0))))
        named u None = tt
        named u (Some e) = tt
    from_cond w _ scope h = from_then convert IsKept reach w F.ClearIfSpot (λ o. o) _ h (λ w' later p q. from_done convert IsKept reach w' F.ClearIfSpot (λ o. o) (Some p) (λ u after. spot_later w' u after.shown p q))

    -- an element of a Package
    pub from_element : (w : World) (t : Tree) (scope : AbsolutePath) {m m' : Run Trees Flow} → Same w ClearFlow m m' → Same w Clear (S.element_by width known t m scope) (S.element_by width known t m' scope)
    from_element w (Use at name) scope h = from_done convert IsKept reach w Clear (λ v. v) (Reference (Named (element_path (is_known known) name scope))) (λ w' later. tt)
    from_element w _ scope h = from_valued w h
