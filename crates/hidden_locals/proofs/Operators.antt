-- No plain operator sees the taken Locals.
use Rattle.std.proofs.Common.{ℕ, zero, suc, ◌+◌, ◌%◌, Bool, true, false, List, [], ◌∷◌, ◌++◌, Option, Some, None}
use Rattle.std.specs.Prelude.{nat_lt, ◌||◌, take, drop, Result, Ok, Err}
use Rattle.acpi_values.specs.declared.width.Width.{Width}
use Rattle.acpi_values.specs.declared.operator.IntOp.{IntOp}
use Rattle.acpi_values.specs.declared.operator.DataOp.TheVariants as DataOp
use Rattle.acpi_values.specs.declared.operator.EventOp.TheVariants as EventOp
use Rattle.acpi_values.specs.declared.operator.Plain.{Plain}
use Rattle.acpi_values.specs.declared.fault.Fault.{Fault}
use Rattle.acpi_values.specs.declared.fault.Fault.TheVariants.{NotFound, WrongType, OutOfRange}
use Rattle.acpi_values.specs.Paths.{AbsolutePath}
use Rattle.acpi_values.specs.Conversions.{to_integer, to_kind_of, to_buffer, to_string, decimal_string, hex_string, if_ok, read_integer}
use Rattle.acpi_state.specs.Objects as O
use Rattle.acpi_values.specs.Integers.{applied, truth, wrapped, difference}
use Rattle.acpi_values.specs.Values.{Datum, Integer, String, Buffer, Value, Data, Package, Reference, Elements, no_elements, uninitialized, element, Place, Named, LocalOf, ArgOf, ElementAt, ElementOf}
use Rattle.acpi_state.specs.Objects.{Object, DataObject, MethodObject, ContainerObject, MutexObject, EventObject, RegionObject, UnitObject, BufferFieldObject, AliasObject, ExternalObject, ExternalMethod, ExternalData, ExternalOther, OfRoot, Device, ThermalZone, PowerResource, Processor, Event, Acquire, Wait, Notify}
use Rattle.acpi_state.specs.Outcomes.{Action}
use Rattle.acpi_state.specs.Actions.{give, fail, computed, and_then, emit, ask_number}
use Rattle.acpi_state.specs.Places.{put}
use Rattle.acpi_state.specs.Stores.{Spot, Nowhere, DebugObject, At, held, read, direct, store, store_to}
use Rattle.acpi_state.specs.Acts as A
use Rattle.acpi_state.specs.Acts.{Operand, OfValue, OfKept, OfSpot, OfNumber, Order, act_of, data_of, datum_of, number_of}
use Rattle.hidden_locals.specs.Worlds.{World, Clear, ClearPlace, ClearHeld, ClearAll, ClearOption, ClearSpot, ClearOperands}
use Rattle.hidden_locals.specs.Blind.{GivenOk, Blind}
use Rattle.hidden_locals.proofs.Places.{Fine, blind_give, blind_fail, blind_then, blind_computed, blind_emit, blind_ask_number, blind_at, blind_put}
use Rattle.hidden_locals.proofs.Stores.{Sees, blind_if, blind_read, blind_held, blind_direct, blind_store, blind_store_to}

module _ (w : World) where
  abbrev pub Results : Action (List Value) → Type 0
  Results a = Blind w (ClearAll w) a

  wrong : Results (fail WrongType)
  wrong = blind_fail w (ClearAll w) WrongType

  missing : Results (fail NotFound)
  missing = blind_fail w (ClearAll w) NotFound

  one : (v : Value) → Clear w v → Results (A.give_one v)
  one v h = blind_give w (ClearAll w) (v ∷ []) (h, tt)

  number : (n : ℕ) → Results (A.give_number n)
  number n = one (Data (Integer n)) tt

  datum : (d : Datum) → Results (A.give_datum d)
  datum d = one (Data d) tt

  none : (u : Unit {0}) → Results (A.give_none u)
  none u = blind_give w (ClearAll w) [] tt

  fine_ok : {A : Type 0} (r : Result A Fault) → GivenOk (Fine w) r
  fine_ok (Ok a) = tt
  fine_ok (Err f) = tt

  counted : {A : Type 0} (r : Result A Fault) → Sees w (computed r)
  counted r = blind_computed w (Fine w) r (fine_ok r)

  blind_datum : (v : Value) → Sees w (datum_of v)
  blind_datum (Data d) = blind_give w (Fine w) d tt
  blind_datum (Package es) = blind_fail w (Fine w) WrongType
  blind_datum (Reference place) = blind_fail w (Fine w) WrongType

  pub blind_data : (width : Width) (v : Value) → Clear w v → Sees w (data_of width v)
  blind_data width v h = blind_then w (Fine w) (direct width v) datum_of (blind_direct w width v h) (λ v p. blind_datum v)

  pub blind_number : (width : Width) (v : Value) → Clear w v → Sees w (number_of width v)
  blind_number width v h = blind_then w (Fine w) (data_of width v) (λ d. computed (to_integer width d)) (blind_data width v h) (λ d p. counted (to_integer width d))

  -- as a text
  pub blind_text : (width : Width) (v : Value) → Clear w v → Sees w (and_then (data_of width v) (λ datum. give (to_string width datum)))
  blind_text width v h = blind_then w (Fine w) (data_of width v) (λ datum. give (to_string width datum)) (blind_data width v h) (λ datum p. blind_give w (Fine w) (to_string width datum) tt)

  with_number : (width : Width) (v : Value) (k : ℕ → Action (List Value)) → Clear w v → ((n : ℕ) → Results (k n)) → Results (and_then (number_of width v) k)
  with_number width v k h hk = blind_then w (ClearAll w) (number_of width v) k (blind_number width v h) (λ n p. hk n)

  with_data : (width : Width) (v : Value) (k : Datum → Action (List Value)) → Clear w v → ((d : Datum) → Results (k d)) → Results (and_then (data_of width v) k)
  with_data width v k h hk = blind_then w (ClearAll w) (data_of width v) k (blind_data width v h) (λ n p. hk n)

  with_result : {A : Type 0} (r : Result A Fault) (k : A → Action (List Value)) → ((a : A) → Results (k a)) → Results (and_then (computed r) k)
  with_result r k hk = blind_then w (ClearAll w) (computed r) k (counted r) (λ a p. hk a)

  blind_integers : (op : IntOp) (width : Width) (os : List Operand) → ClearOperands w os → Results (A.integers op width os)
  blind_integers op width (OfValue v ∷ []) h = with_number width v _ h.0 (λ a. with_result (applied op width a 0) _ (λ n. number n))
  blind_integers op width (OfValue v ∷ OfValue u ∷ []) h = with_number width v _ h.0 (λ a. with_number width u _ h.1.0 (λ b. with_result (applied op width a b) _ (λ n. number n)))
  blind_integers op width os h = wrong

  blind_divide : (width : Width) (os : List Operand) → ClearOperands w os → Results (A.divide width os)
  blind_divide width (OfValue v ∷ OfValue u ∷ []) h =
      with_number width v _ h.0 (λ a. with_number width u _ h.1.0 (λ b. with_result (applied IntOp.Divide width a b) _ (λ q. blind_give w (ClearAll w) (Data (Integer (a % b)) ∷ Data (Integer q) ∷ []) (tt, (tt, tt)))))
  blind_divide width os h = wrong

  pub blind_compared : (width : Width) (a b : Datum) → Sees w (A.compared width a b)
  blind_compared width a b = blind_then w (Fine w) (computed (to_kind_of width a b)) (λ b. give (A.order_of a b)) (counted (to_kind_of width a b)) (λ b p. blind_give w (Fine w) (A.order_of a b) tt)

  blind_compare : (test : Order → Bool) (width : Width) (os : List Operand) → ClearOperands w os → Results (A.compare test width os)
  blind_compare test width (OfValue v ∷ OfValue u ∷ []) h =
      with_data width v _ h.0 (λ a. with_data width u _ h.1.0 (λ b. blind_then w (ClearAll w) (A.compared width a b) (λ order. A.give_number (truth width (test order))) (blind_compared width a b) (λ order p. number (truth width (test order)))))
  blind_compare test width os h = wrong

  blind_read_spot : (width : Width) (spot : Spot) → ClearSpot w spot → Blind w (Clear w) (A.read_spot width spot)
  blind_read_spot width (At place) h = blind_read w width place h
  blind_read_spot width Nowhere h = blind_fail w (Clear w) WrongType
  blind_read_spot width DebugObject h = blind_fail w (Clear w) WrongType

  blind_step : (next : Width → ℕ → ℕ) (width : Width) (os : List Operand) → ClearOperands w os → Results (A.step next width os)
  blind_step next width (OfSpot spot ∷ []) h =
      blind_then w (ClearAll w) (A.read_spot width spot) (λ v. and_then (number_of width v) (λ n. and_then (store width spot (Data (Integer (next width n)))) (λ u. A.give_number (next width n)))) (blind_read_spot width spot h.0)
      (λ v p. with_number width v _ p (λ n. blind_then w (ClearAll w) (store width spot (Data (Integer (next width n)))) _ (blind_store w width spot (Data (Integer (next width n))) h.0 tt) (λ u q. number (next width n))))
  blind_step next width os h = wrong

  blind_store_value : (width : Width) (os : List Operand) → ClearOperands w os → Results (A.store_value width os)
  blind_store_value width (OfValue v ∷ OfSpot spot ∷ []) h =
      blind_then w (ClearAll w) (store_to width spot v) (λ answer. A.give_one (A.answer_or answer v)) (blind_store_to w width spot v h.1.0 h.0) (λ answer p. given answer p)
    where
      given : (answer : Option Value) → ClearHeld w answer → Results (A.give_one (A.answer_or answer v))
      given None p = one v h.0
      given (Some answer) p = one answer p
  blind_store_value width os h = wrong

  blind_copy : (width : Width) (os : List Operand) → ClearOperands w os → Results (A.copy_object width os)
  blind_copy width (OfValue v ∷ OfSpot (At place) ∷ []) h = blind_then w (ClearAll w) (put width place v) (λ u. A.give_one v) (blind_put w width place v h.1.0 h.0) (λ u p. one v h.0)
  blind_copy width os h = wrong

  blind_concatenate : (width : Width) (os : List Operand) → ClearOperands w os → Results (A.concatenate width os)
  blind_concatenate width (OfValue v ∷ OfValue u ∷ []) h = with_data width v _ h.0 (λ a. with_data width u _ h.1.0 (λ b. with_result (to_kind_of width a b) _ (λ b. datum (A.joined width a b))))
  blind_concatenate width os h = wrong

  blind_bytes_in : (d : Datum) → Sees w (A.bytes_in d)
  blind_bytes_in (Buffer bytes) = blind_give w (Fine w) bytes tt
  blind_bytes_in (Integer n) = blind_fail w (Fine w) WrongType
  blind_bytes_in (String text) = blind_fail w (Fine w) WrongType

  with_buffer : (width : Width) (v : Value) (k : List ℕ → Action (List Value)) → Clear w v → ((bytes : List ℕ) → Results (k bytes)) → Results (and_then (A.buffer_in width v) k)
  with_buffer width v k h hk = blind_then w (ClearAll w) (A.buffer_in width v) k (blind_then w (Fine w) (data_of width v) A.bytes_in (blind_data width v h) (λ d p. blind_bytes_in d)) (λ n p. hk n)

  blind_templates : (width : Width) (os : List Operand) → ClearOperands w os → Results (A.concatenate_templates width os)
  blind_templates width (OfValue v ∷ OfValue u ∷ []) h =
      with_buffer width v _ h.0 (λ a. with_buffer width u _ h.1.0 (λ b. with_result (A.without_end a) _ (λ a. with_result (A.without_end b) _ (λ b. datum (Buffer (a ++ b ++ 0x79 ∷ 0x00 ∷ []))))))
  blind_templates width os h = wrong

  blind_convert : (f : Width → Datum → Result Datum Fault) (width : Width) (os : List Operand) → ClearOperands w os → Results (A.convert f width os)
  blind_convert f width (OfValue v ∷ []) h = with_data width v _ h.0 (λ d. with_result (f width d) _ (λ d. datum d))
  blind_convert f width os h = wrong

  blind_to_string : (width : Width) (os : List Operand) → ClearOperands w os → Results (A.to_string_operator width os)
  blind_to_string width (OfValue v ∷ OfValue u ∷ []) h = with_buffer width v _ h.0 (λ bytes. with_number width u _ h.1.0 (λ n. datum (String (take n (A.until_zero bytes)))))
  blind_to_string width os h = wrong

  blind_part : (i n : ℕ) (d : Datum) → Results (A.part_of i n d)
  blind_part i n (String text) = datum (String (take n (drop i text)))
  blind_part i n (Buffer bytes) = datum (Buffer (take n (drop i bytes)))
  blind_part i n (Integer m) = wrong

  blind_parted : (d : Datum) → Sees w (A.parted d)
  blind_parted (Integer n) = blind_fail w (Fine w) WrongType
  blind_parted (String text) = blind_give w (Fine w) (String text) tt
  blind_parted (Buffer bytes) = blind_give w (Fine w) (Buffer bytes) tt

  blind_mid : (width : Width) (os : List Operand) → ClearOperands w os → Results (A.mid width os)
  blind_mid width (OfValue v ∷ OfValue u ∷ OfValue x ∷ []) h =
      with_data width v _ h.0 (λ d. blind_then w (ClearAll w) (A.parted d) _ (blind_parted d) (λ d p. with_number width u _ h.1.0 (λ i. with_number width x _ h.1.1.0 (λ n. blind_part i n d))))
  blind_mid width os h = wrong

  element_clear : (place : Option Place) (v : Value) (i : ℕ) → ClearOption w place → Clear w v → ClearPlace w (A.element_place place v i)
  element_clear None v i h p = p
  element_clear (Some place) v i h p = h

  blind_index_of : (width : Width) (place : Option Place) (v u : Value) → ClearOption w place → Clear w v → Clear w u → Results (A.index_of width place v u)
  blind_index_of width place v u h p q =
      with_result (A.size_in v) _ (λ size. with_number width u _ q (λ i. blind_if w (ClearAll w) (nat_lt i size) (A.give_one (Reference (A.element_place place v i))) (fail OutOfRange) (one (Reference (A.element_place place v i)) (element_clear place v i h p)) (blind_fail w (ClearAll w) OutOfRange)))

  blind_standing : (o : Option (AbsolutePath × Object)) → Blind w (ClearOption w) (A.standing o)
  blind_standing (Some (path, DataObject)) = blind_give w (ClearOption w) (Some (Named path)) tt
  blind_standing (Some (path, object)) = blind_give w (ClearOption w) None tt
  blind_standing None = blind_give w (ClearOption w) None tt

  blind_kept : (place : Place) → ClearPlace w place → Blind w (ClearOption w) (A.kept_place place)
  blind_kept (Named path) h = blind_at w (ClearOption w) path A.standing (λ o c. blind_standing o)
  blind_kept (LocalOf n i) h = blind_give w (ClearOption w) (Some (LocalOf n i)) h
  blind_kept (ArgOf n i) h = blind_give w (ClearOption w) (Some (ArgOf n i)) h
  blind_kept (ElementAt place i) h = blind_give w (ClearOption w) (Some (ElementAt place i)) h
  blind_kept (ElementOf v i) h = blind_give w (ClearOption w) (Some (ElementOf v i)) h

  blind_index : (width : Width) (os : List Operand) → ClearOperands w os → Results (A.index width os)
  blind_index width (OfKept place (Reference to) ∷ OfValue u ∷ []) h =
      blind_then w (ClearAll w) (read width to) _ (blind_read w width to h.0.1)
      (λ v p. blind_then w (ClearAll w) (A.kept_place to) _ (blind_kept to h.0.1) (λ place q. blind_index_of width place v u q p h.1.0))
  blind_index width (OfKept place (Data d) ∷ OfValue u ∷ []) h = blind_index_of width place (Data d) u h.0.0 h.0.1 h.1.0
  blind_index width (OfKept place (Package es) ∷ OfValue u ∷ []) h = blind_index_of width place (Package es) u h.0.0 h.0.1 h.1.0
  blind_index width os h = wrong

  blind_deref : (width : Width) (os : List Operand) → ClearOperands w os → Results (A.deref_of width os)
  blind_deref width (OfValue (Reference place) ∷ []) h = blind_then w (ClearAll w) (read width place) A.give_one (blind_read w width place h.0) (λ v p. one v p)
  blind_deref width os h = wrong

  blind_ref : (width : Width) (os : List Operand) → ClearOperands w os → Results (A.ref_of width os)
  blind_ref width (OfSpot (At place) ∷ []) h = one (Reference place) h.0
  blind_ref width os h = wrong

  blind_follow : (width : Width) (v : Value) → Clear w v → Blind w (Clear w) (A.follow width v)
  blind_follow width (Reference place) h = blind_then w (Clear w) (held width place) A.held_or_wrong (blind_held w width place h) (λ o p. blind_held_or o p)
    where
      blind_held_or : (o : Option Value) → ClearHeld w o → Blind w (Clear w) (A.held_or_wrong o)
      blind_held_or None p = blind_fail w (Clear w) WrongType
      blind_held_or (Some v) p = blind_give w (Clear w) v p
  blind_follow width (Data d) h = blind_give w (Clear w) (Data d) h
  blind_follow width (Package es) h = blind_give w (Clear w) (Package es) h

  blind_held_or : (o : Option Value) → ClearHeld w o → Blind w (Clear w) (A.held_or_wrong o)
  blind_held_or None p = blind_fail w (Clear w) WrongType
  blind_held_or (Some v) p = blind_give w (Clear w) v p

  blind_size : (width : Width) (os : List Operand) → ClearOperands w os → Results (A.size_of width os)
  blind_size width (OfSpot (At place) ∷ []) h =
      blind_then w (ClearAll w) (held width place) _ (blind_held w width place h.0)
      (λ o p. blind_then w (ClearAll w) (A.held_or_wrong o) _ (blind_held_or o p)
      (λ v q. blind_then w (ClearAll w) (A.follow width v) _ (blind_follow width v q) (λ v r. with_result (A.size_in v) _ (λ n. number n))))
  blind_size width os h = wrong

  blind_type_value : (follow : Place → Action ℕ) → ((place : Place) → ClearPlace w place → Sees w (follow place)) → (o : Option Value) → ClearHeld w o → Sees w (A.type_of_value follow o)
  blind_type_value follow hf None h = blind_give w (Fine w) 0 tt
  blind_type_value follow hf (Some (Data (Integer n))) h = blind_give w (Fine w) 1 tt
  blind_type_value follow hf (Some (Data (String text))) h = blind_give w (Fine w) 2 tt
  blind_type_value follow hf (Some (Data (Buffer bytes))) h = blind_give w (Fine w) 3 tt
  blind_type_value follow hf (Some (Package es)) h = blind_give w (Fine w) 4 tt
  blind_type_value follow hf (Some (Reference place)) h = hf place h

  given : (n : ℕ) → Sees w (give n)
  given n = blind_give w (Fine w) n tt

  blind_type_object : (width : Width) (follow : Place → Action ℕ) → ((place : Place) → ClearPlace w place → Sees w (follow place)) → (o : Option (AbsolutePath × Object)) → Sees w (A.type_of_object width follow o)
  blind_type_object width follow hf None = blind_fail w (Fine w) NotFound
  blind_type_object width follow hf (Some (path, DataObject)) = blind_then w (Fine w) (held width (Named path)) (A.type_of_value follow) (blind_held w width (Named path) tt) (λ o p. blind_type_value follow hf o p)
  blind_type_object width follow hf (Some (path, AliasObject target)) = blind_fail w (Fine w) WrongType
  blind_type_object width follow hf (Some (path, ContainerObject OfRoot)) = given 0
  blind_type_object width follow hf (Some (path, ContainerObject Device)) = given 6
  blind_type_object width follow hf (Some (path, ContainerObject ThermalZone)) = given 0xD
  blind_type_object width follow hf (Some (path, ContainerObject (PowerResource level order))) = given 0xB
  blind_type_object width follow hf (Some (path, ContainerObject (Processor n address size))) = given 0xC
  blind_type_object width follow hf (Some (path, UnitObject unit)) = given 5
  blind_type_object width follow hf (Some (path, EventObject)) = given 7
  blind_type_object width follow hf (Some (path, MethodObject flags)) = given 8
  blind_type_object width follow hf (Some (path, MutexObject level)) = given 9
  blind_type_object width follow hf (Some (path, RegionObject space offset size)) = given 0xA
  blind_type_object width follow hf (Some (path, BufferFieldObject field)) = given 0xE
  blind_type_object width follow hf (Some (path, ExternalObject (ExternalMethod arity))) = given 8
  blind_type_object width follow hf (Some (path, ExternalObject (ExternalData type))) = given type
  blind_type_object width follow hf (Some (path, ExternalObject (ExternalOther type))) = given type

  blind_type_at : (width : Width) (follow : Place → Action ℕ) → ((place : Place) → ClearPlace w place → Sees w (follow place)) → (place : Place) → ClearPlace w place → Sees w (A.type_at width follow place)
  blind_type_at width follow hf (Named path) h = blind_at w (Fine w) path (A.type_of_object width follow) (λ o c. blind_type_object width follow hf o)
  blind_type_at width follow hf (LocalOf n i) h = blind_then w (Fine w) (held width (LocalOf n i)) (A.type_of_value follow) (blind_held w width (LocalOf n i) h) (λ o p. blind_type_value follow hf o p)
  blind_type_at width follow hf (ArgOf n i) h = blind_then w (Fine w) (held width (ArgOf n i)) (A.type_of_value follow) (blind_held w width (ArgOf n i) h) (λ o p. blind_type_value follow hf o p)
  blind_type_at width follow hf (ElementAt place i) h = blind_then w (Fine w) (held width (ElementAt place i)) (A.type_of_value follow) (blind_held w width (ElementAt place i) h) (λ o p. blind_type_value follow hf o p)
  blind_type_at width follow hf (ElementOf v i) h = blind_then w (Fine w) (held width (ElementOf v i)) (A.type_of_value follow) (blind_held w width (ElementOf v i) h) (λ o p. blind_type_value follow hf o p)

  blind_object_type : (width : Width) (os : List Operand) → ClearOperands w os → Results (A.object_type width os)
  blind_object_type width (OfSpot DebugObject ∷ []) h = number 0x10
  blind_object_type width (OfSpot (At place) ∷ []) h =
      blind_then w (ClearAll w) (A.type_at width (A.type_at width (λ place. fail WrongType)) place) A.give_number
      (blind_type_at width _ (λ p c. blind_type_at width (λ place. fail WrongType) (λ p c. blind_fail w (Fine w) WrongType) p c) place h.0) (λ n p. number n)
  blind_object_type width os h = wrong

  blind_passes : (width : Width) (test : ℕ) (a d : Datum) → Sees w (A.passes_test width test a d)
  blind_passes width zero a d = blind_give w (Fine w) true tt
  blind_passes width (suc test) a d = blind_then w (Fine w) (A.compared width d a) _ (blind_compared width d a) (λ order p. blind_give w (Fine w) (A.passes (suc test) order) tt)

  blind_both : (b : Bool) (second : Action Bool) → Sees w second → Sees w (A.both_tests b second)
  blind_both true second h = h
  blind_both false second h = blind_give w (Fine w) false tt

  blind_next : (b : Bool) (i : ℕ) (later : Action ℕ) → Sees w later → Sees w (A.match_next b i later)
  blind_next true i later h = given i
  blind_next false i later h = h

  blind_matched : (width : Width) (test : Datum → Action Bool) → ((d : Datum) → Sees w (test d)) → (i skipped : ℕ) (es : Elements) → Sees w (A.matched width test i skipped es)
  blind_matched width test ht i skipped no_elements = given _
  blind_matched width test ht i (suc skipped) (uninitialized rest) = blind_matched width test ht (suc i) skipped rest
  blind_matched width test ht i (suc skipped) (element v rest) = blind_matched width test ht (suc i) skipped rest
  blind_matched width test ht i zero (element (Data d) rest) = blind_then w (Fine w) (test d) _ (ht d) (λ b p. blind_next b i _ (blind_matched width test ht (suc i) zero rest))
  blind_matched width test ht i zero (element (Package es) rest) = blind_matched width test ht (suc i) zero rest
  blind_matched width test ht i zero (element (Reference place) rest) = blind_matched width test ht (suc i) zero rest
  blind_matched width test ht i zero (uninitialized rest) = blind_matched width test ht (suc i) zero rest

  blind_match_in : (width : Width) (first : ℕ) (a : Datum) (second : ℕ) (b : Datum) (start : ℕ) (es : Elements) → Results (A.match_in width first a second b start es)
  blind_match_in width first a second b start es =
      blind_then w (ClearAll w) (A.matched width (λ d. and_then (A.passes_test width first a d) (λ ok. A.both_tests ok (A.passes_test width second b d))) 0 start es) A.give_number
      (blind_matched width _ (λ d. blind_then w (Fine w) (A.passes_test width first a d) (λ ok. A.both_tests ok (A.passes_test width second b d)) (blind_passes width first a d) (λ ok p. blind_both ok (A.passes_test width second b d) (blind_passes width second b d))) 0 start es) (λ n p. number n)

  blind_elements : (v : Value) → Sees w (A.elements_in v)
  blind_elements (Package es) = blind_give w (Fine w) es tt
  blind_elements (Data d) = blind_fail w (Fine w) WrongType
  blind_elements (Reference place) = blind_fail w (Fine w) WrongType

  blind_match : (width : Width) (os : List Operand) → ClearOperands w os → Results (A.match width os)
  blind_match width (OfValue v ∷ OfNumber first ∷ OfValue u ∷ OfNumber second ∷ OfValue x ∷ OfValue y ∷ []) h =
      blind_if w (ClearAll w) (nat_lt 5 first || nat_lt 5 second) (fail WrongType) _ wrong
      (blind_then w (ClearAll w) (direct width v) _ (blind_direct w width v h.0)
      (λ v p. blind_then w (ClearAll w) (A.elements_in v) _ (blind_elements v)
      (λ es q. with_data width u _ h.1.1.0 (λ a. with_data width x _ h.1.1.1.1.0 (λ b. with_number width y _ h.1.1.1.1.1.0 (λ start. blind_match_in width first a second b start es))))))
  blind_match width os h = wrong

  answer_truth : (width : Width) (event : Event) → Results (and_then (ask_number event) (A.give_truth width))
  answer_truth width event = blind_then w (ClearAll w) (ask_number event) (A.give_truth width) (blind_ask_number w event) (λ n p. number _)

  told : (event : Event) → Results (and_then (emit event) A.give_none)
  told event = blind_then w (ClearAll w) (emit event) A.give_none (blind_emit w event) (λ u p. none u)

  blind_acquire : (width : Width) (os : List Operand) → ClearOperands w os → Results (A.acquire width os)
  blind_acquire width (OfSpot (At (Named path)) ∷ OfNumber timeout ∷ []) h = answer_truth width (Acquire path timeout)
  blind_acquire width os h = wrong

  blind_wait : (width : Width) (os : List Operand) → ClearOperands w os → Results (A.wait width os)
  blind_wait width (OfSpot (At (Named path)) ∷ OfValue v ∷ []) h = with_number width v _ h.1.0 (λ timeout. answer_truth width (Wait path timeout))
  blind_wait width os h = wrong

  blind_asking : (event : Event) (width : Width) (os : List Operand) → ClearOperands w os → Results (A.asking event width os)
  blind_asking event width [] h = blind_then w (ClearAll w) (ask_number event) A.give_number (blind_ask_number w event) (λ n p. number n)
  blind_asking event width os h = wrong

  blind_telling : (event : Event) (width : Width) (os : List Operand) → ClearOperands w os → Results (A.telling event width os)
  blind_telling event width [] h = told event
  blind_telling event width os h = wrong

  blind_telling_path : (event : AbsolutePath → Event) (width : Width) (os : List Operand) → ClearOperands w os → Results (A.telling_path event width os)
  blind_telling_path event width (OfSpot (At (Named path)) ∷ []) h = told (event path)
  blind_telling_path event width os h = wrong

  blind_telling_number : (event : ℕ → Event) (width : Width) (os : List Operand) → ClearOperands w os → Results (A.telling_number event width os)
  blind_telling_number event width (OfValue v ∷ []) h = with_number width v _ h.0 (λ n. told (event n))
  blind_telling_number event width os h = wrong

  blind_fatal : (width : Width) (os : List Operand) → ClearOperands w os → Results (A.fatal width os)
  blind_fatal width (OfNumber type ∷ OfNumber code ∷ OfValue v ∷ []) h = with_number width v _ h.1.1.0 (λ n. told _)
  blind_fatal width os h = wrong

  blind_nothing : (width : Width) (os : List Operand) → ClearOperands w os → Results (A.nothing width os)
  blind_nothing width [] h = blind_give w (ClearAll w) [] tt
  blind_nothing width os h = wrong

  blind_notify_found : (n : ℕ) (o : Option (AbsolutePath × Object)) → Results (A.notify_found n o)
  blind_notify_found n None = missing
  blind_notify_found n (Some found) = blind_if w (ClearAll w) (A.takes_notices found.1) _ _ (told (Notify found.0 n)) wrong

  blind_notify_held : (n : ℕ) (o : Option Value) → Results (A.notify_held n o)
  blind_notify_held n (Some (Reference (Named path))) = blind_at w (ClearAll w) path (A.notify_found n) (λ o c. blind_notify_found n o)
  blind_notify_held n o = wrong

  blind_notify_object : (width : Width) (n : ℕ) (o : Option (AbsolutePath × Object)) → Results (A.notify_object width n o)
  blind_notify_object width n (Some (path, DataObject)) = blind_then w (ClearAll w) (held width (Named path)) (A.notify_held n) (blind_held w width (Named path) tt) (λ o p. blind_notify_held n o)
  blind_notify_object width n (Some (path, object)) = blind_notify_found n (Some (path, object))
  blind_notify_object width n None = missing

  blind_notify_place : (width : Width) (n : ℕ) (place : Place) → ClearPlace w place → Results (A.notify_place width n place)
  blind_notify_place width n (Named path) h = blind_at w (ClearAll w) path (A.notify_object width n) (λ o c. blind_notify_object width n o)
  blind_notify_place width n (LocalOf m i) h = blind_then w (ClearAll w) (held width (LocalOf m i)) (A.notify_held n) (blind_held w width (LocalOf m i) h) (λ o p. blind_notify_held n o)
  blind_notify_place width n (ArgOf m i) h = blind_then w (ClearAll w) (held width (ArgOf m i)) (A.notify_held n) (blind_held w width (ArgOf m i) h) (λ o p. blind_notify_held n o)
  blind_notify_place width n (ElementAt place i) h = blind_then w (ClearAll w) (held width (ElementAt place i)) (A.notify_held n) (blind_held w width (ElementAt place i) h) (λ o p. blind_notify_held n o)
  blind_notify_place width n (ElementOf v i) h = blind_then w (ClearAll w) (held width (ElementOf v i)) (A.notify_held n) (blind_held w width (ElementOf v i) h) (λ o p. blind_notify_held n o)

  blind_notify : (width : Width) (os : List Operand) → ClearOperands w os → Results (A.notify width os)
  blind_notify width (OfSpot (At place) ∷ OfValue v ∷ []) h = with_number width v _ h.1.0 (λ n. blind_notify_place width n place h.0)
  blind_notify width os h = wrong

  -- all of them
  pub blind_act : (op : Plain) (width : Width) (os : List Operand) → ClearOperands w os → Results (act_of op width os)
  blind_act (Plain.Number IntOp.Divide) width os h = blind_divide width os h
  blind_act (Plain.Number IntOp.LEqual) width os h = blind_compare A.is_equal width os h
  blind_act (Plain.Number IntOp.LGreater) width os h = blind_compare A.is_greater width os h
  blind_act (Plain.Number IntOp.LLess) width os h = blind_compare A.is_less width os h
  blind_act (Plain.Number op) width os h = blind_integers op width os h
  blind_act (Plain.Data DataOp.Increment) width os h = blind_step (λ width n. wrapped width (n + 1)) width os h
  blind_act (Plain.Data DataOp.Decrement) width os h = blind_step (λ width n. difference width n 1) width os h
  blind_act (Plain.Data DataOp.Store) width os h = blind_store_value width os h
  blind_act (Plain.Data DataOp.CopyObject) width os h = blind_copy width os h
  blind_act (Plain.Data DataOp.Concatenate) width os h = blind_concatenate width os h
  blind_act (Plain.Data DataOp.ConcatenateResTemplate) width os h = blind_templates width os h
  blind_act (Plain.Data DataOp.ToBuffer) width os h = blind_convert (λ width datum. Ok (Buffer (to_buffer width datum))) width os h
  blind_act (Plain.Data DataOp.ToDecimalString) width os h = blind_convert (λ width datum. Ok (String (decimal_string datum))) width os h
  blind_act (Plain.Data DataOp.ToHexString) width os h = blind_convert (λ width datum. Ok (String (hex_string width datum))) width os h
  blind_act (Plain.Data DataOp.ToInteger) width os h = blind_convert (λ width datum. if_ok (read_integer width datum) (λ n. Ok (Integer n))) width os h
  blind_act (Plain.Data DataOp.ToString) width os h = blind_to_string width os h
  blind_act (Plain.Data DataOp.Mid) width os h = blind_mid width os h
  blind_act (Plain.Data DataOp.Index) width os h = blind_index width os h
  blind_act (Plain.Data DataOp.DerefOf) width os h = blind_deref width os h
  blind_act (Plain.Data DataOp.RefOf) width os h = blind_ref width os h
  blind_act (Plain.Data DataOp.SizeOf) width os h = blind_size width os h
  blind_act (Plain.Data DataOp.ObjectType) width os h = blind_object_type width os h
  blind_act (Plain.Data DataOp.Match) width os h = blind_match width os h
  blind_act (Plain.Event EventOp.Acquire) width os h = blind_acquire width os h
  blind_act (Plain.Event EventOp.Wait) width os h = blind_wait width os h
  blind_act (Plain.Event EventOp.Timer) width os h = blind_asking O.Timer width os h
  blind_act (Plain.Event EventOp.Revision) width os h = blind_asking O.Revision width os h
  blind_act (Plain.Event EventOp.Release) width os h = blind_telling_path O.Release width os h
  blind_act (Plain.Event EventOp.Signal) width os h = blind_telling_path O.Signal width os h
  blind_act (Plain.Event EventOp.Reset) width os h = blind_telling_path O.Reset width os h
  blind_act (Plain.Event EventOp.Notify) width os h = blind_notify width os h
  blind_act (Plain.Event EventOp.Sleep) width os h = blind_telling_number O.Sleep width os h
  blind_act (Plain.Event EventOp.Stall) width os h = blind_telling_number O.Stall width os h
  blind_act (Plain.Event EventOp.Fatal) width os h = blind_fatal width os h
  blind_act (Plain.Event EventOp.Noop) width os h = blind_nothing width os h
  blind_act (Plain.Event EventOp.BreakPoint) width os h = blind_telling O.BreakPoint width os h
