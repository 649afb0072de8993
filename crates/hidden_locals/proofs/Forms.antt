-- What the expressions with a meaning of their own make does not see hidden Locals.
use Rattle.std.proofs.Common.{◌≡◌, ℕ, zero, suc, ◌-◌, Bool, true, false, List, [], ◌∷◌, length, Option, Some, None, refl, sym, subst}
use Rattle.std.specs.Prelude.{if◌then◌else◌, nat_eq, nat_lt, max, Ok, Err}
use Rattle.acpi_values.specs.declared.width.Width.{Width}
use Rattle.acpi_values.specs.declared.fault.Fault.{Fault}
use Rattle.acpi_values.specs.declared.fault.Fault.TheVariants.{WrongType, Size}
use Rattle.acpi_values.specs.Paths.{AbsolutePath}
use Rattle.acpi_values.specs.Widths.{ones_of}
use Rattle.acpi_values.specs.Values.{Integer, Buffer, Value, Data, Package, Reference, Elements, no_elements, uninitialized, element, Place, Named}
use Rattle.acpi_state.specs.State.{Frame, Store}
use Rattle.acpi_state.specs.FieldUnits.{Source, Over, OverItsOwn, BufferField}
use Rattle.acpi_state.specs.Objects.{Object, DataObject, UnitObject, BufferFieldObject, ExternalObject, ExternalMethod, ExternalData, ExternalOther, Names}
use Rattle.acpi_state.specs.Actions.{give, and_then}
use Rattle.acpi_state.specs.Places.{content, fitted}
use Rattle.acpi_state.specs.BufferFields.{bytes_of_buffer, within_bytes, source_of, new_buffer_field, keep_own}
use Rattle.acpi_state.specs.Stores.{Spot, Nowhere, DebugObject, At, store}
use Rattle.acpi_state.specs.Acts.{Operand, OfValue, OfKept, number_of}
use Rattle.acpi_state.specs.FieldActs.{region_extent, FieldForm, SomeBits, form_at, form_bits, new_field}
use Rattle.acpi_state.specs.Forms.{buffer_of, largest_size, element_count, all_uninitialized, followed, package_of, innermost_of, here, Slot, LocalSlot, ArgSlot, slot_of, slot_here, object_value, spot_in, reference_to, cond_ref_of}
use Rattle.acpi_state.specs.Registers.{register_of}
use Rattle.asl_meaning.specs.FieldTerms.{resource_of}
use Rattle.hidden_locals.specs.Worlds.{World, shown_at, shown_for, shown_here, hide_frames, hide, Clear, AreClear, ClearPlace, ClearHeld, ClearOption, ClearSpot, ClearOperands, numbers, ClearStore, ClearSource}
use Rattle.hidden_locals.specs.Blind.{GivenOk, BlindAt, Blind}
use Rattle.hidden_locals.specs.Terms.{IsShownSlot}
use Rattle.hidden_locals.proofs.Places.{Fine, blind_give, blind_fail, blind_then, blind_write_named, blind_content}
use Rattle.hidden_locals.proofs.Stores.{Sees, blind_if, blind_bytes, blind_within, blind_read, blind_store}
use Rattle.hidden_locals.proofs.Operators.{blind_number}

module _ (w : World) where
  -- an activation whose shown Locals those of the innermost one are
  abbrev IsHere : ℕ → Type 0
  IsHere n = (i : ℕ) → shown_here w i ≡ true → shown_at w n i ≡ true

  blind_here : Blind w IsHere here
  blind_here = record { by = λ names s cn cs. by_frames names s cs s.frames cs.running }
    where
      by_frames : (names : Names) (s : Store) → ClearStore w s → (fs : List Frame) → numbers fs ≡ w.running → BlindAt w IsHere s (innermost_of fs names s) (innermost_of (hide_frames w fs) names (hide w s))
      by_frames names s cs [] e = record { same = refl; result = tt; store = cs; keeps = refl }
      by_frames names s cs (f ∷ fs) e = record { same = refl; result = λ i h. subst (λ ns. shown_for w ns i ≡ true) (sym e) h; store = cs; keeps = refl }

  pub blind_slot : (slot : Slot) → IsShownSlot (shown_here w) slot → Blind w (ClearPlace w) (slot_here slot)
  blind_slot slot h = blind_then w (ClearPlace w) here (λ number. give (slot_of number slot)) blind_here (λ n p. blind_give w (ClearPlace w) (slot_of n slot) (at n slot p h))
    where
      at : (n : ℕ) (slot : Slot) → IsHere n → IsShownSlot (shown_here w) slot → ClearPlace w (slot_of n slot)
      at n (LocalSlot i) p h = p i h
      at n (ArgSlot i) p h = tt

  pub blind_spot_in : (v : Value) → Clear w v → Blind w (ClearSpot w) (spot_in v)
  blind_spot_in (Reference place) h = blind_give w (ClearSpot w) (At place) h
  blind_spot_in (Data d) h = blind_fail w (ClearSpot w) WrongType
  blind_spot_in (Package es) h = blind_fail w (ClearSpot w) WrongType

  pub blind_object : (width : Width) (path : AbsolutePath) (object : Object) → Blind w (Clear w) (object_value width path object)
  blind_object width path DataObject = blind_read w width (Named path) tt
  blind_object width path (UnitObject unit) = blind_read w width (Named path) tt
  blind_object width path (BufferFieldObject field) = blind_read w width (Named path) tt
  blind_object width path (ExternalObject (ExternalData type)) = blind_read w width (Named path) tt
  blind_object width path (ExternalObject (ExternalMethod arity)) = blind_give w (Clear w) (Reference (Named path)) tt
  blind_object width path (ExternalObject (ExternalOther type)) = blind_give w (Clear w) (Reference (Named path)) tt
  blind_object width path _ = blind_give w (Clear w) (Reference (Named path)) tt

  blind_reference : (spot : Spot) → ClearSpot w spot → Blind w (Clear w) (reference_to spot)
  blind_reference (At place) h = blind_give w (Clear w) (Reference place) h
  blind_reference Nowhere h = blind_fail w (Clear w) WrongType
  blind_reference DebugObject h = blind_fail w (Clear w) WrongType

  abbrev pub ClearIfSpot : Option Spot → Type 0
  ClearIfSpot None = Unit {0}
  ClearIfSpot (Some spot) = ClearSpot w spot

  pub blind_cond_ref : (width : Width) (o : Option Spot) (target : Spot) → ClearIfSpot o → ClearSpot w target → Blind w (Clear w) (cond_ref_of width o target)
  blind_cond_ref width None target h k = blind_give w (Clear w) (Data (Integer 0)) tt
  blind_cond_ref width (Some spot) target h k =
      blind_then w (Clear w) (reference_to spot) _ (blind_reference spot h)
      (λ r p. blind_then w (Clear w) (store width target r) _ (blind_store w width target r k p) (λ u q. blind_give w (Clear w) (Data (Integer (ones_of width))) tt))

  clear_none : (n : ℕ) → AreClear w (all_uninitialized n)
  clear_none zero = tt
  clear_none (suc n) = clear_none n

  clear_followed : (es more : Elements) → AreClear w es → AreClear w more → AreClear w (followed es more)
  clear_followed no_elements more h k = k
  clear_followed (uninitialized rest) more h k = clear_followed rest more h k
  clear_followed (element v rest) more h k = (h.0, clear_followed rest more h.1 k)

  sized : (c : Bool) (v : Value) (f : Fault) → Clear w v → GivenOk (Clear w) (if c then Err f else Ok v)
  sized true v f h = tt
  sized false v f h = h

  pub clear_package : (n : ℕ) (es : Elements) → AreClear w es → GivenOk (Clear w) (package_of n es)
  clear_package n es h =
      let size = max n (element_count es) in
      let more = all_uninitialized (size - element_count es) in
      sized (nat_lt largest_size size) (Package (followed es more)) Size (clear_followed es more h (clear_none (size - element_count es)))

  pub clear_buffer : (n : ℕ) (bytes : List ℕ) → GivenOk (Clear w) (buffer_of n bytes)
  clear_buffer n bytes =
      let size = max n (length bytes) in
      sized (nat_lt largest_size size) (Data (Buffer (fitted size bytes))) Size tt

  -- regions and buffer fields
  pub blind_extent : (width : Width) (os : List Operand) → ClearOperands w os → Sees w (region_extent width os)
  blind_extent width (OfValue v ∷ OfValue u ∷ []) h =
      blind_then w (Fine w) (number_of width v) _ (blind_number w width v h.0) (λ a p. blind_then w (Fine w) (number_of width u) _ (blind_number w width u h.1.0) (λ b q. blind_give w (Fine w) (a, b) tt))
  blind_extent width os h = blind_fail w (Fine w) WrongType

  pub blind_resource : (size : ℕ) (bytes : List ℕ) → Sees w (resource_of size bytes)
  blind_resource size bytes = blind_if w (Fine w) (nat_lt largest_size (max size (length bytes))) _ _ (blind_fail w (Fine w) Size) (blind_give w (Fine w) _ tt)

  pub blind_register : (entry : AbsolutePath × Object) → Sees w (register_of entry)
  blind_register (path, UnitObject unit) = blind_give w (Fine w) unit tt
  blind_register (path, ExternalObject (ExternalData type)) = blind_if w (Fine w) (nat_eq type 5) _ _ (blind_give w (Fine w) _ tt) (blind_fail w (Fine w) WrongType)
  blind_register (path, ExternalObject (ExternalMethod arity)) = blind_fail w (Fine w) WrongType
  blind_register (path, ExternalObject (ExternalOther type)) = blind_fail w (Fine w) WrongType
  blind_register (path, object) = blind_fail w (Fine w) WrongType

  abbrev FoundSource : Source × Option Value → Type 0
  FoundSource found = ClearSource w found.0 × ClearHeld w found.1

  blind_source_of : (place : Option Place) (v : Value) → ClearOption w place → Clear w v → Blind w FoundSource (source_of place v)
  blind_source_of place (Reference to) h p = blind_then w FoundSource (content to) _ (blind_content w to p) (λ o q. blind_give w FoundSource (Over to, o) (p, q))
  blind_source_of (Some place) (Data d) h p = blind_give w FoundSource (Over place, Some (Data d)) (h, p)
  blind_source_of (Some place) (Package es) h p = blind_give w FoundSource (Over place, Some (Package es)) (h, p)
  blind_source_of None (Data d) h p = blind_give w FoundSource (OverItsOwn, Some (Data d)) (tt, p)
  blind_source_of None (Package es) h p = blind_give w FoundSource (OverItsOwn, Some (Package es)) (tt, p)

  abbrev pub MadeField : BufferField × List ℕ → Type 0
  MadeField made = ClearSource w made.0.source

  blind_new : (place : Option Place) (v : Value) (at bits : ℕ) → ClearOption w place → Clear w v → Blind w MadeField (new_buffer_field place v at bits)
  blind_new place v at bits h p =
      blind_then w MadeField (source_of place v) _ (blind_source_of place v h p)
      (λ found q. let field : BufferField = record { source = found.0; at = at; bits = bits } in
      blind_then w MadeField (and_then (bytes_of_buffer found.1) (within_bytes field)) (λ bytes. give (field, bytes))
      (blind_then w (Fine w) (bytes_of_buffer found.1) (within_bytes field) (blind_bytes w found.1) (λ bytes u. blind_within w field bytes))
      (λ bytes u. blind_give w MadeField (field, bytes) q.0))

  blind_sized : (width : Width) (form : FieldForm) (place : Option Place) (v u : Value) → ClearOption w place → Clear w v → Clear w u → Blind w MadeField (and_then (number_of width u) (λ at. new_buffer_field place v (form_at form at) (form_bits form)))
  blind_sized width form place v u h p q = blind_then w MadeField (number_of width u) _ (blind_number w width u q) (λ at k. blind_new place v (form_at form at) (form_bits form) h p)

  pub blind_field : (width : Width) (form : FieldForm) (os : List Operand) → ClearOperands w os → Blind w MadeField (new_field width form os)
  blind_field width SomeBits (OfKept place v ∷ OfValue u ∷ OfValue x ∷ []) h =
      blind_then w MadeField (number_of width u) _ (blind_number w width u h.1.0)
      (λ at p. blind_then w MadeField (number_of width x) _ (blind_number w width x h.1.1.0) (λ bits q. blind_new place v at bits h.0.0 h.0.1))
  blind_field width form (OfKept place v ∷ OfValue u ∷ []) h = blind_sized width form place v u h.0.0 h.0.1 h.1.0
  blind_field width form os h = blind_fail w MadeField WrongType

  pub blind_keep_own : (path : AbsolutePath) (source : Source) (bytes : List ℕ) → Sees w (keep_own path source bytes)
  blind_keep_own path (Over place) bytes = blind_give w (Fine w) tt tt
  blind_keep_own path OverItsOwn bytes = blind_write_named w path _ tt
