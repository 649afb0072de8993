-- Reads and stores do not see hidden Locals.
use Rattle.std.proofs.Common.{ℕ, zero, suc, ◌+◌, ◌-◌, Bool, true, false, List, Option, Some, None, refl}
use Rattle.std.specs.Prelude.{if◌then◌else◌, nat_eq, nat_le, Result, Ok, Err}
use Rattle.acpi_values.specs.declared.width.Width.{Width}
use Rattle.acpi_values.specs.declared.fault.Fault.{Fault}
use Rattle.acpi_values.specs.declared.fault.Fault.TheVariants.{NotFound, WrongType, Uninitialized, Limit, OutOfRange}
use Rattle.acpi_values.specs.Paths.{AbsolutePath}
use Rattle.acpi_values.specs.Integers.{bits_of}
use Rattle.acpi_values.specs.Conversions.{to_integer, to_buffer}
use Rattle.acpi_values.specs.Values.{Datum, Integer, String, Buffer, Value, Data, Package, Reference, Place, Named, LocalOf, ArgOf, ElementAt, ElementOf}
use Rattle.acpi_state.specs.State.{Store}
use Rattle.acpi_state.specs.Objects.{Object, DataObject, RegionObject, UnitObject, BufferFieldObject, ExternalObject, ExternalData, ExternalOther, Names, Event, Debug, ReadExternal, WriteExternal, lookup}
use Rattle.acpi_state.specs.FieldUnits.{Extent, FieldUnit, InRegion, InBank, BehindIndex, OfOtherTable, Source, Over, OverItsOwn, BufferField}
use Rattle.acpi_state.specs.Outcomes.{Action}
use Rattle.acpi_state.specs.Actions.{give, fail, computed, and_then, needed, emit, ask, ask_number, write_named}
use Rattle.acpi_state.specs.Places.{data_in, content, put}
use Rattle.acpi_state.specs.Access.{bits_at, shift, Words, Port, Update, Preserve, WriteAsOnes, WriteAsZeros, update_of, word_bits, word_bytes, first_word, last_word, is_whole, read_words, old_word, new_word, write_word, write_words, through, window, window_to, is_within, words_in, words_behind, in_bank, Way}
use Rattle.acpi_state.specs.Access.{InWords, AsBuffer, AsPins, way_of, by_way, buffer_of_answer, ask_buffer, receive, transfer, read_by, write_by, within_region, words_port, port, value_of_bits, bits_of_value, read_bits, read_as, read_unit, buffer_of_value, write_bits, write_as, write_unit, bits_of_unit}
use Rattle.acpi_state.specs.BufferFields.{own_data, source_content, bytes_of_buffer, within_bytes, field_bytes, replace_source, read_buffer_field, write_buffer_field}
use Rattle.acpi_state.specs.Stores.{Spot, Nowhere, DebugObject, At, held_by, held, read, replaced, no_reference, direct, as_kind, store_data, unanswered, store_found, store_place, store_through, store_arg, store_to, store}
use Rattle.hidden_locals.specs.Worlds.{World, hide, Clear, ClearPlace, ClearHeld, ClearSource, ClearStore, ClearSpot}
use Rattle.hidden_locals.specs.Blind.{GivenOk, BlindAt, Blind}
use Rattle.hidden_locals.proofs.Places.{Fine, blind_give, blind_fail, blind_then, blind_computed, blind_names, blind_emit, blind_ask, blind_ask_number, blind_write_named, ClearFound, lookup_clear, blind_at, blind_data_in, blind_content, blind_put, if_ok_clear}

module _ (w : World) where
  abbrev pub Sees : {A : Type 0} → Action A → Type 0
  Sees a = Blind w (Fine w) a

  pub blind_if : {A : Type 0} (P : A → Type 0) (c : Bool) (a b : Action A) → Blind w P a → Blind w P b → Blind w P (if c then a else b)
  blind_if P true a b ha hb = ha
  blind_if P false a b ha hb = hb

  pub record BlindWords (words : Words) : Type 0 where
    pub read : (k : ℕ) → Sees (words.read k)
    pub write : (k v : ℕ) → Sees (words.write k v)

  pub record BlindPort (p : Port) : Type 0 where
    pub read : Sees p.read
    pub write : (v : ℕ) → Sees (p.write v)

  blind_read_words : (words : Words) → BlindWords words → (bits first count : ℕ) → Sees (read_words words bits first count)
  blind_read_words words h bits first zero = blind_give w (Fine w) 0 tt
  blind_read_words words h bits first (suc count) =
      blind_then w (Fine w) (words.read first) _ (h.read first) (λ low p. blind_then w (Fine w) (read_words words bits (suc first) count) _ (blind_read_words words h bits (suc first) count) (λ high q. blind_give w (Fine w) _ tt))

  blind_old : (words : Words) → BlindWords words → (bits k : ℕ) (u : Update) → Sees (old_word words bits k u)
  blind_old words h bits k Preserve = h.read k
  blind_old words h bits k WriteAsOnes = blind_give w (Fine w) _ tt
  blind_old words h bits k WriteAsZeros = blind_give w (Fine w) 0 tt

  blind_write_words : (words : Words) → BlindWords words → (extent : Extent) (value i count : ℕ) → Sees (write_words words extent value i count)
  blind_write_words words h extent value i zero = blind_give w (Fine w) tt tt
  blind_write_words words h extent value i (suc count) =
      let k = first_word extent + i in
      blind_then w (Fine w) (write_word words extent value i) _
      (blind_then w (Fine w) (if is_whole extent i then give 0 else old_word words (word_bits extent) k (update_of extent.flags)) (λ old. words.write k (new_word extent value i old))
      (blind_if (Fine w) (is_whole extent i) (give 0) (old_word words (word_bits extent) k (update_of extent.flags)) (blind_give w (Fine w) 0 tt) (blind_old words h (word_bits extent) k (update_of extent.flags))) (λ old p. h.write k (new_word extent value i old)))
      (λ u p. blind_write_words words h extent value (suc i) count)

  blind_through : (words : Words) → BlindWords words → (extent : Extent) → BlindPort (through words extent)
  blind_through words h extent =
      let count = suc (last_word extent) - first_word extent in
      record {
        read = blind_then w (Fine w) (read_words words (word_bits extent) (first_word extent) count) (λ number. give (bits_at number (shift extent) extent.bits)) (blind_read_words words h (word_bits extent) (first_word extent) count) (λ n p. blind_give w (Fine w) (bits_at n (shift extent) extent.bits) tt);
        write = λ v. blind_write_words words h extent v 0 count;
      }

  blind_window : (o : Option Object) → Sees (window o)
  blind_window None = blind_fail w (Fine w) NotFound
  blind_window (Some (RegionObject space offset size)) = blind_give w (Fine w) _ tt
  blind_window (Some (ExternalObject (ExternalOther type))) = blind_if (Fine w) (nat_eq type 0xA) _ _ (blind_give w (Fine w) _ tt) (blind_fail w (Fine w) WrongType)
  blind_window (Some (ExternalObject other)) = blind_fail w (Fine w) WrongType
  blind_window (Some object) = blind_fail w (Fine w) WrongType

  blind_window_to : (region : AbsolutePath) (end : ℕ) → Sees (window_to region end)
  blind_window_to region end =
      blind_names w (Fine w) (λ names. and_then (window (lookup names region)) (λ x. if is_within x.limit end then give x else fail Limit))
      (λ names cn. blind_then w (Fine w) (window (lookup names region)) _ (blind_window (lookup names region)) (λ x p. blind_if (Fine w) (is_within x.limit end) _ _ (blind_give w (Fine w) x tt) (blind_fail w (Fine w) Limit)))

  blind_words_in : (region : AbsolutePath) (bytes : ℕ) → BlindWords (words_in region bytes)
  blind_words_in region bytes =
      record {
        read = λ k. blind_then w (Fine w) (window_to region _) _ (blind_window_to region _) (λ x p. blind_then w (Fine w) (ask_number _) _ (blind_ask_number w _) (λ answer q. blind_give w (Fine w) _ tt));
        write = λ k v. blind_then w (Fine w) (window_to region _) _ (blind_window_to region _) (λ x p. blind_emit w _);
      }

  blind_words_behind : (index register : Port) → BlindPort index → BlindPort register → (bytes : ℕ) → BlindWords (words_behind index register bytes)
  blind_words_behind index register hi hr bytes =
      record {
        read = λ k. blind_then w (Fine w) (index.write _) _ (hi.write _) (λ u p. blind_then w (Fine w) register.read _ hr.read (λ n q. blind_give w (Fine w) _ tt));
        write = λ k v. blind_then w (Fine w) (index.write _) _ (hi.write _) (λ u p. hr.write v);
      }

  blind_bank : (bank : Port) (value : ℕ) (unit : Port) → BlindPort bank → BlindPort unit → BlindPort (in_bank bank value unit)
  blind_bank bank value unit hb hu =
      record {
        read = blind_then w (Fine w) (bank.write value) _ (hb.write value) (λ u p. hu.read);
        write = λ v. blind_then w (Fine w) (bank.write value) _ (hb.write value) (λ u p. hu.write v);
      }

  -- what is said of the unit by what its region is
  blind_by_way : {A : Type 0} (P : A → Type 0) (region : AbsolutePath) (extent : Extent) (f : Way → Action A) → ((way : Way) → Blind w P (f way)) → Blind w P (by_way region extent f)
  blind_by_way P region extent f h = blind_names w P (λ names. f (way_of (lookup names region) extent.flags)) (λ names cn. h (way_of (lookup names region) extent.flags))

  blind_ask_buffer : (event : Event) → Sees (ask_buffer event)
  blind_ask_buffer event = blind_then w (Fine w) (ask event) (λ answer. give (buffer_of_answer answer)) (blind_ask w event) (λ v p. blind_give w (Fine w) (buffer_of_answer v) tt)

  fine_ok : {A : Type 0} (r : Result A Fault) → GivenOk (Fine w) r
  fine_ok (Ok a) = tt
  fine_ok (Err f) = tt

  blind_read_by : (width : Width) (region : AbsolutePath) (extent : Extent) (words : Port) → BlindPort words → (way : Way) → Sees (read_by width region extent words way)
  blind_read_by width region extent words h InWords = h.read
  blind_read_by width region extent words h (AsBuffer space) =
      blind_then w (Fine w) (receive region space extent) (λ bytes. computed (to_integer width (Buffer bytes))) (blind_ask_buffer _) (λ bytes p. blind_computed w (Fine w) (to_integer width (Buffer bytes)) (fine_ok (to_integer width (Buffer bytes))))
  blind_read_by width region extent words h AsPins = blind_then w (Fine w) (ask_number _) _ (blind_ask_number w _) (λ answer p. blind_give w (Fine w) _ tt)

  blind_write_by : (width : Width) (region : AbsolutePath) (extent : Extent) (words : Port) → BlindPort words → (number : ℕ) (way : Way) → Sees (write_by width region extent words number way)
  blind_write_by width region extent words h number InWords = h.write number
  blind_write_by width region extent words h number (AsBuffer space) = blind_then w (Fine w) (transfer region space extent (to_buffer width (Integer number))) (λ answer. give tt) (blind_ask_buffer _) (λ answer p. blind_give w (Fine w) tt tt)
  blind_write_by width region extent words h number AsPins = blind_emit w _

  blind_within_region : (width : Width) (region : AbsolutePath) (extent : Extent) (words : Port) → BlindPort words → BlindPort (within_region width region extent words)
  blind_within_region width region extent words h =
      record {
        read = blind_by_way (Fine w) region extent (read_by width region extent words) (blind_read_by width region extent words h);
        write = λ v. blind_by_way (Fine w) region extent (write_by width region extent words v) (blind_write_by width region extent words h v);
      }

  blind_words_port : (region : AbsolutePath) (extent : Extent) → BlindPort (words_port region extent)
  blind_words_port region extent = blind_through (words_in region (word_bytes extent)) (blind_words_in region (word_bytes extent)) extent

  blind_port : (width : Width) (unit : FieldUnit) → BlindPort (port width unit)
  blind_port width (InRegion region extent) = blind_within_region width region extent (words_port region extent) (blind_words_port region extent)
  blind_port width (InBank region bank value extent) =
      blind_within_region width region extent (in_bank (port width bank) value (words_port region extent)) (blind_bank (port width bank) value (words_port region extent) (blind_port width bank) (blind_words_port region extent))
  blind_port width (BehindIndex index register extent) =
      blind_through (words_behind (port width index) (port width register) (word_bytes extent)) (blind_words_behind (port width index) (port width register) (blind_port width index) (blind_port width register) (word_bytes extent)) extent
  blind_port width (OfOtherTable path) = record { read = blind_ask_number w (ReadExternal path); write = λ v. blind_emit w _ }

  bits_clear : (width : Width) (bits number : ℕ) → Clear w (value_of_bits width bits number)
  bits_clear width bits number = by_size (nat_le bits (bits_of width)) _ _
    where
      by_size : (c : Bool) (a b : Datum) → Clear w (if c then Data a else Data b)
      by_size true a b = tt
      by_size false a b = tt

  blind_bits : (v : Value) → Sees (bits_of_value v)
  blind_bits (Data (Integer n)) = blind_give w (Fine w) n tt
  blind_bits (Data (String bytes)) = blind_give w (Fine w) _ tt
  blind_bits (Data (Buffer bytes)) = blind_give w (Fine w) _ tt
  blind_bits (Package es) = blind_fail w (Fine w) WrongType
  blind_bits (Reference place) = blind_fail w (Fine w) WrongType

  blind_read_bits : (width : Width) (unit : FieldUnit) → Blind w (Clear w) (read_bits width unit)
  blind_read_bits width unit = blind_then w (Clear w) (port width unit).read _ (blind_port width unit).read (λ n p. blind_give w (Clear w) _ (bits_clear width (bits_of_unit unit) n))

  blind_read_as : (width : Width) (unit : FieldUnit) (region : AbsolutePath) (extent : Extent) (way : Way) → Blind w (Clear w) (read_as width unit region extent way)
  blind_read_as width unit region extent (AsBuffer space) = blind_then w (Clear w) (receive region space extent) (λ bytes. give (Data (Buffer bytes))) (blind_ask_buffer _) (λ bytes p. blind_give w (Clear w) (Data (Buffer bytes)) tt)
  blind_read_as width unit region extent InWords = blind_read_bits width unit
  blind_read_as width unit region extent AsPins = blind_read_bits width unit

  blind_read_unit : (width : Width) (unit : FieldUnit) → Blind w (Clear w) (read_unit width unit)
  blind_read_unit width (InRegion region extent) = blind_by_way (Clear w) region extent (read_as width (InRegion region extent) region extent) (blind_read_as width (InRegion region extent) region extent)
  blind_read_unit width (InBank region bank value extent) = blind_by_way (Clear w) region extent (read_as width (InBank region bank value extent) region extent) (blind_read_as width (InBank region bank value extent) region extent)
  blind_read_unit width (BehindIndex index register extent) = blind_read_bits width (BehindIndex index register extent)
  blind_read_unit width (OfOtherTable path) = blind_read_bits width (OfOtherTable path)

  blind_write_bits : (width : Width) (unit : FieldUnit) (v : Value) → Blind w (ClearHeld w) (write_bits width unit v)
  blind_write_bits width unit v =
      blind_then w (ClearHeld w) (bits_of_value v) _ (blind_bits v) (λ n p. blind_then w (ClearHeld w) ((port width unit).write n) (λ u. give None) ((blind_port width unit).write n) (λ u q. blind_give w (ClearHeld w) None tt))

  blind_buffer_of : (width : Width) (v : Value) → Sees (buffer_of_value width v)
  blind_buffer_of width (Data datum) = blind_give w (Fine w) _ tt
  blind_buffer_of width (Package es) = blind_fail w (Fine w) WrongType
  blind_buffer_of width (Reference place) = blind_fail w (Fine w) WrongType

  blind_write_as : (width : Width) (unit : FieldUnit) (v : Value) (region : AbsolutePath) (extent : Extent) (way : Way) → Blind w (ClearHeld w) (write_as width unit v region extent way)
  blind_write_as width unit v region extent (AsBuffer space) =
      blind_then w (ClearHeld w) (buffer_of_value width v) _ (blind_buffer_of width v)
      (λ bytes p. blind_then w (ClearHeld w) (transfer region space extent bytes) (λ answer. give (Some (Data (Buffer answer)))) (blind_ask_buffer _) (λ answer q. blind_give w (ClearHeld w) (Some (Data (Buffer answer))) tt))
  blind_write_as width unit v region extent InWords = blind_write_bits width unit v
  blind_write_as width unit v region extent AsPins = blind_write_bits width unit v

  blind_write_unit : (width : Width) (unit : FieldUnit) (v : Value) → Blind w (ClearHeld w) (write_unit width unit v)
  blind_write_unit width (InRegion region extent) v = blind_by_way (ClearHeld w) region extent (write_as width (InRegion region extent) v region extent) (blind_write_as width (InRegion region extent) v region extent)
  blind_write_unit width (InBank region bank value extent) v = blind_by_way (ClearHeld w) region extent (write_as width (InBank region bank value extent) v region extent) (blind_write_as width (InBank region bank value extent) v region extent)
  blind_write_unit width (BehindIndex index register extent) v = blind_write_bits width (BehindIndex index register extent) v
  blind_write_unit width (OfOtherTable path) v = blind_write_bits width (OfOtherTable path) v

  blind_own : (path : AbsolutePath) → Blind w (Clear w) (own_data path)
  blind_own path = record { by = λ names s cn cs. by_value names s cs (lookup s.values path) (lookup_clear w s.values path cs.values) }
    where
      by_value : (names : Names) (s : Store) → ClearStore w s → (o : Option Value) → ClearHeld w o → BlindAt w (Clear w) s (needed NotFound o names s) (needed NotFound o names (hide w s))
      by_value names s cs None h = record { same = refl; result = tt; store = cs; keeps = refl }
      by_value names s cs (Some v) h = record { same = refl; result = h; store = cs; keeps = refl }

  blind_source : (path : AbsolutePath) (source : Source) → ClearSource w source → Blind w (ClearHeld w) (source_content path source)
  blind_source path (Over place) h = blind_content w place h
  blind_source path OverItsOwn h = blind_then w (ClearHeld w) (own_data path) _ (blind_own path) (λ v p. blind_give w (ClearHeld w) (Some v) p)

  pub blind_bytes : (o : Option Value) → Sees (bytes_of_buffer o)
  blind_bytes (Some (Data (Buffer bytes))) = blind_give w (Fine w) bytes tt
  blind_bytes (Some (Data (Integer n))) = blind_fail w (Fine w) WrongType
  blind_bytes (Some (Data (String bytes))) = blind_fail w (Fine w) WrongType
  blind_bytes (Some (Package es)) = blind_fail w (Fine w) WrongType
  blind_bytes (Some (Reference place)) = blind_fail w (Fine w) WrongType
  blind_bytes None = blind_fail w (Fine w) WrongType

  pub blind_within : (field : BufferField) (bytes : List ℕ) → Sees (within_bytes field bytes)
  blind_within field bytes = blind_if (Fine w) _ (give bytes) (fail OutOfRange) (blind_give w (Fine w) bytes tt) (blind_fail w (Fine w) OutOfRange)

  blind_field_bytes : (path : AbsolutePath) (field : BufferField) → ClearSource w field.source → Sees (field_bytes path field)
  blind_field_bytes path field h =
      blind_then w (Fine w) (and_then (source_content path field.source) bytes_of_buffer) (within_bytes field)
      (blind_then w (Fine w) (source_content path field.source) bytes_of_buffer (blind_source path field.source h) (λ o p. blind_bytes o)) (λ bytes p. blind_within field bytes)

  blind_replace : (width : Width) (path : AbsolutePath) (source : Source) (v : Value) → ClearSource w source → Clear w v → Sees (replace_source width path source v)
  blind_replace width path (Over place) v h p = blind_put w width place v h p
  blind_replace width path OverItsOwn v h p = blind_write_named w path v p

  blind_read_field : (width : Width) (path : AbsolutePath) (field : BufferField) → ClearSource w field.source → Blind w (Clear w) (read_buffer_field width path field)
  blind_read_field width path field h = blind_then w (Clear w) (field_bytes path field) _ (blind_field_bytes path field h) (λ bytes p. blind_give w (Clear w) _ (bits_clear width field.bits _))

  blind_write_field : (width : Width) (path : AbsolutePath) (field : BufferField) (v : Value) → ClearSource w field.source → Sees (write_buffer_field width path field v)
  blind_write_field width path field v h =
      blind_then w (Fine w) (bits_of_value v) _ (blind_bits v)
      (λ n p. blind_then w (Fine w) (field_bytes path field) _ (blind_field_bytes path field h) (λ bytes q. blind_replace width path field.source _ h tt))

  blind_held_by : (width : Width) (o : Option (AbsolutePath × Object)) → ClearFound w o → Blind w (ClearHeld w) (held_by width o)
  blind_held_by width (Some (path, UnitObject unit)) c = blind_then w (ClearHeld w) (read_unit width unit) _ (blind_read_unit width unit) (λ v p. blind_give w (ClearHeld w) (Some v) p)
  blind_held_by width (Some (path, BufferFieldObject field)) c = blind_then w (ClearHeld w) (read_buffer_field width path field) _ (blind_read_field width path field c) (λ v p. blind_give w (ClearHeld w) (Some v) p)
  blind_held_by width (Some (path, ExternalObject (ExternalData type))) c = blind_then w (ClearHeld w) (ask (ReadExternal path)) _ (blind_ask w (ReadExternal path)) (λ v p. blind_give w (ClearHeld w) (Some v) p)
  blind_held_by width (Some (path, ExternalObject other)) c = blind_data_in w (Some (path, ExternalObject other))
  blind_held_by width (Some (path, object)) c = blind_data_in w (Some (path, object))
  blind_held_by width None c = blind_data_in w None

  pub blind_held : (width : Width) (place : Place) → ClearPlace w place → Blind w (ClearHeld w) (held width place)
  blind_held width (Named path) h = blind_at w (ClearHeld w) path (held_by width) (λ o c. blind_held_by width o c)
  blind_held width (LocalOf n i) h = blind_content w (LocalOf n i) h
  blind_held width (ArgOf n i) h = blind_content w (ArgOf n i) h
  blind_held width (ElementAt place i) h = blind_content w (ElementAt place i) h
  blind_held width (ElementOf v i) h = blind_content w (ElementOf v i) h

  needed_clear : (f : Fault) (o : Option Value) → ClearHeld w o → Blind w (Clear w) (needed f o)
  needed_clear f None h = blind_fail w (Clear w) f
  needed_clear f (Some v) h = blind_give w (Clear w) v h

  pub blind_read : (width : Width) (place : Place) → ClearPlace w place → Blind w (Clear w) (read width place)
  blind_read width place h = blind_then w (Clear w) (held width place) (needed Uninitialized) (blind_held width place h) (λ o p. needed_clear Uninitialized o p)

  pub blind_replaced : (width : Width) (v : Value) → Clear w v → Blind w (Clear w) (replaced width v)
  blind_replaced width (Reference place) h = blind_read width place h
  blind_replaced width (Data datum) h = blind_give w (Clear w) (Data datum) h
  blind_replaced width (Package es) h = blind_give w (Clear w) (Package es) h

  blind_no_reference : (v : Value) → Clear w v → Blind w (Clear w) (no_reference v)
  blind_no_reference (Reference place) h = blind_fail w (Clear w) WrongType
  blind_no_reference (Data datum) h = blind_give w (Clear w) (Data datum) h
  blind_no_reference (Package es) h = blind_give w (Clear w) (Package es) h

  pub blind_direct : (width : Width) (v : Value) → Clear w v → Blind w (Clear w) (direct width v)
  blind_direct width (Reference place) h = blind_then w (Clear w) (read width place) no_reference (blind_read width place h) (λ v p. blind_no_reference v p)
  blind_direct width (Data datum) h = blind_give w (Clear w) (Data datum) h
  blind_direct width (Package es) h = blind_give w (Clear w) (Package es) h

  kind_clear : (width : Width) (old v : Value) → Clear w v → GivenOk (Clear w) (as_kind width old v)
  kind_clear width (Data (Integer n)) (Data datum) h = if_ok_clear w (Clear w) (to_integer width datum) _ (λ n. tt)
  kind_clear width (Data (String text)) (Data datum) h = tt
  kind_clear width (Data (Buffer bytes)) (Data datum) h = tt
  kind_clear width (Package old) (Package es) h = h
  kind_clear width _ _ h = tt

  blind_store_data : (width : Width) (path : AbsolutePath) (v : Value) (o : Option Value) → Clear w v → Sees (store_data width path v o)
  blind_store_data width path v None h = blind_fail w (Fine w) Uninitialized
  blind_store_data width path v (Some old) h = blind_then w (Fine w) (computed (as_kind width old v)) (write_named path) (blind_computed w (Clear w) (as_kind width old v) (kind_clear width old v h)) (λ u p. blind_write_named w path u p)

  blind_unanswered : (a : Action (Unit {0})) → Sees a → Blind w (ClearHeld w) (unanswered a)
  blind_unanswered a h = blind_then w (ClearHeld w) a (λ u. give None) h (λ u p. blind_give w (ClearHeld w) None tt)

  -- a store, with the answer that it may have
  blind_store_found : (width : Width) (v : Value) → Clear w v → (o : Option (AbsolutePath × Object)) → ClearFound w o → Blind w (ClearHeld w) (store_found width v o)
  blind_store_found width v h (Some (path, UnitObject unit)) c = blind_write_unit width unit v
  blind_store_found width v h (Some (path, BufferFieldObject field)) c = blind_unanswered (write_buffer_field width path field v) (blind_write_field width path field v c)
  blind_store_found width v h (Some (path, ExternalObject (ExternalData type))) c = blind_unanswered (emit (WriteExternal path v)) (blind_emit w (WriteExternal path v))
  blind_store_found width v h (Some (path, DataObject)) c =
      blind_unanswered (and_then (data_in (Some (path, DataObject))) (store_data width path v)) (blind_then w (Fine w) (data_in (Some (path, DataObject))) (store_data width path v) (blind_data_in w (Some (path, DataObject))) (λ o p. blind_store_data width path v o h))
  blind_store_found width v h None c = blind_fail w (ClearHeld w) NotFound
  blind_store_found width v h (Some (path, ExternalObject other)) c = blind_fail w (ClearHeld w) WrongType
  blind_store_found width v h (Some (path, object)) c = blind_fail w (ClearHeld w) WrongType

  silent_put : (width : Width) (place : Place) (v : Value) → ClearPlace w place → Clear w v → Blind w (ClearHeld w) (unanswered (put width place v))
  silent_put width place v h p = blind_unanswered (put width place v) (blind_put w width place v h p)

  blind_store_place : (width : Width) (place : Place) (v : Value) → ClearPlace w place → Clear w v → Blind w (ClearHeld w) (store_place width place v)
  blind_store_place width (Named path) v h p = blind_at w (ClearHeld w) path (store_found width v) (λ o c. blind_store_found width v p o c)
  blind_store_place width (LocalOf n i) v h p = silent_put width (LocalOf n i) v h p
  blind_store_place width (ArgOf n i) v h p = silent_put width (ArgOf n i) v h p
  blind_store_place width (ElementAt place i) v h p = silent_put width (ElementAt place i) v h p
  blind_store_place width (ElementOf u i) v h p = silent_put width (ElementOf u i) v h p

  then_place : (width : Width) (place : Place) (v : Value) → ClearPlace w place → Clear w v → Blind w (ClearHeld w) (and_then (replaced width v) (store_place width place))
  then_place width place v h p = blind_then w (ClearHeld w) (replaced width v) (store_place width place) (blind_replaced width v p) (λ u q. blind_store_place width place u h q)

  blind_store_through : (width : Width) (place : Place) (v : Value) → ClearPlace w place → Clear w v → Blind w (ClearHeld w) (store_through width place v)
  blind_store_through width (LocalOf n i) v h p = silent_put width (LocalOf n i) v h p
  blind_store_through width (ArgOf n i) v h p = silent_put width (ArgOf n i) v h p
  blind_store_through width (Named path) v h p = then_place width (Named path) v h p
  blind_store_through width (ElementAt place i) v h p = then_place width (ElementAt place i) v h p
  blind_store_through width (ElementOf u i) v h p = then_place width (ElementOf u i) v h p

  blind_store_arg : (width : Width) (place : Place) (o : Option Value) (v : Value) → ClearPlace w place → ClearHeld w o → Clear w v → Blind w (ClearHeld w) (store_arg width place o v)
  blind_store_arg width place (Some (Reference to)) v h q p = blind_store_through width to v q p
  blind_store_arg width place (Some (Data datum)) v h q p = silent_put width place v h p
  blind_store_arg width place (Some (Package es)) v h q p = silent_put width place v h p
  blind_store_arg width place None v h q p = silent_put width place v h p

  pub blind_store_to : (width : Width) (spot : Spot) (v : Value) → ClearSpot w spot → Clear w v → Blind w (ClearHeld w) (store_to width spot v)
  blind_store_to width Nowhere v h p = blind_give w (ClearHeld w) None tt
  blind_store_to width DebugObject v h p =
      blind_unanswered (and_then (replaced width v) (λ u. emit (Debug u))) (blind_then w (Fine w) (replaced width v) (λ u. emit (Debug u)) (blind_replaced width v p) (λ u q. blind_emit w (Debug u)))
  blind_store_to width (At (LocalOf n i)) v h p = silent_put width (LocalOf n i) v h p
  blind_store_to width (At (ArgOf n i)) v h p = blind_then w (ClearHeld w) (content (ArgOf n i)) _ (blind_content w (ArgOf n i) h) (λ old q. blind_store_arg width (ArgOf n i) old v h q p)
  blind_store_to width (At (Named path)) v h p = then_place width (Named path) v h p
  blind_store_to width (At (ElementAt place i)) v h p = then_place width (ElementAt place i) v h p
  blind_store_to width (At (ElementOf u i)) v h p = then_place width (ElementOf u i) v h p

  pub blind_store : (width : Width) (spot : Spot) (v : Value) → ClearSpot w spot → Clear w v → Sees (store width spot v)
  blind_store width spot v h p = blind_then w (Fine w) (store_to width spot v) (λ answer. give tt) (blind_store_to width spot v h p) (λ answer q. blind_give w (Fine w) tt tt)
