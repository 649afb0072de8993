-- The walk over the list of a field makes the units of the list.
use Rattle.std.proofs.Common.{◌≡◌, ℕ, zero, suc, ◌+◌, ◌-◌, ◌*◌, ◌%◌, ◌^◌, ◌<◌, ◌≤◌, Bool, true, false, List, [], ◌∷◌, ◌++◌, length, Some, None, refl, ap, ◌∙◌, arith, length-append, le_refl}
use Rattle.std.specs.Prelude.{nat_eq, if◌then◌else◌}
use Rattle.std.proofs.lemmas.Bool.Decides.{nat_tests}
use Rattle.acpi_values.specs.declared.width.Width.{Width}
use Rattle.acpi_values.specs.Paths.{NameSeg, AbsolutePath}
use Rattle.acpi_state.specs.FieldUnits.{Connection, ToObject, ToResource, Link, unlinked, Extent, FieldUnit}
use Rattle.acpi_state.specs.Objects.{UnitObject}
use Rattle.acpi_state.specs.Outcomes.{Flow, Normal, done, then_run, act}
use Rattle.acpi_state.proofs.Readings.{Any}
use Rattle.asl_tree.specs.FieldItems.{FieldItem, UnitItem, SkipItem, OffsetItem, AccessItem, ConnectionItem, Connected, ToName, ToBytes}
use Rattle.asl_tree.specs.declared.path.Path.{Path}
use Rattle.asl_tree.specs.Tree.{UnitName}
use Rattle.asl_meaning.specs.Meaning as S
use Rattle.acpi_state.specs.Registers.{register_of}
use Rattle.asl_meaning.specs.FieldTerms.{Cursor, first_unit, behind_bits, accessed, connected_to, resource_of, create_unit, connect, create_units}
use Rattle.aml_code.specs.Fronts.{bit_count_front, is_segment, is_lead_character}
use Rattle.aml_code.specs.Encoding.{name_bytes, bit_count_bytes, prefixed_bytes, package_length_bytes}
use Rattle.aml_meaning.specs.Encoded.{connected_bytes, items_bytes, field_bytes}
use Rattle.aml_meaning.specs.ByteMeaning as B
use Rattle.aml_meaning.specs.ByteMeaning.{ByteRun, with_front, followed_by, ItemCode, GapCode, AccessCode, ConnectionCode, LongAccessCode, UnitCode, item_code}
use Rattle.aml_code.proofs.FrontReads.{lead_of, prefixed_reads}
use Rattle.aml_code.proofs.BitCounts.{bit_count_reads, segment_reads}
use Rattle.aml_sessions.specs.Ready.{AreItems, AreUnits, IsFound, IsConnected}
use Rattle.asl_meaning.proofs.Agreements.{Agree, agree_done, agree_then, agree_to, agree_create, agree_act}
use Rattle.aml_sessions.proofs.Bodies.{Setting, as_bytes, agree_followed, agree_found}
use Rattle.aml_sessions.proofs.Steps.{name_step, lead_step, package_step}

-- a region, and a register
agree_region_named : (given : Setting) (name : Path) (scope : AbsolutePath) (rest : List ℕ) → IsFound given.known name scope → Agree (as_bytes given) Any (λ p. (p, rest)) (S.region_at given.known name scope) (B.region_named scope name rest)
agree_region_named given name scope rest found =
    agree_followed given rest (agree_then (as_bytes given) Any (λ p. p) _ (agree_found given name scope found.0 found.1) (λ e is. agree_done (as_bytes given) Any (λ p. p) e.0 tt))

pub agree_region_at : (given : Setting) (name : Path) (scope : AbsolutePath) (rest : List ℕ) → IsFound given.known name scope → Agree (as_bytes given) Any (λ p. (p, rest)) (S.region_at given.known name scope) (B.region_at (name_bytes name ++ rest) scope)
agree_region_at given name scope rest found =
    agree_to (as_bytes given) (name_step name rest (B.region_named scope) found.1.used.is_name) (agree_region_named given name scope rest found)

pub agree_register_at : (given : Setting) (name : Path) (scope : AbsolutePath) (rest : List ℕ) → IsFound given.known name scope → Agree (as_bytes given) Any (λ u. (u, rest)) (S.register_at given.known name scope) (B.register_at (name_bytes name ++ rest) scope)
agree_register_at given name scope rest found =
    agree_to (as_bytes given) (name_step name rest (B.register_named scope) found.1.used.is_name)
    (agree_followed given rest (agree_then (as_bytes given) Any (λ u. u) _ (agree_found given name scope found.0 found.1) (λ e is. agree_act (as_bytes given) (register_of e))))

-- the first byte of a segment is that of no other item
no_other : (a : ℕ) → is_lead_character a ≡ true → (nat_eq a 0x00 ≡ false) × (nat_eq a 0x01 ≡ false) × (nat_eq a 0x02 ≡ false) × (nat_eq a 0x03 ≡ false)
no_other a h = (grind (arith, nat_tests), grind (arith, nat_tests), grind (arith, nat_tests), grind (arith, nat_tests))

unit_code : (a : ℕ) → is_lead_character a ≡ true → item_code a ≡ UnitCode
unit_code a h =
    let no = no_other a h in
    ap (λ t. if t then GapCode else if nat_eq a 0x01 then AccessCode else if nat_eq a 0x02 then ConnectionCode else if nat_eq a 0x03 then LongAccessCode else UnitCode) no.0
    ∙ ap (λ t. if t then AccessCode else if nat_eq a 0x02 then ConnectionCode else if nat_eq a 0x03 then LongAccessCode else UnitCode) no.1
    ∙ ap (λ t. if t then ConnectionCode else if nat_eq a 0x03 then LongAccessCode else UnitCode) no.2
    ∙ ap (λ t. if t then LongAccessCode else UnitCode) no.3

four : (name : NameSeg) → is_segment name ≡ true → length name ≡ 4
four (a ∷ b ∷ c ∷ d ∷ []) valid = refl
four _ valid = absurd (grind (arith, valid))

abbrev cursor : ℕ → ℕ → Link → Cursor
cursor at flags link = record { at = at; flags = flags; link = link }

module _ (width : Width) (unit : Extent → FieldUnit) (scope : AbsolutePath) where
  unit_step : (name : NameSeg) (bits : ℕ) (rest : List ℕ) (n : ℕ) (c : Cursor) → is_segment name ≡ true → bits < 2 ^ 28 →
      B.walk_items width (suc n) unit scope c ((name ++ bit_count_bytes bits) ++ rest) ≡ then_run (create_unit unit scope c name bits) (λ u. B.walk_items width n unit scope (behind_bits c bits) rest)
  unit_step (x ∷ y ∷ z ∷ w ∷ []) bits rest n c valid few =
      let name = x ∷ y ∷ z ∷ w ∷ [] in
      let behind = bit_count_bytes bits ++ rest in
      let go : NameSeg → List ℕ → ByteRun Flow = λ name rest. with_front (bit_count_front rest) (λ bits rest. then_run (create_unit unit scope c name bits) (λ u. B.walk_items width n unit scope (behind_bits c bits) rest)) in
      ap (λ k. B.walk_item width unit scope c (B.walk_items width n unit scope) k (name ++ behind) (y ∷ z ∷ w ∷ behind)) (unit_code x (lead_of x _ valid))
      ∙ ap (λ o. with_front o go) (segment_reads name valid behind)
      ∙ ap (λ o. with_front o (λ bits rest. then_run (create_unit unit scope c name bits) (λ u. B.walk_items width n unit scope (behind_bits c bits) rest))) (bit_count_reads bits few rest)
  unit_step _ bits rest n c valid few = absurd (grind (arith, valid))

  gap_step : (bits : ℕ) (rest : List ℕ) (n : ℕ) (c : Cursor) → bits < 2 ^ 28 → B.walk_items width (suc n) unit scope c (0x00 ∷ (bit_count_bytes bits ++ rest)) ≡ B.walk_items width n unit scope (behind_bits c bits) rest
  gap_step bits rest n c few = ap (λ o. with_front o (λ bits rest. B.walk_items width n unit scope (behind_bits c bits) rest)) (bit_count_reads bits few rest)

  -- an access as it is written
  access_step : (access attribute : ℕ) (rest : List ℕ) (n : ℕ) (c : Cursor) → access < 256 → attribute < 256 →
      B.walk_items width (suc n) unit scope c (0x01 ∷ (access % 256) ∷ (attribute % 256) ∷ rest) ≡ B.walk_items width n unit scope (accessed c access attribute 0) rest
  access_step access attribute rest n c few fewer =
      let one : access % 256 ≡ access = omega (arith, few) in
      let two : attribute % 256 ≡ attribute = omega (arith, fewer) in
      ap (λ k. B.walk_items width n unit scope (accessed c k (attribute % 256) 0) rest) one ∙ ap (λ k. B.walk_items width n unit scope (accessed c access k 0) rest) two

  long_access_step : (access attribute count : ℕ) (rest : List ℕ) (n : ℕ) (c : Cursor) → access < 256 → attribute < 256 → count < 256 →
      B.walk_items width (suc n) unit scope c (0x03 ∷ (access % 256) ∷ (attribute % 256) ∷ (count % 256) ∷ rest) ≡ B.walk_items width n unit scope (accessed c access attribute count) rest
  long_access_step access attribute count rest n c few fewer fewest =
      let one : access % 256 ≡ access = omega (arith, few) in
      let two : attribute % 256 ≡ attribute = omega (arith, fewer) in
      let three : count % 256 ≡ count = omega (arith, fewest) in
      ap (λ k. B.walk_items width n unit scope (accessed c k (attribute % 256) (count % 256)) rest) one
      ∙ ap (λ k. B.walk_items width n unit scope (accessed c access k (count % 256)) rest) two
      ∙ ap (λ k. B.walk_items width n unit scope (accessed c access attribute k) rest) three

module _ (given : Setting) (scope : AbsolutePath) where
  abbrev leads : Path → S.SourceRun AbsolutePath
  leads name = S.region_at given.known name scope

  -- a resource with its size
  resource_step : (bytes : List ℕ) → length bytes < 2 ^ 64 → B.resource_link given.width (prefixed_bytes (length bytes) ++ bytes) ≡ then_run (act (resource_of (length bytes) bytes)) (λ bytes. done (ToResource bytes))
  resource_step bytes few =
      let go : ℕ → List ℕ → ByteRun Connection = λ size bytes. then_run (act (resource_of size bytes)) (λ bytes. done (ToResource bytes)) in
      ap (λ o. with_front o go) (prefixed_reads given.width (length bytes) few bytes)

  -- what units are connected to
  agree_connect : (to : Connected) (rest : List ℕ) → IsConnected given.known to scope → length (connected_bytes to) + 4 < 2 ^ 28 →
      Agree (as_bytes given) Any (λ x. (x, rest)) (connect leads to) (B.link_at given.width scope (connected_bytes to ++ rest))
  agree_connect (ToName at name) rest found fits =
      agree_to (as_bytes given) (lead_step name rest (B.object_link scope) _ found.1.used)
      (agree_then (as_bytes given) Any (λ x. (x, rest)) (λ r. done (ToObject r.0, r.1)) (agree_region_named given name scope rest found)
      (λ path any. agree_done (as_bytes given) Any (λ x. (x, rest)) (ToObject path) tt))
  agree_connect (ToBytes bytes) rest ready fits =
      let content = prefixed_bytes (length bytes) ++ bytes in
      let inside : length content + 4 < 2 ^ 28 = omega (arith, fits, length-append (package_length_bytes (length content)) content) in
      let few : length bytes < 2 ^ 64 = omega (arith, inside, length-append (prefixed_bytes (length bytes)) bytes) in
      agree_to (as_bytes given) (package_step content rest (λ content after. followed_by after (B.resource_link given.width content)) inside)
      (agree_followed given rest
      (agree_to (as_bytes given) (resource_step bytes few)
      (agree_then (as_bytes given) Any (λ x. x) _ (agree_act (as_bytes given) (resource_of (length bytes) bytes))
      (λ bytes any. agree_done (as_bytes given) Any (λ x. x) (ToResource bytes) tt))))

  module _ (unit : Extent → FieldUnit) where
    abbrev Made : ℕ → ℕ → Link → List (FieldItem UnitName) → ℕ → List ℕ → Type 0
    Made at flags link items n bytes =
        Agree (as_bytes given) Any (λ f. f) (create_units leads unit scope (cursor at flags link) items) (B.walk_items given.width n unit scope (cursor at flags link) bytes)

    agree_items : (items : List (FieldItem UnitName)) (n at flags : ℕ) (link : Link) → AreItems at items → AreUnits given.known items scope → length (items_bytes at items) ≤ n → n + 4 < 2 ^ 28 →
        Made at flags link items n (items_bytes at items)
    agree_items [] n at flags link ready units le fits = agree_done (as_bytes given) Any (λ f. f) (Normal false) tt
    agree_items (UnitItem name bits ∷ items) zero at flags link ready units le fits = absurd (omega (arith, le, four name.segment ready.0.0, length-append (name.segment ++ bit_count_bytes bits) (items_bytes (at + bits) items), length-append name.segment (bit_count_bytes bits)))
    agree_items (UnitItem name bits ∷ items) (suc n) at flags link ready units le fits =
        agree_to (as_bytes given) (unit_step given.width unit scope name.segment bits (items_bytes (at + bits) items) n (cursor at flags link) ready.0.0 ready.0.1)
        (agree_then (as_bytes given) Any (λ f. f) _ (agree_create (as_bytes given) (name.segment ∷ scope) (UnitObject (unit (record { at = at; bits = bits; flags = flags; link = link }))) units.0)
        (λ u any. agree_items items n (at + bits) flags link ready.1 units.1 (omega (arith, le, four name.segment ready.0.0, length-append (name.segment ++ bit_count_bytes bits) (items_bytes (at + bits) items), length-append name.segment (bit_count_bytes bits))) (omega (arith, fits))))
    agree_items (SkipItem bits ∷ items) zero at flags link ready units le fits = absurd (omega (arith, le))
    agree_items (SkipItem bits ∷ items) (suc n) at flags link ready units le fits =
        agree_to (as_bytes given) (gap_step given.width unit scope bits (items_bytes (at + bits) items) n (cursor at flags link) ready.0)
        (agree_items items n (at + bits) flags link ready.1 units (omega (arith, le, length-append (bit_count_bytes bits) (items_bytes (at + bits) items))) (omega (arith, fits)))
    agree_items (AccessItem access attribute None ∷ items) zero at flags link ready units le fits = absurd (omega (arith, le))
    agree_items (AccessItem access attribute None ∷ items) (suc n) at flags link ready units le fits =
        let c = accessed (cursor at flags link) access attribute 0 in
        agree_to (as_bytes given) (access_step given.width unit scope access attribute (items_bytes at items) n (cursor at flags link) ready.0.0 ready.0.1)
        (agree_items items n at c.flags c.link ready.1 units (omega (arith, le)) (omega (arith, fits)))
    agree_items (AccessItem access attribute (Some count) ∷ items) zero at flags link ready units le fits = absurd (omega (arith, le))
    agree_items (AccessItem access attribute (Some count) ∷ items) (suc n) at flags link ready units le fits =
        let c = accessed (cursor at flags link) access attribute count in
        agree_to (as_bytes given) (long_access_step given.width unit scope access attribute count (items_bytes at items) n (cursor at flags link) ready.0.0 ready.0.1 ready.0.2)
        (agree_items items n at c.flags c.link ready.1 units (omega (arith, le)) (omega (arith, fits)))
    agree_items (ConnectionItem to ∷ items) zero at flags link ready units le fits = absurd (omega (arith, le))
    agree_items (ConnectionItem to ∷ items) (suc n) at flags link ready units le fits =
        let rest = items_bytes at items in
        let whole = length-append (connected_bytes to) rest in
        agree_then (as_bytes given) Any (λ f. f) (λ r. B.walk_items given.width n unit scope (connected_to (cursor at flags link) r.0) r.1) (agree_connect to rest units.0 (omega (arith, le, fits, whole)))
        (λ x any. let c = connected_to (cursor at flags link) x in agree_items items n at c.flags c.link ready.1 units.1 (omega (arith, le, whole)) (omega (arith, fits)))
    agree_items (OffsetItem bytes ∷ items) n at flags link ready units le fits = by_same (nat_eq (8 * bytes) at) refl n le fits (λ m. agree_items items m (8 * bytes) flags link ready.1 units)
      where
        Rest : ℕ → ℕ → Type 0
        Rest m from =
            Agree (as_bytes given) Any (λ f. f) (create_units leads unit scope (cursor (8 * bytes) flags link) items) (B.walk_items given.width m unit scope (cursor from flags link) (items_bytes (8 * bytes) items))

        by_same : (t : Bool) → nat_eq (8 * bytes) at ≡ t → (m : ℕ) → length ((if t then [] else 0x00 ∷ bit_count_bytes (8 * bytes - at)) ++ items_bytes (8 * bytes) items) ≤ m → m + 4 < 2 ^ 28 →
            ((k : ℕ) → length (items_bytes (8 * bytes) items) ≤ k → k + 4 < 2 ^ 28 → Rest k (8 * bytes)) →
            Agree (as_bytes given) Any (λ f. f) (create_units leads unit scope (cursor (8 * bytes) flags link) items) (B.walk_items given.width m unit scope (cursor at flags link) ((if t then [] else 0x00 ∷ bit_count_bytes (8 * bytes - at)) ++ items_bytes (8 * bytes) items))
        by_same true e m le fits rest = let here : at ≡ 8 * bytes = grind (arith, nat_tests) in agree_to (as_bytes given) (ap (λ k. B.walk_items given.width m unit scope (cursor k flags link) (items_bytes (8 * bytes) items)) here) (rest m le fits)
        by_same false e zero le fits rest = absurd (omega (arith, le))
        by_same false e (suc m) le fits rest =
            let here : at + (8 * bytes - at) ≡ 8 * bytes = omega (arith, ready.0.0) in
            agree_to (as_bytes given)
            (gap_step given.width unit scope (8 * bytes - at) (items_bytes (8 * bytes) items) m (cursor at flags link) ready.0.1 ∙ ap (λ k. B.walk_items given.width m unit scope (cursor k flags link) (items_bytes (8 * bytes) items)) here)
            (rest m (omega (arith, le, length-append (bit_count_bytes (8 * bytes - at)) (items_bytes (8 * bytes) items))) (omega (arith, fits)))

-- the flags, and the list
pub agree_field_list : (given : Setting) (unit : Extent → FieldUnit) (flags : ℕ) (scope : AbsolutePath) (items : List (FieldItem UnitName)) → flags < 256 → AreItems 0 items → AreUnits given.known items scope → length (field_bytes flags items) + 4 < 2 ^ 28 →
    Agree (as_bytes given) Any (λ f. f) (create_units (λ name. S.region_at given.known name scope) unit scope (first_unit flags) items) (B.field_list given.width unit scope (field_bytes flags items))
agree_field_list given unit flags scope items few ready units fits =
    let same : flags % 256 ≡ flags = omega (arith, few) in
    let inside : suc (length (items_bytes 0 items)) + 4 < 2 ^ 28 = fits in
    agree_to (as_bytes given) (ap (λ f. B.walk_items given.width (length (items_bytes 0 items)) unit scope (first_unit f) (items_bytes 0 items)) same)
    (agree_items given scope unit items (length (items_bytes 0 items)) 0 flags unlinked ready units (le_refl _) (omega (arith, inside)))
