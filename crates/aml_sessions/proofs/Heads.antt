-- What the bytes of terms begin with.
use Rattle.std.proofs.Common.{◌≡◌, ℕ, ◌≤◌, ◌^◌, Bool, true, false, List, [], ◌∷◌, ◌++◌, length, Some, None, refl, sym, ap, ◌∙◌, subst, arith, append_assoc}
use Rattle.std.specs.Prelude.{nat_eq, nat_lt, ◌&&◌, if◌then◌else◌}
use Rattle.std.proofs.lemmas.Bool.Decides.{nat_tests}
use Rattle.byteorder.specs.Endian.{little_bytes}
use Rattle.acpi_values.specs.declared.width.Width.{Width}
use Rattle.acpi_values.specs.Widths.{ones_of}
use Rattle.acpi_state.specs.Outcomes.{choose}
use Rattle.aml_code.specs.Fronts.{is_name_lead, begins_name, integer_front, text_front, number_front}
use Rattle.aml_meaning.specs.Codes.{Code, code_bytes, slot_front, IsCode}
use Rattle.aml_code.specs.Encoding.{integer_bytes, prefixed_bytes}
use Rattle.aml_meaning.proofs.CodeReads.{slot_at, code_reads}
use Rattle.aml_sessions.specs.Ready.{IsText}

-- bytes that begin neither as a name nor as a Local or an Arg
pub record NoPlace (bytes : List ℕ) : Type 0 where
  pub no_name : begins_name bytes ≡ false
  pub no_slot : slot_front bytes ≡ None

pub code_no_place : (code : Code) → IsCode code → slot_at code ≡ None → (tail rest : List ℕ) → NoPlace ((code_bytes code ++ tail) ++ rest)
code_no_place code own none tail rest =
    let r = code_reads code own (tail ++ rest) in
    subst NoPlace (sym (append_assoc (code_bytes code) tail rest)) (record { no_name = r.no_name; no_slot = r.slot_is ∙ none })

-- an integer has a byte, and begins no place
pub record IsInteger (bytes : List ℕ) : Type 0 where
  pub some : 1 ≤ length bytes
  pub no_place : (rest : List ℕ) → NoPlace (bytes ++ rest)

prefixed_integer : (number : ℕ) → IsInteger (prefixed_bytes number)
prefixed_integer number = by_byte (nat_lt number (2 ^ 8))
  where
    by_dword : (c : Bool) → IsInteger (if c then 0x0C ∷ little_bytes 4 number else 0x0E ∷ little_bytes 8 number)
    by_dword true = record { some = omega arith; no_place = λ rest. record { no_name = refl; no_slot = refl } }
    by_dword false = record { some = omega arith; no_place = λ rest. record { no_name = refl; no_slot = refl } }

    by_word : (c : Bool) → IsInteger (if c then 0x0B ∷ little_bytes 2 number else if nat_lt number (2 ^ 32) then 0x0C ∷ little_bytes 4 number else 0x0E ∷ little_bytes 8 number)
    by_word true = record { some = omega arith; no_place = λ rest. record { no_name = refl; no_slot = refl } }
    by_word false = by_dword (nat_lt number (2 ^ 32))

    by_byte : (c : Bool) → IsInteger (if c then 0x0A ∷ little_bytes 1 number else if nat_lt number (2 ^ 16) then 0x0B ∷ little_bytes 2 number else if nat_lt number (2 ^ 32) then 0x0C ∷ little_bytes 4 number else 0x0E ∷ little_bytes 8 number)
    by_byte true = record { some = omega arith; no_place = λ rest. record { no_name = refl; no_slot = refl } }
    by_byte false = by_word (nat_lt number (2 ^ 16))

pub is_integer : (width : Width) (short : Bool) (number : ℕ) → IsInteger (integer_bytes width short number)
is_integer width short number = by_zero (short && nat_eq number 0)
  where
    by_ones : (c : Bool) → IsInteger (if c then 0xFF ∷ [] else prefixed_bytes number)
    by_ones true = record { some = omega arith; no_place = λ rest. record { no_name = refl; no_slot = refl } }
    by_ones false = prefixed_integer number

    by_one : (c : Bool) → IsInteger (if c then 0x01 ∷ [] else if short && nat_eq number (ones_of width) then 0xFF ∷ [] else prefixed_bytes number)
    by_one true = record { some = omega arith; no_place = λ rest. record { no_name = refl; no_slot = refl } }
    by_one false = by_ones (short && nat_eq number (ones_of width))

    by_zero : (c : Bool) → IsInteger (if c then 0x00 ∷ [] else if short && nat_eq number 1 then 0x01 ∷ [] else if short && nat_eq number (ones_of width) then 0xFF ∷ [] else prefixed_bytes number)
    by_zero true = record { some = omega arith; no_place = λ rest. record { no_name = refl; no_slot = refl } }
    by_zero false = by_one (short && nat_eq number 1)

pub begins_append : (bytes rest : List ℕ) → begins_name bytes ≡ true → begins_name (bytes ++ rest) ≡ true
begins_append [] rest h = absurd (grind arith)
begins_append (byte ∷ bytes) rest h = h

pub begins_some : (bytes : List ℕ) → begins_name bytes ≡ true → 1 ≤ length bytes
begins_some [] h = absurd (grind arith)
begins_some (byte ∷ bytes) h = omega arith

lead_is_none : (byte : ℕ) → is_name_lead byte ≡ true → (nat_eq byte 0x00 ≡ false) × (nat_eq byte 0x01 ≡ false) × (nat_eq byte 0xFF ≡ false) × (nat_eq byte 0x0A ≡ false) × (nat_eq byte 0x0B ≡ false) × (nat_eq byte 0x0C ≡ false) × (nat_eq byte 0x0E ≡ false)
lead_is_none byte h =
    (grind (arith, nat_tests), grind (arith, nat_tests), grind (arith, nat_tests), grind (arith, nat_tests), grind (arith, nat_tests), grind (arith, nat_tests), grind (arith, nat_tests))

-- what begins as a name begins as no integer
pub name_no_integer : (width : Width) (bytes : List ℕ) → begins_name bytes ≡ true → integer_front width bytes ≡ None
name_no_integer width [] h = refl
name_no_integer width (byte ∷ bytes) h =
    let no = lead_is_none byte h in
    ap (λ c. if c then Some (0, bytes) else if nat_eq byte 0x01 then Some (1, bytes) else if nat_eq byte 0xFF then Some (ones_of width, bytes) else if nat_eq byte 0x0A then number_front 1 bytes else if nat_eq byte 0x0B then number_front 2 bytes else if nat_eq byte 0x0C then number_front 4 bytes else if nat_eq byte 0x0E then number_front 8 bytes else None) no.0
    ∙ ap (λ c. if c then Some (1, bytes) else if nat_eq byte 0xFF then Some (ones_of width, bytes) else if nat_eq byte 0x0A then number_front 1 bytes else if nat_eq byte 0x0B then number_front 2 bytes else if nat_eq byte 0x0C then number_front 4 bytes else if nat_eq byte 0x0E then number_front 8 bytes else None) no.1
    ∙ ap (λ c. if c then Some (ones_of width, bytes) else if nat_eq byte 0x0A then number_front 1 bytes else if nat_eq byte 0x0B then number_front 2 bytes else if nat_eq byte 0x0C then number_front 4 bytes else if nat_eq byte 0x0E then number_front 8 bytes else None) no.2
    ∙ ap (λ c. if c then number_front 1 bytes else if nat_eq byte 0x0B then number_front 2 bytes else if nat_eq byte 0x0C then number_front 4 bytes else if nat_eq byte 0x0E then number_front 8 bytes else None) no.3
    ∙ ap (λ c. if c then number_front 2 bytes else if nat_eq byte 0x0C then number_front 4 bytes else if nat_eq byte 0x0E then number_front 8 bytes else None) no.4
    ∙ ap (λ c. if c then number_front 4 bytes else if nat_eq byte 0x0E then number_front 8 bytes else None) no.5
    ∙ ap (λ c. if c then number_front 8 bytes else None) no.6

pub text_reads : (text rest : List ℕ) → IsText text → text_front ((text ++ 0x00 ∷ []) ++ rest) ≡ Some (text, rest)
text_reads [] rest h = refl
text_reads (c ∷ text) rest h =
    ap (λ b. if b then Some ([], (text ++ 0x00 ∷ []) ++ rest) else choose (text_front ((text ++ 0x00 ∷ []) ++ rest)) None (λ r. Some (c ∷ r.0, r.1))) h.0
    ∙ ap (λ o. choose o None (λ r. Some (c ∷ r.0, r.1))) (text_reads text rest h.1)
