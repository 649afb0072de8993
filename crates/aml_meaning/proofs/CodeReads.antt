-- Each opcode reads as itself, and as no name and no integer.
use Rattle.std.proofs.Common.{◌≡◌, ℕ, zero, suc, ◌<◌, false, List, ◌++◌, length, ◌≤◌, Option, Some, None, refl, arith}
use Rattle.acpi_values.specs.declared.operator.IntOp.TheVariants as IntOp
use Rattle.acpi_values.specs.declared.operator.DataOp.TheVariants as DataOp
use Rattle.acpi_values.specs.declared.operator.EventOp.TheVariants as EventOp
use Rattle.acpi_values.specs.declared.operator.Plain.{Plain}
use Rattle.acpi_values.specs.declared.width.Width.{Width}
use Rattle.acpi_state.specs.FieldActs.{FieldForm, OneBit}
use Rattle.acpi_state.specs.Forms.{Slot, LocalSlot, ArgSlot}
use Rattle.aml_code.specs.Fronts.{begins_name, integer_front}
use Rattle.aml_meaning.specs.Codes.{Code, PlainCode, SlotCode, OmittedCode, code_bytes, code_front, slot_front, HasOwnCode, IsCode, CreateFieldCode}

-- the Local or Arg that an opcode is
abbrev pub slot_at : Code → Option Slot
slot_at (SlotCode slot) = Some slot
slot_at _ = None

pub record Reads (code : Code) (rest : List ℕ) : Type 0 where
  pub code_is : code_front (code_bytes code ++ rest) ≡ Some (code, rest)
  pub no_name : begins_name (code_bytes code ++ rest) ≡ false
  pub slot_is : slot_front (code_bytes code ++ rest) ≡ slot_at code

plain_reads : (op : Plain) → HasOwnCode op → (rest : List ℕ) → Reads (PlainCode op) rest
unfolding code_front
plain_reads (Plain.Number IntOp.LNotEqual) own rest = absurd own
plain_reads (Plain.Number IntOp.LLessEqual) own rest = absurd own
plain_reads (Plain.Number IntOp.LGreaterEqual) own rest = absurd own
plain_reads (Plain.Data DataOp.Store) own rest = record { code_is = refl; no_name = refl; slot_is = refl }
plain_reads (Plain.Event EventOp.Sleep) own rest = record { code_is = refl; no_name = refl; slot_is = refl }
plain_reads _ own rest = record { code_is = refl; no_name = refl; slot_is = refl }

local_reads : (i : ℕ) → i < 8 → (rest : List ℕ) → Reads (SlotCode (LocalSlot i)) rest
unfolding code_front
local_reads zero lt rest = record { code_is = refl; no_name = refl; slot_is = refl }
local_reads (suc zero) lt rest = record { code_is = refl; no_name = refl; slot_is = refl }
local_reads (suc (suc zero)) lt rest = record { code_is = refl; no_name = refl; slot_is = refl }
local_reads (suc (suc (suc zero))) lt rest = record { code_is = refl; no_name = refl; slot_is = refl }
local_reads (suc (suc (suc (suc zero)))) lt rest = record { code_is = refl; no_name = refl; slot_is = refl }
local_reads (suc (suc (suc (suc (suc zero))))) lt rest = record { code_is = refl; no_name = refl; slot_is = refl }
local_reads (suc (suc (suc (suc (suc (suc zero)))))) lt rest = record { code_is = refl; no_name = refl; slot_is = refl }
local_reads (suc (suc (suc (suc (suc (suc (suc zero))))))) lt rest = record { code_is = refl; no_name = refl; slot_is = refl }
local_reads (suc (suc (suc (suc (suc (suc (suc (suc i)))))))) lt rest = absurd (omega arith)

arg_reads : (i : ℕ) → i < 7 → (rest : List ℕ) → Reads (SlotCode (ArgSlot i)) rest
unfolding code_front
arg_reads zero lt rest = record { code_is = refl; no_name = refl; slot_is = refl }
arg_reads (suc zero) lt rest = record { code_is = refl; no_name = refl; slot_is = refl }
arg_reads (suc (suc zero)) lt rest = record { code_is = refl; no_name = refl; slot_is = refl }
arg_reads (suc (suc (suc zero))) lt rest = record { code_is = refl; no_name = refl; slot_is = refl }
arg_reads (suc (suc (suc (suc zero)))) lt rest = record { code_is = refl; no_name = refl; slot_is = refl }
arg_reads (suc (suc (suc (suc (suc zero))))) lt rest = record { code_is = refl; no_name = refl; slot_is = refl }
arg_reads (suc (suc (suc (suc (suc (suc zero)))))) lt rest = record { code_is = refl; no_name = refl; slot_is = refl }
arg_reads (suc (suc (suc (suc (suc (suc (suc i))))))) lt rest = absurd (omega arith)

field_reads : (form : FieldForm) (rest : List ℕ) → Reads (CreateFieldCode form) rest
unfolding code_front
field_reads OneBit rest = record { code_is = refl; no_name = refl; slot_is = refl }
field_reads _ rest = record { code_is = refl; no_name = refl; slot_is = refl }

pub code_reads : (code : Code) → IsCode code → (rest : List ℕ) → Reads code rest
unfolding code_front
code_reads (PlainCode op) own rest = plain_reads op own rest
code_reads (SlotCode (LocalSlot i)) own rest = local_reads i own rest
code_reads (SlotCode (ArgSlot i)) own rest = arg_reads i own rest
code_reads (CreateFieldCode form) own rest = field_reads form rest
code_reads _ own rest = record { code_is = refl; no_name = refl; slot_is = refl }

-- what begins a term
abbrev pub IsTermCode : Code → Type 0
IsTermCode OmittedCode = ⊥
IsTermCode code = IsCode code

plain_no_integer : (width : Width) (op : Plain) (rest : List ℕ) → integer_front width (code_bytes (PlainCode op) ++ rest) ≡ None
plain_no_integer width (Plain.Number IntOp.Add) rest = refl
plain_no_integer width (Plain.Data DataOp.Store) rest = refl
plain_no_integer width (Plain.Event EventOp.Sleep) rest = refl
plain_no_integer width _ rest = refl

local_no_integer : (width : Width) (i : ℕ) → i < 8 → (rest : List ℕ) → integer_front width (code_bytes (SlotCode (LocalSlot i)) ++ rest) ≡ None
local_no_integer width zero lt rest = refl
local_no_integer width (suc zero) lt rest = refl
local_no_integer width (suc (suc zero)) lt rest = refl
local_no_integer width (suc (suc (suc zero))) lt rest = refl
local_no_integer width (suc (suc (suc (suc zero)))) lt rest = refl
local_no_integer width (suc (suc (suc (suc (suc zero))))) lt rest = refl
local_no_integer width (suc (suc (suc (suc (suc (suc zero)))))) lt rest = refl
local_no_integer width (suc (suc (suc (suc (suc (suc (suc zero))))))) lt rest = refl
local_no_integer width (suc (suc (suc (suc (suc (suc (suc (suc i)))))))) lt rest = absurd (omega arith)

arg_no_integer : (width : Width) (i : ℕ) → i < 7 → (rest : List ℕ) → integer_front width (code_bytes (SlotCode (ArgSlot i)) ++ rest) ≡ None
arg_no_integer width zero lt rest = refl
arg_no_integer width (suc zero) lt rest = refl
arg_no_integer width (suc (suc zero)) lt rest = refl
arg_no_integer width (suc (suc (suc zero))) lt rest = refl
arg_no_integer width (suc (suc (suc (suc zero)))) lt rest = refl
arg_no_integer width (suc (suc (suc (suc (suc zero))))) lt rest = refl
arg_no_integer width (suc (suc (suc (suc (suc (suc zero)))))) lt rest = refl
arg_no_integer width (suc (suc (suc (suc (suc (suc (suc i))))))) lt rest = absurd (omega arith)

field_no_integer : (width : Width) (form : FieldForm) (rest : List ℕ) → integer_front width (code_bytes (CreateFieldCode form) ++ rest) ≡ None
field_no_integer width OneBit rest = refl
field_no_integer width _ rest = refl

pub no_integer : (width : Width) (code : Code) → IsTermCode code → (rest : List ℕ) → integer_front width (code_bytes code ++ rest) ≡ None
no_integer width (PlainCode op) own rest = plain_no_integer width op rest
no_integer width (SlotCode (LocalSlot i)) own rest = local_no_integer width i own rest
no_integer width (SlotCode (ArgSlot i)) own rest = arg_no_integer width i own rest
no_integer width OmittedCode own rest = absurd own
no_integer width (CreateFieldCode form) own rest = field_no_integer width form rest
no_integer width _ own rest = refl

plain_some : (op : Plain) → 1 ≤ length (code_bytes (PlainCode op))
plain_some (Plain.Number IntOp.Add) = omega arith
plain_some (Plain.Data DataOp.Store) = omega arith
plain_some (Plain.Event EventOp.Sleep) = omega arith
plain_some _ = omega arith

field_some : (form : FieldForm) → 1 ≤ length (code_bytes (CreateFieldCode form))
field_some OneBit = omega arith
field_some _ = omega arith

-- every opcode has a byte
pub code_some : (code : Code) → 1 ≤ length (code_bytes code)
code_some (PlainCode op) = plain_some op
code_some (CreateFieldCode form) = field_some form
code_some _ = omega arith
