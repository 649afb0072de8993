-- What is found in a line.
use Rattle.std.proofs.Common.{◌≡◌, ℕ, List, [], Option, Some, None, Ok, Err, refl, sym, ap, subst, ◌∙◌}
use Rattle.std.specs.Option.{option_map}
use Rattle.iasl_messages.specs.declared.message.Message.{Message}
use Rattle.data_text.specs.declared.field_line.FieldLine.{FieldLine}
use Rattle.data_tables.specs.Entry.{Value, Bytes}
use Rattle.data_tables.specs.Walk.{message_at}
use Rattle.data_generic.specs.declared.types.DataType.{DataType}
use Rattle.data_generic.specs.declared.types.DataType.TheVariants as d
use Rattle.data_generic.specs.declared.walk.LineFound.TheVariants as l
use Rattle.data_generic.specs.Values.{bytes_by, plain_value}
use Rattle.data_generic.specs.Walk.{Found, plain_by}
use Rattle.data_generic.specs.Steps.{IsLineFound}

-- a label has no bytes
pub empty_found : (found : Found) (bytes : List ℕ) → bytes ≡ [] → found ≡ Ok (Bytes []) → IsLineFound (l.Bytes bytes) d.Label found
empty_found found bytes e f = (Bytes [], f, e)

plain_some : (form : DataType) (line : FieldLine) (value : Option Value) (bytes : List ℕ) → option_map (bytes_by form) value ≡ Some bytes → IsLineFound (l.Bytes bytes) form (plain_by line value)
plain_some form line None bytes e = absurd cc
plain_some form line (Some value) bytes e = let same : bytes_by form value ≡ bytes = cc in (value, refl, sym same)

plain_none : (form : DataType) (line : FieldLine) (value : Option Value) (message : Message) → option_map (bytes_by form) value ≡ None → message ≡ message_at 6093 line.place → IsLineFound (l.Fault message) form (plain_by line value)
plain_none form line None message e f = ap (λ (m : Message). Err m) (sym f)
plain_none form line (Some value) message e f = absurd cc

-- a value that mentions no label, and what is known of its bytes
pub plain_found : (form : DataType) (line : FieldLine) (value : List ℕ) (found : Option (List ℕ)) (bytes : List ℕ) → value ≡ line.value → found ≡ option_map (bytes_by form) (plain_value form value) → found ≡ Some bytes → IsLineFound (l.Bytes bytes) form (plain_by line (plain_value form line.value))
plain_found form line value found bytes v e f =
    subst (λ (x : List ℕ). IsLineFound (l.Bytes bytes) form (plain_by line (plain_value form x))) v (plain_some form line (plain_value form value) bytes (sym e ∙ f))

pub plain_fault : (form : DataType) (line : FieldLine) (value : List ℕ) (found : Option (List ℕ)) (message : Message) → value ≡ line.value → found ≡ option_map (bytes_by form) (plain_value form value) → found ≡ None → message ≡ message_at 6093 line.place → IsLineFound (l.Fault message) form (plain_by line (plain_value form line.value))
plain_fault form line value found message v e f m =
    subst (λ (x : List ℕ). IsLineFound (l.Fault message) form (plain_by line (plain_value form x))) v (plain_none form line (plain_value form value) message (sym e ∙ f) m)
