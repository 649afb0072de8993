-- What a string has to be.
use Rattle.std.specs.Prelude.{ℕ, nat_le, ◌==◌, Bool, true, false, ◌&&◌, ◌||◌, List, [], ◌∷◌, length, codes}
use Rattle.std.specs.Char.{is_ascii_alphanumeric}
use Rattle.std.specs.List.{list_all}
use Rattle.std.specs.Str.{bytes_eq}
use Rattle.asl_tree.specs.Formats.{is_format}
use Rattle.asl_words.specs.declared.operator.StringForm.{StringForm}
use Rattle.asl_words.specs.declared.operator.StringForm.TheVariants as form

-- bytes 01 to 7F; there are no others in a string
abbrev pub is_text_byte : ℕ → Bool
is_text_byte b = nat_le 1 b && nat_le b 127

abbrev pub is_all_text : List ℕ → Bool
is_all_text bytes = list_all is_text_byte bytes

-- OEM and one letter of either case, or one digit
abbrev pub is_oem_signature : List ℕ → Bool
is_oem_signature (a ∷ b ∷ c ∷ d ∷ []) = (a == 79) && ((b == 69) && ((c == 77) && is_ascii_alphanumeric d))
is_oem_signature _ = false

abbrev pub is_signature : List ℕ → Bool
is_signature text = bytes_eq text (codes "DSDT")
    || (bytes_eq text (codes "SSDT") || (bytes_eq text (codes "PSDT") || is_oem_signature text))

abbrev pub has_form : StringForm → List ℕ → Bool
has_form form.Any bytes = true
has_form form.Signature bytes = is_signature bytes
has_form (form.AtMost most) bytes = nat_le (length bytes) most
has_form form.Format bytes = is_format bytes
