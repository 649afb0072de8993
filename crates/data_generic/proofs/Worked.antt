-- Generic tables worked out by computation.
use Rattle.std.proofs.Common.{◌≡◌, ◌+◌, ℕ, List, [], ◌∷◌, ◌++◌, codes, Err, refl}
use Rattle.iasl_messages.specs.declared.place.Line.{Line}
use Rattle.data_layout.specs.Layout.{layout_of, header_rows}
use Rattle.resource_macros.specs.Identifiers.{uuid_of}
use Rattle.data_generic.specs.Types.{type_of}
use Rattle.data_generic.specs.Compiling.{compiled_generic}
use Rattle.data_generic.specs.Templates.{ComesTo}

abbrev lines_from : ℕ → List (List ℕ) → List Line
lines_from n [] = []
lines_from n (text ∷ texts) = record { file = 0; number = n; text = text } ∷ lines_from (n + 1) texts

abbrev header_text : List (List ℕ)
header_text = codes "Signature : \"OEM1\"" ∷ codes "Table Length : 00000000" ∷ codes "Revision : 01" ∷ codes "Checksum : 00" ∷ codes "Oem ID : \"OEMX00\"" ∷ codes "Oem Table ID : \"TABLE001\"" ∷ codes "Oem Revision : 00000001" ∷ codes "Asl Compiler ID : \"INTL\"" ∷ codes "Asl Compiler Revision : 00000000" ∷ []

abbrev first_text : List (List ℕ)
first_text = header_text ++ (codes "UINT8 : 05" ∷ codes "Label : L0" ∷ codes "UINT32 : $L0" ∷ codes "String : \"AB\"" ∷ [])

first : ComesTo (compiled_generic (lines_from 1 first_text)) (0x4f ∷ 0x45 ∷ 0x4d ∷ 0x31 ∷ 0x2c ∷ 0x0 ∷ 0x0 ∷ 0x0 ∷ 0x1 ∷ 0x3 ∷ 0x4f ∷ 0x45 ∷ 0x4d ∷ 0x58 ∷ 0x30 ∷ 0x30 ∷ 0x54 ∷ 0x41 ∷ 0x42 ∷ 0x4c ∷ 0x45 ∷ 0x30 ∷ 0x30 ∷ 0x31 ∷ 0x1 ∷ 0x0 ∷ 0x0 ∷ 0x0 ∷ 0x49 ∷ 0x4e ∷ 0x54 ∷ 0x4c ∷ 0x5 ∷ 0x1 ∷ 0x21 ∷ 0x20 ∷ 0x5 ∷ 0x25 ∷ 0x0 ∷ 0x0 ∷ 0x0 ∷ 0x41 ∷ 0x42 ∷ 0x0 ∷ [])
unfolding layout_of header_rows uuid_of type_of
first = (refl, refl)

abbrev above_text : List (List ℕ)
above_text = header_text ++ (codes "UINT16 : $END - $Begin" ∷ codes "Label : begin" ∷ codes "Unicode : \"Ab\"" ∷ codes "Buffer : 01 2f" ∷ codes "GUID : 33221100-5544-7766-8899-aabbccddeeff" ∷ codes "Label : end" ∷ codes "UINT64 : $begin - $END" ∷ [])

above : ComesTo (compiled_generic (lines_from 1 above_text)) (0x4f ∷ 0x45 ∷ 0x4d ∷ 0x31 ∷ 0x46 ∷ 0x0 ∷ 0x0 ∷ 0x0 ∷ 0x1 ∷ 0xd2 ∷ 0x4f ∷ 0x45 ∷ 0x4d ∷ 0x58 ∷ 0x30 ∷ 0x30 ∷ 0x54 ∷ 0x41 ∷ 0x42 ∷ 0x4c ∷ 0x45 ∷ 0x30 ∷ 0x30 ∷ 0x31 ∷ 0x1 ∷ 0x0 ∷ 0x0 ∷ 0x0 ∷ 0x49 ∷ 0x4e ∷ 0x54 ∷ 0x4c ∷ 0x5 ∷ 0x1 ∷ 0x21 ∷ 0x20 ∷ 0x18 ∷ 0x0 ∷ 0x41 ∷ 0x0 ∷ 0x62 ∷ 0x0 ∷ 0x0 ∷ 0x0 ∷ 0x1 ∷ 0x2f ∷ 0x0 ∷ 0x11 ∷ 0x22 ∷ 0x33 ∷ 0x44
    ∷ 0x55 ∷ 0x66 ∷ 0x77 ∷ 0x88 ∷ 0x99 ∷ 0xaa ∷ 0xbb ∷ 0xcc ∷ 0xdd ∷ 0xee ∷ 0xff ∷ 0xe8 ∷ 0xff ∷ 0xff ∷ 0xff ∷ 0xff ∷ 0xff ∷ 0xff ∷ 0xff ∷ [])
unfolding layout_of header_rows uuid_of type_of
above = (refl, refl)

abbrev wide_text : List (List ℕ)
wide_text = header_text ++ (codes "UINT8 : 100" ∷ [])

wide : compiled_generic (lines_from 1 wide_text) ≡ Err (record { number = 6094; place = record { file = 0; line = 10; column = 1 }; name = [] } ∷ [])
unfolding layout_of header_rows uuid_of type_of
wide = refl

abbrev absent_text : List (List ℕ)
absent_text = header_text ++ (codes "UINT16 : $L9" ∷ [])

pub absent : compiled_generic (lines_from 1 absent_text) ≡ Err (record { number = 6112; place = record { file = 0; line = 10; column = 1 }; name = codes "L9" } ∷ [])
unfolding layout_of header_rows uuid_of type_of
absent = refl

abbrev twice_text : List (List ℕ)
twice_text = header_text ++ (codes "Label : a" ∷ codes "Label : A" ∷ [])

twice : compiled_generic (lines_from 1 twice_text) ≡ Err (record { number = 6111; place = record { file = 0; line = 11; column = 1 }; name = [] } ∷ [])
unfolding layout_of header_rows uuid_of type_of
twice = refl

abbrev unknown_text : List (List ℕ)
unknown_text = header_text ++ (codes "UINT9 : 1" ∷ [])

unknown : compiled_generic (lines_from 1 unknown_text) ≡ Err (record { number = 6110; place = record { file = 0; line = 10; column = 1 }; name = [] } ∷ [])
unfolding layout_of header_rows uuid_of type_of
unknown = refl

abbrev short_text : List (List ℕ)
short_text = (codes "Signature : \"OEM1\"" ∷ codes "Table Length : 00000000" ∷ codes "Revision : 01" ∷ [])

short : compiled_generic (lines_from 1 short_text) ≡ Err (record { number = 6091; place = record { file = 0; line = 3; column = 1 }; name = [] } ∷ [])
unfolding layout_of header_rows uuid_of type_of
short = refl

abbrev colon_text : List (List ℕ)
colon_text = (codes "Signature : \"AB\"" ∷ codes "UINT8 5" ∷ [])

colon : compiled_generic (lines_from 1 colon_text) ≡ Err (record { number = 6093; place = record { file = 0; line = 2; column = 1 }; name = [] } ∷ [])
unfolding layout_of header_rows uuid_of type_of
colon = refl

-- blanks may stand around the label of a data line, and none inside
abbrev blanks_text : List (List ℕ)
blanks_text = header_text ++ (codes "  uint8  : 5" ∷ codes "UINT 8 : 1" ∷ [])

blanks : compiled_generic (lines_from 1 blanks_text) ≡ Err (record { number = 6110; place = record { file = 0; line = 11; column = 1 }; name = [] } ∷ [])
unfolding layout_of header_rows uuid_of type_of
blanks = refl
