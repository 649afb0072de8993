-- The bytes of a table as an array of C.
use Rattle.std.specs.Prelude.{ℕ, List, ◌++◌, codes}
use Rattle.std.specs.List.{flat_map}
use Rattle.iasl_backends.specs.Table.{pair, rows}

-- a byte behind a blank, as ` 0x53,`
abbrev pub c_byte : ℕ → List ℕ
c_byte byte = codes " 0x" ++ pair byte ++ codes ","

-- the line of a row: its bytes, the first behind four blanks, each other behind one
abbrev pub c_row : List ℕ → List ℕ
c_row row = codes "   " ++ flat_map c_byte row ++ codes "\n"

-- the array, in rows of up to eight bytes
abbrev pub c_text : List ℕ → List ℕ
c_text bytes = codes "unsigned char AmlCode[] =\n{\n" ++ flat_map c_row (rows 8 bytes) ++ codes "};\n"
