-- Small definitions, each computed alone: comparisons, words, formats, the list of a field, and what the system defines. Worked by hand from
-- the ACPI Specification 6.4, whose sections are named with the rows.
use Rattle.std.proofs.Common.{◌≡◌, ℕ, true, false, [], ◌∷◌, ◌++◌, None, refl}
use Rattle.std.specs.Prelude.{codes, map, Ok}
use Rattle.acpi_values.specs.declared.width.Width.TheVariants.{W32, W64}
use Rattle.acpi_values.specs.declared.operator.IntOp.TheVariants as IntOp
use Rattle.acpi_values.specs.declared.operator.Plain.TheVariants as Plain
use Rattle.acpi_values.specs.Integers.{applied}
use Rattle.acpi_values.specs.Paths.{is_same_segment}
use Rattle.acpi_state.specs.Objects.{OfRoot, ContainerObject, MutexObject, ExternalObject, ExternalMethod, ExternalData, root_objects}
use Rattle.acpi_state.specs.Forms.{largest_size}
use Rattle.asl_tree.specs.declared.term.Word.TheVariants as Word
use Rattle.asl_tree.specs.declared.term.Literal.TheVariants as Literal
use Rattle.asl_tree.specs.Literals.{literal_number, word_number}
use Rattle.asl_tree.specs.Names.{absolute}
use Rattle.asl_tree.specs.Formats.{cut, is_format}
use Rattle.asl_tree.specs.FieldItems.{UnitItem, SkipItem, OffsetItem, AccessItem, ConnectionItem, ToBytes, placed_from}
use Rattle.asl_tree.specs.Tree.{Integer, Operated}
use Rattle.asl_tree.specs.View.{symbol_of}
use Rattle.meaning_rows.proofs.Outside.{at_root, terms}

-- the six comparisons of constants: of equal numbers, of a less one and of a greater one (19.6)
equal : applied IntOp.LEqual W64 5 5 ∷ applied IntOp.LEqual W64 4 5 ∷ applied IntOp.LEqual W64 5 4 ∷ []
    ≡ Ok 0xFFFFFFFFFFFFFFFF ∷ Ok 0 ∷ Ok 0 ∷ []
equal = refl

greater : applied IntOp.LGreater W64 5 5 ∷ applied IntOp.LGreater W64 4 5 ∷ applied IntOp.LGreater W32 5 4 ∷ [] ≡ Ok 0 ∷ Ok 0 ∷ Ok 0xFFFFFFFF ∷ []
greater = refl

less : applied IntOp.LLess W64 5 5 ∷ applied IntOp.LLess W32 4 5 ∷ applied IntOp.LLess W64 5 4 ∷ [] ≡ Ok 0 ∷ Ok 0xFFFFFFFF ∷ Ok 0 ∷ []
less = refl

not_equal : applied IntOp.LNotEqual W64 5 5 ∷ applied IntOp.LNotEqual W64 4 5 ∷ applied IntOp.LNotEqual W32 5 4 ∷ []
    ≡ Ok 0 ∷ Ok 0xFFFFFFFFFFFFFFFF ∷ Ok 0xFFFFFFFF ∷ []
not_equal = refl

less_or_equal : applied IntOp.LLessEqual W32 5 5 ∷ applied IntOp.LLessEqual W64 4 5 ∷ applied IntOp.LLessEqual W64 5 4 ∷ []
    ≡ Ok 0xFFFFFFFF ∷ Ok 0xFFFFFFFFFFFFFFFF ∷ Ok 0 ∷ []
less_or_equal = refl

greater_or_equal : applied IntOp.LGreaterEqual W64 5 5 ∷ applied IntOp.LGreaterEqual W64 4 5 ∷ applied IntOp.LGreaterEqual W32 5 4 ∷ []
    ≡ Ok 0xFFFFFFFFFFFFFFFF ∷ Ok 0 ∷ Ok 0xFFFFFFFF ∷ []
greater_or_equal = refl

-- `5 != 6`, `5 <= 6` and `5 >= 6` are `!` of `5 == 6`, `5 > 6` and `5 < 6` (20.2.5.4)
negated_symbols : symbol_of (Plain.Number IntOp.LNotEqual) (terms (Integer 5 ∷ Integer 6 ∷ []))
    ∷ symbol_of (Plain.Number IntOp.LLessEqual) (terms (Integer 5 ∷ Integer 6 ∷ [])) ∷ symbol_of (Plain.Number IntOp.LGreaterEqual) (terms (Integer 5 ∷ Integer 6 ∷ [])) ∷ []
    ≡ Operated (Plain.Number IntOp.LNot) (terms (Operated (Plain.Number IntOp.LEqual) (terms (Integer 5 ∷ Integer 6 ∷ [])) ∷ []))
    ∷ Operated (Plain.Number IntOp.LNot) (terms (Operated (Plain.Number IntOp.LGreater) (terms (Integer 5 ∷ Integer 6 ∷ [])) ∷ []))
    ∷ Operated (Plain.Number IntOp.LNot) (terms (Operated (Plain.Number IntOp.LLess) (terms (Integer 5 ∷ Integer 6 ∷ [])) ∷ [])) ∷ []
negated_symbols = refl

-- what the system itself defines at the root (5.3.1 and 5.7), and the greatest size of a Buffer or a Package
system_objects : root_objects
    ≡ (at_root "_GPE", ContainerObject OfRoot) ∷ (at_root "_PR_", ContainerObject OfRoot) ∷ (at_root "_SB_", ContainerObject OfRoot)
    ∷ (at_root "_SI_", ContainerObject OfRoot) ∷ (at_root "_TZ_", ContainerObject OfRoot) ∷ (at_root "_GL_", MutexObject 0)
    ∷ (at_root "_OSI", ExternalObject (ExternalMethod 1)) ∷ (at_root "_OS_", ExternalObject (ExternalData 2)) ∷ (at_root "_REV", ExternalObject (ExternalData 1)) ∷ []
system_objects = refl

greatest_size : largest_size ≡ 0x1000000
greatest_size = refl

-- segments are the same where all their characters are (5.3)
same_segments : map (is_same_segment (codes "ABCD")) (codes "ABCD" ∷ codes "ABCE" ∷ codes "BBCD" ∷ codes "ABC" ∷ codes "ABCDE" ∷ []) ≡ true ∷ false ∷ false ∷ false ∷ false ∷ []
same_segments = refl

-- the numbers of the words of Match (20.2.5.4), and of words that have their number with them
words : map word_number (Word.Mtr ∷ Word.Meq ∷ Word.Mle ∷ Word.Mlt ∷ Word.Mge ∷ Word.Mgt ∷ Word.Identifier 7 ∷ Word.FieldPlace 9 ∷ [])
    ≡ 0 ∷ 1 ∷ 2 ∷ 3 ∷ 4 ∷ 5 ∷ 7 ∷ 9 ∷ []
words = refl

-- formats (19.6, Printf): the empty one, one character, and `%` alone; `%o`, `%%` and `%d`; these behind others
formats : map is_format ([] ∷ codes "a" ∷ codes "%" ∷ codes "%o" ∷ codes "%%" ∷ codes "%d" ∷ codes "ab" ∷ codes "a%o%%b" ∷ codes "%%o" ∷ codes "%o%" ∷ codes "a%" ∷ codes "%%%d" ∷ [])
    ≡ true ∷ true ∷ false ∷ true ∷ true ∷ false ∷ true ∷ true ∷ true ∷ false ∷ false ∷ false ∷ []
formats = refl

-- {A, 3, , 5, AccessAs (ByteAcc), B, 8, Offset (4), C, 1, Connection (..), D, 2} behind 16 bits (19.6, Field): where its units lie
units : placed_from {A = ℕ} 16 (UnitItem 1 3 ∷ SkipItem 5 ∷ AccessItem 1 0 None ∷ UnitItem 2 8 ∷ OffsetItem 4 ∷ UnitItem 3 1 ∷ ConnectionItem (ToBytes (1 ∷ [])) ∷ UnitItem 4 2 ∷ [])
    ≡ record { name = 1; at = 16; bits = 3 } ∷ record { name = 2; at = 24; bits = 8 } ∷ record { name = 3; at = 32; bits = 1 } ∷ record { name = 4; at = 33; bits = 2 } ∷ []
units = refl

-- formats whose characters stand next to `%` or `o`, and the parts of a format
plain_formats : map is_format (codes " " ∷ codes " a" ∷ codes " %%" ∷ codes "&o" ∷ codes "%!" ∷ []) ≡ true ∷ true ∷ true ∷ true ∷ false ∷ []
plain_formats = refl

format_parts : cut (codes "xo $o%o %%!%o") ≡ (codes "xo $o", codes " %!" ∷ [] ∷ [])
format_parts = refl

-- the words Zero, One and Ones at both widths (19.6)
literals : map (literal_number W32) (Literal.Zero ∷ Literal.One ∷ Literal.Ones ∷ []) ++ map (literal_number W64) (Literal.Zero ∷ Literal.One ∷ Literal.Ones ∷ [])
    ≡ 0 ∷ 1 ∷ 0xFFFFFFFF ∷ 0 ∷ 1 ∷ 0xFFFFFFFFFFFFFFFF ∷ []
literals = refl

-- a path as it is written from the root
from_root : absolute (codes "B___" ∷ codes "A___" ∷ []) ≡ record { root = true; up = 0; segs = codes "A___" ∷ codes "B___" ∷ [] }
from_root = refl
