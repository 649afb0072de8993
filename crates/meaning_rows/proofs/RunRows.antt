-- Bytes of runs of If, ElseIf and Else, which are one in another there. They are worked by hand.
use Rattle.std.proofs.Common.{◌≡◌, ℕ, true, List, [], ◌∷◌, ◌++◌, refl}
use Rattle.std.specs.Prelude.{replicate}
use Rattle.acpi_values.specs.declared.width.Width.TheVariants.{W64}
use Rattle.asl_tree.specs.Tree.{Tree, String, If, ElseIf, Else, While, no_trees}
use Rattle.aml_meaning.specs.Encoded.{encoded_terms}
use Rattle.meaning_rows.proofs.Outside.{hex, terms, local}

abbrev bytes : List Tree → List ℕ
bytes ts = encoded_terms W64 true (terms ts)

abbrev bare_if : ℕ → Tree
bare_if i = If (local i) no_trees

abbrev bare_else_if : ℕ → Tree
bare_else_if i = ElseIf (local i) no_trees

-- If (Local0) {} ElseIf (Local1) {} ElseIf (Local2) {} Else {}
whole_run : bytes (bare_if 0 ∷ bare_else_if 1 ∷ bare_else_if 2 ∷ Else no_trees ∷ []) ≡ hex "A0 02 60 A1 0B A0 02 61 A1 06 A0 02 62 A1 01"
whole_run = refl

-- If (Local0) {} ElseIf (Local1) {} If (Local2) {} ElseIf (Local3) {} Else {}
two_runs : bytes (bare_if 0 ∷ bare_else_if 1 ∷ bare_if 2 ∷ bare_else_if 3 ∷ Else no_trees ∷ []) ≡ hex "A0 02 60 A1 04 A0 02 61 A0 02 62 A1 06 A0 02 63 A1 01"
two_runs = refl

-- While (Local0) {If (Local1) {} ElseIf (Local2) {}} If (Local3) {} ElseIf (Local4) {}
behind_a_while : bytes (While (local 0) (terms (bare_if 1 ∷ bare_else_if 2 ∷ [])) ∷ bare_if 3 ∷ bare_else_if 4 ∷ [])
    ≡ hex "A2 0A 60 A0 02 61 A1 04 A0 02 62 A0 02 63 A1 04 A0 02 64"
behind_a_while = refl

-- If (Local0) {} ElseIf (Local1) {If (Local2) {} ElseIf (Local3) {}} Else {}
in_an_else_if : bytes (bare_if 0 ∷ ElseIf (local 1) (terms (bare_if 2 ∷ bare_else_if 3 ∷ [])) ∷ Else no_trees ∷ [])
    ≡ hex "A0 02 60 A1 0E A0 0A 61 A0 02 62 A1 04 A0 02 63 A1 01"
in_an_else_if = refl

-- If (Local0) {} ElseIf (Local1) {a string of n characters}: a length of the If that has one byte, and one that has two
abbrev with_text : ℕ → List ℕ
with_text n = bytes (bare_if 0 ∷ ElseIf (local 1) (terms (String (replicate n 0x41) ∷ [])) ∷ [])

one_byte : with_text 59 ≡ hex "A0 02 60 A1 42 04 A0 3F 61 0D" ++ replicate 59 0x41 ++ hex "00"
one_byte = refl

two_bytes : with_text 60 ≡ hex "A0 02 60 A1 44 04 A0 41 04 61 0D" ++ replicate 60 0x41 ++ hex "00"
two_bytes = refl
