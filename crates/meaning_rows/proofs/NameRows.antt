-- Small programs, computed from the definitions alone.
use Rattle.std.proofs.Common.{◌≡◌, ℕ, true, false, List, [], ◌∷◌, ◌++◌, Some, None, refl}
use Rattle.acpi_values.specs.Paths.{AbsolutePath}
use Rattle.acpi_values.specs.Values as V
use Rattle.acpi_values.specs.Values.{Value, Data}
use Rattle.acpi_values.specs.declared.width.Width.TheVariants.{W64}
use Rattle.acpi_values.specs.declared.fault.Fault.TheVariants as F
use Rattle.acpi_state.specs.Objects.{Device}
use Rattle.acpi_state.specs.Outcomes.{Flow, Gives, Normal, Result, Done, Stopped, Faulted}
use Rattle.acpi_state.specs.Sessions.{Report, present_ones, Request}
use Rattle.asl_tree.specs.declared.path.Path.{Path}
use Rattle.asl_tree.specs.Tree.{At, Integer, Use, Call, Return, Name, Alias, External, Method, Container', Scope, Trees, no_trees, tree, InSlot, Apply, CondRefOf, If}
use Rattle.asl_meaning.specs.Declarations.{known_of, externals}
use Rattle.asl_meaning.specs.SourceSession.{source_session}
use Rattle.acpi_state.specs.Forms.{LocalSlot, ArgSlot}
use Rattle.acpi_values.specs.declared.operator.DataOp.TheVariants as DataOp
use Rattle.acpi_values.specs.declared.operator.Plain.TheVariants as Plain
use Rattle.aml_meaning.specs.Encoded.{encoded_terms}
use Rattle.aml_code.specs.Header.{table_bytes}
use Rattle.aml_meaning.specs.ByteSession.{byte_session}
use Rattle.aml_meaning.specs.Codes.{code_front}
use Rattle.meaning_rows.proofs.Rows.{fields}
use Rattle.acpi_names.specs.Errors.{Twice, Missing, WrongCount, name_errors, type_errors}
use Rattle.named_sessions.specs.Core.{core_of}

abbrev pub seg : ℕ → List ℕ
seg letter = letter ∷ 0x5F ∷ 0x5F ∷ 0x5F ∷ []

abbrev pub one : ℕ → Path
one letter = record { root = false; up = 0; segs = seg letter ∷ [] }

abbrev pub at : ℕ → At
at n = record { id = n; place = record { file = 0; line = n; column = 0 } }

-- External (E, MethodObj, , {IntObj, IntObj})  Method (M) { Return (E (1, 2)) }
abbrev calls_out : Trees
calls_out =
    tree (External (at 1) (at 2) (one 0x45) 8 (Some 2))
    (tree (Method (at 3) (one 0x4D) 0 (tree (Return (Call (at 4) (one 0x45) (tree (Integer 1) (tree (Integer 2) no_trees)))) no_trees)) no_trees)

no_errors : name_errors calls_out ++ type_errors calls_out ≡ []
no_errors = refl

bytes : encoded_terms W64 true (core_of false calls_out) ≡ 0x15 ∷ 0x45 ∷ 0x5F ∷ 0x5F ∷ 0x5F ∷ 0x08 ∷ 0x02 ∷ 0x14 ∷ 0x0E ∷ 0x4D ∷ 0x5F ∷ 0x5F ∷ 0x5F ∷ 0x00 ∷ 0xA4 ∷ 0x45 ∷ 0x5F ∷ 0x5F ∷ 0x5F ∷ 0x01 ∷ 0x0A ∷ 0x02 ∷ []
bytes = refl

abbrev pub results : List Report → List (Result Flow)
results [] = []
results (r ∷ rs) = r.result ∷ results rs

abbrev run_it : Trees → List AbsolutePath → List (Result Flow)
run_it program present =
    results (source_session W64 (known_of program) program (present_ones (externals program) present) 2 (Data (V.Integer 9) ∷ []) (record { path = seg 0x4D ∷ []; args = [] } ∷ []))

there : run_it calls_out ((seg 0x45 ∷ []) ∷ []) ≡ Done (Normal false) ∷ Done (Gives (Data (V.Integer 9))) ∷ []
there = refl

absent : run_it calls_out [] ≡ Done (Normal false) ∷ Stopped (Faulted F.NotFound) ∷ []
absent = refl

-- Name (X, 5)  Method (M) { Name (X, 7)  Return (X) }
abbrev pub shadowed : Trees
shadowed =
    tree (Name (at 1) (one 0x58) (Integer 5))
    (tree (Method (at 2) (one 0x4D) 0 (tree (Name (at 3) (one 0x58) (Integer 7)) (tree (Return (Use (at 4) (one 0x58))) no_trees))) no_trees)

spelled_from_root : encoded_terms W64 true (core_of false shadowed) ≡ 0x08 ∷ 0x58 ∷ 0x5F ∷ 0x5F ∷ 0x5F ∷ 0x0A ∷ 0x05 ∷ 0x14 ∷ 0x18 ∷ 0x4D ∷ 0x5F ∷ 0x5F ∷ 0x5F ∷ 0x00 ∷ 0x08 ∷ 0x58 ∷ 0x5F ∷ 0x5F ∷ 0x5F ∷ 0x0A ∷ 0x07 ∷ 0xA4 ∷ 0x5C ∷ 0x2E ∷ 0x4D ∷ 0x5F ∷ 0x5F ∷ 0x5F ∷ 0x58 ∷ 0x5F ∷ 0x5F ∷ 0x5F ∷ []
spelled_from_root = refl

returns_seven : run_it shadowed [] ≡ Done (Normal false) ∷ Done (Gives (Data (V.Integer 7))) ∷ []
returns_seven = refl

-- Device (D) { Name (X, 1) }  Scope (D) { Name (X, 2) }  Method (M) { Return (Y) }
abbrev twice : Trees
twice =
    tree (Container' Device (at 1) (one 0x44) (tree (Name (at 2) (one 0x58) (Integer 1)) no_trees))
    (tree (Scope (at 3) (at 4) (one 0x44) (tree (Name (at 5) (one 0x58) (Integer 2)) no_trees))
    (tree (Method (at 6) (one 0x4D) 0 (tree (Return (Use (at 7) (one 0x59))) no_trees)) no_trees))

errors : name_errors twice ≡ Twice (at 5) (seg 0x58 ∷ seg 0x44 ∷ []) ∷ Missing (at 7) (one 0x59) ∷ []
errors = refl

-- Method (N) { Return (3) }  Alias (N, B)  Alias (B, C)  Method (M) { Return (C ()) }
abbrev aliases : Trees
aliases =
    tree (Method (at 1) (one 0x4E) 0 (tree (Return (Integer 3)) no_trees))
    (tree (Alias (at 2) (one 0x4E) (at 3) (one 0x42))
    (tree (Alias (at 4) (one 0x42) (at 5) (one 0x43))
    (tree (Method (at 6) (one 0x4D) 0 (tree (Return (Call (at 7) (one 0x43) no_trees)) no_trees)) no_trees)))

through_aliases : run_it aliases [] ≡ Done (Normal false) ∷ Done (Gives (Data (V.Integer 3))) ∷ []
through_aliases = refl

-- Alias (A, B)  Alias (B, A)  Method (M) { Return (A ()) }: an alias that ends nowhere is no method
abbrev endless : Trees
endless =
    tree (Alias (at 1) (one 0x41) (at 2) (one 0x42))
    (tree (Alias (at 3) (one 0x42) (at 4) (one 0x41))
    (tree (Method (at 5) (one 0x4D) 0 (tree (Return (Call (at 6) (one 0x41) no_trees)) no_trees)) no_trees))

no_method : name_errors endless ++ type_errors endless ≡ WrongCount (at 6) (one 0x41) ∷ []
no_method = refl

-- External (U)  Method (M) { Return (U (7)) }: what is called is written as a method of so many arguments
abbrev called_unknown : Trees
called_unknown =
    tree (External (at 1) (at 2) (one 0x55) 0 None)
    (tree (Method (at 3) (one 0x4D) 0 (tree (Return (Call (at 4) (one 0x55) (tree (Integer 7) no_trees))) no_trees)) no_trees)

as_method : encoded_terms W64 true (core_of false called_unknown) ≡ 0x15 ∷ 0x55 ∷ 0x5F ∷ 0x5F ∷ 0x5F ∷ 0x08 ∷ 0x01 ∷ 0x14 ∷ 0x0D ∷ 0x4D ∷ 0x5F ∷ 0x5F ∷ 0x5F ∷ 0x00 ∷ 0xA4 ∷ 0x55 ∷ 0x5F ∷ 0x5F ∷ 0x5F ∷ 0x0A ∷ 0x07 ∷ []
as_method = refl

-- Name (X, 5)  Method (M, 1) {If (Arg0) {Name (X, 7)} Return (X)}
abbrev perhaps_shadowed : Trees
perhaps_shadowed =
    tree (Name (at 1) (one 0x58) (Integer 5))
    (tree (Method (at 2) (one 0x4D) 1 (tree (If (InSlot (ArgSlot 0)) (tree (Name (at 3) (one 0x58) (Integer 7)) no_trees)) (tree (Return (Use (at 4) (one 0x58))) no_trees))) no_trees)

perhaps_bytes : encoded_terms W64 true (core_of false perhaps_shadowed)
    ≡ 0x08 ∷ 0x58 ∷ 0x5F ∷ 0x5F ∷ 0x5F ∷ 0x0A ∷ 0x05 ∷ 0x14 ∷ 0x1B ∷ 0x4D ∷ 0x5F ∷ 0x5F ∷ 0x5F ∷ 0x01 ∷ 0xA0 ∷ 0x09 ∷ 0x68 ∷ 0x08 ∷ 0x58 ∷ 0x5F ∷ 0x5F ∷ 0x5F ∷ 0x0A ∷ 0x07
    ∷ 0xA4 ∷ 0x5C ∷ 0x2E ∷ 0x4D ∷ 0x5F ∷ 0x5F ∷ 0x5F ∷ 0x58 ∷ 0x5F ∷ 0x5F ∷ 0x5F ∷ []
perhaps_bytes = refl

abbrev calls_of_both : List Request
calls_of_both = record { path = seg 0x4D ∷ []; args = Data (V.Integer 0) ∷ [] } ∷ record { path = seg 0x4D ∷ []; args = Data (V.Integer 1) ∷ [] } ∷ []

perhaps : results (source_session W64 (known_of perhaps_shadowed) perhaps_shadowed [] 1 [] calls_of_both) ≡ Done (Normal false) ∷ Stopped (Faulted F.NotFound) ∷ Done (Gives (Data (V.Integer 7))) ∷ []
perhaps = refl

perhaps_same : byte_session (table_bytes fields (encoded_terms W64 true (core_of false perhaps_shadowed))) [] 1 [] calls_of_both ≡ source_session W64 (known_of perhaps_shadowed) perhaps_shadowed [] 1 [] calls_of_both
unfolding code_front
perhaps_same = refl

-- Method (M) {CondRefOf (Q, Local0)}, where no term declares Q: an error for any other use
abbrev nowhere : Trees
nowhere = tree (Method (at 1) (one 0x4D) 0 (tree (Return (CondRefOf (Use (at 2) (one 0x51)) (InSlot (LocalSlot 0)))) no_trees)) no_trees

no_error_of_nowhere : name_errors nowhere ++ type_errors nowhere ≡ []
no_error_of_nowhere = refl

is_nowhere : run_it nowhere [] ≡ Done (Normal false) ∷ Done (Gives (Data (V.Integer 0))) ∷ []
is_nowhere = refl

-- Method (M) {Return (RefOf (N))}  Method (N, 1): a method with arguments may stand as a place, and not as a value
abbrev as_place : Trees
as_place =
    tree (Method (at 1) (one 0x4D) 0 (tree (Return (Apply (Plain.Data DataOp.RefOf) (tree (Use (at 2) (one 0x4E)) no_trees) no_trees)) no_trees))
    (tree (Method (at 3) (one 0x4E) 1 (tree (Return (Use (at 4) (one 0x4E))) no_trees)) no_trees)

place_errors : name_errors as_place ++ type_errors as_place ≡ WrongCount (at 4) (one 0x4E) ∷ []
place_errors = refl
