-- Names in their shortest spelling, computed from the definitions alone.
use Rattle.std.proofs.Common.{◌≡◌, ℕ, Bool, true, false, List, [], ◌∷◌, refl}
use Rattle.acpi_values.specs.Paths.{AbsolutePath, is_same_path}
use Rattle.acpi_values.specs.Values as V
use Rattle.acpi_values.specs.Values.{Data}
use Rattle.acpi_values.specs.declared.width.Width.TheVariants.{W64}
use Rattle.acpi_state.specs.Objects.{Device}
use Rattle.acpi_state.specs.Outcomes.{Gives, Normal, Done}
use Rattle.acpi_state.specs.Sessions.{Request}
use Rattle.asl_tree.specs.Tree.{Integer, Use, Return, Name, Method, Container', Package, Trees, no_trees, tree}
use Rattle.asl_meaning.specs.Declarations.{known_of}
use Rattle.asl_meaning.specs.SourceSession.{source_session}
use Rattle.aml_code.specs.Header.{table_bytes}
use Rattle.aml_meaning.specs.Codes.{code_front}
use Rattle.aml_meaning.specs.Encoded.{encoded_terms}
use Rattle.aml_meaning.specs.ByteSession.{byte_session}
use Rattle.named_sessions.specs.Core.{core_of, core_beside}
use Rattle.meaning_rows.proofs.Rows.{fields}
use Rattle.meaning_rows.proofs.NameRows.{seg, one, at, shadowed, results}

-- the bytes of terms with their names shortened, and of terms with their names as they are
abbrev short_bytes : Trees → List ℕ
short_bytes terms = encoded_terms W64 true (core_of true terms)

abbrev full_bytes : Trees → List ℕ
full_bytes terms = encoded_terms W64 true (core_of false terms)

-- Name (X, 5)  Method (M) { Return (\X) }
abbrev rooted : Trees
rooted =
    tree (Name (at 1) (one 0x58) (Integer 5))
    (tree (Method (at 2) (one 0x4D) 0 (tree (Return (Use (at 3) (record { root = true; up = 0; segs = seg 0x58 ∷ [] }))) no_trees)) no_trees)

rooted_short : short_bytes rooted ≡ 0x08 ∷ 0x58 ∷ 0x5F ∷ 0x5F ∷ 0x5F ∷ 0x0A ∷ 0x05 ∷ 0x14 ∷ 0x0B ∷ 0x4D ∷ 0x5F ∷ 0x5F ∷ 0x5F ∷ 0x00 ∷ 0xA4 ∷ 0x58 ∷ 0x5F ∷ 0x5F ∷ 0x5F ∷ []
rooted_short = refl

rooted_full : full_bytes rooted ≡ 0x08 ∷ 0x58 ∷ 0x5F ∷ 0x5F ∷ 0x5F ∷ 0x0A ∷ 0x05 ∷ 0x14 ∷ 0x0C ∷ 0x4D ∷ 0x5F ∷ 0x5F ∷ 0x5F ∷ 0x00 ∷ 0xA4 ∷ 0x5C ∷ 0x58 ∷ 0x5F ∷ 0x5F ∷ 0x5F ∷ []
rooted_full = refl

-- Device (D) { Name (Y, 1)  Method (M) { Name (Y, 2)  Return (\D.Y) } }
abbrev two_names : Trees
two_names =
    tree (Container' Device (at 1) (one 0x44) (tree (Name (at 2) (one 0x59) (Integer 1)) (tree (Method (at 3) (one 0x4D) 0 (tree (Name (at 4) (one 0x59) (Integer 2)) (tree (Return (Use (at 5) (record { root = true; up = 0; segs = seg 0x44 ∷ seg 0x59 ∷ [] }))) no_trees))) no_trees))) no_trees

two_short : short_bytes two_names ≡ 0x5B ∷ 0x82 ∷ 0x1F ∷ 0x44 ∷ 0x5F ∷ 0x5F ∷ 0x5F ∷ 0x08 ∷ 0x59 ∷ 0x5F ∷ 0x5F ∷ 0x5F ∷ 0x01 ∷ 0x14 ∷ 0x13 ∷ 0x4D ∷ 0x5F ∷ 0x5F ∷ 0x5F ∷ 0x00 ∷ 0x08 ∷ 0x59 ∷ 0x5F ∷ 0x5F ∷ 0x5F ∷ 0x0A ∷ 0x02 ∷ 0xA4 ∷ 0x5E ∷ 0x59 ∷ 0x5F ∷ 0x5F ∷ 0x5F ∷ []
two_short = refl

abbrev asked_m : List Request
asked_m = record { path = seg 0x4D ∷ seg 0x44 ∷ []; args = [] } ∷ []

two_runs : results (source_session W64 (known_of two_names) two_names [] 2 [] asked_m) ≡ Done (Normal false) ∷ Done (Gives (Data (V.Integer 1))) ∷ []
two_runs = refl

pub two_same : results (byte_session (table_bytes fields (short_bytes two_names)) [] 2 [] asked_m) ≡ Done (Normal false) ∷ Done (Gives (Data (V.Integer 1))) ∷ []
unfolding code_front
two_same = refl

-- where the path from the root is as short as another form, it is written
tie_rooted : short_bytes shadowed ≡ full_bytes shadowed
tie_rooted = refl

-- Device (D) { Name (Y, 1)  Name (P, Package { ^D.Y }) }: no name in a Package is searched
abbrev packaged : Trees
packaged =
    tree (Container' Device (at 1) (one 0x44) (tree (Name (at 2) (one 0x59) (Integer 1)) (tree (Name (at 3) (one 0x50) (Package 1 (tree (Use (at 4) (record { root = false; up = 1; segs = seg 0x44 ∷ seg 0x59 ∷ [] })) no_trees))) no_trees))) no_trees

pub packaged_rooted : short_bytes packaged ≡ 0x5B ∷ 0x82 ∷ 0x1D ∷ 0x44 ∷ 0x5F ∷ 0x5F ∷ 0x5F ∷ 0x08 ∷ 0x59 ∷ 0x5F ∷ 0x5F ∷ 0x5F ∷ 0x01 ∷ 0x08 ∷ 0x50 ∷ 0x5F ∷ 0x5F ∷ 0x5F ∷ 0x12 ∷ 0x0C ∷ 0x01 ∷ 0x5C ∷ 0x2E ∷ 0x44 ∷ 0x5F ∷ 0x5F ∷ 0x5F ∷ 0x59 ∷ 0x5F ∷ 0x5F ∷ 0x5F ∷ []
packaged_rooted = refl

-- Device (D) { Name (X, 5)  Device (E) { Method (M) { Return (\D.X) } } }
abbrev inner_use : Trees
inner_use =
    tree (Container' Device (at 1) (one 0x44) (tree (Name (at 2) (one 0x58) (Integer 5))
    (tree (Container' Device (at 3) (one 0x45) (tree (Method (at 4) (one 0x4D) 0 (tree (Return (Use (at 5) (record { root = true; up = 0; segs = seg 0x44 ∷ seg 0x58 ∷ [] }))) no_trees)) no_trees)) no_trees)))
    no_trees

-- the bytes of terms, their names shortened or not, where a path of no object stands in the way of these
abbrev beside_bytes : Bool → AbsolutePath → Trees → List ℕ
beside_bytes shorten path terms = encoded_terms W64 true (core_beside shorten (is_same_path path) terms)

-- the path \D.E.X of a descriptor stands in the way of X, which is met first, and \D.M.X in no way
abbrev met_first : AbsolutePath
met_first = seg 0x58 ∷ seg 0x45 ∷ seg 0x44 ∷ []

abbrev met_nowhere : AbsolutePath
met_nowhere = seg 0x58 ∷ seg 0x4D ∷ seg 0x44 ∷ []

pub spelled_around : beside_bytes true met_first inner_use ≡ 0x5B ∷ 0x82 ∷ 0x21 ∷ 0x44 ∷ 0x5F ∷ 0x5F ∷ 0x5F ∷ 0x08 ∷ 0x58 ∷ 0x5F ∷ 0x5F ∷ 0x5F ∷ 0x0A ∷ 0x05 ∷ 0x5B ∷ 0x82 ∷ 0x13 ∷ 0x45 ∷ 0x5F ∷ 0x5F ∷ 0x5F ∷ 0x14 ∷ 0x0D ∷ 0x4D ∷ 0x5F ∷ 0x5F ∷ 0x5F ∷ 0x00 ∷ 0xA4 ∷ 0x5E ∷ 0x5E ∷ 0x58 ∷ 0x5F ∷ 0x5F ∷ 0x5F ∷ []
spelled_around = refl

pub spelled_alone : beside_bytes true met_nowhere inner_use ≡ 0x5B ∷ 0x82 ∷ 0x1F ∷ 0x44 ∷ 0x5F ∷ 0x5F ∷ 0x5F ∷ 0x08 ∷ 0x58 ∷ 0x5F ∷ 0x5F ∷ 0x5F ∷ 0x0A ∷ 0x05 ∷ 0x5B ∷ 0x82 ∷ 0x11 ∷ 0x45 ∷ 0x5F ∷ 0x5F ∷ 0x5F ∷ 0x14 ∷ 0x0B ∷ 0x4D ∷ 0x5F ∷ 0x5F ∷ 0x5F ∷ 0x00 ∷ 0xA4 ∷ 0x58 ∷ 0x5F ∷ 0x5F ∷ 0x5F ∷ []
spelled_alone = refl

-- the same object is found by either
abbrev asked_inner : List Request
asked_inner = record { path = seg 0x4D ∷ seg 0x45 ∷ seg 0x44 ∷ []; args = [] } ∷ []

pub around_runs : results (byte_session (table_bytes fields (beside_bytes true met_first inner_use)) [] 2 [] asked_inner) ≡ Done (Normal false) ∷ Done (Gives (Data (V.Integer 5))) ∷ []
unfolding code_front
around_runs = refl

pub alone_runs : results (byte_session (table_bytes fields (beside_bytes true met_nowhere inner_use)) [] 2 [] asked_inner) ≡ Done (Normal false) ∷ Done (Gives (Data (V.Integer 5))) ∷ []
unfolding code_front
alone_runs = refl

-- Device (D) { Name (X, 5)  Method (M) { Return (X) } } beside \X, which is met behind \D.X
abbrev outer_use : Trees
outer_use =
    tree (Container' Device (at 1) (one 0x44) (tree (Name (at 2) (one 0x58) (Integer 5)) (tree (Method (at 3) (one 0x4D) 0 (tree (Return (Use (at 4) (one 0x58))) no_trees)) no_trees))) no_trees

pub spelled_from_root : beside_bytes false (seg 0x58 ∷ []) outer_use ≡ 0x5B ∷ 0x82 ∷ 0x1E ∷ 0x44 ∷ 0x5F ∷ 0x5F ∷ 0x5F ∷ 0x08 ∷ 0x58 ∷ 0x5F ∷ 0x5F ∷ 0x5F ∷ 0x0A ∷ 0x05 ∷ 0x14 ∷ 0x11 ∷ 0x4D ∷ 0x5F ∷ 0x5F ∷ 0x5F ∷ 0x00 ∷ 0xA4 ∷ 0x5C ∷ 0x2E ∷ 0x44 ∷ 0x5F ∷ 0x5F ∷ 0x5F ∷ 0x58 ∷ 0x5F ∷ 0x5F ∷ 0x5F ∷ []
spelled_from_root = refl

pub spelled_as_written : beside_bytes false (seg 0x59 ∷ []) outer_use ≡ 0x5B ∷ 0x82 ∷ 0x18 ∷ 0x44 ∷ 0x5F ∷ 0x5F ∷ 0x5F ∷ 0x08 ∷ 0x58 ∷ 0x5F ∷ 0x5F ∷ 0x5F ∷ 0x0A ∷ 0x05 ∷ 0x14 ∷ 0x0B ∷ 0x4D ∷ 0x5F ∷ 0x5F ∷ 0x5F ∷ 0x00 ∷ 0xA4 ∷ 0x58 ∷ 0x5F ∷ 0x5F ∷ 0x5F ∷ []
spelled_as_written = refl
