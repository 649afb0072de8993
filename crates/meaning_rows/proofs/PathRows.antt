-- Sessions with paths that go up, with aliases of methods, and with bounds that are exactly met and passed. Another implementation gives
--     the values.
use Rattle.std.proofs.Common.{◌≡◌, ℕ, false, true, List, [], ◌∷◌, ◌++◌, Some, refl}
use Rattle.std.specs.Prelude.{codes}
use Rattle.acpi_values.specs.declared.width.Width.TheVariants.{W64}
use Rattle.acpi_values.specs.declared.operator.IntOp.TheVariants as IntOp
use Rattle.acpi_values.specs.declared.operator.EventOp.TheVariants as EventOp
use Rattle.acpi_state.specs.Objects.{Device}
use Rattle.acpi_state.specs.Objects as E
use Rattle.acpi_state.specs.Outcomes.{NoValue, Normal, Unfinished, Done, Stopped}
use Rattle.asl_tree.specs.Tree.{Integer, Debug, Use, Call, Return, Name, Alias, Method, Container', Scope, If, While, Break, Continue, Assigned, Trees, no_trees}
use Rattle.aml_meaning.specs.Codes.{code_front}
use Rattle.acpi_names.specs.Errors.{name_errors, type_errors}
use Rattle.meaning_rows.proofs.Rows.{at}
use Rattle.meaning_rows.proofs.Outside.{hex, table, at_root, number, call, gives, Asked, Told, of_bytes, of_source, written, one, path, terms, name, local, arg, symbol, event_op, increment}

-- Paths that go up, an alias of an alias of a method, seven arguments
-- Device (D) { Name (X, 1) Device (E) { Name (X, 2) Device (F) { Name (Y, 3) Method (M) { Return (^^X + ^^^X + \D.E.F.Y + ^Y) } Method
--     (N, 7) { Return (Arg0 + Arg6) } } } }
-- Alias (\D.E.F.M, A)
-- Alias (A, A2)
-- Name (X, 9)
-- Method (T) { Return (A2 () + \D.E.F.N (1, 2, 3, 4, 5, 6, 7)) }
-- Scope (\D.E) { Method (Z) { Return (X + ^F.Y) } }
abbrev upward : Trees
upward =
    terms
    (Container' Device at (one "D___")
    (terms
    (Name at (one "X___") (Integer 1)
    ∷ Container' Device at (one "E___")
    (terms
    (Name at (one "X___") (Integer 2)
    ∷ Container' Device at (one "F___")
    (terms
    (Name at (one "Y___") (Integer 3)
    ∷ Method at (one "M___") 0
    (terms
    (Return
    (symbol IntOp.Add
    (symbol IntOp.Add
    (symbol IntOp.Add (Use at (path false 2 (codes "X___" ∷ [])) ∷ Use at (path false 3 (codes "X___" ∷ [])) ∷ [])
    ∷ Use at (path true 0 (codes "D___" ∷ codes "E___" ∷ codes "F___" ∷ codes "Y___" ∷ [])) ∷ [])
    ∷ Use at (path false 1 (codes "Y___" ∷ [])) ∷ [])) ∷ []))
    ∷ Method at (one "N___") 7 (terms (Return (symbol IntOp.Add (arg 0 ∷ arg 6 ∷ [])) ∷ [])) ∷ [])) ∷ [])) ∷ []))
    ∷ Alias at (path true 0 (codes "D___" ∷ codes "E___" ∷ codes "F___" ∷ codes "M___" ∷ [])) at (one "A___")
    ∷ Alias at (one "A___") at (one "A2__")
    ∷ Name at (one "X___") (Integer 9)
    ∷ Method at (one "T___") 0
    (terms
    (Return
    (symbol IntOp.Add
    (Call at (one "A2__") no_trees
    ∷ Call at (path true 0 (codes "D___" ∷ codes "E___" ∷ codes "F___" ∷ codes "N___" ∷ []))
    (terms (Integer 1 ∷ Integer 2 ∷ Integer 3 ∷ Integer 4 ∷ Integer 5 ∷ Integer 6 ∷ Integer 7 ∷ [])) ∷ [])) ∷ []))
    ∷ Scope at at (path true 0 (codes "D___" ∷ codes "E___" ∷ []))
    (terms
    (Method at (one "Z___") 0
    (terms
    (Return (symbol IntOp.Add (name "X___" ∷ Use at (path false 1 (codes "F___" ∷ codes "Y___" ∷ [])) ∷ [])) ∷ [])) ∷ [])) ∷ [])

abbrev upward_table : List ℕ
upward_table =
    table "14 01 00 00 02 E4"
    (hex "5B 82 49 06 44 5F 5F 5F 08 58 5F 5F 5F 01 5B 82 4B 05 45 5F 5F 5F 08 58 5F 5F 5F 0A 02 5B 82 4C 04 46 5F 5F 5F 08 59 5F"
    ++ hex "5F 5F 0A 03 14 32 4D 5F 5F 5F 00 A4 72 72 72 5E 5E 58 5F 5F 5F 5E 5E 5E 58 5F 5F 5F 00 5C 2F 04 44 5F 5F 5F 45 5F 5F 5F"
    ++ hex "46 5F 5F 5F 59 5F 5F 5F 00 5E 59 5F 5F 5F 00 14 0B 4E 5F 5F 5F 07 A4 72 68 6E 00"
    ++ hex "06 5C 2F 04 44 5F 5F 5F 45 5F 5F 5F 46 5F 5F 5F 4D 5F 5F 5F 41 5F 5F 5F"
    ++ hex "06 41 5F 5F 5F 41 32 5F 5F"
    ++ hex "08 58 5F 5F 5F 0A 09"
    ++ hex "14 2D 54 5F 5F 5F 00 A4 72 41 32 5F 5F 5C 2F 04 44 5F 5F 5F 45 5F 5F 5F 46 5F 5F 5F 4E 5F 5F 5F 01 0A 02 0A 03 0A 04 0A"
    ++ hex "05 0A 06 0A 07 00"
    ++ hex "10 2E 5C 2E 44 5F 5F 5F 45 5F 5F 5F 14 22 5A 5F 5F 5F 00 A4 72 5C 2F 03 44 5F 5F 5F 45 5F 5F 5F 58 5F 5F 5F 5E 2E 46 5F"
    ++ hex "5F 5F 59 5F 5F 5F 00")

abbrev upward_asked : Asked
upward_asked = record {
  there = [];
  bound = 8;
  answers = [];
  calls = call (at_root "T___") [] ∷ call (at_root "A___") [] ∷ call (codes "Z___" ∷ codes "E___" ∷ codes "D___" ∷ []) [] ∷ [];
  paths = (codes "Y___" ∷ codes "F___" ∷ codes "E___" ∷ codes "D___" ∷ []) ∷ (codes "X___" ∷ codes "E___" ∷ codes "D___" ∷ [])
      ∷ (codes "X___" ∷ codes "D___" ∷ []) ∷ at_root "X___" ∷ [];
}

abbrev upward_told : Told
upward_told = record {
  results = Done (Normal false) ∷ gives (number 17) ∷ gives (number 9) ∷ gives (number 5) ∷ [];
  events = [];
  left = [];
  values = Some (number 3) ∷ Some (number 2) ∷ Some (number 1) ∷ Some (number 9) ∷ [];
}

upward_encoded : written upward ≡ upward_table
upward_encoded = refl

upward_right : name_errors upward ++ type_errors upward ≡ []
upward_right = refl

upward_by_source : of_source W64 upward upward_asked ≡ upward_told
upward_by_source = refl

upward_by_bytes : of_bytes upward_table upward_asked ≡ upward_told
unfolding code_front
upward_by_bytes = refl

-- At a bound of 3, three turns of a loop inside a loop, and three calls deep
-- Method (A, 2) { Local2 = 0 Local0 = 0 While (Local0 < Arg0) { Local0++ Local1 = 0 While (Local1 < Arg1) { Local1++ Local2++ If (Local1
--     == 2) { Continue } If (Local2 > 100) { Break } } } Return (Local2) }
-- Method (R, 1) { If (Arg0) { Return (R (Arg0 - 1) + 1) } Return (0) }
-- Alias (R, Q)
-- Method (W) { While (Timer) { Debug = 1 } }
abbrev bound_met : Trees
bound_met =
    terms
    (Method at (one "A___") 2
    (terms
    (Assigned (local 2) (Integer 0)
    ∷ Assigned (local 0) (Integer 0)
    ∷ While (symbol IntOp.LLess (local 0 ∷ arg 0 ∷ []))
    (terms
    (increment (local 0)
    ∷ Assigned (local 1) (Integer 0)
    ∷ While (symbol IntOp.LLess (local 1 ∷ arg 1 ∷ []))
    (terms
    (increment (local 1)
    ∷ increment (local 2)
    ∷ If (symbol IntOp.LEqual (local 1 ∷ Integer 2 ∷ [])) (terms (Continue ∷ []))
    ∷ If (symbol IntOp.LGreater (local 2 ∷ Integer 100 ∷ [])) (terms (Break ∷ [])) ∷ [])) ∷ []))
    ∷ Return (local 2) ∷ []))
    ∷ Method at (one "R___") 1
    (terms
    (If (arg 0)
    (terms
    (Return
    (symbol IntOp.Add
    (Call at (one "R___") (terms (symbol IntOp.Subtract (arg 0 ∷ Integer 1 ∷ []) ∷ [])) ∷ Integer 1 ∷ [])) ∷ []))
    ∷ Return (Integer 0) ∷ []))
    ∷ Alias at (one "R___") at (one "Q___")
    ∷ Method at (one "W___") 0 (terms (While (event_op EventOp.Timer []) (terms (Assigned Debug (Integer 1) ∷ [])) ∷ [])) ∷ [])

abbrev bound_met_table : List ℕ
bound_met_table =
    table "84 00 00 00 02 FE"
    (hex "14 2F 41 5F 5F 5F 02 70 00 62 70 00 60 A2 20 95 60 68 75 60 70 00 61 A2 16 95 61 69 75 61 75 62 A0 06 93 61 0A 02 9F A0"
    ++ hex "06 94 62 0A 64 A5 A4 62"
    ++ hex "14 17 52 5F 5F 5F 01 A0 0E 68 A4 72 52 5F 5F 5F 74 68 01 00 01 00 A4 00"
    ++ hex "06 52 5F 5F 5F 51 5F 5F 5F"
    ++ hex "14 0E 57 5F 5F 5F 00 A2 07 5B 33 70 01 5B 31")

abbrev bound_met_asked : Asked
bound_met_asked = record {
  there = [];
  bound = 3;
  answers = number 1 ∷ number 1 ∷ number 0 ∷ [];
  calls = call (at_root "A___") (number 3 ∷ number 3 ∷ []) ∷ call (at_root "R___") (number 2 ∷ [])
      ∷ call (at_root "Q___") (number 2 ∷ []) ∷ call (at_root "A___") (number 2 ∷ number 3 ∷ []) ∷ call (at_root "W___") [] ∷ [];
  paths = [];
}

abbrev bound_met_told : Told
bound_met_told = record {
  results = Done (Normal false) ∷ gives (number 9) ∷ gives (number 2) ∷ gives (number 2) ∷ gives (number 6) ∷ Done NoValue ∷ [];
  events = E.Timer ∷ E.Debug (number 1) ∷ E.Timer ∷ E.Debug (number 1) ∷ E.Timer ∷ [];
  left = [];
  values = [];
}

bound_met_encoded : written bound_met ≡ bound_met_table
bound_met_encoded = refl

bound_met_right : name_errors bound_met ++ type_errors bound_met ≡ []
bound_met_right = refl

bound_met_by_source : of_source W64 bound_met bound_met_asked ≡ bound_met_told
bound_met_by_source = refl

bound_met_by_bytes : of_bytes bound_met_table bound_met_asked ≡ bound_met_told
unfolding code_front
bound_met_by_bytes = refl

-- At a bound of 2, the test of a third turn is made, and the answer to it read
-- Method (W) { While (Timer) { Debug = 1 } }
abbrev bound_passed : Trees
bound_passed =
    terms
    (Method at (one "W___") 0
    (terms (While (event_op EventOp.Timer []) (terms (Assigned Debug (Integer 1) ∷ [])) ∷ [])) ∷ [])

abbrev bound_passed_table : List ℕ
bound_passed_table = table "33 00 00 00 02 B2" (hex "14 0E 57 5F 5F 5F 00 A2 07 5B 33 70 01 5B 31")

abbrev bound_passed_asked : Asked
bound_passed_asked = record {
  there = [];
  bound = 2;
  answers = number 1 ∷ number 1 ∷ number 1 ∷ number 7 ∷ [];
  calls = call (at_root "W___") [] ∷ [];
  paths = [];
}

abbrev bound_passed_told : Told
bound_passed_told = record {
  results = Done (Normal false) ∷ Stopped Unfinished ∷ [];
  events = E.Timer ∷ E.Debug (number 1) ∷ E.Timer ∷ E.Debug (number 1) ∷ E.Timer ∷ [];
  left = number 7 ∷ [];
  values = [];
}

bound_passed_encoded : written bound_passed ≡ bound_passed_table
bound_passed_encoded = refl

bound_passed_right : name_errors bound_passed ++ type_errors bound_passed ≡ []
bound_passed_right = refl

bound_passed_by_source : of_source W64 bound_passed bound_passed_asked ≡ bound_passed_told
bound_passed_by_source = refl

bound_passed_by_bytes : of_bytes bound_passed_table bound_passed_asked ≡ bound_passed_told
unfolding code_front
bound_passed_by_bytes = refl
