-- Worked sessions of Switch, computed from the definition of what a source means.
use Rattle.std.proofs.Common.{◌≡◌, ℕ, false, List, [], ◌∷◌, refl}
use Rattle.acpi_values.specs.declared.width.Width.TheVariants.{W64}
use Rattle.acpi_values.specs.declared.operator.IntOp.TheVariants as IntOp
use Rattle.acpi_values.specs.declared.operator.DataOp.TheVariants as DataOp
use Rattle.acpi_values.specs.declared.operator.Plain.TheVariants as Plain
use Rattle.acpi_values.specs.Values as V
use Rattle.acpi_values.specs.Values.{Value, Data}
use Rattle.acpi_state.specs.Outcomes.{Flow, Normal, Gives, Unfinished, Result, Done, Stopped}
use Rattle.acpi_state.specs.Forms.{LocalSlot, ArgSlot}
use Rattle.acpi_state.specs.Sessions.{Request}
use Rattle.asl_tree.specs.Tree.{Tree, Integer, InSlot, Package, Return, Method, While, Switch, Case, Default, Break, Continue, Operated, Assigned, Trees, no_trees, tree}
use Rattle.asl_meaning.specs.Declarations.{known_of}
use Rattle.asl_meaning.specs.SourceSession.{source_session}
use Rattle.meaning_rows.proofs.Rows.{one_segment, at, results}

abbrev pub list_of : List Tree → Trees
list_of [] = no_trees
list_of (t ∷ ts) = tree t (list_of ts)

abbrev pub local : ℕ → Tree
local i = InSlot (LocalSlot i)

abbrev pub number : ℕ → Value
number n = Data (V.Integer n)

-- a method with one call of it
abbrev pub method : ℕ → ℕ → List Tree → Trees
method letter arity body = list_of (Method at (one_segment letter) arity (list_of body) ∷ [])

abbrev pub call_of : ℕ → List Value → List Request
call_of letter args = record { path = (letter ∷ 0x5F ∷ 0x5F ∷ 0x5F ∷ []) ∷ []; args = args } ∷ []

abbrev outcomes : Trees → ℕ → List Request → List (Result Flow)
outcomes terms n calls = results (source_session W64 (known_of terms) terms [] n [] calls)

-- Method (S, 1) {Switch (Arg0) {Default {Return (20)} Case (1) {Return (10)} Case (Package () {2, 3}) {Return (30)}}}
abbrev choice : Trees
choice =
    method 0x53 1
    (Switch (InSlot (ArgSlot 0))
    (list_of (Default (list_of (Return (Integer 20) ∷ []))
    ∷ Case (Integer 1) (list_of (Return (Integer 10) ∷ []))
    ∷ Case (Package 2 (list_of (Integer 2 ∷ Integer 3 ∷ []))) (list_of (Return (Integer 30) ∷ [])) ∷ [])) ∷ [])

first_case : outcomes choice 1 (call_of 0x53 (number 1 ∷ [])) ≡ Done (Normal false) ∷ Done (Gives (number 10)) ∷ []
first_case = refl

of_a_package : outcomes choice 1 (call_of 0x53 (number 3 ∷ [])) ≡ Done (Normal false) ∷ Done (Gives (number 30)) ∷ []
of_a_package = refl

no_case : outcomes choice 1 (call_of 0x53 (number 4 ∷ [])) ≡ Done (Normal false) ∷ Done (Gives (number 20)) ∷ []
no_case = refl

-- Method (W, 0) {Local0 = 0 While (Local0 < 2) {Local0++ Switch (Local0) {Case (1) {Continue}} Local1 = Local0} Return (Local1)}
abbrev crossed : Trees
crossed =
    method 0x57 0
    (Assigned (local 0) (Integer 0)
    ∷ While (Operated (Plain.Number IntOp.LLess) (list_of (local 0 ∷ Integer 2 ∷ [])))
    (list_of (Operated (Plain.Data DataOp.Increment) (list_of (local 0 ∷ []))
    ∷ Switch (local 0) (list_of (Case (Integer 1) (list_of (Continue ∷ [])) ∷ []))
    ∷ Assigned (local 1) (local 0) ∷ []))
    ∷ Return (local 1) ∷ [])

one_turn : outcomes crossed 1 (call_of 0x57 []) ≡ Done (Normal false) ∷ Stopped Unfinished ∷ []
one_turn = refl

two_turns : outcomes crossed 2 (call_of 0x57 []) ≡ Done (Normal false) ∷ Done (Gives (number 2)) ∷ []
two_turns = refl

-- Method (B, 0) {While (1) {Switch (1) {Case (1) {Switch (2) {Case (2) {Break}} Return (5)}}}}: Break leaves the inner Switch alone
abbrev inner_break : Trees
inner_break =
    method 0x42 0
    (While (Integer 1)
    (list_of (Switch (Integer 1)
    (list_of (Case (Integer 1) (list_of (Switch (Integer 2) (list_of (Case (Integer 2) (list_of (Break ∷ [])) ∷ [])) ∷ Return (Integer 5) ∷ [])) ∷ [])) ∷ [])) ∷ [])

inner_left : outcomes inner_break 1 (call_of 0x42 []) ≡ Done (Normal false) ∷ Done (Gives (number 5)) ∷ []
inner_left = refl

-- Method (O, 0) {Local0 = 0 Switch (Local0++) {Case (5) {} Case (6) {} Default {}} Return (Local0)}: the value is evaluated once
abbrev evaluated : Trees
evaluated =
    method 0x4F 0
    (Assigned (local 0) (Integer 0)
    ∷ Switch (Operated (Plain.Data DataOp.Increment) (list_of (local 0 ∷ [])))
    (list_of (Case (Integer 5) no_trees ∷ Case (Integer 6) no_trees ∷ Default no_trees ∷ []))
    ∷ Return (local 0) ∷ [])

once : outcomes evaluated 1 (call_of 0x4F []) ≡ Done (Normal false) ∷ Done (Gives (number 1)) ∷ []
once = refl
