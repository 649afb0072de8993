-- Worked methods with Printf and For, computed from the definitions alone: what they do, and what stands for them.
use Rattle.std.proofs.Common.{◌≡◌, ℕ, false, List, [], ◌∷◌, refl}
use Rattle.acpi_values.specs.declared.width.Width.TheVariants.{W64}
use Rattle.acpi_values.specs.declared.operator.IntOp.TheVariants as IntOp
use Rattle.acpi_values.specs.declared.operator.DataOp.TheVariants as DataOp
use Rattle.acpi_values.specs.declared.operator.Plain.TheVariants as Plain
use Rattle.acpi_values.specs.Values as V
use Rattle.acpi_values.specs.Values.{Value, Data}
use Rattle.acpi_state.specs.Objects.{Event}
use Rattle.acpi_state.specs.Objects as E
use Rattle.acpi_state.specs.Outcomes.{Flow, Normal, Gives, Unfinished, Result, Done, Stopped}
use Rattle.acpi_state.specs.Forms.{LocalSlot, ArgSlot}
use Rattle.acpi_state.specs.Sessions.{Report, Request}
use Rattle.asl_tree.specs.declared.path.Path.{Path}
use Rattle.asl_tree.specs.declared.term.Literal.TheVariants as Literal
use Rattle.asl_tree.specs.Formats.{cut, is_format}
use Rattle.asl_tree.specs.Tree.{At, Tree, Integer, Constant, String, InSlot, Debug, Omitted, Apply, Return, Method, If, While, For, Print, Switch, Case, Continue, Break, Operated, Assigned, Trees, no_trees, tree}
use Rattle.asl_meaning.specs.Declarations.{known_of}
use Rattle.asl_meaning.specs.SourceSession.{source_session}
use Rattle.asl_prints.specs.Forms.{formed_all}

abbrev list_of : List Tree → Trees
list_of [] = no_trees
list_of (t ∷ ts) = tree t (list_of ts)

abbrev here : At
here = record { id = 0; place = record { file = 0; line = 0; column = 0 } }

abbrev one_segment : ℕ → Path
one_segment letter = record { root = false; up = 0; segs = (letter ∷ 0x5F ∷ 0x5F ∷ 0x5F ∷ []) ∷ [] }

abbrev local : ℕ → Tree
local i = InSlot (LocalSlot i)

abbrev argument : Tree
argument = InSlot (ArgSlot 0)

abbrev number : ℕ → Value
number n = Data (V.Integer n)

abbrev method : ℕ → ℕ → List Tree → Trees
method letter arity body = list_of (Method here (one_segment letter) arity (list_of body) ∷ [])

abbrev call_of : ℕ → List Value → List Request
call_of letter args = record { path = (letter ∷ 0x5F ∷ 0x5F ∷ 0x5F ∷ []) ∷ []; args = args } ∷ []

abbrev results : List Report → List (Result Flow)
results [] = []
results (r ∷ rs) = r.result ∷ results rs

abbrev outcomes : Trees → ℕ → List Request → List (Result Flow)
outcomes terms n calls = results (source_session W64 (known_of terms) terms [] n [] calls)

abbrev is_below : ℕ → Tree
is_below n = Operated (Plain.Number IntOp.LLess) (list_of (local 0 ∷ Integer n ∷ []))

abbrev is_zero : Tree
is_zero = Operated (Plain.Number IntOp.LEqual) (list_of (local 0 ∷ Integer 0 ∷ []))

abbrev one_more : Tree
one_more = Operated (Plain.Data DataOp.Increment) (list_of (local 0 ∷ []))

-- Method (F) {For (Local0 = 0, Local0 < 2, Local0++) {If (Local0 == 0) {Continue} Local1 = Local0} Return (Local1)}
abbrev counting : Trees
counting = method 0x46 0 (For (Assigned (local 0) (Integer 0)) (is_below 2) one_more (list_of (If is_zero (list_of (Continue ∷ [])) ∷ Assigned (local 1) (local 0) ∷ [])) ∷ Return (local 1) ∷ [])

-- Method (F) {Local0 = 0 While (Local0 < 2) {If (Local0 == 0) {Local0++ Continue} Local1 = Local0 Local0++} Return (Local1)}
abbrev counting_loop : Trees
counting_loop =
    method 0x46 0
    (Assigned (local 0) (Integer 0) ∷ While (is_below 2) (list_of (If is_zero (list_of (one_more ∷ Continue ∷ [])) ∷ Assigned (local 1) (local 0) ∷ one_more ∷ [])) ∷ Return (local 1) ∷ [])

counting_stands : formed_all counting ≡ counting_loop
counting_stands = refl

one_turn : outcomes counting 1 (call_of 0x46 []) ≡ Done (Normal false) ∷ Stopped Unfinished ∷ []
one_turn = refl

two_turns : outcomes counting 2 (call_of 0x46 []) ≡ Done (Normal false) ∷ Done (Gives (number 1)) ∷ []
two_turns = refl

-- a Continue of a For that leaves a Switch: For (Local0 = 0, Local0 < 2, Local0++) {Switch (Local0) {Case (1) {Continue}} Local1 = Local0} Return (Local1)
abbrev crossing : Trees
crossing = method 0x46 0 (For (Assigned (local 0) (Integer 0)) (is_below 2) one_more (list_of (Switch (local 0) (list_of (Case (Integer 1) (list_of (Continue ∷ [])) ∷ [])) ∷ Assigned (local 1) (local 0) ∷ [])) ∷ Return (local 1) ∷ [])

abbrev crossing_loop : Trees
crossing_loop =
    method 0x46 0
    (Assigned (local 0) (Integer 0)
    ∷ While (is_below 2) (list_of (Switch (local 0) (list_of (Case (Integer 1) (list_of (one_more ∷ Continue ∷ [])) ∷ [])) ∷ Assigned (local 1) (local 0) ∷ one_more ∷ [])) ∷ Return (local 1) ∷ [])

crossing_stands : formed_all crossing ≡ crossing_loop
crossing_stands = refl

crossed : outcomes crossing 2 (call_of 0x46 []) ≡ Done (Normal false) ∷ Done (Gives (number 0)) ∷ []
crossed = refl

-- a Break skips the step: For (Local0 = 0, , Local0++) {Break} Return (Local0), where the test is the word One
abbrev left : Trees
left = method 0x46 0 (For (Assigned (local 0) (Integer 7)) (Constant Literal.One) one_more (list_of (Break ∷ [])) ∷ Return (local 0) ∷ [])

step_skipped : outcomes left 1 (call_of 0x46 []) ≡ Done (Normal false) ∷ Done (Gives (number 7)) ∷ []
step_skipped = refl

-- Printf ("X=%o", Arg0)
abbrev equals_format : List ℕ
equals_format = 0x58 ∷ 0x3D ∷ 0x25 ∷ 0x6F ∷ []

abbrev printing : Trees
printing = method 0x50 1 (Print Debug equals_format (list_of (argument ∷ [])) ∷ [])

abbrev concatenated : Tree → Tree → Tree
concatenated a b = Apply (Plain.Data DataOp.Concatenate) (list_of (a ∷ b ∷ [])) (list_of (Omitted ∷ []))

abbrev stored : Tree → Tree → Tree
stored value target = Apply (Plain.Data DataOp.Store) (list_of (value ∷ target ∷ [])) no_trees

printing_stands : formed_all printing ≡ method 0x50 1 (stored (concatenated (String (0x58 ∷ 0x3D ∷ [])) argument) Debug ∷ [])
printing_stands = refl

abbrev events_of : List Report → List (List Event)
events_of [] = []
events_of (r ∷ rs) = r.events ∷ events_of rs

-- X=000000000000001F
printed : events_of (source_session W64 (known_of printing) printing [] 1 [] (call_of 0x50 (number 0x1F ∷ [])))
    ≡ [] ∷ (E.Debug (Data (V.String (0x58 ∷ 0x3D ∷ 0x30 ∷ 0x30 ∷ 0x30 ∷ 0x30 ∷ 0x30 ∷ 0x30 ∷ 0x30 ∷ 0x30 ∷ 0x30 ∷ 0x30 ∷ 0x30 ∷ 0x30 ∷ 0x30 ∷ 0x30 ∷ 0x31 ∷ 0x46 ∷ []))) ∷ []) ∷ []
printed = refl

-- formats: `%d` is none, `%%o` has no argument, `100%%%o!` has one
bad_format : is_format (0x25 ∷ 0x64 ∷ []) ≡ false
bad_format = refl

percent_sign : cut (0x25 ∷ 0x25 ∷ 0x6F ∷ []) ≡ ((0x25 ∷ 0x6F ∷ []), [])
percent_sign = refl

both_marks : cut (0x31 ∷ 0x25 ∷ 0x25 ∷ 0x25 ∷ 0x6F ∷ 0x21 ∷ []) ≡ ((0x31 ∷ 0x25 ∷ []), (0x21 ∷ []) ∷ [])
both_marks = refl
