-- What is due of generated devices: their lines are good, and it is the same of one file without a name as of none.
use Rattle.std.proofs.Common.{◌≡◌, ℕ, zero, suc, ◌≤◌, Bool, true, false, List, [], ◌∷◌, ◌++◌, length, Some, refl, sym, ap, ◌∙◌, arith}
use Rattle.std.specs.Prelude.{All, cond, map, codes}
use Rattle.std.proofs.lemmas.List.Elements.{All-weaker}
use Rattle.iasl_ports.specs.Gained.{Named}
use Rattle.iasl_ports.specs.Delivery.{Answer}
use Rattle.iasl_messages.specs.declared.place.Line.{Line}
use Rattle.iasl_messages.specs.declared.place.Piece.{Piece}
use Rattle.iasl_messages.specs.declared.message.Message.{Message}
use Rattle.iasl_messages.specs.Order.{sorted_messages}
use Rattle.iasl_messages.specs.Console.{file_name, brief_line, full_line, message_line, messages_text, summary_line, devices_line}
use Rattle.std.specs.List.{list_any}
use Rattle.iasl_ports.specs.Fetched.{same_name}
use Rattle.asl_preprocess.specs.Sound.{IsGoodLine}
use Rattle.iasl_options.specs.Asking.{Asked}
use Rattle.iasl_options.specs.Switches.{no_switch}
use Rattle.iasl_options.specs.declared.switches.Switches.{Switches}
use Rattle.iasl_options.specs.Task.{generated_settings}
use Rattle.generated_lines.specs.Generated.{generated_lines}
use Rattle.table_outputs.specs.Files.{first_in_use, name_in_use, table_files}
use Rattle.block_outcomes.specs.declared.outcome.Compiled.{Compiled}
use Rattle.block_outcomes.specs.declared.outcome.Compiled.TheVariants.{Made, Refused}
use Rattle.block_outcomes.specs.declared.outcome.Table.{Table}
use Rattle.iasl_tool.specs.Sources.{of_source}
use Rattle.iasl_tool.specs.Told.{counted, shown}
use Rattle.iasl_tool.specs.Due.{console_text, made_files, unless_in_use, made_or_in_use, lines_of_tables, files_of_tables, style_of, answer_to_compiled, answer_to_generated}

-- small lines of the first file are good ones of one file
pub good_lines : (files : List (List ℕ)) (lines : List Line) → files ≡ [] ∷ [] → All (λ line. (length line.text ≤ 100) × (line.file ≡ 0)) lines → All (IsGoodLine (length files)) lines
good_lines files lines one h =
    let size : length files ≡ 1 = ap length one in
    All-weaker (λ (line : Line). (length line.text ≤ 100) × (line.file ≡ 0)) (IsGoodLine (length files)) (λ line k. let few = k.0 in let first = k.1 in (omega (arith, few), omega (arith, first, size))) lines h

-- ---- a file without a name is told as none

no_name : (number : ℕ) → file_name ([] ∷ []) number ≡ file_name [] number
no_name zero = refl
no_name (suc number) = refl

line_same : (brief : Bool) (message : Message) → message_line ([] ∷ []) brief message ≡ message_line [] brief message
line_same true message = ap (λ name. brief_line name message) (no_name message.place.file)
line_same false message = ap (λ name. full_line name message) (no_name message.place.file)

text_same : (brief : Bool) (messages : List Message) → messages_text ([] ∷ []) brief messages ≡ messages_text [] brief messages
text_same brief [] = refl
text_same brief (message ∷ messages) = λ i. line_same brief message i ++ text_same brief messages i

console_same : (switches : Switches) (ignored : List (List ℕ)) (messages : List Message) (made : List ℕ) → console_text switches ignored ([] ∷ []) messages made ≡ console_text switches ignored [] messages made
console_same switches ignored messages made =
    let sorted = sorted_messages (counted ignored messages) in
    ap (λ text. text ++ made ++ summary_line sorted) (text_same switches.brief (shown switches sorted))

abbrev ends_with : ℕ → List Named → List ℕ → Answer
ends_with status due text = record { status = status; text = text; due = due }

-- no name is empty
abbrev AreNamed : List (List ℕ) → Type 0
AreNamed [] = Unit {0}
AreNamed ([] ∷ names) = ⊥
AreNamed ((c ∷ cs) ∷ names) = AreNamed names

-- such names are in use alike
same_use : (names : List (List ℕ)) → AreNamed names → first_in_use ([] ∷ []) names ≡ first_in_use [] names
same_use [] h = refl
same_use ([] ∷ names) h = absurd h
same_use ((c ∷ cs) ∷ names) h = ap (λ o. cond (list_any (λ other. same_name other (c ∷ cs)) names) (Some (c ∷ cs)) o) (same_use names h)

table_named : (own : List ℕ) (pieces : List Piece) (rest : List Named) → AreNamed (map (λ file. file.0) rest) → AreNamed (map (λ file. file.0) (table_files generated_settings (codes "generated") own pieces ++ rest))
table_named [] pieces rest h = h
table_named (c ∷ own) pieces rest h = h

tables_named : (tables : List Table) → AreNamed (map (λ file. file.0) (files_of_tables generated_settings (codes "generated") tables))
tables_named [] = tt
tables_named (table ∷ tables) = table_named table.own table.pieces (files_of_tables generated_settings (codes "generated") tables) (tables_named tables)

-- tables of such names are made alike
tables_same : (notes : List Message) (line : List ℕ) (due : List Named) → AreNamed (map (λ file. file.0) due) → made_or_in_use generated_settings ([] ∷ []) notes line due ≡ made_or_in_use generated_settings [] notes line due
tables_same notes line due h =
    ap (λ o. unless_in_use o (made_files generated_settings ([] ∷ []) notes line due)) (same_use (map (λ file. file.0) due) h)
    ∙ ap (λ text. unless_in_use (name_in_use [] due) (ends_with 0 due text)) (console_same no_switch [] notes line)

no_file : (more : List ℕ) (it : Compiled) → answer_to_compiled generated_settings (codes "generated") ([] ∷ []) [] more it ≡ answer_to_compiled generated_settings (codes "generated") [] [] more it
no_file more (Made tables told) = tables_same told (lines_of_tables generated_settings (codes "generated") tables ++ more) (files_of_tables generated_settings (codes "generated") tables) (tables_named tables)
no_file more (Refused messages) = ap (ends_with 1 []) (console_same no_switch [] messages [])

some_file : (file name : List ℕ) → Some file ≡ Some name → file ≡ name
some_file file name e = cc

pub is_due : (asked : Asked) (file : List ℕ) (files : List (List ℕ)) (notes : List Message) (more : List ℕ) (lines : List Line) (count : ℕ) (answer : Answer)
    → asked ≡ generated_settings → asked.file ≡ Some file → files ≡ [] ∷ [] → notes ≡ [] → more ≡ devices_line count → lines ≡ generated_lines count
    → answer ≡ answer_to_compiled asked file files notes more (of_source asked.switches.generic (style_of asked) lines) → answer ≡ answer_to_generated count
is_due asked file files notes more lines count answer asked_is file_is one none line lines_are e =
    let named : file ≡ codes "generated" = some_file file (codes "generated") (sym file_is ∙ ap (λ (a : Asked). a.file) asked_is) in
    e ∙ (λ i. answer_to_compiled (asked_is i) (named i) (one i) (none i) (line i) (of_source (asked_is i).switches.generic (style_of (asked_is i)) (lines_are i)))
    ∙ no_file (devices_line count) (of_source false (style_of generated_settings) (generated_lines count))
