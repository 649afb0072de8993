-- The text of the console.
use Rattle.std.specs.Prelude.{ℕ, Bool, true, false, List, [], ◌∷◌, ◌++◌, codes, decimal, slice_index_or}
use Rattle.iasl_messages.specs.declared.place.Place.{Place}
use Rattle.iasl_messages.specs.declared.message.Message.{Message}
use Rattle.iasl_messages.specs.declared.severity.Severity.TheVariants.{Remark, Warning, Error}
use Rattle.iasl_messages.specs.Severity.{severity_of, word_of, count_of}
use Rattle.iasl_messages.specs.Texts.{text_of}

-- the name of a file, by its number
abbrev pub file_name : List (List ℕ) → ℕ → List ℕ
file_name files number = slice_index_or files number []

-- `: ` and the name, if there is one
abbrev pub name_part : List ℕ → List ℕ
name_part [] = []
name_part (c ∷ cs) = codes ": " ++ c ∷ cs

-- `error 6040: TEXT`, or with another separator
abbrev pub text_part : List ℕ → ℕ → List ℕ
text_part separator number = word_of (severity_of number) ++ codes " " ++ decimal number ++ separator ++ text_of number

-- `FILE:LINE:COLUMN`
abbrev pub place_part : List ℕ → Place → List ℕ
place_part file place = file ++ codes ":" ++ decimal place.line ++ codes ":" ++ decimal place.column

-- `FILE:LINE:COLUMN: error 6040: TEXT: NAME`
abbrev pub full_line : List ℕ → Message → List ℕ
full_line file m =
    place_part file m.place ++ codes ": " ++ text_part (codes ": ") m.number ++ name_part m.name ++ codes "\n"

-- `FILE(LINE) : error 6040 : TEXT`
abbrev pub brief_line : List ℕ → Message → List ℕ
brief_line file m =
    file ++ codes "(" ++ decimal m.place.line ++ codes ") : " ++ text_part (codes " : ") m.number ++ codes "\n"

abbrev pub message_line : List (List ℕ) → Bool → Message → List ℕ
message_line files true m = brief_line (file_name files m.place.file) m
message_line files false m = full_line (file_name files m.place.file) m

-- the lines of the messages one after another
abbrev pub messages_text : List (List ℕ) → Bool → List Message → List ℕ
messages_text files brief [] = []
messages_text files brief (m ∷ ms) = message_line files brief m ++ messages_text files brief ms

-- `2 errors, 0 warnings, 0 remarks`
abbrev pub counts_line : ℕ → ℕ → ℕ → List ℕ
counts_line errors warnings remarks =
    decimal errors ++ codes " errors, " ++ decimal warnings ++ codes " warnings, " ++ decimal remarks ++ codes " remarks\n"

-- the last line of the console, always plural
abbrev pub summary_line : List Message → List ℕ
summary_line messages = counts_line (count_of Error messages) (count_of Warning messages) (count_of Remark messages)

-- `t.aml: SSDT, 43 bytes`
abbrev pub table_line : List ℕ → List ℕ → ℕ → List ℕ
table_line name signature size = name ++ codes ": " ++ signature ++ codes ", " ++ decimal size ++ codes " bytes\n"

-- `SSDT 36 bytes`
abbrev pub listed_line : List ℕ → ℕ → List ℕ
listed_line signature size = signature ++ codes " " ++ decimal size ++ codes " bytes\n"

-- `t.i: preprocessed`
abbrev pub preprocessed_line : List ℕ → List ℕ
preprocessed_line name = name ++ codes ": preprocessed\n"

-- `generated: 2 devices`
abbrev pub devices_line : ℕ → List ℕ
devices_line count = codes "generated: " ++ decimal count ++ codes " devices\n"

-- `hpet.asl: template HPET`
abbrev pub template_line : List ℕ → List ℕ → List ℕ
template_line name signature = name ++ codes ": template " ++ signature ++ codes "\n"
