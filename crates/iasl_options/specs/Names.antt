-- The names of outputs, as a function and as what is true of them.
use Rattle.std.specs.Prelude.{◌≡◌, ℕ, ◌==◌, ◌&&◌, ◌⊎◌, Bool, true, false, not, if◌then◌else◌, List, [], ◌∷◌, ◌++◌, Some, None, codes}
use Rattle.std.specs.declared.option.Option.{Option}
use Rattle.std.specs.Option.{unwrap_or}
use Rattle.std.specs.List.{list_any}

abbrev pub has_slash : List ℕ → Bool
has_slash name = list_any (λ c. c == 47) name

abbrev pub or_here : ℕ → List ℕ → Option (List ℕ) → Option (List ℕ)
or_here c cs (Some front) = Some (c ∷ front)
or_here c cs None = if c == 46 && not (has_slash cs) then Some [] else None

-- what stands before the last dot (46) behind the last slash (47); none where no dot stands there
abbrev pub before_extension : List ℕ → Option (List ℕ)
before_extension [] = None
before_extension (c ∷ cs) = or_here c cs (before_extension cs)

-- a file's name without its extension
abbrev pub stem_of : List ℕ → List ℕ
stem_of file = unwrap_or (before_extension file) file

-- the front of the output names: the prefix that was asked for, or the file's name without its extension
abbrev pub output_stem : Option (List ℕ) → List ℕ → List ℕ
output_stem (Some prefix) file = prefix
output_stem None file = stem_of file

abbrev pub output_name : Option (List ℕ) → List ℕ → List ℕ → List ℕ
output_name prefix file extension = output_stem prefix file ++ extension

-- the directory of a file's name: its front up to the last slash (47), which is part of it
abbrev pub directory_of : List ℕ → List ℕ
directory_of [] = []
directory_of (c ∷ cs) = if has_slash (c ∷ cs) then c ∷ directory_of cs else []

-- the name of a table's file: the prefix that was asked for and the extension; or the block's own name in the file's directory; or,
-- where that is empty, the file's name with the extension in place of its own
abbrev pub table_name : Option (List ℕ) → List ℕ → List ℕ → List ℕ
table_name (Some prefix) file own = output_name (Some prefix) file (codes ".aml")
table_name None file [] = output_name None file (codes ".aml")
table_name None file (c ∷ own) = directory_of file ++ (c ∷ own)

-- the name of a further output of a table: as the table's, with this extension in place of that
abbrev pub further_name : Option (List ℕ) → List ℕ → List ℕ → List ℕ → List ℕ
further_name (Some prefix) file own extension = output_name (Some prefix) file extension
further_name None file [] extension = output_name None file extension
further_name None file (c ∷ own) extension = (directory_of file ++ stem_of (c ∷ own)) ++ extension

-- ---- what is true of them

abbrev pub has_dot : List ℕ → Bool
has_dot name = list_any (λ c. c == 46) name

-- A file's name without its extension: an extension stands behind a dot and has neither dot nor slash; a name has none where
-- a slash stands behind each of its dots.
abbrev pub IsStem : List ℕ → List ℕ → Type 0
IsStem file stem =
    ((rest : List ℕ) × (file ≡ stem ++ 46 ∷ rest) × (has_dot rest ≡ false) × (has_slash rest ≡ false))
    ⊎ ((stem ≡ file) × ((front rest : List ℕ) → file ≡ front ++ 46 ∷ rest → has_slash rest ≡ true))

-- the name of an output: the prefix that was asked for, or the file's name without its extension, and then this extension
abbrev pub IsOutputName : Option (List ℕ) → List ℕ → List ℕ → List ℕ → Type 0
IsOutputName (Some prefix) file extension name = name ≡ prefix ++ extension
IsOutputName None file extension name = (stem : List ℕ) × IsStem file stem × (name ≡ stem ++ extension)

-- The directory of a file's name ends with the last slash; a name without a slash has none.
abbrev pub IsDirectory : List ℕ → List ℕ → Type 0
IsDirectory file directory =
    ((front rest : List ℕ) × (file ≡ front ++ 47 ∷ rest) × (has_slash rest ≡ false) × (directory ≡ front ++ 47 ∷ []))
    ⊎ ((has_slash file ≡ false) × (directory ≡ []))

-- the name of a table's file
abbrev pub IsTableName : Option (List ℕ) → List ℕ → List ℕ → List ℕ → Type 0
IsTableName (Some prefix) file own name = IsOutputName (Some prefix) file (codes ".aml") name
IsTableName None file [] name = IsOutputName None file (codes ".aml") name
IsTableName None file (c ∷ own) name = (directory : List ℕ) × IsDirectory file directory × (name ≡ directory ++ (c ∷ own))

-- the name of a further output of a table
abbrev pub IsFurtherName : Option (List ℕ) → List ℕ → List ℕ → List ℕ → List ℕ → Type 0
IsFurtherName (Some prefix) file own extension name = IsOutputName (Some prefix) file extension name
IsFurtherName None file [] extension name = IsOutputName None file extension name
IsFurtherName None file (c ∷ own) extension name = (directory : List ℕ) × (stem : List ℕ) × IsDirectory file directory
    × IsStem (c ∷ own) stem × (name ≡ (directory ++ stem) ++ extension)
