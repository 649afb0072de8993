-- The files of a table: their names, and whether one is in use.
use Rattle.std.specs.Prelude.{ℕ, Bool, ◌||◌, cond, List, [], ◌∷◌, ◌++◌, map, codes, Some, None}
use Rattle.std.specs.declared.option.Option.{Option}
use Rattle.std.specs.List.{list_any}
use Rattle.iasl_ports.specs.Gained.{Named}
use Rattle.iasl_ports.specs.Fetched.{same_name}
use Rattle.iasl_messages.specs.declared.place.Piece.{Piece}
use Rattle.iasl_backends.specs.Table.{table_bytes}
use Rattle.iasl_backends.specs.CText.{c_text}
use Rattle.iasl_backends.specs.Listing.{listed_pieces}
use Rattle.iasl_options.specs.Asking.{Asked}
use Rattle.iasl_options.specs.Names.{further_name, table_name as name_of_table}

-- whether a file of this name was fetched
abbrev pub is_fetched : List (List ℕ) → List ℕ → Bool
is_fetched files name = list_any (λ file. same_name file name) files

-- the first of some names that a file has which was fetched, or another of them
abbrev pub first_in_use : List (List ℕ) → List (List ℕ) → Option (List ℕ)
first_in_use files [] = None
first_in_use files (name ∷ names) = cond (is_fetched files name || list_any (λ other. same_name other name) names) (Some name)
    (first_in_use files names)

-- the first such name of some files to put
abbrev pub name_in_use : List (List ℕ) → List Named → Option (List ℕ)
name_in_use files due = first_in_use files (map (λ file. file.0) due)

-- the name of the table's file, where its block states a name of its own
abbrev pub table_name : Asked → List ℕ → List ℕ → List ℕ
table_name asked file own = name_of_table asked.prefix file own

-- the name of the file of its bytes as an array of C
abbrev pub c_text_name : Asked → List ℕ → List ℕ → List ℕ
c_text_name asked file own = further_name asked.prefix file own (codes ".hex")

-- the name of the file of the source's lines with their bytes
abbrev pub listing_name : Asked → List ℕ → List ℕ → List ℕ
listing_name asked file own = further_name asked.prefix file own (codes ".lst")

-- what is put of the pieces of a table beside it, each where it is asked for: its bytes as an array of C, and its listing
abbrev pub further_files : Asked → List ℕ → List ℕ → List Piece → List Named
further_files asked file own pieces =
    cond asked.switches.c_text ((c_text_name asked file own, c_text (table_bytes pieces)) ∷ []) []
    ++ cond asked.switches.listing ((listing_name asked file own, listed_pieces 0 pieces) ∷ []) []

-- the files of a table in pieces, in the order of their putting
abbrev pub table_files : Asked → List ℕ → List ℕ → List Piece → List Named
table_files asked file own pieces = (table_name asked file own, table_bytes pieces) ∷ further_files asked file own pieces
