-- What the words of a call ask for.
use Rattle.std.specs.Prelude.{◌≡◌, ℕ, Bool, true, ◌==◌, ◌||◌, cond, List, [], ◌∷◌, codes, Some, None}
use Rattle.std.specs.declared.option.Option.{Option}
use Rattle.std.specs.Str.{bytes_eq}
use Rattle.acpi_extract.specs.Dump.{stem_of}

-- the tables of code, which are the DSDTs and SSDTs; all tables; a list of all tables, with no file; or the
-- tables of one signature
pub data Asked : Type 0 where
  Code : Asked
  Every : Asked
  Listing : Asked
  One : List ℕ → Asked

pub record Request : Type 0 where
  pub asked : Asked
  pub file : List ℕ

-- a file's name is not empty and does not begin with `-`
abbrev pub for_file : Asked → List ℕ → Option Request
for_file asked [] = None
for_file asked (c ∷ cs) = cond (c == 45) None (Some (record { asked = asked; file = c ∷ cs }))

-- `-a` and `-l`, before the file
abbrev pub with_option : List ℕ → List ℕ → Option Request
with_option option file = cond (bytes_eq option (codes "-a")) (for_file Every file)
    (cond (bytes_eq option (codes "-l")) (for_file Listing file) None)

-- `-s` and a signature that is not empty, before the file
abbrev pub with_signature : List ℕ → List ℕ → List ℕ → Option Request
with_signature option [] file = None
with_signature option (c ∷ cs) file = cond (bytes_eq option (codes "-s")) (for_file (One (c ∷ cs)) file) None

-- The words are good where they are FILE, `-a` FILE, `-l` FILE or `-s` SIGNATURE FILE.
abbrev pub request_of : List (List ℕ) → Option Request
request_of [] = None
request_of (file ∷ []) = for_file Code file
request_of (option ∷ file ∷ []) = with_option option file
request_of (option ∷ signature ∷ file ∷ []) = with_signature option signature file
request_of (_ ∷ _ ∷ _ ∷ _ ∷ _) = None

-- a table of this signature is asked for; letters of either case count as one, and `RSD PTR` as `RSDP`
abbrev pub is_asked : Asked → List ℕ → Bool
is_asked Code signature = bytes_eq (stem_of signature) (codes "dsdt") || bytes_eq (stem_of signature) (codes "ssdt")
is_asked Every signature = true
is_asked Listing signature = true
is_asked (One asked) signature = bytes_eq (stem_of asked) (stem_of signature)

-- a file's name as a command line has it: it is not empty and does not begin with `-`
pub data IsFileName : List ℕ → Type 0 where
  begins : (c : ℕ) (cs : List ℕ) → (c ≡ 45 → ⊥) → IsFileName (c ∷ cs)

-- The words are a command line that asks for these tables of this file: FILE, `-a` FILE, `-l` FILE, or `-s` SIGNATURE
-- FILE with a signature that is not empty.
pub data IsCommandLine : List (List ℕ) → Asked → List ℕ → Type 0 where
  of_code : (file : List ℕ) → IsFileName file → IsCommandLine (file ∷ []) Code file
  of_every : (file : List ℕ) → IsFileName file → IsCommandLine (codes "-a" ∷ file ∷ []) Every file
  of_list : (file : List ℕ) → IsFileName file → IsCommandLine (codes "-l" ∷ file ∷ []) Listing file
  of_one : (c : ℕ) (cs file : List ℕ) → IsFileName file → IsCommandLine (codes "-s" ∷ (c ∷ cs) ∷ file ∷ []) (One (c ∷ cs)) file
