-- What the code's search tells of the definition's.
use Rattle.std.specs.Prelude.{◌≡◌, ◌≤◌, ℕ, List, [], length, ⊤, Option, Some, None}
use Rattle.std.specs.Option.{ForSome}
use Rattle.iasl_ports.specs.Counts.{Rose}
use Rattle.iasl_ports.specs.Gained.{Named}
use Rattle.iasl_messages.specs.declared.message.Message.{Message}
use Rattle.asl_preprocess.specs.declared.directives.Wanted.{Wanted}
use Rattle.asl_preprocess.specs.State.{at, message_at}
use Rattle.iasl_ports.specs.Fetched.{most_bytes}
use Rattle.asl_preprocess.specs.declared.stop.ReadingStop.{ReadingStop}
use Rattle.asl_preprocess.specs.declared.stop.ReadingStop.TheVariants.{At, ReadFault, Memory}
use Rattle.asl_preprocess.specs.declared.search.SearchResult.{SearchResult as SearchResultByCode}
use Rattle.asl_preprocess.specs.declared.search.SearchResult.TheVariants as by
use Rattle.asl_preprocess.specs.Search.{SearchResult, Missing, Large, Whole}

abbrev pub found_by : SearchResultByCode → SearchResult
found_by by.Missing = Missing
found_by by.Large = Large
found_by (by.Whole name bytes) = Whole name bytes.items

-- what was found, or what the names behind come to
abbrev pub found_or_rest : Option SearchResultByCode → SearchResult → SearchResult
found_or_rest None rest = rest
found_or_rest (Some found) rest = found_by found

-- a file that was found has at most 16 MiB
abbrev pub FoundHasRoom : SearchResultByCode → Type 0
FoundHasRoom by.Missing = ⊤
FoundHasRoom by.Large = ⊤
FoundHasRoom (by.Whole name bytes) = length bytes.items ≤ most_bytes

abbrev pub HasRoom : Option SearchResultByCode → Type 0
HasRoom None = ⊤
HasRoom (Some found) = FoundHasRoom found

-- a search ends early only for a file that could not be read, or for want of memory, where none was so
abbrev pub SearchStops : ReadingStop → ℕ → ℕ → Type 0
SearchStops (At message) before now = ⊥
SearchStops ReadFault before now = Rose before now
SearchStops Memory before now = now ≡ before

-- what a search for an included file that finds none refuses
abbrev pub RefusesFound : Message → Wanted → SearchResult → Type 0
RefusesFound message wanted Missing = message ≡ message_at 6001 wanted.place wanted.name
RefusesFound message wanted Large = message ≡ message_at 6007 (at wanted.place.file wanted.place.line 1) []
RefusesFound message wanted (Whole name bytes) = ⊥

-- a refusal in the same file, with the same names of files
abbrev pub SeekStops : ReadingStop → Wanted → List (List ℕ) → List (List ℕ) → Option (List Named) → (List Named → SearchResult) → Type 0
SeekStops (At message) wanted old new contents found =
    (message.place.file ≡ wanted.place.file) × (new ≡ old) × ForSome contents (λ told. RefusesFound message wanted (found told))
SeekStops ReadFault wanted old new contents found = ⊤
SeekStops Memory wanted old new contents found = ⊤
