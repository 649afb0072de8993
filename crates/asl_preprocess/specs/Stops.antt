-- What a call that gives nothing tells.
use Rattle.std.specs.Prelude.{◌≡◌, ℕ, ◌<◌, List, [], ◌∷◌, length, ⊤}
use Rattle.iasl_ports.specs.Counts.{Rose}
use Rattle.iasl_ports.specs.declared.files.FetchFault.{FetchFault}
use Rattle.iasl_ports.specs.declared.files.FetchFault.TheVariants as fetch
use Rattle.iasl_messages.specs.declared.message.Message.{Message}
use Rattle.asl_preprocess.specs.declared.main_file.PreStop.{PreStop}
use Rattle.asl_preprocess.specs.declared.main_file.PreStop.TheVariants as by
use Rattle.asl_preprocess.specs.declared.stop.ReadingStop.{ReadingStop}
use Rattle.asl_preprocess.specs.declared.stop.ReadingStop.TheVariants.{At, ReadFault, Memory}
use Rattle.asl_preprocess.specs.Preprocess.{Preprocessed, Stopped, Absent, too_large_main}

-- exactly what the main file comes to; nothing is said where a file could not be read or memory is wanting
abbrev pub IsStop : PreStop → Preprocessed → Type 0
IsStop (by.Refused message files) it = it ≡ Stopped message files
IsStop by.Absent it = it ≡ Absent
IsStop by.ReadFault it = ⊤
IsStop by.Memory it = ⊤

-- a message stands in a file that was fetched
abbrev pub HasPlace : PreStop → Type 0
HasPlace (by.Refused message files) = message.place.file < length files
HasPlace by.Absent = ⊤
HasPlace by.ReadFault = ⊤
HasPlace by.Memory = ⊤

-- what the counts of faults and of absent files say; want of memory does not take the place of a file that could not be read
abbrev pub Causes : PreStop → ℕ → ℕ → ℕ → ℕ → Type 0
Causes (by.Refused message files) faults faults' absents absents' = faults' ≡ faults
Causes by.Absent faults faults' absents absents' = (faults' ≡ faults) × Rose absents absents'
Causes by.ReadFault faults faults' absents absents' = Rose faults faults'
Causes by.Memory faults faults' absents absents' = faults' ≡ faults

-- the same where the main file was fetched
abbrev pub MainCauses : PreStop → ℕ → ℕ → Type 0
MainCauses (by.Refused message files) faults faults' = faults' ≡ faults
MainCauses by.Absent faults faults' = ⊥
MainCauses by.ReadFault faults faults' = Rose faults faults'
MainCauses by.Memory faults faults' = faults' ≡ faults

-- this message and these files
abbrev pub Keeps : PreStop → Message → List (List ℕ) → Type 0
Keeps (by.Refused told names) message files = (told ≡ message) × (names ≡ files)
Keeps by.Absent message files = ⊥
Keeps by.ReadFault message files = ⊥
Keeps by.Memory message files = ⊤

-- what the early end of the reading comes to, where these files were fetched
abbrev pub EndsWith : PreStop → ReadingStop → List (List ℕ) → Type 0
EndsWith stop (At message) files = Keeps stop message files
EndsWith stop ReadFault files = stop ≡ by.ReadFault
EndsWith stop Memory files = stop ≡ by.Memory

-- what a main file of this name comes to that was not fetched
abbrev pub LacksMain : PreStop → FetchFault → List ℕ → Type 0
LacksMain stop fetch.Absent name = stop ≡ by.Absent
LacksMain stop fetch.TooLarge name = Keeps stop too_large_main (name ∷ [])
LacksMain stop fetch.Failed name = stop ≡ by.ReadFault
LacksMain stop fetch.Memory name = stop ≡ by.Memory
