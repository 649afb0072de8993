-- Messages that stand in files that there are.
use Rattle.std.proofs.Common.{ℕ, ◌<◌, List, ◌++◌}
use Rattle.std.specs.List.Sorted.{IsPermutation}
use Rattle.std.proofs.lemmas.List.Sorted.{All-permutation}
use Rattle.std.specs.Prelude.{not}
use Rattle.std.proofs.lemmas.List.Elements.{All-append, All-filter}
use Rattle.iasl_messages.specs.declared.message.Message.{Message}
use Rattle.iasl_messages.specs.Severity.{severity_of}
use Rattle.iasl_options.specs.declared.switches.Switches.{Switches}
use Rattle.asl_tables.specs.Compiled.{AreWithin}
use Rattle.iasl_tool.specs.Told.{is_ignored, counted, is_told, shown}

pub sorted_within : (files : ℕ) (messages sorted : List Message) → IsPermutation messages sorted → AreWithin files messages → AreWithin files sorted
sorted_within files messages sorted p h = All-permutation (λ (m : Message). m.place.file < files) messages sorted p h

pub both_within : (files : ℕ) (first second : List Message) → AreWithin files first → AreWithin files second → AreWithin files (first ++ second)
both_within files first second h k = All-append (λ (m : Message). m.place.file < files) first second h k

pub counted_within : (files : ℕ) (ignored : List (List ℕ)) (messages : List Message) → AreWithin files messages → AreWithin files (counted ignored messages)
counted_within files ignored messages h = All-filter (λ (m : Message). not (is_ignored ignored m.number)) (λ (m : Message). m.place.file < files) messages h

pub shown_within : (files : ℕ) (switches : Switches) (messages : List Message) → AreWithin files messages → AreWithin files (shown switches messages)
shown_within files switches messages h = All-filter (λ (m : Message). is_told switches (severity_of m.number)) (λ (m : Message). m.place.file < files) messages h
