-- What an answer tells of the grammar of dumps.
use Rattle.std.proofs.Common.{◌≡◌, ℕ, List, map, Result, Ok, Err, refl, subst}
use Rattle.std.specs.Prelude.{IfOk, IfErr}
use Rattle.iasl_messages.specs.declared.message.Message.{Message}
use Rattle.iasl_messages.specs.declared.message.Stage.{Stage}
use Rattle.iasl_messages.specs.declared.message.Stage.TheVariants.{Refused, Memory}
use Rattle.iasl_messages.specs.Cut.{lines_of}
use Rattle.acpi_extract.specs.declared.table.Table.{Table}
use Rattle.acpi_extract.specs.Dump.{Dumped, Fault, dump_of}
use Rattle.acpi_extract.specs.Table.{dumped, Refuses, Answers}
use Rattle.acpi_extract.specs.Grammar.{IsDump, HasFault, Explains}
use Rattle.acpi_extract.proofs.GrammarLaws.{tables_are_the_grammars, fault_is_the_grammars}

pub is_found : (text : List ℕ) (r : Result (List Table) Stage) → Answers r (dump_of text) → IfOk r (λ tables. IsDump (lines_of text) (map dumped tables))
is_found text (Ok tables) h = (tables_are_the_grammars text (map dumped tables)).0 h
is_found text (Err stage) h = tt

pub is_only : (text : List ℕ) (r : Result (List Table) Stage) → Answers r (dump_of text) → (others : List Dumped) → IsDump (lines_of text) others → Answers r (Ok others)
is_only text r h others dump = subst (Answers r) ((tables_are_the_grammars text others).1 dump) h

explained : (text : List ℕ) (messages : List Message) (answer : Result (List Dumped) Fault) → dump_of text ≡ answer → Refuses (Refused messages) answer → Explains (Refused messages) (lines_of text)
explained text messages (Ok tables) e h = absurd h
explained text messages (Err fault) e h = (fault, h, (fault_is_the_grammars text fault).0 e)

pub is_fault : (text : List ℕ) (r : Result (List Table) Stage) → Answers r (dump_of text) → IfErr r (λ stage. Explains stage (lines_of text))
is_fault text (Ok tables) h = tt
is_fault text (Err (Refused messages)) h = explained text messages (dump_of text) refl h
is_fault text (Err Memory) h = tt

pub is_first : (text : List ℕ) (r : Result (List Table) Stage) → Answers r (dump_of text) → (fault : Fault) → HasFault 1 (lines_of text) fault → Answers r (Err fault)
is_first text r h fault has = subst (Answers r) ((fault_is_the_grammars text fault).1 has) h

-- the two halves of an answer
pub is_read : (text : List ℕ) (r : Result (List Table) Stage) → Answers r (dump_of text) → IfOk r (λ tables. dump_of text ≡ Ok (map dumped tables))
is_read text (Ok tables) h = h
is_read text (Err stage) h = tt

pub is_refused : (text : List ℕ) (r : Result (List Table) Stage) → Answers r (dump_of text) → IfErr r (λ stage. Refuses stage (dump_of text))
is_refused text (Ok tables) h = tt
is_refused text (Err stage) h = h
